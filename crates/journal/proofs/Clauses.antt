-- A function's clauses by name, from their proofs as a tuple.
pub count_bound-by_index : {A B : Type 0} → A × B → record { count_bound : A; by_index : B }
count_bound-by_index (a, b) = record { count_bound = a; by_index = b }

pub did-upper_bound : {A B : Type 0} → A × B → record { did : A; upper_bound : B }
did-upper_bound (a, b) = record { did = a; upper_bound = b }

pub image-trace : {A B : Type 0} → A × B → record { image : A; trace : B }
image-trace (a, b) = record { image = a; trace = b }
