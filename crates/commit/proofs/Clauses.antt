-- A function's clauses by name, from their proofs as a tuple.
pub count_bound-by_index : {A B : Type 0} → A × B → record { count_bound : A; by_index : B }
count_bound-by_index (a, b) = record { count_bound = a; by_index = b }
