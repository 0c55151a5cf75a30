-- A function's clauses by name, from their proofs as a tuple.
pub put-upper_bound : {A B : Type 0} → A × B → record { put : A; upper_bound : B }
put-upper_bound (a, b) = record { put = a; upper_bound = b }

pub text-size-image : {A B C : Type 0} → A × (B × C) → record { text : A; size : B; image : C }
text-size-image (a, (b, c)) = record { text = a; size = b; image = c }
