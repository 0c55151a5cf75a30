-- A function's clauses by name, from their proofs as a tuple.
pub count-image-trace : {A B C : Type 0} → A × (B × C) → record { count : A; image : B; trace : C }
count-image-trace (a, (b, c)) = record { count = a; image = b; trace = c }

pub answer-image-told : {A B C : Type 0} → A × (B × C) → record { answer : A; image : B; told : C }
answer-image-told (a, (b, c)) = record { answer = a; image = b; told = c }

pub reply-told : {A B : Type 0} → A × B → record { reply : A; told : B }
reply-told (a, b) = record { reply = a; told = b }

pub reply-image-trace : {A B C : Type 0} → A × (B × C) → record { reply : A; image : B; trace : C }
reply-image-trace (a, (b, c)) = record { reply = a; image = b; trace = c }

pub reply-image-trace-told : {A B C D : Type 0} → A × (B × (C × D)) → record { reply : A; image : B; trace : C; told : D }
reply-image-trace-told (a, (b, (c, d))) = record { reply = a; image = b; trace = c; told = d }
