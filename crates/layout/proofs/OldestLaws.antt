-- The search for the oldest, step by step.
use Prim.Native.Nat.{ℕ, suc}
use mathlib.Core.Path.{◌≡◌, refl}
use lib.Dec.{eqb, ltb}
use Rattle.layout.specs.declared.oldest.Oldest.{Oldest}
use Rattle.layout.specs.Oldest.{older, oldest_of, some_oldest, older_seen}
use Rattle.layout.proofs.Says.{by-test}

-- a step of the search is a step of the definition
pub older-seen : (o : Oldest) (n p : ℕ) → older_seen (some_oldest o) n p ≡ some_oldest (older o n p)
older-seen o n p =
    by-test (eqb n 0)
    (λ e. rw e refl)
    (λ e. by-test (eqb o.number 0) (λ z. rw (e, z, e) refl) (λ z. rw (e, z) (by-test (ltb n o.number) (λ l. rw (l, e) refl) (λ l. rw (l, z) refl))))

pub oldest-seen : (f : ℕ → ℕ) (k : ℕ) → older_seen (some_oldest (oldest_of f k)) (f k) k ≡ some_oldest (oldest_of f (suc k))
unfolding oldest_of
oldest-seen f k = older-seen (oldest_of f k) (f k) k
