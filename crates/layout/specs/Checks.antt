-- How a call refuses (document 01, "What is turned away"): its checks are made lowest number first, and the first that fails gives the
-- number.
use Rattle.std.specs.Prelude.{ℕ, zero, suc, Bool, cond, leb}

-- one check: the refusal's number unless the test holds; 0 is no refusal
abbrev pub unless : Bool → ℕ → ℕ
unless ok number = cond ok 0 number

-- the first of two runs of checks that refuses
unfoldable pub first : ℕ → ℕ → ℕ
first zero next = next
first (suc k) next = suc k

-- what a call gives: its refusal where the fault is not 0, else what it does
unfoldable pub answered : {A : Type 0} → ℕ → (ℕ → A) → A → A
answered zero refusal done = done
answered (suc k) refusal done = refusal (suc k)

-- check 3: a trace of 48 words or more
abbrev pub room_for : ℕ → Bool
room_for len = leb 48 len
