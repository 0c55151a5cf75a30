-- What is due of publish, of one session or of a set: a refusal, or an end for sessions that are all below M and sealed.
use Prim.Native.Nat.{ℕ, ◌<◌}
use mathlib.Core.Path.{◌≡◌, refl}
use mathlib.Core.Bool.{Bool, true, false, cond, not, false≢true}
use lib.Dec.{T, eqb, leb, nleb→lt}
use borrow.Author.Tests.{eqb-true}
use Rattle.layout.specs.Below.{all_below, any_below}
use Rattle.layout.proofs.Says.{says_all, says_then, says-itself, says-lt}
use Rattle.desk.specs.Group.{member}
use Rattle.desk.proofs.GroupDesk.{member-small}
use Rattle.history.specs.Call.{publish, group}
use Rattle.history.specs.Desk.{Session, idle, active, sealed, published, Desk}
use Rattle.history.specs.Due.{Due, refuse, ends, publishes, is_sealed, low_in, sealed_in, due_of}
use Rattle.history.specs.History.{History}

abbrev pub Sealed : Session → Type 0
Sealed idle = ⊥
Sealed (active b q cs) = ⊥
Sealed (sealed n q cs) = Unit {0}
Sealed (published e q cs) = ⊥

is-sealed : (x : Session) → is_sealed x ≡ true → Sealed x
is-sealed idle e = absurd (false≢true e)
is-sealed (active b q cs) e = absurd (false≢true e)
is-sealed (sealed n q cs) e = tt
is-sealed (published f q cs) e = absurd (false≢true e)

-- each session that passes the test is below M and sealed
abbrev pub Members : ℕ → Desk → (ℕ → Bool) → Type 0
Members M d p = (u : ℕ) → p u ≡ true → (u < M) × Sealed (d.session u)

module _ (N M : ℕ) (f : ℕ → ℕ) (w : ℕ) (d : Desk) (h : History) (P : Due → Type 0) (turned : (k : ℕ) → eqb k 7 ≡ false → P (refuse k)) where
  pub publish-due : (len s : ℕ) → (Members M d (λ u. eqb u s) → P (ends d.clock w)) → P (due_of N M f w d h (publish len s))
  publish-due len s ended = go (leb 48 len) (leb M s) (nleb→lt M s) (d.session s) refl
    where
      go : (a b : Bool) → (T (not b) → s < M) → (x : Session) → d.session s ≡ x → P (cond a (cond b (refuse 4) (publishes d.clock w x)) (refuse 3))
      go false b l x q = turned 3 refl
      go true true l x q = turned 4 refl
      go true false l idle q = turned 6 refl
      go true false l (active b p cs) q = turned 6 refl
      go true false l (sealed n p cs) q = ended (λ u y. let z : u ≡ s = eqb-true u s y in rw (z, q) (l tt, tt))
      go true false l (published m p cs) q = turned 6 refl

  pub group-due : (len set : ℕ) → (Members M d (λ u. member u set) → P (ends d.clock w)) → P (due_of N M f w d h (group len set))
  group-due len set ended = go (leb 48 len) (any_below 16 (λ u. member u set)) (all_below 16 (low_in M set)) refl (all_below 16 (sealed_in d set)) refl
    where
      go : (a some low : Bool) → all_below 16 (low_in M set) ≡ low → (ready : Bool) → all_below 16 (sealed_in d set) ≡ ready
          → P (cond a (cond some (cond low (cond ready (ends d.clock w) (refuse 6)) (refuse 4)) (refuse 19)) (refuse 3))
      go false some low y ready z = turned 3 refl
      go true false low y ready z = turned 19 refl
      go true true false y ready z = turned 4 refl
      go true true true y false z = turned 6 refl
      go true true true y true z = ended (λ u m. let small = member-small u set m in (
        (says_all 16 (λ v. says_then (says-itself (member v set)) (says-lt v M))).yes y u small m,
        is-sealed (d.session u) ((says_all 16 (λ v. says_then (says-itself (member v set)) (says-itself (is_sealed (d.session v))))).yes z u small m),
      ))
