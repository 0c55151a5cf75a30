-- The coherence check, pass by pass: what is answered at each end.
use Prim.Native.Nat.{ℕ, ◌+◌, ◌<◌, ◌≤◌}
use mathlib.Core.Bool.{Bool, true, false, ◌&&◌, cond}
use mathlib.Core.List.{List}
use mathlib.Core.Path.{◌≡◌, sym, ap, ◌∙◌}
use native.Mathlib.Omega.{arith}
use lib.Dec.{leb}
use lib.ListN.{length}
use borrow.Author.Tests.{le-leb, lt-leb}
use Rattle.std.specs.Prelude.{Option, Some, None, is_some, ◌==◌}
use Rattle.std.specs.List.{list_all}
use Rattle.std.specs.Bool.{then_some}
use Rattle.layout.specs.Below.{all_below, count_below}
use Rattle.layout.proofs.BelowLaws.{count_most}
use Rattle.layout.proofs.ListLaws.{list-all}
use Rattle.layout.proofs.Says.{by-test}
use Rattle.desk.specs.declared.state.Desk.{Desk}
use Rattle.desk.specs.declared.coherence.Struck.{Struck}
use Rattle.desk.specs.Desk.{no_session, active_at, active_count}
use Rattle.desk.specs.Coherent.{limit, sealed_at, coherent_b, census_of}
use Rattle.desk.specs.Strike.{struck_below, entry_passes_at, quiet_b, quiet_at, zero_at, sizes_pass, list_passes, coherent_by_striking}
use Rattle.desk.specs.Struck.{struck_copies, struck_list}
use Rattle.desk.proofs.Sizes.{says-sizes-pass}
use Rattle.desk.proofs.Struck.{sound-coherent}

-- 1 of an answer, 0 of none
abbrev answers : {A : Type 0} → Option A → ℕ
answers None = 0
answers (Some x) = 1

abbrev given_or : {A : Type 0} → A → Option A → A
given_or x None = x
given_or x (Some y) = y

-- by a test x is answered, or nothing
module _ {A : Type 0} (b : Bool) (x : A) where
  then-some : then_some b x ≡ cond b (Some x) None
  then-some = by-test b (λ t. rw t) (λ f. rw f)

  passing : b ≡ true → cond b (Some x) None ≡ Some x
  passing t = rw t

  failing : b ≡ false → cond b (Some x) None ≡ None
  failing f = rw f

  cond-none : None ≡ cond b (Some x) None → b ≡ false
  cond-none e = by-test b (λ t. let z : ◌≡◌ {A = ℕ} 0 1 = ap answers (e ∙ passing t) in absurd (omega (arith, z))) (λ f. f)

  cond-some : {y : A} → Some y ≡ cond b (Some x) None → (b ≡ true) × (y ≡ x)
  cond-some {y} e =
      by-test b (λ t. (t, ap (given_or y) (e ∙ passing t))) (λ f. let z : ◌≡◌ {A = ℕ} 1 0 = ap answers (e ∙ failing f) in absurd (omega (arith, z)))

-- nothing is left of some numbers
zeros-are : (n : ℕ) (l : List ℕ) → length l ≡ n → list_all (λ x. x == 0) l ≡ all_below n (zero_at l)
zeros-are n l e = list-all (λ x. x == 0) l 0 ∙ ap (λ (k : ℕ). all_below k (zero_at l)) e

module _ (d : Desk) where
  -- a desk that is not coherent
  refused : coherent_by_striking d ≡ false → None ≡ census_of d
  unfolding census_of
  refused e = rw (← sound-coherent d, e)

  -- the sizes are in range, and the idle sessions have nothing
  pub record Begun : Type 0 where
    pub sizes : sizes_pass d ≡ true
    pub idles : all_below 16 (quiet_at d) ≡ true

  -- the sessions have passed: what they leave of the holders, and how many are active, and sealed
  pub record Walked (k : Struck) : Type 0 where
    pub begun : Begun
    pub busy : all_below 16 (entry_passes_at d) ≡ true
    pub marks : k.marks ≡ struck_below d 16
    pub actives : k.active ≡ active_count d
    pub seals : k.sealed ≡ count_below 16 (sealed_at d)

  pub sizes-fail : sizes_pass d ≡ false → None ≡ census_of d
  unfolding coherent_by_striking
  sizes-fail e = refused (rw e)

  idles-are : length d.sessions ≡ 16 → list_all quiet_b d.sessions ≡ all_below 16 (quiet_at d)
  idles-are n = list-all quiet_b d.sessions no_session ∙ ap (λ (k : ℕ). all_below k (quiet_at d)) n

  pub idles-fail : length d.sessions ≡ 16 → sizes_pass d ≡ true → list_all quiet_b d.sessions ≡ false → None ≡ census_of d
  unfolding coherent_by_striking
  idles-fail n s e = refused (rw (s, sym (idles-are n) ∙ e))

  pub begins : length d.sessions ≡ 16 → sizes_pass d ≡ true → list_all quiet_b d.sessions ≡ true → Begun
  begins n s e = record { sizes = s; idles = sym (idles-are n) ∙ e }

  pub copies-fail : Begun → None ≡ struck_copies d → None ≡ census_of d
  unfolding coherent_by_striking struck_copies
  copies-fail b e = refused (rw (b.sizes, b.idles, cond-none (all_below 16 (entry_passes_at d)) _ e))

  pub walked : {k : Struck} → Begun → Some k ≡ struck_copies d → Walked k
  unfolding struck_copies
  walked b e =
      let h = cond-some (all_below 16 (entry_passes_at d)) _ e in
      record {
        begun = b;
        busy = h.0;
        marks = ap (λ (k : Struck). k.marks) h.1;
        actives = ap (λ (k : Struck). k.active) h.1;
        seals = ap (λ (k : Struck). k.sealed) h.1;
      }

  module _ {k : Struck} (w : Walked k) where
    pub clock-fits : d.clock + k.sealed ≤ limit + 32
    clock-fits = omega (arith, w.seals, count_most (sealed_at d) 16, ((says-sizes-pass d).yes w.begun.sizes).0.0.1)

    pub actives-few : k.active ≤ 16
    actives-few = omega (arith, w.actives, count_most (active_at d) 16)

    pub clock-fails : limit + 16 < d.clock + k.sealed → None ≡ census_of d
    unfolding coherent_by_striking
    clock-fails l = refused (rw (w.begun.sizes, w.begun.idles, w.busy, lt-leb _ _ (rw w.seals at l)))

    module _ (l : d.clock + k.sealed ≤ limit + 16) where
      clock : leb (d.clock + count_below 16 (sealed_at d)) (limit + 16) ≡ true
      clock = le-leb _ _ (rw w.seals at l)

      pub list-fails : None ≡ struck_list d k.active → None ≡ census_of d
      unfolding coherent_by_striking struck_list
      list-fails e =
          refused (rw (w.begun.sizes, w.begun.idles, w.busy, clock, cond-none (all_below (active_count d) (list_passes d.sessions d.order)) _ (rw w.actives at e)))

      -- what is left decides
      decides : {left : List ℕ} → Some left ≡ struck_list d k.active → (all_below 256 (zero_at k.marks) && all_below 16 (zero_at left)) ≡ coherent_by_striking d
      unfolding coherent_by_striking struck_list
      decides e =
          let h = cond-some (all_below (active_count d) (list_passes d.sessions d.order)) _ (rw w.actives at e) in
          rw (w.begun.sizes, w.begun.idles, w.busy, clock, h.0, w.marks, h.1)

      pub census-is : {left : List ℕ} → length k.marks ≡ 256 → length left ≡ 16 → Some left ≡ struck_list d k.active
          → then_some (list_all (λ x. x == 0) k.marks && list_all (λ x. x == 0) left) k.active ≡ census_of d
      unfolding census_of
      census-is {left} m n e = then-some _ _ ∙ rw (zeros-are 256 k.marks m, zeros-are 16 left n, decides e, sound-coherent d, w.actives)

-- ---- what is found of a desk

-- none just where it is not coherent
pub census-coherent : (d : Desk) → is_some (census_of d) ≡ coherent_b d
unfolding census_of
census-coherent d = by-test (coherent_b d) (λ t. rw t) (λ f. rw f)

pub census-none : (d : Desk) → None ≡ census_of d → coherent_b d ≡ false
unfolding census_of
census-none d e = cond-none (coherent_b d) (active_count d) e

-- else how many sessions are active
pub census-some : (d : Desk) {k : ℕ} → Some k ≡ census_of d → (coherent_b d ≡ true) × (k ≡ active_count d)
unfolding census_of
census-some d e = cond-some (coherent_b d) (active_count d) e

pub census-counts : (d : Desk) → coherent_b d ≡ true → census_of d ≡ Some (active_count d)
unfolding census_of
census-counts d h = rw h
