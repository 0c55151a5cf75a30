-- The change of each record.
use Rattle.std.specs.Prelude.{Some, None}
use Rattle.std.proofs.lemmas.Option.{none-some, same_Some}
use Prim.Native.Nat.{ℕ, ◌-◌, ◌≤◌}
use mathlib.Core.Path.{◌≡◌, sym, ap, ◌∙◌, subst}
use mathlib.Core.Bool.{true, false}
use mathlib.Core.List.{List}
use Rattle.layout.specs.Image.{home_words}
use Rattle.layout.proofs.Says.{by-test}
use Rattle.reels.specs.Reel.{reel_of}
use Rattle.report.specs.Lines.{change_of}
use Rattle.report.specs.Report.{reel_b}
use Rattle.reels.specs.declared.reel.Reel.{Reel}
use Rattle.report.specs.Changes.{counted_as, change_at}
use Rattle.report.specs.declared.line.Change.{Change}
use Rattle.report.specs.declared.counting.RecordKind.TheVariants.{Reel as OnReel}
use Rattle.report.proofs.Counted.{carrier-known, as-reel, no-reel}

module _ (img : List ℕ) (n : ℕ) where
  pub change-reel : reel_b (home_words img n) ≡ true
      → change_at img n ≡ Some (change_of ((reel_of (home_words img n)).carrier - 1) 1 1 (reel_of (home_words img n)).seconds)
  unfolding change_at
  change-reel e = rw e

  pub reel_changes : (r : Reel) → counted_as (home_words img n) ≡ OnReel r → Some (change_of (r.carrier - 1) 1 1 r.seconds) ≡ change_at img n
  reel_changes r e =
      let k = as-reel (home_words img n) r e in
      ap (λ (x : Reel). Some (change_of (x.carrier - 1) 1 1 x.seconds)) k.0 ∙ sym (change-reel k.2)

  pub change-none : reel_b (home_words img n) ≡ false → change_at img n ≡ None
  unfolding change_at
  change-none e = rw e

  -- a record that makes a change is a reel's
  pub by-reel : (c : Change) → change_at img n ≡ Some c
      → (reel_b (home_words img n) ≡ true) × (c ≡ change_of ((reel_of (home_words img n)).carrier - 1) 1 1 (reel_of (home_words img n)).seconds)
  by-reel c e =
      by-test (reel_b (home_words img n))
      (λ y. (y, same_Some _ _ (sym e ∙ change-reel y)))
      (λ f. absurd (none-some _ (sym (change-none f) ∙ e)))

  pub by-none : change_at img n ≡ None → reel_b (home_words img n) ≡ false
  by-none e = by-test (reel_b (home_words img n)) (λ y. absurd (none-some _ (sym e ∙ change-reel y))) (λ f. f)

  pub other_stays : ((r : Reel) → counted_as (home_words img n) ≡ OnReel r → ⊥) → None ≡ change_at img n
  other_stays h = sym (change-none (no-reel (home_words img n) h))

pub reel_carrier : (ws : List ℕ) (r : Reel) → counted_as ws ≡ OnReel r → 1 ≤ r.carrier
reel_carrier ws r e = let k = as-reel ws r e in subst (λ (x : Reel). 1 ≤ x.carrier) (sym k.0) (carrier-known ws k.2).0
