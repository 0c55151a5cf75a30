-- What was gathered is written as the log of the copies.
use Prim.Native.Nat.{ℕ}
use mathlib.Core.Path.{◌≡◌, refl, sym, ◌∙◌}
use mathlib.Core.List.{List}
use lib.ListN.{length}
use Rattle.layout.specs.Entries.{Write}
use Rattle.layout.proofs.Says.{by-test}
use Rattle.journal.specs.Changes.{Gathered}
use Rattle.journal.specs.Lengths.{seal_length}
use Rattle.journal.specs.Log.{shorter_b, either_body, index_in, word_in}

module _ {ws : List Write} {c : ℕ} {found : List Write} where
  pub gathered-body : (rec : ℕ → ℕ) (words : ℕ → List ℕ) → Gathered ws c found
      → either_body (index_in found) (word_in found) (length found) rec words c ≡ either_body (index_in ws) (word_in ws) (length ws) rec words c
  gathered-body rec words g =
      by-test (shorter_b (length found) c)
      (λ t. rw (g.noted t) refl)
      (λ f. rw (f, sym g.same ∙ f) refl)

  pub gathered-length : Gathered ws c found → seal_length (length found) c ≡ seal_length (length ws) c
  unfolding seal_length
  gathered-length g =
      by-test (shorter_b (length found) c)
      (λ t. rw (g.noted t) refl)
      (λ f. rw (f, sym g.same ∙ f) refl)
