-- The first c of some copies, as a list of their own, are changed, written and sent home as the first c of all.
use Prim.Native.Nat.{ℕ, zero, suc, ◌<◌, ◌≤◌}
use mathlib.Core.Path.{◌≡◌, refl, sym, ap, ◌∙◌}
use mathlib.Core.List.{List}
use native.Mathlib.Omega.{arith}
use lib.ListN.{length, take}
use Rattle.std.proofs.lemmas.List.{length-take, get_or-take}
use Rattle.layout.specs.Entries.{Write}
use Rattle.layout.specs.Homes.{homes_writes, Differ}
use Rattle.layout.proofs.Groups.{homes_same}
use Rattle.layout.proofs.Says.{by-test}
use Rattle.desk.specs.Desk.{no_copy}
use Rattle.desk.specs.declared.state.RecordCopy.{RecordCopy}
use Rattle.journal.specs.Changes.{changes_below, Gathered}
use Rattle.journal.specs.Copies.{rec_in, words_in}
use Rattle.journal.specs.Log.{body_writes, shorter_b, either_body}
use Rattle.journal.proofs.ChangesLaws.{changes-same}

body-same : (rec rec' : ℕ → ℕ) (words words' : ℕ → List ℕ) (c k : ℕ) → ((j : ℕ) → j < k → (rec j ≡ rec' j) × (words j ≡ words' j))
    → body_writes rec words c k ≡ body_writes rec' words' c k
unfolding body_writes
body-same rec rec' words words' c zero h = refl
body-same rec rec' words words' c (suc k) h =
    rw (body-same rec rec' words words' c k (λ j l. h j (omega arith)), (h k (omega arith)).0, (h k (omega arith)).1) refl

module _ (copies : List RecordCopy) (c : ℕ) (room : c ≤ length copies) where
  pub taken-length : length (take c copies) ≡ c
  taken-length = omega (arith, room, length-take c copies)

  pub taken-rec : (j : ℕ) → j < c → rec_in (take c copies) j ≡ rec_in copies j
  taken-rec j l = ap (λ (x : RecordCopy). x.rec) (get_or-take c copies j no_copy l)

  taken-words : (j : ℕ) → j < c → words_in (take c copies) j ≡ words_in copies j
  taken-words j l = ap (λ (x : RecordCopy). x.words) (get_or-take c copies j no_copy l)

  pub taken-differ : Differ (rec_in copies) c → Differ (rec_in (take c copies)) (length (take c copies))
  taken-differ d i j l m e =
      let n : j < c = omega (arith, m, taken-length) in
      let k : i < c = omega (arith, l, n) in
      d i j l n (sym (taken-rec i k) ∙ e ∙ taken-rec j n)

  pub taken-changes : (home : ℕ → List ℕ) (n : ℕ)
      → changes_below home (rec_in (take c copies)) (words_in (take c copies)) (length (take c copies)) n ≡ changes_below home (rec_in copies) (words_in copies) c n
  taken-changes home n =
      ap (λ k. changes_below home (rec_in (take c copies)) (words_in (take c copies)) k n) taken-length
      ∙ changes-same home home _ _ _ _ c taken-rec taken-words (λ j w l m. refl) n

  pub taken-body : (index word : ℕ → ℕ) (k : ℕ)
      → either_body index word k (rec_in (take c copies)) (words_in (take c copies)) (length (take c copies)) ≡ either_body index word k (rec_in copies) (words_in copies) c
  taken-body index word k =
      ap (either_body index word k (rec_in (take c copies)) (words_in (take c copies))) taken-length
      ∙ by-test (shorter_b k c)
      (λ t. rw t refl)
      (λ f. rw f (body-same _ _ _ _ c c (λ j l. (taken-rec j l, taken-words j l))))

  pub taken-homes : homes_writes (rec_in (take c copies)) (words_in (take c copies)) (length (take c copies)) ≡ homes_writes (rec_in copies) (words_in copies) c
  taken-homes =
      ap (homes_writes (rec_in (take c copies)) (words_in (take c copies))) taken-length
      ∙ homes_same _ _ _ _ c (λ j l. (taken-rec j l, taken-words j l))

  pub taken-gathered : (home : ℕ → List ℕ) (n : ℕ) {found : List Write}
      → Gathered (changes_below home (rec_in (take c copies)) (words_in (take c copies)) (length (take c copies)) n) (length (take c copies)) found
      → Gathered (changes_below home (rec_in copies) (words_in copies) c n) c found
  taken-gathered home n g = rw (taken-changes home n, taken-length) at g
