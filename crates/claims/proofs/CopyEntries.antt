-- The copies of a session as the desk's arrays have them and as a list: their home writes and their log are the same.
use Prim.Native.Nat.{ℕ, zero, suc, ◌≤◌, ◌<◌}
use mathlib.Core.Path.{◌≡◌, refl, sym, ap, ◌∙◌}
use mathlib.Core.List.{List, [], ◌∷◌}
use native.Mathlib.Omega.{arith}
use lib.ListN.{length, get_or}
use Rattle.layout.specs.Entries.{shift}
use Rattle.layout.specs.Homes.{homes_writes}
use Rattle.journal.specs.Log.{body_writes, log_entries}
use Rattle.journal.proofs.ChangesLaws.{changes-same}
use Rattle.desk.specs.Desk.{no_copy, copied_rec, copied_words}
use Rattle.desk.specs.declared.state.RecordCopy.{RecordCopy}
use Rattle.desk.specs.declared.state.Session.{Session}
use Rattle.history.specs.Desk.{Copy, rec_at, words_at, writes}
use Rattle.history.proofs.HomeWrites.{homes_same}
use Rattle.claims.proofs.Abstraction.{front, copies_of, length_front}

-- copy j of the first k places
front_at : (k : ℕ) (ps : List RecordCopy) (j : ℕ) → j < k → k ≤ length ps → get_or (front k ps) j (0, []) ≡ ((get_or ps j no_copy).rec, (get_or ps j no_copy).words)
front_at zero ps j l m = absurd (omega arith)
front_at (suc k) [] j l m = absurd (omega arith)
front_at (suc k) (p ∷ ps) zero l m = refl
front_at (suc k) (p ∷ ps) (suc j) l m = front_at k ps j (omega arith) (omega arith)

-- the body of a log looks at the places in use alone
body_same : (rec rec' : ℕ → ℕ) (words words' : ℕ → List ℕ) (c k : ℕ) → ((j : ℕ) → j < k → rec j ≡ rec' j) → ((j : ℕ) → j < k → words j ≡ words' j)
    → body_writes rec words c k ≡ body_writes rec' words' c k
unfolding body_writes
body_same rec rec' words words' c zero a b = refl
body_same rec rec' words words' c (suc k) a b =
    rw (body_same rec rec' words words' c k (λ j l. a j (omega arith)) (λ j l. b j (omega arith)), a k (omega arith), b k (omega arith)) refl

module _ (e : Session) (l : e.count ≤ length e.copies) where
  pub same-rec : (j : ℕ) → j < e.count → copied_rec e j ≡ rec_at (copies_of e) j
  same-rec j m = ap (λ (c : Copy). c.0) (sym (front_at e.count e.copies j m l))

  pub same-words : (j : ℕ) → j < e.count → copied_words e j ≡ words_at (copies_of e) j
  same-words j m = ap (λ (c : Copy). c.1) (sym (front_at e.count e.copies j m l))

  pub homes-copies : homes_writes (copied_rec e) (copied_words e) e.count ≡ writes (copies_of e)
  homes-copies =
      homes_same _ _ _ _ e.count same-rec (λ k j m n. ap (λ (ws : List ℕ). get_or ws j 0) (same-words k m))
      ∙ ap (homes_writes (rec_at (copies_of e)) (words_at (copies_of e))) (sym (length_front e.count e.copies l))

  -- the log over home records that agree on the copied ones, in a slot at b
  pub log-copies : (home home' : ℕ → List ℕ) → ((j w : ℕ) → j < e.count → w < 4 → get_or (home (copied_rec e j)) w 0 ≡ get_or (home' (copied_rec e j)) w 0)
      → (N b n : ℕ) → shift b (log_entries N home n (copied_rec e) (copied_words e) e.count)
      ≡ shift b (log_entries N home' n (rec_at (copies_of e)) (words_at (copies_of e)) (length (copies_of e)))
  log-copies home home' h N b n =
      rw (
        body_same (copied_rec e) (rec_at (copies_of e)) (copied_words e) (words_at (copies_of e)) e.count e.count same-rec same-words,
        changes-same home home' (copied_rec e) (rec_at (copies_of e)) (copied_words e) (words_at (copies_of e)) e.count same-rec same-words h N,
        length_front e.count e.copies l,
      ) refl
