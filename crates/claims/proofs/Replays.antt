-- The entries of a replay, one by one, by the log's form.
use Prim.Native.Nat.{ℕ, ◌+◌, ◌*◌, ◌<◌}
use mathlib.Core.Path.{◌≡◌, sym, ap, subst, ◌∙◌}
use mathlib.Core.List.{List, [], ◌∷◌, ◌++◌}
use native.Mathlib.Omega.{arith}
use lib.ListN.{length}
use Rattle.layout.specs.Entries.{Entry, store, fence, Write, stores}
use Rattle.layout.specs.Homes.{homes_writes}
use Rattle.layout.specs.Image.{records_of, slot_at, word}
use Rattle.layout.proofs.Groups.{length-homes}
use Rattle.journal.specs.Log.{Slot, rec_of, words_of, pairs_of, index_of, word_of, pairs_writes}
use Rattle.journal.proofs.LogFacts.{denotes-short, denotes-full}
use Rattle.journal.proofs.LogGroups.{length_pairs}
use Rattle.journal.proofs.Positions.{write, pair-home, copy-home, place-word}
use Rattle.recovery.specs.Recover.{log_at, replay_entries}
use Rattle.claims.specs.ByEntry.{entry, slot_index, in_slot, Closes}
use Rattle.claims.specs.Recovering.{CopiesHome, PairsHome}
use Rattle.claims.proofs.ByEntry.{closed, entry-stored}

module _ (img : List ℕ) (p : ℕ) where
  -- the writes ws, a fence, 0 into the persist number, a fence
  abbrev replayed : List Write → List Entry
  replayed ws = stores ws ++ (fence ∷ store (slot_at (records_of img) p) 0 ∷ fence ∷ [])

  at : (ws : List Write) (j i w : ℕ) → j < length ws → write ws j ≡ (i, w) → entry (replayed ws) j ≡ store i w
  at ws j i w l e = entry-stored ws _ j l ∙ ap (λ (x : Write). store x.0 x.1) e

  ends : (ws : List Write) (n : ℕ) → length ws ≡ n → Closes (replayed ws) n (slot_index (word img 1) p 0) 0
  ends ws n e = let i : slot_index (word img 1) p 0 ≡ slot_at (records_of img) p = omega arith in rw (sym e, i) (closed ws (slot_at (records_of img) p) 0)

  abbrev f : Slot
  f = log_at img p

  pub full-home : in_slot img p 1 < 16 → CopiesHome img p (replay_entries img p)
  full-home l =
      subst (λ (ws : List Write). CopiesHome img p (replayed ws)) (sym (denotes-full f l))
      (record {
        words = λ j m a b.
            at ws (4 * j + m) _ _ (omega (arith, n, a, b))
            (copy-home (rec_of f) (words_of f) (in_slot img p 1) j m a b ∙ ap (λ (w : ℕ). (4 + 4 * in_slot img p (2 + 5 * j) + m, w)) (place-word f j m b));
        closes = ends ws _ n;
      })
    where
      ws : List Write
      ws = homes_writes (rec_of f) (words_of f) (in_slot img p 1)

      n : length ws ≡ 4 * in_slot img p 1
      n = length-homes (rec_of f) (words_of f) (in_slot img p 1)

  pub short-home : (k : ℕ) → in_slot img p 1 ≡ 16 + k → PairsHome img p k (replay_entries img p)
  short-home k e =
      subst (λ (ws : List Write). PairsHome img p k (replayed ws)) (sym (denotes-short f (omega (arith, e)) ∙ ap (pairs_writes (index_of f) (word_of f)) same))
      (record {
        words = λ j l.
            at (pairs_writes (index_of f) (word_of f) k) j _ _ (omega (arith, l, length_pairs (index_of f) (word_of f) k))
            (pair-home (index_of f) (word_of f) k j l ∙ ap (λ (i : ℕ). (4 + index_of f j, f i)) (omega arith));
        closes = ends (pairs_writes (index_of f) (word_of f) k) k (length_pairs (index_of f) (word_of f) k);
      })
    where
      same : pairs_of f ≡ k
      same = omega (arith, e)
