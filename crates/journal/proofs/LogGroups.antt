-- A log's entries: how many there are, and that no index of a fence group appears twice.
use Prim.Native.Nat.{ℕ, zero, suc, ◌+◌, ◌*◌, ◌≤◌}
use mathlib.Core.Bool.{true, false, cond}
use mathlib.Core.Path.{◌≡◌, refl, sym}
use mathlib.Core.List.{List, [], ◌∷◌}
use native.Mathlib.Omega.{arith}
use lib.ListN.{length, length-append}
use borrow.Author.Tests.{ltb-true}
use Rattle.layout.specs.Entries.{store, fence, stores, once, ends_fenced}
use Rattle.layout.proofs.Groups.{Ascending, Distinct, ascending-append, ascending-distinct, length-stores, once-group, ends-append}
use Rattle.layout.proofs.Says.{by-test}
use Rattle.journal.specs.Lengths.{seal_length}
use Rattle.journal.specs.Log.{place_writes, body_writes, pair_writes, short_writes, pairs_writes, shorter_b, either_body, sealed_body}
use Rattle.journal.proofs.LengthLaws.{finish-formula}

place-ascending : (j r : ℕ) (ws : List ℕ) → Ascending (2 + 5 * j) (2 + 5 * suc j) (place_writes j r ws)
place-ascending j r ws = (omega arith, (omega arith, (omega arith, (omega arith, (omega arith, omega arith)))))

-- the body of a full log
pub body-ascending : (rec : ℕ → ℕ) (words : ℕ → List ℕ) (count k : ℕ) → Ascending 1 (2 + 5 * k) (body_writes rec words count k)
unfolding body_writes
body-ascending rec words count zero = (omega arith, omega arith)
body-ascending rec words count (suc k) =
    ascending-append 1 (2 + 5 * k) (2 + 5 * suc k) (body_writes rec words count k) (place_writes k (rec k) (words k))
    (body-ascending rec words count k) (place-ascending k (rec k) (words k))

pub length-body : (rec : ℕ → ℕ) (words : ℕ → List ℕ) (count k : ℕ) → length (body_writes rec words count k) ≡ 1 + 5 * k
unfolding body_writes
length-body rec words count zero = refl
length-body rec words count (suc k) =
    omega (arith, length-body rec words count k, length-append (body_writes rec words count k) (place_writes k (rec k) (words k)))

-- the body of a short log
pair-ascending : (j i w : ℕ) → Ascending (2 + 2 * j) (2 + 2 * suc j) (pair_writes j i w)
pair-ascending j i w = (omega arith, (omega arith, omega arith))

pub short-ascending : (index word : ℕ → ℕ) (count k : ℕ) → Ascending 1 (2 + 2 * k) (short_writes index word count k)
unfolding short_writes
short-ascending index word count zero = (omega arith, omega arith)
short-ascending index word count (suc k) =
    ascending-append 1 (2 + 2 * k) (2 + 2 * suc k) (short_writes index word count k) (pair_writes k (index k) (word k))
    (short-ascending index word count k) (pair-ascending k (index k) (word k))

pub length-short : (index word : ℕ → ℕ) (count k : ℕ) → length (short_writes index word count k) ≡ 1 + 2 * k
unfolding short_writes
length-short index word count zero = refl
length-short index word count (suc k) =
    omega (arith, length-short index word count k, length-append (short_writes index word count k) (pair_writes k (index k) (word k)))

-- the pairs of a short log
pub length_pairs : (index word : ℕ → ℕ) (k : ℕ) → length (pairs_writes index word k) ≡ k
unfolding pairs_writes
length_pairs index word zero = refl
length_pairs index word (suc k) = omega (arith, length_pairs index word k, length-append (pairs_writes index word k) ((4 + index k, word k) ∷ []))

-- ---- either form

module _ (index word : ℕ → ℕ) (k : ℕ) (rec : ℕ → ℕ) (words : ℕ → List ℕ) (c : ℕ) where
  -- the form that is taken
  pub either-short : shorter_b k c ≡ true → either_body index word k rec words c ≡ short_writes index word k k
  either-short t = rw t

  pub either-full : shorter_b k c ≡ false → either_body index word k rec words c ≡ body_writes rec words c c
  either-full f = rw f

  pub either-distinct : Distinct (either_body index word k rec words c)
  either-distinct =
      by-test (shorter_b k c)
      (λ t. rw t (ascending-distinct 1 (2 + 2 * k) (short_writes index word k k) (short-ascending index word k k)))
      (λ f. rw f (ascending-distinct 1 (2 + 5 * c) (body_writes rec words c c) (body-ascending rec words c c)))

  pub either-length : (persist : ℕ) → length (sealed_body persist (either_body index word k rec words c)) ≡ cond (shorter_b k c) (2 * k + 4) (5 * c + 4)
  either-length persist =
      by-test (shorter_b k c)
      (λ t. rw t (omega (arith, length-append (stores (short_writes index word k k)) (fence ∷ store 0 persist ∷ fence ∷ []), length-stores (short_writes index word k k), length-short index word k k)))
      (λ f. rw f (omega (arith, length-append (stores (body_writes rec words c c)) (fence ∷ store 0 persist ∷ fence ∷ []), length-stores (body_writes rec words c c), length-body rec words c c)))

  -- the number that the table gives
  pub either-counted : (persist : ℕ) → 1 ≤ c → c ≤ 4 → seal_length k c ≡ length (sealed_body persist (either_body index word k rec words c))
  unfolding seal_length
  either-counted persist l h = rw (finish-formula c l h) (sym (either-length persist))

  -- no list is longer than 24 entries
  pub either-few : (persist : ℕ) → c ≤ 4 → length (sealed_body persist (either_body index word k rec words c)) ≤ 24
  either-few persist h = rw (either-length persist) (by-test (shorter_b k c) (λ t. rw t (omega (arith, ltb-true (2 * k) (5 * c) t))) (λ f. rw f (omega arith)))

  pub either-once : (persist : ℕ) → once (sealed_body persist (either_body index word k rec words c)) ≡ true
  either-once persist = once-group (either_body index word k rec words c) (store 0 persist ∷ fence ∷ []) either-distinct refl

  pub either-ends : (persist : ℕ) → ends_fenced (sealed_body persist (either_body index word k rec words c)) ≡ true
  either-ends persist = ends-append (stores (either_body index word k rec words c)) fence (store 0 persist ∷ fence ∷ []) refl
