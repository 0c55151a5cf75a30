-- Fence groups: when no index of a list of stores appears twice.
use Prim.Native.Nat.{ℕ, zero, suc, ◌+◌, ◌*◌, ◌≤◌, ◌<◌}
use mathlib.Core.Bool.{true}
use mathlib.Core.Path.{◌≡◌, refl, sym, ap}
use mathlib.Core.List.{List, [], ◌∷◌, ◌++◌}
use mathlib.Core.Logic.{◌⊎◌, inl, inr, ⊎_elim}
use native.Mathlib.Omega.{arith}
use native.Mathlib.Decide.{dec_lt}
use lib.Dec.{eqb}
use lib.ListN.{length, length-append}
use borrow.Author.Tests.{eqb-true, eqb-false, eq-eqb, ne_eqb}
use Rattle.layout.specs.Entries.{Entry, store, fence, Write, stores, shift, not_again, once, ends_fenced}
use Rattle.layout.specs.Image.{home_at}
use Rattle.layout.specs.Homes.{home_writes, homes_writes, Differ}
use Rattle.layout.proofs.Says.{by-test}

-- index i is not among the writes, and no index is there twice
abbrev pub Absent : ℕ → List Write → Type 0
Absent i [] = Unit {0}
Absent i (x ∷ ws) = (i ≡ x.0 → ⊥) × Absent i ws

abbrev pub Distinct : List Write → Type 0
Distinct [] = Unit {0}
Distinct (x ∷ ws) = Absent x.0 ws × Distinct ws

-- the indexes ascend from lo, below hi
abbrev pub Ascending : ℕ → ℕ → List Write → Type 0
Ascending lo hi [] = lo ≤ hi
Ascending lo hi (x ∷ ws) = (lo ≤ x.0) × Ascending (suc x.0) hi ws

-- no index lies from lo to below hi
abbrev pub Avoids : ℕ → ℕ → List Write → Type 0
Avoids lo hi [] = Unit {0}
Avoids lo hi (x ∷ ws) = ((x.0 < lo) ⊎ (hi ≤ x.0)) × Avoids lo hi ws

pub ascending-append : (lo mid hi : ℕ) (xs ys : List Write) → Ascending lo mid xs → Ascending mid hi ys → Ascending lo hi (xs ++ ys)
ascending-append lo mid hi [] [] a b = omega (arith, a, b)
ascending-append lo mid hi [] (y ∷ ys) a b = (omega (arith, a, b.0), b.1)
ascending-append lo mid hi (x ∷ xs) ys a b = (a.0, ascending-append (suc x.0) mid hi xs ys a.1 b)

ascending-low : (lo hi : ℕ) (ws : List Write) → Ascending lo hi ws → lo ≤ hi
ascending-low lo hi [] a = a
ascending-low lo hi (x ∷ ws) a = omega (arith, a.0, ascending-low (suc x.0) hi ws a.1)

-- what is below lo, or at or above hi, is absent
ascending-absent : (i lo hi : ℕ) (ws : List Write) → Ascending lo hi ws → (i < lo) ⊎ (hi ≤ i) → Absent i ws
ascending-absent i lo hi [] a o = tt
ascending-absent i lo hi (x ∷ ws) a o =
    ⊎_elim
    (λ l. (λ e. omega (arith, l, e, a.0), ascending-absent i (suc x.0) hi ws a.1 (inl (omega (arith, l, a.0)))))
    (λ g. (λ e. omega (arith, g, e, ascending-low (suc x.0) hi ws a.1), ascending-absent i (suc x.0) hi ws a.1 (inr g)))
    o

pub ascending-distinct : (lo hi : ℕ) (ws : List Write) → Ascending lo hi ws → Distinct ws
ascending-distinct lo hi [] a = tt
ascending-distinct lo hi (x ∷ ws) a =
    (ascending-absent x.0 (suc x.0) hi ws a.1 (inl (omega arith)), ascending-distinct (suc x.0) hi ws a.1)

absent-append : (i : ℕ) (xs ys : List Write) → Absent i xs → Absent i ys → Absent i (xs ++ ys)
absent-append i [] ys a b = b
absent-append i (x ∷ xs) ys a b = (a.0, absent-append i xs ys a.1 b)

pub avoids-append : (lo hi : ℕ) (xs ys : List Write) → Avoids lo hi xs → Avoids lo hi ys → Avoids lo hi (xs ++ ys)
avoids-append lo hi [] ys a b = b
avoids-append lo hi (x ∷ xs) ys a b = (a.0, avoids-append lo hi xs ys a.1 b)

distinct_append : (lo hi : ℕ) (xs ys : List Write) → Distinct xs → Avoids lo hi xs → Ascending lo hi ys → Distinct (xs ++ ys)
distinct_append lo hi [] ys d v a = ascending-distinct lo hi ys a
distinct_append lo hi (x ∷ xs) ys d v a =
    (absent-append x.0 xs ys d.0 (ascending-absent x.0 lo hi ys a v.0), distinct_append lo hi xs ys d.1 v.1 a)

-- ---- the writes that calls make

home-ascending : (r : ℕ) (ws : List ℕ) → Ascending (home_at r) (home_at (suc r)) (home_writes r ws)
home-ascending r ws = (omega arith, (omega arith, (omega arith, (omega arith, omega arith))))

home-avoids : (r q : ℕ) (ws : List ℕ) → (r ≡ q → ⊥) → Avoids (home_at r) (home_at (suc r)) (home_writes q ws)
home-avoids r q ws n = (apart _ (omega arith) (omega arith), (apart _ (omega arith) (omega arith), (apart _ (omega arith) (omega arith), (apart _ (omega arith) (omega arith), tt))))
  where
    apart : (i : ℕ) → home_at q ≤ i → i < home_at (suc q) → (i < home_at r) ⊎ (home_at (suc r) ≤ i)
    apart i l h = elim (dec_lt r q) [ yes u ↦ inr (omega arith) | no u ↦ inl (omega arith) ]

homes-avoid : (rec : ℕ → ℕ) (words : ℕ → List ℕ) (r k : ℕ) → ((j : ℕ) → j < k → r ≡ rec j → ⊥) → Avoids (home_at r) (home_at (suc r)) (homes_writes rec words k)
unfolding homes_writes
homes-avoid rec words r zero h = tt
homes-avoid rec words r (suc k) h =
    avoids-append (home_at r) (home_at (suc r)) (homes_writes rec words k) (home_writes (rec k) (words k))
    (homes-avoid rec words r k (λ j l. h j (omega arith))) (home-avoids r (rec k) (words k) (h k (omega arith)))

-- writes of different records to their homes
pub homes-distinct : (rec : ℕ → ℕ) (words : ℕ → List ℕ) (k : ℕ) → Differ rec k → Distinct (homes_writes rec words k)
unfolding homes_writes
homes-distinct rec words zero h = tt
homes-distinct rec words (suc k) h =
    distinct_append (home_at (rec k)) (home_at (suc (rec k))) (homes_writes rec words k) (home_writes (rec k) (words k))
    (homes-distinct rec words k (λ i j l m. h i j l (omega arith)))
    (homes-avoid rec words (rec k) k (λ j l e. h j k l (omega arith) (sym e)))
    (home-ascending (rec k) (words k))

pub length-homes : (rec : ℕ → ℕ) (words : ℕ → List ℕ) (k : ℕ) → length (homes_writes rec words k) ≡ 4 * k
unfolding homes_writes
length-homes rec words zero = refl
length-homes rec words (suc k) =
    omega (arith, length-homes rec words k, length-append (homes_writes rec words k) (home_writes (rec k) (words k)))

-- records and words that agree below k are written alike
pub homes_same : (rec rec' : ℕ → ℕ) (words words' : ℕ → List ℕ) (k : ℕ) → ((j : ℕ) → j < k → (rec j ≡ rec' j) × (words j ≡ words' j))
    → homes_writes rec words k ≡ homes_writes rec' words' k
unfolding homes_writes
homes_same rec rec' words words' zero h = refl
homes_same rec rec' words words' (suc k) h =
    rw (homes_same rec rec' words words' k (λ j l. h j (omega arith)), (h k (omega arith)).0, (h k (omega arith)).1)

pub length-stores : (ws : List Write) → length (stores ws) ≡ length ws
length-stores [] = refl
length-stores (x ∷ ws) = ap suc (length-stores ws)

pub stores-append : (xs ys : List Write) → stores (xs ++ ys) ≡ stores xs ++ stores ys
stores-append [] ys = refl
stores-append (x ∷ xs) ys = ap (λ l. store x.0 x.1 ∷ l) (stores-append xs ys)

-- ---- entries

not-again : (i : ℕ) (ws : List Write) (es : List Entry) → Absent i ws → not_again i (stores ws ++ (fence ∷ es)) ≡ true
not-again i [] es a = refl
not-again i (x ∷ ws) es a = rw (ne_eqb _ _ a.0, not-again i ws es a.1)

-- one group, and what follows its fence
pub once-group : (ws : List Write) (es : List Entry) → Distinct ws → once es ≡ true → once (stores ws ++ (fence ∷ es)) ≡ true
once-group [] es d o = o
once-group (x ∷ ws) es d o = rw (not-again x.0 ws es d.0, once-group ws es d.1 o)

pub ends-append : (xs : List Entry) (y : Entry) (ys : List Entry) → ends_fenced (y ∷ ys) ≡ true → ends_fenced (xs ++ (y ∷ ys)) ≡ true
ends-append [] y ys e = e
ends-append (store i w ∷ []) y ys e = e
ends-append (fence ∷ []) y ys e = e
ends-append (store i w ∷ x ∷ xs) y ys e = ends-append (x ∷ xs) y ys e
ends-append (fence ∷ x ∷ xs) y ys e = ends-append (x ∷ xs) y ys e

eqb-shift : (base i j : ℕ) → eqb (base + i) (base + j) ≡ eqb i j
eqb-shift base i j =
    by-test (eqb i j)
    (λ t. let e : i ≡ j = eqb-true i j t in rw t (eq-eqb (base + i) (base + j) (omega arith)))
    (λ f. rw f (ne_eqb (base + i) (base + j) (λ e. eqb-false i j f (omega arith))))

again-shift : (base i : ℕ) (es : List Entry) → not_again (base + i) (shift base es) ≡ not_again i es
again-shift base i [] = refl
again-shift base i (store j w ∷ es) = rw (eqb-shift base i j, again-shift base i es)
again-shift base i (fence ∷ es) = refl

-- entries of a part, as entries of the whole
pub once-shift : (base : ℕ) (es : List Entry) → once (shift base es) ≡ once es
once-shift base [] = refl
once-shift base (store i w ∷ es) = rw (again-shift base i es, once-shift base es)
once-shift base (fence ∷ es) = once-shift base es

pub ends-shift : (base : ℕ) (es : List Entry) → ends_fenced (shift base es) ≡ ends_fenced es
ends-shift base [] = refl
ends-shift base (store i w ∷ []) = refl
ends-shift base (fence ∷ []) = refl
ends-shift base (store i w ∷ store j v ∷ es) = ends-shift base (store j v ∷ es)
ends-shift base (store i w ∷ fence ∷ es) = ends-shift base (fence ∷ es)
ends-shift base (fence ∷ store j v ∷ es) = ends-shift base (store j v ∷ es)
ends-shift base (fence ∷ fence ∷ es) = ends-shift base (fence ∷ es)
