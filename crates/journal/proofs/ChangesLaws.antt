-- Laws of the words that differ: what they are, where copies leave none, and that they are found in ascending index.
use Prim.Native.Nat.{ℕ, zero, suc, ◌+◌, ◌*◌, ◌≤◌, ◌<◌}
use mathlib.Core.Bool.{cond}
use mathlib.Core.Path.{◌≡◌, refl, sym, ap, ◌∙◌}
use mathlib.Core.List.{List, [], ◌++◌, append-nil}
use native.Mathlib.Omega.{arith}
use native.Mathlib.Decide.{ℕ_discrete}
use lib.ListN.{length, get_or, length-append}
use lib.Dec.{eqb}
use borrow.Author.Tests.{eq-eqb, ne_eqb, eqb-true}
use Rattle.layout.specs.Entries.{Write}
use Rattle.layout.specs.Homes.{Differ}
use Rattle.layout.proofs.Groups.{Ascending, ascending-append}
use Rattle.layout.proofs.Says.{by-test}
use Rattle.journal.specs.Changes.{change_at, changes_in, changes_of, changes_below}

-- ---- one record

change-ascending : (i old new : ℕ) → Ascending i (i + 1) (change_at i old new)
change-ascending i old new = by-test (eqb old new) (λ t. rw t (omega arith)) (λ f. rw f (omega arith, omega arith))

pub in-ascending : (r : ℕ) (old new : List ℕ) → Ascending (4 * r) (4 * suc r) (changes_in r old new)
in-ascending r old new =
    ascending-append (4 * r) (4 * r + 1) (4 * suc r) (change_at (4 * r) (get_or old 0 0) (get_or new 0 0)) _ (change-ascending (4 * r) (get_or old 0 0) (get_or new 0 0))
    (ascending-append (4 * r + 1) (4 * r + 2) (4 * suc r) (change_at (4 * r + 1) (get_or old 1 0) (get_or new 1 0)) _ (widen (4 * r + 1) (4 * r + 2) (change_at (4 * r + 1) (get_or old 1 0) (get_or new 1 0)) (omega arith) (change-ascending (4 * r + 1) (get_or old 1 0) (get_or new 1 0)))
    (ascending-append (4 * r + 2) (4 * r + 3) (4 * suc r) (change_at (4 * r + 2) (get_or old 2 0) (get_or new 2 0)) _ (widen (4 * r + 2) (4 * r + 3) (change_at (4 * r + 2) (get_or old 2 0) (get_or new 2 0)) (omega arith) (change-ascending (4 * r + 2) (get_or old 2 0) (get_or new 2 0)))
    (widen (4 * r + 3) (4 * suc r) (change_at (4 * r + 3) (get_or old 3 0) (get_or new 3 0)) (omega arith) (change-ascending (4 * r + 3) (get_or old 3 0) (get_or new 3 0)))))
  where
    widen : (lo hi : ℕ) (ws : List Write) → lo + 1 ≡ hi → Ascending lo (lo + 1) ws → Ascending lo hi ws
    widen lo hi ws e a = rw e at a

pub change-few : (i old new : ℕ) → length (change_at i old new) ≤ 1
change-few i old new = by-test (eqb old new) (λ t. rw t (omega arith)) (λ f. rw f (omega arith))

pub in-few : (r : ℕ) (old new : List ℕ) → length (changes_in r old new) ≤ 4
in-few r old new =
    let a = change_at (4 * r) (get_or old 0 0) (get_or new 0 0) in
    let b = change_at (4 * r + 1) (get_or old 1 0) (get_or new 1 0) in
    let c = change_at (4 * r + 2) (get_or old 2 0) (get_or new 2 0) in
    let d = change_at (4 * r + 3) (get_or old 3 0) (get_or new 3 0) in
    omega (
      arith,
      length-append a (b ++ (c ++ d)),
      length-append b (c ++ d),
      length-append c d,
      change-few (4 * r) (get_or old 0 0) (get_or new 0 0),
      change-few (4 * r + 1) (get_or old 1 0) (get_or new 1 0),
      change-few (4 * r + 2) (get_or old 2 0) (get_or new 2 0),
      change-few (4 * r + 3) (get_or old 3 0) (get_or new 3 0),
    )

-- ---- copies

module _ (home : ℕ → List ℕ) (rec : ℕ → ℕ) (words : ℕ → List ℕ) where
  -- no copy has the record
  pub changes-none : (r c : ℕ) → ((j : ℕ) → j < c → rec j ≡ r → ⊥) → changes_of home rec words r c ≡ []
  unfolding changes_of
  changes-none r zero h = refl
  changes-none r (suc c) h = rw (ne_eqb _ _ (h c (omega arith)), changes-none r c (λ j l. h j (omega arith)))

  -- copy j has it, and no other
  pub changes-one : (r c j : ℕ) → j < c → rec j ≡ r → Differ rec c → changes_of home rec words r c ≡ changes_in r (home r) (words j)
  unfolding changes_of
  changes-one r zero j l e d = absurd (omega arith)
  changes-one r (suc c) j l e d = go (ℕ_discrete j c) (λ m. changes-one r c j m e (λ a b x y. d a b x (omega arith)))
    where
      go : Dec (j ≡ c) → (j < c → changes_of home rec words r c ≡ changes_in r (home r) (words j))
          → cond (eqb (rec c) r) (changes_in r (home r) (words c)) (changes_of home rec words r c) ≡ changes_in r (home r) (words j)
      go (yes x) ih = rw (eq-eqb (rec c) r (ap rec (sym x) ∙ e), x) refl
      go (no n) ih =
          let m : j < c = omega arith in
          rw (ne_eqb (rec c) r (λ q. d j c m (omega arith) (e ∙ sym q))) (ih m)

  pub of-ascending : (r c : ℕ) → Ascending (4 * r) (4 * suc r) (changes_of home rec words r c)
  unfolding changes_of
  of-ascending r zero = omega arith
  of-ascending r (suc c) = by-test (eqb (rec c) r) (λ t. rw t (in-ascending r (home r) (words c))) (λ f. rw f (of-ascending r c))

  module _ (c : ℕ) where
    -- no record from a up to below a + k is copied
    pub changes-gap : (a k : ℕ) → ((r : ℕ) → a ≤ r → r < a + k → (j : ℕ) → j < c → rec j ≡ r → ⊥) → changes_below home rec words c (a + k) ≡ changes_below home rec words c a
    unfolding changes_below
    changes-gap a zero h = let e : a + 0 ≡ a = omega arith in ap (changes_below home rec words c) e
    changes-gap a (suc k) h =
        let e : a + suc k ≡ suc (a + k) = omega arith in
        let n : changes_of home rec words (a + k) c ≡ [] = changes-none (a + k) c (h (a + k) (omega arith) (omega arith)) in
        ap (changes_below home rec words c) e ∙ more (a + k) n ∙ changes-gap a k (λ r l m. h r l (omega arith))
      where
        more : (r : ℕ) → changes_of home rec words r c ≡ [] → changes_below home rec words c (suc r) ≡ changes_below home rec words c r
        more r n = rw n (append-nil (changes_below home rec words c r))

    -- the changes up to record r, and those of copy j, which has it
    pub changes-next : (r j : ℕ) → j < c → rec j ≡ r → Differ rec c
        → changes_below home rec words c (r + 1) ≡ changes_below home rec words c r ++ changes_in r (home r) (words j)
    unfolding changes_below
    changes-next r j l e d =
        let one : r + 1 ≡ suc r = omega arith in
        ap (changes_below home rec words c) one ∙ rw (changes-one r c j l e d) refl

    -- more records have no fewer changes
    pub changes-grow : (a k : ℕ) → length (changes_below home rec words c a) ≤ length (changes_below home rec words c (a + k))
    unfolding changes_below
    changes-grow a zero = rw (ap (changes_below home rec words c) (let e : a + 0 ≡ a = omega arith in e)) (omega arith)
    changes-grow a (suc k) =
        let e : a + suc k ≡ suc (a + k) = omega arith in
        rw (ap (changes_below home rec words c) e) (omega (arith, changes-grow a k, more (a + k)))
      where
        more : (r : ℕ) → length (changes_below home rec words c r) ≤ length (changes_below home rec words c (suc r))
        more r = omega (arith, length-append (changes_below home rec words c r) (changes_of home rec words r c))

    -- their indexes ascend, below 4n
    pub below-ascending : (n : ℕ) → Ascending 0 (4 * n) (changes_below home rec words c n)
    unfolding changes_below
    below-ascending zero = omega arith
    below-ascending (suc n) = ascending-append 0 (4 * n) (4 * suc n) (changes_below home rec words c n) _ (below-ascending n) (of-ascending n c)

-- home records that agree on the copied records have the same changes
pub changes-same : (home home' : ℕ → List ℕ) (rec rec' : ℕ → ℕ) (words words' : ℕ → List ℕ) (c : ℕ)
    → ((j : ℕ) → j < c → rec j ≡ rec' j) → ((j : ℕ) → j < c → words j ≡ words' j)
    → ((j w : ℕ) → j < c → w < 4 → get_or (home (rec j)) w 0 ≡ get_or (home' (rec j)) w 0)
    → (n : ℕ) → changes_below home rec words c n ≡ changes_below home' rec' words' c n
unfolding changes_of changes_below
changes-same home home' rec rec' words words' c a b h = below
  where
    of-same : (r k : ℕ) → k ≤ c → changes_of home rec words r k ≡ changes_of home' rec' words' r k
    of-same r zero l = refl
    of-same r (suc k) l =
        by-test (eqb (rec k) r)
        (λ t. rw (← a k (omega arith), t, ← b k (omega arith)) (ap (λ x. x) (one (eqb-true _ _ t))))
        (λ f. rw (← a k (omega arith), f) (of-same r k (omega arith)))
      where
        one : rec k ≡ r → changes_in r (home r) (words k) ≡ changes_in r (home' r) (words k)
        one e =
            let w0 : get_or (home r) 0 0 ≡ get_or (home' r) 0 0 = rw e at (h k 0 (omega arith) (omega arith)) in
            let w1 : get_or (home r) 1 0 ≡ get_or (home' r) 1 0 = rw e at (h k 1 (omega arith) (omega arith)) in
            let w2 : get_or (home r) 2 0 ≡ get_or (home' r) 2 0 = rw e at (h k 2 (omega arith) (omega arith)) in
            let w3 : get_or (home r) 3 0 ≡ get_or (home' r) 3 0 = rw e at (h k 3 (omega arith) (omega arith)) in
            rw (w0, w1, w2, w3) refl

    below : (n : ℕ) → changes_below home rec words c n ≡ changes_below home' rec' words' c n
    below zero = refl
    below (suc n) = rw (below n, of-same n c (omega arith)) refl
