-- The words of copies that differ from home (journal/specs/Changes.antt): which they are.
use Prim.Native.Nat.{ℕ, zero, suc, ◌+◌, ◌*◌, ◌≤◌, ◌<◌}
use mathlib.Core.Path.{◌≡◌, refl, sym, ap, ◌∙◌}
use mathlib.Core.Logic.{◌⊎◌, inl, inr}
use mathlib.Core.Bool.{Bool, true, false, cond}
use mathlib.Core.List.{List, [], ◌∷◌, ◌++◌}
use native.Mathlib.Decide.{ℕ_discrete}
use native.Mathlib.Omega.{arith}
use lib.ListN.{length, get_or}
use lib.Dec.{eqb}
use borrow.Author.Tests.{eqb-true, eqb-false}
use Rattle.layout.specs.Entries.{Write}
use Rattle.layout.specs.Homes.{Differ}
use Rattle.layout.proofs.Groups.{Ascending}
use Rattle.layout.proofs.Says.{by-test}
use Rattle.journal.specs.Changes.{change_at, changes_in, changes_of, changes_below}
use Rattle.journal.specs.Log.{index_in, word_in}
use Rattle.journal.proofs.ChangesLaws.{changes-one}
use Rattle.history.specs.Log.{In}
use Rattle.history.proofs.HomeWrites.{in-append, in_left, in_right}

-- ---- one record

in-change : (a old new i w : ℕ) → In i w (change_at a old new) → (i ≡ a) × ((w ≡ new) × (old ≡ new → ⊥))
in-change a old new i w h = go (eqb old new) (eqb-false old new) h
  where
    go : (b : Bool) → (b ≡ false → old ≡ new → ⊥) → In i w (cond b [] ((a, new) ∷ [])) → (i ≡ a) × ((w ≡ new) × (old ≡ new → ⊥))
    go true n k = absurd k
    go false n (inl e) = (e.0, (e.1, n refl))
    go false n (inr k) = absurd k

change-in : (a old new : ℕ) → In a new (change_at a old new) ⊎ (old ≡ new)
change-in a old new = by-test (eqb old new) (λ t. inr (eqb-true old new t)) (λ f. inl (rw f (inl (refl, refl))))

-- the write is word m of the record, changed
record Word (r : ℕ) (old new : List ℕ) (i w : ℕ) : Type 0 where
  m : ℕ
  m< : m < 4
  index : i ≡ 4 * r + m
  content : w ≡ get_or new m 0
  differs : get_or old m 0 ≡ get_or new m 0 → ⊥

module _ (r : ℕ) (old new : List ℕ) where
  abbrev part : ℕ → List Write
  part m = change_at (4 * r + m) (get_or old m 0) (get_or new m 0)

  in-changes : (i w : ℕ) → In i w (changes_in r old new) → Word r old new i w
  in-changes i w h = first (in-append i w (change_at (4 * r) (get_or old 0 0) (get_or new 0 0)) (part 1 ++ (part 2 ++ part 3)) h)
    where
      third : In i w (part 2) ⊎ In i w (part 3) → Word r old new i w
      third (inl a) = let e = in-change (4 * r + 2) _ _ i w a in record { m = 2; m< = omega arith; index = e.0; content = e.1.0; differs = e.1.1 }
      third (inr a) = let e = in-change (4 * r + 3) _ _ i w a in record { m = 3; m< = omega arith; index = e.0; content = e.1.0; differs = e.1.1 }

      second : In i w (part 1) ⊎ In i w (part 2 ++ part 3) → Word r old new i w
      second (inl a) = let e = in-change (4 * r + 1) _ _ i w a in record { m = 1; m< = omega arith; index = e.0; content = e.1.0; differs = e.1.1 }
      second (inr a) = third (in-append i w (part 2) (part 3) a)

      first : In i w (change_at (4 * r) (get_or old 0 0) (get_or new 0 0)) ⊎ In i w (part 1 ++ (part 2 ++ part 3)) → Word r old new i w
      first (inl a) = let e = in-change (4 * r) _ _ i w a in record { m = 0; m< = omega arith; index = omega (arith, e.0); content = e.1.0; differs = e.1.1 }
      first (inr a) = second (in-append i w (part 1) (part 2 ++ part 3) a)

  changes-in : (m : ℕ) → m < 4 → In (4 * r + m) (get_or new m 0) (changes_in r old new) ⊎ (get_or old m 0 ≡ get_or new m 0)
  changes-in zero l = go (change-in (4 * r) (get_or old 0 0) (get_or new 0 0))
    where
      go : In (4 * r) (get_or new 0 0) (change_at (4 * r) (get_or old 0 0) (get_or new 0 0)) ⊎ (get_or old 0 0 ≡ get_or new 0 0) → In (4 * r + 0) (get_or new 0 0) (changes_in r old new) ⊎ (get_or old 0 0 ≡ get_or new 0 0)
      go (inl a) = let e : 4 * r + 0 ≡ 4 * r = omega arith in inl (rw e (in_left (4 * r) (get_or new 0 0) (change_at (4 * r) (get_or old 0 0) (get_or new 0 0)) (part 1 ++ (part 2 ++ part 3)) a))
      go (inr e) = inr e
  changes-in (suc zero) l = go (change-in (4 * r + 1) (get_or old 1 0) (get_or new 1 0))
    where
      go : In (4 * r + 1) (get_or new 1 0) (part 1) ⊎ (get_or old 1 0 ≡ get_or new 1 0) → In (4 * r + 1) (get_or new 1 0) (changes_in r old new) ⊎ (get_or old 1 0 ≡ get_or new 1 0)
      go (inl a) = inl (in_right _ _ (change_at (4 * r) (get_or old 0 0) (get_or new 0 0)) (part 1 ++ (part 2 ++ part 3)) (in_left _ _ (part 1) (part 2 ++ part 3) a))
      go (inr e) = inr e
  changes-in (suc (suc zero)) l = go (change-in (4 * r + 2) (get_or old 2 0) (get_or new 2 0))
    where
      go : In (4 * r + 2) (get_or new 2 0) (part 2) ⊎ (get_or old 2 0 ≡ get_or new 2 0) → In (4 * r + 2) (get_or new 2 0) (changes_in r old new) ⊎ (get_or old 2 0 ≡ get_or new 2 0)
      go (inl a) = inl (in_right _ _ (change_at (4 * r) (get_or old 0 0) (get_or new 0 0)) (part 1 ++ (part 2 ++ part 3)) (in_right _ _ (part 1) (part 2 ++ part 3) (in_left _ _ (part 2) (part 3) a)))
      go (inr e) = inr e
  changes-in (suc (suc (suc zero))) l = go (change-in (4 * r + 3) (get_or old 3 0) (get_or new 3 0))
    where
      go : In (4 * r + 3) (get_or new 3 0) (part 3) ⊎ (get_or old 3 0 ≡ get_or new 3 0) → In (4 * r + 3) (get_or new 3 0) (changes_in r old new) ⊎ (get_or old 3 0 ≡ get_or new 3 0)
      go (inl a) = inl (in_right _ _ (change_at (4 * r) (get_or old 0 0) (get_or new 0 0)) (part 1 ++ (part 2 ++ part 3)) (in_right _ _ (part 1) (part 2 ++ part 3) (in_right _ _ (part 2) (part 3) a)))
      go (inr e) = inr e
  changes-in (suc (suc (suc (suc m)))) l = absurd (omega arith)

-- ---- copies

-- the write is word m of copy k of c, which differs from the home record's
pub record Change (home : ℕ → List ℕ) (rec : ℕ → ℕ) (words : ℕ → List ℕ) (c i w : ℕ) : Type 0 where
  pub k : ℕ
  pub m : ℕ
  pub k< : k < c
  pub m< : m < 4
  pub index : i ≡ 4 * rec k + m
  pub content : w ≡ get_or (words k) m 0
  pub differs : get_or (home (rec k)) m 0 ≡ get_or (words k) m 0 → ⊥

module _ (home : ℕ → List ℕ) (rec : ℕ → ℕ) (words : ℕ → List ℕ) where
  in-of : (r c i w : ℕ) → In i w (changes_of home rec words r c) → Change home rec words c i w
  unfolding changes_of
  in-of r zero i w h = absurd h
  in-of r (suc c) i w h = go (eqb (rec c) r) (eqb-true (rec c) r) h (λ a. in-of r c i w a)
    where
      more : Change home rec words c i w → Change home rec words (suc c) i w
      more a = record { k = a.k; m = a.m; k< = omega (arith, a.k<); m< = a.m<; index = a.index; content = a.content; differs = a.differs }

      go : (b : Bool) → (b ≡ true → rec c ≡ r) → In i w (cond b (changes_in r (home r) (words c)) (changes_of home rec words r c)) → (In i w (changes_of home rec words r c) → Change home rec words c i w)
          → Change home rec words (suc c) i w
      go true e a ih =
          let x = in-changes r (home r) (words c) i w a in
          record { k = c; m = x.m; k< = omega arith; m< = x.m<; index = x.index ∙ ap (λ q. 4 * q + x.m) (sym (e refl)); content = x.content; differs = rw (e refl) x.differs }
      go false e a ih = more (ih a)

  -- every change is one of a copy's words
  pub in-below : (c n i w : ℕ) → In i w (changes_below home rec words c n) → Change home rec words c i w
  unfolding changes_below
  in-below c zero i w h = absurd h
  in-below c (suc n) i w h = go (in-append i w (changes_below home rec words c n) (changes_of home rec words n c) h) (λ a. in-below c n i w a)
    where
      go : In i w (changes_below home rec words c n) ⊎ In i w (changes_of home rec words n c) → (In i w (changes_below home rec words c n) → Change home rec words c i w) → Change home rec words c i w
      go (inl a) ih = ih a
      go (inr a) ih = in-of n c i w a

  -- what record r has is among them
  of-in : (c n r i w : ℕ) → r < n → In i w (changes_of home rec words r c) → In i w (changes_below home rec words c n)
  unfolding changes_below
  of-in c zero r i w l h = absurd (omega arith)
  of-in c (suc n) r i w l h = go (ℕ_discrete r n) (λ a. of-in c n r i w a h)
    where
      go : Dec (r ≡ n) → (r < n → In i w (changes_below home rec words c n)) → In i w (changes_below home rec words c n ++ changes_of home rec words n c)
      go (yes e) ih = in_right _ _ (changes_below home rec words c n) _ (rw e at h)
      go (no d) ih = in_left _ _ (changes_below home rec words c n) _ (ih (omega arith))

  -- and every word of a copy is a change, or what stands at home
  pub below_in : (c n k m : ℕ) → k < c → m < 4 → rec k < n → Differ rec c
      → In (4 * rec k + m) (get_or (words k) m 0) (changes_below home rec words c n) ⊎ (get_or (home (rec k)) m 0 ≡ get_or (words k) m 0)
  below_in c n k m l lm b d = go (changes-in (rec k) (home (rec k)) (words k) m lm)
    where
      go : In (4 * rec k + m) (get_or (words k) m 0) (changes_in (rec k) (home (rec k)) (words k)) ⊎ (get_or (home (rec k)) m 0 ≡ get_or (words k) m 0)
          → In (4 * rec k + m) (get_or (words k) m 0) (changes_below home rec words c n) ⊎ (get_or (home (rec k)) m 0 ≡ get_or (words k) m 0)
      go (inl a) = inl (of-in c n (rec k) _ _ b (rw (← changes-one home rec words (rec k) c k l refl d) at a))
      go (inr e) = inr e

-- ---- a list of changes by their places

pub at_in : (ws : List Write) (j : ℕ) → j < length ws → In (index_in ws j) (word_in ws j) ws
at_in [] j l = absurd (omega arith)
at_in (x ∷ ws) zero l = inl (refl, refl)
at_in (x ∷ ws) (suc j) l = inr (at_in ws j (omega arith))

pub in-at : (ws : List Write) (i w : ℕ) → In i w ws → (j : ℕ) × (j < length ws) × (index_in ws j ≡ i) × (word_in ws j ≡ w)
in-at [] i w h = absurd h
in-at (x ∷ ws) i w (inl e) = (0, omega arith, sym e.0, sym e.1)
in-at (x ∷ ws) i w (inr h) = let a = in-at ws i w h in (suc a.0, omega (arith, a.1), a.2, a.3)

pub index-low : (lo hi : ℕ) (ws : List Write) → Ascending lo hi ws → (j : ℕ) → j < length ws → lo ≤ index_in ws j
index-low lo hi [] a j l = absurd (omega arith)
index-low lo hi (x ∷ ws) a zero l = a.0
index-low lo hi (x ∷ ws) a (suc j) l = omega (arith, a.0, index-low (suc x.0) hi ws a.1 j (omega arith))

pub index-high : (lo hi : ℕ) (ws : List Write) → Ascending lo hi ws → (j : ℕ) → j < length ws → index_in ws j < hi
index-high lo hi [] a j l = absurd (omega arith)
index-high lo hi (x ∷ []) a zero l = a.1
index-high lo hi (x ∷ y ∷ ws) a zero l = omega (arith, a.1.0, index-high (suc x.0) hi (y ∷ ws) a.1 0 (omega arith))
index-high lo hi (x ∷ ws) a (suc j) l = index-high (suc x.0) hi ws a.1 j (omega arith)

pub index-ascends : (lo hi : ℕ) (ws : List Write) → Ascending lo hi ws → (i j : ℕ) → i < j → j < length ws → index_in ws i < index_in ws j
index-ascends lo hi [] a i j l m = absurd (omega arith)
index-ascends lo hi (x ∷ ws) a i zero l m = absurd (omega arith)
index-ascends lo hi (x ∷ ws) a zero (suc j) l m = index-low (suc x.0) hi ws a.1 j (omega arith)
index-ascends lo hi (x ∷ ws) a (suc i) (suc j) l m = index-ascends (suc x.0) hi ws a.1 i j (omega arith) (omega arith)
