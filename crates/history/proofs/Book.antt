-- The history's list: what its records and its views are, and what a new entry and an end change in them.
use Prim.Native.Nat.{ℕ, ◌≤◌, ◌<◌}
use mathlib.Core.Path.{◌≡◌, refl, sym, ap, ◌∙◌}
use mathlib.Core.Logic.{◌⊎◌, inl, inr, ◌≢◌}
use mathlib.Core.Bool.{Bool, true, false, cond, not, ◌&&◌, or-true, false≢true}
use mathlib.Core.Option.{Option, none, some}
use mathlib.Core.List.{List, [], ◌∷◌, ◌++◌}
use lib.Dec.{eqb, leb}
use borrow.Author.Tests.{le-leb, lt-leb, eq-eqb, ne_eqb}
use Rattle.history.specs.Desk.{Copy, find}
use Rattle.history.specs.History.{Seal, entry_of, with_end, entered, ended, over, seen, pick, applied, applied_by}
use Rattle.history.proofs.Copies.{Mem, Fresh, Distinct, Apart, find-fresh, find-mem}

-- no entry is one of session s or has a record of cs
abbrev pub Without : ℕ → List Copy → List Seal → Type 0
Without s cs [] = Unit {0}
Without s cs (x ∷ xs) = (x.session ≢ s) × Apart x.draft cs × Without s cs xs

-- the last entry of session s has the copies cs and the end o, and no later entry has a record of cs
abbrev pub Own : ℕ → List Copy → Option ℕ → List Seal → Type 0
Own s cs o [] = ⊥
Own s cs o (x ∷ xs) = ((x.session ≡ s) × (x.draft ≡ cs) × (x.end ≡ o) × Without s cs xs) ⊎ Own s cs o xs

pick-none : (b : Bool) (r : ℕ) (cs : List Copy) → Fresh r cs → pick b r cs ≡ none
pick-none true r cs f = find-fresh r cs f
pick-none false r cs f = refl

-- ---- records and views

module _ (s : ℕ) (cs : List Copy) (r : ℕ) (ws : List ℕ) (m : Mem r ws cs) where
  -- entries without it leave a record as it was
  without-last : (xs : List Seal) → Without s cs xs → (z : List ℕ) → applied xs r z ≡ z
  without-last [] w z = refl
  without-last (x ∷ xs) w z = rw (find-fresh r x.draft (λ v h. w.1 r v ws h m)) (without-last xs w.2 z)

  without-view : (σ : ℕ) (xs : List Seal) → Without s cs xs → (z : List ℕ) → applied_by σ xs r z ≡ z
  without-view σ [] w z = refl
  without-view σ (x ∷ xs) w z = rw (pick-none (seen σ x.end) r x.draft (λ v h. w.1 r v ws h m)) (without-view σ xs w.2 z)

  -- the last entry that has a record gives its words
  pub own-last : (o : Option ℕ) (xs : List Seal) → Own s cs o xs → Distinct cs → (z : List ℕ) → applied xs r z ≡ ws
  own-last o [] h d z = absurd h
  own-last o (x ∷ xs) (inl e) d z = rw (e.1, find-mem r ws cs d m) (without-last xs e.3 ws)
  own-last o (x ∷ xs) (inr h) d z = own-last o xs h d _

  -- a view from the end on shows the copies
  pub own_view : (e σ : ℕ) (xs : List Seal) → Own s cs (some e) xs → e ≤ σ → Distinct cs → (z : List ℕ) → applied_by σ xs r z ≡ ws
  own_view e σ [] h l d z = absurd h
  own_view e σ (x ∷ xs) (inl k) l d z = rw (k.2, le-leb e σ l, k.1, find-mem r ws cs d m) (without-view σ xs k.3 ws)
  own_view e σ (x ∷ xs) (inr h) l d z = own_view e σ xs h l d _

-- ---- an entry put last

pub applied-more : (xs : List Seal) (x : Seal) (r : ℕ) (z : List ℕ) → applied (xs ++ (x ∷ [])) r z ≡ over (find r x.draft) (applied xs r z)
applied-more [] x r z = refl
applied-more (y ∷ xs) x r z = applied-more xs x r _

-- without an end it is not seen
pub unseen : (σ r : ℕ) (xs : List Seal) (s : ℕ) (cs : List Copy) (z : List ℕ) → applied_by σ (xs ++ (entry_of s cs ∷ [])) r z ≡ applied_by σ xs r z
unseen σ r [] s cs z = refl
unseen σ r (x ∷ xs) s cs z = unseen σ r xs s cs _

pub own_new : (s : ℕ) (cs : List Copy) (xs : List Seal) → Own s cs none (xs ++ (entry_of s cs ∷ []))
own_new s cs [] = inl (refl, refl, refl, tt)
own_new s cs (x ∷ xs) = inr (own_new s cs xs)

module _ (t : ℕ) (ds : List Copy) (s : ℕ) (cs : List Copy) (n : t ≢ s) (a : Apart ds cs) where
  without_more : (xs : List Seal) → Without s cs xs → Without s cs (xs ++ (entry_of t ds ∷ []))
  without_more [] w = (n, a, tt)
  without_more (x ∷ xs) w = (w.0, w.1, without_more xs w.2)

  pub own-more : (o : Option ℕ) (xs : List Seal) → Own s cs o xs → Own s cs o (xs ++ (entry_of t ds ∷ []))
  own-more o [] h = absurd h
  own-more o (x ∷ xs) (inl e) = inl (e.0, e.1, e.2, without_more xs e.3)
  own-more o (x ∷ xs) (inr h) = inr (own-more o xs h)

-- ---- the end e given to the last entry of each session that passes the test p

without-entered : (s : ℕ) (cs : List Copy) (xs : List Seal) → Without s cs xs → entered s xs ≡ false
without-entered s cs [] w = refl
without-entered s cs (x ∷ xs) w = rw (ne_eqb x.session s w.0) (without-entered s cs xs w.2)

own-entered : (s : ℕ) (cs : List Copy) (o : Option ℕ) (xs : List Seal) → Own s cs o xs → entered s xs ≡ true
own-entered s cs o [] h = absurd h
own-entered s cs o (x ∷ xs) (inl e) = rw (eq-eqb x.session s e.0) refl
own-entered s cs o (x ∷ xs) (inr h) = rw (own-entered s cs o xs h) (or-true (eqb x.session s))

-- a session's last entry is behind the first of the list, or is the first
pub own-rest : (s : ℕ) (cs : List Copy) (o : Option ℕ) (x : Seal) (xs : List Seal) → entered s xs ≡ true → Own s cs o (x ∷ xs) → Own s cs o xs
own-rest s cs o x xs n (inl k) = absurd (false≢true (sym (without-entered s cs xs k.3) ∙ n))
own-rest s cs o x xs n (inr k) = k

pub own-here : (s : ℕ) (cs : List Copy) (o : Option ℕ) (x : Seal) (xs : List Seal) → entered s xs ≡ false → Own s cs o (x ∷ xs) → (x.draft ≡ cs) × (x.end ≡ o)
own-here s cs o x xs n (inl k) = (k.1, k.2)
own-here s cs o x xs n (inr k) = absurd (false≢true (sym n ∙ own-entered s cs o xs k))

module _ (p : ℕ → Bool) (e : ℕ) where
  -- x, with the end or not
  abbrev given : Seal → Bool → Seal
  given x b = cond b (with_end e x) x

  pub ended-last : (xs : List Seal) (r : ℕ) (z : List ℕ) → applied (ended p e xs) r z ≡ applied xs r z
  ended-last [] r z = refl
  ended-last (x ∷ xs) r z = go (p x.session && not (entered x.session xs)) (ended-last xs r (over (find r x.draft) z))
    where
      go : (b : Bool) → applied (ended p e xs) r (over (find r x.draft) z) ≡ applied (x ∷ xs) r z → applied (given x b ∷ ended p e xs) r z ≡ applied (x ∷ xs) r z
      go true ih = ih
      go false ih = ih

  without-ended : (u : ℕ) (cs : List Copy) (xs : List Seal) → Without u cs xs → Without u cs (ended p e xs)
  without-ended u cs [] w = w
  without-ended u cs (x ∷ xs) w = go (p x.session && not (entered x.session xs)) (without-ended u cs xs w.2)
    where
      go : (b : Bool) → Without u cs (ended p e xs) → Without u cs (given x b ∷ ended p e xs)
      go true ih = (w.0, w.1, ih)
      go false ih = (w.0, w.1, ih)

  pub ended-own : (s : ℕ) → p s ≡ true → (cs : List Copy) (o : Option ℕ) (xs : List Seal) → Own s cs o xs → Own s cs (some e) (ended p e xs)
  ended-own s y cs o [] h = absurd h
  ended-own s y cs o (x ∷ xs) (inl k) = rw last (inl (k.0, k.1, refl, without-ended s cs xs k.3))
    where
      last : (p x.session && not (entered x.session xs)) ≡ true
      last = rw (k.0, y, without-entered s cs xs k.3) refl
  ended-own s y cs o (x ∷ xs) (inr h) = inr (ended-own s y cs o xs h)

  pub ended-other : (u : ℕ) → p u ≡ false → (cs : List Copy) (o : Option ℕ) (xs : List Seal) → Own u cs o xs → Own u cs o (ended p e xs)
  ended-other u n cs o [] h = absurd h
  ended-other u n cs o (x ∷ xs) (inl k) = rw not_own (inl (k.0, k.1, k.2, without-ended u cs xs k.3))
    where
      not_own : (p x.session && not (entered x.session xs)) ≡ false
      not_own = rw (k.0, n) refl
  ended-other u n cs o (x ∷ xs) (inr h) = inr (ended-other u n cs o xs h)

  -- the last entries that are given the end have none yet; it is above σ, or they do not have the record r
  abbrev pub Hidden : ℕ → ℕ → List Seal → Type 0
  Hidden σ r xs = (u : ℕ) → p u ≡ true → entered u xs ≡ true → (cs : List Copy) × Own u cs none xs × ((σ < e) ⊎ Fresh r cs)

  hidden-rest : (σ r : ℕ) (x : Seal) (xs : List Seal) → Hidden σ r (x ∷ xs) → Hidden σ r xs
  hidden-rest σ r x xs h u y n = let (cs, k, late) = h u y (rw n (or-true (eqb x.session u))) in (cs, own-rest u cs none x xs n k, late)

  -- views from before the end, and views of other records, are as they were
  pub ended-view : (σ r : ℕ) (xs : List Seal) → Hidden σ r xs → (z : List ℕ) → applied_by σ (ended p e xs) r z ≡ applied_by σ xs r z
  ended-view σ r [] h z = refl
  ended-view σ r (x ∷ xs) h z = go (p x.session) refl (entered x.session xs) refl (ended-view σ r xs (hidden-rest σ r x xs h))
    where
      hidden : (cs : List Copy) → x.draft ≡ cs → (σ < e) ⊎ Fresh r cs → pick (leb e σ) r x.draft ≡ none
      hidden cs q (inl l) = rw (lt-leb e σ l) refl
      hidden cs q (inr f) = pick-none (leb e σ) r x.draft (rw q f)

      unended : x.end ≡ none → none ≡ pick (seen σ x.end) r x.draft
      unended q = rw q refl

      picked : entered x.session xs ≡ false → (cs : List Copy) × Own x.session cs none (x ∷ xs) × ((σ < e) ⊎ Fresh r cs)
          → pick (leb e σ) r x.draft ≡ pick (seen σ x.end) r x.draft
      picked n (cs, k, late) = let q = own-here x.session cs none x xs n k in hidden cs q.0 late ∙ unended q.1

      go : (own : Bool) → p x.session ≡ own → (later : Bool) → entered x.session xs ≡ later
          → ((y : List ℕ) → applied_by σ (ended p e xs) r y ≡ applied_by σ xs r y)
          → applied_by σ (given x (own && not later) ∷ ended p e xs) r z ≡ applied_by σ (x ∷ xs) r z
      go true y true n ih = ih _
      go true y false n ih =
          ih _ ∙ ap (λ o. applied_by σ xs r (over o z)) (picked n (h x.session y (rw (eq-eqb x.session x.session refl) refl)))
      go false y later n ih = ih _
