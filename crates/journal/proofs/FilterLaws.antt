-- Where the elements that a filter keeps stand in the list.
use Rattle.std.proofs.Common.{◌≡◌, ℕ, zero, suc, ◌<◌, Bool, true, false, cond, List, [], ◌∷◌, length, get_or, refl, arith}
use Rattle.std.proofs.lemmas.Bool.{false≢true}
use Rattle.std.specs.List.{filter}

module _ {X : Type 0} (p : X → Bool) (d : X) where
  -- one that was kept
  pub kept-at : (xs : List X) (k : ℕ) → k < length (filter p xs)
      → (i : ℕ) × (i < length xs) × (get_or xs i d ≡ get_or (filter p xs) k d) × (p (get_or xs i d) ≡ true)
  kept-at [] k l = absurd (omega arith)
  kept-at (x ∷ xs) k l = go (p x) refl (kept-at xs) k l
    where
      go : (b : Bool) → p x ≡ b
          → ((k : ℕ) → k < length (filter p xs) → (i : ℕ) × (i < length xs) × (get_or xs i d ≡ get_or (filter p xs) k d) × (p (get_or xs i d) ≡ true)) → (k : ℕ) → k < length (cond b (x ∷ filter p xs) (filter p xs))
          → (i : ℕ) × (i < length (x ∷ xs)) × (get_or (x ∷ xs) i d ≡ get_or (cond b (x ∷ filter p xs) (filter p xs)) k d) × (p (get_or (x ∷ xs) i d) ≡ true)
      go true e h zero l = (0, omega arith, refl, e)
      go true e h (suc k) l = let r = h k (omega arith) in (suc r.0, omega (arith, r.1), r.2, r.3)
      go false e h k l = let r = h k l in (suc r.0, omega (arith, r.1), r.2, r.3)

  -- one that passes is kept
  pub kept-of : (xs : List X) (i : ℕ) → i < length xs → p (get_or xs i d) ≡ true
      → (k : ℕ) × (k < length (filter p xs)) × (get_or (filter p xs) k d ≡ get_or xs i d)
  kept-of [] i l e = absurd (omega arith)
  kept-of (x ∷ xs) zero l e = go (p x) e
    where
      go : (b : Bool) → b ≡ true → (k : ℕ) × (k < length (cond b (x ∷ filter p xs) (filter p xs))) × (get_or (cond b (x ∷ filter p xs) (filter p xs)) k d ≡ x)
      go true e = (0, omega arith, refl)
      go false e = absurd (false≢true e)
  kept-of (x ∷ xs) (suc i) l e = go (p x) (kept-of xs i (omega arith) e)
    where
      go : (b : Bool) → (k : ℕ) × (k < length (filter p xs)) × (get_or (filter p xs) k d ≡ get_or xs i d)
          → (k : ℕ) × (k < length (cond b (x ∷ filter p xs) (filter p xs))) × (get_or (cond b (x ∷ filter p xs) (filter p xs)) k d ≡ get_or xs i d)
      go true r = (suc r.0, omega (arith, r.1), r.2)
      go false r = r
