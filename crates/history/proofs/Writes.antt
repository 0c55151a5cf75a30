-- Whether a list of writes has an index.
use Prim.Native.Nat.{ℕ}
use mathlib.Core.Path.{◌≡◌, refl}
use mathlib.Core.Logic.{◌⊎◌, inl, inr}
use mathlib.Core.List.{List, [], ◌∷◌}
use native.Mathlib.Decide.{ℕ_discrete}
use Rattle.layout.specs.Entries.{Write}
use Rattle.history.specs.Log.{In}

-- whether a list writes i
pub writes? : (i : ℕ) (ws : List Write) → ((v : ℕ) × In i v ws) ⊎ ((v : ℕ) → ¬ In i v ws)
writes? i [] = inr (λ v h. h)
writes? i (x ∷ ws) = go (ℕ_discrete i x.0) (writes? i ws)
  where
    go : Dec (i ≡ x.0) → ((v : ℕ) × In i v ws) ⊎ ((v : ℕ) → ¬ In i v ws) → ((v : ℕ) × In i v (x ∷ ws)) ⊎ ((v : ℕ) → ¬ In i v (x ∷ ws))
    go (yes e) r = inl (x.1, inl (e, refl))
    go (no n) (inl c) = inl (c.0, inr c.1)
    go (no n) (inr f) = inr nowhere
      where
        nowhere : (v : ℕ) → ¬ In i v (x ∷ ws)
        nowhere v (inl e) = n e.0
        nowhere v (inr h) = f v h
