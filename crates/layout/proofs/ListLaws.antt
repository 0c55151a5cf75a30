-- The library's test of each element of a list, as a test of each place; and of some range of numbers, as a test of those below n.
use Prim.Native.Nat.{ℕ, zero, suc, ◌+◌}
use mathlib.Core.Bool.{Bool, true, false, ◌&&◌, ◌||◌}
use mathlib.Core.List.{List, [], ◌∷◌}
use mathlib.Core.Path.{◌≡◌, refl, sym, ap, ◌∙◌}
use native.Mathlib.Numerals.{add-one}
use lib.ListN.{length, get_or}
use Rattle.std.specs.List.{list_all, list_any, range_with_len}
use Rattle.layout.specs.Below.{all_below, any_below}

swap : (a : Bool) → (true && a) ≡ (a && true)
swap true = refl
swap false = refl

assoc : (a b c : Bool) → ((a && b) && c) ≡ (a && (b && c))
assoc true b c = refl
assoc false b c = refl

-- a test of the places from the front
front : (p : ℕ → Bool) (n : ℕ) → all_below (suc n) p ≡ (p 0 && all_below n (λ k. p (suc k)))
unfolding all_below
front p zero = swap (p 0)
front p (suc n) = ap (λ (t : Bool). t && p (suc n)) (front p n) ∙ assoc (p 0) (all_below n (λ k. p (suc k))) (p (suc n))

pub list-all : {X : Type 0} (p : X → Bool) (xs : List X) (d : X) → list_all p xs ≡ all_below (length xs) (λ k. p (get_or xs k d))
unfolding all_below
list-all p [] d = refl
list-all p (x ∷ xs) d = ap (λ (t : Bool). p x && t) (list-all p xs d) ∙ sym (front (λ k. p (get_or (x ∷ xs) k d)) (length xs))

all-moved : (p : ℕ → Bool) (a n : ℕ) → list_all p (range_with_len (a + 1) n) ≡ list_all (λ k. p (suc k)) (range_with_len a n)
all-moved p a zero = refl
all-moved p a (suc n) = rw (all-moved p (a + 1) n, add-one a) refl

pub all_range : (p : ℕ → Bool) (n : ℕ) → list_all p (range_with_len 0 n) ≡ all_below n p
unfolding all_below
all_range p zero = refl
all_range p (suc n) = ap (λ (t : Bool). p 0 && t) (all-moved p 0 n ∙ all_range (λ k. p (suc k)) n) ∙ sym (front p n)

or-swap : (a : Bool) → (false || a) ≡ (a || false)
or-swap true = refl
or-swap false = refl

or-assoc : (a b c : Bool) → ((a || b) || c) ≡ (a || (b || c))
or-assoc true b c = refl
or-assoc false b c = refl

any-front : (p : ℕ → Bool) (n : ℕ) → any_below (suc n) p ≡ (p 0 || any_below n (λ k. p (suc k)))
unfolding any_below
any-front p zero = or-swap (p 0)
any-front p (suc n) = ap (λ (t : Bool). t || p (suc n)) (any-front p n) ∙ or-assoc (p 0) (any_below n (λ k. p (suc k))) (p (suc n))

any-moved : (p : ℕ → Bool) (a n : ℕ) → list_any p (range_with_len (a + 1) n) ≡ list_any (λ k. p (suc k)) (range_with_len a n)
any-moved p a zero = refl
any-moved p a (suc n) = rw (any-moved p (a + 1) n, add-one a) refl

pub any_range : (p : ℕ → Bool) (n : ℕ) → list_any p (range_with_len 0 n) ≡ any_below n p
unfolding any_below
any_range p zero = refl
any_range p (suc n) = ap (λ (t : Bool). p 0 || t) (any-moved p 0 n ∙ any_range (λ k. p (suc k)) n) ∙ sym (any-front p n)
