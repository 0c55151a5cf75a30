-- Where an image's words lie: the words that a step of recovery touches are home words and one persist number.
use Prim.Native.Nat.{ℕ, ◌+◌, ◌-◌, ◌≤◌, ◌<◌, min}
use mathlib.Core.Path.{◌≡◌, sym, ap, ◌∙◌}
use mathlib.Core.Logic.{◌≢◌}
use mathlib.Core.List.{List}
use native.Mathlib.Omega.{arith}
use lib.ListN.{length, get_or, take, drop, length-take, length-drop}
use lib.Seq.{ext_get_or, get_or-take, get_or-drop}
use Rattle.layout.specs.Image.{slot_at}
use Rattle.history.specs.Layout.{Home, body}

-- a part of a list is known by its words
pub part_same : (n b : ℕ) (l l' : List ℕ) → length l' ≡ length l → ((j : ℕ) → b ≤ j → j < b + n → get_or l' j 0 ≡ get_or l j 0) → take n (drop b l') ≡ take n (drop b l)
part_same n b l l' e h = ext_get_or 0 (take n (drop b l')) (take n (drop b l)) (long l' ∙ ap (λ m. min n (m - b)) e ∙ sym (long l)) at_i
  where
    long : (x : List ℕ) → length (take n (drop b x)) ≡ min n (length x - b)
    long x = rw (length-take n (drop b x), length-drop b x)

    at_i : (i : ℕ) → i < length (take n (drop b l')) → get_or (take n (drop b l')) i 0 ≡ get_or (take n (drop b l)) i 0
    at_i i i< =
        let i<n : i < n = omega (arith, long l', i<) in
        rw (get_or-take n (drop b l') i 0 i<n, get_or-take n (drop b l) i 0 i<n, get_or-drop b l' i 0, get_or-drop b l i 0) (h (b + i) (omega arith) (omega arith))

pub body_same : (N : ℕ) (img img' : List ℕ) (p : ℕ) → length img' ≡ length img
    → ((j : ℕ) → slot_at N p < j → j < slot_at N p + 22 → get_or img' j 0 ≡ get_or img j 0) → body N img' p ≡ body N img p
body_same N img img' p e h = part_same 21 (slot_at N p + 1) img img' e (λ j lo hi. h j (omega arith) (omega arith))

-- no home word is a persist number, or lies in a slot; and a slot's words are no other's
pub home-apart : (N p i : ℕ) → Home N i → i < slot_at N p
home-apart N p i h = omega arith

pub slot_at-apart : (N p q : ℕ) → p ≢ q → slot_at N p ≢ slot_at N q
slot_at-apart N p q n e = n (omega arith)

pub inside-apart : (N p q j : ℕ) → slot_at N q < j → j < slot_at N q + 22 → j ≢ slot_at N p
inside-apart N p q j lo hi e = omega arith
