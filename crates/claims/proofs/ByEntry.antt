-- Lists of entries, entry by entry: stores, and what a fence, a store and a fence close.
use Prim.Native.Nat.{ℕ, zero, suc, ◌+◌, ◌<◌}
use mathlib.Core.Path.{◌≡◌, refl, sym, ap, ◌∙◌}
use mathlib.Core.List.{List, [], ◌∷◌, ◌++◌}
use native.Mathlib.Omega.{arith}
use lib.ListN.{length, length-append}
use Rattle.layout.specs.Entries.{Entry, store, fence, Write, stores, shift}
use Rattle.layout.proofs.Groups.{length-stores}
use Rattle.journal.proofs.Positions.{write, at_right}
use Rattle.claims.specs.ByEntry.{entry, Closes}

pub entry-stored : (ws : List Write) (es : List Entry) (j : ℕ) → j < length ws → entry (stores ws ++ es) j ≡ store (write ws j).0 (write ws j).1
entry-stored [] es j l = absurd (omega arith)
entry-stored (x ∷ ws) es zero l = refl
entry-stored (x ∷ ws) es (suc j) l = entry-stored ws es j (omega arith)

-- what stands behind the stores
pub entry-behind : (ws : List Write) (es : List Entry) (j : ℕ) → entry (stores ws ++ es) (length ws + j) ≡ entry es j
entry-behind ws es j = ap (λ i. entry (stores ws ++ es) (i + j)) (sym (length-stores ws)) ∙ at_right fence (stores ws) es j

pub closed : (ws : List Write) (i v : ℕ) → Closes (stores ws ++ (fence ∷ store i v ∷ fence ∷ [])) (length ws) i v
closed ws i v =
    record {
      fenced = let e : length ws + 0 ≡ length ws = omega arith in ap (entry all) (sym e) ∙ entry-behind ws tail 0;
      number = entry-behind ws tail 1;
      last = entry-behind ws tail 2;
      size = length-append (stores ws) tail ∙ ap (λ n. n + 3) (length-stores ws);
    }
  where
    tail : List Entry
    tail = fence ∷ store i v ∷ fence ∷ []

    all : List Entry
    all = stores ws ++ tail

-- entries of a part that starts at `base`
abbrev moved : ℕ → Entry → Entry
moved base (store i w) = store (base + i) w
moved base fence = fence

entry-shift : (base : ℕ) (es : List Entry) (j : ℕ) → entry (shift base es) j ≡ moved base (entry es j)
entry-shift base [] j = refl
entry-shift base (store i w ∷ es) zero = refl
entry-shift base (store i w ∷ es) (suc j) = entry-shift base es j
entry-shift base (fence ∷ es) zero = refl
entry-shift base (fence ∷ es) (suc j) = entry-shift base es j

pub entry-moved : (base : ℕ) (es : List Entry) (j : ℕ) (x : Entry) → entry es j ≡ x → entry (shift base es) j ≡ moved base x
entry-moved base es j x h = entry-shift base es j ∙ ap (moved base) h

length_shift : (base : ℕ) (es : List Entry) → length (shift base es) ≡ length es
length_shift base [] = refl
length_shift base (store i w ∷ es) = ap suc (length_shift base es)
length_shift base (fence ∷ es) = ap suc (length_shift base es)

pub closed-moved : (base : ℕ) (es : List Entry) (n i v : ℕ) → Closes es n i v → Closes (shift base es) n (base + i) v
closed-moved base es n i v c =
    record {
      fenced = entry-moved base es n fence c.fenced;
      number = entry-moved base es (n + 1) (store i v) c.number;
      last = entry-moved base es (n + 2) fence c.last;
      size = length_shift base es ∙ c.size;
    }
