-- What a cut of entries leaves of an image, word by word. Nothing here knows of logs or of where they lie.
use Prim.Native.Nat.{ℕ, zero, suc, ◌+◌, ◌<◌}
use mathlib.Core.Path.{◌≡◌, refl, sym, ap, ◌∙◌}
use mathlib.Core.Logic.{◌⊎◌, inl, inr}
use mathlib.Core.Bool.{Bool, true, false, cond, ◌||◌, false≢true}
use mathlib.Core.List.{List, [], ◌∷◌, ◌++◌, append-nil}
use native.Mathlib.Decide.{ℕ_discrete, dec_lt}
use native.Mathlib.Nat.{add-zero}
use native.Mathlib.Omega.{arith}
use lib.ListN.{length, get_or, set, take, length-set}
use lib.Seq.{get_or-set_same, get_or-set_other, set_out}
use Rattle.history.specs.Log.{In}
use Rattle.layout.specs.Entries.{Entry, store, fence, made, stores, ends_fenced, Write}
use Rattle.layout.specs.Crash.{fenced, arrived, crashed as cut}

-- the entries store w at i
abbrev pub Stored : ℕ → ℕ → List Entry → Type 0
Stored i w [] = ⊥
Stored i w (store j v ∷ es) = ((i ≡ j) × (w ≡ v)) ⊎ Stored i w es
Stored i w (fence ∷ es) = Stored i w es

pub stored-take : (k i w : ℕ) (es : List Entry) → Stored i w (take k es) → Stored i w es
stored-take zero i w es h = absurd h
stored-take (suc k) i w [] h = h
stored-take (suc k) i w (store j v ∷ es) (inl e) = inl e
stored-take (suc k) i w (store j v ∷ es) (inr h) = inr (stored-take k i w es h)
stored-take (suc k) i w (fence ∷ es) h = stored-take k i w es h

pub stored-in : (i w : ℕ) (ws : List Write) → Stored i w (stores ws) → In i w ws
stored-in i w [] h = h
stored-in i w (x ∷ ws) (inl e) = inl e
stored-in i w (x ∷ ws) (inr h) = inr (stored-in i w ws h)

-- a store changes one word at most
pub set_word : (img : List ℕ) (i w j : ℕ) → (get_or (set img i w) j 0 ≡ get_or img j 0) ⊎ ((j ≡ i) × (get_or (set img i w) j 0 ≡ w))
set_word img i w j = go (ℕ_discrete j i) (dec_lt i (length img))
  where
    go : Dec (j ≡ i) → Dec (i < length img) → (get_or (set img i w) j 0 ≡ get_or img j 0) ⊎ ((j ≡ i) × (get_or (set img i w) j 0 ≡ w))
    go (no n) d = inl (get_or-set_other img i j w 0 n)
    go (yes e) (yes l) = inr (e, rw e (get_or-set_same img i w 0 l))
    go (yes e) (no n) = inl (rw (set_out img i w (omega arith)) refl)

-- a word is as it was, or one that the entries store there
pub arrived-word : (sel : ℕ → Bool) (n : ℕ) (es : List Entry) (img : List ℕ) (j : ℕ)
    → (get_or (arrived sel n es img) j 0 ≡ get_or img j 0) ⊎ Stored j (get_or (arrived sel n es img) j 0) es
arrived-word sel n [] img j = inl refl
arrived-word sel n (fence ∷ es) img j = arrived-word sel (suc n) es img j
arrived-word sel n (store i w ∷ es) img j = go (fenced es || sel n) (arrived-word sel (suc n) es (cond (fenced es || sel n) (set img i w) img) j)
  where
    then : (r : ℕ) → (r ≡ get_or (set img i w) j 0) → (get_or (set img i w) j 0 ≡ get_or img j 0) ⊎ ((j ≡ i) × (get_or (set img i w) j 0 ≡ w))
        → (r ≡ get_or img j 0) ⊎ (((j ≡ i) × (r ≡ w)) ⊎ Stored j r es)
    then r e (inl same) = inl (e ∙ same)
    then r e (inr c) = inr (inl (c.0, e ∙ c.1))

    go : (b : Bool) (h : (get_or (arrived sel (suc n) es (cond b (set img i w) img)) j 0 ≡ get_or (cond b (set img i w) img) j 0)
        ⊎ Stored j (get_or (arrived sel (suc n) es (cond b (set img i w) img)) j 0) es)
        → (get_or (arrived sel (suc n) es (cond b (set img i w) img)) j 0 ≡ get_or img j 0)
        ⊎ (((j ≡ i) × (get_or (arrived sel (suc n) es (cond b (set img i w) img)) j 0 ≡ w)) ⊎ Stored j (get_or (arrived sel (suc n) es (cond b (set img i w) img)) j 0) es)
    go b (inr h) = inr (inr h)
    go true (inl e) = then _ e (set_word img i w j)
    go false (inl e) = inl e

pub length-arrived : (sel : ℕ → Bool) (n : ℕ) (es : List Entry) (img : List ℕ) → length (arrived sel n es img) ≡ length img
length-arrived sel n [] img = refl
length-arrived sel n (fence ∷ es) img = length-arrived sel (suc n) es img
length-arrived sel n (store i w ∷ es) img = length-arrived sel (suc n) es _ ∙ go (fenced es || sel n)
  where
    go : (b : Bool) → length (cond b (set img i w) img) ≡ length img
    go true = length-set img i w
    go false = refl

-- all made is all arrived
or-true : (b : Bool) → b || true ≡ true
or-true true = refl
or-true false = refl

all-arrived : (n : ℕ) (es : List Entry) (img : List ℕ) → arrived (λ _. true) n es img ≡ made es img
all-arrived n [] img = refl
all-arrived n (fence ∷ es) img = all-arrived (suc n) es img
all-arrived n (store i w ∷ es) img = rw (or-true (fenced es)) (all-arrived (suc n) es (set img i w))

pub made_word : (es : List Entry) (img : List ℕ) (j : ℕ) → (get_or (made es img) j 0 ≡ get_or img j 0) ⊎ Stored j (get_or (made es img) j 0) es
made_word es img j = rw (all-arrived zero es img) at (arrived-word (λ _. true) zero es img j)

pub length-made : (es : List Entry) (img : List ℕ) → length (made es img) ≡ length img
length-made es img = rw (all-arrived zero es img) at (length-arrived (λ _. true) zero es img)

-- an index that is written has afterwards one of the words that are written there
pub made-written : (ws : List Write) (img : List ℕ) (i w : ℕ) → In i w ws → i < length img → In i (get_or (made (stores ws) img) i 0) ws
made-written [] img i w h l = h
made-written (x ∷ ws) img i w (inr h) l = inr (made-written ws (set img x.0 x.1) i w h (rw (length-set img x.0 x.1) l))
made-written (x ∷ ws) img i w (inl e) l = go (made_word (stores ws) (set img x.0 x.1) i)
  where
    go : (get_or (made (stores ws) (set img x.0 x.1)) i 0 ≡ get_or (set img x.0 x.1) i 0) ⊎ Stored i (get_or (made (stores ws) (set img x.0 x.1)) i 0) (stores ws)
        → In i (get_or (made (stores ws) (set img x.0 x.1)) i 0) (x ∷ ws)
    go (inl same) = inl (e.0, same ∙ (rw (← e.0) (get_or-set_same img i x.1 0 l)))
    go (inr h) = inr (stored-in i _ ws h)

-- what stands before a fence has arrived
fenced-append : (xs ys : List Entry) → fenced (xs ++ fence ∷ ys) ≡ true
fenced-append [] ys = refl
fenced-append (store i w ∷ xs) ys = fenced-append xs ys
fenced-append (fence ∷ xs) ys = refl

pub arrived-fence : (sel : ℕ → Bool) (n : ℕ) (xs ys : List Entry) (img : List ℕ)
    → (m : ℕ) × (arrived sel n (xs ++ fence ∷ ys) img ≡ arrived sel m ys (made xs img))
arrived-fence sel n [] ys img = (suc n, refl)
arrived-fence sel n (store i w ∷ xs) ys img =
    let r = arrived-fence sel (suc n) xs ys (set img i w) in
    (r.0, ap (λ b. arrived sel (suc n) (xs ++ fence ∷ ys) (cond (b || sel n) (set img i w) img)) (fenced-append xs ys) ∙ r.1)
arrived-fence sel n (fence ∷ xs) ys img = arrived-fence sel (suc n) xs ys img

pub made-append : (xs ys : List Entry) (img : List ℕ) → made (xs ++ ys) img ≡ made ys (made xs img)
made-append [] ys img = refl
made-append (store i w ∷ xs) ys img = made-append xs ys (set img i w)
made-append (fence ∷ xs) ys img = made-append xs ys img

-- the first k of entries with a fence among them: the fence is not reached, or is made
take-fence : (k : ℕ) (xs ys : List Entry)
    → ((l : ℕ) × (take k (xs ++ fence ∷ ys) ≡ take l xs)) ⊎ ((l : ℕ) × (take k (xs ++ fence ∷ ys) ≡ xs ++ fence ∷ take l ys))
take-fence zero xs ys = inl (zero, refl)
take-fence (suc k) [] ys = inr (k, refl)
take-fence (suc k) (x ∷ xs) ys = go (take-fence k xs ys)
  where
    go : ((l : ℕ) × (take k (xs ++ fence ∷ ys) ≡ take l xs)) ⊎ ((l : ℕ) × (take k (xs ++ fence ∷ ys) ≡ xs ++ fence ∷ take l ys))
        → ((l : ℕ) × (x ∷ take k (xs ++ fence ∷ ys) ≡ take l (x ∷ xs))) ⊎ ((l : ℕ) × (x ∷ take k (xs ++ fence ∷ ys) ≡ x ∷ xs ++ fence ∷ take l ys))
    go (inl c) = inl (suc c.0, ap {B = List Entry} (λ r. x ∷ r) c.1)
    go (inr c) = inr (c.0, ap {B = List Entry} (λ r. x ∷ r) c.1)

pub cut-fence : (k : ℕ) (sel : ℕ → Bool) (xs ys : List Entry) (img : List ℕ)
    → ((l : ℕ) × (cut k sel (xs ++ fence ∷ ys) img ≡ arrived sel zero (take l xs) img))
    ⊎ ((l m : ℕ) × (cut k sel (xs ++ fence ∷ ys) img ≡ arrived sel m (take l ys) (made xs img)))
cut-fence k sel xs ys img = go (take-fence k xs ys)
  where
    go : ((l : ℕ) × (take k (xs ++ fence ∷ ys) ≡ take l xs)) ⊎ ((l : ℕ) × (take k (xs ++ fence ∷ ys) ≡ xs ++ fence ∷ take l ys))
        → ((l : ℕ) × (cut k sel (xs ++ fence ∷ ys) img ≡ arrived sel zero (take l xs) img))
        ⊎ ((l m : ℕ) × (cut k sel (xs ++ fence ∷ ys) img ≡ arrived sel m (take l ys) (made xs img)))
    go (inl c) = inl (c.0, rw c.1 refl)
    go (inr c) = inr (c.0, (arrived-fence sel zero xs (take c.0 ys) img).0, rw c.1 (arrived-fence sel zero xs (take c.0 ys) img).1)

-- ---- behind a list that ends with a fence, or is empty

fenced-behind : (xs : List Entry) (x : Entry) (ys : List Entry) → ends_fenced (x ∷ xs) ≡ true → fenced ((x ∷ xs) ++ ys) ≡ true
fenced-behind [] (store i w) ys e = absurd (false≢true e)
fenced-behind [] fence ys e = refl
fenced-behind (y ∷ xs) (store i w) ys e = fenced-behind xs y ys e
fenced-behind (y ∷ xs) fence ys e = refl

-- the crash of the rest is as it is on the image with that list made
arrived-behind : (sel : ℕ → Bool) (n : ℕ) (xs ys : List Entry) (img : List ℕ) → ends_fenced xs ≡ true
    → (m : ℕ) × (arrived sel n (xs ++ ys) img ≡ arrived sel m ys (made xs img))
arrived-behind sel n [] ys img e = (n, refl)
arrived-behind sel n (store i w ∷ []) ys img e = absurd (false≢true e)
arrived-behind sel n (fence ∷ []) ys img e = (suc n, refl)
arrived-behind sel n (fence ∷ x ∷ xs) ys img e = arrived-behind sel (suc n) (x ∷ xs) ys img e
arrived-behind sel n (store i w ∷ x ∷ xs) ys img e =
    let r = arrived-behind sel (suc n) (x ∷ xs) ys (set img i w) e in
    (r.0, ap (λ b. arrived sel (suc n) ((x ∷ xs) ++ ys) (cond (b || sel n) (set img i w) img)) (fenced-behind xs x ys e) ∙ r.1)

next : (m n : ℕ) → suc (m + n) ≡ m + suc n
next m n = omega arith

-- the entries counted from another number
arrived-from : (sel : ℕ → Bool) (m n : ℕ) (es : List Entry) (img : List ℕ) → arrived sel (m + n) es img ≡ arrived (λ k. sel (m + k)) n es img
arrived-from sel m n [] img = refl
arrived-from sel m n (fence ∷ es) img = ap (λ k. arrived sel k es img) (next m n) ∙ arrived-from sel m (suc n) es img
arrived-from sel m n (store i w ∷ es) img =
    ap (λ k. arrived sel k es (cond (fenced es || sel (m + n)) (set img i w) img)) (next m n)
    ∙ arrived-from sel m (suc n) es (cond (fenced es || sel (m + n)) (set img i w) img)

pub crash-behind : (k : ℕ) (sel : ℕ → Bool) (xs ys : List Entry) (img : List ℕ) → ends_fenced xs ≡ true
    → (sel' : ℕ → Bool) × (arrived sel zero (xs ++ take k ys) img ≡ cut k sel' ys (made xs img))
crash-behind k sel xs ys img e =
    let r = arrived-behind sel zero xs (take k ys) img e in
    (λ j. sel (r.0 + j), r.1 ∙ ap (λ j. arrived sel j (take k ys) (made xs img)) (sym (add-zero r.0)) ∙ arrived-from sel r.0 zero (take k ys) (made xs img))

-- all of it has arrived
pub arrived-all : (sel : ℕ → Bool) (xs : List Entry) (img : List ℕ) → ends_fenced xs ≡ true → arrived sel zero xs img ≡ made xs img
arrived-all sel xs img e = ap (λ es. arrived sel zero es img) (sym (append-nil xs)) ∙ (arrived-behind sel zero xs [] img e).1

pub ends-append : (xs ys : List Entry) → ends_fenced xs ≡ true → ends_fenced ys ≡ true → ends_fenced (xs ++ ys) ≡ true
ends-append [] ys e f = f
ends-append (store i w ∷ []) ys e f = absurd (false≢true e)
ends-append (fence ∷ []) [] e f = refl
ends-append (fence ∷ []) (y ∷ ys) e f = f
ends-append (x ∷ y ∷ xs) ys e f = ends-append (y ∷ xs) ys e f
