-- The desk of arrays as the abstract desk of crate history: sessions as a function, copies as a list.
use Prim.Native.Nat.{ℕ, zero, suc, ◌≤◌, ◌<◌}
use mathlib.Core.Path.{◌≡◌, refl, sym, ap, ◌∙◌, fun_ext}
use mathlib.Core.Logic.{inl, inr, ⊎_elim}
use mathlib.Core.Bool.{Bool, true, false, cond, not, false≢true}
use mathlib.Core.Option.{Option, none, some}
use mathlib.Core.List.{List, [], ◌∷◌, ◌++◌}
use native.Mathlib.Decide.{ℕ_discrete}
use native.Mathlib.Omega.{arith}
use lib.ListN.{length, get_or, set}
use lib.Seq.{get_or-set_same, get_or-set_other}
use lib.Dec.{T as So, eqb, ltb, eqb→eq}
use borrow.Author.Tests.{eq-eqb, ne_eqb, ltb-true, ltb-false}
use Rattle.layout.specs.Below.{lowest}
use Rattle.layout.proofs.BelowLaws.{lowest-most, lowest-none}
use Rattle.layout.proofs.Says.{says-and, says-lt, says_eq}
use Rattle.desk.specs.Desk.{no_copy, no_session, copied_rec, copied_words, session_at, mark_at, is_idle}
use Rattle.desk.specs.declared.state.Phase.{Phase}
use Rattle.desk.specs.declared.state.Phase.TheVariants.{Idle, Active, Sealed, Published}
use Rattle.desk.specs.declared.state.RecordCopy.{RecordCopy}
use Rattle.desk.specs.declared.state.Session.{Session}
use Rattle.desk.specs.declared.state.Desk.{Desk}
use Rattle.desk.specs.Coherent.{place_has}
use Rattle.desk.proofs.Facts.{Copies, CountIn, Coherent}
use Rattle.snapshot.specs.Own.{own_place}
use Rattle.snapshot.proofs.OwnPlace.{own-found}
use Rattle.history.specs.Desk.{Copy, find, put, Session as Txn, idle, active, sealed, published, copies, Desk as Txns, upd, with_session, found, holder}
use Rattle.history.proofs.Copies.{Mem, Fresh, Found, find?, upd_same, upd_other, Lowest, first_of?}

-- the first k copy places, as a list of copies
abbrev pub front : ℕ → List RecordCopy → List Copy
front zero ps = []
front (suc k) [] = []
front (suc k) (p ∷ ps) = (p.rec, p.words) ∷ front k ps

abbrev pub txn-of : Phase → ℕ → List Copy → Txn
txn-of Idle q cs = idle
txn-of (Active b) q cs = active b q cs
txn-of (Sealed n) q cs = sealed n q cs
txn-of (Published e) q cs = published e q cs

-- a session entry, and a desk, as the claims' proofs see them
abbrev pub copies_of : Session → List Copy
copies_of e = front e.count e.copies

abbrev pub pack : Session → Txn
pack e = txn-of e.phase e.slot (copies_of e)

abbrev pub abs : Desk → Txns
abs d = record { clock = d.clock; session = λ t. pack (session_at d t) }

-- a session put in the array is a session put
pub abs-put : (d : Desk) (clock n m s : ℕ) (e : Session) (hs : List ℕ) → s < length d.sessions
    → abs (record { clock = clock; n = n; m = m; holders = hs; sessions = set d.sessions s e; order = d.order }) ≡ with_session s (pack e) (record { clock = clock; session = (abs d).session })
abs-put d clock n m s e hs l = ap (λ (f : ℕ → Txn). record { clock = clock; session = f }) (fun_ext (λ t. go t (ℕ_discrete t s)))
  where
    go : (t : ℕ) → Dec (t ≡ s) → pack (get_or (set d.sessions s e) t no_session) ≡ upd s (pack e) (λ u. pack (session_at d u)) t
    go t (yes x) = rw (x, get_or-set_same d.sessions s e no_session l, upd_same s (pack e) (λ u. pack (session_at d u))) refl
    go t (no n) = rw (get_or-set_other d.sessions s t e no_session n, upd_other s (pack e) (λ u. pack (session_at d u)) t n) refl

-- ---- copies and places

pub length_front : (k : ℕ) (ps : List RecordCopy) → k ≤ length ps → length (front k ps) ≡ k
length_front zero ps l = refl
length_front (suc k) [] l = absurd (omega arith)
length_front (suc k) (p ∷ ps) l = ap suc (length_front k ps (omega arith))

-- a copy in the list stands at one of the first k places, and the other way round
pub front-place : (k : ℕ) (ps : List RecordCopy) (r : ℕ) (ws : List ℕ) → Mem r ws (front k ps)
    → (j : ℕ) × (j < k) × ((j < length ps) × (((get_or ps j no_copy).rec ≡ r) × ((get_or ps j no_copy).words ≡ ws)))
front-place zero ps r ws m = absurd m
front-place (suc k) [] r ws m = absurd m
front-place (suc k) (p ∷ ps) r ws (inl e) = (0, omega arith, (omega arith, (sym e.0, sym e.1)))
front-place (suc k) (p ∷ ps) r ws (inr m) = let h = front-place k ps r ws m in (suc h.0, omega (arith, h.1), (omega (arith, h.2.0), h.2.1))

pub place-front : (k : ℕ) (ps : List RecordCopy) (j : ℕ) → j < k → j < length ps → Mem (get_or ps j no_copy).rec (get_or ps j no_copy).words (front k ps)
place-front zero ps j l h = absurd (omega arith)
place-front (suc k) [] j l h = absurd (omega arith)
place-front (suc k) (p ∷ ps) zero l h = inl (refl, refl)
place-front (suc k) (p ∷ ps) (suc j) l h = inr (place-front k ps j (omega arith) (omega arith))

put-fresh : (r : ℕ) (ws : List ℕ) (cs : List Copy) → Fresh r cs → put r ws cs ≡ cs ++ (r, ws) ∷ []
put-fresh r ws [] f = refl
put-fresh r ws (c ∷ cs) f = go (eqb r c.0) (eqb→eq r c.0) (put-fresh r ws cs (λ v m. f v (inr m)))
  where
    go : (b : Bool) → (So b → r ≡ c.0) → put r ws cs ≡ cs ++ (r, ws) ∷ [] → cond b ((r, ws) ∷ cs) (c ∷ put r ws cs) ≡ c ∷ cs ++ (r, ws) ∷ []
    go true y ih = absurd (f c.1 (inl (y tt, refl)))
    go false y ih = ap {B = List Copy} (λ l. c ∷ l) ih

front-more : (k : ℕ) (p : RecordCopy) (ps : List RecordCopy) → k < length ps → front (suc k) (set ps k p) ≡ front k ps ++ (p.rec, p.words) ∷ []
front-more k p [] l = absurd (omega arith)
front-more zero p (x ∷ ps) l = refl
front-more (suc k) p (x ∷ ps) l = ap {B = List Copy} (λ l. (x.rec, x.words) ∷ l) (front-more k p ps (omega arith))

-- a place more is `put` of a record that was not there
pub front-put : (r k : ℕ) (ws : List ℕ) (ps : List RecordCopy) → k < length ps → Fresh r (front k ps)
    → front (suc k) (set ps k (record { rec = r; words = ws })) ≡ put r ws (front k ps)
front-put r k ws ps l f = front-more k _ ps l ∙ sym (put-fresh r ws (front k ps) f)

-- ---- the place of a record

-- the lowest number that passes a test passes it, and no number below does
pub lowest-is : (p : ℕ → Bool) (n : ℕ) → lowest n p < n → (p (lowest n p) ≡ true) × ((i : ℕ) → i < lowest n p → p i ≡ false)
unfolding lowest
lowest-is p zero l = absurd (omega arith)
lowest-is p (suc n) l = go (ltb (lowest n p) n) refl (p n) refl l (lowest-is p n)
  where
    go : (b : Bool) → ltb (lowest n p) n ≡ b → (c : Bool) → p n ≡ c → cond b (lowest n p) (cond c n (suc n)) < suc n
        → (lowest n p < n → (p (lowest n p) ≡ true) × ((i : ℕ) → i < lowest n p → p i ≡ false))
        → (p (cond b (lowest n p) (cond c n (suc n))) ≡ true) × ((i : ℕ) → i < cond b (lowest n p) (cond c n (suc n)) → p i ≡ false)
    go true x c y l ih = ih (ltb-true (lowest n p) n x)
    go false x true y l ih = (y, lowest-none p n (omega (arith, ltb-false (lowest n p) n x, lowest-most p n)))
    go false x false y l ih = absurd (omega arith)

-- of k places, i is the first with record r
pub record FirstAt (r k i : ℕ) (ps : List RecordCopy) : Type 0 where
  pub used : i < k
  pub there : i < length ps
  pub same : (get_or ps i no_copy).rec ≡ r
  pub before : (j : ℕ) → j < i → (get_or ps j no_copy).rec ≡ r → ⊥

-- past the place before it
first-later : (r k i : ℕ) (p : RecordCopy) (ps : List RecordCopy) → FirstAt r (suc k) (suc i) (p ∷ ps) → FirstAt r k i ps
first-later r k i p ps a =
    record { used = omega (arith, a.used); there = omega (arith, a.there); same = a.same; before = λ j l. a.before (suc j) (omega arith) }

-- what is found of a record stands there
find_first : (r k i : ℕ) (ps : List RecordCopy) → FirstAt r k i ps → find r (front k ps) ≡ some (get_or ps i no_copy).words
find_first r zero i ps a = absurd (omega (arith, a.used))
find_first r (suc k) i [] a = absurd (omega (arith, a.there))
find_first r (suc k) zero (p ∷ ps) a = rw (eq-eqb r p.rec (sym a.same))
find_first r (suc k) (suc i) (p ∷ ps) a =
    rw (ne_eqb r p.rec (λ e. a.before 0 (omega arith) (sym e))) (find_first r k i ps (first-later r k i p ps a))

-- to overwrite it is `put`
pub front-set : (r k i : ℕ) (ws : List ℕ) (ps : List RecordCopy) → FirstAt r k i ps → front k (set ps i (record { rec = r; words = ws })) ≡ put r ws (front k ps)
front-set r zero i ws ps a = absurd (omega (arith, a.used))
front-set r (suc k) i ws [] a = absurd (omega (arith, a.there))
front-set r (suc k) zero ws (p ∷ ps) a = rw (eq-eqb r p.rec (sym a.same))
front-set r (suc k) (suc i) ws (p ∷ ps) a =
    rw (ne_eqb r p.rec (λ e. a.before 0 (omega arith) (sym e)))
    (ap {B = List Copy} (λ l. (p.rec, p.words) ∷ l) (front-set r k i ws ps (first-later r k i p ps a)))

module _ (e : Session) (r : ℕ) (four : length e.copies ≡ 4) where
  -- a session copies a record just where that is among its copies
  mem-copies : (ws : List ℕ) → Mem r ws (copies_of e) → Copies e r
  mem-copies ws m = let p = front-place e.count e.copies r ws m in (p.0, omega (arith, p.2.0, four), (p.1, p.2.1.0))

  copies-mem : Copies e r → (ws : List ℕ) × Mem r ws (copies_of e)
  copies-mem c = (copied_words e c.0, rw c.2.1 at (place-front e.count e.copies c.0 c.2.0 (omega (arith, four))))

  -- its own place of a record is the first with it
  pub own_first : own_place e r < 4 → FirstAt r e.count (own_place e r) e.copies
  own_first l =
      let h = lowest-is (place_has e r) 4 l in
      let k = (says-and (says-lt (own_place e r) e.count) (says_eq (copied_rec e (own_place e r)) r)).yes h.0 in
      record { used = k.0; there = omega (arith, four); same = k.1; before = λ j b q. before j (omega (arith, k.0)) q (h.1 j b) }
    where
      before : (j : ℕ) → j < e.count → copied_rec e j ≡ r → place_has e r j ≡ false → ⊥
      before j c q f = false≢true (sym f ∙ (says-and (says-lt j e.count) (says_eq (copied_rec e j) r)).no (c, q))

  -- what is found of a record stands at its own place
  pub find-own : own_place e r < 4 → find r (copies_of e) ≡ some (copied_words e (own_place e r))
  find-own l = find_first r e.count (own_place e r) e.copies (own_first l)

  -- a record with no own place is not copied
  pub own-none : 4 ≤ own_place e r → Fresh r (copies_of e)
  own-none l ws m = omega (arith, own-found e r (mem-copies ws m))

-- ---- the holder of a record

-- the session that a mark names
abbrev pub marked : ℕ → Option ℕ
marked zero = none
marked (suc s) = some s

-- an idle session has no copies, so in every phase a session's copies are those of its first places
packed-copies : (p : Phase) (k q : ℕ) (ps : List RecordCopy) → CountIn p k → copies (txn-of p q (front k ps)) ≡ front k ps
packed-copies Idle k q ps c = rw c
packed-copies (Active b) k q ps c = refl
packed-copies (Sealed n) k q ps c = refl
packed-copies (Published e) k q ps c = refl

-- none are counted of an idle session
idle-none : (p : Phase) (k : ℕ) → CountIn p k → is_idle p ≡ true → k ≡ 0
idle-none Idle k c e = c
idle-none (Active b) k c e = absurd (false≢true e)
idle-none (Sealed n) k c e = absurd (false≢true e)
idle-none (Published n) k c e = absurd (false≢true e)

-- copies where a record is found have it, and others do not
pub found-mem : (r : ℕ) (cs : List Copy) → So (found (find r cs)) → (ws : List ℕ) × Mem r ws cs
found-mem r cs = go (find r cs) (find? r cs)
  where
    go : (o : Option (List ℕ)) → Found r cs o → So (found o) → (ws : List ℕ) × Mem r ws cs
    go none f k = absurd k
    go (some ws) f k = (ws, f)

not_found : (r : ℕ) (cs : List Copy) → So (not (found (find r cs))) → Fresh r cs
not_found r cs = go (find r cs) (find? r cs)
  where
    go : (o : Option (List ℕ)) → Found r cs o → So (not (found o)) → Fresh r cs
    go none f k = f
    go (some ws) f k = absurd k

module _ (d : Desk) (h : Coherent d) (long : (s : ℕ) → s < 16 → length (session_at d s).copies ≡ 4) where
  -- the copies of a session of the desk
  packed : (s : ℕ) → s < 16 → copies (pack (session_at d s)) ≡ copies_of (session_at d s)
  packed s l = packed-copies (session_at d s).phase (session_at d s).count (session_at d s).slot (session_at d s).copies (h.session s l).count

  -- a session that copies a record is below M
  copies-low : (r s : ℕ) → s < 16 → Copies (session_at d s) r → s < d.m
  copies-low r s l c =
      ⊎_elim (λ b. b) (λ i. absurd (omega (arith, c.2.0, idle-none (session_at d s).phase (session_at d s).count (h.session s l).count i))) (h.idle s l)

  -- the session that copies a record is the one that its mark names
  pub holder-mark : (r : ℕ) → r < 256 → holder d.m (abs d) r ≡ marked (mark_at d r)
  holder-mark r l = go (mark_at d r) refl (holder d.m (abs d) r) (first_of? (λ t. found (find r (copies (pack (session_at d t))))) d.m)
    where
      mark : (t : ℕ) → t < d.m → So (found (find r (copies (pack (session_at d t))))) → mark_at d r ≡ suc t
      mark t b y =
          let low : t < 16 = omega (arith, h.m-high) in
          let m = found-mem r (copies_of (session_at d t)) (rw (packed t low) at y) in
          omega (arith, ((h.marks r l).0.1 t low).1 (mem-copies (session_at d t) r (long t low) m.0 m.1))

      go : (n : ℕ) → mark_at d r ≡ n → (o : Option ℕ) → Lowest (λ t. found (find r (copies (pack (session_at d t))))) d.m o → o ≡ marked n
      go zero e none g = refl
      go zero e (some t) g = absurd (omega (arith, mark t g.below g.passes))
      go (suc s) e none g =
          let low : s < 16 = omega (arith, (h.marks r l).0.0) in
          let c = ((h.marks r l).0.1 s low).0 (omega arith) in
          let m = copies-mem (session_at d s) r (long s low) c in
          absurd (not_found r (copies_of (session_at d s)) (rw (packed s low) at (g s (copies-low r s low c))) m.0 m.1)
      go (suc s) e (some t) g = let q : t ≡ s = omega (arith, mark t g.below g.passes) in ap {B = Option ℕ} some q
