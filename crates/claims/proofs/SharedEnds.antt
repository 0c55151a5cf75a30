-- Transactions that share an end have no record in common: an end is above all that were given before, and the sessions that are given it
-- together hold different records.
use Prim.Native.Nat.{ℕ, suc, ◌≤◌}
use mathlib.Core.Bool.{Bool, true, false, cond, not, ◌&&◌, ◌||◌, or-true, false≢true}
use mathlib.Core.Option.{Option, none, some}
use mathlib.Core.Path.{◌≡◌, refl, sym, ap, ◌∙◌, subst}
use mathlib.Core.List.{List, [], ◌∷◌, ◌++◌}
use native.Mathlib.Omega.{arith}
use lib.Dec.{eqb}
use borrow.Author.Tests.{eq-eqb}
use Rattle.layout.specs.Image.{records_of, sessions_of}
use Rattle.layout.specs.Told.{Told, is, refused_by, Ok, Start, Sealed}
use Rattle.layout.proofs.Says.{by-test}
use Rattle.desk.specs.Group.{member}
use Rattle.history.specs.Call.{Begin, Read, Finish, Find, Call, begin, read, write, abandon, finish, publish, group, settle, reclaim, listen}
use Rattle.history.specs.Desk.{Copy, find, found, put, copies, Desk}
use Rattle.history.specs.Due.{due}
use Rattle.history.specs.History.{Seal, entry_of, with_end, entered, ended, sealing, drafted, History, feed}
use Rattle.history.specs.Layout.{view}
use Rattle.history.specs.Ledger.{Ledger, note, note_desk}
use Rattle.history.proofs.Book.{Own, own-rest, own-here}
use Rattle.history.proofs.Calls.{Held}
use Rattle.history.proofs.Copies.{Apart}
use Rattle.history.proofs.MovePublish.{sealed-own}
use Rattle.history.proofs.PublishDue.{Members, publish-due, group-due}
use Rattle.claims.specs.Rules.{store_rules}
use Rattle.claims.specs.Run.{World, opened, step, run}
use Rattle.claims.specs.Together.{Parted, PartedFrom, AllParted, SharedEnds}
use Rattle.claims.proofs.Abstraction.{found-mem}
use Rattle.claims.proofs.Along.{Along, same, step-along, opened-along}
use Rattle.claims.proofs.Views.{step_stays}

-- ---- the list

-- every end is up to the clock
abbrev Up : ℕ → Option ℕ → Type 0
Up clock none = Unit {0}
Up clock (some e) = e ≤ clock

abbrev AllUp : ℕ → List Seal → Type 0
AllUp clock [] = Unit {0}
AllUp clock (x ∷ xs) = Up clock x.end × AllUp clock xs

up-later : (clock later : ℕ) → clock ≤ later → (o : Option ℕ) → Up clock o → Up later o
up-later clock later l none u = tt
up-later clock later l (some e) u = omega arith

all-later : (clock later : ℕ) → clock ≤ later → (xs : List Seal) → AllUp clock xs → AllUp later xs
all-later clock later l [] u = tt
all-later clock later l (x ∷ xs) u = (up-later clock later l x.end u.0, all-later clock later l xs u.1)

not_some : {A : Type 0} {e : ℕ} → none ≡ some e → A
not_some q = let z : ◌≡◌ {A = ℕ} 0 1 = cc in absurd (omega arith)

-- an entry without an end, put last
from_more : (x y : Seal) → y.end ≡ none → (xs : List Seal) → PartedFrom x xs → PartedFrom x (xs ++ (y ∷ []))
from_more x y n [] h = (λ e a b. not_some (sym n ∙ b), tt)
from_more x y n (z ∷ xs) h = (h.0, from_more x y n xs h.1)

all_more : (y : Seal) → y.end ≡ none → (xs : List Seal) → AllParted xs → AllParted (xs ++ (y ∷ []))
all_more y n [] h = (tt, tt)
all_more y n (x ∷ xs) h = (from_more x y n xs h.0, all_more y n xs h.1)

up_more : (clock : ℕ) (y : Seal) → y.end ≡ none → (xs : List Seal) → AllUp clock xs → AllUp clock (xs ++ (y ∷ []))
up_more clock y n [] h = (rw n tt, tt)
up_more clock y n (x ∷ xs) h = (h.0, up_more clock y n xs h.1)

-- copies that are apart have no record in common
apart-finds : (cs ds : List Copy) → Apart cs ds → (r : ℕ) → (found (find r cs) && found (find r ds)) ≡ false
apart-finds cs ds a r =
    by-test (found (find r cs))
    (λ y. by-test (found (find r ds))
    (λ z. let m = found-mem r cs (rw y tt) in let n = found-mem r ds (rw z tt) in absurd (a r m.0 n.0 m.1 n.1))
    (λ z. rw (y, z) refl))
    (λ y. rw y refl)

-- an end above all others, given to the last entries of the sessions that pass the test, which hold different records
module _ (p : ℕ → Bool) (clock : ℕ) (mine : ℕ → List Copy) (apart : (u v : ℕ) → p u ≡ true → p v ≡ true → (u ≡ v → ⊥) → Apart (mine u) (mine v)) where
  abbrev e : ℕ
  e = suc clock

  abbrev Lasts : List Seal → Type 0
  Lasts xs = (u : ℕ) → p u ≡ true → entered u xs ≡ true → Own u (mine u) none xs

  lasts-rest : (x : Seal) (xs : List Seal) → Lasts (x ∷ xs) → Lasts xs
  lasts-rest x xs h u y n = own-rest u (mine u) none x xs n (h u y (rw n (or-true (eqb x.session u))))

  -- what a last entry has
  last-draft : (x : Seal) (xs : List Seal) → Lasts (x ∷ xs) → p x.session ≡ true → entered x.session xs ≡ false → x.draft ≡ mine x.session
  last-draft x xs h y n = (own-here x.session (mine x.session) none x xs n (h x.session y (rw (eq-eqb x.session x.session refl) refl))).0

  -- an old end is not the new one
  old-end : (o : Option ℕ) → Up clock o → o ≡ some e → ⊥
  old-end none u q = not_some q
  old-end (some m) u q = let z : m ≡ e = ap worth q in omega arith
    where
      worth : Option ℕ → ℕ
      worth none = 0
      worth (some k) = k

  -- from an entry that is not given it
  from_old : (x : Seal) → Up clock x.end → (xs : List Seal) → PartedFrom x xs → PartedFrom x (ended p e xs)
  from_old x u [] h = tt
  from_old x u (y ∷ xs) h = (go (p y.session && not (entered y.session xs)), from_old x u xs h.1)
    where
      go : (b : Bool) → Parted x (cond b (with_end e y) y)
      go true = λ k a b. absurd (old-end x.end u (a ∙ sym b))
      go false = h.0

  -- from one that is
  from-new : (x : Seal) → p x.session ≡ true → x.draft ≡ mine x.session → (xs : List Seal) → entered x.session xs ≡ false → AllUp clock xs → Lasts xs
      → PartedFrom (with_end e x) (ended p e xs)
  from-new x y d [] n u l = tt
  from-new x y d (z ∷ xs) n u l =
      (go (p z.session) refl (entered z.session xs) refl, from-new x y d xs absent.1 u.1 (lasts-rest z xs l))
    where
      absent : (eqb z.session x.session ≡ false) × (entered x.session xs ≡ false)
      absent = split (eqb z.session x.session) (entered x.session xs) n
        where
          split : (a b : Bool) → (a || b) ≡ false → (a ≡ false) × (b ≡ false)
          split true b q = absurd (false≢true (sym q))
          split false b q = (refl, q)

      differs : x.session ≡ z.session → ⊥
      differs q = false≢true (sym absent.0 ∙ eq-eqb z.session x.session (sym q))

      old : Parted (with_end e x) z
      old = λ k a b. absurd (old-end z.end u.0 (b ∙ sym a))

      go : (own : Bool) → p z.session ≡ own → (later : Bool) → entered z.session xs ≡ later → Parted (with_end e x) (cond (own && not later) (with_end e z) z)
      go true a true b = old
      go true a false b = λ k q w r. rw (d, last-draft z xs l a b) (apart-finds (mine x.session) (mine z.session) (apart x.session z.session y a differs) r)
      go false a later b = old

  all-ended : (xs : List Seal) → AllUp clock xs → Lasts xs → AllParted xs → AllParted (ended p e xs)
  all-ended [] u l h = tt
  all-ended (x ∷ xs) u l h =
      (go (p x.session) refl (entered x.session xs) refl, all-ended xs u.1 (lasts-rest x xs l) h.1)
    where
      go : (own : Bool) → p x.session ≡ own → (later : Bool) → entered x.session xs ≡ later → PartedFrom (cond (own && not later) (with_end e x) x) (ended p e xs)
      go true a true b = from_old x u.0 xs h.0
      go true a false b = from-new x a (last-draft x xs l a b) xs b u.1 (lasts-rest x xs l)
      go false a later b = from_old x u.0 xs h.0

  up-ended : (xs : List Seal) → AllUp clock xs → AllUp e (ended p e xs)
  up-ended [] u = tt
  up-ended (x ∷ xs) u = (go (p x.session && not (entered x.session xs)), up-ended xs u.1)
    where
      go : (b : Bool) → Up e (cond b (with_end e x) x).end
      go true = omega arith
      go false = up-later clock e (omega arith) x.end u.0

-- ---- one call

record EndsParted (clock : ℕ) (xs : List Seal) : Type 0 where
  parted : AllParted xs
  up : AllUp clock xs

module _ (N M : ℕ) (img : List ℕ) (L : Ledger) (H : Held N M img L) (o : EndsParted L.desk.clock L.history.sealed) where
  abbrev d : Desk
  d = L.desk

  abbrev seals : List Seal
  seals = L.history.sealed

  -- an end for the sessions that pass the test, all sealed
  gives : (p : ℕ → Bool) → Members M d p → EndsParted (suc d.clock) (ended p (suc d.clock) seals)
  gives p members =
      record {
        parted =
            all-ended p d.clock mine apart seals o.up
            (λ u y n. sealed-own N (view N img) L.history d.clock u (d.session u) (members u y).1 (H.holds.inv.fine u (members u y).0)) o.parted;
        up = up-ended p d.clock mine apart seals o.up;
      }
    where
      mine : ℕ → List Copy
      mine u = copies (d.session u)

      apart : (u v : ℕ) → p u ≡ true → p v ≡ true → (u ≡ v → ⊥) → Apart (mine u) (mine v)
      apart u v y z n = H.holds.inv.excl u v (members u y).0 (members v z).0 n

  -- the list stays, and the clock is not set back
  stays : (later : ℕ) → d.clock ≤ later → EndsParted later seals
  stays later l = record { parted = o.parted; up = all-later d.clock later l seals o.up }

  -- an entry more
  grows : (s : ℕ) (cs : List Copy) (later : ℕ) → d.clock ≤ later → EndsParted later (seals ++ (entry_of s cs ∷ []))
  grows s cs later l =
      record { parted = all_more (entry_of s cs) refl seals o.parted; up = up_more later (entry_of s cs) refl seals (all-later d.clock later l seals o.up) }

  abbrev told : Call → Told
  told c = (due N M L c).answer

  abbrev After : Call → Type 0
  After c = EndsParted (note_desk c (told c) L.number d).clock (feed c (told c) L.history).sealed

  quiet : (b : Bool) (h : History) (later : ℕ) → d.clock ≤ later → h.sealed ≡ seals → EndsParted later (cond b h L.history).sealed
  quiet true h later l q = rw q (stays later l)
  quiet false h later l q = stays later l

  publish-after : (len s : ℕ) → After (publish len s)
  unfolding due
  publish-after len s =
      publish-due N M L.number L.ceiling d L.history
      (λ y. EndsParted (note_desk (publish len s) y.answer L.number d).clock (feed (publish len s) y.answer L.history).sealed)
      (λ k _. stays d.clock (omega arith)) len s (gives (λ u. eqb u s))

  group-after : (len set : ℕ) → After (group len set)
  unfolding due
  group-after len set =
      group-due N M L.number L.ceiling d L.history
      (λ y. EndsParted (note_desk (group len set) y.answer L.number d).clock (feed (group len set) y.answer L.history).sealed)
      (λ k _. stays d.clock (omega arith)) len set (gives (λ u. member u set))

  call-after : (c : Call) → d.clock ≤ (note_desk c (told c) L.number d).clock → After c
  call-after (begin s) l = quiet (is Start (told (begin s))) _ _ l refl
  call-after (read s r) l = stays _ l
  call-after (write s r ws) l = go (is Ok (told (write s r ws)))
    where
      go : (b : Bool) → EndsParted (note_desk (write s r ws) (told (write s r ws)) L.number d).clock
          (cond b (drafted s (put r ws (L.history.draft s)) L.history) (cond (refused_by 7 (told (write s r ws))) (drafted s [] L.history) L.history)).sealed
      go true = stays _ l
      go false = quiet (refused_by 7 (told (write s r ws))) _ _ l refl
  call-after (abandon s) l = quiet (is Ok (told (abandon s))) _ _ l refl
  call-after (finish len s) l = go (is Sealed (told (finish len s)))
    where
      go : (b : Bool) → EndsParted (note_desk (finish len s) (told (finish len s)) L.number d).clock (cond b (sealing s L.history) L.history).sealed
      go true = grows s (L.history.draft s) _ l
      go false = stays _ l
  call-after (publish len s) l = publish-after len s
  call-after (group len set) l = group-after len set
  call-after (settle len s) l = stays _ l
  call-after (reclaim len s) l = stays _ l
  call-after (listen (Begin s)) l = quiet (is Start (told (listen (Begin s)))) _ _ l refl
  call-after (listen (Read s r)) l = stays _ l
  call-after (listen (Finish len s)) l = stays _ l
  call-after (listen (Find s k)) l = stays _ l

-- ---- a list of calls

run-parted : (N M : ℕ) (calls : List Call) (w : World) → Along N M w → EndsParted w.ledger.desk.clock w.ledger.history.sealed
    → EndsParted (run store_rules calls w).ledger.desk.clock (run store_rules calls w).ledger.history.sealed
unfolding run step note
run-parted N M [] w a o = o
run-parted N M (c ∷ cs) w a o =
    run-parted N M cs (step store_rules w c) (step-along N M w a c)
    (subst (λ (t : Told). EndsParted (note_desk c t w.ledger.number w.ledger.desk).clock (feed c t w.ledger.history).sealed) (sym (same N M w a c).answers)
    (call-after N M w.image w.ledger a.held o c
    (subst (λ (t : Told). w.ledger.desk.clock ≤ (note_desk c t w.ledger.number w.ledger.desk).clock) (same N M w a c).answers (step_stays N M w a c).clock)))

pub shared-ends : SharedEnds store_rules
shared-ends img len o calls =
    (run-parted (records_of img) (sessions_of img) calls (opened store_rules img len) (opened-along img len o) (record { parted = tt; up = tt })).parted
