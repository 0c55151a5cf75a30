-- The checks that each call makes are the table's row for it.
use Prim.Native.Nat.{ℕ, zero, suc, ◌+◌, ◌<◌}
use mathlib.Core.Bool.{Bool, true, false, ◌&&◌, ◌||◌, not, cond, and-false, and-true, not-not, false≢true}
use mathlib.Core.Path.{◌≡◌, refl, sym, ap, ◌∙◌}
use mathlib.Core.List.{List, [], ◌∷◌, ◌++◌}
use native.Mathlib.Omega.{arith}
use lib.Dec.{leb, ltb, eqb, leb-suc-suc, eqb-suc-zero}
use lib.ListN.{length}
use borrow.Author.Tests.{leb-true, leb-false, lt-ltb, le-ltb, eqb-true, eqb-false, ne_eqb, le-leb, ltb-true}
use Rattle.layout.specs.Below.{all_below, any_below, lowest}
use Rattle.layout.specs.Checks.{unless, first, room_for}
use Rattle.layout.specs.Image.{records_of, ceiling_of, in_range, size_of, shaped_b, occupied_b}
use Rattle.layout.specs.Lay.{lay_fault}
use Rattle.layout.proofs.BelowLaws.{lowest-none, lowest-most, any-finds}
use Rattle.layout.proofs.ChecksLaws.{first-assoc}
use Rattle.layout.proofs.Says.{by-test, says-and, says-lt, says_eq, says_any, says-itself, says-not, says-equal}
use Rattle.desk.specs.Coherent.{limit, coherent_b, place_has}
use Rattle.desk.specs.Desk.{session_at, mark_at, copied_rec, is_active, is_sealed, is_published}
use Rattle.desk.specs.Entering.{session_fault, desk_fault, agrees_b, entry_fault, image_fault, record_fault}
use Rattle.desk.specs.Publish.{publish_fault}
use Rattle.desk.specs.Group.{member, store_fault, member_low, member_sealed, set_fault, group_fault}
use Rattle.desk.specs.declared.state.Phase.{Phase}
use Rattle.desk.specs.declared.state.Session.{Session}
use Rattle.desk.specs.declared.state.Desk.{Desk}
use Rattle.desk.proofs.Facts.{Copies}
use Rattle.desk.proofs.RecordEntered.{RecordEntered, record-entered}
use Rattle.snapshot.specs.Own.{own_place}
use Rattle.snapshot.specs.Read.{read_fault}
use Rattle.snapshot.specs.Write.{slot_empty, empty_slot, copy_fault, owns_b, write_fault}
use Rattle.snapshot.proofs.OwnPlace.{own-found}
use Rattle.commit.specs.Finish.{finish_fault}
use Rattle.commit.specs.Settle.{settle_fault}
use Rattle.commit.specs.Reclaim.{reclaim_fault}
use Rattle.recovery.specs.Open.{open_fault}
use Rattle.recovery.specs.Recover.{slots_of, unsound_place, tied_below, ties_b, recover_fault}
use Rattle.reels.specs.Reel.{shelf_b}
use Rattle.listening.specs.Listener.{no_copies, listener_fault}
use Rattle.listening.specs.Read.{listen_read_fault}
use Rattle.listening.specs.Find.{find_fault}
use Rattle.history.specs.Call.{Read, Finish, Find, read, write, finish, publish, group, settle, reclaim}
use Rattle.claims.specs.Refusals.{Cause, wrong_image, wrong_length, incoherent, other_header, short_trace, no_session, no_record, wrong_phase}
use Rattle.claims.specs.Refusals.{other_holds, fifth_record, slots_full, clock_at_limit, ceiling_at_limit, slot_occupied, log_unsound, logs_tied, out_of_range, wrong_shelf, copies_held, no_members, member_above, member_unsealed}
use Rattle.claims.specs.Refusals.{Given, number, marked_own, unsound_at, tied_at, holds, first_refusal, lay_row, open_row, recover_row, listening_row, row, of_image, of_call, given_listening, given}
use Rattle.claims.proofs.Abstraction.{lowest-is}

-- ---- checks and rows

-- no cause has the number 0
refuses : (c : Cause) (rest : ℕ) → first (number c) rest ≡ number c
unfolding first
refuses wrong_image rest = refl
refuses wrong_length rest = refl
refuses incoherent rest = refl
refuses other_header rest = refl
refuses short_trace rest = refl
refuses no_session rest = refl
refuses no_record rest = refl
refuses wrong_phase rest = refl
refuses other_holds rest = refl
refuses fifth_record rest = refl
refuses slots_full rest = refl
refuses clock_at_limit rest = refl
refuses ceiling_at_limit rest = refl
refuses slot_occupied rest = refl
refuses log_unsound rest = refl
refuses logs_tied rest = refl
refuses out_of_range rest = refl
refuses wrong_shelf rest = refl
refuses copies_held rest = refl
refuses no_members rest = refl
refuses member_above rest = refl
refuses member_unsealed rest = refl

module _ (g : Given) where
  -- a check is a row of one cause
  asks : (c : Cause) (b : Bool) → holds c g ≡ not b → unless b (number c) ≡ first_refusal (c ∷ []) g
  unfolding first_refusal
  asks c true e = rw e
  asks c false e = rw e

  -- a row in two parts
  rows : (xs ys : List Cause) → first_refusal (xs ++ ys) g ≡ first (first_refusal xs g) (first_refusal ys g)
  unfolding first_refusal first
  rows [] ys = refl
  rows (c ∷ xs) ys = go (holds c g) (rows xs ys)
    where
      go : (b : Bool) → first_refusal (xs ++ ys) g ≡ first (first_refusal xs g) (first_refusal ys g)
          → cond b (number c) (first_refusal (xs ++ ys) g) ≡ first (cond b (number c) (first_refusal xs g)) (first_refusal ys g)
      go true e = sym (refuses c (first_refusal ys g))
      go false e = e

  -- checks one after the other; the later ones count only where the first ones pass
  joined : (xs ys : List Cause) {a b : ℕ} → a ≡ first_refusal xs g → (a ≡ 0 → b ≡ first_refusal ys g) → first a b ≡ first_refusal (xs ++ ys) g
  unfolding first
  joined xs ys {a} {b} e f = go a e f ∙ sym (rows xs ys)
    where
      go : (a : ℕ) → a ≡ first_refusal xs g → (a ≡ 0 → b ≡ first_refusal ys g) → first a b ≡ first (first_refusal xs g) (first_refusal ys g)
      go zero e f = rw (← e) (f refl)
      go (suc k) e f = rw (← e)

-- ---- tests in other words

leb-not : (m n : ℕ) → leb m n ≡ not (ltb n m)
leb-not m n = by-test (leb m n) (λ e. rw (e, le-ltb n m (leb-true m n e))) (λ e. rw (e, lt-ltb n m (leb-false m n e)))

room-not : (len : ℕ) → ltb len 48 ≡ not (room_for len)
room-not len = leb-not (suc len) 48 ∙ ap not (leb-suc-suc 48 len)

or-not : (a b c : Bool) → c ≡ not b → (not a && c) ≡ not (a || b)
or-not true b c e = refl
or-not false b c e = e

-- a search finds nothing just where the test holds of no number
none_found : (p : ℕ → Bool) (n : ℕ) → any_below n p ≡ not (eqb (lowest n p) n)
none_found p n =
    by-test (eqb (lowest n p) n)
    (λ e.
    let none = lowest-none p n (eqb-true _ _ e) in
    rw (e, says-not (says_any n (λ i. says-itself (p i))) (λ r. false≢true (sym (none r.0 r.1) ∙ r.2))))
    (λ e. let l = low (eqb-false _ _ e) in rw (e, any-finds p n (lowest n p) l (lowest-is p n l).0))
  where
    low : (lowest n p ≡ n → ⊥) → lowest n p < n
    low f = omega (arith, lowest-most p n)

-- ---- the checks that calls share

-- begin and abandon: checks 2, 4 and 6
pub desk-row : (img : List ℕ) (d : Desk) (s : ℕ) (allows : Phase → Bool)
    → first (desk_fault d s) (unless (allows (session_at d s).phase) 6) ≡ first_refusal (incoherent ∷ no_session ∷ wrong_phase ∷ []) (of_call img d 0 s 0 0 allows)
unfolding session_fault holds
desk-row img d s allows =
    let g = of_call img d 0 s 0 0 allows in
    joined g (incoherent ∷ no_session ∷ []) (wrong_phase ∷ [])
    (joined g (incoherent ∷ []) (no_session ∷ []) (asks g incoherent (coherent_b d) refl) (λ z. asks g no_session (ltb s d.m) (leb-not d.m s)))
    (λ z. asks g wrong_phase (allows (session_at d s).phase) refl)

-- check 2 has two causes
two-row : (g : Given) → unless (coherent_b g.desk && agrees_b g.image g.desk.clock g.desk.n g.desk.m) 2 ≡ first_refusal (incoherent ∷ other_header ∷ []) g
unfolding holds first
two-row g =
    let agrees = agrees_b g.image g.desk.clock g.desk.n g.desk.m in
    go (coherent_b g.desk) agrees
    ∙ joined g (incoherent ∷ []) (other_header ∷ []) (asks g incoherent (coherent_b g.desk) refl) (λ z. asks g other_header agrees refl)
  where
    go : (a b : Bool) → unless (a && b) 2 ≡ first (unless a 2) (unless b 2)
    go true b = refl
    go false b = refl

-- the calls that take an image
module _ (img : List ℕ) (d : Desk) (len s r k : ℕ) (allows : Phase → Bool) where
  abbrev g : Given
  g = of_call img d len s r k allows

  -- xs is the cause of check 3, of a call that makes it
  image-row : (room : Bool) (xs : List Cause) → unless room 3 ≡ first_refusal xs g
      → image_fault img d room s ≡ first_refusal (wrong_image ∷ incoherent ∷ other_header ∷ (xs ++ (no_session ∷ []))) g
  unfolding entry_fault holds
  image-row room xs e =
      joined g (wrong_image ∷ []) (incoherent ∷ other_header ∷ (xs ++ (no_session ∷ []))) (asks g wrong_image (shaped_b img) refl)
      (λ z. joined g (incoherent ∷ other_header ∷ []) (xs ++ (no_session ∷ [])) (two-row g)
      (λ z. joined g xs (no_session ∷ []) e (λ z. asks g no_session (ltb s d.m) (leb-not d.m s))))

  -- finish, publish, settle and reclaim: checks 1 to 4
  traced-row : image_fault img d (room_for len) s ≡ first_refusal (wrong_image ∷ incoherent ∷ other_header ∷ short_trace ∷ no_session ∷ []) g
  unfolding holds
  traced-row = image-row (room_for len) (short_trace ∷ []) (asks g short_trace (room_for len) (room-not len))

  -- read and write: checks 1, 2, 4 and 5
  record-row : record_fault img d s r ≡ first_refusal (wrong_image ∷ incoherent ∷ other_header ∷ no_session ∷ no_record ∷ []) g
  unfolding first_refusal holds
  record-row =
      joined g (wrong_image ∷ incoherent ∷ other_header ∷ no_session ∷ []) (no_record ∷ []) (image-row true [] refl)
      (λ z. asks g no_record (ltb r d.n) (leb-not d.n r))

-- ---- the calls

pub lay-row : (n m : ℕ) (img : List ℕ) → lay_fault n m (length img) ≡ first_refusal lay_row (of_image img 0 n m)
unfolding lay_fault holds
lay-row n m img =
    let g = of_image img 0 n m in
    joined g (out_of_range ∷ []) (wrong_length ∷ []) (asks g out_of_range (in_range n m) refl)
    (λ z. asks g wrong_length (eqb (length img) (size_of n m)) refl)

pub open-row : (img : List ℕ) (len : ℕ) → open_fault img len ≡ first_refusal open_row (of_image img len 0 0)
unfolding open_fault holds
open-row img len =
    let g = of_image img len 0 0 in
    joined g (wrong_image ∷ []) (short_trace ∷ slot_occupied ∷ ceiling_at_limit ∷ []) (asks g wrong_image (shaped_b img) refl)
    (λ z. joined g (short_trace ∷ []) (slot_occupied ∷ ceiling_at_limit ∷ []) (asks g short_trace (room_for len) (room-not len))
    (λ z. joined g (slot_occupied ∷ []) (ceiling_at_limit ∷ [])
    (asks g slot_occupied (not (occupied_b img (records_of img) (slots_of img))) (sym (not-not _)))
    (λ z. asks g ceiling_at_limit (ltb (ceiling_of img) limit) (leb-not limit (ceiling_of img)))))

pub recover-row : (img : List ℕ) (len : ℕ) → recover_fault img len ≡ first_refusal recover_row (of_image img len 0 0)
unfolding recover_fault unsound_place ties_b tied_below holds
recover-row img len =
    let g = of_image img len 0 0 in
    joined g (wrong_image ∷ []) (short_trace ∷ log_unsound ∷ logs_tied ∷ []) (asks g wrong_image (shaped_b img) refl)
    (λ z. joined g (short_trace ∷ []) (log_unsound ∷ logs_tied ∷ []) (asks g short_trace (room_for len) (room-not len))
    (λ z. joined g (log_unsound ∷ []) (logs_tied ∷ [])
    (asks g log_unsound (eqb (lowest (slots_of img) (unsound_at img)) (slots_of img)) (none_found (unsound_at img) (slots_of img)))
    (λ z. asks g logs_tied (not (any_below (slots_of img) (λ p. any_below p (tied_at img p)))) (sym (not-not _)))))

pub finish-row : (img : List ℕ) (d : Desk) (len s : ℕ) → finish_fault img d len s ≡ first_refusal (row (finish len s)) (given img d (finish len s))
unfolding finish_fault holds
finish-row img d len s =
    let g = given img d (finish len s) in
    joined g (wrong_image ∷ incoherent ∷ other_header ∷ short_trace ∷ no_session ∷ []) (wrong_phase ∷ clock_at_limit ∷ [])
    (traced-row img d len s 0 0 is_active)
    (λ z. joined g (wrong_phase ∷ []) (clock_at_limit ∷ []) (asks g wrong_phase (is_active (session_at d s).phase) refl)
    (λ z. asks g clock_at_limit (eqb (session_at d s).count 0 || ltb d.clock limit)
    (or-not (eqb (session_at d s).count 0) (ltb d.clock limit) (leb limit d.clock) (leb-not limit d.clock))))

pub settle-row : (img : List ℕ) (d : Desk) (len s : ℕ) → settle_fault img d len s ≡ first_refusal (row (settle len s)) (given img d (settle len s))
unfolding settle_fault holds
settle-row img d len s =
    let g = given img d (settle len s) in
    joined g (wrong_image ∷ incoherent ∷ other_header ∷ short_trace ∷ no_session ∷ []) (wrong_phase ∷ []) (traced-row img d len s 0 0 is_published)
    (λ z. asks g wrong_phase (is_published (session_at d s).phase) refl)

pub publish-row : (img : List ℕ) (d : Desk) (len s : ℕ) → publish_fault img d len s ≡ first_refusal (row (publish len s)) (given img d (publish len s))
unfolding publish_fault holds
publish-row img d len s =
    let g = given img d (publish len s) in
    joined g (wrong_image ∷ incoherent ∷ other_header ∷ short_trace ∷ no_session ∷ []) (wrong_phase ∷ []) (traced-row img d len s 0 0 is_sealed)
    (λ z. asks g wrong_phase (is_sealed (session_at d s).phase) refl)

-- ---- a set

-- some number fails a test just where not all pass it
some-fails : (p q : ℕ → Bool) → ((u : ℕ) → q u ≡ not (p u)) → (n : ℕ) → any_below n q ≡ not (all_below n p)
unfolding any_below all_below
some-fails p q e zero = refl
some-fails p q e (suc n) = rw (e n) (go (any_below n q) (all_below n p) (p n) (some-fails p q e n))
  where
    go : (a b c : Bool) → a ≡ not b → (a || not c) ≡ not (b && c)
    go a true c h = rw h refl
    go a false c h = rw h refl

-- a member that fails a test
member-fails : (a b c : Bool) → c ≡ not b → (a && c) ≡ not (not a || b)
member-fails true b c e = e
member-fails false b c e = refl

pub group-row : (img : List ℕ) (d : Desk) (len set : ℕ) → group_fault img d len set ≡ first_refusal (row (group len set)) (given img d (group len set))
unfolding group_fault store_fault set_fault holds
group-row img d len set =
    let g = given img d (group len set) in
    joined g (wrong_image ∷ incoherent ∷ other_header ∷ short_trace ∷ []) (no_members ∷ member_above ∷ member_unsealed ∷ [])
    (joined g (wrong_image ∷ []) (incoherent ∷ other_header ∷ short_trace ∷ []) (asks g wrong_image (shaped_b img) refl)
    (λ z. joined g (incoherent ∷ other_header ∷ []) (short_trace ∷ []) (two-row g) (λ y. asks g short_trace (room_for len) (room-not len))))
    (λ z. joined g (no_members ∷ []) (member_above ∷ member_unsealed ∷ []) (asks g no_members (any_below 16 (λ s. member s set)) refl)
    (λ y. joined g (member_above ∷ []) (member_unsealed ∷ [])
    (asks g member_above (all_below 16 (member_low d set))
    (some-fails (member_low d set) _ (λ u. member-fails (member u set) (ltb u d.m) (leb d.m u) (leb-not d.m u)) 16))
    (λ x. asks g member_unsealed (all_below 16 (member_sealed d set))
    (some-fails (member_sealed d set) _ (λ u. member-fails (member u set) (is_sealed (session_at d u).phase) (not (is_sealed (session_at d u).phase)) refl) 16))))

pub reclaim-row : (img : List ℕ) (d : Desk) (len s : ℕ) → reclaim_fault img d len s ≡ first_refusal (row (reclaim len s)) (given img d (reclaim len s))
unfolding reclaim_fault
reclaim-row img d len s = traced-row img d len s 0 0 (λ p. true)

pub read-row : (img : List ℕ) (d : Desk) (s r : ℕ) → read_fault img d s r ≡ first_refusal (row (read s r)) (given img d (read s r))
unfolding read_fault holds
read-row img d s r =
    let g = given img d (read s r) in
    sym (first-assoc (image_fault img d true s) _ _)
    ∙ joined g (wrong_image ∷ incoherent ∷ other_header ∷ no_session ∷ no_record ∷ []) (wrong_phase ∷ []) (record-row img d 0 s r 0 is_active)
    (λ z. asks g wrong_phase (is_active (session_at d s).phase) refl)

-- ---- the listening room

-- finish and find past the checks of an image: 6 and 18
listener-row : (img : List ℕ) (d : Desk) (len s k : ℕ)
    → first (unless (is_active (session_at d s).phase) 6) (unless (no_copies d s) 18) ≡ first_refusal (wrong_phase ∷ copies_held ∷ []) (of_call img d len s 0 k is_active)
unfolding holds
listener-row img d len s k =
    let g = of_call img d len s 0 k is_active in
    joined g (wrong_phase ∷ []) (copies_held ∷ []) (asks g wrong_phase (is_active (session_at d s).phase) refl) (λ z. asks g copies_held (no_copies d s) refl)

pub listen-read-row : (img : List ℕ) (d : Desk) (s r : ℕ) → listen_read_fault img d s r ≡ first_refusal (listening_row (Read s r)) (given_listening img d (Read s r))
unfolding listen_read_fault holds
listen-read-row img d s r =
    let g = given_listening img d (Read s r) in
    joined g (row (read s r)) (copies_held ∷ []) (read-row img d s r) (λ z. asks g copies_held (no_copies d s) refl)

pub listen-finish-row : (img : List ℕ) (d : Desk) (len s : ℕ)
    → listener_fault img d (room_for len) s ≡ first_refusal (listening_row (Finish len s)) (given_listening img d (Finish len s))
unfolding listener_fault
listen-finish-row img d len s =
    joined (given_listening img d (Finish len s)) (wrong_image ∷ incoherent ∷ other_header ∷ short_trace ∷ no_session ∷ []) (wrong_phase ∷ copies_held ∷ [])
    (traced-row img d len s 0 0 is_active) (λ z. listener-row img d len s 0)

pub find-row : (img : List ℕ) (d : Desk) (s k : ℕ) → find_fault img d s k ≡ first_refusal (listening_row (Find s k)) (given_listening img d (Find s k))
unfolding find_fault listener_fault holds first_refusal
find-row img d s k =
    let g = given_listening img d (Find s k) in
    joined g (wrong_shelf ∷ []) (wrong_image ∷ incoherent ∷ other_header ∷ no_session ∷ wrong_phase ∷ copies_held ∷ []) (asks g wrong_shelf (shelf_b k) refl)
    (λ z. joined g (wrong_image ∷ incoherent ∷ other_header ∷ no_session ∷ []) (wrong_phase ∷ copies_held ∷ []) (image-row img d 0 s 0 k is_active true [] refl)
    (λ y. listener-row img d 0 s k))

-- ---- write

-- first write, both slots occupied
both-full : (count : ℕ) (free : ℕ → Bool) → (eqb count 0 && not (free 0) && not (free 1)) ≡ not (leb 1 count || ltb (lowest 2 free) 2)
unfolding lowest
both-full zero free = go (free 0) (free 1)
  where
    go : (a b : Bool) → (not a && not b) ≡ not (ltb (cond (ltb (cond a 0 1) 1) (cond a 0 1) (cond b 1 2)) 2)
    go true b = refl
    go false true = refl
    go false false = refl
both-full (suc k) free = rw (eqb-suc-zero k, le-leb 1 (suc k) (omega arith))

module _ (img : List ℕ) (d : Desk) (s r : ℕ) (h : RecordEntered img d s r) where
  abbrev e : Session
  e = session_at d s

  -- an own place has the record
  own-copies : own_place e r < 4 → Copies e r
  own-copies l =
      (own_place e r, l, (says-and (says-lt (own_place e r) e.count) (says_eq (copied_rec e (own_place e r)) r)).yes (lowest-is (place_has e r) 4 l).0)

  -- the session copies the record just where the mark names it
  own-marked : owns_b d s r ≡ marked_own (mark_at d r) s
  own-marked =
      let m = (h.session.coherent.marks r h.small).0.1 s h.session.small in
      says-equal (says-lt (own_place e r) 4) (says_eq (mark_at d r) (s + 1)) (λ l. m.1 (own-copies l)) (λ q. own-found e r (m.0 q))

  -- checks 7 to 9, which are not made of a record that the session copies
  copy-row : cond (owns_b d s r) 0 (copy_fault (mark_at d r) e.count (empty_slot img d.n s))
      ≡ first_refusal (other_holds ∷ fifth_record ∷ slots_full ∷ []) (of_call img d 0 s r 0 is_active)
  unfolding copy_fault holds first_refusal
  copy-row = by-test (owns_b d s r) (λ t. rw t (own t)) (λ t. rw t (other t))
    where
      g : Given
      g = of_call img d 0 s r 0 is_active

      own : owns_b d s r ≡ true → 0 ≡ first_refusal (other_holds ∷ fifth_record ∷ slots_full ∷ []) g
      own t =
          let m = sym own-marked ∙ t in
          let c = own-copies (ltb-true _ _ t) in
          let some : eqb e.count 0 ≡ false = ne_eqb e.count 0 (λ z. omega (arith, c.2.0)) in
          rw (m, and-false (not (eqb (mark_at d r) 0)), some)

      other : owns_b d s r ≡ false
          → copy_fault (mark_at d r) e.count (empty_slot img d.n s) ≡ first_refusal (other_holds ∷ fifth_record ∷ slots_full ∷ []) g
      other t =
          let m = sym own-marked ∙ t in
          joined g (other_holds ∷ []) (fifth_record ∷ slots_full ∷ []) (asks g other_holds (eqb (mark_at d r) 0) (rw m (and-true (not (eqb (mark_at d r) 0)))))
          (λ z. joined g (fifth_record ∷ []) (slots_full ∷ []) (asks g fifth_record (ltb e.count 4) (rw m (leb-not 4 e.count)))
          (λ z. asks g slots_full (leb 1 e.count || ltb (empty_slot img d.n s) 2) (both-full e.count (slot_empty img d.n s))))

pub write-row : (img : List ℕ) (d : Desk) (s r : ℕ) (ws : List ℕ) → write_fault img d s r ≡ first_refusal (row (write s r ws)) (given img d (write s r ws))
unfolding write_fault holds
write-row img d s r ws =
    let g = given img d (write s r ws) in
    sym (first-assoc (image_fault img d true s) _ _)
    ∙ joined g (wrong_image ∷ incoherent ∷ other_header ∷ no_session ∷ no_record ∷ []) (wrong_phase ∷ other_holds ∷ fifth_record ∷ slots_full ∷ [])
    (record-row img d 0 s r 0 is_active)
    (λ z. joined g (wrong_phase ∷ []) (other_holds ∷ fifth_record ∷ slots_full ∷ []) (asks g wrong_phase (is_active (session_at d s).phase) refl)
    (λ y. copy-row img d s r (record-entered img d s r z)))
