-- Stores with a wrong list of active sessions, or a settle that goes by its front place alone, are not what is due.
use Prim.Native.Nat.{ℕ, zero, suc, ◌≤◌, ◌<◌}
use mathlib.Core.List.{List, [], ◌∷◌}
use mathlib.Core.Path.{◌≡◌, refl, sym, ap, ◌∙◌}
use native.Mathlib.Omega.{arith}
use lib.ListN.{get_or, replicate}
use Rattle.layout.specs.Below.{all_below, any_below, count_below, lowest}
use Rattle.layout.specs.Checks.{first, answered}
use Rattle.layout.specs.Image.{shaped_b}
use Rattle.layout.specs.Oldest.{oldest_of}
use Rattle.layout.specs.Told.{value_of}
use Rattle.desk.specs.Abandon.{abandon_fault, abandon_reply}
use Rattle.desk.specs.Begin.{begin_fault, begin_reply}
use Rattle.desk.specs.Coherent.{fresh_b, places_ok, session_ok, copies_b, coherent_b}
use Rattle.desk.specs.Desk.{order_at, idle_session, unmarked}
use Rattle.desk.specs.Entering.{session_fault, entry_fault}
use Rattle.desk.specs.declared.state.Desk.{Desk}
use Rattle.desk.specs.declared.state.Phase.TheVariants.{Active, Sealed, Published}
use Rattle.desk.specs.declared.state.Session.{Session}
use Rattle.snapshot.specs.Write.{copy_fault, write_fault, write_refused, write_reply}
use Rattle.commit.specs.Finish.{finish_fault, finish_reply}
use Rattle.commit.specs.Settle.{settle_fault, oldest_reader, settle_reply}
use Rattle.claims.specs.Edges.{desk_of, one_mark, one_copy, no_copies}
use Rattle.claims.specs.Impostors.{adds_in_front, keeps_finished, keeps_taken, blotted, leaves_gap, names_front}
use Rattle.claims.specs.Listing.{Leaves, ListDue, SettleByFront}
use Rattle.claims.specs.Refusals.{holds, first_refusal}

-- N 8, M 2, word 3 at 9; no record is marked
abbrev image : List ℕ
image = 1 ∷ 8 ∷ 2 ∷ 9 ∷ replicate 120 0

abbrev unmarked_desk : ℕ → Session → Session → Desk
unmarked_desk active x y = desk_of 3 (replicate 4 0) active x y

-- sessions 0 and 1 active, in this order
abbrev two : Desk
two =
    record {
      clock = 3;
      n = 8;
      m = 2;
      holders = replicate 256 0;
      sessions = no_copies (Active 1) ∷ no_copies (Active 1) ∷ replicate 14 idle_session;
      order = 0 ∷ 1 ∷ replicate 14 0;
    }

-- where one session is active, it is the one that leaves
only_one : (d e : Desk) (s x y : ℕ) → (l : Leaves d s e) → l.place < 1 → order_at e 0 ≡ x → order_at d 1 ≡ y → x ≡ y
only_one d e s x y l b p q = sym p ∙ l.behind 0 (omega arith) (omega arith) ∙ q

pub adds-in-front : ListDue adds_in_front → ⊥
unfolding all_below any_below count_below first answered fresh_b places_ok session_ok copies_b coherent_b session_fault begin_fault begin_reply holds first_refusal
adds-in-front h =
    let e : ◌≡◌ {A = ℕ} 0 1 = (h.begins image (unmarked_desk 0 (no_copies (Active 1)) idle_session) 1 refl refl).last in
    omega arith

pub keeps-finished : ListDue keeps_finished → ⊥
unfolding all_below any_below count_below first answered shaped_b fresh_b places_ok session_ok copies_b coherent_b entry_fault finish_fault finish_reply holds first_refusal
keeps-finished h =
    let d = unmarked_desk 1 idle_session (no_copies (Active 1)) in
    let l = h.finishes image d 48 1 refl refl in
    let e : ◌≡◌ {A = ℕ} 1 0 = only_one d _ 1 1 0 l l.used refl refl in
    omega arith

pub keeps-taken : ListDue keeps_taken → ⊥
unfolding all_below any_below count_below first answered shaped_b fresh_b places_ok session_ok copies_b coherent_b entry_fault lowest copy_fault write_fault write_refused write_reply holds first_refusal
keeps-taken h =
    let d = desk_of 3 one_mark 1 (one_copy (Sealed 1)) (no_copies (Active 1)) in
    let l = h.taken image d 1 0 (5 ∷ 6 ∷ 7 ∷ 8 ∷ []) refl refl in
    let e : ◌≡◌ {A = ℕ} 1 0 = only_one d _ 1 1 0 l l.used refl refl in
    omega arith

-- session 0 stands at place 0, so that session 1 is to move there
pub leaves-gap : ListDue leaves_gap → ⊥
unfolding all_below any_below count_below first answered fresh_b places_ok session_ok copies_b coherent_b session_fault unmarked abandon_fault abandon_reply blotted holds first_refusal
leaves-gap h =
    let l = h.abandons image two 0 refl refl in
    by_place l.place l.used l.here (l.behind 0)
  where
    by_place : (p : ℕ) → p < 2 → get_or two.order p 0 ≡ 0 → (p ≤ 0 → 0 < 15 → ◌≡◌ {A = ℕ} 0 1) → ⊥
    by_place zero u e b = let q = b (omega arith) (omega arith) in omega arith
    by_place (suc zero) u e b = omega arith
    by_place (suc (suc p)) u e b = omega arith

-- sessions 0 and 1 active with one start, session 1 first; session 2 published
abbrev published : Desk
published =
    record {
      clock = 3;
      n = 8;
      m = 3;
      holders = 3 ∷ replicate 255 0;
      sessions = no_copies (Active 1) ∷ no_copies (Active 1) ∷ one_copy (Published 2) ∷ replicate 13 idle_session;
      order = 1 ∷ 0 ∷ replicate 14 0;
    }

pub names-front : SettleByFront names_front → ⊥
unfolding all_below any_below count_below first answered shaped_b fresh_b places_ok session_ok copies_b coherent_b entry_fault settle_fault oldest_reader oldest_of settle_reply holds first_refusal
names-front h =
    let w = h.waits (1 ∷ 8 ∷ 3 ∷ 9 ∷ replicate 164 0) published 48 2 2 refl refl (omega arith) (omega arith) in
    let e : ◌≡◌ {A = ℕ} 1 w.session = ap value_of w.told in
    let l = w.oldest.lowest 1 (omega arith) refl in
    omega arith
