-- The impostors fail on short computed runs. Where an impostor does what the store does, its run is the one that is due, which is computed
-- from the ledger alone.
use Prim.Native.Nat.{ℕ, zero, suc, ◌-◌, ◌<◌}
use mathlib.Core.Bool.{Bool, true, false, cond, ◌&&◌, not, false≢true}
use mathlib.Core.List.{List, [], ◌∷◌, ◌++◌, append-nil, append_assoc}
use mathlib.Core.Option.{some}
use mathlib.Core.Path.{◌≡◌, refl, sym, ap, ◌∙◌, subst, fun_ext}
use native.Mathlib.Omega.{arith}
use borrow.Author.Tests.{eqb-true, eqb-false, lt-ltb}
use lib.ListN.{length, get_or, take, set}
use lib.Dec.{eqb, ltb}
use Rattle.layout.proofs.BelowLaws.{lowest-some}
use Rattle.layout.specs.Below.{all_below, any_below, count_below, lowest}
use Rattle.layout.specs.Checks.{first, answered}
use Rattle.layout.specs.Crash.{arrived}
use Rattle.layout.specs.Entries.{Entry, store, fence, made, ends_fenced}
use Rattle.layout.specs.Homes.{homes_writes}
use Rattle.layout.specs.Image.{shaped_b, occupied_b, home_words, slot_at}
use Rattle.layout.specs.Lay.{empty_image}
use Rattle.layout.specs.Told.{Told, ok, start, copied, home, wait, nothing, held, clean, replayed, found_at, code_told, is, is_refusal, refused_by, value_of, words_told, None}
use Rattle.layout.proofs.Says.{by-test}
use Rattle.journal.specs.Changes.{changes_of, changes_below}
use Rattle.journal.specs.Log.{pairs_writes, denoted, body_writes, short_writes, unsound_b, shared_b}
use Rattle.layout.specs.Oldest.{oldest_of}
use Rattle.desk.specs.Coherent.{fresh_b, places_ok, session_ok, copies_b, coherent_b}
use Rattle.desk.specs.Desk.{session_at, mark_at, is_sealed, idle_session, start_of}
use Rattle.desk.specs.Begin.{begin_fault, begin_refused, begun, begin_reply}
use Rattle.desk.specs.Entering.{entry_fault}
use Rattle.desk.specs.Group.{member, store_fault, set_fault, group_fault, group_entries, group_reply}
use Rattle.desk.specs.Publish.{publish_fault, publish_entries, publish_reply}
use Rattle.desk.specs.Told.{begin_told}
use Rattle.desk.specs.declared.state.Phase.{Phase}
use Rattle.desk.specs.declared.state.Phase.TheVariants.{Idle, Active, Sealed, Published}
use Rattle.desk.specs.declared.state.Desk.{Desk}
use Rattle.layout.specs.Tidy.{Tidy}
use Rattle.commit.specs.Finish.{finish_fault}
use Rattle.commit.specs.Settle.{end_of, start_below, starts_for}
use Rattle.commit.specs.Reclaim.{clear_entries}
use Rattle.recovery.specs.Open.{open_fault, open_entries, open_reply}
use Rattle.recovery.specs.Recover.{unsound_place, tied_below, ties_b, recover_fault, first_log, recover_refused, recover_reply, recover_entries}
use Rattle.history.specs.Call.{Begin, Find, Call, begin, read, write, finish, publish, group, settle, reclaim, listen}
use Rattle.history.specs.Desk.{Copy, Session as Txn, idle, active, sealed, published, Desk as Txns, upd, first_of, holder}
use Rattle.history.specs.Due.{raise_stores, smallest, due}
use Rattle.history.specs.Cut.{feed_cut}
use Rattle.history.specs.History.{History, feed}
use Rattle.history.specs.Ledger.{Ledger, note}
use Rattle.history.specs.Looks.{Looks}
use Rattle.claims.specs.Rules.{Reply, Rules, searching, store_rules}
use Rattle.claims.specs.Run.{World, opened, open_ledger, reply, step, run, stored, since_opening}
use Rattle.claims.specs.Recovery.{replays, after_calls, after_stop, after_attempts, after_whole, Ends}
use Rattle.claims.specs.Demands.{Demand2, OpeningStores, PublishStores, StoresDue, Demand3, Cut, during, cut_image, cut_history, FindRight, Recovered}
use Rattle.claims.specs.Edges.{desk_of, one_mark, one_copy}
use Rattle.claims.specs.Lives.{Life, AllCome, after_life, after_lives}
use Rattle.claims.specs.Recovering.{PairsHome, RecoverDue}
use Rattle.claims.specs.Refusals.{holds, first_refusal}
use Rattle.claims.specs.Fresh.{number_given, Gives, Fresh}
use Rattle.claims.specs.Together.{GroupStores}
use Rattle.claims.specs.Impostors.{one_by_one, in_turn, ends_in_turn, ticking_for_each, ticks_for_each, first_alone, ends_first_alone, showing_later, shows_later, publishes_some}
use Rattle.claims.specs.Impostors.{Impostors, Change, kind_of, past, telling, relisting, zeroing, miscounting, clearing_early, waiting_for_all, showing_sealed, busy_other, held_sealed, sealed_copy, turns_away, waits_at_once, holds_at_once, reads_zeros, zeroed, does_nothing, stores_nothing, says_clean, clearing, clears_others, without_last, unfenced_at, replays_one, miscounts, unfenced, one_group, session_order, clears_early, waits_for_all, shows_sealed, naming_by, names, lowest_reader, last_reader, newest_reader, as_read, as_home, Search, first_end, last_end, early_end, finding_by, finds_by, opening_by, clock_alone, without_pair, loses_pair, exchanged, writes_in_order, without_pairs, compares_with_own, in_full, full_where_same, clears_short, replays_backwards, recovers_unfenced, full_alone, differing, settling_changed, settles_changed}
use Rattle.claims.proofs.Abstraction.{txn-of, copies_of, pack, marked}
use Rattle.claims.proofs.Entering.{holder-named}
use Rattle.claims.proofs.Along.{Along, same, step-along, run_along, opened-along, call-fenced}
use Rattle.claims.proofs.Lists.{lists}
use Rattle.claims.proofs.ListImpostors.{adds-in-front, keeps-finished, keeps-taken, leaves-gap, names-front}

-- ---- what is due along a run

-- a store of two records and four sessions
abbrev image : List ℕ
image = empty_image 2 4

-- image and ledger
record Seen : Type 0 where
  image : List ℕ
  ledger : Ledger

abbrev shown : World → Seen
shown w = record { image = w.image; ledger = w.ledger }

abbrev next : Seen → Call → Seen
next v c = record { image = made (due 2 4 v.ledger c).entries v.image; ledger = note c (due 2 4 v.ledger c).answer v.ledger }

seen : List Call → Seen → Seen
seen [] v = v
seen (c ∷ cs) v = seen cs (next v c)

-- and all that is stored
due-stored : List Call → Seen → List Entry
due-stored [] v = []
due-stored (c ∷ cs) v = (due 2 4 v.ledger c).entries ++ due-stored cs (next v c)

step-seen : (w : World) (a : Along 2 4 w) (c : Call) → shown (step store_rules w c) ≡ next (shown w) c
unfolding step
step-seen w a c = rw ((same 2 4 w a c).stored, (same 2 4 w a c).answers) refl

run-seen : (calls : List Call) (w : World) → Along 2 4 w → shown (run store_rules calls w) ≡ seen calls (shown w)
unfolding run seen
run-seen [] w a = refl
run-seen (c ∷ cs) w a = run-seen cs (step store_rules w c) (step-along 2 4 w a c) ∙ ap (seen cs) (step-seen w a c)

stored-seen : (calls : List Call) (w : World) → Along 2 4 w → stored store_rules calls w ≡ due-stored calls (shown w)
unfolding stored due-stored
stored-seen [] w a = refl
stored-seen (c ∷ cs) w a =
    ap (λ (es : List Entry). es ++ stored store_rules cs (step store_rules w c)) (same 2 4 w a c).stored
    ∙ ap (λ (es : List Entry). (due 2 4 w.ledger c).entries ++ es) (stored-seen cs (step store_rules w c) (step-along 2 4 w a c) ∙ ap (due-stored cs) (step-seen w a c))

-- ---- from the opening

-- what is computed of an opening and of recovery
opens : (store_rules.opens image 48).told ≡ ok
unfolding all_below any_below first answered shaped_b occupied_b open_fault open_reply
opens = refl

-- the image behind it, whose ceiling is 1,025, and its ledger
abbrev first-seen : Seen
first-seen = record { image = made (raise_stores 1) image; ledger = open_ledger image }

-- the store's world after the calls, and what is due; `unfolding expected` opens all that is computed here
after : List Call → World
after calls = run store_rules calls (opened store_rules image 48)

expected : List Call → Seen
unfolding all_below any_below count_below lowest first answered shaped_b occupied_b homes_writes denoted pairs_writes body_writes short_writes changes_of changes_below unsound_b shared_b oldest_of open_fault open_entries open_reply unsound_place tied_below ties_b recover_fault first_log recover_refused recover_reply recover_entries note due smallest member reply upd first_of seen due-stored replays after_attempts clearing
expected calls = seen calls first-seen

after_is : (calls : List Call) → run store_rules calls (opened store_rules image 48) ≡ after calls
unfolding after
after_is calls = refl

along : (calls : List Call) → Along 2 4 (after calls)
unfolding after
along calls = run_along 2 4 calls _ (opened-along image 48 opens)

after-expected : (calls : List Call) → shown (after calls) ≡ expected calls
unfolding after expected
after-expected calls = run-seen calls _ (opened-along image 48 opens)

-- what the store tells and stores next
told-next : (calls : List Call) (c : Call) → (reply store_rules (after calls) c).told ≡ (due 2 4 (expected calls).ledger c).answer
told-next calls c = (same 2 4 (after calls) (along calls) c).answers ∙ ap (λ (v : Seen). (due 2 4 v.ledger c).answer) (after-expected calls)

stores-next : (calls : List Call) (c : Call) → (reply store_rules (after calls) c).entries ≡ (due 2 4 (expected calls).ledger c).entries
stores-next calls c = (same 2 4 (after calls) (along calls) c).stored ∙ ap (λ (v : Seen). (due 2 4 v.ledger c).entries) (after-expected calls)

-- ---- a run of calls on which R does what the store does

abbrev Alike : Rules → List Call → Type 0
Alike R [] = Unit {0}
Alike R (c ∷ cs) = ((w : World) → reply R w c ≡ reply store_rules w c) × Alike R cs

module _ (R : Rules) where
  alike-step : (w : World) (c : Call) → reply R w c ≡ reply store_rules w c → step R w c ≡ step store_rules w c
  unfolding step
  alike-step w c e = ap (λ (y : Reply). record { image = made y.entries w.image; desk = y.desk; ledger = note c y.told w.ledger }) e

  alike-run : (calls : List Call) (w : World) → Alike R calls → run R calls w ≡ run store_rules calls w
  unfolding run
  alike-run [] w a = refl
  alike-run (c ∷ cs) w a = alike-run cs (step R w c) a.1 ∙ ap (run store_rules cs) (alike-step w c (a.0 w))

  alike-stored : (calls : List Call) (w : World) → Alike R calls → stored R calls w ≡ stored store_rules calls w
  unfolding stored
  alike-stored [] w a = refl
  alike-stored (c ∷ cs) w a =
      ap (λ (y : Reply). y.entries ++ stored R cs (step R w c)) (a.0 w)
      ∙ ap (λ (es : List Entry). (reply store_rules w c).entries ++ es)
      (alike-stored cs (step R w c) a.1 ∙ ap (stored store_rules cs) (alike-step w c (a.0 w)))

-- ---- demand 2

-- two that differ in their result, and two that differ in their first word
unlike-told : {t u : Told} → t ≡ u → eqb (code_told t) (code_told u) ≡ false → ⊥
unlike-told e b = eqb-false _ _ b (ap code_told e)

unlike-words : {t u : Told} → t ≡ u → eqb (get_or (words_told t) 0 0) (get_or (words_told u) 0 0) ≡ false → ⊥
unlike-words e b = eqb-false _ _ b (ap (λ (t : Told). get_or (words_told t) 0 0) e)

-- a call of the kind that is changed, where the store does not refuse it
changed : (kind : ℕ) (change : Change) (calls : List Call) (c : Call) → eqb (kind_of c) kind ≡ true → is_refusal (due 2 4 (expected calls).ledger c).answer ≡ false
    → reply (past kind change) (after calls) c ≡ change (after calls).image (after calls).desk c (reply store_rules (after calls) c)
unfolding reply
changed kind change calls c k n = rw (k, ap is_refusal (told-next calls c) ∙ n) refl

-- with the store's opening
abbrev opening-as : Rules → Rules
opening-as R = record { opens = store_rules.opens; call = R.call; recover = R.recover }

module _ (R : Rules) (calls : List Call) (a : Alike (opening-as R) calls) where
  ran : run (opening-as R) calls (opened store_rules image 48) ≡ after calls
  unfolding after
  ran = alike-run (opening-as R) calls (opened store_rules image 48) a

  -- demand 2 of the call c
  answers : Demand2 (opening-as R) → (c : Call) → (reply (opening-as R) (after calls) c).told ≡ (due 2 4 (expected calls).ledger c).answer
  answers h c =
      subst (λ (w : World). (reply (opening-as R) w c).told ≡ (due 2 4 w.ledger c).answer) ran (h image 48 opens calls c)
      ∙ ap (λ (v : Seen). (due 2 4 v.ledger c).answer) (after-expected calls)

-- ---- the runs

-- session 1 writes record 0
abbrev writing : List Call
writing = begin 1 ∷ write 1 0 (5 ∷ 6 ∷ 7 ∷ 8 ∷ []) ∷ []

-- session s seals record r, with x as its first word
abbrev sealing : ℕ → ℕ → ℕ → List Call
sealing s r x = begin s ∷ write s r (x ∷ 6 ∷ 7 ∷ 8 ∷ []) ∷ finish 48 s ∷ []

-- session 1 settles record 0; then session 0 seals it, so that the older log has the higher place
abbrev publishing : List Call
publishing = sealing 1 0 5 ++ publish 48 1 ∷ []

abbrev settling : List Call
settling = publishing ++ settle 48 1 ∷ []

abbrev twice : List Call
twice = settling ++ sealing 0 0 9

-- ---- demand 2

-- demand 2 of a call that is changed
past-answers : (kind : ℕ) (change : Change) (calls : List Call) (c : Call) → eqb (kind_of c) kind ≡ true → is_refusal (due 2 4 (expected calls).ledger c).answer ≡ false
    → Alike (opening-as (past kind change)) calls → Demand2 (past kind change)
    → (change (after calls).image (after calls).desk c (reply store_rules (after calls) c)).told ≡ (due 2 4 (expected calls).ledger c).answer
past-answers kind change calls c k n a h = ap (λ (y : Reply). y.told) (sym (changed kind change calls c k n)) ∙ answers (past kind change) calls a h c

-- a start is due
turns-away : (k : ℕ) → Demand2 (turns_away k) → ⊥
unfolding expected
turns-away k h = unlike-told (answers (turns_away k) [] tt h (begin 0)) refl

-- ok is due
waits-at-once : (t : ℕ) → Demand2 (waits_at_once t) → ⊥
unfolding expected
waits-at-once t h = unlike-told (past-answers 6 (telling (wait t)) publishing (settle 48 1) refl refl (search) h) refl

-- cleared is due
holds-at-once : (p : ℕ) → Demand2 (holds_at_once p) → ⊥
unfolding expected
holds-at-once p h = unlike-told (past-answers 7 (telling (held p)) settling (reclaim 48 1) refl refl (search) h) refl

-- the own copy is due
reads-zeros : Demand2 reads_zeros → ⊥
unfolding expected
reads-zeros h = unlike-words (ap zeroed (sym (told-next writing (read 1 0))) ∙ past-answers 2 zeroing writing (read 1 0) refl refl (search) h) refl

-- a session begins twice: a start is due, then 6
does-nothing : Demand2 does_nothing → ⊥
unfolding expected run step after
does-nothing h = go (reply store_rules (after []) (begin 0)).told (told-next [] (begin 0)) (h image 48 opens (begin 0 ∷ []) (begin 0))
  where
    go : (t : Told) → t ≡ start 1 → t ≡ (due 2 4 (note (begin 0) t (open_ledger image)) (begin 0)).answer → ⊥
    go t e f = unlike-told (sym e ∙ f ∙ ap (λ (u : Told). (due 2 4 (note (begin 0) u (open_ledger image)) (begin 0)).answer) e) refl

-- the store's session is sealed where the ledger's is
sealed-phase : (p : Phase) (q n r : ℕ) (cs ds : List Copy) → txn-of p q cs ≡ sealed n r ds → is_sealed p ≡ true
sealed-phase (Sealed m) q n r cs ds e = refl
sealed-phase Idle q n r cs ds e = let z : ◌≡◌ {A = ℕ} 0 1 = cc in absurd (omega arith)
sealed-phase (Active b) q n r cs ds e = let z : ◌≡◌ {A = ℕ} 0 1 = cc in absurd (omega arith)
sealed-phase (Published m) q n r cs ds e = let z : ◌≡◌ {A = ℕ} 0 1 = cc in absurd (omega arith)

-- the store's session is the ledger's
session-after : (calls : List Call) (t : ℕ) → pack (session_at (after calls).desk t) ≡ (expected calls).ledger.desk.session t
session-after calls t = ap (λ (d : Txns). d.session t) (sym (along calls).linked) ∙ ap (λ (v : Seen). v.ledger.desk.session t) (after-expected calls)

sealed-after : (calls : List Call) (t n r : ℕ) (ds : List Copy) → (expected calls).ledger.desk.session t ≡ sealed n r ds → is_sealed (session_at (after calls).desk t).phase ≡ true
sealed-after calls t n r ds e =
    sealed-phase (session_at (after calls).desk t).phase (session_at (after calls).desk t).slot n r (copies_of (session_at (after calls).desk t)) ds
    (session-after calls t ∙ e)

-- where one session is sealed, settle waits for it
waits-sealed : (calls : List Call) (s t n r : ℕ) (ds : List Copy) → (expected calls).ledger.desk.session t ≡ sealed n r ds → t < 16 → eqb t s ≡ false
    → ltb (lowest 16 (busy_other (after calls).desk s)) 16 ≡ true
waits-sealed calls s t n r ds e l k =
    lt-ltb _ 16 (lowest-some (busy_other (after calls).desk s) 16 t l (rw (k, sealed-after calls t n r ds e) refl))

-- session 1 is sealed, and ok is due
waits-for-all : Demand2 waits_for_all → ⊥
unfolding expected
waits-for-all h =
    unlike-told
    (sym (go (reply store_rules (after calls) (settle 48 0)) (told-next calls (settle 48 0))) ∙ past-answers 6 waiting_for_all calls (settle 48 0) refl refl (search depth 9) h) refl
  where
    calls : List Call
    calls = sealing 1 0 5 ++ sealing 0 1 9 ++ publish 48 0 ∷ []

    d : Desk
    d = (after calls).desk

    go : (y : Reply) → y.told ≡ ok → (waiting_for_all (after calls).image d (settle 48 0) y).told ≡ wait (lowest 16 (busy_other d 0))
    go y e = rw (e, waits-sealed calls 0 1 _ _ _ refl (omega arith) refl) refl

-- a record that the ledger's session t holds is marked for it
mark-after : (calls : List Call) (r t : ℕ) → r < 2 → holder 4 (expected calls).ledger.desk r ≡ some t → mark_at (after calls).desk r ≡ suc t
mark-after calls r t l e =
    go (mark_at (after calls).desk r)
    (sym (holder-named 2 4 (after calls).image (after calls).desk (along calls).ready r l)
    ∙ ap (λ (d : Txns). holder 4 d r) (sym (along calls).linked)
    ∙ ap (λ (v : Seen). holder 4 v.ledger.desk r) (after-expected calls)
    ∙ e)
  where
    go : (n : ℕ) → marked n ≡ some t → n ≡ suc t
    go zero e = let z : ◌≡◌ {A = ℕ} 0 1 = cc in absurd (omega arith)
    go (suc u) e = cc

-- home is due
shows-sealed : Demand2 shows_sealed → ⊥
unfolding expected
shows-sealed h =
    unlike-told
    (sym (go (reply store_rules (after calls) (read 0 0)) (told-next calls (read 0 0))) ∙ past-answers 2 showing_sealed calls (read 0 0) refl refl (search depth 9) h) refl
  where
    calls : List Call
    calls = sealing 1 0 5 ++ begin 0 ∷ []

    d : Desk
    d = (after calls).desk

    held-sealed : held_sealed d 0 ≡ true
    held-sealed = rw (mark-after calls 0 1 (omega arith) refl, sealed-after calls 1 _ _ _ refl) refl

    go : (y : Reply) → y.told ≡ home (0 ∷ 0 ∷ 0 ∷ 0 ∷ []) → (showing_sealed (after calls).image d (read 0 0) y).told ≡ sealed_copy d 0
    go y e = rw (e, held-sealed) refl

-- ---- the reader that settle names

-- an end, and a start below it, of the ledger's sessions
abbrev end-in : Txn → ℕ
end-in idle = 0
end-in (active b q cs) = 0
end-in (sealed n q cs) = 0
end-in (published e q cs) = e

abbrev start-in : ℕ → Txn → ℕ
start-in end idle = 0
start-in end (active b q cs) = cond (ltb b end) b 0
start-in end (sealed n q cs) = 0
start-in end (published e q cs) = 0

end_same : (p : Phase) (q : ℕ) (cs : List Copy) → end_of p ≡ end-in (txn-of p q cs)
end_same Idle q cs = refl
end_same (Active b) q cs = refl
end_same (Sealed n) q cs = refl
end_same (Published e) q cs = refl

start-same : (end : ℕ) (p : Phase) (q : ℕ) (cs : List Copy) → start_below end p ≡ start-in end (txn-of p q cs)
start-same end Idle q cs = refl
start-same end (Active b) q cs = refl
start-same end (Sealed n) q cs = refl
start-same end (Published e) q cs = refl

-- demand 2 of a settle that names the session picked: it is the one that is due
named : (pick : (ℕ → ℕ) → ℕ) (calls : List Call) (s v : ℕ) → (due 2 4 (expected calls).ledger (settle 48 s)).answer ≡ wait v
    → Alike (opening-as (names pick)) calls → Demand2 (names pick)
    → pick (λ t. start-in (end-in ((expected calls).ledger.desk.session s)) ((expected calls).ledger.desk.session t)) ≡ v
named pick calls s v w a h =
    ap pick (sym (fun_ext starts))
    ∙ ap value_of (sym (go (reply store_rules (after calls) (settle 48 s)) (told-next calls (settle 48 s) ∙ w))
    ∙ past-answers 6 (naming_by pick) calls (settle 48 s) refl (ap is_refusal w) a h ∙ w)
  where
    d : Desk
    d = (after calls).desk

    starts : (t : ℕ) → starts_for (after calls).desk s t ≡ start-in (end-in ((expected calls).ledger.desk.session s)) ((expected calls).ledger.desk.session t)
    starts t =
        start-same (end_of (session_at d s).phase) (session_at d t).phase (session_at d t).slot (copies_of (session_at d t))
        ∙ rw (end_same (session_at d s).phase (session_at d s).slot (copies_of (session_at d s)), session-after calls s, session-after calls t) refl

    go : (y : Reply) → y.told ≡ wait v → (naming_by pick (after calls).image d (settle 48 s) y).told ≡ wait (pick (starts_for d s))
    go y e = rw e refl

-- session 2 reads from the start on and session 0 from the end of session 3 on, both below the end of session 1
abbrev waiting : List Call
waiting = begin 2 ∷ sealing 3 0 5 ++ publish 48 3 ∷ begin 0 ∷ sealing 1 1 9 ++ publish 48 1 ∷ []

names-lowest : Demand2 (names lowest_reader) → ⊥
unfolding expected
names-lowest h = eqb-false _ _ refl (named lowest_reader waiting 1 2 refl (search depth 14) h)

names-newest : Demand2 (names newest_reader) → ⊥
unfolding expected
names-newest h = eqb-false _ _ refl (named newest_reader waiting 1 2 refl (search depth 14) h)

-- sessions 0 and 1 have equal starts
names-last : Demand2 (names last_reader) → ⊥
unfolding expected
names-last h = eqb-false _ _ refl (named last_reader (begin 0 ∷ begin 1 ∷ sealing 2 0 5 ++ publish 48 2 ∷ []) 2 0 refl (search depth 9) h)

-- ---- demand 3

-- all that is due to be stored since the opening
abbrev since : List Call → List Entry
since calls = raise_stores 1 ++ due-stored calls first-seen

-- all that is stored, where R does what the store does
module _ (R : Rules) (calls : List Call) (a : Alike (opening-as R) calls) where
  stored-expected : since_opening (opening-as R) image 48 calls ≡ since calls
  unfolding open_entries open_fault first answered shaped_b occupied_b any_below
  stored-expected =
      ap (λ (es : List Entry). raise_stores 1 ++ es)
      (alike-stored (opening-as R) calls (opened store_rules image 48) a ∙ stored-seen calls (opened store_rules image 48) (opened-along image 48 opens))

  -- a cut in the call c behind them
  cut-expected : (c : Call) (k : ℕ) (sel : ℕ → Bool) (es : List Entry) → (reply (opening-as R) (after calls) c).entries ≡ es
      → cut_image (opening-as R) image 48 (during calls c k sel) ≡ arrived sel 0 (since calls ++ take k es) image
  cut-expected c k sel es e =
      ap (λ (xs : List Entry). arrived sel 0 (xs ++ take k (reply (opening-as R) (run (opening-as R) calls (opened store_rules image 48)) c).entries) image) stored-expected
      ∙ ap (λ (w : World). arrived sel 0 (since calls ++ take k (reply (opening-as R) w c).entries) image) (ran R calls a)
      ∙ ap (λ (xs : List Entry). arrived sel 0 (since calls ++ take k xs) image) e

  history-expected : (c : Call) (k : ℕ) (sel : ℕ → Bool) (t : Told) → (reply (opening-as R) (after calls) c).told ≡ t → (img : List ℕ) → cut_image (opening-as R) image 48 (during calls c k sel) ≡ img
      → cut_history (opening-as R) image 48 (during calls c k sel) ≡ feed_cut 2 (expected calls).ledger.desk c t img (expected calls).ledger.history
  history-expected c k sel t e img i =
      ap (λ (j : List ℕ). feed_cut 2 (run (opening-as R) calls (opened store_rules image 48)).ledger.desk c (reply (opening-as R) (run (opening-as R) calls (opened store_rules image 48)) c).told j
      (run (opening-as R) calls (opened store_rules image 48)).ledger.history) i
      ∙ ap (λ (w : World). feed_cut 2 w.ledger.desk c (reply (opening-as R) w c).told img w.ledger.history) (ran R calls a)
      ∙ ap (λ (u : Told). feed_cut 2 (after calls).ledger.desk c u img (after calls).ledger.history) e
      ∙ ap (λ (v : Seen). feed_cut 2 v.ledger.desk c t img v.ledger.history) (after-expected calls)

-- records that differ in their first words
unlike : {xs ys : List ℕ} → xs ≡ ys → eqb (get_or xs 0 0) (get_or ys 0 0) ≡ false → ⊥
unlike e b = eqb-false _ _ b (ap (λ (l : List ℕ). get_or l 0 0) e)

-- what demand 3 says of a cut that leaves img and the history h, once whole calls of recover have come to "clean"
recovers : (R : Rules) → Demand3 (opening-as R) → (cut : Cut) (img : List ℕ) (h : History) → cut_image (opening-as R) image 48 cut ≡ img
    → cut_history (opening-as R) image 48 cut ≡ h → (whole : List ℕ) → (R.recover (after_calls (opening-as R) whole img) 48).told ≡ clean
    → Recovered (opening-as R) image img h (after_stop (opening-as R) (whole ++ (48 ∷ [])) (λ n. true) img)
unfolding after_attempts
recovers R d cut img h i e whole c =
    subst (λ (k : History). Recovered (opening-as R) image img k (after_stop (opening-as R) (whole ++ (48 ∷ [])) (λ n. true) img)) e
    (subst (λ (j : List ℕ). (R.recover (after_calls (opening-as R) whole j) 48).told ≡ clean
    → Recovered (opening-as R) image j (cut_history (opening-as R) image 48 cut) (after_stop (opening-as R) (whole ++ (48 ∷ [])) (λ n. true) j)) i
    ((d image 48 opens cut []).clean-right whole 48 (λ n. true)) c)

-- power fails between two calls
module _ (R : Rules) (calls : List Call) (a : Alike (opening-as R) calls) (b : (w : World) → (reply (opening-as R) w (begin 1)).entries ≡ []) where
  abbrev left : List ℕ
  left = arrived (λ n. true) 0 (since calls ++ []) image

  between : Demand3 (opening-as R) → (whole : List ℕ) → (R.recover (after_calls (opening-as R) whole left) 48).told ≡ clean
      → Recovered (opening-as R) image left (expected calls).ledger.history (after_stop (opening-as R) (whole ++ (48 ∷ [])) (λ n. true) left)
  between d whole c =
      recovers R d (during calls (begin 1) 0 (λ n. true)) left _ (cut-expected R calls a (begin 1) 0 (λ n. true) [] (b (after calls)))
      (history-expected R calls a (begin 1) 0 (λ n. true) _ refl left (cut-expected R calls a (begin 1) 0 (λ n. true) [] (b (after calls)))) whole c

-- nothing is restored
says-clean : Demand3 says_clean → ⊥
unfolding expected
says-clean h = unlike ((between says_clean (sealing 1 0 5) (search) (λ w. refl) h [] refl).records 0 (omega arith)) refl

-- the newer log is not replayed
clears-others : Demand3 clears_others → ⊥
unfolding expected
clears-others h = unlike ((between clears_others twice (search depth 10) (λ w. refl) h (48 ∷ []) refl).records 0 (omega arith)) refl

-- the older log is replayed last
session-order : Demand3 session_order → ⊥
unfolding expected
session-order h = unlike ((between session_order twice (search depth 10) (λ w. refl) h (48 ∷ 48 ∷ []) refl).records 0 (omega arith)) refl

-- a log is left
replays-one : Demand3 replays_one → ⊥
unfolding expected
replays-one h = unlike-told ((between replays_one twice (search depth 10) (λ w. refl) h [] refl).opens 0) refl

-- ---- a list that is changed

-- calls one after the other, by any rules
run-last : (R : Rules) (calls : List Call) (c : Call) (w : World) → run R (calls ++ (c ∷ [])) w ≡ step R (run R calls w) c
unfolding run
run-last R [] c w = refl
run-last R (x ∷ xs) c w = run-last R xs c (step R w x)

stored_last : (R : Rules) (calls : List Call) (c : Call) (w : World) → stored R (calls ++ (c ∷ [])) w ≡ stored R calls w ++ (reply R (run R calls w) c).entries
unfolding run stored
stored_last R [] c w = append-nil (reply R w c).entries
stored_last R (x ∷ xs) c w =
    ap (λ (es : List Entry). (reply R w x).entries ++ es) (stored_last R xs c (step R w x))
    ∙ sym (append_assoc (reply R w x).entries (stored R xs (step R w x)) _)

module _ (kind : ℕ) (g : List Entry → List Entry) (calls : List Call) (c : Call) (k : eqb (kind_of c) kind ≡ true)
    (n : is_refusal (due 2 4 (expected calls).ledger c).answer ≡ false) (a : Alike (opening-as (past kind (relisting g))) calls) where
  abbrev Q : Rules
  Q = opening-as (past kind (relisting g))

  -- the call tells what is due
  relisted-told : (reply Q (after calls) c).told ≡ (due 2 4 (expected calls).ledger c).answer
  relisted-told = ap (λ (y : Reply). y.told) (changed kind (relisting g) calls c k n) ∙ told-next calls c

  -- and stores the changed list
  relisted-entries : (reply Q (after calls) c).entries ≡ g (due 2 4 (expected calls).ledger c).entries
  relisted-entries = ap (λ (y : Reply). y.entries) (changed kind (relisting g) calls c k n) ∙ ap g (stores-next calls c)

  relisted-stored : since_opening Q image 48 (calls ++ (c ∷ [])) ≡ since calls ++ g (due 2 4 (expected calls).ledger c).entries
  relisted-stored =
      ap (λ (es : List Entry). open_entries image 48 ++ es) (stored_last Q calls c (opened store_rules image 48))
      ∙ sym (append_assoc (open_entries image 48) (stored Q calls (opened store_rules image 48)) _)
      ∙ ap (λ (es : List Entry). es ++ (reply Q (run Q calls (opened store_rules image 48)) c).entries) (stored-expected (past kind (relisting g)) calls a)
      ∙ ap (λ (w : World). since calls ++ (reply Q w c).entries) (ran (past kind (relisting g)) calls a)
      ∙ ap (λ (es : List Entry). since calls ++ es) relisted-entries

  -- power fails behind it, and of what no fence follows nothing has arrived
  abbrev behind : Cut
  behind = during (calls ++ (c ∷ [])) (begin 0) 0 (λ i. false)

  abbrev left_behind : List ℕ
  left_behind = arrived (λ i. false) 0 ((since calls ++ g (due 2 4 (expected calls).ledger c).entries) ++ []) image

  behind-history : cut_history Q image 48 behind ≡ feed c (due 2 4 (expected calls).ledger c).answer (expected calls).ledger.history
  unfolding step note
  behind-history =
      ap (λ (w : World). w.ledger.history) (run-last Q calls c (opened store_rules image 48))
      ∙ ap (λ (w : World). feed c (reply Q w c).told w.ledger.history) (ran (past kind (relisting g)) calls a)
      ∙ ap (λ (t : Told). feed c t (after calls).ledger.history) relisted-told
      ∙ ap (λ (v : Seen). feed c (due 2 4 (expected calls).ledger c).answer v.ledger.history) (after-expected calls)

  recovers-behind : Demand3 Q → (whole : List ℕ) → (Q.recover (after_calls Q whole left_behind) 48).told ≡ clean
      → Recovered Q image left_behind (feed c (due 2 4 (expected calls).ledger c).answer (expected calls).ledger.history)
      (after_stop Q (whole ++ (48 ∷ [])) (λ i. true) left_behind)
  unfolding reply
  recovers-behind d whole e =
      recovers (past kind (relisting g)) d behind left_behind _
      (ap (λ (es : List Entry). arrived (λ i. false) 0 (es ++ take 0 (reply Q (run Q (calls ++ (c ∷ [])) (opened store_rules image 48)) (begin 0)).entries) image) relisted-stored)
      behind-history whole e

-- nothing is stored
stores-nothing : Demand3 stores_nothing → ⊥
unfolding expected
stores-nothing h = unlike ((recovers-behind 4 (λ es. []) writing (finish 48 1) refl refl (search) h [] refl).records 0 (omega arith)) refl

-- the persist number has not arrived
finish-unfenced : Demand3 (unfenced_at 4) → ⊥
unfolding expected
finish-unfenced h = unlike ((recovers-behind 4 without_last writing (finish 48 1) refl refl (search) h [] refl).records 0 (omega arith)) refl

-- recovery does not come to its end where recover refuses
stuck : (R : Rules) (img : List ℕ) → is_refusal (R.recover img 48).told ≡ true → Ends R (λ i. 0) img → ⊥
unfolding after_whole
stuck R img b e = go e.calls e.replayed-each e.then-clean
  where
    no : {t : Told} → is_refusal t ≡ true → (u : Told) → is_refusal u ≡ false → t ≡ u → ⊥
    no b u f q = false≢true (sym f ∙ ap is_refusal (sym q) ∙ b)

    go : (n : ℕ) → ((i : ℕ) → i < n → (p : ℕ) × ((R.recover (after_whole R (λ i. 0) i img) 48).told ≡ replayed p))
        → (R.recover (after_whole R (λ i. 0) n img) 48).told ≡ clean → ⊥
    go zero each last = no b clean refl last
    go (suc n) each last = no b (replayed _) refl (each 0 (omega arith)).1

-- of the log only the persist number has arrived
one-group : Demand3 one_group → ⊥
unfolding expected
one-group h = stuck one_group _ refl (subst (λ (j : List ℕ). Ends one_group (λ i. 0) j) image-is ((h image 48 opens cut []).ends (λ i. 0)))
  where
    cut : Cut
    cut = during writing (finish 48 1) 7 (λ n. eqb n 8)

    image-is : cut_image one_group image 48 cut ≡ arrived (λ n. eqb n 8) 0 (since writing ++ take 7 (unfenced (due 2 4 (expected writing).ledger (finish 48 1)).entries)) image
    image-is = cut-expected one_group writing (search) (finish 48 1) 7 (λ n. eqb n 8) _ (relisted-entries 4 unfenced writing (finish 48 1) refl refl (search))

-- ---- settle without its fence

-- a fence left out changes no image
made-without : (es : List Entry) → ends_fenced es ≡ true → (img : List ℕ) → made (without_last es) img ≡ made es img
made-without [] e img = refl
made-without (store i w ∷ []) e img = absurd (false≢true e)
made-without (fence ∷ []) e img = refl
made-without (store i w ∷ x ∷ es) e img = made-without (x ∷ es) e (set img i w)
made-without (fence ∷ x ∷ es) e img = made-without (x ∷ es) e img

module _ (kind : ℕ) where
  unfenced-step : (w : World) (c : Call) → step (unfenced_at kind) w c ≡ step store_rules w c
  unfolding step reply
  unfenced-step w c =
      by-test (eqb (kind_of c) kind && not (is_refusal (store_rules.call w.image w.desk c).told))
      (λ e. rw e
      (ap (λ (img : List ℕ). record { image = img; desk = (store_rules.call w.image w.desk c).desk; ledger = note c (store_rules.call w.image w.desk c).told w.ledger })
      (made-without (store_rules.call w.image w.desk c).entries (call-fenced w c) w.image)))
      (λ e. rw e refl)

  unfenced-run : (calls : List Call) (w : World) → run (unfenced_at kind) calls w ≡ run store_rules calls w
  unfolding run
  unfenced-run [] w = refl
  unfenced-run (c ∷ cs) w = unfenced-run cs (step (unfenced_at kind) w c) ∙ ap (run store_rules cs) (unfenced-step w c)

-- the copies have not arrived at home, and 0 in the persist number has
settle-unfenced : Demand3 (unfenced_at 6) → ⊥
unfolding expected
settle-unfenced h = unlike ((recovers (unfenced_at 6) h cut _ _ image-is history-is [] refl).records 0 (omega arith)) refl
  where
    cut : Cut
    cut = during settling (reclaim 48 1) 1 (λ n. eqb n 15)

    world_is : run (unfenced_at 6) settling (opened store_rules image 48) ≡ after settling
    world_is = unfenced-run 6 settling (opened store_rules image 48) ∙ after_is settling

    image-is : cut_image (unfenced_at 6) image 48 cut
        ≡ arrived (λ n. eqb n 15) 0 ((since publishing ++ without_last (due 2 4 (expected publishing).ledger (settle 48 1)).entries)
        ++ take 1 (due 2 4 (expected settling).ledger (reclaim 48 1)).entries) image
    image-is =
        ap (λ (es : List Entry). arrived (λ n. eqb n 15) 0 (es ++ take 1 (reply (unfenced_at 6) (run (unfenced_at 6) settling (opened store_rules image 48)) (reclaim 48 1)).entries) image)
        (relisted-stored 6 without_last publishing (settle 48 1) refl refl (search))
        ∙ ap (λ (w : World). arrived (λ n. eqb n 15) 0 ((since publishing ++ without_last (due 2 4 (expected publishing).ledger (settle 48 1)).entries) ++ take 1 (reply store_rules w (reclaim 48 1)).entries) image)
        world_is
        ∙ ap (λ (es : List Entry). arrived (λ n. eqb n 15) 0 ((since publishing ++ without_last (due 2 4 (expected publishing).ledger (settle 48 1)).entries) ++ take 1 es) image)
        (stores-next settling (reclaim 48 1))

    history-is : cut_history (unfenced_at 6) image 48 cut ≡ (expected settling).ledger.history
    history-is = ap (λ (w : World). w.ledger.history) world_is ∙ ap (λ (v : Seen). v.ledger.history) (after-expected settling)

-- ---- a log that is cleared early

-- a session that is idle in the ledger is idle
idle-phase : (p : Phase) (q : ℕ) (cs : List Copy) → txn-of p q cs ≡ idle → p ≡ Idle
idle-phase Idle q cs e = refl
idle-phase (Active b) q cs e = let z : ◌≡◌ {A = ℕ} 0 1 = cc in absurd (omega arith)
idle-phase (Sealed m) q cs e = let z : ◌≡◌ {A = ℕ} 0 1 = cc in absurd (omega arith)
idle-phase (Published m) q cs e = let z : ◌≡◌ {A = ℕ} 0 1 = cc in absurd (omega arith)

-- session 0 settles too, and clears the newer log
clears-early : Demand3 clears_early → ⊥
unfolding expected
clears-early h = unlike ((recovers clears_early h cut _ _ image-is history-is (48 ∷ []) refl).records 0 (omega arith)) refl
  where
    calls : List Call
    calls = twice ++ publish 48 0 ∷ settle 48 0 ∷ []

    cut : Cut
    cut = during calls (reclaim 48 0) 2 (λ n. true)

    d : Desk
    d = (after calls).desk

    -- it is idle, and its log is in slot 0
    idle-now : (session_at d 0).phase ≡ Idle
    idle-now =
        idle-phase (session_at d 0).phase (session_at d 0).slot (copies_of (session_at d 0))
        (session-after calls 0)

    entries-are : clear_entries (after calls).image d 0 ≡ store (slot_at 2 0) 0 ∷ fence ∷ []
    entries-are = rw ((along calls).ready.n-same, idle-now, ap (λ (v : Seen). v.image) (after-expected calls)) refl

    cleared-now : (reply clears_early (after calls) (reclaim 48 0)).entries ≡ store (slot_at 2 0) 0 ∷ fence ∷ []
    cleared-now =
        ap (λ (y : Reply). y.entries) (changed 7 clearing_early calls (reclaim 48 0) refl refl)
        ∙ go (reply store_rules (after calls) (reclaim 48 0)) (told-next calls (reclaim 48 0)) ∙ entries-are
      where
        go : (y : Reply) → y.told ≡ held 1 → (clearing_early (after calls).image d (reclaim 48 0) y).entries ≡ clear_entries (after calls).image d 0
        go y e = rw e refl

    image-is : cut_image clears_early image 48 cut ≡ arrived (λ n. true) 0 (since calls ++ (store (slot_at 2 0) 0 ∷ fence ∷ [])) image
    image-is = cut-expected clears_early calls (search depth 12) (reclaim 48 0) 2 (λ n. true) _ cleared-now

    history-is : cut_history clears_early image 48 cut ≡ (expected calls).ledger.history
    history-is = history-expected clears_early calls (search depth 12) (reclaim 48 0) 2 (λ n. true) _ refl _ image-is

-- ---- find

-- session 1 publishes record 0 with x as its first word, session 2 record 1 with 5; then session 0 listens
abbrev shelving : ℕ → List Call
shelving x = sealing 1 0 x ++ publish 48 1 ∷ sealing 2 1 5 ++ publish 48 2 ∷ listen (Begin 0) ∷ []

abbrev seeking : Call
seeking = listen (Find 0 5)

-- the first of two that passes a test
first-of-two : (p : ℕ → Bool) (a b : Bool) → p 0 ≡ a → p 1 ≡ b → lowest 2 p ≡ cond a 0 (cond b 1 2)
unfolding lowest
first-of-two p true b x y = rw x refl
first-of-two p false true x y = rw (x, y) refl
first-of-two p false false x y = rw (x, y) refl

-- the test that an impostor's search makes
abbrev passes : (List ℕ → Desk → ℕ → ℕ → Told) → List Call → ℕ → Bool
passes look calls r = eqb (get_or (words_told (look (after calls).image (after calls).desk 0 r)) 0 0) 5

-- by the store's read it is what is due, by the home record what stands in the image
read-passes : (calls : List Call) (r : ℕ) → passes as_read calls r ≡ eqb (get_or (words_told (due 2 4 (expected calls).ledger (read 0 r)).answer) 0 0) 5
unfolding reply
read-passes calls r = ap (λ (t : Told). eqb (get_or (words_told t) 0 0) 5) (told-next calls (read 0 r))

home-passes : (calls : List Call) (r : ℕ) → passes as_home calls r ≡ eqb (get_or (home_words (expected calls).image r) 0 0) 5
home-passes calls r = ap (λ (v : Seen). eqb (get_or (home_words v.image r) 0 0) 5) (after-expected calls)

module _ (look : List ℕ → Desk → ℕ → ℕ → Told) (seek : ℕ → (ℕ → Bool) → Search) (calls : List Call)
    (n : is_refusal (due 2 4 (expected calls).ledger seeking).answer ≡ false) (a : Alike (opening-as (finds_by look seek)) calls) where
  -- what the impostor tells, and the records that it looks at
  abbrev tells-here : Told
  tells-here = (seek 2 (passes look calls)).told

  abbrev looks-here : Looks
  looks-here = record { number = (seek 2 (passes look calls)).number; gives = look (after calls).image (after calls).desk 0 }

  gives-here : reply (opening-as (finds_by look seek)) (after calls) seeking ≡ searching tells-here (after calls).desk looks-here
  gives-here =
      changed 19 (finding_by look seek) calls seeking refl n
      ∙ ap (λ m. searching (seek m (passes look calls)).told (after calls).desk (record { number = (seek m (passes look calls)).number; gives = look (after calls).image (after calls).desk 0 }))
      (along calls).ready.n-same

  -- demand 2
  found-due : Demand2 (finds_by look seek) → tells-here ≡ (due 2 4 (expected calls).ledger seeking).answer
  found-due h = ap (λ (y : Reply). y.told) (sym gives-here) ∙ answers (finds_by look seek) calls a h seeking

  -- demand 3, of a cut behind the search
  abbrev found-cut : Cut
  found-cut = during (calls ++ (seeking ∷ [])) (begin 0) 0 (λ i. true)

  found-history : cut_history (finds_by look seek) image 48 found-cut ≡ (expected calls).ledger.history
  unfolding step note
  found-history =
      ap (λ (w : World). w.ledger.history) (run-last (opening-as (finds_by look seek)) calls seeking (opened store_rules image 48))
      ∙ ap (λ (w : World). w.ledger.history) (ran (finds_by look seek) calls a)
      ∙ ap (λ (v : Seen). v.ledger.history) (after-expected calls)

  abbrev Finds : History → History → Told → Looks → Type 0
  Finds h g t x = FindRight h (g.start 0) 2 5 t x

  found_right : Demand3 (finds_by look seek) → Finds (expected calls).ledger.history (expected calls).ledger.history tells-here looks-here
  found_right d =
      let cut = cut_history (finds_by look seek) image 48 found-cut in
      subst (λ (v : Seen). Finds (expected calls).ledger.history v.ledger.history tells-here looks-here) (after-expected calls)
      (subst (λ (h : History). Finds h (after calls).ledger.history tells-here looks-here) found-history
      (subst (λ (y : Reply). Finds cut (after calls).ledger.history y.told y.looks) gives-here
      (subst (λ (w : World). Finds cut w.ledger.history (reply (finds_by look seek) w seeking).told (reply (finds_by look seek) w seeking).looks) (ran (finds_by look seek) calls a)
      ((d image 48 opens found-cut []).reads calls [] seeking refl))))

-- record 0 is due, by its shown copy; the home records are zeros
home-search : first_end 2 (passes as_home (shelving 5)) ≡ record { told = nothing; number = 2 }
unfolding expected
home-search = rw (first-of-two (passes as_home (shelving 5)) false false (home-passes (shelving 5) 0) (home-passes (shelving 5) 1)) refl

finds-home : Demand2 (finds_by as_home first_end) → ⊥
unfolding expected
finds-home h = unlike-told (ap (λ (x : Search). x.told) (sym home-search) ∙ found-due as_home first_end (shelving 5) refl (search depth 14) h) refl

looks-home : Demand3 (finds_by as_home first_end) → ⊥
unfolding expected
looks-home h =
    unlike
    (ap (λ (v : Seen). home_words v.image 0) (sym (after-expected (shelving 5)))
    ∙ ((found_right as_home first_end (shelving 5) refl (search depth 14) h).each 0 (omega (arith, ap (λ (x : Search). x.number) home-search))).home refl) refl

-- both records have the number
last-search : last_end 2 (passes as_read (shelving 5)) ≡ record { told = found_at 1; number = 2 }
unfolding expected
last-search = rw (first-of-two (λ r. passes as_read (shelving 5) (2 - 1 - r)) true true (read-passes (shelving 5) 1) (read-passes (shelving 5) 0)) refl

finds-last : Demand2 (finds_by as_read last_end) → ⊥
unfolding expected
finds-last h =
    eqb-false _ _ refl
    (ap value_of (ap (λ (x : Search). x.told) (sym last-search) ∙ found-due as_read last_end (shelving 5) refl (search depth 14) h))

looks-last : Demand3 (finds_by as_read last_end) → ⊥
unfolding expected
looks-last h =
    eqb-false _ _ refl
    (ap value_of (ap (λ (x : Search). x.told) (sym last-search)
    ∙ (found_right as_read last_end (shelving 5) refl (search depth 14) h).first 0 (omega (arith, ap (λ (x : Search). x.number) last-search)) (eqb-true _ 5 (read-passes (shelving 5) 0))))

-- only the last record has it
early-search : early_end 2 (passes as_read (shelving 9)) ≡ record { told = nothing; number = 1 }
unfolding expected
early-search = rw (read-passes (shelving 9) 0) refl

stops-early : Demand2 (finds_by as_read early_end) → ⊥
unfolding expected
stops-early h = unlike-told (ap (λ (x : Search). x.told) (sym early-search) ∙ found-due as_read early_end (shelving 9) refl (search depth 14) h) refl

looks-early : Demand3 (finds_by as_read early_end) → ⊥
unfolding expected
looks-early h =
    eqb-false _ _ refl
    (ap (λ (x : Search). x.number) (sym early-search)
    ∙ (found_right as_read early_end (shelving 9) refl (search depth 14) h).none (ap (λ (x : Search). is None x.told) early-search))

-- ---- short logs

-- session 1 edits one word of record 0
abbrev editing : List Call
editing = begin 1 ∷ write 1 0 (5 ∷ 0 ∷ 0 ∷ 0 ∷ []) ∷ []

-- the word is lost
loses-pair : Demand3 loses_pair → ⊥
unfolding expected
loses-pair h = unlike ((recovers-behind 4 without_pair editing (finish 48 1) refl refl (search) h (48 ∷ []) refl).records 0 (omega arith)) refl

-- the log is not replayed
clears-short : Demand3 clears_short → ⊥
unfolding expected
clears-short h = unlike ((between clears_short (editing ++ finish 48 1 ∷ []) (search) (λ w. refl) h (48 ∷ []) refl).records 0 (omega arith)) refl

-- recover refuses the log with 12
writes-in-order : Demand3 writes_in_order → ⊥
unfolding expected
writes-in-order h = stuck writes_in_order _ refl (subst (λ (j : List ℕ). Ends writes_in_order (λ i. 0) j) image-is ((h image 48 opens cut []).ends (λ i. 0)))
  where
    both : List Call
    both = begin 1 ∷ write 1 1 (7 ∷ 0 ∷ 0 ∷ 0 ∷ []) ∷ write 1 0 (8 ∷ 0 ∷ 0 ∷ 0 ∷ []) ∷ []

    cut : Cut
    cut = during both (finish 48 1) 8 (λ n. true)

    image-is : cut_image writes_in_order image 48 cut ≡ arrived (λ n. true) 0 (since both ++ take 8 (exchanged (due 2 4 (expected both).ledger (finish 48 1)).entries)) image
    image-is = cut-expected writes_in_order both (search) (finish 48 1) 8 (λ n. true) _ (relisted-entries 4 exchanged both (finish 48 1) refl refl (search))

-- nothing is restored
compares-with-own : Demand3 compares_with_own → ⊥
unfolding expected
compares-with-own h = unlike ((recovers-behind 4 without_pairs editing (finish 48 1) refl refl (search) h (48 ∷ []) refl).records 0 (omega arith)) refl

-- recover refuses the log with 12
full-alone : Demand3 full_alone → ⊥
unfolding expected
full-alone h = stuck full_alone _ refl (subst (λ (j : List ℕ). Ends full_alone (λ i. 0) j) image-is ((h image 48 opens cut []).ends (λ i. 0)))
  where
    cut : Cut
    cut = during editing (finish 48 1) 6 (λ n. true)

    image-is : cut_image full_alone image 48 cut ≡ arrived (λ n. true) 0 (since editing ++ take 6 (due 2 4 (expected editing).ledger (finish 48 1)).entries) image
    image-is = cut-expected full_alone editing (search) (finish 48 1) 6 (λ n. true) _ (stores-next editing (finish 48 1))

-- what is due of a call, where it is changed along calls that are the store's
stores-due : (R : Rules) (calls : List Call) → Alike (opening-as R) calls → StoresDue (opening-as R) → (c : Call)
    → (reply (opening-as R) (after calls) c).entries ≡ (due 2 4 (expected calls).ledger c).entries
stores-due R calls a h c =
    subst (λ (w : World). (reply (opening-as R) w c).entries ≡ (due 2 4 w.ledger c).entries) (ran R calls a) (h image 48 opens calls c)
    ∙ ap (λ (v : Seen). (due 2 4 v.ledger c).entries) (after-expected calls)

-- 16, a fence, the persist number and a fence are due
full-where-same : StoresDue full_where_same → ⊥
unfolding expected
full-where-same h =
    eqb-false _ _ refl
    (ap {B = ℕ} length (sym (relisted-entries 4 in_full same-words (finish 48 1) refl refl (search)) ∙ stores-due full_where_same same-words (search) h (finish 48 1)))
  where
    same-words : List Call
    same-words = begin 1 ∷ write 1 0 (0 ∷ 0 ∷ 0 ∷ 0 ∷ []) ∷ []

-- four words and a fence are due
settles-changed : StoresDue settles_changed → ⊥
unfolding expected
settles-changed h =
    eqb-false _ _ refl
    (ap {B = ℕ} length
    (sym (ap (λ (y : Reply). y.entries) (changed 6 settling_changed calls (settle 48 1) refl refl)
    ∙ ap (differing (after calls).image) (stores-next calls (settle 48 1))
    ∙ ap (λ (v : Seen). differing v.image (due 2 4 (expected calls).ledger (settle 48 1)).entries) (after-expected calls))
    ∙ stores-due settles_changed calls (search) h (settle 48 1)))
  where
    calls : List Call
    calls = editing ++ finish 48 1 ∷ publish 48 1 ∷ []

-- a log of two pairs, with number 1: record 0 gets 5 and 6 as its first words
abbrev two-pairs : List ℕ
two-pairs = set (set (set (set (set (set (empty_image 2 1) 12 1) 13 18) 14 0) 15 5) 16 1) 17 6

store-index : Entry → ℕ
store-index (store i w) = i
store-index fence = 0

-- what is due of its replay
pairs-due : (R : Rules) → RecoverDue R → PairsHome two-pairs 0 2 (R.recover two-pairs 48).entries
unfolding expected first_refusal holds
pairs-due R h =
    (h.replays two-pairs 48 0 refl
    (record { inside = omega arith; occupied = λ e. omega (arith, e); smallest = λ q l n. omega (arith, n); lowest = λ q l n. absurd (omega arith) })).short 2 refl

-- word 0 is due first
replays-backwards : RecoverDue replays_backwards → ⊥
unfolding expected store-index
replays-backwards h = eqb-false _ _ refl (ap store-index ((pairs-due replays_backwards h).words 0 (omega arith)))

-- five entries are due
recovers-unfenced : RecoverDue recovers_unfenced → ⊥
unfolding expected
recovers-unfenced h = eqb-false _ _ refl (pairs-due recovers_unfenced h).closes.size

-- ---- the rule of a call's list

miscounted : ((img : List ℕ) (e : Desk) (len s : ℕ)
    → Tidy (finish_fault img e len s) (miscounts.call img e (finish len s)).count (miscounts.call img e (finish len s)).entries) → ⊥
unfolding expected
miscounted h = go (store_rules.call w.image w.desk (finish 48 1)) (ap is_refusal (told-next writing (finish 48 1))) (lists.finish w.image w.desk 48 1).counted (h w.image w.desk 48 1).counted
  where
    w : World
    w = after writing

    go : (y : Reply) → is_refusal y.told ≡ false → y.count ≡ length y.entries
        → (cond (true && not (is_refusal y.told)) (miscounting w.image w.desk (finish 48 1) y) y).count ≡ length (cond (true && not (is_refusal y.told)) (miscounting w.image w.desk (finish 48 1) y) y).entries
        → ⊥
    go y b c e = let f = rw b at e in omega (arith, f, c)

-- ---- the ceiling

-- session 0 begins; then power fails, and of what no fence follows nothing has arrived
abbrev listened : Life
listened =
    record {
      trace = 48;
      cut = during (begin 0 ∷ []) (begin 1) 0 (λ n. false);
      attempts = [];
      whole = [];
      last = 48;
      arrives = λ n. true;
    }

-- whatever the opening stores, its first start is 1
starts-at : (g : List Entry → List Entry) → Gives (opening_by g) image 48 (begin 0 ∷ []) 1
unfolding expected after run
starts-at g = record { earlier = []; call = begin 0; later = []; along = refl; told = ap number_given (told-next [] (begin 0)) }

-- and the next opening finds the same image
opens-unraised : Fresh (opening_by (λ es. [])) → ⊥
unfolding expected open_entries step run stored AllCome after_life after_lives
opens-unraised h =
    h image listened [] (record { opens = opens; cleans = refl }, tt) 48 opens (begin 0 ∷ []) 1 (starts-at (λ es. [])) (starts-at (λ es. []))

opens-unfenced : Fresh (opening_by without_last) → ⊥
unfolding expected open_entries step run stored AllCome after_life after_lives
opens-unfenced h =
    h image listened [] (record { opens = opens; cleans = refl }, tt) 48 opens (begin 0 ∷ []) 1 (starts-at without_last) (starts-at without_last)

-- 1 is stored, and 1,025 is due
opens-at-clock : OpeningStores (opening_by clock_alone) → ⊥
unfolding expected open_entries
opens-at-clock h = eqb-false _ _ refl (ap word_of (h image 48 opens))
  where
    word_of : List Entry → ℕ
    word_of [] = 0
    word_of (store i w ∷ es) = w
    word_of (fence ∷ es) = 0

-- a publish that is to raise, on a store whose ceiling is its clock
publish-unraised : PublishStores (past 5 (relisting (λ es. []))) → ⊥
unfolding all_below any_below count_below first answered shaped_b fresh_b places_ok session_ok copies_b coherent_b entry_fault publish_fault publish_entries publish_reply
publish-unraised h = eqb-false _ _ refl (ap length (h (set (empty_image 8 2) 3 3) (desk_of 3 one_mark 0 (one_copy (Sealed 1)) idle_session) 48 0 refl).stores)

publish-unfenced : ((img : List ℕ) (d : Desk) (len s : ℕ)
    → Tidy (publish_fault img d len s) ((unfenced_at 5).call img d (publish len s)).count ((unfenced_at 5).call img d (publish len s)).entries) → ⊥
unfolding all_below any_below count_below first answered shaped_b fresh_b places_ok session_ok copies_b coherent_b entry_fault publish_fault publish_entries publish_reply
publish-unfenced h = false≢true (h (set (empty_image 8 2) 3 3) (desk_of 3 one_mark 0 (one_copy (Sealed 1)) idle_session) 48 0).fenced

-- ---- a set of sessions

-- sessions 0 and 1 are sealed, then published together
abbrev both : List Call
both = sealing 0 0 5 ++ sealing 1 1 9

abbrev together : Call
together = group 48 3

-- demand 2 behind calls on which R does what the store does and one more, c
module _ (R : Rules) (calls : List Call) (a : Alike (opening-as R) calls) (h : Demand2 (opening-as R)) (c : Call) where
  abbrev given : Reply
  given = reply (opening-as R) (after calls) c

  abbrev told : Told
  told = (due 2 4 (expected calls).ledger c).answer

  answers-behind : (e : Call) → (reply (opening-as R) (step (opening-as R) (after calls) c) e).told ≡ (due 2 4 (note c told (expected calls).ledger) e).answer
  unfolding step
  answers-behind e =
      subst (λ (w : World). (reply (opening-as R) w e).told ≡ (due 2 4 w.ledger e).answer)
      (run-last (opening-as R) calls c (opened store_rules image 48) ∙ ap (λ (w : World). step (opening-as R) w c) (ran R calls a))
      (h image 48 opens (calls ++ (c ∷ [])) e)
      ∙ ap (λ (t : Told). (due 2 4 (note c t (after calls).ledger) e).answer) (answers R calls a h c)
      ∙ ap (λ (v : Seen). (due 2 4 (note c told v.ledger) e).answer) (after-expected calls)

  -- a start other than the one that is due
  clock-due : ((w : World) → reply (opening-as R) w (begin 2) ≡ reply store_rules w (begin 2)) → (b : ℕ) → (due 2 4 (note c told (expected calls).ledger) (begin 2)).answer ≡ start b
      → eqb given.desk.clock b ≡ false → ⊥
  unfolding step reply begin_reply answered
  clock-due alike b s n = go (begin_fault given.desk 2) (ap (λ (y : Reply). y.told) (sym (alike (step (opening-as R) (after calls) c))) ∙ answers-behind (begin 2) ∙ s)
    where
      go : (k : ℕ) → begin_told (answered k (begin_refused given.desk) (begun given.desk 2)).answer ≡ start b → ⊥
      go zero e = eqb-false _ _ n (ap value_of e)
      go (suc k) e = unlike-told e refl

clock-after : (calls : List Call) → (after calls).desk.clock ≡ (expected calls).ledger.desk.clock
clock-after calls = ap (λ (d : Txns). d.clock) (sym (along calls).linked) ∙ ap (λ (v : Seen). v.ledger.desk.clock) (after-expected calls)

-- a group that is changed, where its clock is not the end
wrong-clock : (change : Change) → Alike (opening-as (past 20 change)) both
    → eqb (change (after both).image (after both).desk together (reply store_rules (after both) together)).desk.clock 2 ≡ false → Demand2 (past 20 change) → ⊥
unfolding expected
wrong-clock change a n h =
    clock-due (past 20 change) both a h together (λ w. refl) 2 refl (rw (changed 20 change both together refl refl) n)

ends-in-turn : (other : Change) → Demand2 (ends_in_turn other) → ⊥
unfolding expected one_by_one
ends-in-turn other h = wrong-clock (in_turn other) (search depth 9) (rw (clock-after both) refl) h

ticks-for-each : Demand2 ticks_for_each → ⊥
unfolding expected
ticks-for-each h = wrong-clock ticking_for_each (search depth 9) (rw (clock-after both) refl) h

-- session 1 is still sealed, and cannot be settled: ok is due
abbrev alone : List Call
alone = both ++ (publish 48 0 ∷ [])

after-alone : after alone ≡ step store_rules (after both) (publish 48 0)
unfolding after
after-alone = run-last store_rules both (publish 48 0) (opened store_rules image 48)

ends-first-alone : Demand2 ends_first_alone → ⊥
unfolding expected step
ends-first-alone h =
    unlike-told
    (sym (told-next alone (settle 48 1))
    ∙ ap (λ (w : World). (reply store_rules w (settle 48 1)).told) after-alone
    ∙ ap (λ (y : Reply). (store_rules.call (made y.entries (after both).image) y.desk (settle 48 1)).told) (sym (changed 20 first_alone both together refl refl))
    ∙ answers-behind ends_first_alone both (search depth 9) h together (settle 48 1))
    refl

-- to a reader that begins at once the copy is due
shows-later : Demand2 shows_later → ⊥
unfolding expected
shows-later h =
    unlike-told (sym (go (reply store_rules (after calls) (read 2 1)) (told-next calls (read 2 1))) ∙ past-answers 2 showing_later calls (read 2 1) refl refl (search depth 12) h) refl
  where
    calls : List Call
    calls = both ++ together ∷ begin 2 ∷ []

    d : Desk
    d = (after calls).desk

    ended-at : (t : ℕ) → end_of (session_at (after calls).desk t).phase ≡ end-in ((expected calls).ledger.desk.session t)
    ended-at t = end_same (session_at d t).phase (session_at d t).slot (copies_of (session_at d t)) ∙ ap end-in (session-after calls t)

    began : Txn → ℕ
    began idle = 0
    began (active b q cs) = b
    began (sealed n q cs) = 0
    began (published e q cs) = 0

    began-same : (p : Phase) (q : ℕ) (cs : List Copy) → start_of p ≡ began (txn-of p q cs)
    began-same Idle q cs = refl
    began-same (Active b) q cs = refl
    began-same (Sealed n) q cs = refl
    began-same (Published e) q cs = refl

    began-at : (t : ℕ) → start_of (session_at (after calls).desk t).phase ≡ began ((expected calls).ledger.desk.session t)
    began-at t = began-same (session_at d t).phase (session_at d t).slot (copies_of (session_at d t)) ∙ ap began (session-after calls t)

    go : (y : Reply) → y.told ≡ copied (9 ∷ 6 ∷ 7 ∷ 8 ∷ []) → (showing_later (after calls).image d (read 2 1) y).told ≡ home (home_words (after calls).image 1)
    go y e = rw (e, mark-after calls 1 1 (omega arith) refl, ended-at 1, ended-at 0, began-at 2) refl

-- session 1 is sealed, and the set is refused: the clock stays, and is the next start
publishes-some : (k set : ℕ) (other : Change) → refused_by k (due 2 4 (expected (sealing 1 1 9)).ledger (group 48 set)).answer ≡ true
    → (due 2 4 (note (group 48 set) (due 2 4 (expected (sealing 1 1 9)).ledger (group 48 set)).answer (expected (sealing 1 1 9)).ledger) (begin 2)).answer ≡ start 1
    → Demand2 (publishes_some k other) → ⊥
unfolding expected
publishes-some k set other r s h =
    clock-due (publishes_some k other) (sealing 1 1 9) (search depth 9) h (group 48 set) (λ w. refl) 1 s
    (rw (ap (refused_by k) (told-next (sealing 1 1 9) (group 48 set)) ∙ r, clock-after (sealing 1 1 9)) refl)

-- session 0 is idle
publishes-sealed : (other : Change) → Demand2 (publishes_some 6 other) → ⊥
unfolding expected
publishes-sealed other = publishes-some 6 3 other refl refl

-- session 4 is none of four
publishes-low : (other : Change) → Demand2 (publishes_some 4 other) → ⊥
unfolding expected
publishes-low other = publishes-some 4 18 other refl refl

publishes-none : (other : Change) → Demand2 (publishes_some 19 other) → ⊥
unfolding expected
publishes-none other = publishes-some 19 0 other refl refl

group-unraised : GroupStores (past 20 (relisting (λ es. []))) → ⊥
unfolding all_below any_below count_below first answered shaped_b fresh_b places_ok session_ok copies_b coherent_b member store_fault set_fault group_fault group_entries group_reply
group-unraised h =
    eqb-false _ _ refl (ap length (h (set (empty_image 8 2) 3 3) (desk_of 3 one_mark 0 (one_copy (Sealed 1)) idle_session) 48 1 refl).as-publish.stores)

group-unfenced : ((img : List ℕ) (d : Desk) (len set : ℕ)
    → Tidy (group_fault img d len set) ((unfenced_at 20).call img d (group len set)).count ((unfenced_at 20).call img d (group len set)).entries) → ⊥
unfolding all_below any_below count_below first answered shaped_b fresh_b places_ok session_ok copies_b coherent_b member store_fault set_fault group_fault group_entries group_reply
group-unfenced h = false≢true (h (set (empty_image 8 2) 3 3) (desk_of 3 one_mark 0 (one_copy (Sealed 1)) idle_session) 48 1).fenced

pub impostors : Impostors
impostors =
    record {
      turns-away = turns-away;
      waits-at-once = waits-at-once;
      holds-at-once = holds-at-once;
      reads-zeros = reads-zeros;
      does-nothing = does-nothing;
      stores-nothing = stores-nothing;
      says-clean = says-clean;
      clears-others = clears-others;
      finish-unfenced = finish-unfenced;
      settle-unfenced = settle-unfenced;
      replays-one = replays-one;
      miscounted = miscounted;
      one-group = one-group;
      session-order = session-order;
      clears-early = clears-early;
      waits-for-all = waits-for-all;
      shows-sealed = shows-sealed;
      names-lowest = names-lowest;
      names-last = names-last;
      names-newest = names-newest;
      adds-in-front = adds-in-front;
      keeps-finished = keeps-finished;
      keeps-taken = keeps-taken;
      leaves-gap = leaves-gap;
      names-front = names-front;
      finds-home = finds-home;
      finds-last = finds-last;
      stops-early = stops-early;
      looks-home = looks-home;
      looks-last = looks-last;
      looks-early = looks-early;
      ends-in-turn = ends-in-turn;
      ticks-for-each = ticks-for-each;
      ends-first-alone = ends-first-alone;
      shows-later = shows-later;
      publishes-sealed = publishes-sealed;
      publishes-low = publishes-low;
      publishes-none = publishes-none;
      group-unraised = group-unraised;
      group-unfenced = group-unfenced;
      opens-unfenced = opens-unfenced;
      opens-unraised = opens-unraised;
      opens-at-clock = opens-at-clock;
      publish-unraised = publish-unraised;
      publish-unfenced = publish-unfenced;
      loses-pair = loses-pair;
      writes-in-order = writes-in-order;
      compares-with-own = compares-with-own;
      clears-short = clears-short;
      full-alone = full-alone;
      full-where-same = full-where-same;
      settles-changed = settles-changed;
      replays-backwards = replays-backwards;
      recovers-unfenced = recovers-unfenced;
    }
