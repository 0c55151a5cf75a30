-- Document 01, "To the testers" and "Wrong turns", and wrong readings of document 02: each impostor is the store's rules with one change, and
-- does not meet the demand that it breaks. Every one opens as the store does, for without an opening there is no list of calls;
-- the openings of Req 05 list other entries.
use Rattle.std.specs.Prelude.{ℕ, zero, suc, ◌+◌, ◌-◌, Bool, ◌&&◌, ◌||◌, not, cond, List, [], ◌∷◌, ◌++◌, length, get_or, take, drop, set as put, eqb, leb, ltb}
use Rattle.layout.specs.Below.{all_below, any_below, count_below, lowest}
use Rattle.layout.specs.Entries.{Entry, store, fence, Write, stores}
use Rattle.layout.specs.Image.{word, records_of, home_words, slot_at, persist_at, occupied_at}
use Rattle.layout.specs.Oldest.{oldest_of}
use Rattle.layout.specs.Tidy.{Tidy}
use Rattle.layout.specs.Told.{Told, refused, result, refusal, copied, home, wait, nothing, held, cleared, clean, replayed, found_at, is, is_refusal, refused_by, words_told, Ok, Copy, Home, Wait, Held}
use Rattle.desk.specs.Desk.{no_session, session_at, mark_at, order_at, copy_at, is_sealed, is_published, with_phase, changed, start_of}
use Rattle.desk.specs.Publish.{ends, publish_fault}
use Rattle.desk.specs.Group.{member, group_fault}
use Rattle.desk.specs.declared.state.Phase.TheVariants.{Published}
use Rattle.desk.specs.declared.state.Session.{Session}
use Rattle.desk.specs.declared.state.Desk.{Desk}
use Rattle.snapshot.specs.Own.{own_place, zero_words}
use Rattle.snapshot.specs.Read.{holder_entry}
use Rattle.commit.specs.Finish.{finish_fault}
use Rattle.commit.specs.Settle.{end_of, starts_for}
use Rattle.commit.specs.Reclaim.{chosen, clear_entries}
use Rattle.recovery.specs.Recover.{slots_of, log_at, clean_b, first_log, replay_entries}
use Rattle.journal.specs.Log.{count_of, short_b, denoted}
use Rattle.history.specs.Call.{Listening, Begin, Read, Finish, Find, Call, begin, read, write, abandon, finish, publish, group, settle, reclaim, listen}
use Rattle.claims.specs.Rules.{Reply, Recovery, Rules, tells, searching, store_rules}
use Rattle.claims.specs.Listing.{ListDue, SettleByFront}
use Rattle.claims.specs.Demands.{Demand2, OpeningStores, PublishStores, StoresDue, Demand3}
use Rattle.claims.specs.Recovering.{RecoverDue}
use Rattle.claims.specs.Fresh.{Fresh}
use Rattle.claims.specs.Together.{GroupStores}

-- ---- the store's rules with a change

-- the kinds of calls, by the program's numbers, and from 16 on of those that the program does not take
abbrev pub listening_kind : Listening → ℕ
listening_kind (Begin s) = 16
listening_kind (Read s r) = 17
listening_kind (Finish len s) = 18
listening_kind (Find s k) = 19

abbrev pub kind_of : Call → ℕ
kind_of (begin s) = 1
kind_of (read s r) = 2
kind_of (write s r ws) = 3
kind_of (finish len s) = 4
kind_of (publish len s) = 5
kind_of (settle len s) = 6
kind_of (reclaim len s) = 7
kind_of (abandon s) = 8
kind_of (group len set) = 20
kind_of (listen c) = listening_kind c

abbrev pub listener_of : Listening → ℕ
listener_of (Begin s) = s
listener_of (Read s r) = s
listener_of (Finish len s) = s
listener_of (Find s k) = s

-- the session of a call; 16, which is none, for a group
abbrev pub session_of : Call → ℕ
session_of (begin s) = s
session_of (read s r) = s
session_of (write s r ws) = s
session_of (finish len s) = s
session_of (publish len s) = s
session_of (settle len s) = s
session_of (reclaim len s) = s
session_of (abandon s) = s
session_of (group len set) = 16
session_of (listen c) = listener_of c

-- what a call gives on an image and a desk, from what the store gives
abbrev pub Change : Type 0
Change = List ℕ → Desk → Call → Reply → Reply

abbrev pub changing : Change → Rules
changing change =
    record { opens = store_rules.opens; call = λ img d c. change img d c (store_rules.call img d c); recover = store_rules.recover }

-- a call of this kind is changed where it is not refused
abbrev pub past : ℕ → Change → Rules
past kind change =
    changing (λ img d c y. cond (eqb (kind_of c) kind && not (is_refusal y.told)) (change img d c y) y)

-- told, and nothing done
abbrev pub telling : Told → Change
telling t img d c y = tells t d

-- another list of entries, and its length as the count
abbrev pub storing : List Entry → Reply → Reply
storing es y = record { told = y.told; entries = es; count = length es; desk = y.desk; looks = y.looks }

abbrev pub relisting : (List Entry → List Entry) → Change
relisting g img d c y = storing (g y.entries) y

-- recover, where it is not refused, gives this
abbrev pub recovering : (List ℕ → Recovery) → Rules
recovering done =
    record {
      opens = store_rules.opens;
      call = store_rules.call;
      recover = λ img len. cond (is_refusal (store_rules.recover img len).told) (store_rules.recover img len) (done img);
    }

-- told, with these entries
abbrev pub recovery : Told → List Entry → Recovery
recovery t es = record { told = t; entries = es; count = length es }

-- recover that takes the log at this place first, and lists these entries
abbrev pub replaying : (List ℕ → ℕ) → (List ℕ → List Entry) → Rules
replaying place list =
    recovering (λ img. cond (clean_b img) (recovery clean []) (recovery (replayed (persist_at img (records_of img) (place img))) (list img)))

-- ---- impostors that break demand 2

-- "a store that turns all away": every session call is refused, with whatever number
abbrev pub turns_away : ℕ → Rules
turns_away k = changing (telling (refusal k))

-- "one that answers wait at once", with whatever session
abbrev pub waits_at_once : ℕ → Rules
waits_at_once t = past 6 (telling (wait t))

-- "or held at once", with whatever number
abbrev pub holds_at_once : ℕ → Rules
holds_at_once p = past 7 (telling (held p))

-- "one that reads zeros every time"
abbrev pub zeroed : Told → Told
zeroed (refused k v) = refused k v
zeroed (result x n ws) = result x n zero_words

abbrev pub zeroing : Change
zeroing img d c y = tells (zeroed y.told) y.desk

abbrev pub reads_zeros : Rules
reads_zeros = past 2 zeroing

-- "one that does nothing": every answer is the store's, and desk and image stay
abbrev pub does_nothing : Rules
does_nothing = changing (λ img d c y. tells y.told d)

-- ---- impostors that break demand 3

-- "a finish that answers sealed and stores nothing"
abbrev pub stores_nothing : Rules
stores_nothing = past 4 (relisting (λ es. []))

-- "a recover that says clean untouched"
abbrev pub says_clean : Rules
says_clean = recovering (λ img. recovery clean [])

-- "one that replays the first log and merely clears the others": 0 goes into the persist numbers of the first k slots
unfoldable pub clearing : ℕ → ℕ → List Entry
clearing n zero = fence ∷ []
clearing n (suc k) = store (slot_at n k) 0 ∷ clearing n k

abbrev pub clears_others : Rules
clears_others =
    replaying (λ img. (first_log img).place) (λ img. replay_entries img (first_log img).place ++ clearing (records_of img) (slots_of img))

-- a finish, and a settle, that leaves out its last fence
abbrev pub without_last : List Entry → List Entry
without_last [] = []
without_last (x ∷ []) = []
without_last (x ∷ y ∷ es) = x ∷ without_last (y ∷ es)

abbrev pub unfenced_at : ℕ → Rules
unfenced_at kind = past kind (relisting without_last)

-- a recover that replays one log and answers "clean"
abbrev pub replays_one : Rules
replays_one = recovering (λ img. recovery clean (cond (clean_b img) [] (replay_entries img (first_log img).place)))

-- ---- the impostor that breaks a call's rule

-- "an entry count that isn't the length of the list": one more
abbrev pub miscounting : Change
miscounting img d c y = record { told = y.told; entries = y.entries; count = y.count + 1; desk = y.desk; looks = y.looks }

abbrev pub miscounts : Rules
miscounts = past 4 miscounting

-- ---- wrong turns

-- "storing the persist number in the fence group of the log body": the first fence is left out
abbrev pub unfenced : List Entry → List Entry
unfenced [] = []
unfenced (store i w ∷ es) = store i w ∷ unfenced es
unfenced (fence ∷ es) = es

abbrev pub one_group : Rules
one_group = past 4 (relisting unfenced)

-- "replaying in session order", the lowest occupied place first; by end number it cannot go, for a log carries none
abbrev pub lowest_log : List ℕ → ℕ
lowest_log img = lowest (slots_of img) (occupied_at img (records_of img))

abbrev pub session_order : Rules
session_order = replaying lowest_log (λ img. replay_entries img (lowest_log img))

-- "clearing a settled log while an older one is occupied": where the store says held, the log is cleared
abbrev pub clearing_early : Change
clearing_early img d c y =
    cond (is Held y.told) (storing (clear_entries img d (session_of c)) (tells (cleared (chosen img d (session_of c)).number) d)) y

abbrev pub clears_early : Rules
clears_early = past 7 clearing_early

-- "settle waiting for sealed or published sessions": the lowest other one that is sealed or published, 16 where there is none
abbrev pub busy_other : Desk → ℕ → ℕ → Bool
busy_other d s t = not (eqb t s) && (is_sealed (session_at d t).phase || is_published (session_at d t).phase)

abbrev pub waiting_for_all : Change
waiting_for_all img d c y =
    cond (is Ok y.told && ltb (lowest 16 (busy_other d (session_of c))) 16) (tells (wait (lowest 16 (busy_other d (session_of c)))) d) y

abbrev pub waits_for_all : Rules
waits_for_all = past 6 waiting_for_all

-- "showing a sealed copy before publish": where the store reads the home record of one that a sealed session holds
abbrev pub held_sealed : Desk → ℕ → Bool
held_sealed d r = not (eqb (mark_at d r) 0) && is_sealed (holder_entry d r).phase

abbrev pub record_read : Call → ℕ
record_read (begin s) = 0
record_read (read s r) = r
record_read (write s r ws) = r
record_read (finish len s) = 0
record_read (publish len s) = 0
record_read (settle len s) = 0
record_read (reclaim len s) = 0
record_read (abandon s) = 0
record_read (group len set) = 0
record_read (listen c) = 0

abbrev pub sealed_copy : Desk → ℕ → Told
sealed_copy d r = copied (copy_at (holder_entry d r) (own_place (holder_entry d r) r)).words

abbrev pub showing_sealed : Change
showing_sealed img d c y = cond (is Home y.told && held_sealed d (record_read c)) (tells (sealed_copy d (record_read c)) d) y

abbrev pub shows_sealed : Rules
shows_sealed = past 2 showing_sealed

-- ---- impostors that break document 02's Req 01

-- settle that waits where the store does, and names the session that it picks by the starts of those in the way
abbrev pub naming_by : ((ℕ → ℕ) → ℕ) → Change
naming_by pick img d c y = cond (is Wait y.told) (tells (wait (pick (starts_for d (session_of c)))) d) y

abbrev pub names : ((ℕ → ℕ) → ℕ) → Rules
names pick = past 6 (naming_by pick)

-- the lowest session in the way, as before the request
abbrev pub lowest_reader : (ℕ → ℕ) → ℕ
lowest_reader f = lowest 16 (λ t. not (eqb (f t) 0))

-- the smallest start, but the last among equals
abbrev pub last_reader : (ℕ → ℕ) → ℕ
last_reader f = 15 - (oldest_of (λ t. f (15 - t)) 16).place

-- the largest start below the end
abbrev pub newest_reader : (ℕ → ℕ) → ℕ
newest_reader f = lowest 16 (λ t. all_below 16 (λ u. leb (f u) (f t)))

-- ---- impostors that break document 02's Req 03

-- the shelf number of a find
abbrev pub sought_listening : Listening → ℕ
sought_listening (Begin s) = 0
sought_listening (Read s r) = 0
sought_listening (Finish len s) = 0
sought_listening (Find s k) = k

abbrev pub sought : Call → ℕ
sought (begin s) = 0
sought (read s r) = 0
sought (write s r ws) = 0
sought (finish len s) = 0
sought (publish len s) = 0
sought (settle len s) = 0
sought (reclaim len s) = 0
sought (abandon s) = 0
sought (group len set) = 0
sought (listen c) = sought_listening c

-- what is told of record r, by the store's read and by the home record alone
abbrev pub as_read : List ℕ → Desk → ℕ → ℕ → Told
as_read img d s r = (store_rules.call img d (read s r)).told

abbrev pub as_home : List ℕ → Desk → ℕ → ℕ → Told
as_home img d s r = home (home_words img r)

-- a search over records that ends at one of them, or says "none": what it tells, and how many records it looked at
pub record Search : Type 0 where
  pub told : Told
  pub number : ℕ

-- at the first that passes the test; at the last; and at the first, but the last record is not looked at
abbrev pub first_end : ℕ → (ℕ → Bool) → Search
first_end n p = cond (ltb (lowest n p) n) (record { told = found_at (lowest n p); number = lowest n p + 1 }) (record { told = nothing; number = n })

abbrev pub last_end : ℕ → (ℕ → Bool) → Search
last_end n p =
    record {
      told = cond (ltb (lowest n (λ r. p (n - 1 - r))) n) (found_at (n - 1 - lowest n (λ r. p (n - 1 - r)))) nothing;
      number = n;
    }

abbrev pub early_end : ℕ → (ℕ → Bool) → Search
early_end n p = first_end (n - 1) p

-- find, where the store does not refuse it, by this search among records that are looked at in this way
abbrev pub finding_by : (List ℕ → Desk → ℕ → ℕ → Told) → (ℕ → (ℕ → Bool) → Search) → Change
finding_by look seek img d c y =
    let x = seek d.n (λ r. eqb (get_or (words_told (look img d (session_of c) r)) 0 0) (sought c)) in
    searching x.told d (record { number = x.number; gives = look img d (session_of c) })

abbrev pub finds_by : (List ℕ → Desk → ℕ → ℕ → Told) → (ℕ → (ℕ → Bool) → Search) → Rules
finds_by look seek = past 19 (finding_by look seek)

-- ---- impostors that break document 02's Req 05

-- opening, with its list of entries changed
abbrev pub opening_by : (List Entry → List Entry) → Rules
opening_by g =
    record {
      opens = λ img len.
          let y = store_rules.opens img len in record { told = y.told; entries = g y.entries; count = length (g y.entries); desk = y.desk };
      call = store_rules.call;
      recover = store_rules.recover;
    }

-- word 3 is stored as the clock, not 1,024 above it
abbrev pub clock_alone : List Entry → List Entry
clock_alone [] = []
clock_alone (store i w ∷ es) = store i (w - 1024) ∷ clock_alone es
clock_alone (fence ∷ es) = fence ∷ clock_alone es

-- ---- impostors that break document 02's Req 06

-- the set of a group
abbrev pub set_of : Call → ℕ
set_of (begin s) = 0
set_of (read s r) = 0
set_of (write s r ws) = 0
set_of (finish len s) = 0
set_of (publish len s) = 0
set_of (settle len s) = 0
set_of (reclaim len s) = 0
set_of (abandon s) = 0
set_of (group len set) = set
set_of (listen c) = 0

-- the members one after the other, each with an end of its own, whatever is told and stored
unfoldable pub one_by_one : Desk → ℕ → ℕ → Desk
one_by_one d set zero = d
one_by_one d set (suc s) =
    let x = one_by_one d set s in
    cond (member s set) (changed x s (with_phase (session_at x s) (Published (x.clock + 1))) (x.clock + 1) x.holders x.order) x

abbrev pub in_turn : Change → Change
in_turn other img d c y =
    let z = other img d c y in
    record { told = z.told; entries = z.entries; count = z.count; desk = one_by_one d (set_of c) 16; looks = z.looks }

abbrev pub ends_in_turn : Change → Rules
ends_in_turn other = past 20 (in_turn other)

-- all members with one end, but the clock goes on by their number
abbrev pub ticking_for_each : Change
ticking_for_each img d c y =
    record {
      told = y.told;
      entries = y.entries;
      count = y.count;
      desk =
          record {
            clock = d.clock + count_below 16 (λ s. member s (set_of c));
            n = y.desk.n;
            m = y.desk.m;
            holders = y.desk.holders;
            sessions = y.desk.sessions;
            order = y.desk.order;
          };
      looks = y.looks;
    }

abbrev pub ticks_for_each : Rules
ticks_for_each = past 20 ticking_for_each

-- the end is told, and given to the first member alone
abbrev pub first_alone : Change
first_alone img d c y = store_rules.call img d (publish 48 (lowest 16 (λ s. member s (set_of c))))

abbrev pub ends_first_alone : Rules
ends_first_alone = past 20 first_alone

-- what the others wrote is shown only to readers that begin after a later publish: to one whose start is the end, where a lower session
-- has that end too, the home record
abbrev pub shared_below : Desk → ℕ → Bool
shared_below d r = any_below (mark_at d r - 1) (λ u. eqb (end_of (session_at d u).phase) (end_of (holder_entry d r).phase))

abbrev pub start_is_end : Desk → ℕ → ℕ → Bool
start_is_end d s r = eqb (start_of (session_at d s).phase) (end_of (holder_entry d r).phase)

abbrev pub showing_later : Change
showing_later img d c y =
    cond (is Copy y.told && (start_is_end d (session_of c) (record_read c) && shared_below d (record_read c)))
    (tells (home (home_words img (record_read c))) d) y

abbrev pub shows_later : Rules
shows_later = past 2 showing_later

-- a set that the store refuses with k: its sealed members are published, whatever is told and stored
unfoldable pub sealed_ones : List Session → ℕ → ℕ → ℕ → List Session
sealed_ones xs set e zero = xs
sealed_ones xs set e (suc s) =
    let ys = sealed_ones xs set e s in
    cond (member s set && is_sealed (get_or ys s no_session).phase) (put ys s (with_phase (get_or ys s no_session) (Published e))) ys

abbrev pub publishing_some : ℕ → Change → Change
publishing_some k other img d c y =
    let z = other img d c y in
    let left = (ends img d (sealed_ones d.sessions (set_of c) (d.clock + 1) 16)).desk in
    cond (eqb (kind_of c) 20 && refused_by k y.told) (record { told = z.told; entries = z.entries; count = z.count; desk = left; looks = z.looks }) y

abbrev pub publishes_some : ℕ → Change → Rules
publishes_some k other = changing (publishing_some k other)

-- ---- impostors that break document 02's Req 08

-- a finish that leaves the pair out of a short log of one
abbrev pub without_pair : List Entry → List Entry
without_pair [] = []
without_pair (store i w ∷ es) = cond (eqb w 17) (store i 16 ∷ drop 2 es) (store i w ∷ es)
without_pair (fence ∷ es) = fence ∷ es

abbrev pub loses_pair : Rules
loses_pair = past 4 (relisting without_pair)

-- a finish whose two pairs do not ascend, as where they stand in the order of first writes and the higher record was written first
abbrev pub placed : (ℕ → ℕ) → List Entry → List Entry
placed g [] = []
placed g (store i w ∷ es) = store (g i) w ∷ placed g es
placed g (fence ∷ es) = fence ∷ placed g es

abbrev pub exchanged : List Entry → List Entry
exchanged [] = []
exchanged (store i w ∷ es) =
    cond (eqb w 18) (store i w ∷ (placed (λ j. j - 2) (take 2 (drop 2 es)) ++ (placed (λ j. j + 2) (take 2 es) ++ drop 4 es))) (store i w ∷ es)
exchanged (fence ∷ es) = fence ∷ es

abbrev pub writes_in_order : Rules
writes_in_order = past 4 (relisting exchanged)

-- a finish that compares the copies with what the session itself reads, where nothing differs: a log without pairs
abbrev pub from_fence : List Entry → List Entry
from_fence [] = []
from_fence (store i w ∷ es) = from_fence es
from_fence (fence ∷ es) = fence ∷ es

abbrev pub without_pairs : List Entry → List Entry
without_pairs [] = []
without_pairs (store i w ∷ es) = store i 16 ∷ from_fence es
without_pairs (fence ∷ es) = fence ∷ es

abbrev pub compares_with_own : Rules
compares_with_own = past 4 (relisting without_pairs)

-- a finish that takes the full form where no word differs; here of record 0, with four zeros
abbrev pub in_full : List Entry → List Entry
in_full [] = []
in_full (store i w ∷ es) =
    cond (eqb w 16) (store i 1 ∷ store (i + 1) 0 ∷ store (i + 2) 0 ∷ store (i + 3) 0 ∷ store (i + 4) 0 ∷ store (i + 5) 0 ∷ es) (store i w ∷ es)
in_full (fence ∷ es) = fence ∷ es

abbrev pub full_where_same : Rules
full_where_same = past 4 (relisting in_full)

-- a recover that takes this list of writes, in place of what a short log denotes
abbrev pub replaying_short : (List Write → List Write) → Rules
replaying_short g =
    replaying (λ img. (first_log img).place)
    (λ img. let p = (first_log img).place in
    stores (cond (short_b (log_at img p)) (g (denoted (log_at img p))) (denoted (log_at img p))) ++ (fence ∷ store (slot_at (records_of img) p) 0 ∷ fence ∷ []))

-- none of them; and from the last to the first
abbrev pub clears_short : Rules
clears_short = replaying_short (λ ws. [])

abbrev pub backwards : List Write → List Write
backwards [] = []
backwards (x ∷ ws) = backwards ws ++ (x ∷ [])

abbrev pub replays_backwards : Rules
replays_backwards = replaying_short backwards

-- a recover that leaves out its last fence
abbrev pub recovers_unfenced : Rules
recovers_unfenced = replaying (λ img. (first_log img).place) (λ img. without_last (replay_entries img (first_log img).place))

-- a recover that takes every log for a full one, and refuses a count above 4 with 12
abbrev pub over_four : List ℕ → ℕ → Bool
over_four img p = occupied_at img (records_of img) p && ltb 4 (count_of (log_at img p))

abbrev pub full_alone : Rules
full_alone =
    record {
      opens = store_rules.opens;
      call = store_rules.call;
      recover = λ img len.
          let p = lowest (slots_of img) (over_four img) in
          cond (ltb p (slots_of img) && not (is_refusal (store_rules.recover img len).told)) (recovery (refused 12 p) []) (store_rules.recover img len);
    }

-- a settle that stores only the words that differ from home
abbrev pub differing : List ℕ → List Entry → List Entry
differing img [] = []
differing img (store i w ∷ es) = cond (eqb (word img i) w) (differing img es) (store i w ∷ differing img es)
differing img (fence ∷ es) = fence ∷ differing img es

abbrev pub settling_changed : Change
settling_changed img d c y = storing (differing img y.entries) y

abbrev pub settles_changed : Rules
settles_changed = past 6 settling_changed

-- ---- impostors that break document 02's Req 09

-- another list in the desk that is left
abbrev pub reordering : (Desk → ℕ → List ℕ) → Change
reordering list img d c y =
    record {
      told = y.told;
      entries = y.entries;
      count = y.count;
      desk =
          record {
            clock = y.desk.clock;
            n = y.desk.n;
            m = y.desk.m;
            holders = y.desk.holders;
            sessions = y.desk.sessions;
            order = list d (session_of c);
          };
      looks = y.looks;
    }

abbrev pub as_it_was : Desk → ℕ → List ℕ
as_it_was d s = d.order

-- begin puts the session in front of the others
abbrev pub adds_in_front : Rules
adds_in_front = past 1 (reordering (λ d s. s ∷ take 15 d.order))

-- finish, sealed or empty, leaves the session in the list
abbrev pub keeps_finished : Rules
keeps_finished = past 4 (reordering as_it_was)

-- a write refused with 7 leaves it there too
abbrev pub keeps_taken : Rules
keeps_taken = changing (λ img d c y. cond (eqb (kind_of c) 3 && refused_by 7 y.told) (reordering as_it_was img d c y) y)

-- abandon writes 0 over the session's place, and moves nobody up
unfoldable pub blotted : ℕ → List ℕ → List ℕ
blotted s [] = []
blotted s (x ∷ xs) = cond (eqb x s) 0 x ∷ blotted s xs

abbrev pub leaves_gap : Rules
leaves_gap = past 8 (reordering (λ d s. blotted s d.order))

-- settle names the session in front, which began first, where a lower one has an equal start
abbrev pub names_front : Rules
names_front = past 6 (λ img d c y. cond (is Wait y.told) (tells (wait (order_at d 0)) d) y)

-- ---- the claim

pub record Impostors : Type 0 where
  pub turns-away : (k : ℕ) → Demand2 (turns_away k) → ⊥
  pub waits-at-once : (t : ℕ) → Demand2 (waits_at_once t) → ⊥
  pub holds-at-once : (p : ℕ) → Demand2 (holds_at_once p) → ⊥
  pub reads-zeros : Demand2 reads_zeros → ⊥
  pub does-nothing : Demand2 does_nothing → ⊥
  pub stores-nothing : Demand3 stores_nothing → ⊥
  pub says-clean : Demand3 says_clean → ⊥
  pub clears-others : Demand3 clears_others → ⊥
  pub finish-unfenced : Demand3 (unfenced_at 4) → ⊥
  pub settle-unfenced : Demand3 (unfenced_at 6) → ⊥
  pub replays-one : Demand3 replays_one → ⊥
  -- the rule of a call's list
  pub miscounted : ((img : List ℕ) (d : Desk) (len s : ℕ)
      → Tidy (finish_fault img d len s) (miscounts.call img d (finish len s)).count (miscounts.call img d (finish len s)).entries) → ⊥
  -- the wrong turns
  pub one-group : Demand3 one_group → ⊥
  pub session-order : Demand3 session_order → ⊥
  pub clears-early : Demand3 clears_early → ⊥
  pub waits-for-all : Demand2 waits_for_all → ⊥
  pub shows-sealed : Demand2 shows_sealed → ⊥
  -- the reader that settle names
  pub names-lowest : Demand2 (names lowest_reader) → ⊥
  pub names-last : Demand2 (names last_reader) → ⊥
  pub names-newest : Demand2 (names newest_reader) → ⊥
  -- the list of active sessions, and its front
  pub adds-in-front : ListDue adds_in_front → ⊥
  pub keeps-finished : ListDue keeps_finished → ⊥
  pub keeps-taken : ListDue keeps_taken → ⊥
  pub leaves-gap : ListDue leaves_gap → ⊥
  pub names-front : SettleByFront names_front → ⊥
  -- find among home records only, the last match, and a search that stops one record early: they break demand 2 and demand 3
  pub finds-home : Demand2 (finds_by as_home first_end) → ⊥
  pub finds-last : Demand2 (finds_by as_read last_end) → ⊥
  pub stops-early : Demand2 (finds_by as_read early_end) → ⊥
  pub looks-home : Demand3 (finds_by as_home first_end) → ⊥
  pub looks-last : Demand3 (finds_by as_read last_end) → ⊥
  pub looks-early : Demand3 (finds_by as_read early_end) → ⊥
  -- a set published one after the other, whatever is told and stored; the clock moved for each member; the end for the first member alone; what
  -- the others wrote shown only after a later publish; the sealed members of a set with one that is not, or with one at M, and the clock
  -- moved for the empty set, whatever is told and stored
  pub ends-in-turn : (other : Change) → Demand2 (ends_in_turn other) → ⊥
  pub ticks-for-each : Demand2 ticks_for_each → ⊥
  pub ends-first-alone : Demand2 ends_first_alone → ⊥
  pub shows-later : Demand2 shows_later → ⊥
  pub publishes-sealed : (other : Change) → Demand2 (publishes_some 6 other) → ⊥
  pub publishes-low : (other : Change) → Demand2 (publishes_some 4 other) → ⊥
  pub publishes-none : (other : Change) → Demand2 (publishes_some 19 other) → ⊥
  -- a group that does not raise word 3, and one that leaves out the fence of its raise
  pub group-unraised : GroupStores (past 20 (relisting (λ es. []))) → ⊥
  pub group-unfenced : ((img : List ℕ) (d : Desk) (len set : ℕ)
      → Tidy (group_fault img d len set) ((unfenced_at 20).call img d (group len set)).count ((unfenced_at 20).call img d (group len set)).entries) → ⊥
  -- word 3 stored without its fence, not stored at all, and stored too low by opening; a publish that does not raise, and one that leaves
  -- out the fence of its raise
  pub opens-unfenced : Fresh (opening_by without_last) → ⊥
  pub opens-unraised : Fresh (opening_by (λ es. [])) → ⊥
  pub opens-at-clock : OpeningStores (opening_by clock_alone) → ⊥
  pub publish-unraised : PublishStores (past 5 (relisting (λ es. []))) → ⊥
  pub publish-unfenced : ((img : List ℕ) (d : Desk) (len s : ℕ)
      → Tidy (publish_fault img d len s) ((unfenced_at 5).call img d (publish len s)).count ((unfenced_at 5).call img d (publish len s)).entries) → ⊥
  -- a pair left out of a short log; pairs that do not ascend; none, since the copies are compared with themselves; a short log that is
  -- cleared, or refused as a full one
  pub loses-pair : Demand3 loses_pair → ⊥
  pub writes-in-order : Demand3 writes_in_order → ⊥
  pub compares-with-own : Demand3 compares_with_own → ⊥
  pub clears-short : Demand3 clears_short → ⊥
  pub full-alone : Demand3 full_alone → ⊥
  -- what no power failure shows: the full form where no word differs; a settle that leaves out equal words; a short log replayed from its
  -- last pair to its first; a recover without its last fence
  pub full-where-same : StoresDue full_where_same → ⊥
  pub settles-changed : StoresDue settles_changed → ⊥
  pub replays-backwards : RecoverDue replays_backwards → ⊥
  pub recovers-unfenced : RecoverDue recovers_unfenced → ⊥
