-- Document 02, Req 06 in numbers: what a group tells, lists and leaves, and what is read before it and behind it.
use Rattle.std.specs.Prelude.{ℕ, ◌+◌, ◌≡◌, cond, List, [], ◌∷◌, set, replicate}
use Rattle.layout.specs.Entries.{store, fence}
use Rattle.layout.specs.Lay.{empty_image}
use Rattle.layout.specs.Told.{Told, refusal, start, copied, home, ended_at}
use Rattle.desk.specs.Begin.{begin_reply}
use Rattle.desk.specs.Coherent.{limit}
use Rattle.desk.specs.Desk.{zero_copy, idle_session, session_at, is_active}
use Rattle.desk.specs.Group.{group_reply, group_entries}
use Rattle.desk.specs.Told.{begin_told, publish_told}
use Rattle.desk.specs.declared.state.Phase.{Phase}
use Rattle.desk.specs.declared.state.Phase.TheVariants.{Active, Sealed, Published}
use Rattle.desk.specs.declared.state.RecordCopy.{RecordCopy}
use Rattle.desk.specs.declared.state.Session.{Session}
use Rattle.desk.specs.declared.state.Desk.{Desk}
use Rattle.snapshot.specs.Read.{read_reply}
use Rattle.snapshot.specs.Told.{read_told}

-- a store of 8 records and 3 sessions with this word 3
abbrev pub van_image : ℕ → List ℕ
van_image w = set (empty_image 8 3) 3 w

-- a copy of record r
abbrev pub copy_of : ℕ → RecordCopy
copy_of r = record { rec = r; words = (r + 5) ∷ 6 ∷ 7 ∷ 8 ∷ [] }

-- session s with a copy of record s
abbrev pub holding : ℕ → Phase → Session
holding s p = record { phase = p; count = 1; slot = 0; copies = copy_of s ∷ zero_copy ∷ zero_copy ∷ zero_copy ∷ [] }

-- sessions 0 and 2 are sealed, session 1 is in this phase, and listed where it is active; all three hold their records
abbrev pub van_desk : ℕ → Phase → Desk
van_desk clock p =
    record {
      clock = clock;
      n = 8;
      m = 3;
      holders = 1 ∷ 2 ∷ 3 ∷ replicate 253 0;
      sessions = holding 0 (Sealed 1) ∷ holding 1 p ∷ holding 2 (Sealed 2) ∷ replicate 13 idle_session;
      order = cond (is_active p) 1 0 ∷ replicate 15 0;
    }

-- the same without session 1
abbrev pub two_hold : Desk
two_hold =
    record {
      clock = 3;
      n = 8;
      m = 3;
      holders = 1 ∷ 0 ∷ 3 ∷ replicate 253 0;
      sessions = holding 0 (Sealed 1) ∷ idle_session ∷ holding 2 (Sealed 2) ∷ replicate 13 idle_session;
      order = replicate 16 0;
    }

-- what a group tells with word 3 at w and a trace of len words
abbrev pub group_tells : ℕ → Desk → ℕ → ℕ → Told
group_tells w d len set = publish_told (group_reply (van_image w) d len set).answer

-- clock 3, all three sealed
abbrev pub all_sealed : Desk
all_sealed = van_desk 3 (Sealed 3)

-- the desk that a group leaves of it
abbrev pub group_leaves : ℕ → Desk
group_leaves set = (group_reply (van_image 9) all_sealed 48 set).desk

-- behind the group of 0 and 2, with session 1 idle, and with session 1 active from before it
abbrev pub both_out : Desk
both_out = (group_reply (van_image 9) two_hold 48 5).desk

abbrev pub both_out_before : Desk
both_out_before = (group_reply (van_image 9) (van_desk 3 (Active 3)) 48 5).desk

-- what session 1 reads
abbrev pub sees : Desk → ℕ → Told
sees d r = read_told (read_reply (van_image 9) d 1 r).answer

pub record VanLoads : Type 0 where
  -- 5 is sessions 0 and 2: one end for both, one step of the clock, and session 1 stays sealed
  pub two-told : group_tells 9 all_sealed 48 5 ≡ ended_at 4
  pub two-clock : (group_leaves 5).clock ≡ 4
  pub two-first : session_at (group_leaves 5) 0 ≡ holding 0 (Published 4)
  pub two-beside : session_at (group_leaves 5) 1 ≡ holding 1 (Sealed 3)
  pub two-last : session_at (group_leaves 5) 2 ≡ holding 2 (Published 4)
  -- 7 is all three, 4 is session 2 alone: the end is the same
  pub three : (group_reply (van_image 9) all_sealed 48 7).desk
      ≡ record {
        clock = 4;
        n = 8;
        m = 3;
        holders = 1 ∷ 2 ∷ 3 ∷ replicate 253 0;
        sessions = holding 0 (Published 4) ∷ holding 1 (Published 4) ∷ holding 2 (Published 4) ∷ replicate 13 idle_session;
        order = replicate 16 0;
      }
  pub three-told : group_tells 9 all_sealed 48 7 ≡ ended_at 4
  pub one_told : group_tells 9 all_sealed 48 4 ≡ ended_at 4
  -- word 3 at the end or above it stays; below it, it is raised once: two entries
  pub end_below : group_entries (van_image 5000) all_sealed 48 7 ≡ []
  pub end-at : group_entries (van_image 4) all_sealed 48 7 ≡ []
  pub end-above : group_entries (van_image 3) all_sealed 48 7 ≡ store 3 1028 ∷ fence ∷ []
  pub end-counted : (group_reply (van_image 3) all_sealed 48 7).entries ≡ 2
  -- at the largest clock of a coherent desk with three sealed sessions
  pub end-last : group_tells (limit + 16) (van_desk (limit + 13) (Sealed 3)) 48 7 ≡ ended_at (limit + 14)
  pub clock-past : group_tells (limit + 16) (van_desk (limit + 14) (Sealed 3)) 48 7 ≡ refusal 2
  -- an end above the clock
  pub end-past : group_tells 9 (van_desk 3 (Published 4)) 48 5 ≡ refusal 2
  -- 19 right after 3, which comes after 2 and 1
  pub empty : group_tells 9 all_sealed 48 0 ≡ refusal 19
  pub empty-short : group_tells 9 all_sealed 47 0 ≡ refusal 3
  pub empty-clock : group_tells 2 all_sealed 47 0 ≡ refusal 2
  pub empty-wrong : publish_told (group_reply (set (van_image 2) 0 2) all_sealed 47 0).answer ≡ refusal 1
  -- a member at M or above gives 4, with one that is not sealed too; then nothing is published
  pub at-m : group_tells 9 all_sealed 48 13 ≡ refusal 4
  pub at-fifteen : group_tells 9 all_sealed 48 32769 ≡ refusal 4
  pub at-m-idle : group_tells 9 two_hold 48 15 ≡ refusal 4
  pub at-m-left : group_leaves 13 ≡ all_sealed
  -- a member that is idle, active or published gives 6, and the sealed ones stay so
  pub idle : group_tells 9 two_hold 48 7 ≡ refusal 6
  pub active : group_tells 9 (van_desk 3 (Active 1)) 48 3 ≡ refusal 6
  pub published : group_tells 9 (van_desk 3 (Published 2)) 48 6 ≡ refusal 6
  pub idle-left : (group_reply (van_image 9) two_hold 48 7).desk ≡ two_hold
  pub not-member : group_tells 9 two_hold 48 5 ≡ ended_at 4
  -- a session that begins behind the group of 0 and 2 has their end as its start and reads both copies; one that began before it reads the
  -- home records
  pub begins-behind : begin_told (begin_reply both_out 1).answer ≡ start 4
  pub first-behind : sees (begin_reply both_out 1).desk 0 ≡ copied (5 ∷ 6 ∷ 7 ∷ 8 ∷ [])
  pub last-behind : sees (begin_reply both_out 1).desk 2 ≡ copied (7 ∷ 6 ∷ 7 ∷ 8 ∷ [])
  pub first-before : sees both_out_before 0 ≡ home (0 ∷ 0 ∷ 0 ∷ 0 ∷ [])
  pub last-before : sees both_out_before 2 ≡ home (0 ∷ 0 ∷ 0 ∷ 0 ∷ [])
