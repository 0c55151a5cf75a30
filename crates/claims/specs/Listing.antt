-- The list of active sessions (document 02, Req 09), in plain words: what a coherent desk's list is, what each call does to it, place by
-- place, and whom settle names by its front run.
use Rattle.std.specs.Prelude.{ℕ, ◌+◌, ◌≤◌, ◌<◌, true, ◌≡◌, List, [], ◌⊎◌, length}
use Rattle.layout.specs.Told.{ok, wait}
use Rattle.layout.specs.Below.{all_below}
use Rattle.desk.specs.Coherent.{sizes_ok, entry_ok, mark_ok, coherent_b}
use Rattle.desk.specs.Desk.{session_at, order_at, start_at, active_at, active_count}
use Rattle.desk.specs.declared.state.Phase.TheVariants.{Published}
use Rattle.desk.specs.declared.state.Desk.{Desk}
use Rattle.history.specs.Call.{Begin, Read, Finish, Find, Call, begin, read, write, abandon, finish, publish, group, settle, reclaim, listen}
use Rattle.claims.specs.Refusals.{first_cause}
use Rattle.claims.specs.Rules.{Reply, Rules}

-- ---- the rule

-- the lengths that the arrays of every desk have in the code
pub record Sized (d : Desk) : Type 0 where
  pub holders : length d.holders ≡ 256
  pub sessions : length d.sessions ≡ 16
  pub copies : (s : ℕ) → s < 16 → length (session_at d s).copies ≡ 4
  pub order : length d.order ≡ 16

pub record Listed (d : Desk) : Type 0 where
  -- each place in use has an active session
  pub only : (j : ℕ) → j < active_count d → (order_at d j < 16) × (active_at d (order_at d j) ≡ true)
  -- every active session is listed
  pub all : (s : ℕ) → s < 16 → active_at d s ≡ true → (j : ℕ) × (j < active_count d) × (order_at d j ≡ s)
  -- once
  pub once : (i j : ℕ) → i < active_count d → j < active_count d → order_at d i ≡ order_at d j → i ≡ j
  pub rises : (i j : ℕ) → i ≤ j → j < active_count d → start_at d (order_at d i) ≤ start_at d (order_at d j)
  pub rest : (j : ℕ) → active_count d ≤ j → j < 16 → order_at d j ≡ 0

-- coherence asks just that of the list, beside its rules for sizes, entries and marks
pub record ListRule : Type 0 where
  pub asks : (d : Desk) → coherent_b d ≡ true → Listed d
  pub no_more : (d : Desk) → sizes_ok d ≡ true → all_below 16 (entry_ok d) ≡ true → all_below 256 (mark_ok d) ≡ true → Listed d → coherent_b d ≡ true

-- a coherent desk with its arrays at their lengths stays coherent, whatever the call, on any image
abbrev pub CoherenceKept : Rules → Type 0
CoherenceKept R = (img : List ℕ) (d : Desk) (c : Call) → Sized d → coherent_b d ≡ true → coherent_b (R.call img d c).desk ≡ true

-- ---- what the calls do to it; d is the desk before, e the one behind

-- session s is put at the first place that is not in use
pub record Joins (d : Desk) (s : ℕ) (e : Desk) : Type 0 where
  pub last : order_at e (active_count d) ≡ s
  pub others : (j : ℕ) → (j ≡ active_count d → ⊥) → order_at e j ≡ order_at d j

-- session s goes out of its place; those behind it move up, and the last place is zero
pub record Leaves (d : Desk) (s : ℕ) (e : Desk) : Type 0 where
  pub place : ℕ
  pub used : place < active_count d
  pub here : order_at d place ≡ s
  pub before : (j : ℕ) → j < place → order_at e j ≡ order_at d j
  pub behind : (j : ℕ) → place ≤ j → j < 15 → order_at e j ≡ order_at d (j + 1)
  pub last : order_at e 15 ≡ 0

abbrev pub Stays : Desk → Desk → Type 0
Stays d e = e.order ≡ d.order

-- a session joins the list where it becomes active and leaves it where it stops being active; nothing else changes the list
pub record ListDue (R : Rules) : Type 0 where
  pub begins : (img : List ℕ) (d : Desk) (s : ℕ) → length d.order ≡ 16 → first_cause img d (begin s) ≡ 0 → Joins d s (R.call img d (begin s)).desk
  pub listener-begins : (img : List ℕ) (d : Desk) (s : ℕ) → length d.order ≡ 16 → first_cause img d (listen (Begin s)) ≡ 0
      → Joins d s (R.call img d (listen (Begin s))).desk
  pub finishes : (img : List ℕ) (d : Desk) (len s : ℕ) → length d.order ≡ 16 → first_cause img d (finish len s) ≡ 0
      → Leaves d s (R.call img d (finish len s)).desk
  pub listener-finishes : (img : List ℕ) (d : Desk) (len s : ℕ) → length d.order ≡ 16 → first_cause img d (listen (Finish len s)) ≡ 0
      → Leaves d s (R.call img d (listen (Finish len s))).desk
  pub abandons : (img : List ℕ) (d : Desk) (s : ℕ) → length d.order ≡ 16 → first_cause img d (abandon s) ≡ 0
      → Leaves d s (R.call img d (abandon s)).desk
  pub taken : (img : List ℕ) (d : Desk) (s r : ℕ) (ws : List ℕ) → length d.order ≡ 16 → first_cause img d (write s r ws) ≡ 7
      → Leaves d s (R.call img d (write s r ws)).desk
  pub writes : (img : List ℕ) (d : Desk) (s r : ℕ) (ws : List ℕ) → (first_cause img d (write s r ws) ≡ 7 → ⊥) → Stays d (R.call img d (write s r ws)).desk
  pub reads : (img : List ℕ) (d : Desk) (s r : ℕ) → Stays d (R.call img d (read s r)).desk
  pub publishes : (img : List ℕ) (d : Desk) (len s : ℕ) → Stays d (R.call img d (publish len s)).desk
  pub groups : (img : List ℕ) (d : Desk) (len set : ℕ) → Stays d (R.call img d (group len set)).desk
  pub settles : (img : List ℕ) (d : Desk) (len s : ℕ) → Stays d (R.call img d (settle len s)).desk
  pub reclaims : (img : List ℕ) (d : Desk) (len s : ℕ) → Stays d (R.call img d (reclaim len s)).desk
  pub listener-reads : (img : List ℕ) (d : Desk) (s r : ℕ) → Stays d (R.call img d (listen (Read s r))).desk
  pub finds : (img : List ℕ) (d : Desk) (s k : ℕ) → Stays d (R.call img d (listen (Find s k))).desk
  -- a call that is refused, 7 of write apart: `Refusals` has that the whole desk stays

-- ---- the front run

-- t is the lowest session among those with the start of the front place
pub record LowestInFront (d : Desk) (t : ℕ) : Type 0 where
  pub place : ℕ
  pub used : place < active_count d
  pub here : order_at d place ≡ t
  pub front : start_at d t ≡ start_at d (order_at d 0)
  -- all up to its place are of the run
  pub run : (j : ℕ) → j ≤ place → start_at d (order_at d j) ≡ start_at d (order_at d 0)
  pub lowest : (j : ℕ) → j < active_count d → start_at d (order_at d j) ≡ start_at d (order_at d 0) → t ≤ order_at d j

-- it waits for such a session, stores nothing and leaves the desk
pub record WaitsFor (d : Desk) (y : Reply) : Type 0 where
  pub session : ℕ
  pub told : y.told ≡ wait session
  pub oldest : LowestInFront d session
  pub entries : y.entries ≡ []
  pub desk : y.desk ≡ d

-- a settle of a session with this end that is not refused: where the start of the front is below the end it waits; with nobody in front, or
-- a start that is not below the end, it does not
pub record SettleByFront (R : Rules) : Type 0 where
  pub waits : (img : List ℕ) (d : Desk) (len s end : ℕ) → first_cause img d (settle len s) ≡ 0 → (session_at d s).phase ≡ Published end
      → 0 < active_count d → start_at d (order_at d 0) < end → WaitsFor d (R.call img d (settle len s))
  pub goes : (img : List ℕ) (d : Desk) (len s end : ℕ) → first_cause img d (settle len s) ≡ 0 → (session_at d s).phase ≡ Published end
      → (active_count d ≡ 0) ⊎ (end ≤ start_at d (order_at d 0)) → (R.call img d (settle len s)).told ≡ ok
