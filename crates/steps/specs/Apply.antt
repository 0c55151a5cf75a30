-- A step applied to an opened store (document 01, "The program"): the session call that the step names, what it tells as the result that
-- the step's line shows, and the entries that it lists.
use Rattle.std.specs.Prelude.{ℕ, ◌≡◌, cond, List, [], eqb}
use Rattle.layout.specs.Entries.{Entry}
use Rattle.layout.specs.Refusal.{cause}
use Rattle.layout.specs.declared.refusal.Refusal.{Refusal}
use Rattle.layout.specs.declared.refusal.Refusal.TheVariants.{OtherHolds, LogUnsound}
use Rattle.layout.specs.Told.{Told, refused, result}
use Rattle.layout.specs.Told.{Ok as TellsOk, Start as TellsStart, Own as TellsOwn, Copy as TellsCopy, Home as TellsHome, Empty as TellsEmpty, Sealed as TellsSealed}
use Rattle.layout.specs.Told.{End as TellsEnd, Wait as TellsWait, None as TellsNone, Held as TellsHeld, Cleared as TellsCleared, Clean as TellsClean, Replayed as TellsReplayed, Found as TellsFound}
use Rattle.desk.specs.Begin.{begin_reply}
use Rattle.desk.specs.Publish.{publish_entries, publish_reply}
use Rattle.desk.specs.Abandon.{abandon_reply}
use Rattle.desk.specs.Told.{begin_told, abandon_told, publish_told}
use Rattle.desk.specs.declared.state.Desk.{Desk}
use Rattle.snapshot.specs.Read.{read_reply}
use Rattle.snapshot.specs.Write.{write_reply}
use Rattle.snapshot.specs.Told.{read_told, write_told}
use Rattle.commit.specs.Finish.{finish_entries, finish_reply}
use Rattle.commit.specs.Settle.{settle_entries, settle_reply}
use Rattle.commit.specs.Reclaim.{reclaim_entries, reclaim_reply}
use Rattle.commit.specs.Told.{finish_told, settle_told, reclaim_told}
use Rattle.codec.specs.declared.step.Step.{Step}
use Rattle.codec.specs.declared.step.Step.TheVariants.{Lay, Begin, Read, Write, Finish, Publish, Settle, Reclaim, Abandon, Cut}
use Rattle.lines.specs.declared.outcome.Outcome.{Outcome}
use Rattle.lines.specs.declared.outcome.Outcome.TheVariants.{Refused, Ok, Start, End, Sealed, Empty, Own, Copy, Home, Wait, None, Held}
use Rattle.lines.specs.declared.outcome.Outcome.TheVariants.{Cleared, Noted}
use Rattle.steps.specs.declared.applying.Applied.{Applied}

-- the refusal that is told by this number and value
abbrev pub refusal_told : ℕ → ℕ → Refusal
refusal_told k v = cond (eqb k 7) (OtherHolds v) (cond (eqb k 12) (LogUnsound v) (cause k))

-- what a call tells, as the result of a step; no step tells clean, replayed or found
abbrev pub outcome_of : Told → Outcome
outcome_of (refused k v) = Refused (refusal_told k v)
outcome_of (result TellsOk n ws) = Ok
outcome_of (result TellsStart n ws) = Start n
outcome_of (result TellsOwn n ws) = Own ws
outcome_of (result TellsCopy n ws) = Copy ws
outcome_of (result TellsHome n ws) = Home ws
outcome_of (result TellsEmpty n ws) = Empty
outcome_of (result TellsSealed n ws) = Sealed n
outcome_of (result TellsEnd n ws) = End n
outcome_of (result TellsWait n ws) = Wait n
outcome_of (result TellsNone n ws) = None
outcome_of (result TellsHeld n ws) = Held n
outcome_of (result TellsCleared n ws) = Cleared n
outcome_of (result TellsClean n ws) = Noted
outcome_of (result TellsReplayed n ws) = Noted
outcome_of (result TellsFound n ws) = Noted

-- what may be shown of what a call gives is what that tells
abbrev pub ShowsAs : {T : Type 0} → (T → Outcome → Type 0) → (T → Told) → Type 0
ShowsAs {T} Shown told = (x : T) (o : Outcome) → Shown x o → o ≡ outcome_of (told x)

-- what a step gives: its result, the number of its entries, and the desk
abbrev pub gives_of : Outcome → ℕ → Desk → Applied
gives_of o n d = record { outcome = o; entries = n; desk = d }

-- what a step of each kind gives
abbrev pub begin_applied : Desk → ℕ → Applied
begin_applied d s = gives_of (outcome_of (begin_told (begin_reply d s).answer)) 0 (begin_reply d s).desk

abbrev pub read_applied : List ℕ → Desk → ℕ → ℕ → Applied
read_applied img d s r =
    gives_of (outcome_of (read_told (read_reply img d s r).answer)) 0 (read_reply img d s r).desk

abbrev pub write_applied : List ℕ → Desk → ℕ → ℕ → List ℕ → Applied
write_applied img d s r ws = gives_of (outcome_of (write_told (write_reply img d s r ws).answer)) 0 (write_reply img d s r ws).desk

abbrev pub finish_applied : List ℕ → Desk → ℕ → ℕ → Applied
finish_applied img d len s =
    gives_of (outcome_of (finish_told (finish_reply img d len s).answer)) (finish_reply img d len s).entries (finish_reply img d len s).desk

abbrev pub publish_applied : List ℕ → Desk → ℕ → ℕ → Applied
publish_applied img d len s =
    gives_of (outcome_of (publish_told (publish_reply img d len s).answer))
    (publish_reply img d len s).entries (publish_reply img d len s).desk

abbrev pub settle_applied : List ℕ → Desk → ℕ → ℕ → Applied
settle_applied img d len s =
    gives_of (outcome_of (settle_told (settle_reply img d len s).answer)) (settle_reply img d len s).entries (settle_reply img d len s).desk

abbrev pub reclaim_applied : List ℕ → Desk → ℕ → ℕ → Applied
reclaim_applied img d len s =
    gives_of (outcome_of (reclaim_told (reclaim_reply img d len s).answer))
    (reclaim_reply img d len s).entries (reclaim_reply img d len s).desk

abbrev pub abandon_applied : Desk → ℕ → Applied
abandon_applied d s = gives_of (outcome_of (abandon_told (abandon_reply d s).answer)) 0 (abandon_reply d s).desk

-- what a step gives, on an image, a desk and a trace of this length. A step that is no session call is noted
abbrev pub applied_of : List ℕ → Desk → ℕ → Step → Applied
applied_of img d len (Lay n m) = gives_of Noted 0 d
applied_of img d len (Begin s) = begin_applied d s
applied_of img d len (Read s r) = read_applied img d s r
applied_of img d len (Write s r ws) = write_applied img d s r ws
applied_of img d len (Finish s) = finish_applied img d len s
applied_of img d len (Publish s) = publish_applied img d len s
applied_of img d len (Settle s) = settle_applied img d len s
applied_of img d len (Reclaim s) = reclaim_applied img d len s
applied_of img d len (Abandon s) = abandon_applied d s
applied_of img d len (Cut k) = gives_of Noted 0 d

-- the entries that a step lists: only finish, publish, settle and reclaim store
abbrev pub applied_entries : List ℕ → Desk → ℕ → Step → List Entry
applied_entries img d len (Lay n m) = []
applied_entries img d len (Begin s) = []
applied_entries img d len (Read s r) = []
applied_entries img d len (Write s r ws) = []
applied_entries img d len (Finish s) = finish_entries img d len s
applied_entries img d len (Publish s) = publish_entries img d len s
applied_entries img d len (Settle s) = settle_entries img d len s
applied_entries img d len (Reclaim s) = reclaim_entries img d len s
applied_entries img d len (Abandon s) = []
applied_entries img d len (Cut k) = []
