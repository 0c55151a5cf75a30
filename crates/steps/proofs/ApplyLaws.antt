-- The result of a step, from what its call answered; and that the number of its entries is the length of its list.
use Prim.Native.Nat.{ℕ}
use mathlib.Core.Path.{◌≡◌, refl, sym, ap, ◌∙◌}
use mathlib.Core.List.{List}
use lib.ListN.{length}
use Rattle.std.specs.Prelude.{Ok, Err, MatchResult}
use Rattle.layout.specs.Refusal.{Answer, number_of, value_with, cause}
use Rattle.layout.specs.Told.{Told, tells}
use Rattle.layout.specs.declared.refusal.Refusal.{Refusal}
use Rattle.layout.specs.declared.refusal.Refusal.TheVariants.{WrongImage, Incoherent, ShortTrace, NoSession, NoRecord, WrongPhase, OtherHolds, FifthRecord, SlotsFull, ClockAtLimit, SlotOccupied, LogUnsound, LogsTied, OutOfRange, WrongShelf, WrongSpeed, WrongSeconds, CopiesHeld, NoMembers, ShortTable}
use Rattle.desk.specs.declared.state.Desk.{Desk}
use Rattle.desk.proofs.PublishLaws.{publish-tidy}
use Rattle.commit.proofs.Lists.{finish-tidy, settle-tidy, reclaim-tidy}
use Rattle.codec.specs.declared.step.Step.{Step}
use Rattle.codec.specs.declared.step.Step.TheVariants.{Lay, Begin, Read, Write, Finish, Publish, Settle, Reclaim, Abandon, Cut}
use Rattle.lines.specs.declared.outcome.Outcome.{Outcome}
use Rattle.lines.specs.declared.outcome.Outcome.TheVariants.{Refused}
use Rattle.steps.specs.Apply.{refusal_told, outcome_of, applied_of, applied_entries}

-- a refusal is the one that is told by its number and value
pub told-again : (r : Refusal) → refusal_told (number_of r) (value_with r) ≡ r
unfolding cause
told-again WrongImage = refl
told-again Incoherent = refl
told-again ShortTrace = refl
told-again NoSession = refl
told-again NoRecord = refl
told-again WrongPhase = refl
told-again (OtherHolds s) = refl
told-again FifthRecord = refl
told-again SlotsFull = refl
told-again ClockAtLimit = refl
told-again SlotOccupied = refl
told-again (LogUnsound p) = refl
told-again LogsTied = refl
told-again OutOfRange = refl
told-again WrongShelf = refl
told-again WrongSpeed = refl
told-again WrongSeconds = refl
told-again CopiesHeld = refl
told-again NoMembers = refl
told-again ShortTable = refl

-- the result of a step, by what the call gave or by its refusal
pub shown-told : {T : Type 0} (told : T → Told) (a : Answer T) {o : Outcome} → MatchResult a (λ x. o ≡ outcome_of (told x)) (λ r. o ≡ Refused r)
    → o ≡ outcome_of (tells told a)
shown-told told (Ok x) h = h
shown-told told (Err r) h = h ∙ ap Refused (sym (told-again r))

pub applied-counted : (img : List ℕ) (d : Desk) (len : ℕ) (step : Step)
    → (applied_of img d len step).entries ≡ length (applied_entries img d len step)
applied-counted img d len (Lay n m) = refl
applied-counted img d len (Begin s) = refl
applied-counted img d len (Read s r) = refl
applied-counted img d len (Write s r ws) = refl
applied-counted img d len (Finish s) = (finish-tidy img d len s).counted
applied-counted img d len (Publish s) = (publish-tidy img d len s).counted
applied-counted img d len (Settle s) = (settle-tidy img d len s).counted
applied-counted img d len (Reclaim s) = (reclaim-tidy img d len s).counted
applied-counted img d len (Abandon s) = refl
applied-counted img d len (Cut k) = refl
