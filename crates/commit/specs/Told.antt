-- What each answer of finish, settle and reclaim tells.
use Rattle.std.specs.Prelude.{ℕ, Option, Some, None}
use Rattle.layout.specs.Refusal.{Answer}
use Rattle.layout.specs.Told.{Told, tells, ok, empty, sealed_at, wait, nothing, held, cleared}
use Rattle.commit.specs.declared.reclaiming.Reclaimed.{Reclaimed}
use Rattle.commit.specs.declared.reclaiming.Reclaimed.TheVariants.{Nothing, Held, Cleared}

-- of finish, by the persist number
abbrev pub sealed_told : Option ℕ → Told
sealed_told (Some p) = sealed_at p
sealed_told None = empty

abbrev pub finish_told : Answer (Option ℕ) → Told
finish_told = tells sealed_told

-- of settle, by the session that it waits for
abbrev pub wait_told : Option ℕ → Told
wait_told (Some t) = wait t
wait_told None = ok

abbrev pub settle_told : Answer (Option ℕ) → Told
settle_told = tells wait_told

abbrev pub slot_told : Reclaimed → Told
slot_told Nothing = nothing
slot_told (Held p) = held p
slot_told (Cleared p) = cleared p

abbrev pub reclaim_told : Answer Reclaimed → Told
reclaim_told = tells slot_told
