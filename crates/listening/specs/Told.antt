-- What each answer of find tells.
use Rattle.std.specs.Prelude.{ℕ, Option, Some, None}
use Rattle.layout.specs.Refusal.{Answer}
use Rattle.layout.specs.Told.{Told, tells, nothing, found_at}

-- the record, or "none"
abbrev pub record_told : Option ℕ → Told
record_told (Some r) = found_at r
record_told None = nothing

abbrev pub find_told : Answer (Option ℕ) → Told
find_told = tells record_told
