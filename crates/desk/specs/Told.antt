-- What each answer of begin, abandon and publish, of one session or of a set, tells.
use Rattle.std.specs.Prelude.{ℕ, ⊤}
use Rattle.layout.specs.Refusal.{Answer}
use Rattle.layout.specs.Told.{Told, tells, ok, start, ended_at}

abbrev pub begin_told : Answer ℕ → Told
begin_told = tells start

abbrev pub abandon_told : Answer ⊤ → Told
abandon_told = tells (λ x. ok)

abbrev pub publish_told : Answer ℕ → Told
publish_told = tells ended_at
