-- What each answer of open and recover tells.
use Rattle.std.specs.Prelude.{ℕ, Option, Some, None, ⊤}
use Rattle.layout.specs.Refusal.{Answer}
use Rattle.layout.specs.Told.{Told, tells, ok, clean, replayed}

abbrev pub open_told : Answer ⊤ → Told
open_told = tells (λ x. ok)

abbrev pub replay_told : Option ℕ → Told
replay_told None = clean
replay_told (Some p) = replayed p

abbrev pub recover_told : Answer (Option ℕ) → Told
recover_told = tells replay_told
