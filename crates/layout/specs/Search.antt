-- What a search answers.
use Rattle.std.specs.Prelude.{ℕ, cond, ltb, Option, Some, None}

-- the place that was found, if it is below n; else none
abbrev pub within : ℕ → ℕ → Option ℕ
within n i = cond (ltb i n) (Some i) None
