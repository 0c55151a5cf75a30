-- The result of a step and its whole line, and the lines that print no step (document 01, "The program").
use Rattle.std.specs.Prelude.{ℕ, List, [], ◌∷◌, ◌++◌}
use Rattle.lines.specs.Line.{head_of, result_of, step_head}
use Rattle.codec.specs.declared.step.Step.{Step}
use Rattle.layout.specs.Refusal.{number_of}
use Rattle.lines.specs.declared.outcome.Outcome.{Outcome}
use Rattle.lines.specs.declared.outcome.Outcome.TheVariants.{Refused, Ok, Start, End, Sealed, Empty, Own, Copy, Home, Wait}
use Rattle.lines.specs.declared.outcome.Outcome.TheVariants.{None, Held, Cleared, Cut, Noted}

-- a space, then "no K", K alone
abbrev pub refused_text : ℕ → List ℕ
refused_text k = result_of (110 ∷ 111 ∷ []) (k ∷ []) []

-- results: ok; start, end or sealed with a number; empty; four words and own, copy or home; wait, held or cleared with a number; none;
-- "no K"; "cut" for the step that is cut; step 9 prints no result
unfoldable pub outcome_text : Outcome → List ℕ
outcome_text (Refused r) = refused_text (number_of r)
outcome_text Ok = result_of (111 ∷ 107 ∷ []) [] []
outcome_text (Start n) = result_of (115 ∷ 116 ∷ 97 ∷ 114 ∷ 116 ∷ []) (n ∷ []) []
outcome_text (End n) = result_of (101 ∷ 110 ∷ 100 ∷ []) (n ∷ []) []
outcome_text (Sealed n) = result_of (115 ∷ 101 ∷ 97 ∷ 108 ∷ 101 ∷ 100 ∷ []) (n ∷ []) []
outcome_text Empty = result_of (101 ∷ 109 ∷ 112 ∷ 116 ∷ 121 ∷ []) [] []
outcome_text (Own ws) = result_of [] ws (111 ∷ 119 ∷ 110 ∷ [])
outcome_text (Copy ws) = result_of [] ws (99 ∷ 111 ∷ 112 ∷ 121 ∷ [])
outcome_text (Home ws) = result_of [] ws (104 ∷ 111 ∷ 109 ∷ 101 ∷ [])
outcome_text (Wait n) = result_of (119 ∷ 97 ∷ 105 ∷ 116 ∷ []) (n ∷ []) []
outcome_text None = result_of (110 ∷ 111 ∷ 110 ∷ 101 ∷ []) [] []
outcome_text (Held n) = result_of (104 ∷ 101 ∷ 108 ∷ 100 ∷ []) (n ∷ []) []
outcome_text (Cleared n) = result_of (99 ∷ 108 ∷ 101 ∷ 97 ∷ 114 ∷ 101 ∷ 100 ∷ []) (n ∷ []) []
outcome_text Cut = result_of (99 ∷ 117 ∷ 116 ∷ []) [] []
outcome_text Noted = []

-- a step's line: step number, call, arguments, result
unfoldable pub step_line : ℕ → Step → Outcome → List ℕ
step_line number step outcome = step_head number step ++ (outcome_text outcome ++ (10 ∷ []))

-- the same of a step that is refused, by the number, whatever that is
unfoldable pub refused_line : ℕ → Step → ℕ → List ℕ
refused_line number step k = step_head number step ++ (refused_text k ++ (10 ∷ []))

-- a line that prints no step: step number, a word, numbers
unfoldable pub note_line : ℕ → List ℕ → List ℕ → List ℕ
note_line number word values = head_of number word values ++ (10 ∷ [])

-- an unknown kind, a short body, a first step other than 0 or a later step 0: "bad" after the step number
abbrev pub bad_line : ℕ → List ℕ
bad_line number = note_line number (98 ∷ 97 ∷ 100 ∷ []) []

-- after a cut, with the same step number: "replayed P" for each log
abbrev pub replayed_line : ℕ → ℕ → List ℕ
replayed_line number persist = note_line number (114 ∷ 101 ∷ 112 ∷ 108 ∷ 97 ∷ 121 ∷ 101 ∷ 100 ∷ []) (persist ∷ [])

-- then "open"
abbrev pub open_line : ℕ → List ℕ
open_line number = note_line number (111 ∷ 112 ∷ 101 ∷ 110 ∷ []) []
