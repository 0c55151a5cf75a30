-- Worked examples (document 01, "The program"): antt computes each.
use mathlib.Core.Path.{◌≡◌, refl}
use mathlib.Core.List.{List, [], ◌∷◌}
use Prim.Native.Nat.{ℕ}
use Rattle.codec.specs.Bytes.{little}
use Rattle.codec.specs.Steps.{step_of, step_words, no_words, decode_of}
use Rattle.lines.specs.Line.{spelled, decimal_of, step_head}
use Rattle.steps.specs.Cut.{cut_back}
use Rattle.lines.specs.Result.{outcome_text, step_line, note_line, bad_line, replayed_line, open_line}
use Rattle.codec.specs.declared.step.Step.TheVariants.{Lay, Begin, Read, Write, Finish, Publish, Settle, Reclaim, Abandon, Cut}
use Rattle.lines.specs.declared.outcome.Outcome.TheVariants.{Refused, Ok, Start, End as Ended, Sealed, Empty, Own, Copy, Home, Wait, None, Held, Cleared, Cut as WasCut, Noted}
use Rattle.layout.specs.declared.refusal.Refusal.TheVariants.{NoRecord}
use Rattle.codec.specs.declared.decoding.Found.TheVariants.{Whole, Bad, Short, End}
use Rattle.codec.specs.declared.decoding.Found.{Found}

-- the whole case, line for line
whole-case : ◌≡◌ {A = List (List ℕ)}
    (step_line 1 (Lay 2 2) Ok
    ∷ step_line 2 (Begin 0) (Start 1)
    ∷ step_line 3 (Begin 1) (Start 1)
    ∷ step_line 4 (Write 0 1 (5 ∷ 0 ∷ 0 ∷ 0 ∷ [])) Ok
    ∷ step_line 5 (Read 0 1) (Own (5 ∷ 0 ∷ 0 ∷ 0 ∷ []))
    ∷ step_line 6 (Finish 0) (Sealed 1)
    ∷ step_line 7 (Publish 0) (Ended 2)
    ∷ step_line 8 (Read 1 1) (Home no_words)
    ∷ step_line 9 (Settle 0) (Wait 1)
    ∷ step_line 10 (Finish 1) Empty
    ∷ step_line 11 (Settle 0) Ok
    ∷ step_line 12 (Reclaim 0) (Cleared 1)
    ∷ [])
    ((49 ∷ 32 ∷ 108 ∷ 97 ∷ 121 ∷ 32 ∷ 50 ∷ 32 ∷ 50 ∷ 32 ∷ 111 ∷ 107 ∷ 10 ∷ [])
    ∷ (50 ∷ 32 ∷ 98 ∷ 101 ∷ 103 ∷ 105 ∷ 110 ∷ 32 ∷ 48 ∷ 32 ∷ 115 ∷ 116 ∷ 97 ∷ 114 ∷ 116 ∷ 32 ∷ 49 ∷ 10 ∷ [])
    ∷ (51 ∷ 32 ∷ 98 ∷ 101 ∷ 103 ∷ 105 ∷ 110 ∷ 32 ∷ 49 ∷ 32 ∷ 115 ∷ 116 ∷ 97 ∷ 114 ∷ 116 ∷ 32 ∷ 49 ∷ 10 ∷ [])
    ∷ (52 ∷ 32 ∷ 119 ∷ 114 ∷ 105 ∷ 116 ∷ 101 ∷ 32 ∷ 48 ∷ 32 ∷ 49 ∷ 32 ∷ 111 ∷ 107 ∷ 10 ∷ [])
    ∷ (53 ∷ 32 ∷ 114 ∷ 101 ∷ 97 ∷ 100 ∷ 32 ∷ 48 ∷ 32 ∷ 49 ∷ 32 ∷ 53 ∷ 32 ∷ 48 ∷ 32 ∷ 48 ∷ 32 ∷ 48 ∷ 32 ∷ 111 ∷ 119 ∷ 110 ∷ 10 ∷ [])
    ∷ (54 ∷ 32 ∷ 102 ∷ 105 ∷ 110 ∷ 105 ∷ 115 ∷ 104 ∷ 32 ∷ 48 ∷ 32 ∷ 115 ∷ 101 ∷ 97 ∷ 108 ∷ 101 ∷ 100 ∷ 32 ∷ 49 ∷ 10 ∷ [])
    ∷ (55 ∷ 32 ∷ 112 ∷ 117 ∷ 98 ∷ 108 ∷ 105 ∷ 115 ∷ 104 ∷ 32 ∷ 48 ∷ 32 ∷ 101 ∷ 110 ∷ 100 ∷ 32 ∷ 50 ∷ 10 ∷ [])
    ∷ (56 ∷ 32 ∷ 114 ∷ 101 ∷ 97 ∷ 100 ∷ 32 ∷ 49 ∷ 32 ∷ 49 ∷ 32 ∷ 48 ∷ 32 ∷ 48 ∷ 32 ∷ 48 ∷ 32 ∷ 48 ∷ 32 ∷ 104 ∷ 111 ∷ 109 ∷ 101 ∷ 10 ∷ [])
    ∷ (57 ∷ 32 ∷ 115 ∷ 101 ∷ 116 ∷ 116 ∷ 108 ∷ 101 ∷ 32 ∷ 48 ∷ 32 ∷ 119 ∷ 97 ∷ 105 ∷ 116 ∷ 32 ∷ 49 ∷ 10 ∷ [])
    ∷ (49 ∷ 48 ∷ 32 ∷ 102 ∷ 105 ∷ 110 ∷ 105 ∷ 115 ∷ 104 ∷ 32 ∷ 49 ∷ 32 ∷ 101 ∷ 109 ∷ 112 ∷ 116 ∷ 121 ∷ 10 ∷ [])
    ∷ (49 ∷ 49 ∷ 32 ∷ 115 ∷ 101 ∷ 116 ∷ 116 ∷ 108 ∷ 101 ∷ 32 ∷ 48 ∷ 32 ∷ 111 ∷ 107 ∷ 10 ∷ [])
    ∷ (49 ∷ 50 ∷ 32 ∷ 114 ∷ 101 ∷ 99 ∷ 108 ∷ 97 ∷ 105 ∷ 109 ∷ 32 ∷ 48 ∷ 32 ∷ 99 ∷ 108 ∷ 101 ∷ 97 ∷ 114 ∷ 101 ∷ 100 ∷ 32 ∷ 49 ∷ 10 ∷ [])
    ∷ [])
unfolding step_line step_head outcome_text decimal_of spelled
whole-case = refl

-- results that the whole case does not show, and the lines that print no step
other-lines : ◌≡◌ {A = List (List ℕ)}
    (step_line 1 (Lay 256 16) Ok
    ∷ step_line 2 (Write 3 255 no_words) (Refused NoRecord)
    ∷ step_line 3 (Abandon 1) Ok
    ∷ step_line 4 (Read 1 0) (Copy (18446744073709551615 ∷ 0 ∷ 10 ∷ 7 ∷ []))
    ∷ step_line 5 (Reclaim 2) None
    ∷ step_line 6 (Reclaim 2) (Held 4)
    ∷ step_line 7 (Cut 8) Noted
    ∷ step_line 8 (Finish 0) WasCut
    ∷ replayed_line 8 1
    ∷ open_line 8
    ∷ bad_line 10
    ∷ [])
    ((49 ∷ 32 ∷ 108 ∷ 97 ∷ 121 ∷ 32 ∷ 50 ∷ 53 ∷ 54 ∷ 32 ∷ 49 ∷ 54 ∷ 32 ∷ 111 ∷ 107 ∷ 10 ∷ [])
    ∷ (50 ∷ 32 ∷ 119 ∷ 114 ∷ 105 ∷ 116 ∷ 101 ∷ 32 ∷ 51 ∷ 32 ∷ 50 ∷ 53 ∷ 53 ∷ 32 ∷ 110 ∷ 111 ∷ 32 ∷ 53 ∷ 10 ∷ [])
    ∷ (51 ∷ 32 ∷ 97 ∷ 98 ∷ 97 ∷ 110 ∷ 100 ∷ 111 ∷ 110 ∷ 32 ∷ 49 ∷ 32 ∷ 111 ∷ 107 ∷ 10 ∷ [])
    ∷ (52 ∷ 32 ∷ 114 ∷ 101 ∷ 97 ∷ 100 ∷ 32 ∷ 49 ∷ 32 ∷ 48 ∷ 32 ∷ 49 ∷ 56 ∷ 52 ∷ 52 ∷ 54 ∷ 55 ∷ 52 ∷ 52 ∷ 48 ∷ 55 ∷ 51 ∷ 55 ∷ 48 ∷ 57 ∷ 53 ∷ 53 ∷ 49 ∷ 54 ∷ 49 ∷ 53 ∷ 32 ∷ 48 ∷ 32 ∷ 49 ∷ 48 ∷ 32 ∷ 55 ∷ 32 ∷ 99 ∷ 111 ∷ 112 ∷ 121 ∷ 10 ∷ [])
    ∷ (53 ∷ 32 ∷ 114 ∷ 101 ∷ 99 ∷ 108 ∷ 97 ∷ 105 ∷ 109 ∷ 32 ∷ 50 ∷ 32 ∷ 110 ∷ 111 ∷ 110 ∷ 101 ∷ 10 ∷ [])
    ∷ (54 ∷ 32 ∷ 114 ∷ 101 ∷ 99 ∷ 108 ∷ 97 ∷ 105 ∷ 109 ∷ 32 ∷ 50 ∷ 32 ∷ 104 ∷ 101 ∷ 108 ∷ 100 ∷ 32 ∷ 52 ∷ 10 ∷ [])
    ∷ (55 ∷ 32 ∷ 99 ∷ 117 ∷ 116 ∷ 32 ∷ 56 ∷ 10 ∷ [])
    ∷ (56 ∷ 32 ∷ 102 ∷ 105 ∷ 110 ∷ 105 ∷ 115 ∷ 104 ∷ 32 ∷ 48 ∷ 32 ∷ 99 ∷ 117 ∷ 116 ∷ 10 ∷ [])
    ∷ (56 ∷ 32 ∷ 114 ∷ 101 ∷ 112 ∷ 108 ∷ 97 ∷ 121 ∷ 101 ∷ 100 ∷ 32 ∷ 49 ∷ 10 ∷ [])
    ∷ (56 ∷ 32 ∷ 111 ∷ 112 ∷ 101 ∷ 110 ∷ 10 ∷ [])
    ∷ (49 ∷ 48 ∷ 32 ∷ 98 ∷ 97 ∷ 100 ∷ 10 ∷ [])
    ∷ [])
unfolding step_line step_head outcome_text decimal_of spelled note_line
other-lines = refl

-- a step of each kind, N byte 0, a short body, an unknown kind, the input's end
steps-read : ◌≡◌ {A = List Found}
    (decode_of (0 ∷ 2 ∷ 2 ∷ [])
    ∷ decode_of (0 ∷ 0 ∷ 16 ∷ [])
    ∷ decode_of (1 ∷ 0 ∷ [])
    ∷ decode_of (2 ∷ 0 ∷ 1 ∷ [])
    ∷ decode_of (3 ∷ 0 ∷ 1 ∷ 5 ∷ 0 ∷ 0 ∷ 0 ∷ 0 ∷ 0 ∷ 0 ∷ 0 ∷ 1 ∷ 1 ∷ 0 ∷ 0 ∷ 0 ∷ 0 ∷ 0 ∷ 0 ∷ 0 ∷ 0 ∷ 0 ∷ 0 ∷ 0 ∷ 0 ∷ 0 ∷ 0 ∷ 255 ∷ 255 ∷ 255 ∷ 255 ∷ 255 ∷ 255 ∷ 255 ∷ 255 ∷ [])
    ∷ decode_of (4 ∷ 0 ∷ 5 ∷ [])
    ∷ decode_of (5 ∷ 0 ∷ [])
    ∷ decode_of (6 ∷ 0 ∷ [])
    ∷ decode_of (7 ∷ 0 ∷ [])
    ∷ decode_of (8 ∷ 15 ∷ [])
    ∷ decode_of (9 ∷ 255 ∷ [])
    ∷ decode_of (3 ∷ 0 ∷ 1 ∷ 5 ∷ 0 ∷ 0 ∷ 0 ∷ 0 ∷ 0 ∷ 0 ∷ 0 ∷ 1 ∷ 1 ∷ 0 ∷ 0 ∷ 0 ∷ 0 ∷ 0 ∷ 0 ∷ 0 ∷ 0 ∷ 0 ∷ 0 ∷ 0 ∷ 0 ∷ 0 ∷ 0 ∷ 255 ∷ 255 ∷ 255 ∷ 255 ∷ 255 ∷ 255 ∷ 255 ∷ [])
    ∷ decode_of (0 ∷ 2 ∷ [])
    ∷ decode_of (10 ∷ 1 ∷ 2 ∷ [])
    ∷ decode_of []
    ∷ [])
    (Whole (Lay 2 2) 3
    ∷ Whole (Lay 256 16) 3
    ∷ Whole (Begin 0) 2
    ∷ Whole (Read 0 1) 3
    ∷ Whole (Write 0 1 (5 ∷ 257 ∷ 0 ∷ 18446744073709551615 ∷ [])) 35
    ∷ Whole (Finish 0) 2
    ∷ Whole (Publish 0) 2
    ∷ Whole (Settle 0) 2
    ∷ Whole (Reclaim 0) 2
    ∷ Whole (Abandon 15) 2
    ∷ Whole (Cut 255) 2
    ∷ Short
    ∷ Short
    ∷ Bad
    ∷ End
    ∷ [])
unfolding decode_of step_of step_words little
steps-read = refl

-- a store, a fence and a store on an image of three words, of which 0 to 4 entries are to arrive
abbrev cut_at : ℕ → List ℕ
cut_at = cut_back (1 ∷ 9 ∷ 7 ∷ []) (1 ∷ 2 ∷ 3 ∷ []) (1 ∷ 9 ∷ 18446744073709551615 ∷ 0 ∷ 2 ∷ 7 ∷ 4 ∷ []) 3

cuts-tried : ◌≡◌ {A = List (List ℕ)}
    (cut_at 0 ∷ cut_at 1 ∷ cut_at 2 ∷ cut_at 3 ∷ cut_at 4 ∷ [])
    ((1 ∷ 2 ∷ 3 ∷ []) ∷ (1 ∷ 9 ∷ 3 ∷ []) ∷ (1 ∷ 9 ∷ 3 ∷ []) ∷ (1 ∷ 9 ∷ 7 ∷ []) ∷ (1 ∷ 9 ∷ 7 ∷ []) ∷ [])
cuts-tried = refl
