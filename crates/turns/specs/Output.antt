-- The lines held are written out, and what is said where that fails.
use Rattle.std.specs.Prelude.{ℕ, Bool, List, [], ◌∷◌, ◌≡◌}
use Rattle.turns.specs.State.{written_of}
use Rattle.turns.specs.declared.state.State.{State}

-- the lines held were written out, or the operating system did not take all of them
abbrev pub Flushed : State → State → Type 0
Flushed s r = (failed : Bool) × (r ≡ written_of s failed)

-- one line on standard error: "reelwalk: not all lines could be written"
abbrev pub lost_text : List ℕ
lost_text =
    114 ∷ 101 ∷ 101 ∷ 108 ∷ 119 ∷ 97 ∷ 108 ∷ 107 ∷ 58 ∷ 32 ∷
    110 ∷ 111 ∷ 116 ∷ 32 ∷
    97 ∷ 108 ∷ 108 ∷ 32 ∷
    108 ∷ 105 ∷ 110 ∷ 101 ∷ 115 ∷ 32 ∷
    99 ∷ 111 ∷ 117 ∷ 108 ∷ 100 ∷ 32 ∷
    98 ∷ 101 ∷ 32 ∷
    119 ∷ 114 ∷ 105 ∷ 116 ∷ 116 ∷ 101 ∷ 110 ∷ 10 ∷ []
