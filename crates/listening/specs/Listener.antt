-- The checks of a session of the listening room (document 02, Req 03): 18, it holds copies, behind 6.
use Rattle.std.specs.Prelude.{ℕ, Bool, not, ◌&&◌, List, ltb, eqb}
use Rattle.layout.specs.Checks.{unless, first}
use Rattle.desk.specs.Desk.{session_at, is_active}
use Rattle.desk.specs.Entering.{image_fault}
use Rattle.desk.specs.declared.state.Desk.{Desk}

-- the session holds no copies
abbrev pub no_copies : Desk → ℕ → Bool
no_copies d s = eqb (session_at d s).count 0

-- one of the sixteen sessions holds copies
abbrev pub holds_copies : Desk → ℕ → Bool
holds_copies d s = ltb s 16 && not (no_copies d s)

-- of finish and find: 1, 2, 3, 4, 6, 18 (`room` is true of find, which takes no trace)
unfoldable pub listener_fault : List ℕ → Desk → Bool → ℕ → ℕ
listener_fault img d room s =
    first (image_fault img d room s) (first (unless (is_active (session_at d s).phase) 6) (unless (no_copies d s) 18))
