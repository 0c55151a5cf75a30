-- What the code's passes over a desk give.
use Rattle.std.specs.Prelude.{ℕ, cond, List, Option, Some, None}
use Rattle.layout.specs.Below.{all_below, count_below}
use Rattle.desk.specs.Desk.{active_count}
use Rattle.desk.specs.Coherent.{sealed_at}
use Rattle.desk.specs.Strike.{entry_passes_at, struck_below, list_passes, blank_below}
use Rattle.desk.specs.declared.state.Desk.{Desk}
use Rattle.desk.specs.declared.coherence.Struck.{Struck}

-- the holders with the copies of all sessions struck out, and how many sessions are active, and sealed; none where one does not pass
unfoldable pub struck_copies : Desk → Option Struck
struck_copies d =
    cond (all_below 16 (entry_passes_at d))
    (Some (record { marks = struck_below d 16; active = active_count d; sealed = count_below 16 (sealed_at d) })) None

-- the list with its first places struck out; none where one of them does not pass
unfoldable pub struck_list : Desk → ℕ → Option (List ℕ)
struck_list d active = cond (all_below active (list_passes d.sessions d.order)) (Some (blank_below d.order active)) None
