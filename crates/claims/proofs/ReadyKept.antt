-- Image and desk stay ready along the calls of the store.
use Prim.Native.Nat.{ℕ, ◌≤◌}
use mathlib.Core.Path.{◌≡◌, refl, ◌∙◌}
use mathlib.Core.List.{List}
use Rattle.layout.specs.Image.{ceiling_of}
use Rattle.desk.specs.declared.state.Desk.{Desk}
use Rattle.history.specs.Call.{Listening, Begin, Read, Finish, Find, Call, begin, read, write, abandon, finish, publish, group, settle, reclaim, listen}
use Rattle.claims.specs.Rules.{listening_call, store_rules}
use Rattle.claims.specs.Run.{World, reply}
use Rattle.claims.proofs.Recovering.{Whole}
use Rattle.claims.proofs.Simulation.{Ready}
use Rattle.claims.proofs.Steady.{Steady, Kept}
use Rattle.claims.proofs.SteadyGroup.{group-kept}
use Rattle.claims.proofs.SteadyCalls.{begin-kept, abandon-kept, publish-kept, write_kept, finish-kept, settle-kept, read-desk, reclaim-desk, listen-finish-kept, listen-read-desk, find-desk}

pub whole_of : (N M : ℕ) (img : List ℕ) (d : Desk) → Ready N M img d → Whole N M img
whole_of N M img d h = record { shaped = h.shaped; records = h.records; sessions = h.sessions }

steady-of : (N M : ℕ) (img : List ℕ) (d : Desk) → Ready N M img d → Steady d
steady-of N M img d h = record { coherent = h.coherent; sized = record { holders = h.holders-long; sessions = h.sessions-long; copies = h.copies-long; order = h.order-long } }

stays : (d e : Desk) → Steady d → e ≡ d → Kept d e
stays d e h q = rw q (record { steady = h; n-same = refl; m-same = refl })

-- the listening room's calls keep the desk steady
listening-kept : (img : List ℕ) (d : Desk) (c : Listening) → Steady d → Kept d (listening_call img d c).desk
listening-kept img d (Begin s) h = begin-kept d s h
listening-kept img d (Read s r) h = stays d _ h (listen-read-desk img d s r)
listening-kept img d (Finish len s) h = listen-finish-kept img d len s h
listening-kept img d (Find s k) h = stays d _ h (find-desk img d s k)

-- every call keeps the desk steady
pub call_kept : (img : List ℕ) (d : Desk) (c : Call) → Steady d → Kept d (store_rules.call img d c).desk
call_kept img d (begin s) h = begin-kept d s h
call_kept img d (read s r) h = stays d _ h (read-desk img d s r)
call_kept img d (write s r ws) h = write_kept img d s r ws h
call_kept img d (abandon s) h = abandon-kept d s h
call_kept img d (finish len s) h = finish-kept img d len s h
call_kept img d (publish len s) h = publish-kept img d len s h
call_kept img d (group len set) h = group-kept img d len set h
call_kept img d (settle len s) h = settle-kept img d len s h
call_kept img d (reclaim len s) h = stays d _ h (reclaim-desk img d len s)
call_kept img d (listen c) h = listening-kept img d c h

pub ready-kept : (N M : ℕ) (w : World) (c : Call) (img' : List ℕ) → Ready N M w.image w.desk → Whole N M img' → (reply store_rules w c).desk.clock ≤ ceiling_of img'
    → Ready N M img' (reply store_rules w c).desk
unfolding reply
ready-kept N M w c img' h g u =
    let k = call_kept w.image w.desk c (steady-of N M w.image w.desk h) in
    record {
      shaped = g.shaped;
      records = g.records;
      sessions = g.sessions;
      n-same = k.n-same ∙ h.n-same;
      m-same = k.m-same ∙ h.m-same;
      under = u;
      coherent = k.steady.coherent;
      holders-long = k.steady.sized.holders;
      sessions-long = k.steady.sized.sessions;
      copies-long = k.steady.sized.copies;
      order-long = k.steady.sized.order;
    }
