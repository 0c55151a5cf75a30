use Prim.Native.Nat.{◌≤◌, ◌+◌}
use Rattle.desk.specs.declared.state.Desk.{Desk}
use Rattle.desk.specs.Coherent.{limit}
use Rattle.desk.specs.Strike.{sizes_pass}
use Rattle.layout.proofs.Says.{Says, says-le, says-and}

abbrev pub SizesIn : Desk → Type 0
SizesIn d = (((1 ≤ d.clock) × (d.clock ≤ limit + 16)) × ((1 ≤ d.n) × (d.n ≤ 256))) × ((1 ≤ d.m) × (d.m ≤ 16))

pub says-sizes-pass : (d : Desk) → Says (sizes_pass d) (SizesIn d)
says-sizes-pass d =
    says-and
    (says-and (says-and (says-le 1 d.clock) (says-le d.clock (limit + 16))) (says-and (says-le 1 d.n) (says-le d.n 256)))
    (says-and (says-le 1 d.m) (says-le d.m 16))
