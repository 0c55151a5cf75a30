-- What holds of image, desk, trace and session once the first checks of a call with an image have passed.
use Prim.Native.Nat.{ℕ, ◌+◌, ◌<◌, ◌≤◌}
use mathlib.Core.Bool.{Bool, true, ◌&&◌}
use mathlib.Core.Path.{◌≡◌}
use mathlib.Core.List.{List}
use native.Mathlib.Omega.{arith}
use lib.Dec.{ltb}
use Rattle.std.specs.Prelude.{Result, Ok, Err, OnOk}
use lib.ListN.{length}
use borrow.Author.Tests.{ltb-true}
use Rattle.layout.specs.Checks.{unless}
use Rattle.layout.proofs.ChecksLaws.{first-both, unless-zero, first-most, unless-most}
use Rattle.layout.specs.Image.{records_of, sessions_of, ceiling_of, shaped_b, home_at}
use Rattle.layout.proofs.Says.{says-and, says_eq, says-le}
use Rattle.layout.proofs.Shape.{Shaped, says-shaped}
use Rattle.desk.specs.Coherent.{coherent_b}
use Rattle.desk.specs.Desk.{copied_rec, session_at}
use Rattle.desk.specs.declared.state.Desk.{Desk}
use Rattle.desk.proofs.Copied.{copies-below}
use Rattle.desk.proofs.Facts.{Coherent, says-coherent}
use Rattle.desk.specs.Entering.{agrees_b, entry_fault, image_fault}

pub record Entered (img : List ℕ) (d : Desk) (room : Bool) (s : ℕ) : Type 0 where
  pub shaped : Shaped img
  pub coherent : Coherent d
  pub n-same : d.n ≡ records_of img
  pub m-same : d.m ≡ sessions_of img
  pub under : d.clock ≤ ceiling_of img
  pub room-enough : room ≡ true
  pub below : s < d.m
  pub small : s < 16

pub entered : (img : List ℕ) (d : Desk) (room : Bool) (s : ℕ) → image_fault img d room s ≡ 0 → Entered img d room s
unfolding entry_fault
entered img d room s e =
    let a = first-both (unless (shaped_b img) 1) _ e in
    let b = first-both (unless (coherent_b d && agrees_b img d.clock d.n d.m) 2) _ a.1 in
    let c = first-both (unless room 3) _ b.1 in
    let same = says-and (says-and (says_eq d.n (records_of img)) (says_eq d.m (sessions_of img))) (says-le d.clock (ceiling_of img)) in
    let t = (says-and (says-coherent d) same).yes (unless-zero _ 1 b.0) in
    let l : s < d.m = ltb-true _ _ (unless-zero _ 3 c.1) in
    record {
      shaped = (says-shaped img).yes (unless-zero _ 0 a.0);
      coherent = t.0;
      n-same = t.1.0.0;
      m-same = t.1.0.1;
      under = t.1.1;
      room-enough = unless-zero _ 2 c.0;
      below = l;
      small = omega (arith, t.0.m-high, l);
    }

-- the session's copies are of small records, whose homes are in the image
pub homes-inside : {img : List ℕ} {d : Desk} {room : Bool} {s : ℕ} → Entered img d room s → (j : ℕ) → j < (session_at d s).count
    → (copied_rec (session_at d s) j < 256) × (home_at (copied_rec (session_at d s) j) + 4 ≤ length img)
homes-inside {img} {d} {room} {s} f j l =
    let b = copies-below d f.coherent s f.small j l in
    (omega (arith, b, f.coherent.n-high), omega (arith, b, f.n-same, f.shaped.size))

-- 1 to 4 are the numbers of these checks
pub entry-most : (img : List ℕ) (d : Desk) (room : Bool) (s : ℕ) → image_fault img d room s ≤ 4
unfolding entry_fault
entry-most img d room s =
    first-most 4 _ _ (unless-most 4 (shaped_b img) 1 (omega arith))
    (first-most 4 _ _ (unless-most 4 (coherent_b d && agrees_b img d.clock d.n d.m) 2 (omega arith))
    (first-most 4 _ _ (unless-most 4 room 3 (omega arith)) (unless-most 4 (ltb s d.m) 4 (omega arith))))

-- what holds, holds of what is answered
pub on-ok : {A E P : Type 0} (r : Result A E) → P → OnOk r P
on-ok (Ok x) p = p
on-ok (Err e) p = tt
