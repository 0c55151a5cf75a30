-- What coherence says of a session's copies.
use Prim.Native.Nat.{ℕ, ◌<◌, ◌≤◌}
use mathlib.Core.Bool.{true, ◌||◌}
use mathlib.Core.Path.{◌≡◌}
use native.Mathlib.Omega.{arith}
use Rattle.layout.specs.Homes.{Differ}
use Rattle.desk.specs.declared.state.Desk.{Desk}
use Rattle.desk.specs.Desk.{copied_rec, session_at, is_sealed, is_published}
use Rattle.desk.proofs.Facts.{count-four, count-one, Coherent}

module _ (d : Desk) (h : Coherent d) (s : ℕ) (l : s < 16) where
  -- at most four
  pub copies-four : (session_at d s).count ≤ 4
  copies-four = count-four (session_at d s).phase (session_at d s).count (h.session s l).count

  -- at least one, in a sealed or published session
  pub copies-some : is_sealed (session_at d s).phase || is_published (session_at d s).phase ≡ true → 1 ≤ (session_at d s).count
  copies-some e = count-one (session_at d s).phase (session_at d s).count e (h.session s l).count

  -- of records below N
  pub copies-below : (j : ℕ) → j < (session_at d s).count → copied_rec (session_at d s) j < d.n
  copies-below j u = (((h.session s l).places j (omega (arith, copies-four))).0 u).0

  -- that differ
  pub copies-differ : Differ (copied_rec (session_at d s)) (session_at d s).count
  copies-differ i j u v = (((h.session s l).places j (omega (arith, copies-four))).0 v).1 i u
