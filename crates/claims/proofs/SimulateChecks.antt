-- The checks of the calls that take a trace.
use Prim.Native.Nat.{ℕ, suc, ◌≤◌, ◌<◌}
use mathlib.Core.Path.{◌≡◌, refl, sym, ap, ◌∙◌}
use mathlib.Core.List.{List, []}
use native.Mathlib.Decide.{dec_lt}
use native.Mathlib.Omega.{arith}
use lib.Dec.{ltb}
use lib.ListN.{length}
use borrow.Author.Tests.{lt-ltb, le-ltb, le-leb, lt-leb}
use Rattle.layout.specs.Checks.{unless, first, answered}
use Rattle.layout.specs.Entries.{Entry}
use Rattle.desk.specs.Desk.{session_at}
use Rattle.desk.specs.declared.state.Desk.{Desk}
use Rattle.desk.proofs.Copied.{copies-four}
use Rattle.desk.specs.Entering.{image_fault}
use Rattle.layout.specs.Checks.{room_for}
use Rattle.layout.specs.Told.{Told, refusal}
use Rattle.history.specs.Call.{Call}
use Rattle.history.specs.Due.{Due, refuse, if_room, if_session}
use Rattle.history.specs.Ledger.{note_desk}
use Rattle.claims.proofs.Abstraction.{abs, copies_of, length_front}
use Rattle.claims.proofs.Entering.{session-small}
use Rattle.claims.proofs.Simulation.{Sim, Ready, ready-fault}

module _ (N M : ℕ) (img : List ℕ) (d : Desk) (len s : ℕ) (h : Ready N M img d) where
  -- a trace under 48 words is refused with 3
  short-fault : len < 48 → image_fault img d (room_for len) s ≡ 3
  unfolding first
  short-fault l = ready-fault N M img d (room_for len) s h ∙ rw (lt-leb 48 len l)

  -- past it check 4 is left
  long-fault : 48 ≤ len → image_fault img d (room_for len) s ≡ unless (ltb s d.m) 4
  unfolding first
  long-fault l = ready-fault N M img d (room_for len) s h ∙ rw (le-leb 48 len l)

-- a call on the desk d, by its checks: what it gives and lists past its checks, and what it gives where one refuses, the desk as it was
pub record Checked (d : Desk) (f : ℕ → ℕ) : Type 1 where
  pub call : Call
  pub Gives : Type 0
  pub tells : Gives → Told
  pub left : Gives → Desk
  pub refused : ℕ → Gives
  pub done : Gives
  pub listed : List Entry
  pub refuses : (k : ℕ) → k < 20 → tells (refused (suc k)) ≡ refusal (suc k)
  pub keeps : (k : ℕ) → left (refused k) ≡ d
  pub notes : (k : ℕ) → note_desk call (refusal k) f (abs d) ≡ abs d

module _ (d : Desk) (f : ℕ → ℕ) (c : Checked d f) where
  -- with this fault it gives what is due
  abbrev pub Does : ℕ → Due → Type 0
  Does fault y =
      Sim c.call f d (c.tells (answered fault c.refused c.done)) (answered fault (λ k. []) c.listed)
      (c.left (answered fault c.refused c.done)) y

  -- a refusal by a number of the table
  pub does-refuse : (k : ℕ) → k < 20 → Does (suc k) (refuse (suc k))
  unfolding answered
  does-refuse k l = record { answers = c.refuses k l; stored = refl; desk = ap abs (c.keeps (suc k)) ∙ sym (c.notes (suc k)) }

  -- checks 3 and 4, then the others
  pub past-four : (N M : ℕ) (img : List ℕ) (len s next : ℕ) (y : Due) → Ready N M img d → (s < M → Does next y)
      → Does (first (image_fault img d (room_for len) s) next) (if_room len (if_session M s y))
  unfolding first
  past-four N M img len s next y h g = room (dec_lt len 48)
    where
      go : Dec (s < M) → Does (first (unless (ltb s M) 4) next) (if_session M s y)
      go (yes x) = rw (lt-ltb s M x, lt-leb M s x) (g x)
      go (no n) = rw (le-ltb s M (omega arith), le-leb M s (omega arith)) (does-refuse 3 (omega arith))

      room : Dec (len < 48) → Does (first (image_fault img d (room_for len) s) next) (if_room len (if_session M s y))
      room (yes l) = rw (short-fault N M img d len s h l, lt-leb 48 len l) (does-refuse 2 (omega arith))
      room (no n) =
          rw (long-fault N M img d len s h (omega arith) ∙ ap (λ m. unless (ltb s m) 4) h.m-same, le-leb 48 len (omega arith)) (go (dec_lt s M))

-- a session below M
module _ (N M : ℕ) (img : List ℕ) (d : Desk) (s : ℕ) (h : Ready N M img d) (l : s < M) where
  -- has a place for each of its copies
  pub fits : (session_at d s).count ≤ length (session_at d s).copies
  fits = omega (arith, copies-four d h.coherent s (session-small N M img d h s l), h.copies-long s (session-small N M img d h s l))

  -- and as many copies as it counts
  pub count-is : length (copies_of (session_at d s)) ≡ (session_at d s).count
  count-is = length_front (session_at d s).count (session_at d s).copies fits
