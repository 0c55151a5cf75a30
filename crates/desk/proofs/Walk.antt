-- The passes of the coherence check over a desk: what each knows after some turns, and what is found at the end.
use Prim.Native.Nat.{ℕ, ◌+◌, ◌<◌, ◌≤◌}
use mathlib.Core.Bool.{Bool, true, false, ◌&&◌, cond}
use mathlib.Core.List.{List}
use mathlib.Core.Path.{◌≡◌, refl}
use native.Mathlib.Numerals.{add-one}
use native.Mathlib.Omega.{arith}
use lib.ListN.{get_or, set, replicate}
use borrow.Author.Tests.{le-leb, lt-leb, lt-ltb, le-ltb}
use Rattle.std.specs.Prelude.{Some, None}
use Rattle.layout.specs.Below.{all_below, count_below}
use Rattle.layout.proofs.BelowLaws.{all_more, all-fails, count-more, count_most}
use Rattle.desk.specs.declared.state.Desk.{Desk}
use Rattle.desk.specs.declared.coherence.Struck.{Struck}
use Rattle.desk.specs.Desk.{session_at, order_at, is_active, active_at, active_count}
use Rattle.desk.specs.declared.state.Phase.{Phase}
use Rattle.desk.specs.declared.state.Phase.TheVariants.{Idle, Active, Sealed, Published}
use Rattle.desk.specs.Coherent.{sealed_at}
use Rattle.desk.specs.Strike.{entry_passes, struck_entry, struck_below, entry_passes_at, noted_below, blank_below, start_before, list_passes}
use Rattle.desk.specs.Struck.{struck_copies, struck_list}

-- the sessions below t have passed: what they leave of the holders, and how many of them are active, and sealed
pub record Walk (d : Desk) (k : Struck) (t : ℕ) : Type 0 where
  pub marks : k.marks ≡ struck_below d t
  pub busy : all_below t (entry_passes_at d) ≡ true
  pub actives : k.active ≡ count_below t (active_at d)
  pub seals : k.sealed ≡ count_below t (sealed_at d)

pub walk-starts : (d : Desk) → Walk d (record { marks = d.holders; active = 0; sealed = 0 }) 0
unfolding all_below struck_below count_below
walk-starts d = record { marks = refl; busy = refl; actives = refl; seals = refl }

module _ {d : Desk} {k : Struck} {t : ℕ} (w : Walk d k t) where
  tested_at : (b : Bool) → entry_passes k.marks d.clock d.n d.m t (session_at d t) ≡ b → entry_passes_at d t ≡ b
  tested_at b e = rw w.marks at e

  -- session t has passed
  pub walk-turns : entry_passes k.marks d.clock d.n d.m t (session_at d t) ≡ true
      → Walk d (record { marks = struck_entry k.marks d.n (session_at d t); active = k.active + cond (active_at d t) 1 0; sealed = k.sealed + cond (sealed_at d t) 1 0 }) (t + 1)
  unfolding struck_below
  walk-turns e =
      record {
        marks = rw (add-one, w.marks);
        busy = all_more (entry_passes_at d) t w.busy (tested_at true e);
        actives = omega (arith, w.actives, count-more (active_at d) t);
        seals = omega (arith, w.seals, count-more (sealed_at d) t);
      }

  -- session t has not passed
  pub walk-fails : t < 16 → entry_passes k.marks d.clock d.n d.m t (session_at d t) ≡ false → None ≡ struck_copies d
  unfolding struck_copies
  walk-fails l e = rw (all-fails (entry_passes_at d) 16 t l (tested_at false e))

  pub walk_ends : t ≡ 16 → Some k ≡ struck_copies d
  unfolding struck_copies
  walk_ends e =
      let b : all_below 16 (entry_passes_at d) ≡ true = rw e at w.busy in
      let m : k.marks ≡ struck_below d 16 = rw e at w.marks in
      let a : k.active ≡ active_count d = rw e at w.actives in
      let z : k.sealed ≡ count_below 16 (sealed_at d) = rw e at w.seals in
      rw (b, ← m, ← a, ← z) refl

  -- the numbers stay small
  pub few : (k.active ≤ t) × (k.sealed ≤ t)
  few = (omega (arith, w.actives, count_most (active_at d) t), omega (arith, w.seals, count_most (sealed_at d) t))

-- the places below j of the list are struck out, their sessions noted, with nothing wrong; `last` is the last one's start
pub record Lists (d : Desk) (left : List ℕ) (noted : List Bool) (last j : ℕ) : Type 0 where
  pub blank : left ≡ blank_below d.order j
  pub names : noted ≡ noted_below d.order j
  pub start : last ≡ start_before d.sessions d.order j
  pub passed : all_below j (list_passes d.sessions d.order) ≡ true

pub lists-start : (d : Desk) → Lists d d.order (replicate 16 false) 0 0
unfolding all_below blank_below noted_below start_before
lists-start d = record { blank = refl; names = refl; start = refl; passed = refl }

-- a phase that is no start
inactive : (p : Phase) → ((b : ℕ) → p ≡ Active b → ⊥) → is_active p ≡ false
inactive Idle n = refl
inactive (Active b) n = absurd (n b refl)
inactive (Sealed p) n = refl
inactive (Published e) n = refl

and-false : (a : Bool) → (a && false) ≡ false
and-false true = refl
and-false false = refl

module _ {d : Desk} {left : List ℕ} {noted : List Bool} {last j : ℕ} (w : Lists d left noted last j) where
  pub lists-end : (active : ℕ) → j ≡ active → Some left ≡ struck_list d active
  unfolding struck_list
  lists-end active e = rw (← e, w.passed, w.blank) refl

  module _ {active : ℕ} (l : j < active) where
    -- place j has not passed
    not-passed : list_passes d.sessions d.order j ≡ false → None ≡ struck_list d active
    unfolding struck_list
    not-passed e = rw (all-fails (list_passes d.sessions d.order) active j l e)

    -- it has no session
    pub lists-high : 16 ≤ order_at d j → None ≡ struck_list d active
    lists-high e = not-passed (rw (le-ltb (order_at d j) 16 e))

    module _ (low : order_at d j < 16) where
      -- its session was noted before
      pub lists-twice : get_or noted (order_at d j) false ≡ true → None ≡ struck_list d active
      lists-twice e = not-passed (rw (lt-ltb (order_at d j) 16 low, (rw w.names at e)))

      module _ (new : get_or noted (order_at d j) false ≡ false) where
        -- its session is not active
        pub lists-idle : ((b : ℕ) → (session_at d (order_at d j)).phase ≡ Active b → ⊥) → None ≡ struck_list d active
        lists-idle n = not-passed (rw (lt-ltb (order_at d j) 16 low, (rw w.names at new), inactive _ n))

        module _ {start : ℕ} (is : (session_at d (order_at d j)).phase ≡ Active start) where
          -- its start falls
          pub lists-falls : start < last → None ≡ struck_list d active
          lists-falls f = not-passed (rw (lt-ltb (order_at d j) 16 low, (rw w.names at new), is, lt-leb _ _ (rw w.start at f)))

          -- place j has passed
          pub lists-turns : last ≤ start → Lists d (set left j 0) (set noted (order_at d j) true) start (j + 1)
          unfolding blank_below noted_below start_before
          lists-turns f =
              record {
                blank = rw (add-one, w.blank);
                names = rw (add-one, w.names);
                start = rw (add-one, is);
                passed =
                    all_more (list_passes d.sessions d.order) j w.passed
                    (rw (lt-ltb (order_at d j) 16 low, (rw w.names at new), is, le-leb _ _ (rw w.start at f)));
              }
