-- One turn of a walk, by which turn it is.
use Prim.Native.Nat.{ℕ, ◌+◌}
use mathlib.Core.Bool.{true, false}
use native.Mathlib.Numerals.{add-one}
use mathlib.Core.List.{List}
use mathlib.Core.Path.{◌≡◌, refl, ◌∙◌}
use Rattle.layout.specs.Entries.{made}
use Rattle.desk.specs.declared.state.Desk.{Desk}
use Rattle.recovery.specs.Open.{open_entries, open_reply}
use Rattle.codec.specs.declared.step.Step.{Step}
use Rattle.turns.specs.State.{opened_of}
use Rattle.turns.specs.Output.{Flushed}
use Rattle.walk.specs.Turn.{aside_of, turn_of}
use Rattle.walk.specs.Walk.{Heard, Work, image_of, in_state, with_image, called, work_after, desk_turned, Fed, Scene, full_b, next_of, OneTurn, Walked}
use Rattle.turns.specs.declared.state.State.{State}
use Rattle.turns.specs.declared.state.Next.TheVariants.{Stopped}
use Rattle.walk.specs.declared.turn.Turn.TheVariants.{Open, Call, Flush}
use Rattle.walk.specs.declared.turn.Taken.{Taken}
use Rattle.walk.proofs.WalkLaws.{nothing_heard, heard_written}

module _ (len : ℕ) (w : Scene) where
  -- a turn, by what it is
  acted : {t : Taken} → t ≡ next_of w → (h : Heard) {v : Scene} → Fed t.turn t.state w.input h
      → v ≡ record {
        input = h.input;
        work = work_after len h t.turn w.desk (in_state w.work t.state);
        desk = desk_turned len t.turn w.desk (in_state w.work t.state);
      }
      → OneTurn len w v
  acted q h g e = (h, rw q at g, rw q at e)

  -- the lines were written out for want of room
  pub written-turn : {s : State} → full_b w.work ≡ true → Flushed w.work.state s
      → OneTurn len w (record { input = w.input; work = in_state w.work s; desk = w.desk })
  written-turn f e = acted {t = aside_of Flush w.work.state} (rw f) (heard_written w.input e.0) refl (rw e.1)

  module _ {t : Taken} (f : full_b w.work ≡ false) (p : t ≡ turn_of w.input w.work.state) where
    q : t ≡ next_of w
    q = p ∙ rw f

    -- the image was opened
    pub opened-turn : {d : Desk} {s : State} {img : List ℕ} → t.turn ≡ Open → let i = image_of (in_state w.work t.state) in
        d ≡ (open_reply i len).desk → img ≡ made (open_entries i len) i → s ≡ opened_of t.state
        → OneTurn len w (record { input = w.input; work = in_state (with_image (in_state w.work t.state) img) s; desk = d })
    opened-turn o e i z = acted q (nothing_heard w.input) (rw o refl) (rw (o, e, i, z))

    -- a step was made
    pub called-turn : (step : Step) {d : Desk} {v : Work} → t.turn ≡ Call step
        → v ≡ called len w.desk step (in_state w.work t.state)
        → d ≡ desk_turned len (Call step) w.desk (in_state w.work t.state)
        → OneTurn len w (record { input = w.input; work = v; desk = d })
    called-turn step o e z = acted q (nothing_heard w.input) (rw o refl) (rw (o, e, z))

-- no turn was made
pub walked-none : (len : ℕ) (w : Scene) → Walked len 0 w w
unfolding Walked
walked-none len w = refl

-- one turn more
pub walked-on : (len n : ℕ) (u v w : Scene) {k : ℕ} → k ≡ len → Walked len n u v → (v.work.state.next ≡ Stopped → ⊥) → OneTurn k v w
    → Walked len (n + 1) u w
unfolding Walked
walked-on len n u v w q g e o = rw add-one (v, g, e, rw q at o)
