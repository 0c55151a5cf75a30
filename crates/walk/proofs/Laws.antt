-- The laws of the turn that comes hold.
use Prim.Native.Nat.{ℕ, ◌<◌}
use mathlib.Core.Bool.{Bool, true, false, not, ◌&&◌, false≢true}
use mathlib.Core.List.{List}
use mathlib.Core.Path.{◌≡◌, refl, sym, ap, ◌∙◌}
use native.Mathlib.Omega.{arith}
use denote.Enum.Declared.{tag_of}
use lib.Dec.{eqb}
use borrow.Author.Tests.{eqb-true, eqb-false, eq-eqb}
use Rattle.layout.proofs.Says.{by-test}
use Rattle.feed.specs.Feed.{held_of}
use Rattle.codec.specs.Steps.{decode_of}
use Rattle.codec.specs.declared.decoding.Found.{Found}
use Rattle.codec.specs.declared.decoding.Found.TheVariants.{Whole, Bad as Unknown, Short, End as Nothing}
use Rattle.turns.specs.declared.state.State.{State}
use Rattle.turns.specs.declared.state.Next.{Next}
use Rattle.turns.specs.declared.state.Next.TheVariants.{Step as TakeStep, Open as ToOpen, Recover as ToRecover, Over, Failed, Stopped}
use Rattle.walk.specs.Turn.{found_turn, lacks_b, holds_b, read_turn, taken_of, over_turn, turn_at, turn_of}
use Rattle.walk.specs.Walk.{full_b}
use Rattle.walk.specs.Laws.{TurnLaws}
use Rattle.walk.specs.declared.turn.Turn.{Turn}
use Rattle.walk.specs.declared.turn.Turn.TheVariants.{Fill, Bad, End, Fail}
use Rattle.walk.specs.contracts.turn.Turn.{the_type}
use Rattle.walk.proofs.Turns.{found-starved, step-turn-is, both}

-- two turns that are not the same
differ : {a b : Turn} → a ≡ b → eqb (tag_of the_type a) (tag_of the_type b) ≡ false → ⊥
differ e f = eqb-false _ _ f (ap (tag_of the_type) e)

-- no lines are held
bare : (s : State) → holds_b s ≡ false → s.put ≡ 0
bare s e = by-test (eqb s.put 0) (λ t. eqb-true _ _ t) (λ f. absurd (false≢true (sym e ∙ ap not f)))

-- the second test fails where the first holds and not both do
second-fails : (a b : Bool) → a && b ≡ false → a ≡ true → b ≡ false
second-fails true b e t = e
second-fails false b e t = cc

no-fill : (found : Found) (laid : Bool) → found_turn found laid ≡ Fill → ⊥
no-fill found laid e = let l : 35 < 35 = rw e at (found-starved found laid 35) in omega (arith, l)

end-lacks : (found : Found) (laid : Bool) → found_turn found laid ≡ End → lacks_b found ≡ true
end-lacks (Whole step size) laid e =
    absurd (step-turn-is (λ t. t ≡ End → ⊥) (λ q. differ q refl) (λ n m q. differ q refl) (λ s q. differ q refl) step laid e)
end-lacks Unknown laid e = absurd (differ e refl)
end-lacks Short laid e = refl
end-lacks Nothing laid e = refl

-- the turn where the bytes held are read
module _ (d : Found) (s : State) where
  read-fills : (read_turn d s).turn ≡ Fill → (s.put ≡ 0) × (s.ended ≡ false)
  read-fills e =
      by-test (lacks_b d && holds_b s)
      (λ t. absurd (differ (rw t at e) refl))
      (λ f. by-test (lacks_b d && not s.ended)
      (λ t. let l = both (lacks_b d) (not s.ended) t in (bare s (second-fails _ _ f l.0), ended-not l.1))
      (λ g. absurd (no-fill d _ (rw (f, g) at e))))
    where
      ended-not : not s.ended ≡ true → s.ended ≡ false
      ended-not q = by-test s.ended (λ t. cc) (λ f. f)

  read-ends : (read_turn d s).turn ≡ End → s.put ≡ 0
  read-ends e =
      by-test (lacks_b d && holds_b s)
      (λ t. absurd (differ (rw t at e) refl))
      (λ f. by-test (lacks_b d && not s.ended)
      (λ t. absurd (differ (rw (f, t) at e) refl))
      (λ g. bare s (second-fails _ _ f (end-lacks d _ (rw (f, g) at e)))))

-- no more steps are taken
over-fills : (s : State) → (over_turn s).turn ≡ Fill → ⊥
over-fills s e = by-test (holds_b s) (λ t. differ (rw t at e) refl) (λ f. differ (rw f at e) refl)

over-ends : (s : State) → (over_turn s).turn ≡ End → s.put ≡ 0
over-ends s e = by-test (holds_b s) (λ t. absurd (differ (rw t at e) refl)) (λ f. bare s f)

-- the turn that comes where there is room
fills-at : (next : Next) (input : List ℕ) (s : State) → (turn_at next input s).turn ≡ Fill → (s.put ≡ 0) × (s.ended ≡ false)
unfolding taken_of
fills-at TakeStep input s e = read-fills (decode_of (held_of input s.at s.have)) s e
fills-at ToOpen input s e = absurd (differ e refl)
fills-at ToRecover input s e = absurd (differ e refl)
fills-at Over input s e = absurd (over-fills s e)
fills-at Failed input s e = absurd (differ e refl)
fills-at Stopped input s e = absurd (over-fills s e)

ends-at : (next : Next) (input : List ℕ) (s : State) → (turn_at next input s).turn ≡ End → s.put ≡ 0
unfolding taken_of
ends-at TakeStep input s e = read-ends (decode_of (held_of input s.at s.have)) s e
ends-at ToOpen input s e = absurd (differ e refl)
ends-at ToRecover input s e = absurd (differ e refl)
ends-at Over input s e = over-ends s e
ends-at Failed input s e = absurd (differ e refl)
ends-at Stopped input s e = over-ends s e

module _ (input : List ℕ) (s : State) where
  turn-fills : (turn_of input s).turn ≡ Fill → (s.put ≡ 0) × (s.ended ≡ false)
  unfolding turn_of
  turn-fills e = fills-at s.next input s e

  turn-ends : (turn_of input s).turn ≡ End → s.put ≡ 0
  unfolding turn_of
  turn-ends e = ends-at s.next input s e

  turn-fails : s.next ≡ Failed → (turn_of input s).turn ≡ Fail
  unfolding turn_of
  turn-fails e = rw e refl

short-ended : (d : Found) (s : State) → d ≡ Short → (read_turn d s).turn ≡ Bad → s.ended ≡ true
short-ended d s e b =
    by-test (holds_b s)
    (λ t. absurd (differ (rw (e, t) at b) refl))
    (λ f. by-test s.ended (λ t. t) (λ g. absurd (differ (rw (e, f, g) at b) refl)))

pub turn-laws : TurnLaws
turn-laws =
    record {
      whole-taken = λ d s step size e. rw e refl;
      lay-once = λ n m. (refl, refl);
      call-later = λ step. (refl, refl);
      unknown-bad = λ laid. refl;
      short-ended = short-ended;
      short-bad = λ d s e t z. rw (e, t, eq-eqb _ 0 z) refl;
      waits-bare = λ w e.
          by-test (full_b w.work) (λ t. absurd (differ (rw t at e) refl)) (λ f. turn-fills w.input w.work.state (rw f at e));
      ends-bare = λ w e.
          by-test (full_b w.work) (λ t. absurd (differ (rw t at e) refl)) (λ f. turn-ends w.input w.work.state (rw f at e));
      failed-told = λ w f e. rw f (turn-fails w.input w.work.state e);
    }
