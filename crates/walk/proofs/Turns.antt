-- A turn leaves the walk's state within its buffers.
use Prim.Native.Nat.{ℕ, suc, zero, ◌+◌, ◌-◌, ◌≤◌, ◌<◌}
use mathlib.Core.Bool.{Bool, true, false, ◌&&◌, false≢true}
use mathlib.Core.List.{List}
use mathlib.Core.Path.{◌≡◌, refl}
use native.Mathlib.Omega.{arith}
use lib.Dec.{eqb, ltb}
use lib.ListN.{length, get_or, drop, length-drop}
use lib.Seq.{length-take-le}
use borrow.Author.Tests.{eqb-true, ltb-true}
use Rattle.layout.proofs.Says.{by-test}
use Rattle.codec.specs.Steps.{body_of, decode_of}
use Rattle.feed.specs.Feed.{held_of}
use Rattle.codec.specs.declared.step.Step.{Step}
use Rattle.codec.specs.declared.step.Step.TheVariants.{Lay, Begin, Read, Write, Finish, Publish, Settle, Reclaim, Abandon, Cut}
use Rattle.codec.specs.declared.decoding.Found.{Found}
use Rattle.codec.specs.declared.decoding.Found.TheVariants.{Whole, Bad as Unknown, Short, End as Nothing}
use Rattle.turns.specs.declared.state.State.{State}
use Rattle.walk.specs.declared.turn.Turn.{Turn}
use Rattle.walk.specs.declared.turn.Turn.TheVariants.{Call, Lay as LayOut, Bad}
use Rattle.walk.specs.Turn.{call_turn, step_turn, found_turn, lacks_b}
use Rattle.walk.specs.Bounds.{Within, Starved}

-- a buffer's length, after it was lent
pub kept : {a b c : ℕ} → a ≡ c → a ≡ b → b ≡ c
kept p q = omega (arith, p, q)

-- the buffers by other names of their lengths
pub renamed : {s : State} {i o m i' o' m' : ℕ} → Within s i o m → i ≡ i' → o ≡ o' → m ≡ m' → Within s i' o' m'
renamed w p q r =
    record {
      longest = omega (arith, w.longest, p);
      from = w.from;
      held = omega (arith, w.held, p);
      written = omega (arith, w.written, q);
      sized = omega (arith, w.sized, r);
    }

call-is : (P : Turn → Type 0) → P Bad → ((step : Step) → P (Call step)) → (step : Step) (laid : Bool) → P (call_turn step laid)
call-is P b c step true = c step
call-is P b c step false = b

-- the turn of a step is "bad", a lay or a call
pub step-turn-is : (P : Turn → Type 0) → P Bad → ((n m : ℕ) → P (LayOut n m)) → ((step : Step) → P (Call step)) → (step : Step) (laid : Bool)
    → P (step_turn step laid)
step-turn-is P b l c (Lay n m) true = b
step-turn-is P b l c (Lay n m) false = l n m
step-turn-is P b l c (Begin s) laid = call-is P b c (Begin s) laid
step-turn-is P b l c (Read s r) laid = call-is P b c (Read s r) laid
step-turn-is P b l c (Write s r ws) laid = call-is P b c (Write s r ws) laid
step-turn-is P b l c (Finish s) laid = call-is P b c (Finish s) laid
step-turn-is P b l c (Publish s) laid = call-is P b c (Publish s) laid
step-turn-is P b l c (Settle s) laid = call-is P b c (Settle s) laid
step-turn-is P b l c (Reclaim s) laid = call-is P b c (Reclaim s) laid
step-turn-is P b l c (Abandon s) laid = call-is P b c (Abandon s) laid
step-turn-is P b l c (Cut k) laid = call-is P b c (Cut k) laid

-- a step that was found is no turn that reads
pub found-starved : (found : Found) (laid : Bool) (held : ℕ) → Starved (found_turn found laid) held
found-starved (Whole step size) laid held = step-turn-is (λ t. Starved t held) tt (λ n m. tt) (λ s. tt) step laid
found-starved Unknown laid held = tt
found-starved Short laid held = tt
found-starved Nothing laid held = tt

-- a body has 34 bytes at most
body-most : (kind : ℕ) → body_of kind ≤ 34
body-most zero = omega arith
body-most (suc zero) = omega arith
body-most (suc (suc zero)) = omega arith
body-most (suc (suc (suc zero))) = omega arith
body-most (suc (suc (suc (suc zero)))) = omega arith
body-most (suc (suc (suc (suc (suc zero))))) = omega arith
body-most (suc (suc (suc (suc (suc (suc zero)))))) = omega arith
body-most (suc (suc (suc (suc (suc (suc (suc zero))))))) = omega arith
body-most (suc (suc (suc (suc (suc (suc (suc (suc zero)))))))) = omega arith
body-most (suc (suc (suc (suc (suc (suc (suc (suc (suc zero))))))))) = omega arith
body-most (suc (suc (suc (suc (suc (suc (suc (suc (suc (suc k)))))))))) = omega arith

-- bytes that no whole step starts are fewer than the longest step has
pub lacks-few : (s : List ℕ) → lacks_b (decode_of s) ≡ true → length s < 35
unfolding decode_of
lacks-few s e =
    by-test (eqb (length s) 0)
    (λ t. omega (arith, eqb-true (length s) 0 t))
    (λ f. by-test (ltb 9 (get_or s 0 0))
    (λ t. absurd (false≢true (rw (f, t) at e)))
    (λ g. by-test (ltb (length s) (body_of (get_or s 0 0) + 1))
    (λ t. omega (arith, ltb-true (length s) (body_of (get_or s 0 0) + 1) t, body-most (get_or s 0 0)))
    (λ h. absurd (false≢true (rw (f, g, h) at e)))))

pub both : (a b : Bool) → a && b ≡ true → (a ≡ true) × (b ≡ true)
both true b e = (refl, e)
both false b e = absurd (false≢true e)

length-held : (input : List ℕ) (at have : ℕ) → have ≤ length input → length (held_of input at have) ≡ have - at
length-held input at have h = length-take-le (have - at) (drop at input) (omega (arith, length-drop at input, h))

-- bytes held that no whole step starts are fewer than the longest step has
pub fill_starved : (input : List ℕ) (s : State) → s.have ≤ length input → lacks_b (decode_of (held_of input s.at s.have)) ≡ true
    → s.have - s.at < 35
fill_starved input s h t = omega (arith, lacks-few (held_of input s.at s.have) t, length-held input s.at s.have h)
