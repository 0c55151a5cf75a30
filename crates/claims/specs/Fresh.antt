-- Numbers that never come back after a restart (document 02, Req 05): no start or end number of one opening is given in a later one. The
-- image is not laid anew between, and the desk of an opening is dropped at the next one.
use Rattle.std.specs.Prelude.{ℕ, cond, ◌||◌, ◌≡◌, List, ◌∷◌, ◌++◌}
use Rattle.std.proofs.Math.Option.{Option, none, some}
use Rattle.layout.specs.Told.{Told, ok, is, value_of, Start, End}
use Rattle.history.specs.Call.{Call}
use Rattle.claims.specs.Rules.{Rules}
use Rattle.claims.specs.Run.{opened, reply, run}
use Rattle.claims.specs.Demands.{before}
use Rattle.claims.specs.Lives.{Life, AllCome, after_lives}

-- the number that an answer gives, if it is a start or an end
abbrev pub number_given : Told → Option ℕ
number_given t = cond (is Start t || is End t) (some (value_of t)) none

module _ (R : Rules) where
  -- behind an opening of the image, with a trace of len words, one of these calls answers with the number n
  pub record Gives (img : List ℕ) (len : ℕ) (calls : List Call) (n : ℕ) : Type 0 where
    pub earlier : List Call
    pub call : Call
    pub later : List Call
    pub along : calls ≡ earlier ++ (call ∷ later)
    pub told : number_given (reply R (run R earlier (opened R img len)) call).told ≡ some n

  -- a life and any others behind it, then one more opening: whatever was cut, torn and recovered between, no number that was given in the
  -- life is given again; the cut call is no step, so it has given none
  abbrev pub Fresh : Type 0
  Fresh = (img : List ℕ) (life : Life) (between : List Life) → AllCome R (life ∷ between) img
      → (len : ℕ) → (R.opens (after_lives R (life ∷ between) img) len).told ≡ ok → (calls : List Call) (n : ℕ)
      → Gives img life.trace (before life.cut) n → Gives (after_lives R (life ∷ between) img) len calls n → ⊥
