-- Years: a life is an opening, any list of calls, a cut anywhere in it, and attempts of recovery up to "clean"; the next opening is on what
-- it leaves.
use Rattle.std.specs.Prelude.{ℕ, ◌+◌, ◌<◌, Bool, ◌≡◌, List, [], ◌∷◌, ◌++◌}
use Rattle.layout.specs.Image.{records_of, ceiling_of, home_words}
use Rattle.layout.specs.Told.{ok, clean}
use Rattle.history.specs.Due.{four_words}
use Rattle.history.specs.History.{Seal, applied, record_of}
use Rattle.claims.specs.Rules.{Rules}
use Rattle.claims.specs.Recovery.{Attempt, after_calls, after_stop}
use Rattle.claims.specs.Demands.{Cut, cut_image, cut_history, opening_due, tried}

-- an opening with a trace of this many words, a cut, attempts in which power fails, then whole calls of recover, of which the last, with a
-- trace of `last` words, answers "clean"
pub record Life : Type 0 where
  pub trace : ℕ
  pub cut : Cut
  pub attempts : List Attempt
  pub whole : List ℕ
  pub last : ℕ
  pub arrives : ℕ → Bool

module _ (R : Rules) where
  -- the image img opens, and comes to "clean"
  pub record Comes (img : List ℕ) (life : Life) : Type 0 where
    pub opens : (R.opens img life.trace).told ≡ ok
    pub cleans : (R.recover (after_calls R life.whole (tried R img life.trace life.cut life.attempts)) life.last).told ≡ clean

  -- the image that it leaves
  unfoldable pub after_life : List ℕ → Life → List ℕ
  after_life img life =
      after_stop R (life.whole ++ (life.last ∷ [])) life.arrives (tried R img life.trace life.cut life.attempts)

  -- the same of lives, one after the other
  unfoldable pub AllCome : List Life → List ℕ → Type 0
  AllCome [] img = Unit {0}
  AllCome (life ∷ rest) img = Comes img life × AllCome rest (after_life img life)

  unfoldable pub after_lives : List Life → List ℕ → List ℕ
  after_lives [] img = img
  after_lives (life ∷ rest) img = after_lives rest (after_life img life)

  -- the transactions that they sealed, in order
  unfoldable pub sealed_in : List Life → List ℕ → List Seal
  sealed_in [] img = []
  sealed_in (life ∷ rest) img = (cut_history R img life.trace life.cut).sealed ++ sealed_in rest (after_life img life)

  pub record Endures (img : List ℕ) (lives : List Life) : Type 0 where
    -- after them, the records are the first opening's with the sealed transactions of all lives applied in order
    pub records : (r : ℕ) → r < records_of img → home_words (after_lives lives img) r ≡ four_words (applied (sealed_in lives img) r (home_words img r))
    -- after one life more, they are those of its book
    pub book : (life : Life) → Comes (after_lives lives img) life → (r : ℕ) → r < records_of img
        → home_words (after_life (after_lives lives img) life) r
        ≡ four_words (record_of (cut_history R (after_lives lives img) life.trace life.cut) r)
    -- the ceiling is the one that its cut left
    pub ceiling : (life : Life) → Comes (after_lives lives img) life
        → ceiling_of (after_life (after_lives lives img) life) ≡ ceiling_of (cut_image R (after_lives lives img) life.trace life.cut)
    -- and the next opening, with room in the trace, answers ok, or 10 where the ceiling is at L or more
    pub opens : (life : Life) → Comes (after_lives lives img) life → (x : ℕ)
        → (R.opens (after_life (after_lives lives img) life) (48 + x)).told ≡ opening_due (ceiling_of (after_life (after_lives lives img) life))

-- from any image, along any list of lives
abbrev pub Lives : Rules → Type 0
Lives R = (img : List ℕ) (lives : List Life) → AllCome R lives img → Endures R img lives
