-- The oldest of some numbers, which stand for logs (their persist numbers) or for readers (their starts): the smallest, the lowest place first among equals. 0 stands for one that is left out, since none of these has the number 0.
use Rattle.std.specs.Prelude.{ℕ, zero, suc, not, ◌&&◌, ◌||◌, Bool, true, cond, ltb, eqb, Option, Some, None}
use Rattle.layout.specs.declared.oldest.Oldest.{Oldest}

-- the number at a place, if it is not left out and smaller than the oldest so far
abbrev pub older : Oldest → ℕ → ℕ → Oldest
older best number place =
    cond (not (eqb number 0) && (eqb best.number 0 || ltb number best.number)) (record { number = number; place = place }) best

-- of the numbers f of the first k places; number 0 and place 0 where all are left out
unfoldable pub oldest_of : (ℕ → ℕ) → ℕ → Oldest
oldest_of f zero = record { number = 0; place = 0 }
oldest_of f (suc k) = older (oldest_of f k) (f k) k

-- the same, where no number is one that is left out
abbrev pub some_oldest : Oldest → Option Oldest
some_oldest o = cond (eqb o.number 0) None (Some o)

-- a number is smaller than the oldest so far, or the first
abbrev pub smaller_b : ℕ → Option Oldest → Bool
smaller_b number None = true
smaller_b number (Some o) = ltb number o.number

-- a step of the search
abbrev pub older_seen : Option Oldest → ℕ → ℕ → Option Oldest
older_seen best number place =
    cond (not (eqb number 0) && smaller_b number best) (Some (record { number = number; place = place })) best
