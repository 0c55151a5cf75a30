-- The number of entries that finish, settle and recover list, as the table of document 02's Req 04. Document 01 has them as 5c + 4, 4c + 1
-- and 4c + 3 for c copies; that both are the same is the claim `LengthTable`. Beside them the lengths with a short log (document 02,
-- Req 08), by its number of pairs.
use Rattle.std.specs.Prelude.{ℕ, ◌+◌, ◌*◌, cond, eqb}
use Rattle.journal.specs.Log.{Slot, count_of, short_b, pairs_of, shorter_b}

-- a row of the table: its numbers for 1, 2, 3 and 4 copies; 0 for any other number, of which there is no list
abbrev pub by_copies : ℕ → ℕ → ℕ → ℕ → ℕ → ℕ
by_copies c one two three four = cond (eqb c 1) one (cond (eqb c 2) two (cond (eqb c 3) three (cond (eqb c 4) four 0)))

-- finish: count and copies, a fence, the persist number, a fence
unfoldable pub finish_length : ℕ → ℕ
finish_length c = by_copies c 9 14 19 24

-- settle: the copies go home, a fence
unfoldable pub settle_length : ℕ → ℕ
settle_length c = by_copies c 5 9 13 17

-- recover: the copies go home, a fence, 0 into the persist number, a fence
unfoldable pub recover_length : ℕ → ℕ
recover_length c = by_copies c 7 11 15 19

-- finish, of c copies of which k words differ from home: the form's length; a short log has its count word and pairs, a fence, the persist
-- number, a fence
unfoldable pub seal_length : ℕ → ℕ → ℕ
seal_length k c = cond (shorter_b k c) (2 * k + 4) (finish_length c)

-- recover, by the form of the log: of a short one the words go home, a fence, 0 into the persist number, a fence
unfoldable pub replay_length : Slot → ℕ
replay_length f = cond (short_b f) (pairs_of f + 3) (recover_length (count_of f))
