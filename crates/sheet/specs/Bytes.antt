-- An image out of bytes (document 02, Req 10): each word lowest byte first.
use Rattle.std.specs.Prelude.{ℕ, zero, suc, ◌/◌, ◌%◌, ◌&&◌, cond, List, [], ◌∷◌, ◌++◌, length, drop, leb, eqb}
use Rattle.codec.specs.Bytes.{little}

-- the first k words of some bytes
unfoldable pub words_in : ℕ → List ℕ → List ℕ
words_in zero bytes = []
words_in (suc k) bytes = little 8 bytes ∷ words_in k (drop 8 bytes)

-- how many words the code takes of n bytes: all, or none where they are no whole number of words or more than the largest image has
abbrev pub word_count : ℕ → ℕ
word_count n = cond (eqb (n % 8) 0 && leb n 13856) (n / 8) 0

-- a buffer with these words at its start
abbrev pub laid_over : List ℕ → List ℕ → List ℕ
laid_over bytes buf = words_in (word_count (length bytes)) bytes ++ drop (word_count (length bytes)) buf
