-- What is printed, byte by byte: of an image of one record and one session, of the same with a log, of less of it, and of
-- nothing; and long numbers.
use Rattle.std.specs.Prelude.{ℕ, ◌≡◌, List, [], ◌∷◌, ◌++◌, replicate, set, take}
use Rattle.lines.specs.Line.{numbers}
use Rattle.sheet.specs.Sheet.{printed}

-- a word of two bytes, the lowest first
abbrev pub word : ℕ → ℕ → List ℕ
word low high = low ∷ high ∷ 0 ∷ 0 ∷ 0 ∷ 0 ∷ 0 ∷ 0 ∷ []

-- shelf number 4711, an open reel at code 3, 3,600 seconds; both slots are empty
abbrev pub reel : List ℕ
reel =
    (word 1 0 ++ word 1 0 ++ word 1 0 ++ word 0 0) ++ (word 103 18 ++ word 1 0 ++ word 3 0 ++ word 16 14) ++ replicate 352 0

pub record InDigits : Type 0 where
  -- "1 1 3600", "2 0 0", "3 0 0", "all 1 3600", "bad 0"
  pub report : printed reel
      ≡ (49 ∷ 32 ∷ 49 ∷ 32 ∷ 51 ∷ 54 ∷ 48 ∷ 48 ∷ 10 ∷ []) ++ (50 ∷ 32 ∷ 48 ∷ 32 ∷ 48 ∷ 10 ∷ []) ++ (51 ∷ 32 ∷ 48 ∷ 32 ∷ 48 ∷ 10 ∷ [])
      ++ (97 ∷ 108 ∷ 108 ∷ 32 ∷ 49 ∷ 32 ∷ 51 ∷ 54 ∷ 48 ∷ 48 ∷ 10 ∷ []) ++ (98 ∷ 97 ∷ 100 ∷ 32 ∷ 48 ∷ 10 ∷ [])
  -- "no 11": the first slot has the persist number 7
  pub with-log : printed (set reel 64 7) ≡ 110 ∷ 111 ∷ 32 ∷ 49 ∷ 49 ∷ 10 ∷ []
  -- "no 1"
  pub byte-less : printed (take 415 reel) ≡ 110 ∷ 111 ∷ 32 ∷ 49 ∷ 10 ∷ []
  pub word-less : printed (take 408 reel) ≡ 110 ∷ 111 ∷ 32 ∷ 49 ∷ 10 ∷ []
  pub nothing : printed [] ≡ 110 ∷ 111 ∷ 32 ∷ 49 ∷ 10 ∷ []
  -- the largest total of seconds, and the largest word
  pub long-numbers : numbers (92159744 ∷ 18446744073709551615 ∷ [])
      ≡ (32 ∷ 57 ∷ 50 ∷ 49 ∷ 53 ∷ 57 ∷ 55 ∷ 52 ∷ 52 ∷ [])
      ++ (32 ∷ 49 ∷ 56 ∷ 52 ∷ 52 ∷ 54 ∷ 55 ∷ 52 ∷ 52 ∷ 48 ∷ 55 ∷ 51 ∷ 55 ∷ 48 ∷ 57 ∷ 53 ∷ 53 ∷ 49 ∷ 54 ∷ 49 ∷ 53 ∷ [])
