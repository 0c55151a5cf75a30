-- The parts of a line (document 01, "The program"): step number, call, arguments, result; one space parts the fields.
use Rattle.std.specs.Prelude.{ℕ, zero, suc, ◌+◌, ◌/◌, ◌%◌, List, [], ◌∷◌, ◌++◌, cond, ltb}
use Rattle.codec.specs.declared.step.Step.{Step}
use Rattle.codec.specs.declared.step.Step.TheVariants.{Lay, Begin, Read, Write, Finish, Publish, Settle, Reclaim, Abandon, Cut}

-- a number's decimal digits, the last after those of a tenth of it; the first argument bounds how many there are
unfoldable pub spelled : ℕ → ℕ → List ℕ
spelled zero n = []
spelled (suc k) n = cond (ltb n 10) ((48 + n) ∷ []) (spelled k (n / 10) ++ ((48 + n % 10) ∷ []))

-- a printed number: a word in decimal, which has twenty digits at most
unfoldable pub decimal_of : ℕ → List ℕ
decimal_of n = spelled 20 n

-- one space parts the fields: a field behind its space, or nothing where there is no field
abbrev pub field : List ℕ → List ℕ
field [] = []
field (b ∷ bs) = 32 ∷ b ∷ bs

-- one space parts the fields: a space and a number, for each
abbrev pub numbers : List ℕ → List ℕ
numbers [] = []
numbers (n ∷ ns) = (32 ∷ decimal_of n) ++ numbers ns

-- a line's start: step number, call, arguments
abbrev pub head_of : ℕ → List ℕ → List ℕ → List ℕ
head_of number name args = decimal_of number ++ (field name ++ numbers args)

-- a result: a word, numbers, a word, each of which may be missing
abbrev pub result_of : List ℕ → List ℕ → List ℕ → List ℕ
result_of word values last = field word ++ (numbers values ++ field last)

-- step number, call and arguments of each step: no record words, and N as 1 to 256
unfoldable pub step_head : ℕ → Step → List ℕ
step_head number (Lay n m) = head_of number (108 ∷ 97 ∷ 121 ∷ []) (n ∷ m ∷ [])
step_head number (Begin s) = head_of number (98 ∷ 101 ∷ 103 ∷ 105 ∷ 110 ∷ []) (s ∷ [])
step_head number (Read s r) = head_of number (114 ∷ 101 ∷ 97 ∷ 100 ∷ []) (s ∷ r ∷ [])
step_head number (Write s r ws) = head_of number (119 ∷ 114 ∷ 105 ∷ 116 ∷ 101 ∷ []) (s ∷ r ∷ [])
step_head number (Finish s) = head_of number (102 ∷ 105 ∷ 110 ∷ 105 ∷ 115 ∷ 104 ∷ []) (s ∷ [])
step_head number (Publish s) = head_of number (112 ∷ 117 ∷ 98 ∷ 108 ∷ 105 ∷ 115 ∷ 104 ∷ []) (s ∷ [])
step_head number (Settle s) = head_of number (115 ∷ 101 ∷ 116 ∷ 116 ∷ 108 ∷ 101 ∷ []) (s ∷ [])
step_head number (Reclaim s) = head_of number (114 ∷ 101 ∷ 99 ∷ 108 ∷ 97 ∷ 105 ∷ 109 ∷ []) (s ∷ [])
step_head number (Abandon s) = head_of number (97 ∷ 98 ∷ 97 ∷ 110 ∷ 100 ∷ 111 ∷ 110 ∷ []) (s ∷ [])
step_head number (Cut k) = head_of number (99 ∷ 117 ∷ 116 ∷ []) (k ∷ [])
