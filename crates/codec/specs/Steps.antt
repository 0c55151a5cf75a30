-- A step out of bytes (document 01, "The program"): one byte of kind, then a body whose length the kind fixes.
use Rattle.std.specs.Prelude.{ℕ, zero, suc, ◌+◌, List, [], ◌∷◌, cond, length, get_or, drop, ltb, eqb}
use Rattle.codec.specs.Bytes.{little}
use Rattle.codec.specs.declared.step.Step.{Step}
use Rattle.codec.specs.declared.step.Step.TheVariants.{Lay, Begin, Read, Write, Finish, Publish, Settle, Reclaim, Abandon, Cut}
use Rattle.codec.specs.declared.decoding.Found.{Found}
use Rattle.codec.specs.declared.decoding.Found.TheVariants.{Whole, Bad, Short, End}

-- body bytes of the kinds 0 to 9: 2, 1, 2, 34, 1, 1, 1, 1, 1, 1
abbrev pub body_of : ℕ → ℕ
body_of kind = get_or (2 ∷ 1 ∷ 2 ∷ 34 ∷ 1 ∷ 1 ∷ 1 ∷ 1 ∷ 1 ∷ 1 ∷ []) kind 0

-- N byte 0 means 256
abbrev pub records_of_byte : ℕ → ℕ
records_of_byte b = cond (eqb b 0) 256 b

-- the step of a kind from 0 to 9: lay has N and M, cut has k, a body of any other starts with the session, then the record; ws are the words
-- of a write
unfoldable pub step_of : ℕ → ℕ → ℕ → List ℕ → Step
step_of zero a b ws = Lay (records_of_byte a) b
step_of (suc zero) a b ws = Begin a
step_of (suc (suc zero)) a b ws = Read a b
step_of (suc (suc (suc zero))) a b ws = Write a b ws
step_of (suc (suc (suc (suc zero)))) a b ws = Finish a
step_of (suc (suc (suc (suc (suc zero))))) a b ws = Publish a
step_of (suc (suc (suc (suc (suc (suc zero)))))) a b ws = Settle a
step_of (suc (suc (suc (suc (suc (suc (suc zero))))))) a b ws = Reclaim a
step_of (suc (suc (suc (suc (suc (suc (suc (suc zero)))))))) a b ws = Abandon a
step_of (suc (suc (suc (suc (suc (suc (suc (suc (suc k))))))))) a b ws = Cut a

-- the four words of a write: behind kind, session and record, eight bytes each, lowest byte first
unfoldable pub step_words : List ℕ → List ℕ
step_words s = little 8 (drop 3 s) ∷ little 8 (drop 11 s) ∷ little 8 (drop 19 s) ∷ little 8 (drop 27 s) ∷ []

-- four zero words
abbrev pub no_words : List ℕ
no_words = 0 ∷ 0 ∷ 0 ∷ 0 ∷ []

-- the bytes that a whole step takes: its kind byte and its body; none where there is no whole step
abbrev pub size_of : Found → ℕ
size_of (Whole step size) = size
size_of Bad = 0
size_of Short = 0
size_of End = 0

-- a whole step of a known kind
abbrev pub whole_of : ℕ → List ℕ → Found
whole_of kind s = Whole (step_of kind (get_or s 1 0) (get_or s 2 0) (step_words s)) (body_of kind + 1)

-- what starts the bytes: nothing at the input's end, an unknown kind (above 9), a short body, or a step
unfoldable pub decode_of : List ℕ → Found
decode_of s =
    cond (eqb (length s) 0) End
    (cond (ltb 9 (get_or s 0 0)) Bad
    (cond (ltb (length s) (body_of (get_or s 0 0) + 1)) Short
    (whole_of (get_or s 0 0) s)))
