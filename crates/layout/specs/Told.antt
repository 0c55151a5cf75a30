-- What a caller is told, in document 01's words, with all the values that go with it; no two results are told alike. Each call has
-- one definition, `.._told`, that gives this for its answer; `.._said` is what the rules have the call tell, and its contract promises that
-- the two are equal.
use Rattle.std.specs.Prelude.{ℕ, Bool, true, false, List, [], eqb, ⊤, Ok as Done, Err as Refused}
use Rattle.layout.specs.Refusal.{Answer, number_of, value_with}

-- the results of all calls
pub data Result : Type 0 where
  Ok : Result
  Start : Result
  Own : Result
  Copy : Result
  Home : Result
  Empty : Result
  Sealed : Result
  End : Result
  Wait : Result
  None : Result
  Held : Result
  Cleared : Result
  Clean : Result
  Replayed : Result
  -- of the listening room's search (document 02, Req 03)
  Found : Result

-- "no K": the number, and with 7 the holder, with 12 the lowest such place; or a result with its number, and the words of a read. What a
-- result does not use is 0 and no words.
pub data Told : Type 0 where
  refused : ℕ → ℕ → Told
  result : Result → ℕ → List ℕ → Told

abbrev pub refusal : ℕ → Told
refusal k = refused k 0

abbrev pub ok : Told
ok = result Ok 0 []

abbrev pub start : ℕ → Told
start b = result Start b []

abbrev pub own : List ℕ → Told
own ws = result Own 0 ws

abbrev pub copied : List ℕ → Told
copied ws = result Copy 0 ws

abbrev pub home : List ℕ → Told
home ws = result Home 0 ws

abbrev pub empty : Told
empty = result Empty 0 []

abbrev pub sealed_at : ℕ → Told
sealed_at p = result Sealed p []

abbrev pub ended_at : ℕ → Told
ended_at e = result End e []

-- with a session
abbrev pub wait : ℕ → Told
wait t = result Wait t []

abbrev pub nothing : Told
nothing = result None 0 []

abbrev pub held : ℕ → Told
held p = result Held p []

abbrev pub cleared : ℕ → Told
cleared p = result Cleared p []

abbrev pub clean : Told
clean = result Clean 0 []

abbrev pub replayed : ℕ → Told
replayed p = result Replayed p []

-- with a record
abbrev pub found_at : ℕ → Told
found_at r = result Found r []

-- a number for each result, to tell them apart
abbrev pub code_of : Result → ℕ
code_of Ok = 20
code_of Start = 21
code_of Own = 22
code_of Copy = 23
code_of Home = 24
code_of Empty = 25
code_of Sealed = 26
code_of End = 27
code_of Wait = 28
code_of None = 29
code_of Held = 30
code_of Cleared = 31
code_of Clean = 32
code_of Replayed = 33
code_of Found = 38

-- the same of what is told, 0 for a refusal
abbrev pub code_told : Told → ℕ
code_told (refused k v) = 0
code_told (result x n ws) = code_of x

-- it is this result
abbrev pub is : Result → Told → Bool
is x t = eqb (code_told t) (code_of x)

-- it is a refusal
abbrev pub is_refusal : Told → Bool
is_refusal (refused k v) = true
is_refusal (result x n ws) = false

-- it is this refusal
abbrev pub refused_by : ℕ → Told → Bool
refused_by k (refused j v) = eqb j k
refused_by k (result x n ws) = false

-- the number or session or place that goes with it
abbrev pub value_of : Told → ℕ
value_of (refused k v) = v
value_of (result x n ws) = n

-- the words of a read
abbrev pub words_told : Told → List ℕ
words_told (refused k v) = []
words_told (result x n ws) = ws

-- what an answer tells: a refusal by its number and value
abbrev pub tells : {A : Type 0} → (A → Told) → Answer A → Told
tells done (Refused r) = refused (number_of r) (value_with r)
tells done (Done x) = done x

abbrev pub lay_told : Answer ⊤ → Told
lay_told = tells (λ x. ok)
