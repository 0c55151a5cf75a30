-- A step made on the store, and the lines that it prints (document 01, "The program").
use Rattle.std.specs.Prelude.{ℕ, ◌+◌, ◌*◌, ◌≤◌, Bool, true, false, not, ◌&&◌, cond, List, [], ◌∷◌, ◌++◌, ◌≡◌, length, take, drop, leb, ltb, eqb, Option, Some, None, is_some, ⊤, Ok, Err}
use Rattle.layout.specs.Entries.{Entry}
use Rattle.layout.specs.Image.{size_of}
use Rattle.layout.specs.Lay.{lay_answer, laid_image}
use Rattle.layout.specs.Refusal.{Answer}
use Rattle.desk.specs.declared.state.Desk.{Desk}
use Rattle.steps.specs.Apply.{applied_entries}
use Rattle.steps.specs.Cut.{overlaid}
use Rattle.lines.specs.Put.{Put}
use Rattle.lines.specs.Result.{replayed_line, open_line}
use Rattle.codec.specs.Steps.{step_of}
use Rattle.codec.specs.declared.step.Step.{Step}
use Rattle.codec.specs.declared.step.Step.TheVariants.{Lay, Begin, Read, Write, Finish, Publish, Settle, Reclaim, Abandon, Cut}
use Rattle.lines.specs.declared.outcome.Outcome.{Outcome}
use Rattle.lines.specs.declared.outcome.Outcome.TheVariants.{Cut as WasCut}
use Rattle.turns.specs.State.{put_of, over_of, sized_of, cut_at, lost_of, clean_of}
use Rattle.turns.specs.declared.state.State.{State}

-- the words that a step 0 asks for: 4 + 4N + 44M; none where N is above 256, M above 16 or the memory has fewer
abbrev pub image_size : ℕ → ℕ → ℕ → ℕ
image_size memory n m = cond (ltb 256 n) 0 (cond (ltb 16 m) 0 (cond (leb (size_of n m) memory) (size_of n m) 0))

-- a memory of 1,732 words has room for every size
abbrev pub AllFit : Type 0
AllFit = (memory n m : ℕ) → 1732 ≤ memory → n ≤ 256 → m ≤ 16 → image_size memory n m ≡ 4 + 4 * n + 44 * m

-- the kinds that store, and that a cut waits for: 4, 5, 6 and 7
abbrev pub stores_b : Step → Bool
stores_b (Lay n m) = false
stores_b (Begin s) = false
stores_b (Read s r) = false
stores_b (Write s r ws) = false
stores_b (Finish s) = true
stores_b (Publish s) = true
stores_b (Settle s) = true
stores_b (Reclaim s) = true
stores_b (Abandon s) = false
stores_b (Cut k) = false

-- no other kind has entries
abbrev pub CutWaits : Type 0
CutWaits = (img : List ℕ) (d : Desk) (len : ℕ) (step : Step) → stores_b step ≡ false → applied_entries img d len step ≡ []

-- in numbers: of the kinds 0 to 9 a cut waits for 4 to 7
abbrev pub CutKinds : Type 0
CutKinds = (a b : ℕ) (ws : List ℕ) → stores_b (step_of 0 a b ws) ∷ stores_b (step_of 1 a b ws) ∷ stores_b (step_of 2 a b ws) ∷ stores_b (step_of 3 a b ws)
    ∷ stores_b (step_of 4 a b ws) ∷ stores_b (step_of 5 a b ws) ∷ stores_b (step_of 6 a b ws) ∷ stores_b (step_of 7 a b ws)
    ∷ stores_b (step_of 8 a b ws) ∷ stores_b (step_of 9 a b ws) ∷ []
    ≡ false ∷ false ∷ false ∷ false ∷ true ∷ true ∷ true ∷ true ∷ false ∷ false ∷ []

-- k of the cut that waits for a step: the next step of such a kind after a step 9 is cut
abbrev pub cut_of : State → Step → Option ℕ
cut_of s step = cond (stores_b step) s.cut None

abbrev pub is_cut_b : State → Step → Bool
is_cut_b s step = is_some (cut_of s step)

-- of a step that is cut only the first k entries arrive, all if it has fewer
abbrev pub up_to : Option ℕ → List Entry → List Entry
up_to None es = es
up_to (Some k) es = take k es

abbrev pub arrives_of : State → Step → List Entry → List Entry
arrives_of s step es = up_to (cut_of s step) es

-- the image of before a step that is cut is kept
abbrev pub kept_of : State → Step → List ℕ → List ℕ → List ℕ
kept_of s step img before = cond (is_cut_b s step) (overlaid img before) before

-- its result is "cut", or its usual result if it has no entries (a refused step has none)
abbrev pub shown_of : Outcome → Bool → ℕ → Outcome
shown_of o cut entries = cond (cut && not (eqb entries 0)) WasCut o

-- one line is put behind the lines so far, and the state is the one that the rule gives for where it ends
abbrev pub PutsLine : List ℕ → State → (ℕ → State) → List ℕ → List ℕ → State → Type 0
PutsLine line s after out out' r = Put line s.put out out' r.put × (r ≡ after r.put)

-- step 9 notes its k; a second one before the cut replaces it
abbrev pub noted_of : State → Step → State
noted_of s (Lay n m) = s
noted_of s (Begin t) = s
noted_of s (Read t r) = s
noted_of s (Write t r ws) = s
noted_of s (Finish t) = s
noted_of s (Publish t) = s
noted_of s (Settle t) = s
noted_of s (Reclaim t) = s
noted_of s (Abandon t) = s
noted_of s (Cut k) = cut_at s k

-- after the line of a step on the opened store
abbrev pub told_of : State → Step → ℕ → State
told_of s step p = cond (is_cut_b s step) (lost_of (put_of (noted_of s step) p)) (put_of (noted_of s step) p)

-- "bad", and a refused step 0: the line, and no more steps are taken
abbrev pub bad_of : State → ℕ → State
bad_of s p = over_of (put_of s p)

-- "replayed P": the recovery goes on
abbrev pub replayed_of : State → ℕ → State
replayed_of = put_of

-- "open": the recovery is over, and the image is to be opened
abbrev pub recovered_of : State → ℕ → State
recovered_of s p = clean_of (put_of s p)

-- after a cut "replayed P" for each log, then "open": the line of one call of recover, by its answer
abbrev pub resumed_line : ℕ → Answer (Option ℕ) → List ℕ
resumed_line number (Ok (Some p)) = replayed_line number p
resumed_line number (Ok None) = open_line number
resumed_line number (Err r) = open_line number

-- and the state after it
abbrev pub resumed_of : State → Answer (Option ℕ) → ℕ → State
resumed_of s (Ok (Some n)) p = replayed_of s p
resumed_of s (Ok None) p = recovered_of s p
resumed_of s (Err r) p = recovered_of s p

-- step 0, lay and open: the part of the memory that is laid
abbrev pub lay_part : List ℕ → ℕ → ℕ → List ℕ
lay_part memory n m = take (image_size (length memory) n m) memory

-- the answer of lay on that part
abbrev pub laying : List ℕ → ℕ → ℕ → Answer ⊤
laying memory n m = lay_answer n m (lay_part memory n m)

-- refused, it prints its line, and no more steps are taken; accepted, the image has that size and is to be opened
abbrev pub laid_of : State → ℕ → Answer ⊤ → ℕ → State
laid_of s size (Err r) p = bad_of s p
laid_of s size (Ok x) p = sized_of (put_of s p) size

-- the memory past that part is as it was
abbrev pub memory_of : List ℕ → ℕ → ℕ → List ℕ
memory_of memory n m = laid_image n m (lay_part memory n m) ++ drop (image_size (length memory) n m) memory
