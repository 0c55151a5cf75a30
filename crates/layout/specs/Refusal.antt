-- Why a call is turned away, with the numbers of the table of refusals (document 01, "What is turned away", and document 02).
use Rattle.std.specs.Prelude.{ℕ, ◌-◌, List, [], ◌∷◌, get_or, Result, Ok, Err}
use Rattle.layout.specs.Checks.{answered}
use Rattle.layout.specs.declared.refusal.Refusal.{Refusal}
use Rattle.layout.specs.declared.refusal.Refusal.TheVariants.{WrongImage, Incoherent, ShortTrace, NoSession, NoRecord, WrongPhase, OtherHolds, FifthRecord, SlotsFull, ClockAtLimit, SlotOccupied, LogUnsound, LogsTied, OutOfRange, WrongShelf, WrongSpeed, WrongSeconds, CopiesHeld, NoMembers, ShortTable}

abbrev pub number_of : Refusal → ℕ
number_of WrongImage = 1
number_of Incoherent = 2
number_of ShortTrace = 3
number_of NoSession = 4
number_of NoRecord = 5
number_of WrongPhase = 6
number_of (OtherHolds s) = 7
number_of FifthRecord = 8
number_of SlotsFull = 9
number_of ClockAtLimit = 10
number_of SlotOccupied = 11
number_of (LogUnsound p) = 12
number_of LogsTied = 13
number_of OutOfRange = 14
number_of WrongShelf = 15
number_of WrongSpeed = 16
number_of WrongSeconds = 17
number_of CopiesHeld = 18
number_of NoMembers = 19
number_of ShortTable = 20

-- with 7 the holder, with 12 the lowest such place
abbrev pub value_with : Refusal → ℕ
value_with (OtherHolds s) = s
value_with (LogUnsound p) = p
value_with WrongImage = 0
value_with Incoherent = 0
value_with ShortTrace = 0
value_with NoSession = 0
value_with NoRecord = 0
value_with WrongPhase = 0
value_with FifthRecord = 0
value_with SlotsFull = 0
value_with ClockAtLimit = 0
value_with SlotOccupied = 0
value_with LogsTied = 0
value_with OutOfRange = 0
value_with WrongShelf = 0
value_with WrongSpeed = 0
value_with WrongSeconds = 0
value_with CopiesHeld = 0
value_with NoMembers = 0
value_with ShortTable = 0

-- in the order of the numbers, with the value 0 where one goes with it
abbrev pub causes : List Refusal
causes =
    WrongImage ∷ Incoherent ∷ ShortTrace ∷ NoSession ∷ NoRecord ∷ WrongPhase ∷ OtherHolds 0 ∷ FifthRecord ∷ SlotsFull ∷ ClockAtLimit ∷ SlotOccupied
    ∷ LogUnsound 0 ∷ LogsTied ∷ OutOfRange ∷ WrongShelf ∷ WrongSpeed ∷ WrongSeconds ∷ CopiesHeld ∷ NoMembers ∷ ShortTable ∷ []

-- the refusal that a number stands for, from 1 to 20
unfoldable pub cause : ℕ → Refusal
cause k = get_or causes (k - 1) WrongImage

-- the answer of a call: what it gives, or why it is refused
abbrev pub Answer : Type 0 → Type 0
Answer A = Result A Refusal

-- of a call that gives x where nothing is refused, by the number of its fault
abbrev pub answer_of : {A : Type 0} → ℕ → A → Answer A
answer_of fault x = answered fault (λ k. Err (cause k)) (Ok x)
