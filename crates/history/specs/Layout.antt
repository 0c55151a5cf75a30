-- Where an image holds its home words and its logs, and what the logs denote (journal/specs/Log.antt).
use Rattle.std.specs.Prelude.{ℕ, ◌+◌, ◌*◌, ◌≤◌, ◌<◌, ◌≡◌, ◌≢◌, List, ◌∷◌, length, get_or, take, drop}
use Rattle.layout.specs.Image.{slot_at}
use Rattle.journal.specs.Log.{Slot, denoted, Sound}
use Rattle.history.specs.Desk.{spot}
use Rattle.history.specs.Log.{State, Occupied, Puts}

-- i is the index of a home word
abbrev pub Home : ℕ → ℕ → Type 0
Home N i = (4 ≤ i) × (i < 4 + 4 * N)

-- the 21 words of slot p behind its persist number
abbrev pub body : ℕ → List ℕ → ℕ → List ℕ
body N img p = take 21 (drop (slot_at N p + 1) img)

-- they as a slot, whose number is not looked at; a garbage count does not reach past them
abbrev pub log_of : List ℕ → Slot
log_of b w = get_or (0 ∷ b) w 0

abbrev pub view : ℕ → List ℕ → State
view N img = record { number = λ p. get_or img (slot_at N p) 0; log = λ p. denoted (log_of (body N img p)); home = λ i. get_or img i 0 }

pub record Good (N M : ℕ) (img : List ℕ) : Type 0 where
  pub whole : length img ≡ 4 + 4 * N + 44 * M
  pub sound : (p : ℕ) → Occupied (2 * M) (view N img) p → Sound N (log_of (body N img p))
  pub apart : (p q r j l v w : ℕ) → j < 4 → l < 4 → p ≢ q → Puts (2 * M) (view N img) p (spot r j) v → Puts (2 * M) (view N img) q (spot r l) w
      → get_or img (slot_at N p) 0 ≢ get_or img (slot_at N q) 0
