-- The desk, as the claims see it: the clock, and for each session what it is doing. The holder of a record is the session that copies it.
use Rattle.std.specs.Prelude.{ℕ, zero, suc, ◌+◌, ◌*◌, Bool, true, false, cond, not, ◌&&◌, List, [], ◌∷◌, length, get_or, eqb, ltb}
use Rattle.std.proofs.Math.Option.{Option, none, some}
use Rattle.layout.specs.Below.{any_below}
use Rattle.layout.specs.Entries.{Write}
use Rattle.layout.specs.Homes.{homes_writes}

-- a copy: a record, and the words it is to have
abbrev pub Copy : Type 0
Copy = ℕ × List ℕ

abbrev pub find : ℕ → List Copy → Option (List ℕ)
find r [] = none
find r (c ∷ cs) = cond (eqb r c.0) (some c.1) (find r cs)

-- the copies with r's words set: in its place if there is one, else behind the others
abbrev pub put : ℕ → List ℕ → List Copy → List Copy
put r ws [] = (r, ws) ∷ []
put r ws (c ∷ cs) = cond (eqb r c.0) ((r, ws) ∷ cs) (c ∷ put r ws cs)

-- the index of word j of record r
abbrev pub spot : ℕ → ℕ → ℕ
spot r j = 4 + 4 * r + j

-- the record and the words of copy j
abbrev pub rec_at : List Copy → ℕ → ℕ
rec_at cs j = (get_or cs j (0, [])).0

abbrev pub words_at : List Copy → ℕ → List ℕ
words_at cs j = (get_or cs j (0, [])).1

-- the word writes that copies stand for
abbrev pub writes : List Copy → List Write
writes cs = homes_writes (rec_at cs) (words_at cs) (length cs)

-- a session: the number of its phase, the slot reserved (0 or 1), and its copies
pub data Session : Type 0 where
  idle : Session
  active : ℕ → ℕ → List Copy → Session
  sealed : ℕ → ℕ → List Copy → Session
  published : ℕ → ℕ → List Copy → Session

abbrev pub copies : Session → List Copy
copies idle = []
copies (active b q cs) = cs
copies (sealed n q cs) = cs
copies (published e q cs) = cs

pub record Desk : Type 0 where
  pub clock : ℕ
  pub session : ℕ → Session

unfoldable pub upd : {A : Type 0} → ℕ → A → (ℕ → A) → ℕ → A
upd s a f u = cond (eqb u s) a (f u)

-- the desk with another entry for session s
abbrev pub with_session : ℕ → Session → Desk → Desk
with_session s x d = record { clock = d.clock; session = upd s x d.session }

-- the least number below k that passes the test
abbrev pub later : (ℕ → Bool) → ℕ → Option ℕ → Option ℕ
later f k (some t) = some t
later f k none = cond (f k) (some k) none

unfoldable pub first_of : (ℕ → Bool) → ℕ → Option ℕ
first_of f zero = none
first_of f (suc k) = later f k (first_of f k)

abbrev pub found : Option (List ℕ) → Bool
found none = false
found (some ws) = true

-- the session that copies r
abbrev pub holder : ℕ → Desk → ℕ → Option ℕ
holder M d r = first_of (λ t. found (find r (copies (d.session t)))) M

-- the session is active with a start below e
abbrev pub in_the_way : ℕ → Session → Bool
in_the_way e idle = false
in_the_way e (active b q cs) = ltb b e
in_the_way e (sealed n q cs) = false
in_the_way e (published f q cs) = false

-- the session is active with a start below e, and no active session has a smaller start
abbrev pub began_first : ℕ → Desk → ℕ → Session → Bool
began_first M d e idle = false
began_first M d e (active b q cs) = ltb b e && not (any_below M (λ t. in_the_way b (d.session t)))
began_first M d e (sealed n q cs) = false
began_first M d e (published f q cs) = false

-- the session that an end e waits for: the one with the smallest start, and among equal starts the lowest
abbrev pub awaited : ℕ → Desk → ℕ → Option ℕ
awaited M d e = first_of (λ t. began_first M d e (d.session t)) M
