-- Document 01, "What is turned away", with document 02's Req 03, 05, 06 and 08, as one table: the causes with their numbers, and
-- for each call the row of causes that it asks, in order. The number told is that of the first cause in the row that holds, 0 where none
-- does; with it go the values that the table lists, and a refusal leaves as it was what the table says.
use Rattle.std.specs.Prelude.{ℕ, ◌+◌, ◌-◌, ◌*◌, Bool, true, false, ◌&&◌, not, cond, ◌≡◌, List, [], ◌∷◌, length, replicate, leb, ltb, eqb, Ok, Err}
use Rattle.layout.specs.Below.{any_below, lowest}
use Rattle.layout.specs.Entries.{Entry, made, listed}
use Rattle.layout.specs.Image.{records_of, sessions_of, ceiling_of, in_range, size_of, shaped_b, place_of, slot_word, occupied_at, occupied_b}
use Rattle.layout.specs.Lay.{lay_answer, laid_image}
use Rattle.layout.specs.Refusal.{Answer}
use Rattle.layout.specs.Told.{Told, refused, is_refusal, lay_told}
use Rattle.journal.specs.Log.{unsound_b, tied_b}
use Rattle.desk.specs.Coherent.{limit, coherent_b}
use Rattle.desk.specs.Group.{member}
use Rattle.desk.specs.Desk.{session_at, mark_at, is_idle, is_active, is_sealed, is_published, dropped}
use Rattle.desk.specs.declared.state.Phase.{Phase}
use Rattle.desk.specs.declared.state.Desk.{Desk}
use Rattle.snapshot.specs.Read.{read_reply}
use Rattle.snapshot.specs.declared.seeing.Sight.{Sight}
use Rattle.reels.specs.Reel.{shelf_b}
use Rattle.listening.specs.Read.{listen_read_reply}
use Rattle.recovery.specs.Open.{fresh_desk}
use Rattle.history.specs.Call.{Listening, Begin, Read, Finish, Find, Call, begin, read, write, abandon, finish, publish, group, settle, reclaim, listen}
use Rattle.claims.specs.Rules.{store_rules}

-- ---- the table's first two columns. These causes are the table's own; those that the code answers are the crate layout's `Refusal`

pub data Cause : Type 0 where
  -- image length or header wrong; of lay the length alone
  wrong_image : Cause
  wrong_length : Cause
  -- desk not coherent; where the call takes an image, N and M are to equal its header and the clock is to be at most its word 3
  incoherent : Cause
  other_header : Cause
  short_trace : Cause
  no_session : Cause
  no_record : Cause
  wrong_phase : Cause
  other_holds : Cause
  fifth_record : Cause
  slots_full : Cause
  clock_at_limit : Cause
  -- of open: word 3 is at L or more
  ceiling_at_limit : Cause
  slot_occupied : Cause
  log_unsound : Cause
  logs_tied : Cause
  out_of_range : Cause
  -- document 02: shelf number out of range; the session holds copies
  wrong_shelf : Cause
  copies_held : Cause
  -- document 02, Req 06: the set has no members; one is at or above M; one is not sealed
  no_members : Cause
  member_above : Cause
  member_unsealed : Cause

abbrev pub number : Cause → ℕ
number wrong_image = 1
number wrong_length = 1
number incoherent = 2
number other_header = 2
number short_trace = 3
number no_session = 4
number no_record = 5
number wrong_phase = 6
number other_holds = 7
number fifth_record = 8
number slots_full = 9
number clock_at_limit = 10
number ceiling_at_limit = 10
number slot_occupied = 11
number log_unsound = 12
number logs_tied = 13
number out_of_range = 14
number wrong_shelf = 15
number copies_held = 18
number no_members = 19
number member_above = 4
number member_unsealed = 6

-- what a call is given; a field that it does not take is in no cause of its row
pub record Given : Type 0 where
  pub image : List ℕ
  pub desk : Desk
  pub trace : ℕ
  pub session : ℕ
  pub rec : ℕ
  pub shelf : ℕ
  pub set : ℕ
  pub allows : Phase → Bool
  pub n : ℕ
  pub m : ℕ

-- the mark of the record names a session, and another one
abbrev pub marked_other : ℕ → ℕ → Bool
marked_other mark s = not (eqb mark 0) && not (eqb mark (s + 1))

-- the mark of the record names this session
abbrev pub marked_own : ℕ → ℕ → Bool
marked_own mark s = eqb mark (s + 1)

abbrev pub copies_counted : Given → ℕ
copies_counted g = (session_at g.desk g.session).count

-- slot q of the session is occupied
abbrev pub slot_taken : Given → ℕ → Bool
slot_taken g q = occupied_at g.image g.desk.n (place_of g.session q)

-- the log at place p is not sound, in the full form or the short one; `LogFaults` has which these are
abbrev pub unsound_at : List ℕ → ℕ → Bool
unsound_at img p = unsound_b (records_of img) (slot_word img (records_of img) p)

-- two logs, of any forms, have equal persist numbers and touch a record in common
abbrev pub tied_at : List ℕ → ℕ → ℕ → Bool
tied_at img p q = tied_b (slot_word img (records_of img) p) (slot_word img (records_of img) q)

unfoldable pub holds : Cause → Given → Bool
holds wrong_image g = not (shaped_b g.image)
holds wrong_length g = not (eqb (length g.image) (size_of g.n g.m))
holds incoherent g = not (coherent_b g.desk)
holds other_header g =
    not (eqb g.desk.n (records_of g.image) && eqb g.desk.m (sessions_of g.image) && leb g.desk.clock (ceiling_of g.image))
holds short_trace g = ltb g.trace 48
holds no_session g = leb g.desk.m g.session
holds no_record g = leb g.desk.n g.rec
holds wrong_phase g = not (g.allows (session_at g.desk g.session).phase)
holds other_holds g = marked_other (mark_at g.desk g.rec) g.session
holds fifth_record g = not (marked_own (mark_at g.desk g.rec) g.session) && leb 4 (copies_counted g)
holds slots_full g = eqb (copies_counted g) 0 && slot_taken g 0 && slot_taken g 1
holds clock_at_limit g = not (eqb (copies_counted g) 0) && leb limit g.desk.clock
holds ceiling_at_limit g = leb limit (ceiling_of g.image)
holds slot_occupied g = occupied_b g.image (records_of g.image) (2 * sessions_of g.image)
holds log_unsound g = any_below (2 * sessions_of g.image) (unsound_at g.image)
holds logs_tied g = any_below (2 * sessions_of g.image) (λ p. any_below p (tied_at g.image p))
holds out_of_range g = not (in_range g.n g.m)
holds wrong_shelf g = not (shelf_b g.shelf)
holds copies_held g = not (eqb (copies_counted g) 0)
holds no_members g = not (any_below 16 (λ s. member s g.set))
holds member_above g = any_below 16 (λ s. member s g.set && leb g.desk.m s)
holds member_unsealed g = any_below 16 (λ s. member s g.set && not (is_sealed (session_at g.desk s).phase))

-- the number of the first cause that holds, 0 where none does
unfoldable pub first_refusal : List Cause → Given → ℕ
first_refusal [] g = 0
first_refusal (c ∷ row) g = cond (holds c g) (number c) (first_refusal row g)

-- ---- the rows; open asks 10 after 11, a group 19 right after 3

abbrev pub lay_row : List Cause
lay_row = out_of_range ∷ wrong_length ∷ []

abbrev pub open_row : List Cause
open_row = wrong_image ∷ short_trace ∷ slot_occupied ∷ ceiling_at_limit ∷ []

abbrev pub recover_row : List Cause
recover_row = wrong_image ∷ short_trace ∷ log_unsound ∷ logs_tied ∷ []

abbrev pub listening_row : Listening → List Cause
listening_row (Begin s) = incoherent ∷ no_session ∷ wrong_phase ∷ []
listening_row (Read s r) = wrong_image ∷ incoherent ∷ other_header ∷ no_session ∷ no_record ∷ wrong_phase ∷ copies_held ∷ []
listening_row (Finish len s) = wrong_image ∷ incoherent ∷ other_header ∷ short_trace ∷ no_session ∷ wrong_phase ∷ copies_held ∷ []
listening_row (Find s k) = wrong_shelf ∷ wrong_image ∷ incoherent ∷ other_header ∷ no_session ∷ wrong_phase ∷ copies_held ∷ []

abbrev pub row : Call → List Cause
row (begin s) = incoherent ∷ no_session ∷ wrong_phase ∷ []
row (read s r) = wrong_image ∷ incoherent ∷ other_header ∷ no_session ∷ no_record ∷ wrong_phase ∷ []
row (write s r ws) =
    wrong_image ∷ incoherent ∷ other_header ∷ no_session ∷ no_record ∷ wrong_phase ∷ other_holds ∷ fifth_record ∷ slots_full ∷ []
row (abandon s) = incoherent ∷ no_session ∷ wrong_phase ∷ []
row (finish len s) = wrong_image ∷ incoherent ∷ other_header ∷ short_trace ∷ no_session ∷ wrong_phase ∷ clock_at_limit ∷ []
row (publish len s) = wrong_image ∷ incoherent ∷ other_header ∷ short_trace ∷ no_session ∷ wrong_phase ∷ []
row (group len set) = wrong_image ∷ incoherent ∷ other_header ∷ short_trace ∷ no_members ∷ member_above ∷ member_unsealed ∷ []
row (settle len s) = wrong_image ∷ incoherent ∷ other_header ∷ short_trace ∷ no_session ∷ wrong_phase ∷ []
row (reclaim len s) = wrong_image ∷ incoherent ∷ other_header ∷ short_trace ∷ no_session ∷ []
row (listen c) = listening_row c

-- ---- what the calls are given

-- lay, open and recover take no desk, session or record
abbrev pub of_image : List ℕ → ℕ → ℕ → ℕ → Given
of_image img len n m =
    record { image = img; desk = fresh_desk 0 0 0; trace = len; session = 0; rec = 0; shelf = 0; set = 0; allows = λ p. true; n = n; m = m }

abbrev pub of_call : List ℕ → Desk → ℕ → ℕ → ℕ → ℕ → (Phase → Bool) → Given
of_call img d len s r k allows =
    record { image = img; desk = d; trace = len; session = s; rec = r; shelf = k; set = 0; allows = allows; n = 0; m = 0 }

-- a call that takes a set of sessions
abbrev pub of_set : List ℕ → Desk → ℕ → ℕ → Given
of_set img d len set =
    record { image = img; desk = d; trace = len; session = 0; rec = 0; shelf = 0; set = set; allows = λ p. true; n = 0; m = 0 }

-- a session call, with the phases that allow it
abbrev pub given_listening : List ℕ → Desk → Listening → Given
given_listening img d (Begin s) = of_call img d 0 s 0 0 is_idle
given_listening img d (Read s r) = of_call img d 0 s r 0 is_active
given_listening img d (Finish len s) = of_call img d len s 0 0 is_active
given_listening img d (Find s k) = of_call img d 0 s 0 k is_active

abbrev pub given : List ℕ → Desk → Call → Given
given img d (begin s) = of_call img d 0 s 0 0 is_idle
given img d (read s r) = of_call img d 0 s r 0 is_active
given img d (write s r ws) = of_call img d 0 s r 0 is_active
given img d (abandon s) = of_call img d 0 s 0 0 is_active
given img d (finish len s) = of_call img d len s 0 0 is_active
given img d (publish len s) = of_call img d len s 0 0 is_sealed
given img d (group len set) = of_set img d len set
given img d (settle len s) = of_call img d len s 0 0 is_published
given img d (reclaim len s) = of_call img d len s 0 0 (λ p. true)
given img d (listen c) = given_listening img d c

-- the number of the first cause that holds in the row of a call, 0 where none does
abbrev pub first_cause : List ℕ → Desk → Call → ℕ
first_cause img d c = first_refusal (row c) (given img d c)

-- ---- the table's last two columns

-- one thing at this number, and another at all others
abbrev pub only : {A : Type 0} → ℕ → A → A → ℕ → A
only number this other k = cond (eqb k number) this other

-- with this number, the first of the row: the call tells it with this value, and leaves what is to be kept; with 0 it is not turned away
pub record TurnedAway {A : Type 0} (told : Told) (number value : ℕ) (left kept : A) : Type 0 where
  pub refuses : (number ≡ 0 → ⊥) → told ≡ refused number value
  pub passes : number ≡ 0 → is_refusal told ≡ false
  pub leaves : (number ≡ 0 → ⊥) → left ≡ kept

-- the words of a read; a refused one has none: four zeros
abbrev pub words_read : Answer Sight → List ℕ
words_read (Err r) = replicate 4 0
words_read (Ok x) = x.words

-- of a count of entries and a list: nothing is stored or listed, so that image and trace are as they were
pub record StoresNothing (count : ℕ) (es : List Entry) : Type 0 where
  pub none : count ≡ 0
  pub entries : es ≡ []
  pub image : (img : List ℕ) → made es img ≡ img
  pub trace : (t : List ℕ) → listed es t ≡ t

pub record Refusals : Type 0 where
  -- the image stays
  pub lay : (n m : ℕ) (img : List ℕ)
      → TurnedAway (lay_told (lay_answer n m img)) (first_refusal lay_row (of_image img 0 n m)) 0 (laid_image n m img) img
  -- refused, it gives a desk with clock, N and M 0, all idle, unmarked, nobody listed
  pub opens : (img : List ℕ) (len : ℕ)
      → TurnedAway (store_rules.opens img len).told (first_refusal open_row (of_image img len 0 0)) 0
      (store_rules.opens img len).desk (fresh_desk 0 0 0)
  -- 7 names the holder, and leaves the caller idle, its marks and copies dropped, out of the list; any other refusal leaves the desk
  pub calls : (img : List ℕ) (d : Desk) (c : Call)
      → TurnedAway (store_rules.call img d c).told (first_refusal (row c) (given img d c))
      (only 7 (mark_at d (given img d c).rec - 1) 0 (first_refusal (row c) (given img d c)))
      (store_rules.call img d c).desk (only 7 (dropped d (given img d c).session) d (first_refusal (row c) (given img d c)))
  -- 12 names the lowest place that is not sound; the image stays
  pub recover : (img : List ℕ) (len : ℕ)
      → TurnedAway (store_rules.recover img len).told (first_refusal recover_row (of_image img len 0 0))
      (only 12 (lowest (2 * sessions_of img) (unsound_at img)) 0 (first_refusal recover_row (of_image img len 0 0)))
      (made (store_rules.recover img len).entries img) img
  -- a refused read gives four zeros
  pub read-words : (img : List ℕ) (d : Desk) (s r : ℕ) → (first_refusal (row (read s r)) (given img d (read s r)) ≡ 0 → ⊥)
      → words_read (read_reply img d s r).answer ≡ replicate 4 0
  pub listen-read-words : (img : List ℕ) (d : Desk) (s r : ℕ)
      → (first_refusal (listening_row (Read s r)) (given_listening img d (Read s r)) ≡ 0 → ⊥) → words_read (listen_read_reply img d s r).answer ≡ replicate 4 0
  -- a refusal stores nothing
  pub opens-store : (img : List ℕ) (len : ℕ) → (first_refusal open_row (of_image img len 0 0) ≡ 0 → ⊥)
      → StoresNothing (store_rules.opens img len).count (store_rules.opens img len).entries
  pub calls-store : (img : List ℕ) (d : Desk) (c : Call) → (first_refusal (row c) (given img d c) ≡ 0 → ⊥)
      → StoresNothing (store_rules.call img d c).count (store_rules.call img d c).entries
  pub recover-stores : (img : List ℕ) (len : ℕ) → (first_refusal recover_row (of_image img len 0 0) ≡ 0 → ⊥)
      → StoresNothing (store_rules.recover img len).count (store_rules.recover img len).entries
