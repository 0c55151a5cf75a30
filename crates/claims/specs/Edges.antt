-- Document 01, "At the edges": the thirteen lettered cases as one table.
use Rattle.std.specs.Prelude.{ℕ, ◌+◌, ◌-◌, true, ◌≡◌, List, [], ◌∷◌, ◌++◌, set, replicate, take, Some, None, Ok}
use Rattle.layout.specs.Crash.{crashed}
use Rattle.layout.specs.Image.{slot_at}
use Rattle.layout.specs.Lay.{empty_image, lay_answer}
use Rattle.layout.specs.Told.{refused, refusal, ok, lay_told}
use Rattle.desk.specs.Desk.{zero_copy, idle_session}
use Rattle.desk.specs.Coherent.{limit}
use Rattle.desk.specs.declared.state.Phase.{Phase}
use Rattle.desk.specs.declared.state.Phase.TheVariants.{Active, Published}
use Rattle.desk.specs.declared.state.RecordCopy.{RecordCopy}
use Rattle.desk.specs.declared.state.Session.{Session}
use Rattle.desk.specs.declared.state.Desk.{Desk}
use Rattle.recovery.specs.Open.{open_reply, fresh_desk}
use Rattle.snapshot.specs.Read.{read_reply}
use Rattle.snapshot.specs.Write.{write_reply}
use Rattle.commit.specs.Finish.{finish_reply, finish_entries}
use Rattle.commit.specs.Reclaim.{reclaim_reply}
use Rattle.recovery.specs.Recover.{recover_reply}
use Rattle.recovery.specs.Told.{open_told, recover_told}
use Rattle.claims.specs.Refusals.{words_read}
use Rattle.snapshot.specs.Told.{write_told}
use Rattle.commit.specs.Told.{finish_told}
use Rattle.desk.specs.declared.reply.Reply.{Reply}
use Rattle.snapshot.specs.declared.seeing.Sight.{Sight}
use Rattle.snapshot.specs.declared.seeing.Source.TheVariants.{Copy, Home}
use Rattle.commit.specs.declared.reclaiming.Reclaimed.TheVariants.{Held, Cleared}

-- a store of 8 records and 2 sessions, with word 3 high enough (document 02, Req 05)
abbrev pub image : List ℕ
image = set (empty_image 8 2) 3 (limit + 16)

-- the same with word w of the slot at place p set
abbrev pub with_slot : ℕ → ℕ → ℕ → List ℕ → List ℕ
with_slot p w x img = set img (slot_at 8 p + w) x

-- a copy of record r, and a session with copies of records 0, 1, ..
abbrev pub copy_of : ℕ → RecordCopy
copy_of r = record { rec = r; words = (r + 5) ∷ 6 ∷ 7 ∷ 8 ∷ [] }

abbrev pub one_copy : Phase → Session
one_copy p = record { phase = p; count = 1; slot = 0; copies = copy_of 0 ∷ zero_copy ∷ zero_copy ∷ zero_copy ∷ [] }

abbrev pub four_copies : Session
four_copies = record { phase = Active 1; count = 4; slot = 0; copies = copy_of 0 ∷ copy_of 1 ∷ copy_of 2 ∷ copy_of 3 ∷ [] }

abbrev pub no_copies : Phase → Session
no_copies p = record { phase = p; count = 0; slot = 0; copies = replicate 4 zero_copy }

-- a desk with two sessions, of which the first holds the records that `marks` says, and at most one, `active`, is active
abbrev pub desk_of : ℕ → List ℕ → ℕ → Session → Session → Desk
desk_of clock marks active x y =
    record {
      clock = clock;
      n = 8;
      m = 2;
      holders = marks ++ replicate 252 0;
      sessions = x ∷ y ∷ replicate 14 idle_session;
      order = active ∷ replicate 15 0;
    }

abbrev pub one_mark : List ℕ
one_mark = 1 ∷ 0 ∷ 0 ∷ 0 ∷ []

abbrev pub four_marks : List ℕ
four_marks = 1 ∷ 1 ∷ 1 ∷ 1 ∷ []

-- a reader with this start, of record 0, which session 0 has published with this end
abbrev pub read_at : ℕ → ℕ → Reply Sight
read_at start end = read_reply image (desk_of 6 one_mark 1 (one_copy (Published end)) (no_copies (Active start))) 1 0

-- session 0 finishes one copy at this clock, and power fails once the first k entries have arrived
abbrev pub finishing : ℕ → Desk
finishing clock = desk_of clock one_mark 0 (one_copy (Active 1)) idle_session

abbrev pub cut_after : ℕ → List ℕ
cut_after k = crashed k (λ n. true) (finish_entries image (finishing 3) 48 0) image

-- session 0 has settled a log of persist number 5, and session 1's slot 0 has the number p
abbrev pub settled : ℕ → List ℕ
settled p = with_slot 0 0 5 (with_slot 2 0 p image)

-- a copy that differs from its home record in one word (document 02, Req 08): its log is a short one
abbrev pub one_word : Phase → Session
one_word p =
    record { phase = p; count = 1; slot = 0; copies = record { rec = 0; words = 0 ∷ 6 ∷ 0 ∷ 0 ∷ [] } ∷ zero_copy ∷ zero_copy ∷ zero_copy ∷ [] }

abbrev pub editing : Desk
editing = desk_of 3 one_mark 0 (one_word (Active 1)) idle_session

abbrev pub cut_short : ℕ → List ℕ
cut_short k = crashed k (λ n. true) (finish_entries image editing 48 0) image

pub record Edges : Type 0 where
  -- A: N 256, M 16: 1,732 words pass, 1,731 give 1
  pub a-lay : lay_told (lay_answer 256 16 (replicate 1732 9)) ≡ ok
  pub a-lay-short : lay_told (lay_answer 256 16 (replicate 1731 9)) ≡ refusal 1
  pub a-open : open_told (open_reply (empty_image 256 16) 48).answer ≡ ok
  pub a-open-short : open_told (open_reply (take 1731 (empty_image 256 16)) 48).answer ≡ refusal 1
  -- B: N 257 gives 14, though the length is wrong too
  pub b : lay_told (lay_answer 257 16 (replicate 1732 9)) ≡ refusal 14
  -- C: start 6, holder's end 6: copy; D: start 5, end 6: home
  pub c-answer : (read_at 6 6).answer ≡ Ok (record { source = Copy; words = 5 ∷ 6 ∷ 7 ∷ 8 ∷ [] })
  pub c-words : words_read (read_at 6 6).answer ≡ 5 ∷ 6 ∷ 7 ∷ 8 ∷ []
  pub d-answer : (read_at 5 6).answer ≡ Ok (record { source = Home; words = replicate 4 0 })
  pub d-words : words_read (read_at 5 6).answer ≡ replicate 4 0
  -- E: four copies, write to a fifth record: 8; F: write again to one of the four: accepted
  pub e : write_told (write_reply image (desk_of 1 four_marks 0 four_copies idle_session) 0 4 (replicate 4 1)).answer ≡ refusal 8
  pub f : (write_reply image (desk_of 1 four_marks 0 four_copies idle_session) 0 3 (replicate 4 1)).answer ≡ Ok tt
  -- G: clock L - 1 seals; at L, 10
  pub g-seals : (finish_reply image (finishing (limit - 1)) 48 0).answer ≡ Ok (Some (limit - 1))
  pub g-refused : finish_told (finish_reply image (finishing limit) 48 0).answer ≡ refusal 10
  pub g-limit : limit ≡ 4611686018427387904
  -- H: one copy, which differs from its home record in all four words (document 02, Req 08), 7 entries arrive: no log to replay; I: 8
  -- arrive: replayed
  pub h : (recover_reply (cut_after 7) 48).answer ≡ Ok None
  pub i : (recover_reply (cut_after 8) 48).answer ≡ Ok (Some 3)
  -- the same of a copy that differs in one word: 6 entries in place of 9, of which 4 arrive, and 5
  pub h-short : (recover_reply (cut_short 4) 48).answer ≡ Ok None
  pub i-short : (recover_reply (cut_short 5) 48).answer ≡ Ok (Some 3)
  pub hi-entries : (finish_reply image (finishing 3) 48 0).entries ≡ 9
  pub hi-short-entries : (finish_reply image editing 48 0).entries ≡ 6
  -- J: persist 5 settled, another slot at 4: held; K: another slot at 5: cleared
  pub j : (reclaim_reply (settled 4) (fresh_desk 5 8 2) 48 0).answer ≡ Ok (Held 4)
  pub k : (reclaim_reply (settled 5) (fresh_desk 5 8 2) 48 0).answer ≡ Ok (Cleared 5)
  -- M: count 5 with persist number 0 is ignored; N: with persist number 3 it gives 12
  pub m : (recover_reply (with_slot 1 1 5 image) 48).answer ≡ Ok None
  pub n : recover_told (recover_reply (with_slot 1 0 3 (with_slot 1 1 5 image)) 48).answer ≡ refused 12 1
