-- Document 02, Req 05: what becomes of header word 3 on any image and desk, and in numbers what opening and publish do with it.
use Rattle.std.specs.Prelude.{ℕ, ◌+◌, ◌-◌, Bool, ◌≡◌, List, [], ◌∷◌, set, replicate, None, Ok, Err}
use Rattle.layout.specs.Crash.{crashed}
use Rattle.layout.specs.Entries.{Entry, store, fence, made}
use Rattle.layout.specs.Image.{ceiling_of, shaped_b}
use Rattle.layout.specs.Lay.{empty_image, laid_image}
use Rattle.layout.specs.Told.{Told, refusal}
use Rattle.layout.specs.declared.refusal.Refusal.TheVariants.{Incoherent, WrongPhase}
use Rattle.desk.specs.Coherent.{limit}
use Rattle.desk.specs.Desk.{idle_session}
use Rattle.desk.specs.Publish.{publish_entries, publish_reply}
use Rattle.desk.specs.declared.state.Phase.TheVariants.{Sealed}
use Rattle.desk.specs.declared.state.Desk.{Desk}
use Rattle.recovery.specs.Open.{open_reply, open_entries}
use Rattle.recovery.specs.Recover.{recover_entries, recover_reply}
use Rattle.recovery.specs.Told.{open_told}
use Rattle.snapshot.specs.Read.{read_reply}
use Rattle.commit.specs.Finish.{finish_entries}
use Rattle.commit.specs.Settle.{settle_entries}
use Rattle.commit.specs.Reclaim.{reclaim_entries}
use Rattle.claims.specs.Edges.{with_slot, one_copy, desk_of, one_mark}

-- ---- on any image and desk

-- the entries leave word 3 as it was, made whole or cut anywhere
pub record Keeps (es : List Entry) (img : List ℕ) : Type 0 where
  pub whole : ceiling_of (made es img) ≡ ceiling_of img
  pub cut : (k : ℕ) (sel : ℕ → Bool) → ceiling_of (crashed k sel es img) ≡ ceiling_of img

-- what lay, opening, publish and a group store there say Opens, OpeningStores, PublishStores and GroupStores
pub record CeilingKept : Type 0 where
  -- check 1 does not look at it
  pub any-shaped : (img : List ℕ) (w : ℕ) → shaped_b (set img 3 w) ≡ shaped_b img
  -- no other call that stores touches it
  pub finish : (img : List ℕ) (d : Desk) (len s : ℕ) → Keeps (finish_entries img d len s) img
  pub settle : (img : List ℕ) (d : Desk) (len s : ℕ) → Keeps (settle_entries img d len s) img
  pub reclaim : (img : List ℕ) (d : Desk) (len s : ℕ) → Keeps (reclaim_entries img d len s) img
  pub recover : (img : List ℕ) (len : ℕ) → Keeps (recover_entries img len) img

-- ---- in numbers

-- a store of 8 records and 2 sessions with this word 3; with an occupied slot
abbrev pub with_ceiling : ℕ → List ℕ
with_ceiling w = set (empty_image 8 2) 3 w

abbrev pub occupied_with : ℕ → List ℕ
occupied_with w = with_slot 0 0 1 (with_ceiling w)

-- the largest word
abbrev pub top : ℕ
top = 18446744073709551615

-- what an opening with a trace of len words tells
abbrev pub opening : List ℕ → ℕ → Told
opening img len = open_told (open_reply img len).answer

-- session 0 has sealed one copy
abbrev pub sealed_desk : ℕ → Desk
sealed_desk clock = desk_of clock one_mark 0 (one_copy (Sealed 1)) idle_session

-- what publish stores of it at this clock, with word 3 at w
abbrev pub publish_stores : ℕ → ℕ → List Entry
publish_stores w clock = publish_entries (with_ceiling w) (sealed_desk clock) 48 0

pub record Ceilings : Type 0 where
  -- lay writes 0 into word 3, whatever was there
  pub laid : laid_image 8 2 (replicate 124 9) ≡ with_ceiling 0
  -- the clock is then 1, and 1,025 is stored, with a fence
  pub laid-clock : (open_reply (empty_image 8 2) 48).desk.clock ≡ 1
  pub laid-stores : open_entries (empty_image 8 2) 48 ≡ store 3 1025 ∷ fence ∷ []
  -- the next opening goes on above that
  pub next-clock : (open_reply (with_ceiling 1025) 48).desk.clock ≡ 1026
  pub next-stores : open_entries (with_ceiling 1025) 48 ≡ store 3 2050 ∷ fence ∷ []
  -- at L - 1 it opens once more, and a raise past L is stored as it is; at L, 10
  pub last-clock : (open_reply (with_ceiling (limit - 1)) 48).desk.clock ≡ limit
  pub last-stores : open_entries (with_ceiling (limit - 1)) 48 ≡ store 3 (limit + 1024) ∷ fence ∷ []
  pub at-limit : opening (with_ceiling limit) 48 ≡ refusal 10
  -- any word 3 will do for check 1: the largest gives 10 too, and recover takes it
  pub at_top : opening (with_ceiling top) 48 ≡ refusal 10
  pub recover-top : (recover_reply (with_ceiling top) 48).answer ≡ Ok None
  -- 10 after 11, 11 after 3, 3 after 1
  pub occupied : opening (occupied_with limit) 48 ≡ refusal 11
  pub short : opening (occupied_with limit) 47 ≡ refusal 3
  pub wrong : opening (set (occupied_with limit) 0 2) 47 ≡ refusal 1
  -- an end that is at most word 3 stores nothing; one above it raises it: two entries
  pub end_below : publish_stores 5000 3 ≡ []
  pub end-at : publish_stores 4 3 ≡ []
  pub end-above : publish_stores 3 3 ≡ store 3 1028 ∷ fence ∷ []
  pub end-told : (publish_reply (with_ceiling 3) (sealed_desk 3) 48 0).answer ≡ Ok 4
  pub end-counted : (publish_reply (with_ceiling 3) (sealed_desk 3) 48 0).entries ≡ 2
  -- at the largest clock of a coherent desk with a sealed session
  pub end-last : publish_stores (limit + 15) (limit + 15) ≡ store 3 (limit + 1040) ∷ fence ∷ []
  -- a clock above word 3 gives 2; at word 3 a read by an idle session gives 6
  pub clock-above : (publish_reply (with_ceiling 2) (sealed_desk 3) 48 0).answer ≡ Err Incoherent
  pub read_above : (read_reply (with_ceiling 2) (sealed_desk 3) 1 0).answer ≡ Err Incoherent
  pub read-at : (read_reply (with_ceiling 3) (sealed_desk 3) 1 0).answer ≡ Err WrongPhase
