-- Demands 2 and 3, over given rules. Nothing is assumed but that the image opens.
use Rattle.std.specs.Prelude.{ℕ, suc, ◌+◌, ◌<◌, Bool, true, false, cond, ◌||◌, ◌≡◌, List, [], ◌∷◌, ◌++◌, ltb, take, get_or}
use Rattle.layout.specs.Crash.{arrived}
use Rattle.layout.specs.Image.{records_of, sessions_of, ceiling_of, home_words}
use Rattle.layout.specs.Told.{Told, refusal, ok, ended_at, clean, found_at, is_refusal, is, value_of, words_told, Copy, Home, None, Found}
use Rattle.desk.specs.Coherent.{limit}
use Rattle.desk.specs.declared.state.Desk.{Desk}
use Rattle.history.specs.Call.{Listening, Begin, Read, Finish, Find, Call, begin, read, write, abandon, finish, publish, group, settle, reclaim, listen}
use Rattle.history.specs.Cut.{feed_cut}
use Rattle.history.specs.Due.{raise_stores, pass_stores, due, four_words}
use Rattle.history.specs.History.{History, record_of, view_at}
use Rattle.history.specs.Ledger.{Ledger}
use Rattle.history.specs.Looks.{Looks, due_looks}
use Rattle.claims.specs.Rules.{Reply, Rules}
use Rattle.claims.specs.Run.{World, opened, reply, run, since_opening}
use Rattle.claims.specs.Recovery.{Attempt, after_attempts, after_calls, after_stop, Ends}

-- ---- demand 2

-- from any image that opens, along any list of calls, every call tells what is due
abbrev pub Demand2 : Rules → Type 0
Demand2 R = (img : List ℕ) (len : ℕ) → (R.opens img len).told ≡ ok → (calls : List Call) (c : Call)
    → (reply R (run R calls (opened R img len)) c).told
    ≡ (due (records_of img) (sessions_of img) (run R calls (opened R img len)).ledger c).answer

-- and stores the entries that are due
abbrev pub StoresDue : Rules → Type 0
StoresDue R = (img : List ℕ) (len : ℕ) → (R.opens img len).told ≡ ok → (calls : List Call) (c : Call)
    → (reply R (run R calls (opened R img len)) c).entries
    ≡ (due (records_of img) (sessions_of img) (run R calls (opened R img len)).ledger c).entries

-- the opening stores the new ceiling, and a fence (document 02, Req 05)
abbrev pub OpeningStores : Rules → Type 0
OpeningStores R = (img : List ℕ) (len : ℕ) → (R.opens img len).told ≡ ok → (R.opens img len).entries ≡ raise_stores (ceiling_of img + 1)

-- a publish ends at clock + 1, the clock becomes that, and where it would pass word 3 the new ceiling is stored
pub record PublishRight (img : List ℕ) (d : Desk) (y : Reply) : Type 0 where
  pub ends : y.told ≡ ended_at (d.clock + 1)
  pub ticks : y.desk.clock ≡ d.clock + 1
  pub stores : y.entries ≡ pass_stores (d.clock + 1) (ceiling_of img)

-- on any image and desk that it does not refuse, not only along a list of calls
abbrev pub PublishStores : Rules → Type 0
PublishStores R = (img : List ℕ) (d : Desk) (len s : ℕ) → is_refusal (R.call img d (publish len s)).told ≡ false
    → PublishRight img d (R.call img d (publish len s))

-- the same records, from record 0 up, and each gives the same
pub record SameLooks (x y : Looks) : Type 0 where
  pub number : x.number ≡ y.number
  pub gives : (r : ℕ) → r < y.number → x.gives r ≡ y.gives r

-- and a search looks at the records that are due, each of which gives what is due
abbrev pub LooksDue : Rules → Type 0
LooksDue R = (img : List ℕ) (len : ℕ) → (R.opens img len).told ≡ ok → (calls : List Call) (c : Call)
    → SameLooks (reply R (run R calls (opened R img len)) c).looks
    (due_looks (records_of img) (sessions_of img) (run R calls (opened R img len)).ledger c)

-- ---- demand 3

-- where power fails, with the first k entries made: in the opening, or in a call after others
pub data Cut : Type 0 where
  opening : ℕ → (ℕ → Bool) → Cut
  during : List Call → Call → ℕ → (ℕ → Bool) → Cut

-- the calls before the cut
abbrev pub before : Cut → List Call
before (opening k sel) = []
before (during calls c k sel) = calls

-- the image that the cut leaves: of all entries since the opening, its own first, one call's behind the other's and the cut call's first k
-- last, the stores before the last fence have arrived, and of the others those that are selected
abbrev pub cut_image : Rules → List ℕ → ℕ → Cut → List ℕ
cut_image R img len (opening k sel) = arrived sel 0 (take k (R.opens img len).entries) img
cut_image R img len (during calls c k sel) =
    arrived sel 0 (since_opening R img len calls ++ take k (reply R (run R calls (opened R img len)) c).entries) img

-- the history at the cut, of which img is what is left, in a store of N records
abbrev pub cut_in : Rules → ℕ → World → Call → List ℕ → History
cut_in R N w c img = feed_cut N w.ledger.desk c (reply R w c).told img w.ledger.history

abbrev pub cut_history : Rules → List ℕ → ℕ → Cut → History
cut_history R img len (opening k sel) = (opened R img len).ledger.history
cut_history R img len (during calls c k sel) =
    cut_in R (records_of img) (run R calls (opened R img len)) c (cut_image R img len (during calls c k sel))

-- the words of a copy or home read are those that the history at the cut names, at the start that was noted when it was read
pub record ReadRight (h : History) (start r : ℕ) (t : Told) : Type 0 where
  pub copy : is Copy t ≡ true → words_told t ≡ view_at h start r
  pub home : is Home t ≡ true → words_told t ≡ four_words (view_at h start r)

-- a search (document 02, Req 03), by the records that it looked at: each gave a copy or a home record with the words that the history at the
-- cut names; one that has the number as word 0 is the answer, so the search stopped there; an answer "none" comes behind all N records
pub record FindRight (h : History) (start N k : ℕ) (t : Told) (x : Looks) : Type 0 where
  pub each : (r : ℕ) → r < x.number → ReadRight h start r (x.gives r)
  pub source : (r : ℕ) → r < x.number → (is Copy (x.gives r) || is Home (x.gives r)) ≡ true
  pub first : (r : ℕ) → r < x.number → get_or (words_told (x.gives r)) 0 0 ≡ k → t ≡ found_at r
  pub found : is Found t ≡ true → (x.number ≡ suc (value_of t)) × (get_or (words_told (x.gives (value_of t))) 0 0 ≡ k)
  pub none : is None t ≡ true → x.number ≡ N

-- what a call that reads gave, where the ledger before it is L, in a store of N records
module _ (h : History) (N : ℕ) (L : Ledger) where
  abbrev pub ListeningRight : Listening → Reply → Type 0
  ListeningRight (Begin s) y = Unit {0}
  ListeningRight (Read s r) y = ReadRight h (L.history.start s) r y.told
  ListeningRight (Finish len s) y = Unit {0}
  ListeningRight (Find s k) y = FindRight h (L.history.start s) N k y.told y.looks

  abbrev pub CallRight : Call → Reply → Type 0
  CallRight (begin s) y = Unit {0}
  CallRight (read s r) y = ReadRight h (L.history.start s) r y.told
  CallRight (write s r ws) y = Unit {0}
  CallRight (abandon s) y = Unit {0}
  CallRight (finish len s) y = Unit {0}
  CallRight (publish len s) y = Unit {0}
  CallRight (group len set) y = Unit {0}
  CallRight (settle len s) y = Unit {0}
  CallRight (reclaim len s) y = Unit {0}
  CallRight (listen c) y = ListeningRight c y

-- what an opening with room in the trace tells, all slots being empty, of a ceiling w: ok below L, else 10 (document 02, Req 05)
abbrev pub opening_due : ℕ → Told
opening_due w = cond (ltb w limit) ok (refusal 10)

-- an image that is recovered from what a cut left of the first one: the ceiling is the one that was left, and decides whether it opens; it has
-- the N and M that it had, and every record equals the book's
pub record Recovered (R : Rules) (first left : List ℕ) (h : History) (img : List ℕ) : Type 0 where
  pub ceiling : ceiling_of img ≡ ceiling_of left
  pub opens : (x : ℕ) → (R.opens img (48 + x)).told ≡ opening_due (ceiling_of img)
  pub n-same : records_of img ≡ records_of first
  pub m-same : sessions_of img ≡ sessions_of first
  pub records : (r : ℕ) → r < records_of first → home_words img r ≡ four_words (record_of h r)

module _ (R : Rules) (img : List ℕ) (len : ℕ) (cut : Cut) (attempts : List Attempt) where
  -- after attempts at recovery in each of which power fails again
  abbrev pub tried : List ℕ
  tried = after_attempts R attempts (cut_image R img len cut)

  pub record Survives : Type 0 where
    -- recovery ends clean
    pub ends : (x : ℕ → ℕ) → Ends R x tried
    -- whenever recover answers "clean", after any whole calls, the image is recovered, whichever words since the last fence arrive
    pub clean-right : (whole : List ℕ) (last : ℕ) (sel : ℕ → Bool) → (R.recover (after_calls R whole tried) last).told ≡ clean
        → Recovered R img (cut_image R img len cut) (cut_history R img len cut) (after_stop R (whole ++ (last ∷ [])) sel tried)
    -- every copy or home read along the list, and every record that a search looked at, gave the book's words
    pub reads : (earlier later : List Call) (c : Call) → before cut ≡ earlier ++ (c ∷ later)
        → CallRight (cut_history R img len cut) (records_of img) (run R earlier (opened R img len)).ledger c
        (reply R (run R earlier (opened R img len)) c)

-- from any image that opens, along any list of calls, wherever power fails, whichever words have arrived, and however often recovery is cut
abbrev pub Demand3 : Rules → Type 0
Demand3 R = (img : List ℕ) (len : ℕ) → (R.opens img len).told ≡ ok → (cut : Cut) (attempts : List Attempt) → Survives R img len cut attempts
