-- Settle, case by case.
use Prim.Native.Nat.{ℕ, ◌+◌, ◌*◌, ◌<◌, ◌≤◌}
use mathlib.Core.Bool.{true, false, cond}
use mathlib.Core.Path.{◌≡◌, refl, sym, ap, ◌∙◌}
use mathlib.Core.List.{List, []}
use native.Mathlib.Omega.{arith}
use lib.Dec.{eqb}
use lib.ListN.{length, take}
use Rattle.std.specs.Prelude.{Option, Some, None, Ok}
use Rattle.layout.specs.Oldest.{oldest_of}
use Rattle.layout.proofs.Says.{by-test}
use Rattle.layout.specs.Checks.{answered}
use Rattle.layout.proofs.ChecksLaws.{answered-refused, answered-passed}
use Rattle.layout.specs.Entries.{Entry}
use Rattle.layout.specs.declared.oldest.Oldest.{Oldest}
use Rattle.layout.specs.Image.{home_at}
use Rattle.journal.specs.Copies.{rec_in}
use Rattle.journal.specs.Lengths.{settle_length}
use Rattle.journal.proofs.TakenLaws.{taken-length, taken-rec}
use Rattle.desk.specs.Desk.{copied_rec, session_at, is_published}
use Rattle.desk.specs.declared.state.Phase.TheVariants.{Idle, Active, Sealed, Published}
use Rattle.desk.specs.declared.state.Phase.{Phase}
use Rattle.desk.specs.declared.state.Desk.{Desk}
use Rattle.desk.specs.declared.state.Session.{Session}
use Rattle.desk.specs.Entering.{image_fault}
use Rattle.layout.specs.Checks.{room_for}
use Rattle.commit.specs.Settle.{start_below, reader_below, settle_fault, oldest_reader, go_home_entries, sent_home, waits_b, settle_entries, settle_refused, settle_done, settle_reply}
use Rattle.desk.specs.Replies.{storing_reply, given_by}
use Rattle.desk.specs.declared.reply.StoringReply.{StoringReply}
use Rattle.desk.proofs.ReplyLaws.{reply-whole}

pub not-published : (p : Phase) → ((end : ℕ) → p ≡ Published end → ⊥) → is_published p ≡ false
not-published Idle n = refl
not-published (Active b) n = refl
not-published (Sealed q) n = refl
not-published (Published e) n = absurd (n e refl)

-- the first copies of some can go home, where each has its home in the image
pub sendable : (e : Session) {size len : ℕ} → e.count ≤ length e.copies → e.count ≤ 4 → 48 ≤ len
    → ((j : ℕ) → j < e.count → (copied_rec e j < 256) × (home_at (copied_rec e j) + 4 ≤ size))
    → let sent = take e.count e.copies in ((length sent ≤ 4) × (8 * length sent ≤ len)) × ((j : ℕ) → j < length sent → (rec_in sent j < 256) × (home_at (rec_in sent j) + 4 ≤ size))
sendable e fits few room h =
    let z = taken-length e.copies e.count fits in (
      (omega (arith, z, few), omega (arith, z, few, room)),
      λ j l. let m : j < e.count = omega (arith, z, l) in rw (taken-rec e.copies e.count fits j m) (h j m),
    )

-- what settle answers, and what it lists
pub record Settles (img : List ℕ) (d : Desk) (len s : ℕ) (reply : StoringReply (Option ℕ)) (entries : List Entry) : Type 0 where
  pub replies : settle_reply img d len s ≡ reply
  pub lists : settle_entries img d len s ≡ entries

module _ (img : List ℕ) (d : Desk) (len s : ℕ) where
  -- refused by 1 to 4
  pub settle-refused : (k : ℕ) → k ≡ image_fault img d (room_for len) s → (k ≡ 0 → ⊥) → Settles img d len s (settle_refused d k) []
  unfolding settle_reply settle_entries settle_fault
  settle-refused k e n =
      record {
        replies = answered-refused _ _ (settle_refused d) _ (λ z. n (e ∙ z)) ∙ ap (settle_refused d) (sym e);
        lists = answered-refused _ _ (λ _. []) _ (λ z. n (e ∙ z));
      }

  module _ (z : image_fault img d (room_for len) s ≡ 0) where
    -- refused by 6
    pub settle-unpublished : is_published (session_at d s).phase ≡ false → Settles img d len s (settle_refused d 6) []
    unfolding settle_reply settle_entries settle_fault answered
    settle-unpublished f =
        record {
          replies = answered-passed _ _ (settle_refused d) _ z ∙ rw f;
          lists = answered-passed _ _ (λ _. []) _ z ∙ rw f;
        }

    module _ (end : ℕ) (p : (session_at d s).phase ≡ Published end) where
      -- its reader, by the end
      same_reader : oldest_reader d s ≡ oldest_of (λ t. start_below end (session_at d t).phase) 16
      unfolding oldest_reader oldest_of
      same_reader = rw p

      -- an active session has a start below the end
      pub settle-waits : (reader : ℕ) → reader_below d end ≡ Some reader → Settles img d len s (record { answer = Ok (Some reader); entries = 0; desk = d }) []
      unfolding settle_reply settle_entries settle_fault answered
      settle-waits reader h =
          let b = a_reader _ reader h in
          record {
            replies = answered-passed _ _ (settle_refused d) _ z ∙ rw (p, same_reader, b.0, b.1);
            lists = answered-passed _ _ (λ _. []) _ z ∙ rw (p, same_reader, b.0);
          }
        where
          a_reader : (o : Oldest) (r : ℕ) → cond (eqb o.number 0) None (Some o.place) ≡ Some r → (eqb o.number 0 ≡ false) × (o.place ≡ r)
          a_reader o r h = by-test (eqb o.number 0) (λ t. absurd (let q = rw t at h in cc)) (λ f. (f, (let q = rw f at h in cc)))

      -- the copies go home
      pub settle-stores : reader_below d end ≡ None
          → Settles img d len s (record { answer = Ok None; entries = settle_length (session_at d s).count; desk = sent_home d s }) (go_home_entries d s)
      unfolding settle_reply settle_entries settle_fault answered
      settle-stores h =
          let b = no_reader _ h in
          record {
            replies = answered-passed _ _ (settle_refused d) _ z ∙ rw (p, same_reader, b);
            lists = answered-passed _ _ (λ _. []) _ z ∙ rw (p, same_reader, b);
          }
        where
          no_reader : (o : Oldest) → cond (eqb o.number 0) None (Some o.place) ≡ None → eqb o.number 0 ≡ true
          no_reader o h = by-test (eqb o.number 0) (λ t. t) (λ f. absurd (let q = rw f at h in cc))

-- the reply is made again of what it gives
pub settle-whole : (img : List ℕ) (d : Desk) (len s : ℕ)
    → storing_reply (given_by (settle_reply img d len s)) (settle_reply img d len s).desk ≡ settle_reply img d len s
unfolding settle_reply
settle-whole img d len s =
    reply-whole (settle_fault img d len s) (settle_refused d) (settle_done d s) (λ k. refl)
    (by-test (waits_b d s) (λ t. rw t refl) (λ f. rw f refl))
