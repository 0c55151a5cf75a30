-- Finish, case by case.
use Prim.Native.Nat.{ℕ, ◌+◌, ◌-◌, ◌<◌, ◌≤◌}
use mathlib.Core.Bool.{true, ◌||◌}
use mathlib.Core.Path.{◌≡◌, refl, sym, ap, subst, ◌∙◌}
use mathlib.Core.List.{List, [], ◌++◌}
use native.Mathlib.Omega.{arith}
use lib.Dec.{ltb, eqb}
use lib.ListN.{length, take, drop}
use borrow.Author.Tests.{eq-eqb, ne_eqb, leb-true}
use Rattle.layout.specs.Checks.{unless, first}
use Rattle.layout.proofs.ChecksLaws.{first-both, unless-zero, answered-refused, answered-passed, answered-zero, answered-not}
use Rattle.layout.specs.Entries.{Entry, Write, shift, made, listed}
use Rattle.layout.specs.Image.{home_words, place_of, slot_at}
use Rattle.journal.specs.Changes.{changes_below, Gathered}
use Rattle.journal.specs.Copies.{rec_in, words_in}
use Rattle.journal.specs.Lengths.{seal_length}
use Rattle.journal.specs.Log.{either_body, index_in, word_in, sealed_body, log_entries}
use Rattle.journal.proofs.GatheredLaws.{gathered-body, gathered-length}
use Rattle.journal.proofs.TakenLaws.{taken-length, taken-rec, taken-differ, taken-changes, taken-body}
use Rattle.layout.proofs.TraceLaws.{made-tail}
use Rattle.desk.specs.Desk.{copied_rec, copied_words, session_at, is_active, idle_session, with_phase, end_session}
use Rattle.desk.specs.Coherent.{limit}
use Rattle.desk.specs.declared.state.Phase.TheVariants.{Sealed}
use Rattle.desk.specs.declared.state.Desk.{Desk}
use Rattle.desk.specs.declared.state.RecordCopy.{RecordCopy}
use Rattle.desk.proofs.Copied.{copies-four, copies-below, copies-differ}
use Rattle.layout.specs.Homes.{Differ}
use Rattle.desk.specs.Entering.{image_fault}
use Rattle.layout.specs.Checks.{room_for}
use Rattle.commit.specs.Finish.{finish_fault, seal_entries, finish_entries, finish_refused, finish_done, finish_reply, changed_words}
use Rattle.desk.specs.Replies.{storing_reply, given_by}
use Rattle.desk.specs.declared.reply.StoringReply.{StoringReply}
use Rattle.desk.proofs.ReplyLaws.{reply-whole}
use Rattle.std.specs.Prelude.{Option, Some, None, Ok}
use Rattle.layout.proofs.Says.{by-test}
use Rattle.desk.proofs.Entered.{entered}

-- past the checks 1 to 4 the session's slot lies within the image, and its log within the slot and the trace
pub record SlotFits (img : List ℕ) (d : Desk) (len s : ℕ) : Type 0 where
  pub small : s < 16
  pub n-high : d.n ≤ 256
  pub place-high : place_of s (session_at d s).slot ≤ 32
  pub count-high : (session_at d s).count ≤ 4
  pub copied : (j : ℕ) → j < (session_at d s).count → copied_rec (session_at d s) j < d.n
  pub apart : Differ (copied_rec (session_at d s)) (session_at d s).count
  pub inside : slot_at d.n (place_of s (session_at d s).slot) + 22 ≤ length img
  pub room : 48 ≤ len

pub slot-fits : (img : List ℕ) (d : Desk) (len s : ℕ) → image_fault img d (room_for len) s ≡ 0 → SlotFits img d len s
slot-fits img d len s z =
    let h = entered img d (room_for len) s z in
    let slot : (session_at d s).slot ≤ 1 = (h.coherent.session s h.small).slot_small in
    record {
      small = h.small;
      n-high = h.coherent.n-high;
      place-high = omega (arith, h.small);
      count-high = copies-four d h.coherent s h.small;
      copied = copies-below d h.coherent s h.small;
      apart = copies-differ d h.coherent s h.small;
      inside = omega (arith, h.below, h.n-same, h.m-same, h.shaped.size);
      room = leb-true _ _ h.room-enough;
    }

-- finish gives the reply r, with the entries es
pub record Finishes (img : List ℕ) (d : Desk) (len s : ℕ) (r : StoringReply (Option ℕ)) (es : List Entry) : Type 0 where
  pub reply : finish_reply img d len s ≡ r
  pub lists : finish_entries img d len s ≡ es

-- checks 6 and 10
abbrev pub seal_fault : Desk → ℕ → ℕ
seal_fault d s = first (unless (is_active (session_at d s).phase) 6) (unless (eqb (session_at d s).count 0 || ltb d.clock limit) 10)

-- they have passed: the session is active
pub seal-active : (d : Desk) (s : ℕ) → seal_fault d s ≡ 0 → is_active (session_at d s).phase ≡ true
seal-active d s z = unless-zero (is_active (session_at d s).phase) 5 (first-both (unless (is_active (session_at d s).phase) 6) _ z).0

module _ (img : List ℕ) (d : Desk) (len s : ℕ) where
  -- refused by 1, 2, 3 or 4
  pub finish-refused : (k : ℕ) → k ≡ image_fault img d (room_for len) s → (k ≡ 0 → ⊥) → Finishes img d len s (finish_refused d k) []
  unfolding finish_reply finish_entries finish_fault
  finish-refused k e n =
      record {
        reply = answered-refused _ _ (finish_refused d) _ (λ z. n (e ∙ z)) ∙ ap (finish_refused d) (sym e);
        lists = answered-refused _ _ (λ k. []) _ (λ z. n (e ∙ z));
      }

  module _ (z : image_fault img d (room_for len) s ≡ 0) where
    -- refused by 6 or 10
    pub finish-shut : (k : ℕ) → k ≡ seal_fault d s → (k ≡ 0 → ⊥) → Finishes img d len s (finish_refused d k) []
    unfolding finish_reply finish_entries finish_fault
    finish-shut k e n =
        record {
          reply = answered-passed _ _ (finish_refused d) _ z ∙ answered-not _ (finish_refused d) _ (λ y. n (e ∙ y)) ∙ ap (finish_refused d) (sym e);
          lists = answered-passed _ _ (λ k. []) _ z ∙ answered-not _ (λ k. []) _ (λ y. n (e ∙ y));
        }

    module _ (y : seal_fault d s ≡ 0) where
      -- without copies
      pub finish-empty : (session_at d s).count ≡ 0 → Finishes img d len s (record { answer = Ok None; entries = 0; desk = end_session d s idle_session d.holders }) []
      unfolding finish_reply finish_entries finish_fault
      finish-empty e =
          record {
            reply = answered-passed _ _ (finish_refused d) _ z ∙ answered-zero _ (finish_refused d) _ y ∙ rw (eq-eqb _ 0 e);
            lists = answered-passed _ _ (λ k. []) _ z ∙ answered-zero _ (λ k. []) _ y ∙ rw (eq-eqb _ 0 e);
          }

      -- with copies
      pub finish-sealed : ((session_at d s).count ≡ 0 → ⊥)
          → Finishes img d len s
          (record { answer = Ok (Some d.clock); entries = seal_length (length (changed_words img d s)) (session_at d s).count; desk = end_session d s (with_phase (session_at d s) (Sealed d.clock)) d.holders })
          (seal_entries img d s)
      unfolding finish_reply finish_entries finish_fault
      finish-sealed n =
          record {
            reply = answered-passed _ _ (finish_refused d) _ z ∙ answered-zero _ (finish_refused d) _ y ∙ rw (ne_eqb _ 0 n);
            lists = answered-passed _ _ (λ k. []) _ z ∙ answered-zero _ (λ k. []) _ y ∙ rw (ne_eqb _ 0 n);
          }

-- the reply is made again of what it gives
pub finish-whole : (img : List ℕ) (d : Desk) (len s : ℕ)
    → storing_reply (given_by (finish_reply img d len s)) (finish_reply img d len s).desk ≡ finish_reply img d len s
unfolding finish_reply
finish-whole img d len s =
    reply-whole (finish_fault img d len s) (finish_refused d) (finish_done img d s) (λ k. refl)
    (by-test (eqb (session_at d s).count 0) (λ t. rw t refl) (λ f. rw f refl))

module _ (img : List ℕ) (d : Desk) (s : ℕ) where
  -- the session's log, by places in its slot
  abbrev log : List Entry
  log = log_entries d.n (home_words img) d.clock (copied_rec (session_at d s)) (copied_words (session_at d s)) (session_at d s).count

  -- its copies
  abbrev copies : List RecordCopy
  copies = take (session_at d s).count (session_at d s).copies

  -- what is gathered of them
  abbrev Found : List Write → Type 0
  Found found = Gathered (changes_below (home_words img) (rec_in copies) (words_in copies) (length copies) d.n) (length copies) found

  -- the log as it is written of what was gathered
  abbrev written : List Write → List Entry
  written found = sealed_body d.clock (either_body (index_in found) (word_in found) (length found) (rec_in copies) (words_in copies) (length copies))

  -- the array has them all
  module _ (room : (session_at d s).count ≤ length (session_at d s).copies) where
    -- they can be gathered: there are few, of records below N that differ
    pub copies-few : {len : ℕ} → SlotFits img d len s → length copies ≤ 4
    copies-few f = omega (arith, f.count-high, taken-length (session_at d s).copies (session_at d s).count room)

    pub gatherable : {len : ℕ} → SlotFits img d len s
        → ((length copies ≤ 4) × (d.n ≤ 256)) × (((j : ℕ) → j < length copies → rec_in copies j < d.n) × Differ (rec_in copies) (length copies))
    gatherable f =
        let cs = (session_at d s).copies in
        let c = (session_at d s).count in (
          (copies-few f, f.n-high),
          (
            (λ j l. let m : j < c = omega (arith, l, taken-length cs c room) in rw (taken-rec cs c room j m) (f.copied j m)),
            taken-differ cs c room f.apart,
          ),
        )

    module _ {found : List Write} (g : Found found) where
      all_found : Gathered (changed_words img d s) (session_at d s).count found
      all_found =
          subst (λ ws. Gathered ws (session_at d s).count found) (taken-changes (session_at d s).copies (session_at d s).count room (home_words img) d.n)
          (subst (λ c. Gathered (changes_below (home_words img) (rec_in copies) (words_in copies) (length copies) d.n) c found) (taken-length (session_at d s).copies (session_at d s).count room) g)

      found-log : written found ≡ log
      found-log =
          ap (sealed_body d.clock)
          (taken-body (session_at d s).copies (session_at d s).count room (index_in found) (word_in found) (length found)
          ∙ gathered-body (copied_rec (session_at d s)) (copied_words (session_at d s)) all_found)

      pub found-length : seal_length (length found) (session_at d s).count ≡ seal_length (length (changed_words img d s)) (session_at d s).count
      found-length = gathered-length all_found

      module _ (from : ℕ) (e : from ≡ slot_at d.n (place_of s (session_at d s).slot)) where
        -- written to the part of the image that starts at the slot
        pub sealed-image : (part : List ℕ) → part ≡ made (written found) (take (length img - from) (drop from img))
            → take from img ++ (part ++ drop (length img - from) (drop from img)) ≡ made (seal_entries img d s) img
        sealed-image part m = made-tail from log img part (rw found-log at m) ∙ ap (λ b. made (shift b log) img) e

        pub sealed-trace : (t t' : List ℕ) → t' ≡ listed (shift from (written found)) t → t' ≡ listed (seal_entries img d s) t
        sealed-trace t t' l = (rw found-log at l) ∙ ap (λ b. listed (shift b log) t) e
