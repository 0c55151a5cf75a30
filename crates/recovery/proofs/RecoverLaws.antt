-- Recover, case by case.
use Prim.Native.Nat.{ℕ, zero, suc, ◌+◌, ◌*◌, ◌≤◌, ◌<◌}
use mathlib.Core.Bool.{true, false}
use mathlib.Core.Path.{◌≡◌, refl, sym, ap, ◌∙◌}
use mathlib.Core.List.{List, [], ◌∷◌, ◌++◌}
use native.Mathlib.Omega.{arith}
use lib.ListN.{length}
use borrow.Author.Tests.{eq-eqb, ne_eqb, leb-true, eqb-true, eqb-false}
use lib.Dec.{eqb}
use Rattle.layout.proofs.BelowLaws.{lowest-most}
use Rattle.layout.specs.Checks.{unless}
use Rattle.layout.proofs.ChecksLaws.{first-both, unless-zero, answered-zero, answered-not}
use Rattle.layout.specs.Entries.{Entry, store, fence, stores}
use Rattle.layout.specs.Image.{records_of, sessions_of, shaped_b, slot_at, slot_word, persist_at}
use Rattle.journal.specs.Lengths.{replay_length}
use Rattle.journal.specs.Log.{pairs_of, denoted, unsound_b}
use Rattle.journal.proofs.DenotedLaws.{pairs-few}
use Rattle.layout.specs.Oldest.{oldest_of}
use Rattle.layout.specs.declared.oldest.Oldest.{Oldest}
use Rattle.layout.proofs.Least.{oldest-is}
use Rattle.layout.proofs.Says.{by-test}
use Rattle.layout.proofs.Shape.{Shaped, says-shaped}
use Rattle.layout.specs.Checks.{room_for}
use Rattle.std.specs.Prelude.{⊤, Option, Some, None, Ok, Err, MatchResult}
use Rattle.std.proofs.lemmas.Option.{none-some, same_Some}
use Rattle.layout.specs.Oldest.{some_oldest}
use Rattle.layout.specs.Refusal.{Answer}
use Rattle.layout.specs.Checks.{answered}
use Rattle.recovery.specs.Recover.{slots_of, unsound_place, recover_fault, recover_cause, logs_answer, first_log, clean_b, recover_entries, recover_refused, recover_done, recover_reply, recovered_by}
use Rattle.recovery.specs.declared.recovering.RecoverReply.{RecoverReply}
use Rattle.recovery.proofs.Lists.{taken-passed, taken-sound, recover-tidy}

-- what recover answers, and what it lists
pub record Recovers (img : List ℕ) (len : ℕ) (reply : RecoverReply) (entries : List Entry) : Type 0 where
  pub replies : recover_reply img len ≡ reply
  pub lists : recover_entries img len ≡ entries

-- the list fits the trace
pub recover-fits : {img : List ℕ} {len : ℕ} {reply : RecoverReply} {es : List Entry} → Recovers img len reply es → 48 ≤ len → 2 * length es ≤ len
recover-fits {img} {len} {reply} {es} h l = omega (arith, ap length h.lists, (recover-tidy img len).short)

-- checks 1 and 3 have passed
pub recover-shaped : (img : List ℕ) (len : ℕ) → recover_fault img len ≡ 0 → Shaped img
unfolding recover_fault
recover-shaped img len z = (says-shaped img).yes (unless-zero (shaped_b img) 0 (first-both (unless (shaped_b img) 1) _ z).0)

pub recover-room : (img : List ℕ) (len : ℕ) → recover_fault img len ≡ 0 → 48 ≤ len
unfolding recover_fault
recover-room img len z =
    leb-true _ _ (unless-zero (room_for len) 2 (first-both (unless (room_for len) 3) _ (first-both (unless (shaped_b img) 1) _ z).1).0)

-- it is one of the slots, or their number
pub unsound-most : (img : List ℕ) → unsound_place img ≤ slots_of img
unfolding unsound_place
unsound-most img = lowest-most _ (slots_of img)

-- what the answer of the checks says
pub logs-checked : (img : List ℕ) (len : ℕ) (a : Answer ⊤) → a ≡ logs_answer img len
    → MatchResult a (λ x. recover_fault img len ≡ 0) (λ r. (recover_fault img len ≡ 0 → ⊥) × (r ≡ recover_cause img (recover_fault img len)))
unfolding answered
logs-checked img len a e = rw e (go (recover_fault img len))
  where
    go : (k : ℕ) → MatchResult {T = ⊤} (answered k (λ j. Err (recover_cause img j)) (Ok tt)) (λ x. k ≡ 0) (λ r. (k ≡ 0 → ⊥) × (r ≡ recover_cause img k))
    go zero = refl
    go (suc k) = (λ z. omega (arith, z), refl)

-- what the search for the oldest log says
pub oldest-some : (best : Oldest) {o : Oldest} → Some o ≡ some_oldest best → (best.number ≡ 0 → ⊥) × (o ≡ best)
oldest-some best {o} e =
    by-test (eqb best.number 0)
    (λ t. absurd (none-some o (sym (rw t at e))))
    (λ f. (eqb-false _ _ f, same_Some _ _ (rw f at e)))

pub oldest-none : (best : Oldest) → None ≡ some_oldest best → best.number ≡ 0
oldest-none best e = by-test (eqb best.number 0) (λ t. eqb-true _ _ t) (λ f. absurd (none-some best (rw f at e)))

-- of a refusal the reply gives the refusal
pub refused-gives : (img : List ℕ) (k : ℕ) → recovered_by (recover_refused img k) ≡ Err (recover_cause img k)
unfolding recover_refused
refused-gives img k = by-test (eqb k 12) (λ t. rw t) (λ f. rw f)

-- the reply of what is given
abbrev pub reply_by : Answer (Option ℕ × ℕ) → RecoverReply
reply_by (Ok (x, n)) = record { answer = Ok x; entries = n }
reply_by (Err r) = record { answer = Err r; entries = 0 }

pub recover-whole : (img : List ℕ) (len : ℕ) → reply_by (recovered_by (recover_reply img len)) ≡ recover_reply img len
unfolding recover_reply recover_refused answered
recover-whole img len = go (recover_fault img len)
  where
    go : (k : ℕ) → reply_by (recovered_by (answered k (recover_refused img) (recover_done img))) ≡ answered k (recover_refused img) (recover_done img)
    go zero = by-test (clean_b img) (λ t. rw t) (λ f. rw f)
    go (suc k) = by-test (eqb (suc k) 12) (λ t. rw t) (λ f. rw f)

pub recover-refused : (img : List ℕ) (len k : ℕ) → k ≡ recover_fault img len → (k ≡ 0 → ⊥) → Recovers img len (recover_refused img k) []
unfolding recover_reply recover_entries
recover-refused img len k e n =
    record {
      replies = answered-not _ (recover_refused img) _ (λ z. n (e ∙ z)) ∙ ap (recover_refused img) (sym e);
      lists = answered-not _ (λ _. []) _ (λ z. n (e ∙ z));
    }

-- past the checks, n records and the oldest log b
pub record Found (img : List ℕ) (len n : ℕ) (b : Oldest) : Type 0 where
  pub passed : recover_fault img len ≡ 0
  pub records : n ≡ records_of img
  pub log : b ≡ first_log img

pub found : (img : List ℕ) (len n m : ℕ) (b : Oldest) → recover_fault img len ≡ 0 → n ≡ records_of img → m ≡ sessions_of img
    → b ≡ oldest_of (persist_at img n) (2 * m) → Found img len n b
unfolding first_log
found img len n m b z e g h = record { passed = z; records = e; log = h ∙ rw (e, g) }

-- what holds of n, the log b and the trace where b is replayed
pub record Taken (img : List ℕ) (len n : ℕ) (b : Oldest) : Type 0 where
  pub n-high : n ≤ 256
  pub low : b.place ≤ 32
  pub room : 48 ≤ len
  pub inside : slot_at n b.place < length img
  pub homes : 4 + 4 * n ≤ length img
  pub few : pairs_of (slot_word img n b.place) ≤ 9
  pub passed : unsound_b n (slot_word img n b.place) ≡ false
  pub occupied : slot_word img n b.place 0 ≡ 0 → ⊥

module _ {img : List ℕ} {len n : ℕ} {b : Oldest} (f : Found img len n b) where
  -- the image is clean
  pub recover-clean : b.number ≡ 0 → Recovers img len (record { answer = Ok None; entries = 0 }) []
  unfolding recover_reply recover_entries
  recover-clean e =
      let q : clean_b img ≡ true = eq-eqb _ _ (sym (ap (λ (o : Oldest). o.number) f.log) ∙ e) in
      record {
        replies = answered-zero _ (recover_refused img) _ f.passed ∙ rw q;
        lists = answered-zero _ (λ _. []) _ f.passed ∙ rw q;
      }

  module _ (u : b.number ≡ 0 → ⊥) where
    occupied : clean_b img ≡ false
    occupied = ne_eqb _ _ (λ y. u (ap (λ (o : Oldest). o.number) f.log ∙ y))

    pub taken : Taken img len n b
    unfolding first_log
    taken =
        let s = recover-shaped img len f.passed in
        let d = taken-passed img len f.passed occupied in
        let p = (oldest-is (persist_at img (records_of img)) (slots_of img)).some (λ y. u (ap (λ (o : Oldest). o.number) f.log ∙ y)) in
        rw (f.log, f.records)
        (record {
          n-high = s.range.n-high;
          low = omega (arith, s.range.m-high, p.0);
          room = recover-room img len f.passed;
          inside = omega (arith, s.size, p.0);
          homes = omega (arith, s.size);
          few = pairs-few (records_of img) _ (taken-sound img len f.passed occupied);
          passed = d.0;
          occupied = d.1;
        })

    -- the log is replayed
    pub recover-replays : (slot : ℕ) → slot ≡ slot_at n b.place
        → Recovers img len (record { answer = Ok (Some b.number); entries = replay_length (slot_word img n b.place) })
        (stores (denoted (slot_word img n b.place)) ++ (fence ∷ store slot 0 ∷ fence ∷ []))
    unfolding recover_reply recover_entries
    recover-replays slot i =
        record {
          replies = answered-zero _ (recover_refused img) _ f.passed ∙ rw (occupied, f.log, f.records);
          lists = answered-zero _ (λ _. []) _ f.passed ∙ rw (occupied, i, f.log, f.records);
        }
