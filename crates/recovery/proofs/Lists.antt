-- Every list of entries of recover is tidy.
use Prim.Native.Nat.{ℕ, ◌+◌}
use mathlib.Core.Bool.{Bool, true, false, cond}
use mathlib.Core.Path.{◌≡◌, refl, sym, ◌∙◌}
use mathlib.Core.List.{List, [], ◌∷◌}
use native.Mathlib.Omega.{arith}
use lib.ListN.{length, length-append}
use lib.Dec.{eqb}
use Rattle.std.specs.Prelude.{Err}
use borrow.Author.Tests.{eqb-true, eqb-false}
use Rattle.layout.specs.Checks.{unless, room_for}
use Rattle.layout.specs.Entries.{store, fence, stores}
use Rattle.layout.specs.Image.{records_of, slot_at, persist_at, shaped_b}
use Rattle.layout.specs.Tidy.{Tidy}
use Rattle.layout.proofs.BelowLaws.{lowest-none}
use Rattle.layout.proofs.ChecksLaws.{first-both, unless-zero}
use Rattle.layout.proofs.TidyLaws.{tidy-none, tidy-cond, tidy-answered, tidy-list}
use Rattle.layout.proofs.Groups.{length-stores, once-group, ends-append}
use Rattle.journal.specs.Lengths.{replay_length}
use Rattle.journal.specs.Log.{denoted, unsound_b, Sound}
use Rattle.layout.proofs.Least.{oldest-is}
use Rattle.journal.proofs.DenotedLaws.{denoted-distinct, denoted-few, replay-counted}
use Rattle.journal.proofs.LogFacts.{sound-of}
use Rattle.recovery.specs.Recover.{slots_of, log_at, unsound_place, recover_fault, first_log, clean_b, recover_entries, replay_entries, recover_refused, recover_reply}
use Rattle.recovery.specs.declared.recovering.RecoverReply.{RecoverReply}
use Rattle.layout.specs.Refusal.{cause}
use Rattle.layout.specs.declared.refusal.Refusal.TheVariants.{LogUnsound}

replay-length : (img : List ℕ) (p : ℕ) → length (replay_entries img p) ≡ length (denoted (log_at img p)) + 3
replay-length img p =
    omega (
      arith,
      length-append (stores (denoted (log_at img p))) (fence ∷ store (slot_at (records_of img) p) 0 ∷ fence ∷ []),
      length-stores (denoted (log_at img p)),
    )

-- the log that is taken has passed check 12
pub taken-passed : (img : List ℕ) (len : ℕ) → recover_fault img len ≡ 0 → clean_b img ≡ false
    → (unsound_b (records_of img) (log_at img (first_log img).place) ≡ false) × (log_at img (first_log img).place 0 ≡ 0 → ⊥)
unfolding recover_fault first_log unsound_place
taken-passed img len z u =
    let a = first-both (unless (shaped_b img) 1) _ z in
    let b = first-both (unless (room_for len) 3) _ a.1 in
    let c = first-both (unless (eqb (unsound_place img) (slots_of img)) 12) _ b.1 in
    let o = oldest-is (persist_at img (records_of img)) (slots_of img) in
    let q = o.some (eqb-false _ _ u) in (
      lowest-none (λ p. unsound_b (records_of img) (log_at img p)) (slots_of img) (eqb-true _ _ (unless-zero _ 11 c.0)) (first_log img).place q.0,
      λ e. eqb-false _ _ u (sym q.1 ∙ e),
    )

-- so it is sound
pub taken-sound : (img : List ℕ) (len : ℕ) → recover_fault img len ≡ 0 → clean_b img ≡ false → Sound (records_of img) (log_at img (first_log img).place)
taken-sound img len z u = let p = taken-passed img len z u in sound-of (records_of img) (log_at img (first_log img).place) p.0 p.1

pub recover-tidy : (img : List ℕ) (len : ℕ) → Tidy (recover_fault img len) (recover_reply img len).entries (recover_entries img len)
unfolding recover_reply recover_entries recover_refused
recover-tidy img len =
    tidy-answered (λ (r : RecoverReply). r.entries) (recover_fault img len) (recover_refused img) _ _ (λ k. none-refused (eqb k 12) k)
    (λ z. tidy-cond (λ (r : RecoverReply). r.entries) (clean_b img) _ _ [] (replay_entries img (first_log img).place) (λ e. tidy-none 0 refl) (λ e. replays (taken-sound img len z e)))
  where
    none-refused : (b : Bool) (k : ℕ) → (cond {A = RecoverReply} b (record { answer = Err (LogUnsound (unsound_place img)); entries = 0 }) (record { answer = Err (cause k); entries = 0 })).entries ≡ 0
    none-refused true k = refl
    none-refused false k = refl

    place : ℕ
    place = (first_log img).place

    replays : Sound (records_of img) (log_at img place) → Tidy 0 (replay_length (log_at img place)) (replay_entries img place)
    replays h =
        tidy-list _ (replay_entries img place)
        (replay-counted (records_of img) (log_at img place) h ∙ sym (replay-length img place))
        (omega (arith, replay-length img place, denoted-few (records_of img) (log_at img place) h))
        (once-group (denoted (log_at img place)) (store (slot_at (records_of img) place) 0 ∷ fence ∷ []) (denoted-distinct (records_of img) (log_at img place) h) refl)
        (ends-append (stores (denoted (log_at img place))) fence (store (slot_at (records_of img) place) 0 ∷ fence ∷ []) refl)
