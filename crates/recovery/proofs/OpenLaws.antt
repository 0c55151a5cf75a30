-- Open, case by case, and what holds past its checks.
use Prim.Native.Nat.{ℕ, ◌+◌, ◌*◌, ◌≤◌, ◌<◌}
use mathlib.Core.Bool.{false, not}
use mathlib.Core.Path.{◌≡◌, refl, sym, ap, ◌∙◌}
use mathlib.Core.List.{List, []}
use lib.Dec.{ltb}
use Rattle.std.specs.Prelude.{⊤}
use borrow.Author.Tests.{leb-true, ltb-true, not-true}
use Rattle.layout.specs.Ceiling.{raise_entries}
use Rattle.layout.specs.Checks.{unless, room_for}
use Rattle.layout.specs.Entries.{Entry}
use Rattle.layout.specs.Image.{records_of, sessions_of, ceiling_of, shaped_b, occupied_b}
use Rattle.layout.specs.Tidy.{Tidy}
use Rattle.layout.proofs.CeilingLaws.{raise-tidy}
use Rattle.layout.proofs.ChecksLaws.{first-both, unless-zero, answered-zero, answered-not}
use Rattle.layout.proofs.Shape.{Shaped, says-shaped}
use Rattle.layout.proofs.TidyLaws.{tidy-answered}
use Rattle.desk.specs.Coherent.{limit}
use Rattle.recovery.specs.Open.{open_fault, open_entries, open_refused, opened, open_reply}
use Rattle.desk.specs.declared.reply.StoringReply.{StoringReply}

-- what open answers, and what it lists
pub record Opens (img : List ℕ) (len : ℕ) (reply : StoringReply ⊤) (entries : List Entry) : Type 0 where
  pub replies : open_reply img len ≡ reply
  pub lists : open_entries img len ≡ entries

-- past the checks
pub record Openable (img : List ℕ) (len : ℕ) : Type 0 where
  pub shaped : Shaped img
  pub room : 48 ≤ len
  pub empty : occupied_b img (records_of img) (2 * sessions_of img) ≡ false
  pub below : ceiling_of img < limit

pub openable : (img : List ℕ) (len : ℕ) → open_fault img len ≡ 0 → Openable img len
unfolding open_fault
openable img len z =
    let a = first-both (unless (shaped_b img) 1) _ z in
    let b = first-both (unless (room_for len) 3) _ a.1 in
    let c = first-both (unless (not (occupied_b img (records_of img) (2 * sessions_of img))) 11) _ b.1 in
    record {
      shaped = (says-shaped img).yes (unless-zero (shaped_b img) 0 a.0);
      room = leb-true _ _ (unless-zero (room_for len) 2 b.0);
      empty = not-true _ (unless-zero (not (occupied_b img (records_of img) (2 * sessions_of img))) 10 c.0);
      below = ltb-true _ _ (unless-zero (ltb (ceiling_of img) limit) 9 c.1);
    }

pub open-refused : (img : List ℕ) (len k : ℕ) → k ≡ open_fault img len → (k ≡ 0 → ⊥) → Opens img len (open_refused k) []
unfolding open_reply open_entries
open-refused img len k e n =
    record {
      replies = answered-not _ open_refused _ (λ z. n (e ∙ z)) ∙ ap open_refused (sym e);
      lists = answered-not _ (λ _. []) _ (λ z. n (e ∙ z));
    }

pub open-opens : (img : List ℕ) (len : ℕ) → open_fault img len ≡ 0 → Opens img len (opened img) (raise_entries (ceiling_of img + 1))
unfolding open_reply open_entries
open-opens img len z = record { replies = answered-zero _ open_refused _ z; lists = answered-zero _ (λ _. []) _ z }

pub open-tidy : (img : List ℕ) (len : ℕ) → Tidy (open_fault img len) (open_reply img len).entries (open_entries img len)
unfolding open_reply open_entries
open-tidy img len =
    tidy-answered (λ (r : StoringReply ⊤). r.entries) (open_fault img len) open_refused _ _ (λ k. refl) (λ z. raise-tidy (ceiling_of img + 1))
