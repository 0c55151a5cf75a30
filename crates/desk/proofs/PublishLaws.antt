-- Publish, case by case, and that its list of entries is tidy.
use Prim.Native.Nat.{ℕ, ◌+◌}
use mathlib.Core.Bool.{true, false}
use mathlib.Core.Path.{◌≡◌, refl, sym, ap, ◌∙◌}
use mathlib.Core.List.{List, []}
use native.Mathlib.Omega.{arith}
use Rattle.layout.specs.Ceiling.{pass_entries}
use Rattle.layout.specs.Checks.{room_for}
use Rattle.layout.specs.Entries.{Entry}
use Rattle.layout.specs.Tidy.{Tidy}
use Rattle.layout.proofs.ChecksLaws.{answered-refused, answered-next, answered-done}
use Rattle.layout.proofs.CeilingLaws.{pass-tidy}
use Rattle.layout.proofs.TidyLaws.{tidy-answered}
use Rattle.desk.specs.Desk.{session_at, is_sealed}
use Rattle.desk.specs.Entering.{image_fault}
use Rattle.desk.specs.Publish.{publish_fault, publish_entries, publish_refused, published, publish_reply}
use Rattle.desk.specs.Replies.{storing_reply, given_by}
use Rattle.desk.specs.declared.state.Desk.{Desk}
use Rattle.desk.specs.declared.reply.StoringReply.{StoringReply}
use Rattle.desk.proofs.ReplyLaws.{reply-whole}

-- what publish answers, and what it lists
pub record Publishes (img : List ℕ) (d : Desk) (len s : ℕ) (reply : StoringReply ℕ) (entries : List Entry) : Type 0 where
  pub replies : publish_reply img d len s ≡ reply
  pub lists : publish_entries img d len s ≡ entries

module _ (img : List ℕ) (d : Desk) (len s : ℕ) where
  -- refused by 1 to 4
  pub publish-refused : (k : ℕ) → k ≡ image_fault img d (room_for len) s → (k ≡ 0 → ⊥) → Publishes img d len s (publish_refused d k) []
  unfolding publish_reply publish_entries publish_fault
  publish-refused k e n =
      record {
        replies = answered-refused _ _ (publish_refused d) _ (λ z. n (e ∙ z)) ∙ ap (publish_refused d) (sym e);
        lists = answered-refused _ _ (λ _. []) _ (λ z. n (e ∙ z));
      }

  module _ (z : image_fault img d (room_for len) s ≡ 0) where
    -- by 6
    pub publish-busy : is_sealed (session_at d s).phase ≡ false → Publishes img d len s (publish_refused d 6) []
    unfolding publish_reply publish_entries publish_fault
    publish-busy e =
        record {
          replies = rw e (answered-next _ 6 (publish_refused d) _ z (λ y. omega arith));
          lists = rw e (answered-next _ 6 (λ _. []) _ z (λ y. omega arith));
        }

    -- published
    pub publish-ends : is_sealed (session_at d s).phase ≡ true → Publishes img d len s (published img d s) (pass_entries img (d.clock + 1))
    unfolding publish_reply publish_entries publish_fault
    publish-ends e =
        record {
          replies = rw e (answered-done _ 0 (publish_refused d) _ z refl);
          lists = rw e (answered-done _ 0 (λ _. []) _ z refl);
        }

-- the reply is made again of what it gives
pub publish-whole : (img : List ℕ) (d : Desk) (len s : ℕ) → storing_reply (given_by (publish_reply img d len s)) (publish_reply img d len s).desk ≡ publish_reply img d len s
unfolding publish_reply
publish-whole img d len s = reply-whole (publish_fault img d len s) (publish_refused d) (published img d s) (λ k. refl) refl

pub publish-tidy : (img : List ℕ) (d : Desk) (len s : ℕ) → Tidy (publish_fault img d len s) (publish_reply img d len s).entries (publish_entries img d len s)
unfolding publish_reply publish_entries
publish-tidy img d len s =
    tidy-answered (λ (r : StoringReply ℕ). r.entries) (publish_fault img d len s) (publish_refused d) _ _ (λ k. refl) (λ z. pass-tidy img (d.clock + 1))
