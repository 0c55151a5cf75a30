-- Group publish, case by case, and that its list of entries is tidy.
use Prim.Native.Nat.{ℕ, zero, suc, ◌+◌, ◌≤◌}
use mathlib.Core.Bool.{true, false, ◌&&◌}
use mathlib.Core.Path.{◌≡◌, refl, sym, ap, ◌∙◌}
use mathlib.Core.List.{List, []}
use native.Mathlib.Numerals.{add-one}
use borrow.Author.Tests.{lt-ltb}
use Rattle.layout.specs.Ceiling.{pass_entries}
use Rattle.layout.specs.Checks.{unless, first, room_for}
use Rattle.layout.specs.Entries.{Entry}
use Rattle.layout.specs.Tidy.{Tidy}
use Rattle.layout.proofs.CeilingLaws.{pass-tidy}
use Rattle.layout.proofs.ChecksLaws.{answered-refused, answered-next, answered-done, first-most, unless-most}
use Rattle.layout.proofs.Says.{by-test, says-and, says-itself}
use Rattle.layout.proofs.TidyLaws.{tidy-answered}
use Rattle.desk.specs.Coherent.{coherent_b}
use Rattle.desk.specs.Desk.{session_at, with_phase, put_session}
use Rattle.desk.specs.Entering.{agrees_b, entry_fault, image_fault}
use Rattle.desk.specs.Group.{member, store_fault, set_fault, published_below, group_fault, group_entries, grouped, group_reply, group_said}
use Rattle.desk.specs.Publish.{publish_refused}
use Rattle.desk.specs.Replies.{storing_reply, given_by}
use Rattle.desk.specs.Told.{publish_told}
use Rattle.desk.specs.declared.state.Phase.TheVariants.{Published}
use Rattle.desk.specs.declared.state.Session.{Session}
use Rattle.desk.specs.declared.state.Desk.{Desk}
use Rattle.desk.specs.declared.reply.StoringReply.{StoringReply}
use Rattle.desk.proofs.Facts.{says-coherent}
use Rattle.desk.proofs.Entered.{entry-most}
use Rattle.desk.proofs.ReplyLaws.{reply-whole}
use Rattle.layout.proofs.ToldLaws.{told-by}
use Rattle.layout.specs.Told.{ended_at}
use native.Mathlib.Omega.{arith}

-- ---- the second pass, at session s

-- a desk with other sessions
abbrev pub with_sessions : Desk → List Session → Desk
with_sessions d xs = record { clock = d.clock; n = d.n; m = d.m; holders = d.holders; sessions = xs; order = d.order }

module _ (d : Desk) (set e s : ℕ) {x : Desk} (before : x ≡ with_sessions d (published_below d.sessions set e s)) where
  pub published-member : member s set ≡ true
      → put_session x s (with_phase (session_at x s) (Published e)) ≡ with_sessions d (published_below d.sessions set e (s + 1))
  unfolding published_below
  published-member y = rw (add-one s, y, before) refl

  pub published-other : member s set ≡ false → x ≡ with_sessions d (published_below d.sessions set e (s + 1))
  unfolding published_below
  published-other n = rw (add-one s, n) before

-- ---- the checks of a call without a session: session 0 of a coherent desk is below M

first-nothing : (a : ℕ) → first a 0 ≡ a
unfolding first
first-nothing zero = refl
first-nothing (suc k) = refl

pub store-checks : (img : List ℕ) (d : Desk) (len : ℕ) → image_fault img d (room_for len) 0 ≡ store_fault img d len
unfolding entry_fault store_fault first
store-checks img d len =
    by-test (coherent_b d && agrees_b img d.clock d.n d.m)
    (λ e.
    let m = ((says-coherent d).yes ((says-and (says-itself (coherent_b d)) (says-itself (agrees_b img d.clock d.n d.m))).yes e).0).m-low in
    rw (e, lt-ltb 0 d.m m, first-nothing (unless (room_for len) 3)) refl)
    (λ e. rw e refl)

-- ---- what it answers, and what it lists

pub record Groups (img : List ℕ) (d : Desk) (len set : ℕ) (reply : StoringReply ℕ) (entries : List Entry) : Type 0 where
  pub replies : group_reply img d len set ≡ reply
  pub lists : group_entries img d len set ≡ entries

module _ (img : List ℕ) (d : Desk) (len set : ℕ) where
  -- refused by 1, 2 or 3
  pub group-refused : (k : ℕ) → k ≡ image_fault img d (room_for len) 0 → (k ≡ 0 → ⊥) → Groups img d len set (publish_refused d k) []
  unfolding group_reply group_entries group_fault
  group-refused k e n =
      let q : k ≡ store_fault img d len = e ∙ store-checks img d len in
      record {
        replies = answered-refused _ _ (publish_refused d) _ (λ z. n (q ∙ z)) ∙ ap (publish_refused d) (sym q);
        lists = answered-refused _ _ (λ _. []) _ (λ z. n (q ∙ z));
      }

  module _ (z : image_fault img d (room_for len) 0 ≡ 0) where
    passed : store_fault img d len ≡ 0
    passed = sym (store-checks img d len) ∙ z

    -- by 19, 4 or 6
    pub group-turned : (k : ℕ) → k ≡ set_fault d set → (k ≡ 0 → ⊥) → Groups img d len set (publish_refused d k) []
    unfolding group_reply group_entries group_fault
    group-turned k e n =
        record {
          replies = answered-next _ _ (publish_refused d) _ passed (λ y. n (e ∙ y)) ∙ ap (publish_refused d) (sym e);
          lists = answered-next _ _ (λ _. []) _ passed (λ y. n (e ∙ y));
        }

    -- published
    pub group-ends : set_fault d set ≡ 0 → Groups img d len set (grouped img d set) (pass_entries img (d.clock + 1))
    unfolding group_reply group_entries group_fault
    group-ends e =
        record {
          replies = answered-done _ _ (publish_refused d) _ passed e;
          lists = answered-done _ _ (λ _. []) _ passed e;
        }

  set-most : set_fault d set ≤ 20
  unfolding set_fault
  set-most = first-most 20 _ _ (unless-most 20 _ 19 (omega arith)) (first-most 20 _ _ (unless-most 20 _ 4 (omega arith)) (unless-most 20 _ 6 (omega arith)))

  group-most : group_fault img d len set ≤ 20
  unfolding group_fault
  group-most = first-most 20 _ _ (omega (arith, store-checks img d len, entry-most img d (room_for len) 0)) set-most

  pub group-told : publish_told (group_reply img d len set).answer ≡ group_said img d len set
  unfolding group_reply group_said
  group-told =
      told-by (λ (r : StoringReply ℕ). r.answer) ended_at (group_fault img d len set) (publish_refused d) (grouped img d set) group-most (λ k. refl) refl

  -- made again of its answer with the entries, and its desk
  pub group-whole : storing_reply (given_by (group_reply img d len set)) (group_reply img d len set).desk ≡ group_reply img d len set
  unfolding group_reply
  group-whole = reply-whole (group_fault img d len set) (publish_refused d) (grouped img d set) (λ k. refl) refl

  pub group-tidy : Tidy (group_fault img d len set) (group_reply img d len set).entries (group_entries img d len set)
  unfolding group_reply group_entries
  group-tidy =
      tidy-answered (λ (r : StoringReply ℕ). r.entries) (group_fault img d len set) (publish_refused d) _ _ (λ k. refl) (λ z. pass-tidy img (d.clock + 1))
