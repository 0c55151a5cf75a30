-- Every list of entries of finish, settle and reclaim is tidy.
use Prim.Native.Nat.{ℕ, ◌+◌, ◌*◌}
use mathlib.Core.Bool.{or-true}
use mathlib.Core.Path.{◌≡◌, refl, sym, ◌∙◌}
use mathlib.Core.List.{List, [], ◌∷◌}
use native.Mathlib.Omega.{arith}
use lib.ListN.{length, length-append}
use lib.Dec.{eqb}
use borrow.Author.Tests.{eqb-false}
use Rattle.layout.specs.Entries.{Entry, fence, Write, stores}
use Rattle.layout.specs.Homes.{homes_writes}
use Rattle.layout.specs.Checks.{room_for}
use Rattle.layout.specs.Image.{home_words, place_of, slot_at}
use Rattle.layout.specs.Tidy.{Tidy}
use Rattle.layout.proofs.ChecksLaws.{first-both, unless-zero}
use Rattle.layout.proofs.TraceLaws.{length_shift}
use Rattle.layout.proofs.TidyLaws.{tidy-none, tidy-cond, tidy-answered, tidy-list}
use Rattle.layout.proofs.Groups.{homes-distinct, length-homes, length-stores, once-group, once-shift, ends-append, ends-shift}
use Rattle.journal.specs.Lengths.{settle_length, seal_length}
use Rattle.journal.specs.Log.{index_in, word_in, log_entries}
use Rattle.journal.proofs.LengthLaws.{settle-formula}
use Rattle.journal.proofs.LogGroups.{either-counted, either-few, either-once, either-ends}
use Rattle.desk.specs.Desk.{copied_rec, copied_words, session_at, is_sealed, is_published}
use Rattle.desk.specs.Entering.{image_fault}
use Rattle.desk.specs.declared.state.Desk.{Desk}
use Rattle.desk.proofs.Copied.{copies-four, copies-some, copies-differ}
use Rattle.desk.proofs.Entered.{entered}
use Rattle.commit.specs.Finish.{finish_fault, finish_entries, changed_words, seal_entries, finish_refused, finish_reply}
use Rattle.commit.specs.Settle.{settle_fault, settle_entries, go_home_entries, waits_b, settle_refused, settle_reply}
use Rattle.commit.specs.Reclaim.{reclaim_fault, reclaim_entries, clear_entries, none_left, held_b, reclaim_refused, reclaim_reply}
use Rattle.std.specs.Prelude.{Option}
use Rattle.desk.specs.declared.reply.StoringReply.{StoringReply}
use Rattle.commit.specs.declared.reclaiming.Reclaimed.{Reclaimed}

pub finish-tidy : (img : List ℕ) (d : Desk) (len s : ℕ) → Tidy (finish_fault img d len s) (finish_reply img d len s).entries (finish_entries img d len s)
unfolding finish_reply finish_entries finish_fault
finish-tidy img d len s =
    tidy-answered (λ (r : StoringReply (Option ℕ)). r.entries) (finish_fault img d len s) (finish_refused d) _ _ (λ k. refl)
    (λ z. tidy-cond (λ (r : StoringReply (Option ℕ)). r.entries) (eqb (session_at d s).count 0) _ _ [] (seal_entries img d s) (λ e. tidy-none 0 refl) (λ e. seals z (eqb-false _ _ e)))
  where
    base : ℕ
    base = slot_at d.n (place_of s (session_at d s).slot)

    ws : List Write
    ws = changed_words img d s

    log : List Entry
    log = log_entries d.n (home_words img) d.clock (copied_rec (session_at d s)) (copied_words (session_at d s)) (session_at d s).count

    seals : finish_fault img d len s ≡ 0 → ((session_at d s).count ≡ 0 → ⊥) → Tidy 0 (seal_length (length (changed_words img d s)) (session_at d s).count) (seal_entries img d s)
    seals z n =
        let e = entered img d (room_for len) s (first-both (image_fault img d (room_for len) s) _ z).0 in
        let few = copies-four d e.coherent s e.small in
        let long = length_shift base log in
        tidy-list _ (seal_entries img d s)
        (either-counted (index_in ws) (word_in ws) (length ws) (copied_rec (session_at d s)) (copied_words (session_at d s)) (session_at d s).count d.clock (omega (arith, n)) few ∙ sym long)
        (omega (arith, long, either-few (index_in ws) (word_in ws) (length ws) (copied_rec (session_at d s)) (copied_words (session_at d s)) (session_at d s).count d.clock few))
        (once-shift base log ∙ either-once (index_in ws) (word_in ws) (length ws) (copied_rec (session_at d s)) (copied_words (session_at d s)) (session_at d s).count d.clock)
        (ends-shift base log ∙ either-ends (index_in ws) (word_in ws) (length ws) (copied_rec (session_at d s)) (copied_words (session_at d s)) (session_at d s).count d.clock)

pub settle-length : (d : Desk) (s : ℕ) → length (go_home_entries d s) ≡ 4 * (session_at d s).count + 1
settle-length d s =
    let ws = homes_writes (copied_rec (session_at d s)) (copied_words (session_at d s)) (session_at d s).count in
    omega (
      arith,
      length-append (stores ws) (fence ∷ []),
      length-stores ws,
      length-homes (copied_rec (session_at d s)) (copied_words (session_at d s)) (session_at d s).count,
    )

pub settle-tidy : (img : List ℕ) (d : Desk) (len s : ℕ) → Tidy (settle_fault img d len s) (settle_reply img d len s).entries (settle_entries img d len s)
unfolding settle_reply settle_entries settle_fault
settle-tidy img d len s =
    tidy-answered (λ (r : StoringReply (Option ℕ)). r.entries) (settle_fault img d len s) (settle_refused d) _ _ (λ k. refl)
    (λ z. tidy-cond (λ (r : StoringReply (Option ℕ)). r.entries) (waits_b d s) _ _ [] (go_home_entries d s) (λ e. tidy-none 0 refl) (λ e. settles z))
  where
    ws : List Write
    ws = homes_writes (copied_rec (session_at d s)) (copied_words (session_at d s)) (session_at d s).count

    settles : settle_fault img d len s ≡ 0 → Tidy 0 (settle_length (session_at d s).count) (go_home_entries d s)
    settles z =
        let b = first-both (image_fault img d (room_for len) s) _ z in
        let e = entered img d (room_for len) s b.0 in
        let few = copies-four d e.coherent s e.small in
        let some = copies-some d e.coherent s e.small (rw (unless-zero (is_published (session_at d s).phase) 5 b.1) (or-true (is_sealed (session_at d s).phase))) in
        tidy-list _ (go_home_entries d s)
        (settle-formula (session_at d s).count some few ∙ sym (settle-length d s))
        (omega (arith, settle-length d s, few))
        (once-group ws [] (homes-distinct (copied_rec (session_at d s)) (copied_words (session_at d s)) (session_at d s).count (copies-differ d e.coherent s e.small)) refl)
        (ends-append (stores ws) fence [] refl)

pub reclaim-tidy : (img : List ℕ) (d : Desk) (len s : ℕ) → Tidy (reclaim_fault img d len s) (reclaim_reply img d len s).entries (reclaim_entries img d len s)
unfolding reclaim_reply reclaim_entries
reclaim-tidy img d len s =
    tidy-answered (λ (r : StoringReply Reclaimed). r.entries) (reclaim_fault img d len s) (reclaim_refused d) _ _ (λ k. refl)
    (λ z. tidy-cond (λ (r : StoringReply Reclaimed). r.entries) (none_left img d s) _ _ [] _ (λ e. tidy-none 0 refl)
    (λ e. tidy-cond (λ (r : StoringReply Reclaimed). r.entries) (held_b img d s) _ _ [] (clear_entries img d s) (λ e. tidy-none 0 refl)
    (λ e. tidy-list _ (clear_entries img d s) refl (omega arith) refl refl)))
