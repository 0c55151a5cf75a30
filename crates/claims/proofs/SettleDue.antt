-- Settle gives what is due.
use Prim.Native.Nat.{ℕ, zero, suc, ◌+◌, ◌*◌}
use mathlib.Core.Bool.{false, false≢true}
use mathlib.Core.Path.{◌≡◌, refl, sym, ap, ◌∙◌}
use mathlib.Core.List.{List, [], ◌∷◌}
use native.Mathlib.Omega.{arith}
use lib.ListN.{length, length-append}
use Rattle.std.specs.Prelude.{Option}
use Rattle.layout.specs.Checks.{answered}
use Rattle.layout.specs.Entries.{store, fence, Write, stores}
use Rattle.layout.specs.Homes.{homes_writes}
use Rattle.layout.specs.Told.{ok, is_refusal, is, Ok}
use Rattle.layout.proofs.ChecksLaws.{answered-zero}
use Rattle.layout.proofs.Groups.{length-homes, length-stores}
use Rattle.layout.proofs.Says.{by-test}
use Rattle.journal.proofs.Positions.{copy-home}
use Rattle.desk.specs.Desk.{copied_rec, copied_words, session_at}
use Rattle.desk.specs.declared.reply.StoringReply.{StoringReply}
use Rattle.desk.specs.declared.state.Desk.{Desk}
use Rattle.commit.specs.Settle.{settle_fault, waits_b, go_home_entries, settle_entries, settle_refused, settle_done, settle_reply}
use Rattle.commit.specs.Told.{settle_told}
use Rattle.history.specs.Call.{settle}
use Rattle.claims.specs.Rules.{store_rules}
use Rattle.claims.specs.SettleDue.{GoesHome, SettleDue}
use Rattle.claims.proofs.ByEntry.{entry-stored, entry-behind}
use Rattle.claims.proofs.Lists.{lists}

passed : (d : Desk) (x : StoringReply (Option ℕ)) (k : ℕ) → settle_told (answered k (settle_refused d) x).answer ≡ ok → k ≡ 0
unfolding answered
passed d x zero e = refl
passed d x (suc k) e = absurd (false≢true (sym (ap is_refusal e)))

goes : (d : Desk) (s : ℕ) → settle_told (settle_done d s).answer ≡ ok → waits_b d s ≡ false
goes d s e = by-test (waits_b d s) (λ t. absurd (false≢true (ap (is Ok) (rw t at e)))) (λ f. f)

module _ (img : List ℕ) (d : Desk) (len s : ℕ) (z : settle_fault img d len s ≡ 0) (w : waits_b d s ≡ false) where
  abbrev ws : List Write
  ws = homes_writes (copied_rec (session_at d s)) (copied_words (session_at d s)) (session_at d s).count

  long : length ws ≡ 4 * (session_at d s).count
  long = length-homes (copied_rec (session_at d s)) (copied_words (session_at d s)) (session_at d s).count

  entries : (store_rules.call img d (settle len s)).entries ≡ go_home_entries d s
  unfolding settle_entries
  entries = answered-zero (settle_fault img d len s) _ _ z ∙ rw w

  goes-home : GoesHome d s (store_rules.call img d (settle len s))
  goes-home =
      record {
        words = λ j m l h. rw entries
            (entry-stored ws (fence ∷ []) (4 * j + m) (omega (arith, long, l, h))
            ∙ ap (λ (x : Write). store x.0 x.1) (copy-home (copied_rec (session_at d s)) (copied_words (session_at d s)) (session_at d s).count j m l h));
        last = let i : 4 * (session_at d s).count ≡ length ws + 0 = omega (arith, long) in rw (entries, i) (entry-behind ws (fence ∷ []) 0);
        size = rw entries (length-append (stores ws) (fence ∷ []) ∙ ap (λ n. n + 1) (length-stores ws ∙ long));
        count = (lists.settle img d len s).counted;
      }

pub settle-due : SettleDue store_rules
unfolding settle_reply
settle-due img d len s e =
    let z = passed d (settle_done d s) (settle_fault img d len s) e in
    goes-home img d len s z (goes d s (sym (ap (λ (r : StoringReply (Option ℕ)). settle_told r.answer) (answered-zero (settle_fault img d len s) _ _ z)) ∙ e))
