-- Reclaim, case by case.
use Prim.Native.Nat.{ℕ, zero, suc, ◌*◌, ◌<◌, ◌≤◌}
use mathlib.Core.Path.{◌≡◌, sym, ap, ◌∙◌}
use mathlib.Core.List.{List, [], ◌∷◌}
use borrow.Author.Tests.{lt-ltb, le-ltb, eq-eqb, ne_eqb}
use Rattle.layout.specs.Checks.{answered}
use Rattle.layout.proofs.ChecksLaws.{answered-zero, answered-not}
use Rattle.layout.specs.Entries.{Entry, store, fence}
use Rattle.layout.specs.Image.{place_of, slot_at}
use Rattle.layout.specs.declared.oldest.Oldest.{Oldest}
use Rattle.layout.proofs.Least.{oldest-is}
use Rattle.desk.specs.declared.state.Desk.{Desk}
use Rattle.desk.specs.Entering.{image_fault}
use Rattle.layout.specs.Checks.{room_for}
use Rattle.commit.specs.Reclaim.{reclaim_fault, settled_number, chosen, oldest_log, none_left, held_b, reclaim_entries, reclaim_refused, reclaim_done, reclaim_reply}
use mathlib.Core.Path.{refl}
use lib.Dec.{eqb}
use Rattle.std.specs.Prelude.{Some, None, Ok}
use Rattle.std.specs.Option.{unwrap_or}
use native.Mathlib.Omega.{arith}
use borrow.Author.Tests.{eqb-true, eqb-false}
use Rattle.layout.specs.Image.{persist_at}
use Rattle.layout.specs.Oldest.{some_oldest}
use Rattle.layout.proofs.Says.{by-test}
use Rattle.desk.specs.Desk.{session_at}
use Rattle.desk.specs.Replies.{storing_reply, given_by}
use Rattle.desk.specs.declared.reply.StoringReply.{StoringReply}
use Rattle.commit.specs.Reclaim.{in_use}
use Rattle.commit.specs.declared.reclaiming.Reclaimed.{Reclaimed}
use Rattle.commit.specs.declared.reclaiming.Reclaimed.TheVariants.{Nothing, Held, Cleared}

-- what a search for the oldest answers
pub none-found : (o : Oldest) → None ≡ some_oldest o → o.number ≡ 0
none-found o e = by-test (eqb o.number 0) (λ t. eqb-true o.number 0 t) (λ f. absurd (let q = rw f at e in cc))

pub some-found : (o : Oldest) {x : Oldest} → Some x ≡ some_oldest o → (x ≡ o) × (x.number ≡ 0 → ⊥)
some-found o {x} e =
    by-test (eqb o.number 0) (λ t. absurd (let q = rw t at e in cc)) (λ f. let q = rw f at e in let w : x ≡ o = cc in (w, rw w (eqb-false o.number 0 f)))

-- what reclaim answers, and what it lists
pub record Reclaims (img : List ℕ) (d : Desk) (len s : ℕ) (reply : StoringReply Reclaimed) (entries : List Entry) : Type 0 where
  pub replies : reclaim_reply img d len s ≡ reply
  pub lists : reclaim_entries img d len s ≡ entries

module _ (img : List ℕ) (d : Desk) (len s : ℕ) where
  -- refused by 1 to 4
  pub reclaim-refused : (k : ℕ) → k ≡ image_fault img d (room_for len) s → (k ≡ 0 → ⊥) → Reclaims img d len s (reclaim_refused d k) []
  unfolding reclaim_reply reclaim_entries reclaim_fault
  reclaim-refused k e n =
      record {
        replies = answered-not _ (reclaim_refused d) _ (λ z. n (e ∙ z)) ∙ ap (reclaim_refused d) (sym e);
        lists = answered-not _ (λ _. []) _ (λ z. n (e ∙ z));
      }

  module _ (z : image_fault img d (room_for len) s ≡ 0) (own : Oldest) (a : own ≡ chosen img d s) where
    -- no slot left
    pub reclaim-none : own.number ≡ 0 → Reclaims img d len s (record { answer = Ok Nothing; entries = 0; desk = d }) []
    unfolding reclaim_reply reclaim_entries reclaim_fault
    reclaim-none e =
        record {
          replies = answered-zero _ (reclaim_refused d) _ z ∙ rw (← a, eq-eqb own.number 0 e);
          lists = answered-zero _ (λ _. []) _ z ∙ rw (← a, eq-eqb own.number 0 e);
        }

    module _ (n : own.number ≡ 0 → ⊥) where
      -- the slot that is taken is one of the session's two
      pub own-slot : own.place < 2
      own-slot = rw a ((oldest-is (settled_number img d s) 2).some (λ e. n (ap (λ (b : Oldest). b.number) a ∙ e))).0

      -- it is occupied, so that there is an oldest log of the image
      pub some-log : s < d.m → (oldest_log img d).number ≡ 0 → ⊥
      some-log l z =
          let h = (oldest-is (settled_number img d s) 2).some (λ e. n (ap (λ (b : Oldest). b.number) a ∙ e)) in
          by-test (in_use (session_at d s) (chosen img d s).place)
          (λ t. n (ap (λ (b : Oldest). b.number) a ∙ sym (rw t at h.1)))
          (λ f.
          n (ap (λ (b : Oldest). b.number) a ∙ sym (rw f at h.1) ∙ (oldest-is (persist_at img d.n) (2 * d.m)).none z (place_of s (chosen img d s).place) (omega (arith, h.0))))

      pub found-log : s < d.m → unwrap_or (some_oldest (oldest_log img d)) own ≡ oldest_log img d
      found-log l = rw (ne_eqb (oldest_log img d).number 0 (some-log l)) refl

      module _ (oldest : Oldest) (b : oldest ≡ oldest_log img d) where
        -- a slot has a smaller number
        pub reclaim-held : oldest.number < own.number → Reclaims img d len s (record { answer = Ok (Held oldest.number); entries = 0; desk = d }) []
        unfolding reclaim_reply reclaim_entries reclaim_fault
        reclaim-held l =
            record {
              replies = answered-zero _ (reclaim_refused d) _ z ∙ rw (← a, ← b, ne_eqb own.number 0 n, lt-ltb _ _ l);
              lists = answered-zero _ (λ _. []) _ z ∙ rw (← a, ← b, ne_eqb own.number 0 n, lt-ltb _ _ l);
            }

        -- the slot is emptied
        pub reclaim-clears : own.number ≤ oldest.number
            → Reclaims img d len s (record { answer = Ok (Cleared own.number); entries = 2; desk = d }) (store (slot_at d.n (place_of s own.place)) 0 ∷ fence ∷ [])
        unfolding reclaim_reply reclaim_entries reclaim_fault
        reclaim-clears l =
            record {
              replies = answered-zero _ (reclaim_refused d) _ z ∙ rw (← a, ← b, ne_eqb own.number 0 n, le-ltb _ _ l);
              lists = answered-zero _ (λ _. []) _ z ∙ rw (← a, ← b, ne_eqb own.number 0 n, le-ltb _ _ l);
            }

-- the reply is made again of what it gives
pub reclaim-whole : (img : List ℕ) (d : Desk) (len s : ℕ) → storing_reply (given_by (reclaim_reply img d len s)) d ≡ reclaim_reply img d len s
unfolding reclaim_reply answered
reclaim-whole img d len s = by-fault (reclaim_fault img d len s)
  where
    by-fault : (k : ℕ) → storing_reply (given_by (answered k (reclaim_refused d) (reclaim_done img d s))) d ≡ answered k (reclaim_refused d) (reclaim_done img d s)
    by-fault zero = by-test (none_left img d s) (λ t. rw t refl) (λ f. rw f (by-test (held_b img d s) (λ t. rw t refl) (λ f. rw f refl)))
    by-fault (suc k) = refl
