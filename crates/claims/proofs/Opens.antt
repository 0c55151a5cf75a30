-- Every image of the right shape with empty slots opens, and every size can be laid.
use Prim.Native.Nat.{ℕ, zero, suc, ◌+◌, ◌*◌, ◌≤◌, ◌<◌}
use mathlib.Core.Bool.{true, false, false≢true}
use mathlib.Core.Path.{◌≡◌, refl, ap, ◌∙◌}
use mathlib.Core.List.{List}
use native.Mathlib.Omega.{arith}
use lib.Dec.{ltb}
use lib.ListN.{length, get_or, replicate, length-replicate, get_or-replicate}
use borrow.Author.Tests.{eq-eqb, le-leb, lt-ltb}
use Rattle.std.specs.Prelude.{⊤}
use Rattle.layout.specs.Checks.{first}
use Rattle.layout.specs.Image.{records_of, sessions_of, ceiling_of, in_range, shaped_b, occupied_b, persist_at}
use Rattle.layout.specs.Lay.{lay_fault, lay_answer, laid_image, empty_image}
use Rattle.layout.specs.Told.{ok, is_refusal, lay_told}
use Rattle.layout.proofs.ChecksLaws.{answered-zero}
use Rattle.layout.proofs.Says.{says_ne, says_any, says-not}
use Rattle.layout.proofs.Shape.{says_range, says-shaped}
use Rattle.desk.specs.Coherent.{limit}
use Rattle.desk.specs.Desk.{idle_session, no_session}
use Rattle.desk.specs.declared.reply.StoringReply.{StoringReply}
use Rattle.desk.specs.declared.state.Session.{Session}
use Rattle.recovery.specs.Open.{open_fault, opened, open_reply}
use Rattle.recovery.specs.Told.{open_told}
use Rattle.claims.specs.Rules.{store_rules}
use Rattle.claims.specs.Recovering.{AllEmpty}
use Rattle.claims.proofs.Opening.{facts, opens-clean}
use Rattle.claims.proofs.SteadyCalls.{by_answer}
use Rattle.claims.specs.Opens.{Fits, Opened, Unopened, blank, Opens}

module _ (img : List ℕ) (len : ℕ) (f : Fits img) (none : AllEmpty img) (low : ceiling_of img < limit) (room : 48 ≤ len) where
  passes : open_fault img len ≡ 0
  unfolding open_fault occupied_b first
  passes =
      let s : shaped_b img ≡ true =
      (says-shaped img).no (record { mark = f.mark; range = record { n-low = f.n-low; n-high = f.n-high; m-low = f.m-low; m-high = f.m-high }; size = f.size }) in
      let o : occupied_b img (records_of img) (2 * sessions_of img) ≡ false =
      says-not (says_any (2 * sessions_of img) (λ p. says_ne (persist_at img (records_of img) p) 0)) (λ t. t.2 (none t.0 t.1)) in
      let c : ltb (ceiling_of img) limit ≡ true = lt-ltb _ _ low in
      rw (s, le-leb _ _ room, o, c) refl

  reply : open_reply img len ≡ opened img
  unfolding open_reply
  reply = answered-zero (open_fault img len) _ _ passes

  opens : Opened img (store_rules.opens img len)
  opens =
      record {
        told = ap (λ (r : StoringReply ⊤). open_told r.answer) reply;
        clock = ap (λ (r : StoringReply ⊤). r.desk.clock) reply;
        n = ap (λ (r : StoringReply ⊤). r.desk.n) reply;
        m = ap (λ (r : StoringReply ⊤). r.desk.m) reply;
        idle = λ s l. let e = get_or-replicate {A = Session} 16 s idle_session no_session l in rw (reply, e) (refl, refl);
        unmarked = λ r l. rw reply (get_or-replicate {A = ℕ} 256 r 0 0 l);
        unlisted = λ j l. rw reply (get_or-replicate {A = ℕ} 16 j 0 0 l);
      }

-- what opens has passed the checks
only : (img : List ℕ) (len : ℕ) → (store_rules.opens img len).told ≡ ok → Fits img × AllEmpty img × (ceiling_of img < limit) × (48 ≤ len)
only img len o =
    let f = facts img len o in
    let r = f.shaped.range in (
      record { mark = f.shaped.mark; n-low = r.n-low; n-high = r.n-high; m-low = r.m-low; m-high = r.m-high; size = f.shaped.size },
      opens-clean img len o,
      f.below,
      f.room,
    )

-- refused
unopened : (img : List ℕ) (len : ℕ) → is_refusal (store_rules.opens img len).told ≡ true → Unopened (store_rules.opens img len).desk
unfolding open_reply
unopened img len =
    by_answer (λ (r : StoringReply ⊤). is_refusal (open_told r.answer) ≡ true → Unopened r.desk) (open_fault img len) _ _
    (λ e.
    record {
      clock = refl;
      n = refl;
      m = refl;
      idle = λ s l. let z = get_or-replicate {A = Session} 16 s idle_session no_session l in rw z (refl, refl);
      unmarked = λ r l. get_or-replicate {A = ℕ} 256 r 0 0 l;
      unlisted = λ j l. get_or-replicate {A = ℕ} 16 j 0 0 l;
    })
    (λ y e. absurd (false≢true e))

-- zeros behind a header
zeros : (k j : ℕ) → ◌≡◌ {A = ℕ} (get_or (replicate k 0) j 0) 0
zeros zero j = refl
zeros (suc k) zero = refl
zeros (suc k) (suc j) = zeros k j

module _ (n m : ℕ) (n-low : 1 ≤ n) (n-high : n ≤ 256) (m-low : 1 ≤ m) (m-high : m ≤ 16) where
  lay-passes : (size : ℕ) → size ≡ 4 + 4 * n + 44 * m → lay_fault n m size ≡ 0
  unfolding lay_fault first
  lay-passes size e =
      let r : in_range n m ≡ true = (says_range n m).no (record { n-low = n-low; n-high = n-high; m-low = m-low; m-high = m-high }) in
      rw (r, eq-eqb _ _ e) refl

  empty-is : empty_image n m ≡ blank n m
  empty-is = let e : 1 + 4 * n + 44 * m ≡ suc (4 * n + 44 * m) = omega arith in rw e refl

  lays : (img : List ℕ) → length img ≡ 4 + 4 * n + 44 * m → (lay_told (lay_answer n m img) ≡ ok) × (laid_image n m img ≡ blank n m)
  unfolding lay_answer laid_image
  lays img size =
      let z = lay-passes (length img) size in
      (ap lay_told (answered-zero (lay_fault n m (length img)) _ _ z), answered-zero (lay_fault n m (length img)) _ _ z ∙ empty-is)

  blank-fits : Fits (blank n m)
  blank-fits =
      record {
        mark = refl;
        n-low = n-low;
        n-high = n-high;
        m-low = m-low;
        m-high = m-high;
        size = omega (arith, length-replicate {A = ℕ} (4 * n + 44 * m) 0);
      }

  blank-empty : AllEmpty (blank n m)
  blank-empty p l =
      let e : 4 + 4 * n + 22 * p + 0 ≡ suc (suc (suc (suc (4 * n + 22 * p)))) = omega arith in
      rw e (zeros (4 * n + 44 * m) (4 * n + 22 * p))

  laid_opens : (len : ℕ) → 48 ≤ len → Opened (blank n m) (store_rules.opens (blank n m) len)
  laid_opens len room = opens (blank n m) len blank-fits blank-empty (omega arith) room

pub opens-all : Opens
opens-all =
    record {
      opens = opens;
      only = only;
      refused = unopened;
      lays = λ n m img a b c d size. lays n m a b c d img size;
      laid_opens = λ n m len a b c d room. laid_opens n m a b c d len room;
    }
