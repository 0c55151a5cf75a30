-- Recover gives what is due.
use Prim.Native.Nat.{ℕ}
use mathlib.Core.Bool.{true, false, cond}
use mathlib.Core.Path.{◌≡◌, sym, ap, ◌∙◌}
use mathlib.Core.List.{List, []}
use native.Mathlib.Omega.{arith}
use lib.Dec.{ltb}
use lib.ListN.{length}
use borrow.Author.Tests.{eq-eqb, ne_eqb, ltb-true, ltb-false}
use Rattle.layout.specs.Told.{clean, replayed}
use Rattle.layout.proofs.ChecksLaws.{answered-zero}
use Rattle.layout.proofs.Least.{Least, oldest-is}
use Rattle.layout.proofs.Says.{by-test}
use Rattle.recovery.specs.Recover.{slots_of, recover_fault, first_log, clean_b, replay_entries, recover_entries, recover_done, recover_reply}
use Rattle.recovery.specs.Told.{recover_told}
use Rattle.recovery.specs.declared.recovering.RecoverReply.{RecoverReply}
use Rattle.claims.specs.Rules.{store_rules}
use Rattle.claims.specs.Recovering.{number_at, AllEmpty, ComesFirst, Accepted, RecoverDue}
use Rattle.claims.proofs.Replays.{full-home, short-home}
use Rattle.claims.proofs.Lists.{lists}
use Rattle.claims.proofs.Rows.{recover-row}

module _ (img : List ℕ) (len : ℕ) (z : Accepted img len) where
  passed : recover_fault img len ≡ 0
  passed = recover-row img len ∙ z

  tells : (store_rules.recover img len).told ≡ recover_told (recover_done img).answer
  unfolding recover_reply
  tells = ap (λ (r : RecoverReply). recover_told r.answer) (answered-zero (recover_fault img len) _ _ passed)

  stores : (store_rules.recover img len).entries ≡ cond (clean_b img) [] (replay_entries img (first_log img).place)
  unfolding recover_entries
  stores = answered-zero (recover_fault img len) _ _ passed

  least : Least (number_at img) (slots_of img) (first_log img)
  unfolding first_log
  least = oldest-is (number_at img) (slots_of img)

  counts : (store_rules.recover img len).count ≡ length (store_rules.recover img len).entries
  counts = (lists.recover img len).counted

  cleans : AllEmpty img
      → ((store_rules.recover img len).told ≡ clean) × ((store_rules.recover img len).entries ≡ []) × ((store_rules.recover img len).count ≡ 0)
  cleans none =
      by-test (clean_b img)
      (λ t. let e = stores ∙ rw t in (tells ∙ rw t, e, counts ∙ ap length e))
      (λ f. absurd (let s = least.some (occupied f) in occupied f (sym s.1 ∙ none (first_log img).place s.0)))
    where
      occupied : clean_b img ≡ false → (first_log img).number ≡ 0 → ⊥
      occupied f e = let q : true ≡ false = sym (eq-eqb _ _ e) ∙ f in let w : ◌≡◌ {A = ℕ} 0 1 = cc in omega arith

  module _ (p : ℕ) (c : ComesFirst img p) where
    some-log : (first_log img).number ≡ 0 → ⊥
    some-log e = c.occupied (least.none e p c.inside)

    number_same : (first_log img).number ≡ number_at img p
    number_same =
        let s = least.some some-log in
        let a = least.least p c.inside c.occupied in
        let b = c.smallest (first_log img).place s.0 (λ e. some-log (sym s.1 ∙ e)) in
        omega (arith, s.1, a, b)

    place_same : (first_log img).place ≡ p
    place_same =
        let s = least.some some-log in
        by-test (ltb (first_log img).place p)
        (λ t. absurd (let b = c.lowest (first_log img).place (ltb-true _ _ t) (λ e. some-log (sym s.1 ∙ e)) in omega (arith, s.1, b, number_same)))
        (λ f. by-test (ltb p (first_log img).place)
        (λ t. absurd (let b = least.first some-log p (ltb-true _ _ t) c.occupied in omega (arith, b, number_same)))
        (λ g. omega (arith, ltb-false (first_log img).place p f, ltb-false p (first_log img).place g)))

    entries : (store_rules.recover img len).entries ≡ replay_entries img p
    entries = stores ∙ rw (ne_eqb _ _ some-log, place_same)

    told : (store_rules.recover img len).told ≡ replayed (number_at img p)
    told = tells ∙ rw (ne_eqb _ _ some-log, number_same)

pub recover-due : RecoverDue store_rules
recover-due =
    record {
      cleans = cleans;
      replays = λ img len p z c.
          record {
            told = told img len z p c;
            full = λ l. rw (entries img len z p c) (full-home img p l);
            short = λ k e. rw (entries img len z p c) (short-home img p k e);
            count = counts img len z;
          };
    }
