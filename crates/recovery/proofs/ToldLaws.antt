-- What open and recover tell is what document 01 has them tell.
use Prim.Native.Nat.{ℕ, zero, suc, ◌≤◌}
use mathlib.Core.Bool.{cond}
use mathlib.Core.Path.{◌≡◌, refl}
use mathlib.Core.List.{List}
use native.Mathlib.Omega.{arith}
use lib.Dec.{eqb}
use Rattle.std.specs.Prelude.{⊤}
use Rattle.layout.specs.Checks.{answered}
use Rattle.layout.specs.Told.{ok, refused, refusal, clean, replayed}
use Rattle.layout.proofs.ChecksLaws.{first-most, unless-most}
use Rattle.layout.proofs.Says.{by-test}
use Rattle.layout.proofs.ToldLaws.{known, told-by}
use Rattle.desk.specs.declared.reply.StoringReply.{StoringReply}
use Rattle.recovery.specs.Told.{open_told, recover_told}
use Rattle.recovery.specs.Open.{open_fault, open_refused, opened, open_reply, open_said}
use Rattle.recovery.specs.Recover.{unsound_place, recover_fault, first_log, clean_b, recover_refused, recover_done, recover_reply, recover_said}

module _ (img : List ℕ) (len : ℕ) where
  open-most : open_fault img len ≤ 20
  unfolding open_fault
  open-most =
      first-most 20 _ _ (unless-most 20 _ 1 (omega arith))
      (first-most 20 _ _ (unless-most 20 _ 3 (omega arith))
      (first-most 20 _ _ (unless-most 20 _ 11 (omega arith)) (unless-most 20 _ 10 (omega arith))))

  pub open-told : open_told (open_reply img len).answer ≡ open_said img len
  unfolding open_reply open_said
  open-told = told-by (λ (r : StoringReply ⊤). r.answer) (λ x. ok) (open_fault img len) open_refused (opened img) open-most (λ k. refl) refl

  recover-most : recover_fault img len ≤ 20
  unfolding recover_fault
  recover-most =
      first-most 20 _ _ (unless-most 20 _ 1 (omega arith))
      (first-most 20 _ _ (unless-most 20 _ 3 (omega arith))
      (first-most 20 _ _ (unless-most 20 _ 12 (omega arith)) (unless-most 20 _ 13 (omega arith))))

  pub recover-told : recover_told (recover_reply img len).answer ≡ recover_said img len
  unfolding recover_reply recover_refused recover_said answered
  recover-told = go (recover_fault img len) recover-most
    where
      go : (k : ℕ) → k ≤ 20 → recover_told (answered k (recover_refused img) (recover_done img)).answer
          ≡ answered k (λ j. cond (eqb j 12) (refused 12 (unsound_place img)) (refusal j)) (cond (clean_b img) clean (replayed (first_log img).number))
      go zero l = by-test (clean_b img) (λ t. rw t) (λ f. rw f)
      go (suc k) l =
          by-test (eqb (suc k) 12)
          (λ t. rw t)
          (λ f. let h = known k (omega (arith, l)) in rw (f, h.number, h.value))
