-- What read and write tell is what document 01 has them tell.
use Prim.Native.Nat.{ℕ, zero, suc, ◌-◌, ◌≤◌}
use mathlib.Core.Bool.{Bool, true, false, cond}
use mathlib.Core.Path.{◌≡◌, refl}
use mathlib.Core.List.{List}
use native.Mathlib.Omega.{arith}
use lib.Dec.{ltb, eqb}
use Rattle.layout.specs.Checks.{unless, first, answered}
use Rattle.layout.proofs.ChecksLaws.{first-most, unless-most}
use Rattle.layout.proofs.Says.{by-test}
use Rattle.layout.proofs.ToldLaws.{known, told-by}
use Rattle.desk.specs.Desk.{session_at, mark_at, start_of, is_active}
use Rattle.desk.specs.declared.state.Desk.{Desk}
use Rattle.desk.specs.declared.reply.Reply.{Reply}
use Rattle.desk.proofs.Entered.{entry-most}
use Rattle.layout.specs.Told.{Told, refused, refusal, ok, own, copied, home, is_refusal, words_told}
use Rattle.snapshot.specs.Own.{own_place}
use Rattle.snapshot.specs.Told.{sight_told, read_told, write_told}
use Rattle.snapshot.specs.Read.{read_fault, copy_shown, sight, sight_of, session_sight, read_refused, read_done, read_reply, done_said, read_said}
use Rattle.snapshot.specs.Write.{copy_fault, owns_b, write_fault, write_refused, write_done, write_reply, write_said}
use Rattle.snapshot.specs.declared.seeing.Source.TheVariants.{Own, Copy, Home}
use Rattle.snapshot.specs.declared.seeing.Sight.{Sight}

-- a read past its checks: what is seen tells t, with the words, and refuses nothing
pub record Done (x : Sight) (t : Told) : Type 0 where
  pub tells : sight_told x ≡ t
  pub words : words_told t ≡ x.words
  pub takes : is_refusal t ≡ false

module _ (img : List ℕ) (d : Desk) (s r : ℕ) where
  pub read-done : Done (session_sight img d s r) (done_said img d s r)
  unfolding sight_of
  read-done = go (ltb (own_place (session_at d s) r) 4) (copy_shown d (start_of (session_at d s).phase) r) _ _ _
    where
      go : (a b : Bool) (us vs ws : List ℕ)
          → Done (cond a (sight Own us) (cond b (sight Copy vs) (sight Home ws))) (cond a (own us) (cond b (copied vs) (home ws)))
      go true b us vs ws = record { tells = refl; words = refl; takes = refl }
      go false true us vs ws = record { tells = refl; words = refl; takes = refl }
      go false false us vs ws = record { tells = refl; words = refl; takes = refl }

  pub read-most : read_fault img d s r ≤ 20
  unfolding read_fault
  read-most =
      first-most 20 _ _ (omega (arith, entry-most img d true s))
      (first-most 20 _ _ (unless-most 20 (ltb r d.n) 5 (omega arith)) (unless-most 20 (is_active (session_at d s).phase) 6 (omega arith)))

  pub read-told : read_told (read_reply img d s r).answer ≡ read_said img d s r
  unfolding read_reply read_said
  read-told = told-by (λ (x : Reply Sight). x.answer) sight_told (read_fault img d s r) (read_refused d) (read_done img d s r) read-most (λ k. refl) read-done.tells

  -- a read leaves the desk
  pub read-whole : record { answer = (read_reply img d s r).answer; desk = d } ≡ read_reply img d s r
  unfolding read_reply answered
  read-whole = whole (read_fault img d s r)
    where
      whole : (k : ℕ)
          → let x = answered k (read_refused d) (read_done img d s r) in
          ◌≡◌ {A = Reply Sight} (record { answer = x.answer; desk = d }) x
      whole zero = refl
      whole (suc k) = refl

  write-most : write_fault img d s r ≤ 20
  unfolding write_fault copy_fault
  write-most =
      first-most 20 _ _ (omega (arith, entry-most img d true s))
      (first-most 20 _ _ (unless-most 20 (ltb r d.n) 5 (omega arith))
      (first-most 20 _ _ (unless-most 20 (is_active (session_at d s).phase) 6 (omega arith)) (copies (owns_b d s r) _ _ _)))
    where
      copies : (t a b c : Bool) → cond t 0 (first (unless a 7) (first (unless b 8) (unless c 9))) ≤ 20
      copies true a b c = omega arith
      copies false a b c =
          first-most 20 _ _ (unless-most 20 a 7 (omega arith)) (first-most 20 _ _ (unless-most 20 b 8 (omega arith)) (unless-most 20 c 9 (omega arith)))

  pub write-told : (ws : List ℕ) → write_told (write_reply img d s r ws).answer ≡ write_said img d s r
  unfolding write_reply write_said answered write_refused
  write-told ws = told (write_fault img d s r) write-most
    where
      told : (k : ℕ) → k ≤ 20
          → write_told (answered k (write_refused d s r) (write_done img d s r ws)).answer
          ≡ answered k (λ k. cond (eqb k 7) (refused 7 (mark_at d r - 1)) (refusal k)) ok
      told zero l = refl
      told (suc k) l = let h = known k (omega arith) in by-test (eqb (suc k) 7) (λ t. rw t refl) (λ f. rw (f, h.number, h.value) refl)
