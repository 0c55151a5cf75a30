-- Read in the listening room, by what the store's read gives.
use Prim.Native.Nat.{ℕ, zero, suc, ◌≤◌}
use mathlib.Core.Bool.{true, false}
use mathlib.Core.Path.{◌≡◌, refl, ap}
use mathlib.Core.List.{List}
use native.Mathlib.Omega.{arith}
use Rattle.std.specs.Prelude.{Err}
use Rattle.std.specs.Result.{result_and}
use Rattle.layout.specs.Checks.{unless, first, answered}
use Rattle.layout.specs.Refusal.{Answer, cause}
use Rattle.layout.specs.declared.refusal.Refusal.TheVariants.{CopiesHeld}
use Rattle.layout.proofs.ChecksLaws.{first-both, first-most, unless-most}
use Rattle.layout.proofs.ToldLaws.{told-by}
use Rattle.desk.specs.Entering.{image_fault}
use Rattle.desk.specs.declared.state.Desk.{Desk}
use Rattle.desk.specs.declared.reply.Reply.{Reply}
use Rattle.snapshot.specs.Read.{read_fault, read_refused, read_done, read_reply}
use Rattle.snapshot.specs.Told.{sight_told, read_told}
use Rattle.snapshot.specs.declared.seeing.Sight.{Sight}
use Rattle.snapshot.proofs.ToldLaws.{read-most, read-done}
use Rattle.listening.specs.Listener.{no_copies, holds_copies}
use Rattle.listening.specs.Read.{listen_read_fault, listen_read_reply, listen_read_said}
use Rattle.listening.proofs.Holding.{bare-entered, held-some}

module _ (img : List ℕ) (d : Desk) (s r : ℕ) where
  most : listen_read_fault img d s r ≤ 20
  unfolding listen_read_fault
  most = first-most 20 _ _ (read-most img d s r) (unless-most 20 (no_copies d s) 18 (omega arith))

  -- what the answer tells is what it is to tell
  pub listen-read-told : read_told (listen_read_reply img d s r).answer ≡ listen_read_said img d s r
  unfolding listen_read_reply listen_read_said
  listen-read-told =
      told-by (λ (x : Reply Sight). x.answer) sight_told (listen_read_fault img d s r) (read_refused d) (read_done img d s r) most (λ k. refl) (read-done img d s r).tells

  -- a session that holds no copies: the store's read
  pub read-heard : holds_copies d s ≡ false → read_reply img d s r ≡ listen_read_reply img d s r
  unfolding read_reply listen_read_reply listen_read_fault first read_fault
  read-heard n = ap (λ k. answered k (read_refused d) (read_done img d s r)) (go (read_fault img d s r) refl)
    where
      go : (k : ℕ) → read_fault img d s r ≡ k → k ≡ first k (unless (no_copies d s) 18)
      go zero e = rw (bare-entered img d true s n (first-both (image_fault img d true s) _ e).0) refl
      go (suc k) e = refl

  -- one that holds copies: refused as the store refuses it, or else by 18
  pub read_held : holds_copies d s ≡ true → {o : Answer Sight} → o ≡ result_and (read_reply img d s r).answer (Err CopiesHeld)
      → record { answer = o; desk = d } ≡ listen_read_reply img d s r
  unfolding read_reply listen_read_reply listen_read_fault first answered cause
  read_held n e = rw (e, held-some d s n) (go (read_fault img d s r))
    where
      go : (k : ℕ)
          → ◌≡◌ {A = Reply Sight} (record { answer = result_and (answered k (read_refused d) (read_done img d s r)).answer (Err CopiesHeld); desk = d })
          (answered (first k 18) (read_refused d) (read_done img d s r))
      go zero = refl
      go (suc k) = refl
