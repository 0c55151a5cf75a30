-- What finish, settle and reclaim tell is what document 01 has them tell.
use Prim.Native.Nat.{ℕ, ◌≤◌}
use mathlib.Core.Path.{◌≡◌, refl}
use mathlib.Core.List.{List}
use native.Mathlib.Omega.{arith}
use Rattle.std.specs.Prelude.{Option}
use Rattle.layout.specs.Checks.{room_for}
use Rattle.layout.proofs.ChecksLaws.{cond_map, first-most, unless-most}
use Rattle.layout.proofs.ToldLaws.{told-by}
use Rattle.desk.specs.declared.state.Desk.{Desk}
use Rattle.desk.specs.declared.reply.StoringReply.{StoringReply}
use Rattle.desk.proofs.Entered.{entry-most}
use Rattle.commit.specs.Told.{sealed_told, finish_told, wait_told, settle_told, slot_told, reclaim_told}
use Rattle.commit.specs.Finish.{finish_fault, finish_refused, finish_done, finish_reply, finish_said}
use Rattle.commit.specs.Settle.{settle_fault, settle_refused, settle_done, settle_reply, settle_said}
use Rattle.commit.specs.Reclaim.{reclaim_fault, reclaim_refused, reclaim_done, reclaim_reply, reclaim_said}
use Rattle.commit.specs.declared.reclaiming.Reclaimed.{Reclaimed}

module _ (img : List ℕ) (d : Desk) (len s : ℕ) where
  finish-most : finish_fault img d len s ≤ 20
  unfolding finish_fault
  finish-most =
      first-most 20 _ _ (omega (arith, entry-most img d (room_for len) s))
      (first-most 20 _ _ (unless-most 20 _ 6 (omega arith)) (unless-most 20 _ 10 (omega arith)))

  pub finish-told : finish_told (finish_reply img d len s).answer ≡ finish_said img d len s
  unfolding finish_reply finish_said
  finish-told =
      told-by (λ (r : StoringReply (Option ℕ)). r.answer) sealed_told (finish_fault img d len s) (finish_refused d) (finish_done img d s) finish-most (λ k. refl)
      (simp (cond_map (λ (r : StoringReply (Option ℕ)). finish_told r.answer)))

  settle-most : settle_fault img d len s ≤ 20
  unfolding settle_fault
  settle-most = first-most 20 _ _ (omega (arith, entry-most img d (room_for len) s)) (unless-most 20 _ 6 (omega arith))

  pub settle-told : settle_told (settle_reply img d len s).answer ≡ settle_said img d len s
  unfolding settle_reply settle_said
  settle-told =
      told-by (λ (r : StoringReply (Option ℕ)). r.answer) wait_told (settle_fault img d len s) (settle_refused d) (settle_done d s) settle-most (λ k. refl)
      (simp (cond_map (λ (r : StoringReply (Option ℕ)). settle_told r.answer)))

  reclaim-most : reclaim_fault img d len s ≤ 20
  unfolding reclaim_fault
  reclaim-most = omega (arith, entry-most img d (room_for len) s)

  pub reclaim-told : reclaim_told (reclaim_reply img d len s).answer ≡ reclaim_said img d len s
  unfolding reclaim_reply reclaim_said
  reclaim-told =
      told-by (λ (r : StoringReply Reclaimed). r.answer) slot_told (reclaim_fault img d len s) (reclaim_refused d) (reclaim_done img d s) reclaim-most (λ k. refl)
      (simp (cond_map (λ (r : StoringReply Reclaimed). reclaim_told r.answer)))
