-- What begin, abandon and publish tell is what document 01 has them tell.
use Prim.Native.Nat.{ℕ, ◌≤◌}
use mathlib.Core.Path.{◌≡◌, refl}
use mathlib.Core.List.{List}
use native.Mathlib.Omega.{arith}
use Rattle.std.specs.Prelude.{⊤}
use Rattle.layout.specs.Checks.{room_for}
use Rattle.layout.specs.Told.{start, ok, ended_at}
use Rattle.layout.proofs.ChecksLaws.{first-most, unless-most}
use Rattle.layout.proofs.ToldLaws.{told-by}
use Rattle.desk.specs.Told.{begin_told, abandon_told, publish_told}
use Rattle.desk.specs.Entering.{session_fault, desk_fault}
use Rattle.desk.specs.Begin.{begin_fault, begin_refused, begun, begin_reply, begin_said}
use Rattle.desk.specs.Abandon.{abandon_fault, abandon_refused, abandoned, abandon_reply, abandon_said}
use Rattle.desk.specs.Publish.{publish_fault, publish_refused, published, publish_reply, publish_said}
use Rattle.desk.specs.declared.state.Desk.{Desk}
use Rattle.desk.specs.declared.reply.Reply.{Reply}
use Rattle.desk.specs.declared.reply.StoringReply.{StoringReply}
use Rattle.desk.proofs.Entered.{entry-most}

module _ (d : Desk) (s : ℕ) where
  pub desk-most : desk_fault d s ≤ 20
  unfolding session_fault
  desk-most = first-most 20 _ _ (unless-most 20 _ 2 (omega arith)) (unless-most 20 _ 4 (omega arith))

  begin-most : begin_fault d s ≤ 20
  unfolding begin_fault
  begin-most = first-most 20 _ _ desk-most (unless-most 20 _ 6 (omega arith))

  pub begin-told : begin_told (begin_reply d s).answer ≡ begin_said d s
  unfolding begin_reply begin_said
  begin-told = told-by (λ (r : Reply ℕ). r.answer) start (begin_fault d s) (begin_refused d) (begun d s) begin-most (λ k. refl) refl

  abandon-most : abandon_fault d s ≤ 20
  unfolding abandon_fault
  abandon-most = first-most 20 _ _ desk-most (unless-most 20 _ 6 (omega arith))

  pub abandon-told : abandon_told (abandon_reply d s).answer ≡ abandon_said d s
  unfolding abandon_reply abandon_said
  abandon-told = told-by (λ (r : Reply ⊤). r.answer) (λ x. ok) (abandon_fault d s) (abandon_refused d) (abandoned d s) abandon-most (λ k. refl) refl

module _ (img : List ℕ) (d : Desk) (len s : ℕ) where
  publish-most : publish_fault img d len s ≤ 20
  unfolding publish_fault
  publish-most = first-most 20 _ _ (omega (arith, entry-most img d (room_for len) s)) (unless-most 20 _ 6 (omega arith))

  pub publish-told : publish_told (publish_reply img d len s).answer ≡ publish_said img d len s
  unfolding publish_reply publish_said
  publish-told =
      told-by (λ (r : StoringReply ℕ). r.answer) ended_at (publish_fault img d len s) (publish_refused d) (published img d s) publish-most (λ k. refl) refl
