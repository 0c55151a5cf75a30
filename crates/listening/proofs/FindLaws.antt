-- Find, case by case.
use Prim.Native.Nat.{ℕ, zero, suc, ◌≤◌}
use Rattle.std.specs.Prelude.{Option, Some, None, Ok, Err}
use mathlib.Core.Bool.{true, false, ◌&&◌}
use mathlib.Core.Path.{◌≡◌, refl, ap, ◌∙◌, fun_ext}
use mathlib.Core.List.{List}
use native.Mathlib.Omega.{arith}
use lib.Dec.{eqb, ltb}
use lib.ListN.{get_or}
use borrow.Author.Tests.{eqb-true}
use Rattle.layout.specs.Below.{lowest}
use Rattle.layout.specs.Search.{within}
use Rattle.layout.specs.Checks.{first, answered}
use Rattle.layout.specs.Refusal.{cause}
use Rattle.layout.specs.declared.refusal.Refusal.TheVariants.{WrongShelf}
use Rattle.layout.proofs.ToldLaws.{told-by}
use Rattle.layout.proofs.ChecksLaws.{answered-zero, answered-not, cond_map, first-most, unless-most}
use Rattle.desk.specs.Desk.{session_at, copy_at, start_of, start_at}
use Rattle.desk.specs.declared.state.Desk.{Desk}
use Rattle.desk.specs.declared.state.Session.{Session}
use Rattle.snapshot.specs.Own.{own_place}
use Rattle.desk.specs.declared.reply.Reply.{Reply}
use Rattle.snapshot.specs.declared.seeing.Sight.{Sight}
use Rattle.snapshot.proofs.ReadLaws.{seen_done}
use Rattle.reels.specs.Reel.{shelf_b}
use Rattle.listening.specs.Listener.{no_copies, listener_fault}
use Rattle.listening.specs.Find.{find_fault, seen_matches, first_match, find_gives, find_refused, find_done, find_reply, find_said}
use Rattle.listening.specs.Told.{record_told, find_told}
use Rattle.listening.proofs.FinishLaws.{listener, listener-most}

-- a session without copies has no place for a record
pub own-nowhere : (e : Session) (r : ℕ) → eqb e.count 0 ≡ true → own_place e r ≡ 4
unfolding lowest
own-nowhere e r n = go e.count (eqb-true e.count 0 n)
  where
    go : (c : ℕ) → c ≡ 0 → lowest 4 (λ j. ltb j c && eqb (copy_at e j).rec r) ≡ 4
    go zero z = refl
    go (suc c) z = absurd (omega arith)

module _ (img : List ℕ) (d : Desk) (s k : ℕ) where
  -- without copies, what it reads of a record is what a reader with its start sees
  pub match-seen : no_copies d s ≡ true → first_match img d s k ≡ lowest d.n (seen_matches img d (start_of (session_at d s).phase) k)
  unfolding first_match
  match-seen n =
      ap (lowest d.n)
      (fun_ext (λ r.
      ap (λ (x : Sight). eqb (get_or x.words 0 0) k) (seen_done img d s r (let e : own_place (session_at d s) r ≡ 4 = own-nowhere (session_at d s) r n in omega arith))))

  -- 15
  pub find-unshelved : shelf_b k ≡ false → find_reply img d s k ≡ find_gives d (Err WrongShelf)
  unfolding find_reply find_fault first answered cause
  find-unshelved e = rw e refl

  most : find_fault img d s k ≤ 20
  unfolding find_fault
  most = first-most 20 _ _ (unless-most 20 (shelf_b k) 15 (omega arith)) (listener-most img d true s)

  -- what the answer tells is what it is to tell
  pub find-told : find_told (find_reply img d s k).answer ≡ find_said img d s k
  unfolding find_reply find_said
  find-told =
      told-by (λ (x : Reply (Option ℕ)). x.answer) record_told (find_fault img d s k) (find_refused d) (find_done img d s k) most (λ j. refl)
      (cond_map record_told (ltb (first_match img d s k) d.n) (Some (first_match img d s k)) None)

  -- the desk is left
  pub find-whole : record { answer = (find_reply img d s k).answer; desk = d } ≡ find_reply img d s k
  unfolding find_reply answered
  find-whole = whole (find_fault img d s k)
    where
      whole : (j : ℕ)
          → let x = answered j (find_refused d) (find_done img d s k) in
          ◌≡◌ {A = Reply (Option ℕ)} (record { answer = x.answer; desk = d }) x
      whole zero = refl
      whole (suc j) = refl

  module _ (h : shelf_b k ≡ true) where
    by-listener : find_reply img d s k ≡ answered (listener_fault img d true s) (find_refused d) (find_done img d s k)
    unfolding find_reply find_fault first
    by-listener = rw h refl

    pub find-refused : (listener_fault img d true s ≡ 0 → ⊥) → find_reply img d s k ≡ find_refused d (listener_fault img d true s)
    find-refused n = by-listener ∙ answered-not _ (find_refused d) _ n

    -- past the checks, the first record that a reader with its start sees so
    pub find-ends : listener_fault img d true s ≡ 0
        → find_reply img d s k ≡ find_gives d (Ok (within d.n (lowest d.n (seen_matches img d (start_at d s) k))))
    find-ends z =
        by-listener ∙ answered-zero _ (find_refused d) _ z
        ∙ ap (λ i. find_gives d (Ok (within d.n i))) (match-seen (listener img d true s z).bare)
