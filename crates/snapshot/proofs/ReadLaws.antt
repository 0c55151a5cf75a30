-- Read, case by case.
use Prim.Native.Nat.{ℕ, ◌-◌, ◌<◌, ◌≤◌}
use mathlib.Core.Bool.{true, false, cond}
use mathlib.Core.Path.{◌≡◌, refl, sym, ap, ◌∙◌}
use mathlib.Core.List.{List}
use borrow.Author.Tests.{lt-ltb, le-ltb}
use Rattle.layout.specs.Checks.{unless, first, answered}
use Rattle.layout.proofs.ChecksLaws.{first-assoc, answered-refused, answered-passed, cond_map}
use Rattle.layout.specs.Image.{home_words}
use Rattle.desk.specs.Desk.{session_at, mark_at, copy_at, is_active, start_of}
use Rattle.desk.specs.declared.state.Desk.{Desk}
use Rattle.desk.specs.declared.state.Phase.{Phase}
use Rattle.desk.specs.declared.state.Phase.TheVariants.{Idle, Active, Sealed, Published}
use Rattle.snapshot.specs.Own.{own_place}
use Rattle.desk.specs.Entering.{record_fault}
use Rattle.snapshot.specs.Read.{read_fault, holder_entry, copy_shown, sight, sight_of, sight_at, session_sight, read_gives, read_refused, read_done, read_reply}
use Rattle.snapshot.specs.declared.seeing.Source.TheVariants.{Own, Copy, Home}
use Rattle.snapshot.specs.declared.seeing.Sight.{Sight}

-- what is seen of a record, from a start and a holder that are known by equations
pub sight-by : (img : List ℕ) (d : Desk) (r start b k : ℕ) (x : Sight) → x ≡ sight_of img b r (mark_at d r) (session_at d k) → b ≡ start → k ≡ mark_at d r - 1
    → x ≡ sight_at img d start r
sight-by img d r start b k x e f g =
    e ∙ ap (λ n. sight_of img n r (mark_at d r) (session_at d k)) f ∙ ap (λ t. sight_of img start r (mark_at d r) (session_at d t)) g

-- it is the holder's copy or the home record
pub sight-read : (img : List ℕ) (d : Desk) (start r : ℕ)
    → read_gives d (sight_at img d start r)
    ≡ cond (copy_shown d start r) (read_gives d (sight Copy (copy_at (holder_entry d r) (own_place (holder_entry d r) r)).words))
    (read_gives d (sight Home (home_words img r)))
unfolding sight_of
sight-read img d start r = cond_map (read_gives d) (copy_shown d start r) _ _

-- a session with no start is not active
pub unstarted : (p : Phase) → ((b : ℕ) → p ≡ Active b → ⊥) → is_active p ≡ false
unstarted Idle n = refl
unstarted (Active b) n = absurd (n b refl)
unstarted (Sealed q) n = refl
unstarted (Published e) n = refl

module _ (img : List ℕ) (d : Desk) (s r : ℕ) where
  by-record : read_reply img d s r ≡ answered (first (record_fault img d s r) (unless (is_active (session_at d s).phase) 6)) (read_refused d) (read_done img d s r)
  unfolding read_reply read_fault
  by-record = rw first-assoc

  -- of a record that it does not copy, a session sees what its start shows it
  pub seen_done : 4 ≤ own_place (session_at d s) r → session_sight img d s r ≡ sight_at img d (start_of (session_at d s).phase) r
  seen_done n = rw (le-ltb _ _ n)

  -- refused by 1, 2, 4 or 5
  pub read-refused : (k : ℕ) → k ≡ record_fault img d s r → (k ≡ 0 → ⊥) → read_reply img d s r ≡ read_refused d k
  read-refused k e n = by-record ∙ answered-refused _ _ (read_refused d) _ (λ z. n (e ∙ z)) ∙ ap (read_refused d) (sym e)

  module _ (z : record_fault img d s r ≡ 0) where
    -- refused by 6
    pub read-inactive : is_active (session_at d s).phase ≡ false → read_reply img d s r ≡ read_refused d 6
    unfolding answered
    read-inactive f = by-record ∙ answered-passed _ _ (read_refused d) _ z ∙ rw f

    module _ (a : is_active (session_at d s).phase ≡ true) where
      done : read_reply img d s r ≡ read_done img d s r
      unfolding answered
      done = by-record ∙ answered-passed _ _ (read_refused d) _ z ∙ rw a

      pub read-own : own_place (session_at d s) r < 4
          → read_reply img d s r ≡ read_gives d (sight Own (copy_at (session_at d s) (own_place (session_at d s) r)).words)
      read-own l = done ∙ rw (lt-ltb _ _ l)

      -- a record that the session does not copy is what it sees of it
      pub read-seen : 4 ≤ own_place (session_at d s) r → read_reply img d s r ≡ read_gives d (sight_at img d (start_of (session_at d s).phase) r)
      read-seen n = done ∙ ap (read_gives d) (seen_done n)
