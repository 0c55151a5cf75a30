-- The sessions that group publish leaves; and that publish is the case of one member.
use Prim.Native.Nat.{ℕ, zero, suc, ◌+◌, ◌^◌, ◌/◌, ◌%◌, ◌<◌, ◌≤◌}
use mathlib.Core.Bool.{Bool, true, false, ◌&&◌, ◌||◌, not, cond, beq, and-false, false≢true}
use mathlib.Core.Path.{◌≡◌, refl, sym, ap, ◌∙◌, subst}
use mathlib.Core.List.{List, [], ◌∷◌}
use native.Mathlib.Decide.{ℕ_discrete}
use native.Mathlib.Omega.{arith}
use lib.Dec.{eqb, ltb}
use lib.ListN.{length, get_or, set as put, length-set}
use lib.Seq.{get_or-set_same, get_or-set_other}
use borrow.Author.Tests.{lt-ltb, le-ltb, ltb-true, ltb-false, eq-eqb, ne_eqb, eqb-true}
use Rattle.layout.specs.Below.{all_below, any_below}
use Rattle.layout.specs.Checks.{unless, first, room_for}
use Rattle.layout.specs.Image.{shaped_b}
use Rattle.layout.proofs.BelowLaws.{any-finds}
use Rattle.layout.proofs.ChecksLaws.{first-both, unless-zero}
use Rattle.layout.proofs.Says.{says_all, says_any, says-and, says-itself, says_then, says-lt, says-equal, by-test}
use Rattle.desk.specs.Coherent.{coherent_b}
use Rattle.desk.specs.Desk.{no_session, session_at, is_sealed, with_phase}
use Rattle.desk.specs.Entering.{agrees_b, entry_fault}
use Rattle.desk.specs.Group.{member, store_fault, member_low, set_fault, published_below, grouped, group_fault, group_entries, group_reply}
use Rattle.desk.specs.Publish.{publish_fault, publish_entries, publish_reply}
use Rattle.desk.specs.declared.state.Phase.TheVariants.{Published}
use Rattle.desk.specs.declared.state.Session.{Session}
use Rattle.desk.specs.declared.state.Desk.{Desk}

-- ---- members

-- there are sixteen
pub member-small : (s set : ℕ) → member s set ≡ true → s < 16
unfolding member
member-small s set e = ((says-and (says-lt s 16) (says-itself (eqb ((set / 2 ^ s) % 2) 1))).yes e).0

-- ---- the sessions

-- one more makes no difference to another session
further : (u k : ℕ) → (u ≡ k → ⊥) → ltb u (suc k) ≡ ltb u k
further u k n = by-test (ltb u k) (λ y. rw y (lt-ltb u (suc k) (omega (arith, ltb-true u k y)))) (λ y. rw y (le-ltb u (suc k) (omega (arith, n, ltb-false u k y))))

module _ (xs : List Session) (set e : ℕ) where
  pub published-long : (k : ℕ) → length (published_below xs set e k) ≡ length xs
  unfolding published_below
  published-long zero = refl
  published-long (suc k) = go (member k set) (published-long k)
    where
      go : (b : Bool) → length (published_below xs set e k) ≡ length xs
          → length (cond b (put (published_below xs set e k) k (with_phase (get_or (published_below xs set e k) k no_session) (Published e))) (published_below xs set e k)) ≡ length xs
      go true h = length-set (published_below xs set e k) k _ ∙ h
      go false h = h

  -- a member below k is published, with the copies that it had; any other session is as it was. Sessions that the desk has not are no members.
  pub published-at : (k u : ℕ) → (member u set ≡ true → u < length xs)
      → get_or (published_below xs set e k) u no_session ≡ cond (ltb u k && member u set) (with_phase (get_or xs u no_session) (Published e)) (get_or xs u no_session)
  unfolding published_below
  published-at zero u l = rw (le-ltb u 0 (omega arith)) refl
  published-at (suc k) u l = go (published-at k u l) (member k set) refl (ℕ_discrete u k)
    where
      Before : Type 0
      Before = get_or (published_below xs set e k) u no_session ≡ cond (ltb u k && member u set) (with_phase (get_or xs u no_session) (Published e)) (get_or xs u no_session)

      here : Before → u ≡ k → get_or (published_below xs set e k) k no_session ≡ get_or xs k no_session
      here before q = subst (λ (v : ℕ). get_or (published_below xs set e k) v no_session ≡ get_or xs v no_session) q (before ∙ rw (le-ltb u k (omega arith)) refl)

      go : Before → (b : Bool) → member k set ≡ b → Dec (u ≡ k)
          → get_or (cond b (put (published_below xs set e k) k (with_phase (get_or (published_below xs set e k) k no_session) (Published e))) (published_below xs set e k)) u no_session
          ≡ cond (ltb u (suc k) && member u set) (with_phase (get_or xs u no_session) (Published e)) (get_or xs u no_session)
      go before true m (yes q) =
          let inside : u < length xs = l (rw q m) in
          rw (q, lt-ltb k (suc k) (omega arith), m)
          (get_or-set_same (published_below xs set e k) k _ no_session (omega (arith, published-long k, inside)) ∙ ap (λ x. with_phase x (Published e)) (here before q))
      go before false m (yes q) = rw (q, lt-ltb k (suc k) (omega arith), m) (here before q)
      go before true m (no n) = rw (further u k n) (get_or-set_other (published_below xs set e k) k u _ no_session n ∙ before)
      go before false m (no n) = rw (further u k n) before

-- ---- past the checks

-- there are members; each is below M, and sealed
pub record Loaded (d : Desk) (set : ℕ) : Type 0 where
  pub some : (i : ℕ) × (i < 16) × (member i set ≡ true)
  pub low : (u : ℕ) → member u set ≡ true → u < d.m
  pub sealed : (u : ℕ) → member u set ≡ true → is_sealed (session_at d u).phase ≡ true

pub loaded : (d : Desk) (set : ℕ) → set_fault d set ≡ 0 → Loaded d set
unfolding set_fault
loaded d set z =
    let a = first-both (unless (any_below 16 (λ s. member s set)) 19) _ z in
    let b = first-both (unless (all_below 16 (member_low d set)) 4) _ a.1 in
    record {
      some = (says_any 16 (λ s. says-itself (member s set))).yes (unless-zero _ 18 a.0);
      low = λ u y. (says_all 16 (λ v. says_then (says-itself (member v set)) (says-lt v d.m))).yes (unless-zero _ 3 b.0) u (member-small u set y) y;
      sealed = λ u y.
          (says_all 16 (λ v. says_then (says-itself (member v set)) (says-itself (is_sealed (session_at d v).phase)))).yes (unless-zero _ 5 b.1) u
          (member-small u set y) y;
    }

-- a desk has the sessions that are sealed on it
sealed-inside : (xs : List Session) (u : ℕ) → is_sealed (get_or xs u no_session).phase ≡ true → u < length xs
sealed-inside [] u y = absurd (false≢true y)
sealed-inside (x ∷ xs) zero y = omega arith
sealed-inside (x ∷ xs) (suc u) y = omega (arith, sealed-inside xs u y)

-- each member is published, every other session as it was
pub grouped-at : (img : List ℕ) (d : Desk) (set : ℕ) → Loaded d set → (u : ℕ)
    → session_at (grouped img d set).desk u ≡ cond (member u set) (with_phase (session_at d u) (Published (d.clock + 1))) (session_at d u)
grouped-at img d set r u =
    published-at d.sessions set (d.clock + 1) 16 u (λ y. sealed-inside d.sessions u (r.sealed u y))
    ∙ ap (λ (b : Bool). cond b (with_phase (session_at d u) (Published (d.clock + 1))) (session_at d u)) small
  where
    small : (ltb u 16 && member u set) ≡ member u set
    small = by-test (member u set) (λ y. rw (y, lt-ltb u 16 (member-small u set y)) refl) (λ y. rw y (and-false (ltb u 16)))

-- ---- one member

beq_same : (a b : Bool) → beq a b ≡ true → a ≡ b
beq_same true true e = refl
beq_same true false e = absurd (false≢true e)
beq_same false true e = absurd (false≢true e)
beq_same false false e = refl

one_table : all_below 16 (λ s. all_below 16 (λ u. beq (member u (2 ^ s)) (eqb u s))) ≡ true
unfolding all_below member
one_table = refl

module _ (s : ℕ) (small : s < 16) where
  pub one-member : (u : ℕ) → u < 16 → member u (2 ^ s) ≡ eqb u s
  one-member u l = beq_same _ _ ((says_all 16 (λ v. says_all 16 (λ w. says-itself (beq (member w (2 ^ v)) (eqb w v))))).yes one_table s small u l)

  not_none : any_below 16 (λ u. member u (2 ^ s)) ≡ true
  not_none = any-finds (λ u. member u (2 ^ s)) 16 s small (one-member s small ∙ eq-eqb s s refl)

  -- a test of all members is one of s
  all_one : (q : ℕ → Bool) → all_below 16 (λ u. not (member u (2 ^ s)) || q u) ≡ q s
  all_one q =
      says-equal (says_all 16 (λ u. says_then (says-itself (member u (2 ^ s))) (says-itself (q u)))) (says-itself (q s))
      (λ f. f s small (one-member s small ∙ eq-eqb s s refl))
      (λ y u l m. rw (eqb-true u s (sym (one-member u l) ∙ m)) y)

  module _ (xs : List Session) (e : ℕ) where
    abbrev alone : List Session
    alone = put xs s (with_phase (get_or xs s no_session) (Published e))

    one_below : (k : ℕ) → k ≤ 16 → published_below xs (2 ^ s) e k ≡ cond (ltb s k) alone xs
    unfolding published_below
    one_below zero l = rw (le-ltb s 0 (omega arith)) refl
    one_below (suc k) l = go (one_below k (omega arith)) (ℕ_discrete k s)
      where
        Before : Type 0
        Before = published_below xs (2 ^ s) e k ≡ cond (ltb s k) alone xs

        here : Before → k ≡ s → published_below xs (2 ^ s) e k ≡ xs
        here before q = before ∙ rw (le-ltb s k (omega arith)) refl

        go : Before → Dec (k ≡ s)
            → cond (member k (2 ^ s)) (put (published_below xs (2 ^ s) e k) k (with_phase (get_or (published_below xs (2 ^ s) e k) k no_session) (Published e))) (published_below xs (2 ^ s) e k)
            ≡ cond (ltb s (suc k)) alone xs
        go before (yes q) = rw (one-member k (omega arith), eq-eqb k s q, here before q, q, lt-ltb s (suc s) (omega arith)) refl
        go before (no n) = rw (one-member k (omega arith), ne_eqb k s n, further s k (λ q. n (sym q))) before

  module _ (img : List ℕ) (d : Desk) (len : ℕ) where
    one-fault : group_fault img d len (2 ^ s) ≡ publish_fault img d len s
    unfolding group_fault store_fault set_fault publish_fault entry_fault first
    one-fault =
        rw (not_none, all_one (λ u. ltb u d.m), all_one (λ u. is_sealed (session_at d u).phase))
        (regrouped (unless (shaped_b img) 1) (unless (coherent_b d && agrees_b img d.clock d.n d.m) 2) (unless (room_for len) 3) _ _)
      where
        regrouped : (a b c x y : ℕ) → first (first a (first b c)) (first 0 (first x y)) ≡ first (first a (first b (first c x))) y
        regrouped zero zero zero x y = refl
        regrouped zero zero (suc c) x y = refl
        regrouped zero (suc b) c x y = refl
        regrouped (suc a) b c x y = refl

    -- publish of s is the group of s alone: the answer, the number of entries, the desk and the entries, for every image, desk and trace
    pub one-reply : group_reply img d len (2 ^ s) ≡ publish_reply img d len s
    unfolding group_reply publish_reply
    one-reply =
        rw (one-fault, one_below d.sessions (d.clock + 1) 16 (omega arith), lt-ltb s 16 small) refl

    pub one-entries : group_entries img d len (2 ^ s) ≡ publish_entries img d len s
    unfolding group_entries publish_entries
    one-entries = rw one-fault refl
