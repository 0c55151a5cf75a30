-- Group publish keeps the desk steady: each member is in another phase, and at least one session less is sealed.
use Prim.Native.Nat.{ℕ, zero, suc, ◌+◌, ◌<◌, ◌≤◌}
use mathlib.Core.Bool.{Bool, true, false, cond, false≢true}
use mathlib.Core.List.{List}
use mathlib.Core.Path.{◌≡◌, refl, sym, ◌∙◌, subst}
use mathlib.Core.Logic.{◌⊎◌, inl}
use native.Mathlib.Nat.{not-suc-le-zero}
use native.Mathlib.Omega.{arith}
use lib.ListN.{length}
use Rattle.layout.specs.Below.{count_below}
use Rattle.layout.proofs.ChecksLaws.{first-both}
use Rattle.layout.proofs.Says.{by-test}
use Rattle.desk.specs.Coherent.{sealed_at}
use Rattle.desk.specs.Desk.{session_at, mark_at, is_idle, is_active, is_sealed, start_of, start_at, active_at, with_phase}
use Rattle.desk.specs.Group.{member, store_fault, group_fault, grouped, group_reply}
use Rattle.desk.specs.Publish.{publish_refused}
use Rattle.desk.specs.declared.state.Phase.TheVariants.{Published}
use Rattle.desk.specs.declared.state.Session.{Session}
use Rattle.desk.specs.declared.state.Desk.{Desk}
use Rattle.layout.proofs.Counts.{by-same}
use Rattle.desk.proofs.Copied.{copies-four, copies-some}
use Rattle.desk.proofs.Facts.{Coherent, SessionIn, Copies, MarkIs}
use Rattle.desk.proofs.GroupDesk.{Loaded, loaded, published-long, grouped-at}
use Rattle.claims.proofs.Sessions.{phase-in, session-later}
use Rattle.claims.proofs.Steady.{Steady, Kept, order_same}
use Rattle.claims.proofs.SteadyCalls.{by_answer, sealed-inactive, unchanged}

-- ---- counts

more : (a b : Bool) → (a ≡ true → b ≡ true) → cond a 1 0 ≤ cond b 1 0
more true true f = omega arith
more true false f = absurd (false≢true (f refl))
more false true f = omega arith
more false false f = omega arith

module _ (p q : ℕ → Bool) (fewer : (t : ℕ) → p t ≡ true → q t ≡ true) where
  count_less : (n : ℕ) → count_below n p ≤ count_below n q
  unfolding count_below
  count_less zero = omega arith
  count_less (suc n) = omega (arith, count_less n, more (p n) (q n) (fewer n))

  -- one that only the second test has
  count-fewer : (i : ℕ) → p i ≡ false → q i ≡ true → (n : ℕ) → i < n → count_below n p + 1 ≤ count_below n q
  unfolding count_below
  count-fewer i a b zero l = absurd (not-suc-le-zero l)
  count-fewer i a b (suc n) l =
      by-same i n
      (λ z. rw (subst (λ (k : ℕ). p k ≡ false) z a, subst (λ (k : ℕ). q k ≡ true) z b) (omega (arith, count_less n)))
      (λ ne. omega (arith, count-fewer i a b n (omega arith), more (p n) (q n) (fewer n)))

-- ---- the desk

module _ (img : List ℕ) (d : Desk) (set : ℕ) (h : Coherent d) (r : Loaded d set) where
  abbrev a : Desk
  a = (grouped img d set).desk

  -- what holds of each session in its new phase, if it is a member, holds of each session
  same : (P : ℕ → Session → Type 0) → (u : ℕ) → (member u set ≡ true → P u (with_phase (session_at d u) (Published (d.clock + 1)))) → (member u set ≡ false → P u (session_at d u))
      → P u (session_at a u)
  same P u own other = subst (P u) (sym (grouped-at img d set r u)) (by-test (member u set) (λ y. rw y (own y)) (λ y. rw y (other y)))

  -- fewer are sealed
  counted : count_below 16 (sealed_at a) + 1 ≤ count_below 16 (sealed_at d)
  counted =
      count-fewer (sealed_at a) (sealed_at d)
      (λ t. same (λ u x. is_sealed x.phase ≡ true → sealed_at d u ≡ true) t (λ y e. absurd (false≢true e)) (λ y e. e))
      r.some.0
      (same (λ u x. member u set ≡ true → is_sealed x.phase ≡ false) r.some.0 (λ y e. refl) (λ y e. absurd (false≢true (sym y ∙ e))) r.some.2)
      (r.sealed r.some.0 r.some.2) 16 r.some.1

  session-in : (s : ℕ) → s < 16 → SessionIn (d.clock + 1) d.n (session_at a s)
  session-in s l =
      same (λ u x. u < 16 → SessionIn (d.clock + 1) d.n x) s
      (λ y v. phase-in (Published (d.clock + 1)) (d.clock + 1) (h.session s v)
      (copies-some d h s v (rw (r.sealed s y)), copies-four d h s v) (omega (arith, h.clock-low), omega arith))
      (λ y v. session-later (d.clock + 1) (omega arith) (h.session s v)) l

  marks-are : (k : ℕ) → k < 256 → MarkIs a k
  marks-are k l = (
    (
      (h.marks k l).0.0,
      λ s v. same (λ u x. u < 16 → (mark_at d k ≡ u + 1 → Copies x k) × (Copies x k → mark_at d k ≡ u + 1)) s
          (λ y w. (h.marks k l).0.1 s w) (λ y w. (h.marks k l).0.1 s w) v,
    ),
    (h.marks k l).1,
  )

  -- a member was not active, and is not
  active-same : (t : ℕ) → active_at d t ≡ active_at a t
  active-same t = same (λ u x. active_at d u ≡ is_active x.phase) t (λ y. (sealed-inactive (session_at d t).phase (r.sealed t y)).0) (λ y. refl)

  start-same : (t : ℕ) → start_at d t ≡ start_at a t
  start-same t = same (λ u x. start_at d u ≡ start_of x.phase) t (λ y. (sealed-inactive (session_at d t).phase (r.sealed t y)).1) (λ y. refl)

  pub grouped-coherent : Coherent a
  grouped-coherent =
      record {
        clock-low = omega arith;
        clock-high = omega (arith, counted, h.clock-high);
        n-low = h.n-low;
        n-high = h.n-high;
        m-low = h.m-low;
        m-high = h.m-high;
        session = session-in;
        idle = λ s l. same (λ u x. u < 16 → (u < d.m) ⊎ (is_idle x.phase ≡ true)) s (λ y v. inl (r.low s y)) (λ y v. h.idle s v) l;
        marks = marks-are;
        order = order_same active-same start-same h.order;
      }

grouped-kept : (img : List ℕ) (d : Desk) (set : ℕ) → Steady d → Loaded d set → Kept d (grouped img d set).desk
grouped-kept img d set h r =
    record {
      steady =
          record {
            coherent = grouped-coherent img d set h.coherent r;
            sized =
                record {
                  holders = h.sized.holders;
                  sessions = published-long d.sessions set (d.clock + 1) 16 ∙ h.sized.sessions;
                  copies = λ s l.
                      same img d set h.coherent r (λ u x. u < 16 → length x.copies ≡ 4) s (λ y v. h.sized.copies s v) (λ y v. h.sized.copies s v) l;
                  order = h.sized.order;
                };
          };
      n-same = refl;
      m-same = refl;
    }

pub group-kept : (img : List ℕ) (d : Desk) (len set : ℕ) → Steady d → Kept d (group_reply img d len set).desk
unfolding group_reply group_fault
group-kept img d len set h =
    by_answer (λ r. Kept d r.desk) (group_fault img d len set) (publish_refused d) (grouped img d set) (unchanged d h)
    (λ z. grouped-kept img d set h (loaded d set (first-both (store_fault img d len) _ z).1))
