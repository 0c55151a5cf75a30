-- The list of active sessions, as the code tests it: noted session by session, and struck out place by place.
use Prim.Native.Nat.{ℕ, zero, suc, ◌<◌, ◌≤◌}
use mathlib.Core.Bool.{Bool, true, false, not, cond, or-true, false≢true}
use mathlib.Core.List.{List, [], ◌∷◌}
use mathlib.Core.Path.{◌≡◌, refl, sym, ap, ◌∙◌}
use native.Mathlib.Nat.{not-suc-le-zero}
use native.Mathlib.Omega.{arith}
use lib.Dec.{ltb, eqb}
use lib.ListN.{get_or, set, length, length-set, length-replicate, get_or-replicate}
use lib.Seq.{get_or-set_same, get_or-set_other}
use borrow.Author.Tests.{lt-ltb, le-ltb, ltb-true, ltb-false, eqb-true, eqb-false, not-true}
use Rattle.layout.specs.Below.{any_below}
use Rattle.layout.proofs.Says.{Says, says-le, says-lt, says_eq, says-and, says_any, says-itself, says-not, by-test}
use Rattle.desk.specs.declared.state.Desk.{Desk}
use Rattle.desk.specs.Desk.{order_at, start_at, active_at, active_count}
use Rattle.desk.specs.Strike.{noted_below, blank_below, start_before, list_passes}
use Rattle.layout.proofs.Counts.{by-same}
use Rattle.layout.proofs.Order.{InOrder, or-false}

-- a place that is struck is 0, also past the end
pub set-zero : (h : List ℕ) (i : ℕ) → get_or (set h i 0) i 0 ≡ 0
set-zero [] i = refl
set-zero (x ∷ xs) zero = refl
set-zero (x ∷ xs) (suc i) = set-zero xs i

-- the places below c are struck out
blank-at : (o : List ℕ) (c j : ℕ) → get_or (blank_below o c) j 0 ≡ cond (ltb j c) 0 (get_or o j 0)
unfolding blank_below
blank-at o zero j = rw (le-ltb j 0 (omega arith))
blank-at o (suc c) j =
    by-same j c
    (λ q. rw (lt-ltb j (suc c) (omega arith), q) (set-zero (blank_below o c) c))
    (λ ne. get_or-set_other (blank_below o c) c j 0 0 ne ∙ blank-at o c j ∙
    by-test (ltb j c)
    (λ t. rw (t, lt-ltb j (suc c) (omega (arith, ltb-true j c t))))
    (λ f. rw (f, le-ltb j (suc c) (omega (arith, ltb-false j c f)))))

length-noted : (o : List ℕ) (j : ℕ) → length (noted_below o j) ≡ 16
unfolding noted_below
length-noted o zero = length-replicate {A = Bool} 16 false
length-noted o (suc j) = length-set (noted_below o j) (get_or o j 0) true ∙ length-noted o j

-- a session is noted where a place below j has it
noted-at : (o : List ℕ) (x : ℕ) → x < 16 → (j : ℕ) → get_or (noted_below o j) x false ≡ any_below j (λ i. eqb (get_or o i 0) x)
unfolding noted_below any_below
noted-at o x l zero = get_or-replicate {A = Bool} 16 x false false l
noted-at o x l (suc j) =
    by-test (eqb (get_or o j 0) x)
    (λ t. rw (t, or-true (any_below j (λ i. eqb (get_or o i 0) x)), eqb-true (get_or o j 0) x t) (get_or-set_same (noted_below o j) x true false (omega (arith, length-noted o j))))
    (λ f. rw (f, or-false (any_below j (λ i. eqb (get_or o i 0) x))) (get_or-set_other (noted_below o j) (get_or o j 0) x true false (λ q. eqb-false (get_or o j 0) x f (sym q)) ∙ noted-at o x l j))

-- a test that is false
says-false : (b : Bool) → Says (not b) (b ≡ false)
says-false b = record { yes = λ e. not-true b e; no = λ e. ap not e }

module _ (d : Desk) where
  -- what `list_passes` says of place j
  abbrev pub Passes : ℕ → Type 0
  Passes j =
      (order_at d j < 16) × ((get_or (noted_below d.order j) (order_at d j) false ≡ false)
      × ((active_at d (order_at d j) ≡ true) × (start_before d.sessions d.order j ≤ start_at d (order_at d j))))

  pub says-passes : (j : ℕ) → Says (list_passes d.sessions d.order j) (Passes j)
  says-passes j =
      says-and (says-lt (order_at d j) 16)
      (says-and (says-false (get_or (noted_below d.order j) (order_at d j) false))
      (says-and (says-itself (active_at d (order_at d j))) (says-le (start_before d.sessions d.order j) (start_at d (order_at d j)))))

  -- the sessions are in order, where all places pass and nothing is left
  module _ (pass : (j : ℕ) → j < active_count d → Passes j) (blank : (j : ℕ) → j < 16 → get_or (blank_below d.order (active_count d)) j 0 ≡ 0) where
    rising : (j : ℕ) → j < active_count d → (i : ℕ) → i < j → start_at d (order_at d i) ≤ start_at d (order_at d j)
    unfolding start_before
    rising zero l i k = absurd (not-suc-le-zero k)
    rising (suc j) l i k =
        let a = (pass (suc j) l).1.1.1 in
        by-same i j
        (λ q. let b = ap (λ (t : ℕ). start_at d (order_at d t)) q in omega arith)
        (λ ne. let b = rising j (omega arith) i (omega arith) in omega arith)

    differ : (j : ℕ) → j < active_count d → (i : ℕ) → i < j → order_at d i ≡ order_at d j → ⊥
    differ j l i k e =
        let n = noted-at d.order (order_at d j) (pass j l).0 j in
        let t = (says_any j (λ i. says_eq (order_at d i) (order_at d j))).no (i, k, e) in
        let z = rw t at n in
        false≢true (sym (pass j l).1.0 ∙ z)

    pub to-order : InOrder (active_at d) (start_at d) (order_at d)
    to-order =
        record {
          used = λ j l. (((pass j l).0, (pass j l).1.1.0), λ i k. (differ j l i k, rising j l i k));
          unused = λ j l u. let b = blank-at d.order (active_count d) j in sym (rw (le-ltb j (active_count d) u) at b) ∙ blank j l;
        }

  -- and back
  module _ (h : InOrder (active_at d) (start_at d) (order_at d)) where
    behind : (j : ℕ) → j < active_count d → start_before d.sessions d.order j ≤ start_at d (order_at d j)
    unfolding start_before
    behind zero l = omega arith
    behind (suc j) l = ((h.used (suc j) l).1 j (omega arith)).1

    pub to-passes : (j : ℕ) → j < active_count d → Passes j
    to-passes j l =
        let u = h.used j l in
        let f = says-not (says_any j (λ i. says_eq (order_at d i) (order_at d j))) (λ w. (u.1 w.0 w.1).0 w.2) in
        (u.0.0, (noted-at d.order (order_at d j) u.0.0 j ∙ rw f, (u.0.1, behind j l)))

    pub to-blank : (j : ℕ) → j < 16 → get_or (blank_below d.order (active_count d)) j 0 ≡ 0
    to-blank j l =
        blank-at d.order (active_count d) j ∙
        by-test (ltb j (active_count d)) (λ t. rw t) (λ f. rw f (h.unused j l (ltb-false j (active_count d) f)))
