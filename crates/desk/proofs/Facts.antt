-- What a coherent desk is, as plain facts, and that `coherent_b` is true just there.
use Prim.Native.Nat.{ℕ, ◌+◌, ◌<◌, ◌≤◌}
use mathlib.Core.Bool.{true, ◌||◌, false≢true}
use mathlib.Core.Path.{◌≡◌, refl}
use mathlib.Core.Logic.{◌⊎◌, inl, inr}
use native.Mathlib.Omega.{arith}
use lib.Dec.{ltb}
use borrow.Author.Tests.{ltb-true, ltb-false}
use Rattle.layout.specs.Below.{all_below, count_below}
use Rattle.layout.proofs.BelowLaws.{count_most}
use Rattle.layout.proofs.Says.{Says, says-le, says-lt, says_eq, says_ne, says-and, says-or, says_same, says_all, says_any, says_if, says-itself, says_then, says-by, by-test, by-case}
use Rattle.desk.specs.declared.state.Desk.{Desk}
use Rattle.desk.specs.declared.state.Session.{Session}
use Rattle.desk.specs.declared.state.Phase.{Phase}
use Rattle.desk.specs.declared.state.Phase.TheVariants.{Idle, Active, Sealed, Published}
use Rattle.desk.specs.Desk.{copy_at, session_at, mark_at, order_at, is_idle, is_sealed, is_published, start_at, active_at, active_count}
use Rattle.desk.specs.Coherent.{limit, copies_b, mark_ok, entry_ok, session_ok, places_ok, place_ok, fresh_b, count_ok, number_ok, zero_copy_b, sealed_at, sizes_ok, list_ok, coherent_b}
use Rattle.layout.proofs.Order.{InOrder}

abbrev pub CountIn : Phase → ℕ → Type 0
CountIn Idle k = k ≡ 0
CountIn (Active b) k = k ≤ 4
CountIn (Sealed p) k = (1 ≤ k) × (k ≤ 4)
CountIn (Published e) k = (1 ≤ k) × (k ≤ 4)

pub says-count : (p : Phase) (k : ℕ) → Says (count_ok p k) (CountIn p k)
says-count Idle k = says_eq k 0
says-count (Active b) k = says-le k 4
says-count (Sealed p) k = says-and (says-le 1 k) (says-le k 4)
says-count (Published e) k = says-and (says-le 1 k) (says-le k 4)

-- at most 4 copies in any phase
pub count-four : (p : Phase) (k : ℕ) → CountIn p k → k ≤ 4
count-four Idle k h = omega arith
count-four (Active b) k h = h
count-four (Sealed p) k h = h.1
count-four (Published e) k h = h.1

-- at least one copy in a sealed or published session
pub count-one : (p : Phase) (k : ℕ) → is_sealed p || is_published p ≡ true → CountIn p k → 1 ≤ k
count-one Idle k e h = absurd (false≢true e)
count-one (Active b) k e h = absurd (false≢true e)
count-one (Sealed p) k e h = h.0
count-one (Published b) k e h = h.0

abbrev pub NumberIn : Phase → ℕ → Type 0
NumberIn Idle t = Unit {0}
NumberIn (Active b) t = (1 ≤ b) × (b ≤ t)
NumberIn (Sealed p) t = (1 ≤ p) × (p ≤ t)
NumberIn (Published e) t = (2 ≤ e) × (e ≤ t)

pub says-number : (p : Phase) (t : ℕ) → Says (number_ok p t) (NumberIn p t)
says-number Idle t = record { yes = λ e. tt; no = λ u. refl }
says-number (Active b) t = says-and (says-le 1 b) (says-le b t)
says-number (Sealed p) t = says-and (says-le 1 p) (says-le p t)
says-number (Published e) t = says-and (says-le 2 e) (says-le e t)

-- place j of a session
abbrev pub PlaceIn : Session → ℕ → ℕ → Type 0
PlaceIn e n j =
    (j < e.count → ((copy_at e j).rec < n) × ((i : ℕ) → i < j → (copy_at e i).rec ≡ (copy_at e j).rec → ⊥))
    × ((j < e.count → ⊥) → zero_copy_b (copy_at e j) ≡ true)

pub says-place : (e : Session) (n j : ℕ) → Says (place_ok e n j) (PlaceIn e n j)
unfolding fresh_b
says-place e n j =
    says_if (says-lt j e.count)
    (says-and (says-lt (copy_at e j).rec n) (says_all j (λ i. says_ne (copy_at e i).rec (copy_at e j).rec)))
    (says-itself (zero_copy_b (copy_at e j)))

pub record SessionIn (clock n : ℕ) (e : Session) : Type 0 where
  pub count : CountIn e.phase e.count
  pub number : NumberIn e.phase clock
  pub slot_small : e.slot ≤ 1
  pub slot-none : (1 ≤ e.count) ⊎ (e.slot ≡ 0)
  pub places : (j : ℕ) → j < 4 → PlaceIn e n j

pub says-session : (clock n : ℕ) (e : Session) → Says (session_ok clock n e) (SessionIn clock n e)
unfolding session_ok places_ok
says-session clock n e =
    says-by
    (says-and
    (says-and (says-and (says-count e.phase e.count) (says-number e.phase clock))
    (says-and (says-le e.slot 1) (says-or (says-le 1 e.count) (says_eq e.slot 0))))
    (says_all 4 (says-place e n)))
    (λ t. record { count = t.0.0.0; number = t.0.0.1; slot_small = t.0.1.0; slot-none = t.0.1.1; places = t.1 })
    (λ r. (((r.count, r.number), (r.slot_small, r.slot-none)), r.places))

-- the session copies the record k, at place j
abbrev pub Copies : Session → ℕ → Type 0
Copies e k = (j : ℕ) × (j < 4) × ((j < e.count) × ((copy_at e j).rec ≡ k))

pub says-copies : (e : Session) (k : ℕ) → Says (copies_b e k) (Copies e k)
unfolding copies_b
says-copies e k = says_any 4 (λ j. says-and (says-lt j e.count) (says_eq (copy_at e j).rec k))

abbrev pub MarkIs : Desk → ℕ → Type 0
MarkIs d k =
    ((mark_at d k ≤ 16) × ((s : ℕ) → s < 16 → (mark_at d k ≡ s + 1 → Copies (session_at d s) k) × (Copies (session_at d s) k → mark_at d k ≡ s + 1)))
    × ((k < d.n) ⊎ (mark_at d k ≡ 0))

pub says-mark : (d : Desk) (k : ℕ) → Says (mark_ok d k) (MarkIs d k)
says-mark d k =
    says-and
    (says-and (says-le (mark_at d k) 16) (says_all 16 (λ s. says_same (says_eq (mark_at d k) (s + 1)) (says-copies (session_at d s) k))))
    (says-or (says-lt k d.n) (says_eq (mark_at d k) 0))

pub says-marks : (d : Desk) → Says (all_below 256 (mark_ok d)) ((k : ℕ) → k < 256 → MarkIs d k)
says-marks d = says_all 256 (says-mark d)

-- the list of active sessions
pub says-order : (d : Desk) → Says (list_ok d) (InOrder (active_at d) (start_at d) (order_at d))
says-order d =
    says-by
    (says-and
    (says-and
    (says-and
    (says_all 16 (λ j. says_then (used j) (says-and (says-lt (order_at d j) 16) (says-itself (active_at d (order_at d j))))))
    (says_all 16 (λ j. says_then (used j) (says_all j (λ i. says_ne (order_at d i) (order_at d j))))))
    (says_all 16 (λ j. says_then (used j) (says_all j (λ i. says-le (start_at d (order_at d i)) (start_at d (order_at d j)))))))
    (says_all 16 (λ j. says-or (used j) (says_eq (order_at d j) 0))))
    (λ t.
    record {
      used = λ j l.
          let k : j < 16 = omega (arith, count_most (active_at d) 16) in
          (t.0.0.0 j k l, λ i b. (t.0.0.1 j k l i b, t.0.1 j k l i b));
      unused = λ j l u. by-case (t.1 j l) (λ b. absurd (omega arith)) (λ e. e);
    })
    (λ r. (
      ((λ j l u. (r.used j u).0, λ j l u i b. ((r.used j u).1 i b).0), λ j l u i b. ((r.used j u).1 i b).1),
      λ j l. by-test (ltb j (active_count d)) (λ t. inl (ltb-true j (active_count d) t)) (λ f. inr (r.unused j l (ltb-false j (active_count d) f))),
    ))
  where
    used : (j : ℕ) → Says (ltb j (active_count d)) (j < active_count d)
    used j = says-lt j (active_count d)

pub record Coherent (d : Desk) : Type 0 where
  pub clock-low : 1 ≤ d.clock
  pub clock-high : d.clock + count_below 16 (sealed_at d) ≤ limit + 16
  pub n-low : 1 ≤ d.n
  pub n-high : d.n ≤ 256
  pub m-low : 1 ≤ d.m
  pub m-high : d.m ≤ 16
  pub session : (s : ℕ) → s < 16 → SessionIn d.clock d.n (session_at d s)
  pub idle : (s : ℕ) → s < 16 → (s < d.m) ⊎ (is_idle (session_at d s).phase ≡ true)
  pub marks : (k : ℕ) → k < 256 → MarkIs d k
  pub order : InOrder (active_at d) (start_at d) (order_at d)

pub says-entries : (d : Desk)
    → Says (all_below 16 (entry_ok d)) ((s : ℕ) → s < 16 → SessionIn d.clock d.n (session_at d s) × ((s < d.m) ⊎ (is_idle (session_at d s).phase ≡ true)))
says-entries d =
    says_all 16 (λ s. says-and (says-session d.clock d.n (session_at d s)) (says-or (says-lt s d.m) (says-itself (is_idle (session_at d s).phase))))

abbrev pub Sizes : Desk → Type 0
Sizes d =
    (((1 ≤ d.clock) × (d.clock + count_below 16 (sealed_at d) ≤ limit + 16)) × ((1 ≤ d.n) × (d.n ≤ 256))) × ((1 ≤ d.m) × (d.m ≤ 16))

pub says-sizes : (d : Desk) → Says (sizes_ok d) (Sizes d)
says-sizes d =
    says-and
    (says-and (says-and (says-le 1 d.clock) (says-le (d.clock + count_below 16 (sealed_at d)) (limit + 16)))
    (says-and (says-le 1 d.n) (says-le d.n 256)))
    (says-and (says-le 1 d.m) (says-le d.m 16))

pub says-coherent : (d : Desk) → Says (coherent_b d) (Coherent d)
unfolding coherent_b
says-coherent d =
    says-by
    (says-and (says-sizes d) (says-and (says-entries d) (says-and (says-marks d) (says-order d))))
    (λ t.
    record {
      clock-low = t.0.0.0.0;
      clock-high = t.0.0.0.1;
      n-low = t.0.0.1.0;
      n-high = t.0.0.1.1;
      m-low = t.0.1.0;
      m-high = t.0.1.1;
      session = λ s l. (t.1.0 s l).0;
      idle = λ s l. (t.1.0 s l).1;
      marks = t.1.1.0;
      order = t.1.1.1;
    })
    (λ r. (((((r.clock-low, r.clock-high), (r.n-low, r.n-high)), (r.m-low, r.m-high))), (λ s l. (r.session s l, r.idle s l), (r.marks, r.order))))
