-- What `own_place` finds, and who holds a marked record.
use Prim.Native.Nat.{ℕ, ◌-◌, ◌<◌, ◌≤◌}
use mathlib.Core.Bool.{Bool, true, false, not}
use mathlib.Core.List.{List}
use mathlib.Core.Path.{◌≡◌}
use native.Mathlib.Omega.{arith}
use lib.Dec.{eqb, ltb}
use lib.ListN.{length, take}
use borrow.Author.Tests.{lt-ltb, ltb-true, ltb-false}
use Rattle.std.specs.List.{position, position_or_len}
use Rattle.std.proofs.lemmas.List.{get_or-take, length-take}
use Rattle.std.proofs.lemmas.List.Sums.{fails_before_first, prefix_len-le-length, passes_at_first}
use Rattle.layout.specs.Search.{within}
use Rattle.layout.proofs.BelowLaws.{lowest-some}
use Rattle.layout.proofs.Says.{says-and, says-lt, says_eq, by-test}
use Rattle.desk.specs.Desk.{no_copy, session_at, mark_at, copied_rec}
use Rattle.desk.specs.Coherent.{place_has}
use Rattle.desk.specs.declared.state.RecordCopy.{RecordCopy}
use Rattle.desk.specs.declared.state.Session.{Session}
use Rattle.desk.specs.declared.state.Desk.{Desk}
use Rattle.desk.proofs.Facts.{Copies, Coherent}
use Rattle.snapshot.specs.Own.{own_place}
use Rattle.snapshot.proofs.Searches.{lowest-is}

-- a session that copies a record has a place for it
pub own-found : (e : Session) (r : ℕ) → Copies e r → own_place e r < 4
own-found e r c = lowest-some (place_has e r) 4 c.0 c.1 ((says-and (says-lt c.0 e.count) (says_eq (copied_rec e c.0) r)).no c.2)

module _ (d : Desk) (h : Coherent d) (r : ℕ) (l : r < 256) where
  -- the holder that a mark names is one of the sixteen
  pub holder-small : mark_at d r - 1 < 16
  holder-small = omega (arith, (h.marks r l).0.0)

  -- and copies the record
  pub holder-copies : (mark_at d r ≡ 0 → ⊥) → Copies (session_at d (mark_at d r - 1)) r
  holder-copies n = ((h.marks r l).0.1 (mark_at d r - 1) holder-small).0 (omega arith)

  -- in one of its four places, where the holder is known by an equation
  pub holder-found : (k : ℕ) → k ≡ mark_at d r - 1 → (mark_at d r ≡ 0 → ⊥) → own_place (session_at d k) r < 4
  holder-found k e n = rw e (own-found (session_at d (mark_at d r - 1)) r (holder-copies n))

-- the first of the session's copies that is of record r, as a search of its four places
pub own-position : (e : Session) (r : ℕ) → length e.copies ≡ 4 → position (λ c. eqb c.rec r) (take e.count e.copies) ≡ within 4 (own_place e r)
own-position e r four = by-test (ltb i (length xs)) some none
  where
    has : RecordCopy → Bool
    has c = eqb c.rec r

    xs : List RecordCopy
    xs = take e.count e.copies

    i : ℕ
    i = position_or_len has xs

    most : i ≤ length xs
    most = prefix_len-le-length (λ c. not (has c)) xs

    -- below i no copy is of record r
    before : (k : ℕ) → k < i → place_has e r k ≡ false
    before k l =
        let lt : k < e.count = omega (arith, most, length-take e.count e.copies) in
        rw (lt-ltb k e.count lt, ← (get_or-take e.count e.copies k no_copy lt), fails_before_first has xs k no_copy l)

    some : ltb i (length xs) ≡ true → position has xs ≡ within 4 (own_place e r)
    some t =
        let l : i < e.count = omega (arith, ltb-true i (length xs) t, length-take e.count e.copies) in
        let h : place_has e r i ≡ true =
        rw (lt-ltb i e.count l, ← (get_or-take e.count e.copies i no_copy l), passes_at_first has xs no_copy (ltb-true i (length xs) t)) in
        let q : own_place e r ≡ i = lowest-is (place_has e r) 4 i (omega (arith, most, four, length-take e.count e.copies)) before (λ _. h) in
        let small : i < 4 = omega (arith, ltb-true i (length xs) t, four, length-take e.count e.copies) in
        rw (t, q, lt-ltb i 4 small)

    none : ltb i (length xs) ≡ false → position has xs ≡ within 4 (own_place e r)
    none f =
        let past : length xs ≤ i = ltb-false i (length xs) f in
        let q : own_place e r ≡ 4 = lowest-is (place_has e r) 4 4 (omega arith) (λ k l. gone k l past) (λ l. absurd (omega arith)) in
        rw (f, q)
      where
        -- a place that counts is below i, another does not count
        gone : (k : ℕ) → k < 4 → length xs ≤ i → place_has e r k ≡ false
        gone k l past =
            by-test (ltb k e.count)
            (λ t. before k (omega (arith, ltb-true k e.count t, length-take e.count e.copies, four)))
            (λ n. rw n)
