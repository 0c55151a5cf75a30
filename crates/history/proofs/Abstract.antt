-- The abstract theorem: a step of recovery from the oldest slot, cut anywhere, leaves every home word's final word as it is.
use Prim.Native.Nat.{ℕ, ◌≤◌, ◌<◌}
use mathlib.Core.Path.{◌≡◌, ◌∙◌}
use mathlib.Core.Logic.{◌⊎◌, inl, inr, ◌≢◌}
use native.Mathlib.Decide.{ℕ_discrete}
use native.Mathlib.Omega.{arith}
use Rattle.history.specs.Log.{In, State, Occupied, Puts, Last, Final, Oldest, Clean}

-- what a cut of the entries that apply slot p's log leaves, of the K slots and of the home words
pub record Step (K : ℕ) (Home : ℕ → Type 0) (s s' : State) (p : ℕ) : Type 0 where
  pub log-same : (q : ℕ) → q < K → s'.log q ≡ s.log q
  pub number_same : (q : ℕ) → q < K → q ≢ p → s'.number q ≡ s.number q
  pub home-kept : (i : ℕ) → Home i → (s'.home i ≡ s.home i) ⊎ In i (s'.home i) (s.log p)
  pub turn : (s'.number p ≡ s.number p) ⊎ ((s'.number p ≡ 0) × ((i w : ℕ) → In i w (s.log p) → s'.home i ≡ w))

module _ (K : ℕ) (Home : ℕ → Type 0) (s s' : State) (p : ℕ) (st : Step K Home s s' p) where
  -- a slot that is occupied afterwards was so before, with the same number
  pub number-back : (q : ℕ) → Occupied K s' q → s'.number q ≡ s.number q
  number-back q o = go (ℕ_discrete q p)
    where
      turned : q ≡ p → ((s'.number p ≡ s.number p) ⊎ ((s'.number p ≡ 0) × ((i w : ℕ) → In i w (s.log p) → s'.home i ≡ w))) → s'.number q ≡ s.number q
      turned e (inl same) = rw e same
      turned e (inr c) = absurd (o.1 (rw e c.0))

      go : Dec (q ≡ p) → s'.number q ≡ s.number q
      go (yes e) = turned e st.turn
      go (no n) = st.number_same q o.0 n

  pub occupied-back : (q : ℕ) → Occupied K s' q → Occupied K s q
  occupied-back q o = (o.0, rw (number-back q o) at o.1)

  pub puts_back : (q i v : ℕ) → Puts K s' q i v → Puts K s q i v
  puts_back q i v h = record { occupied = occupied-back q h.occupied; written = rw (st.log-same q h.occupied.0) at h.written }

  -- a slot that keeps its number keeps its writes
  pub puts-on : (q i v : ℕ) → s'.number q ≡ s.number q → Puts K s q i v → Puts K s' q i v
  puts-on q i v e h =
      record {
        occupied = (h.occupied.0, rw e h.occupied.1);
        written = rw (st.log-same q h.occupied.0) h.written;
      }

  last_on : (i w : ℕ) (l : Last K s i w) → s'.number l.slot ≡ s.number l.slot → Final K s' i w
  last_on i w l e =
      inl
      (record {
        slot = l.slot;
        puts = puts-on l.slot i w e l.puts;
        newest = λ q v n h. rw (number-back q h.occupied, e) (l.newest q v n (puts_back q i v h));
      })

  -- the slot that had the last word is the one that was emptied: no other log writes i, since it would be older than the oldest
  last_off : Oldest K s p → (i w : ℕ) (l : Last K s i w) → l.slot ≡ p → s'.number p ≡ 0 → s'.home i ≡ w → Final K s' i w
  last_off old i w l e z hw = inr (record { unwritten = other; stands = hw })
    where
      other : (q v : ℕ) → ¬ Puts K s' q i v
      other q v h = no_one (ℕ_discrete q p)
        where
          no_one : Dec (q ≡ p) → ⊥
          no_one (yes e') = h.occupied.1 (rw e' z)
          no_one (no n) =
              let lt : s.number q < s.number p = rw e at (l.newest q v (rw e n) (puts_back q i v h)) in
              let ge : s.number p ≤ s.number q = old.least q (occupied-back q h.occupied) in
              omega arith

  pub final-kept : Oldest K s p → (i w : ℕ) → Home i → Final K s i w → Final K s' i w
  final-kept old i w hi (inl l) = go (ℕ_discrete l.slot p) st.turn
    where
      go : Dec (l.slot ≡ p) → ((s'.number p ≡ s.number p) ⊎ ((s'.number p ≡ 0) × ((i w : ℕ) → In i w (s.log p) → s'.home i ≡ w))) → Final K s' i w
      go (no n) t = last_on i w l (st.number_same l.slot l.puts.occupied.0 n)
      go (yes e) (inl same) = last_on i w l (rw e same)
      go (yes e) (inr c) = last_off old i w l e c.0 (c.1 i w (rw e at l.puts.written))
  final-kept old i w hi (inr r) = go (st.home-kept i hi)
    where
      go : (s'.home i ≡ s.home i) ⊎ In i (s'.home i) (s.log p) → Final K s' i w
      go (inl same) = inr (record { unwritten = λ q v h. r.unwritten q v (puts_back q i v h); stands = same ∙ r.stands })
      go (inr h) = absurd (r.unwritten p (s'.home i) (record { occupied = old.occupied; written = h }))

-- with no log, the final word is the one that stands
pub final-clean : (K : ℕ) (s : State) → Clean K s → (i w : ℕ) → Final K s i w → s.home i ≡ w
final-clean K s c i w (inl l) = absurd (l.puts.occupied.1 (c l.slot l.puts.occupied.0))
final-clean K s c i w (inr r) = r.stands
