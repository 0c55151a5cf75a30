-- A log put into an empty slot beside the others: what the others denote stays, and the last word on an index is the old one or the new log's.
use Prim.Native.Nat.{ℕ, ◌<◌}
use mathlib.Core.Path.{◌≡◌, ◌∙◌}
use mathlib.Core.Logic.{inl, inr, ◌≢◌}
use native.Mathlib.Decide.{ℕ_discrete}
use Rattle.history.specs.Log.{State, Puts, Final}

-- ---- the abstract part: slot p was empty, and afterwards is empty or holds a log newer than all others

pub record Beside (K : ℕ) (Home : ℕ → Type 0) (s s' : State) (p : ℕ) : Type 0 where
  pub empty : s.number p ≡ 0
  pub log-same : (q : ℕ) → q < K → q ≢ p → s'.log q ≡ s.log q
  pub number_same : (q : ℕ) → q < K → q ≢ p → s'.number q ≡ s.number q
  pub home_same : (i : ℕ) → Home i → s'.home i ≡ s.home i

module _ (K : ℕ) (Home : ℕ → Type 0) (s s' : State) (p : ℕ) (b : Beside K Home s s' p) where
  away : (q i v : ℕ) → Puts K s q i v → q ≢ p
  away q i v h e = h.occupied.1 (rw e b.empty)

  pub beside-on : (q i v : ℕ) → Puts K s q i v → Puts K s' q i v
  beside-on q i v h =
      let n = away q i v h in
      record {
        occupied = (h.occupied.0, rw (b.number_same q h.occupied.0 n) h.occupied.1);
        written = rw (b.log-same q h.occupied.0 n) h.written;
      }

  pub beside_back : (q i v : ℕ) → q ≢ p → Puts K s' q i v → Puts K s q i v
  beside_back q i v n h =
      record {
        occupied = (h.occupied.0, rw (b.number_same q h.occupied.0 n) at h.occupied.1);
        written = rw (b.log-same q h.occupied.0 n) at h.written;
      }

  -- slot p does not write i: i's final word is as it was
  pub beside-old : (i w : ℕ) → Home i → ((v : ℕ) → ¬ Puts K s' p i v) → Final K s i w → Final K s' i w
  beside-old i w hi none (inl l) =
      inl (record { slot = l.slot; puts = beside-on l.slot i w l.puts; newest = λ q v n h. at q v n h (ℕ_discrete q p) })
    where
      at : (q v : ℕ) → q ≢ l.slot → Puts K s' q i v → Dec (q ≡ p) → s'.number q < s'.number l.slot
      at q v n h (yes e) = absurd (none v (rw e at h))
      at q v n h (no m) =
          rw (b.number_same q h.occupied.0 m, b.number_same l.slot l.puts.occupied.0 (away l.slot i w l.puts))
          (l.newest q v n (beside_back q i v m h))
  beside-old i w hi none (inr r) = inr (record { unwritten = λ q v h. at q v h (ℕ_discrete q p); stands = b.home_same i hi ∙ r.stands })
    where
      at : (q v : ℕ) → Puts K s' q i v → Dec (q ≡ p) → ⊥
      at q v h (yes e) = none v (rw e at h)
      at q v h (no m) = r.unwritten q v (beside_back q i v m h)
