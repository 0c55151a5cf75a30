-- Checks 12 and 13 find exactly these faults.
use Prim.Native.Nat.{ℕ, suc, ◌-◌, ◌*◌, ◌≤◌, ◌<◌}
use mathlib.Core.Bool.{false}
use mathlib.Core.Path.{◌≡◌, refl, sym, ◌∙◌}
use mathlib.Core.Logic.{◌⊎◌, inl, inr}
use mathlib.Core.List.{List}
use native.Mathlib.Decide.{dec_lt}
use native.Mathlib.Omega.{arith}
use Rattle.layout.specs.Image.{word}
use Rattle.layout.proofs.Says.{says-not}
use Rattle.journal.specs.Log.{Slot, count_of, pairs_of, index_of, places_of, used_of, touched_of, Sound}
use Rattle.journal.proofs.LogFacts.{BadFull, BadShort, short-test, full-test, says-unsound, sound-of}
use Rattle.claims.specs.ByEntry.{in_slot}
use Rattle.claims.specs.LogFaults.{WrongIndex, Wrong, Touches, LogFaults}
use Rattle.claims.specs.Refusals.{unsound_at}
use Rattle.claims.proofs.SameLog.{Tied, says-tied}

-- ---- check 12

abbrev Bad : ℕ → Slot → Type 0
Bad N f = (16 ≤ count_of f → BadShort N f) × ((16 ≤ count_of f → ⊥) → BadFull N f)

module _ (N : ℕ) (f : Slot) where
  bad-full : count_of f < 16 → BadFull N f → Bad N f
  bad-full l b = (λ s. absurd (omega arith), λ _. b)

  bad-short : 16 ≤ count_of f → BadShort N f → Bad N f
  bad-short l b = (λ _. b, λ n. absurd (n l))

  found : Wrong N f → Bad N f
  found (inl (inl e)) = bad-full (omega (arith, e)) (inl (inl e))
  found (inl (inr (inl e))) = bad-full (omega (arith, e.1)) (inl (inr e.0))
  found (inl (inr (inr l))) = bad-short (omega (arith, l)) (inl (omega (arith, l)))
  found (inr (inl w)) = bad-full (omega (arith, w.0)) (inr (w.1.0, omega (arith, w.0, w.1.1), (w.1.1, w.1.2)))
  found (inr (inr w)) = bad-short (omega (arith, w.1.1)) (inr (w.1.0, omega (arith, w.0, w.1.1), (omega (arith, w.1.1), go w.1.2)))
    where
      j : ℕ
      j = w.1.0

      go : WrongIndex N f w.1.0 → (4 * N ≤ index_of f w.1.0) ⊎ ((w.1.0 ≡ 0 → ⊥) × (index_of f w.1.0 ≤ index_of f (w.1.0 - 1)))
      go (inl l) = inl l
      go (inr i) =
          let e : w.1.0 - 1 ≡ i.0 = omega (arith, i.1) in
          inr (λ z. omega (arith, z, i.1), rw e i.2)

  wrong : Bad N f → Wrong N f
  wrong b = elim (dec_lt (count_of f) 16) [ yes l ↦ full l (b.1 (λ s. omega arith)) | no u ↦ let s : 16 ≤ count_of f = omega arith in short s (b.0 s) ]
    where
      full : count_of f < 16 → BadFull N f → Wrong N f
      full l (inl (inl e)) = inl (inl e)
      full l (inl (inr m)) = inl (inr (inl (m, omega arith)))
      full l (inr p) = elim (dec_lt 4 (count_of f)) [ yes m ↦ inl (inr (inl (m, omega arith))) | no u ↦ inr (inl (omega arith, (p.0, p.2.0, p.2.1))) ]

      short : 16 ≤ count_of f → BadShort N f → Wrong N f
      short l (inl m) = inl (inr (inr (omega arith)))
      short l (inr p) = elim (dec_lt 25 (count_of f)) [ yes m ↦ inl (inr (inr m)) | no u ↦ inr (inr (omega arith, (p.0, omega (arith, p.2.0), go p.2.1))) ]
        where
          go : (4 * N ≤ index_of f p.0) ⊎ ((p.0 ≡ 0 → ⊥) × (index_of f p.0 ≤ index_of f (p.0 - 1))) → WrongIndex N f p.0
          go (inl h) = inl h
          go (inr h) = let z : p.0 ≡ 0 → ⊥ = h.0 in let e : p.0 ≡ suc (p.0 - 1) = omega arith in inr (p.0 - 1, e, h.1)

-- ---- check 13

module _ (N : ℕ) (f : Slot) where
  -- a place or pair that touches the record
  touching : Sound N f → (r : ℕ) → Touches f r → (j : ℕ) × (j < places_of f) × ((j < used_of f) × (touched_of f j ≡ r))
  touching (inl s) r (inl t) = rw (full-test f (omega (arith, s.at_most))) (t.1.0, omega (arith, s.at_most, t.1.1), (t.1.1, t.1.2))
  touching (inl s) r (inr t) = absurd (omega (arith, s.at_most, t.1))
  touching (inr s) r (inl t) = absurd (omega (arith, s.is-short, t.0))
  touching (inr s) r (inr t) =
      rw (short-test f s.is-short) (t.0, omega (arith, s.few, t.1), (omega (arith, t.1), omega (arith, t.2, t.3)))

  touches : Sound N f → (j : ℕ) → j < used_of f → Touches f (touched_of f j)
  touches (inl s) j l = let e = full-test f (omega (arith, s.at_most)) in rw e (inl (s.at_most, (j, rw e at l, refl)))
  touches (inr s) j l =
      let e = short-test f s.is-short in
      let m : j < pairs_of f = rw e at l in
      rw e (inr (j, omega (arith, m, s.is-short), omega arith, omega arith))

pub log-faults : LogFaults
log-faults =
    record {
      unsound = λ img p o w. (says-unsound (word img 1) (in_slot img p)).no (o, found (word img 1) (in_slot img p) w);
      sound = λ img p h. says-not (says-unsound (word img 1) (in_slot img p)) (λ b. none img p h b);
      tied = λ img p q r a b o e t u.
          let i = touching (word img 1) (in_slot img p) (sound-of _ _ a o) r t in
          let j = touching (word img 1) (in_slot img q) (sound-of _ _ b (λ z. o (e ∙ z))) r u in
          (says-tied (in_slot img p) (in_slot img q)).no ((o, e), (i.0, i.1, (i.2.0, (j.0, j.1, (j.2.0, j.2.1 ∙ sym i.2.1)))));
      apart = λ img p q a b h. says-not (says-tied (in_slot img p) (in_slot img q)) (λ t. untied img p q a b h t);
    }
  where
    none : (img : List ℕ) (p : ℕ) → (in_slot img p 0 ≡ 0) ⊎ (Wrong (word img 1) (in_slot img p) → ⊥) → (in_slot img p 0 ≡ 0 → ⊥) × Bad (word img 1) (in_slot img p) → ⊥
    none img p (inl z) b = b.0 z
    none img p (inr never) b = never (wrong (word img 1) (in_slot img p) b.1)

    untied : (img : List ℕ) (p q : ℕ) → unsound_at img p ≡ false → unsound_at img q ≡ false
        → (in_slot img p 0 ≡ 0) ⊎ (in_slot img p 0 ≡ in_slot img q 0 → ⊥) ⊎ ((r : ℕ) → Touches (in_slot img p) r → Touches (in_slot img q) r → ⊥)
        → Tied (in_slot img p) (in_slot img q) → ⊥
    untied img p q a b (inl z) t = t.0.0 z
    untied img p q a b (inr (inl n)) t = n t.0.1
    untied img p q a b (inr (inr n)) t =
        let j = t.1 in
        let i = t.1.2.1 in
        n (touched_of (in_slot img p) j.0) (touches (word img 1) (in_slot img p) (sound-of _ _ a t.0.0) j.0 j.2.0)
        (rw (sym i.2.1) (touches (word img 1) (in_slot img q) (sound-of _ _ b (λ z. t.0.0 (t.0.1 ∙ z))) i.0 i.2.0))
