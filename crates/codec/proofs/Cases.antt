-- What `decode_of` is in each of its cases.
use Rattle.std.proofs.Common.{◌≡◌, ℕ, List, ◌+◌, ◌≤◌, ◌<◌, length, get_or}
use borrow.Author.Tests.{eq-eqb, ne_eqb, lt-ltb, le-ltb}
use Rattle.codec.specs.Steps.{body_of, whole_of, decode_of}
use Rattle.codec.specs.declared.decoding.Found.TheVariants.{Bad, Short, End}

pub decode-end : (s : List ℕ) → length s ≡ 0 → End ≡ decode_of s
unfolding decode_of
decode-end s e = simp (eq-eqb _ _ e)

pub decode-bad : (s : List ℕ) → (length s ≡ 0 → ⊥) → 9 < get_or s 0 0 → Bad ≡ decode_of s
unfolding decode_of
decode-bad s n h = simp (ne_eqb _ _ n, lt-ltb _ _ h)

pub decode-short : (s : List ℕ) → (length s ≡ 0 → ⊥) → get_or s 0 0 ≤ 9 → length s < body_of (get_or s 0 0) + 1 → Short ≡ decode_of s
unfolding decode_of
decode-short s n h l = simp (ne_eqb _ _ n, le-ltb _ _ h, lt-ltb _ _ l)

pub decode-whole : (s : List ℕ) → (length s ≡ 0 → ⊥) → get_or s 0 0 ≤ 9 → body_of (get_or s 0 0) + 1 ≤ length s
    → whole_of (get_or s 0 0) s ≡ decode_of s
unfolding decode_of
decode-whole s n h l = simp (ne_eqb _ _ n, le-ltb _ _ h, le-ltb _ _ l)

pub ruleset cases = (decode-end, decode-bad, decode-short, decode-whole)
