-- Contracts of the helpers that store and list: what a run of entries through a part of the image did.
use Rattle.std.specs.Prelude.{◌≡◌, List, [], ◌∷◌, ℕ, ◌+◌, ◌*◌, ◌≤◌, ◌<◌, ◌^◌, length, get_or, set}
use Rattle.layout.specs.Entries.{Entry, store, fence, Write, made, shift}

-- the entries listed one by one from trace word `at` on, as the code does it
abbrev pub written : ℕ → List Entry → List ℕ → List ℕ
written at [] t = t
written at (store i w ∷ es) t = written (at + 2) es (set (set t at i) (at + 1) w)
written at (fence ∷ es) t = written (at + 2) es (set (set t at 0xffff_ffff_ffff_ffff) (at + 1) 0)

-- the writes of a record's four words from index i on
abbrev pub word_writes : ℕ → List ℕ → List Write
word_writes i ws = (i, get_or ws 0 0) ∷ (i + 1, get_or ws 1 0) ∷ (i + 2, get_or ws 2 0) ∷ (i + 3, get_or ws 3 0) ∷ []

-- n stores from word i of the part, listed from word `at` of the trace, are in range
pub record Room (n base i at : ℕ) (part trace : List ℕ) : Type 0 where
  pub listing : at + 2 * n ≤ length trace
  pub storing : i + n ≤ length part
  pub numbers : base + i + n < 2 ^ 64

-- the part is `part'` with the entries' stores made, the trace `trace'` has them listed from `at`, and the next is listed at r
pub record Did (es : List Entry) (base at : ℕ) (part trace part' trace' : List ℕ) (r : ℕ) : Type 0 where
  pub stores : part' ≡ made es part
  pub lists : trace' ≡ written at (shift base es) trace
  pub next : r ≡ at + 2 * length es

-- a fence was listed at `at`, and the next entry is listed at r
pub record Fenced (at : ℕ) (trace trace' : List ℕ) (r : ℕ) : Type 0 where
  pub lists : trace' ≡ set (set trace at 0xffff_ffff_ffff_ffff) (at + 1) 0
  pub next : r ≡ at + 2
