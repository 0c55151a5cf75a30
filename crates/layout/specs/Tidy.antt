-- What holds of every list of entries (document 01, "Stores and fences").
use Rattle.std.specs.Prelude.{ℕ, ◌≤◌, true, ◌≡◌, List, [], length}
use Rattle.layout.specs.Entries.{Entry, once, ends_fenced}

-- of a call with this fault, whose answer gives the number n: a refusal's list is empty, no list is longer than 24 entries, within one
-- fence group no index appears twice, a list that is not empty ends with a fence, and n is the length of the list
pub record Tidy (fault n : ℕ) (es : List Entry) : Type 0 where
  pub refused : (fault ≡ 0 → ⊥) → es ≡ []
  pub short : length es ≤ 24
  pub apart : once es ≡ true
  pub fenced : ends_fenced es ≡ true
  pub counted : n ≡ length es
