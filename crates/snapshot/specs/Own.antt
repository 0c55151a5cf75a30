-- A session's own copies, and four zero words.
use Rattle.std.specs.Prelude.{ℕ, List, replicate}
use Rattle.layout.specs.Below.{lowest}
use Rattle.desk.specs.Coherent.{place_has}
use Rattle.desk.specs.declared.state.Session.{Session}

-- the place of the session's own copy of record r; 4 where it has none
abbrev pub own_place : Session → ℕ → ℕ
own_place e r = lowest 4 (place_has e r)

-- four zero words
abbrev pub zero_words : List ℕ
zero_words = replicate 4 0
