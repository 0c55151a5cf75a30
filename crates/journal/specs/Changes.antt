-- The words of copies that differ from the home records, in ascending index (document 02, Req 08), and the contract of the one pass that
-- gathers them.
use Rattle.std.specs.Prelude.{ℕ, zero, suc, ◌+◌, ◌*◌, ◌≤◌, true, cond, ◌≡◌, List, [], ◌∷◌, ◌++◌, length, get_or, ltb, eqb}
use Rattle.layout.specs.Entries.{Write}

-- a home word at index i, and the word that it is to have: nothing where they are equal, else index and new word
abbrev pub change_at : ℕ → ℕ → ℕ → List Write
change_at i old new = cond (eqb old new) [] ((i, new) ∷ [])

-- of a record's four words those that differ; its first word has the home word index 4r
abbrev pub changes_in : ℕ → List ℕ → List ℕ → List Write
changes_in r old new =
    change_at (4 * r) (get_or old 0 0) (get_or new 0 0)
    ++ (change_at (4 * r + 1) (get_or old 1 0) (get_or new 1 0)
    ++ (change_at (4 * r + 2) (get_or old 2 0) (get_or new 2 0) ++ change_at (4 * r + 3) (get_or old 3 0) (get_or new 3 0)))

-- of the one of the first c copies that has record r; nothing where none has it
unfoldable pub changes_of : (ℕ → List ℕ) → (ℕ → ℕ) → (ℕ → List ℕ) → ℕ → ℕ → List Write
changes_of home rec words r zero = []
changes_of home rec words r (suc c) = cond (eqb (rec c) r) (changes_in r (home r) (words c)) (changes_of home rec words r c)

-- of the copies of records below n
unfoldable pub changes_below : (ℕ → List ℕ) → (ℕ → ℕ) → (ℕ → List ℕ) → ℕ → ℕ → List Write
changes_below home rec words c zero = []
changes_below home rec words c (suc r) = changes_below home rec words c r ++ changes_of home rec words r c

-- ---- contracts

-- of c copies with the changes ws, `found` were found: all of them, or too many for a short log
pub record Gathered (ws : List Write) (c : ℕ) (found : List Write) : Type 0 where
  pub same : ltb (2 * length found) (5 * c) ≡ ltb (2 * length ws) (5 * c)
  pub few : length found ≤ 13
  pub noted : ltb (2 * length found) (5 * c) ≡ true → found ≡ ws
