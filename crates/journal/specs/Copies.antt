-- Copies of records, by their place in a list.
use Rattle.std.specs.Prelude.{ℕ, List, get_or}
use Rattle.desk.specs.Desk.{no_copy}
use Rattle.desk.specs.declared.state.RecordCopy.{RecordCopy}

-- the record and the words of copy j of some
abbrev pub rec_in : List RecordCopy → ℕ → ℕ
rec_in copies j = (get_or copies j no_copy).rec

abbrev pub words_in : List RecordCopy → ℕ → List ℕ
words_in copies j = (get_or copies j no_copy).words
