-- What each answer of read and write tells.
use Rattle.std.specs.Prelude.{ℕ, ⊤, List}
use Rattle.layout.specs.Refusal.{Answer}
use Rattle.layout.specs.Told.{Told, tells, ok, own, copied, home}
use Rattle.snapshot.specs.declared.seeing.Source.{Source}
use Rattle.snapshot.specs.declared.seeing.Source.TheVariants.{Own, Copy, Home}
use Rattle.snapshot.specs.declared.seeing.Sight.{Sight}

-- whose words they are, with the words
abbrev pub words_from : Source → List ℕ → Told
words_from Own ws = own ws
words_from Copy ws = copied ws
words_from Home ws = home ws

abbrev pub sight_told : Sight → Told
sight_told x = words_from x.source x.words

abbrev pub read_told : Answer Sight → Told
read_told = tells sight_told

-- 7 with the holder
abbrev pub write_told : Answer ⊤ → Told
write_told = tells (λ x. ok)
