-- Each row is computed. That its desk is coherent is computed once for each desk.
use mathlib.Core.Bool.{true}
use mathlib.Core.Path.{◌≡◌, refl}
use mathlib.Core.List.{[], ◌∷◌}
use Rattle.layout.specs.Below.{all_below, any_below, count_below, lowest}
use Rattle.layout.specs.Checks.{first, answered}
use Rattle.layout.specs.Homes.{homes_writes}
use Rattle.layout.specs.Image.{shaped_b, occupied_b}
use Rattle.layout.specs.Oldest.{oldest_of}
use Rattle.layout.specs.Refusal.{cause}
use Rattle.journal.specs.Changes.{changes_of, changes_below}
use Rattle.journal.specs.Lengths.{finish_length, recover_length, seal_length, replay_length}
use Rattle.journal.specs.Log.{pairs_writes, denoted, body_writes, short_writes, unsound_b, shared_b}
use Rattle.desk.specs.Coherent.{fresh_b, places_ok, session_ok, copies_b, coherent_b}
use Rattle.desk.specs.Entering.{entry_fault}
use Rattle.commit.specs.Finish.{finish_fault, finish_entries, finish_reply}
use Rattle.recovery.specs.Recover.{unsound_place, tied_below, ties_b, recover_fault, first_log, recover_entries, recover_refused, recover_reply}
use Rattle.store.specs.ShortInDigits.{ShortInDigits, one_edit, two_edits, seven_edits, eight_edits, nine_edits, ten_edits}

record DesksCoherent : Type 0 where
  same : coherent_b (one_edit (101 ∷ 102 ∷ 103 ∷ 104 ∷ [])) ≡ true
  one_word : coherent_b (one_edit (101 ∷ 502 ∷ 103 ∷ 104 ∷ [])) ≡ true
  two-words : coherent_b (one_edit (501 ∷ 102 ∷ 103 ∷ 504 ∷ [])) ≡ true
  three-words : coherent_b (one_edit (101 ∷ 502 ∷ 503 ∷ 504 ∷ [])) ≡ true
  two-four : coherent_b (two_edits (111 ∷ 512 ∷ 513 ∷ 114 ∷ []) (101 ∷ 102 ∷ 503 ∷ 504 ∷ [])) ≡ true
  two-five : coherent_b (two_edits (511 ∷ 112 ∷ 513 ∷ 514 ∷ []) (501 ∷ 502 ∷ 103 ∷ 104 ∷ [])) ≡ true
  three-seven : coherent_b seven_edits ≡ true
  three-eight : coherent_b eight_edits ≡ true
  four-nine : coherent_b nine_edits ≡ true
  four-ten : coherent_b ten_edits ≡ true

coherent : DesksCoherent
unfolding all_below any_below count_below fresh_b places_ok session_ok copies_b coherent_b
coherent =
    record {
      same = refl;
      one_word = refl;
      two-words = refl;
      three-words = refl;
      two-four = refl;
      two-five = refl;
      three-seven = refl;
      three-eight = refl;
      four-nine = refl;
      four-ten = refl;
    }

pub short-in-digits : ShortInDigits
unfolding any_below lowest first answered cause homes_writes shaped_b occupied_b oldest_of
    finish_length recover_length seal_length replay_length changes_of changes_below
    pairs_writes denoted body_writes short_writes unsound_b shared_b entry_fault finish_fault finish_entries finish_reply
    unsound_place tied_below ties_b recover_fault first_log recover_entries recover_refused recover_reply
short-in-digits =
    record {
      finish-same = rw coherent.same;
      finish-one-word = rw coherent.one_word;
      finish-two-words = rw coherent.two-words;
      finish-three-words = rw coherent.three-words;
      finish-two-four = rw coherent.two-four;
      finish-two-five = rw coherent.two-five;
      finish-three-seven = rw coherent.three-seven;
      finish-three-eight = rw coherent.three-eight;
      finish-four-nine = rw coherent.four-nine;
      finish-four-ten = rw coherent.four-ten;
      recover-same = refl;
      recover-one-word = refl;
      recover-nine = refl;
      recover-mixed-first = refl;
      recover-mixed-next = refl;
      recover-tied-forms = refl;
      recover-apart = refl;
      recover-tied-shorts = refl;
      recover-none-touched = refl;
      recover-count-fifteen = refl;
      recover-count-twenty-six = refl;
      recover-count-top = refl;
      recover-count-four = refl;
      recover-count-twenty-five = refl;
      recover-last-index = refl;
      recover-index-four = refl;
      recover-equal-indexes = refl;
      recover-falling-indexes = refl;
      recover-past-pairs = refl;
    }
