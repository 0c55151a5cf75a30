-- The list of active sessions in digits, computed.
use mathlib.Core.Path.{refl}
use Rattle.layout.specs.Below.{all_below, any_below, count_below, lowest}
use Rattle.layout.specs.Checks.{first, answered}
use Rattle.layout.specs.Image.{shaped_b}
use Rattle.layout.specs.Oldest.{oldest_of}
use Rattle.desk.specs.Abandon.{abandon_fault, abandon_reply}
use Rattle.desk.specs.Begin.{begin_fault, begin_reply}
use Rattle.desk.specs.Coherent.{fresh_b, places_ok, session_ok, copies_b, coherent_b}
use Rattle.desk.specs.Desk.{without, unmarked}
use Rattle.desk.specs.Entering.{session_fault, entry_fault}
use Rattle.snapshot.specs.Write.{copy_fault, write_fault, write_refused, write_reply}
use Rattle.commit.specs.Finish.{finish_fault, finish_reply}
use Rattle.commit.specs.Settle.{settle_fault, oldest_reader, settle_reply}
use Rattle.store.specs.ListInDigits.{ListInDigits}

pub list-in-digits : ListInDigits
unfolding all_below any_below count_below lowest first answered shaped_b oldest_of fresh_b places_ok session_ok copies_b coherent_b without unmarked session_fault entry_fault
    begin_fault begin_reply abandon_fault abandon_reply copy_fault write_fault write_refused write_reply finish_fault finish_reply
    settle_fault oldest_reader settle_reply
list-in-digits =
    record {
      in_order = refl;
      equal-starts = refl;
      nobody = refl;
      zero-alone = refl;
      falls = refl;
      falls-last = refl;
      missing = refl;
      missing-alone = refl;
      twice = refl;
      idle = refl;
      sealed = refl;
      sixteen = refl;
      behind = refl;
      behind-again = refl;
      begun = refl;
      begun-zero = refl;
      first_out = refl;
      middle-out = refl;
      last_out = refl;
      empty-out = refl;
      taken_out = refl;
      one = refl;
      lowest = refl;
      lowest-last = refl;
      zero-later = refl;
      zero-idle = refl;
      at-end = refl;
      alone = refl;
    }
