-- Each case is computed.
use mathlib.Core.Path.{refl}
use Rattle.layout.specs.Below.{all_below, any_below, count_below, lowest}
use Rattle.layout.specs.Checks.{first, answered}
use Rattle.layout.specs.Image.{shaped_b}
use Rattle.layout.specs.Refusal.{cause}
use Rattle.desk.specs.Begin.{begin_fault, begin_reply}
use Rattle.desk.specs.Coherent.{fresh_b, places_ok, session_ok, copies_b, coherent_b}
use Rattle.desk.specs.Entering.{session_fault, entry_fault}
use Rattle.desk.specs.Group.{member, store_fault, set_fault, group_fault, group_entries, published_below, group_reply}
use Rattle.snapshot.specs.Read.{read_fault, sight_of, read_reply}
use Rattle.store.specs.VanLoads.{VanLoads}

pub van-loads : VanLoads
unfolding all_below any_below count_below lowest first answered cause shaped_b fresh_b places_ok session_ok copies_b coherent_b member store_fault set_fault group_fault group_entries published_below group_reply session_fault entry_fault begin_fault begin_reply read_fault sight_of read_reply
van-loads =
    record {
      two-told = refl;
      two-clock = refl;
      two-first = refl;
      two-beside = refl;
      two-last = refl;
      three = refl;
      three-told = refl;
      one_told = refl;
      end_below = refl;
      end-at = refl;
      end-above = refl;
      end-counted = refl;
      end-last = refl;
      clock-past = refl;
      end-past = refl;
      empty = refl;
      empty-short = refl;
      empty-clock = refl;
      empty-wrong = refl;
      at-m = refl;
      at-fifteen = refl;
      at-m-idle = refl;
      at-m-left = refl;
      idle = refl;
      active = refl;
      published = refl;
      idle-left = refl;
      not-member = refl;
      begins-behind = refl;
      first-behind = refl;
      last-behind = refl;
      first-before = refl;
      last-before = refl;
    }
