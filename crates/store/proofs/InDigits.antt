-- Each row is computed. That its desk is coherent is computed once for each desk.
use mathlib.Core.Bool.{true}
use mathlib.Core.Path.{◌≡◌, refl}
use Rattle.layout.specs.Below.{all_below, any_below, count_below, lowest}
use Rattle.layout.specs.Checks.{first, answered}
use Rattle.layout.specs.Homes.{homes_writes}
use Rattle.layout.specs.Image.{shaped_b, occupied_b}
use Rattle.layout.specs.Lay.{lay_fault, lay_answer, laid_image}
use Rattle.layout.specs.Oldest.{oldest_of}
use Rattle.layout.specs.Refusal.{cause}
use Rattle.journal.specs.Changes.{changes_of, changes_below}
use Rattle.journal.specs.Lengths.{finish_length, settle_length, recover_length, seal_length, replay_length}
use Rattle.journal.specs.Log.{pairs_writes, denoted, body_writes, short_writes, unsound_b, shared_b}
use Rattle.desk.specs.Coherent.{fresh_b, places_ok, session_ok, copies_b, coherent_b}
use Rattle.desk.specs.Desk.{without, unmarked}
use Rattle.desk.specs.Entering.{entry_fault}
use Rattle.desk.specs.Publish.{publish_fault, publish_entries, publish_reply}
use Rattle.desk.specs.declared.state.Phase.TheVariants.{Active, Sealed, Published}
use Rattle.snapshot.specs.Write.{copy_fault, write_fault, write_reply}
use Rattle.commit.specs.Finish.{finish_fault, finish_entries, finish_reply}
use Rattle.commit.specs.Settle.{settle_fault, oldest_reader, settle_entries, settle_reply}
use Rattle.commit.specs.Reclaim.{reclaim_fault, reclaim_entries, reclaim_reply}
use Rattle.recovery.specs.Open.{open_fault, open_entries, open_reply}
use Rattle.recovery.specs.Recover.{unsound_place, tied_below, ties_b, recover_fault, first_log, recover_entries, recover_refused, recover_reply}
use Rattle.store.specs.InDigits.{InDigits, one_desk, one_begun, one_idle, second_desk, two_desk, four_desk, pair_idle}

record DesksCoherent : Type 0 where
  active : coherent_b (one_desk 7 (Active 5)) ≡ true
  sealed : coherent_b (one_desk 7 (Sealed 7)) ≡ true
  sealed-late : coherent_b (one_desk 1025 (Sealed 7)) ≡ true
  published : coherent_b (one_desk 8 (Published 8)) ≡ true
  idle : coherent_b (one_idle 8) ≡ true
  begun : coherent_b one_begun ≡ true
  second : coherent_b (second_desk (Active 8)) ≡ true
  two-active : coherent_b (two_desk 7 (Active 5)) ≡ true
  two-published : coherent_b (two_desk 8 (Published 8)) ≡ true
  four-active : coherent_b (four_desk 7 (Active 5)) ≡ true
  four-published : coherent_b (four_desk 8 (Published 8)) ≡ true
  pair-idle : coherent_b pair_idle ≡ true

coherent : DesksCoherent
unfolding all_below any_below count_below fresh_b places_ok session_ok copies_b coherent_b
coherent =
    record {
      active = refl;
      sealed = refl;
      sealed-late = refl;
      published = refl;
      idle = refl;
      begun = refl;
      second = refl;
      two-active = refl;
      two-published = refl;
      four-active = refl;
      four-published = refl;
      pair-idle = refl;
    }

pub in-digits : InDigits
unfolding any_below lowest first answered cause homes_writes shaped_b occupied_b lay_fault lay_answer laid_image oldest_of
    finish_length settle_length recover_length seal_length replay_length changes_of changes_below
    pairs_writes denoted body_writes short_writes unsound_b shared_b without unmarked entry_fault
    publish_fault publish_entries publish_reply copy_fault write_fault write_reply finish_fault finish_entries finish_reply
    settle_fault oldest_reader settle_entries settle_reply reclaim_fault reclaim_entries reclaim_reply
    open_fault open_entries open_reply unsound_place tied_below ties_b recover_fault first_log recover_entries recover_refused recover_reply
in-digits =
    record {
      fence-index = refl;
      trace-words = refl;
      lay-one = refl;
      lay-two = refl;
      lay-told = refl;
      open-laid = refl;
      open-laid-desk = refl;
      open-again = refl;
      open-again-desk = refl;
      open-too-long = refl;
      finish-one = rw coherent.active;
      finish-one-desk = rw coherent.active;
      finish-two = rw coherent.two-active;
      finish-two-desk = rw coherent.two-active;
      finish-four = rw coherent.four-active;
      write-second = rw coherent.begun;
      finish-second = rw coherent.second;
      finish-second-desk = rw coherent.second;
      publish-raised = rw coherent.sealed-late;
      publish-raised-desk = rw coherent.sealed-late;
      publish-under = rw coherent.sealed;
      settle-one = rw coherent.published;
      settle-one-desk = rw coherent.published;
      settle-two = rw coherent.two-published;
      settle-two-desk = rw coherent.two-published;
      settle-four = rw coherent.four-published;
      reclaim-one = rw coherent.idle;
      reclaim-one-desk = rw coherent.idle;
      reclaim-held = rw coherent.pair-idle;
      reclaim-pair = rw coherent.pair-idle;
      recover-first = refl;
      recover-next = refl;
      recover-clean = refl;
      recover-four = refl;
      recover-at-n = refl;
      recover-count-five = refl;
      recover-tied = refl;
      recover-tied-across = refl;
      recover-even = refl;
    }
