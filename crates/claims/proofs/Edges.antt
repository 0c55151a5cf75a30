-- The lettered cases, by computation.
use mathlib.Core.Path.{refl}
use Rattle.layout.specs.Below.{all_below, any_below, count_below, lowest}
use Rattle.layout.specs.Checks.{first, answered}
use Rattle.layout.specs.Image.{shaped_b, occupied_b}
use Rattle.layout.specs.Lay.{lay_fault, lay_answer}
use Rattle.layout.specs.Homes.{homes_writes}
use Rattle.journal.specs.Changes.{changes_of, changes_below}
use Rattle.journal.specs.Lengths.{finish_length, recover_length, seal_length, replay_length}
use Rattle.journal.specs.Log.{pairs_writes, denoted, body_writes, short_writes, unsound_b, shared_b}
use Rattle.layout.specs.Oldest.{oldest_of}
use Rattle.layout.specs.Refusal.{cause}
use Rattle.desk.specs.Desk.{unmarked}
use Rattle.desk.specs.Coherent.{fresh_b, places_ok, session_ok, copies_b, coherent_b}
use Rattle.desk.specs.Entering.{entry_fault}
use Rattle.recovery.specs.Open.{open_fault, open_reply}
use Rattle.snapshot.specs.Read.{read_fault, sight_of, read_reply}
use Rattle.snapshot.specs.Write.{copy_fault, write_fault, write_refused, write_reply}
use Rattle.commit.specs.Finish.{finish_fault, finish_entries, finish_reply}
use Rattle.commit.specs.Reclaim.{reclaim_fault, reclaim_reply}
use Rattle.recovery.specs.Recover.{unsound_place, tied_below, ties_b, recover_fault, first_log, recover_refused, recover_reply}
use Rattle.claims.specs.Edges.{Edges}

pub edges : Edges
unfolding all_below any_below count_below lowest first answered cause shaped_b occupied_b lay_fault lay_answer homes_writes body_writes denoted pairs_writes short_writes changes_of changes_below seal_length replay_length finish_length recover_length unsound_b shared_b oldest_of unmarked fresh_b places_ok session_ok copies_b coherent_b entry_fault open_fault open_reply read_fault sight_of read_reply copy_fault write_fault write_refused write_reply finish_fault finish_entries finish_reply reclaim_fault reclaim_reply unsound_place tied_below ties_b recover_fault first_log recover_refused recover_reply
edges =
    record {
      a-lay = refl;
      a-lay-short = refl;
      a-open = refl;
      a-open-short = refl;
      b = refl;
      c-answer = refl;
      c-words = refl;
      d-answer = refl;
      d-words = refl;
      e = refl;
      f = refl;
      g-seals = refl;
      g-refused = refl;
      g-limit = refl;
      h = refl;
      i = refl;
      h-short = refl;
      i-short = refl;
      hi-entries = refl;
      hi-short-entries = refl;
      j = refl;
      k = refl;
      m = refl;
      n = refl;
    }
