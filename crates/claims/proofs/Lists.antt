-- Every list of entries is tidy, and each number of the table is the formula's.
use mathlib.Core.Path.{refl}
use Rattle.commit.proofs.Lists.{finish-tidy, settle-tidy, reclaim-tidy}
use Rattle.desk.proofs.PublishLaws.{publish-tidy}
use Rattle.desk.proofs.GroupLaws.{group-tidy}
use Rattle.recovery.proofs.OpenLaws.{open-tidy}
use Rattle.recovery.proofs.Lists.{recover-tidy}
use Rattle.listening.proofs.FinishLaws.{no-entries}
use Rattle.journal.specs.Lengths.{finish_length, settle_length, recover_length}
use Rattle.claims.specs.Lists.{Lists, LengthTable}

pub lists : Lists
lists =
    record {
      opens = open-tidy;
      finish = finish-tidy;
      publish = publish-tidy;
      group = group-tidy;
      settle = settle-tidy;
      reclaim = reclaim-tidy;
      listen-finish = no-entries;
      recover = recover-tidy;
      reclaim-count = λ img d s. refl;
      raise-count = λ clock. refl;
    }

pub length-table : LengthTable
unfolding finish_length settle_length recover_length
length-table =
    record {
      finish-1 = refl;
      finish-2 = refl;
      finish-3 = refl;
      finish-4 = refl;
      settle-1 = refl;
      settle-2 = refl;
      settle-3 = refl;
      settle-4 = refl;
      recover-1 = refl;
      recover-2 = refl;
      recover-3 = refl;
      recover-4 = refl;
    }
