use Prim.Native.Nat.{ℕ}
use mathlib.Core.Bool.{cond}
use mathlib.Core.Path.{ap, ◌∙◌}
use Rattle.layout.specs.Image.{place_of, persist_at}
use Rattle.layout.specs.Oldest.{oldest_of, older_seen}
use Rattle.layout.proofs.OldestLaws.{oldest-seen}
use Rattle.commit.specs.Reclaim.{in_use}
use Rattle.commit.proofs.reclaiming.older_slot.Goals as goal

pub returns : goal.returns
unfolding oldest_of
returns c =
    let number = λ (q : ℕ). cond (in_use c.args.entry.now q) 0 (persist_at c.args.image.now c.args.n (place_of c.args.session q)) in
    c.older.ensures ∙ rw (c.settled_number-2.ensures, c.older-low.ensures, c.settled_number.ensures)
    (ap (λ b. older_seen b (number 1) 1) (oldest-seen number 0) ∙ oldest-seen number 1)
