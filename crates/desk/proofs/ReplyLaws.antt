-- A reply is made again of the answer with its entries, and its desk.
use Prim.Native.Nat.{ℕ, zero, suc}
use mathlib.Core.Path.{◌≡◌}
use Rattle.layout.specs.Checks.{answered}
use Rattle.desk.specs.Replies.{storing_reply, given_by}
use Rattle.desk.specs.declared.reply.StoringReply.{StoringReply}

-- of a refusal, and of what is done
pub reply-whole : {T : Type 0} (fault : ℕ) (refused : ℕ → StoringReply T) (done : StoringReply T)
    → ((k : ℕ) → storing_reply (given_by (refused k)) (refused k).desk ≡ refused k)
    → storing_reply (given_by done) done.desk ≡ done
    → storing_reply (given_by (answered fault refused done)) (answered fault refused done).desk ≡ answered fault refused done
unfolding answered
reply-whole zero refused done r d = d
reply-whole (suc k) refused done r d = r (suc k)
