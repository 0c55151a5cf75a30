-- What a call on a desk gives: the reply of one that stores, by its answer with the number of entries, or its refusal.
use Rattle.std.specs.Prelude.{ℕ, Ok, Err}
use Rattle.layout.specs.Refusal.{Answer}
use Rattle.desk.specs.declared.state.Desk.{Desk}
use Rattle.desk.specs.declared.reply.StoringReply.{StoringReply}

abbrev pub storing_reply : {T : Type 0} → Answer (T × ℕ) → Desk → StoringReply T
storing_reply (Ok (x, n)) d = record { answer = Ok x; entries = n; desk = d }
storing_reply (Err r) d = record { answer = Err r; entries = 0; desk = d }

-- and back
abbrev pub given_by : {T : Type 0} → StoringReply T → Answer (T × ℕ)
given_by r = with_entries r.answer r.entries
  where
    with_entries : {T : Type 0} → Answer T → ℕ → Answer (T × ℕ)
    with_entries (Ok x) n = Ok (x, n)
    with_entries (Err e) n = Err e
