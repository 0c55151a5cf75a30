-- The records that a search looks at (document 02, Req 03).
use Rattle.std.specs.Prelude.{ℕ, suc, cond}
use Rattle.std.proofs.Math.Option.{Option, none, some}
use Rattle.layout.specs.Told.{Told, nothing, is_refusal}
use Rattle.history.specs.Call.{Listening, Begin, Read, Finish, Find, Call, begin, read, write, abandon, finish, publish, group, settle, reclaim, listen}
use Rattle.history.specs.Desk.{Session, idle, active, sealed, published, Desk, holder}
use Rattle.history.specs.Due.{shown_by, reads_other, first_shelved, due}
use Rattle.history.specs.History.{History, view_at}
use Rattle.history.specs.Ledger.{Ledger}

-- how many, from record 0 up, and what each of them gives
pub record Looks : Type 0 where
  pub number : ℕ
  pub gives : ℕ → Told

abbrev pub no_looks : Looks
no_looks = record { number = 0; gives = λ r. nothing }

-- it stops at the first match, else it looks at all N
abbrev pub looked_to : ℕ → Option ℕ → ℕ
looked_to N none = N
looked_to N (some r) = suc r

-- each gives the history's view at the session's start, as a read does
abbrev pub looks_of : ℕ → ℕ → Desk → History → ℕ → Session → Looks
looks_of N M d h k idle = no_looks
looks_of N M d h k (active b q cs) =
    record {
      number = looked_to N (first_shelved N h b k);
      gives = λ r. (reads_other (shown_by b d (holder M d r)) (view_at h b r)).answer;
    }
looks_of N M d h k (sealed n q cs) = no_looks
looks_of N M d h k (published e q cs) = no_looks

abbrev pub looks_listening : ℕ → ℕ → Desk → History → Listening → Looks
looks_listening N M d h (Begin s) = no_looks
looks_listening N M d h (Read s r) = no_looks
looks_listening N M d h (Finish len s) = no_looks
looks_listening N M d h (Find s k) = looks_of N M d h k (d.session s)

abbrev pub looks_in : ℕ → ℕ → Desk → History → Call → Looks
looks_in N M d h (begin s) = no_looks
looks_in N M d h (read s r) = no_looks
looks_in N M d h (write s r ws) = no_looks
looks_in N M d h (abandon s) = no_looks
looks_in N M d h (finish len s) = no_looks
looks_in N M d h (publish len s) = no_looks
looks_in N M d h (group len set) = no_looks
looks_in N M d h (settle len s) = no_looks
looks_in N M d h (reclaim len s) = no_looks
looks_in N M d h (listen c) = looks_listening N M d h c

-- the looks that are due of a call: none of one that is refused
unfoldable pub due_looks : ℕ → ℕ → Ledger → Call → Looks
due_looks N M L c = cond (is_refusal (due N M L c).answer) no_looks (looks_in N M L.desk L.history c)
