-- The history at a cut (document 01, "The crash rule").
use Rattle.std.specs.Prelude.{ℕ, Bool, cond, List, eqb}
use Rattle.layout.specs.Image.{word, place_of, slot_at}
use Rattle.layout.specs.Told.{Told, is, value_of, Sealed}
use Rattle.history.specs.Call.{Call, begin, read, write, abandon, finish, publish, group, settle, reclaim, listen}
use Rattle.history.specs.Desk.{Desk}
use Rattle.history.specs.History.{History, sealing}
use Rattle.history.specs.Ledger.{slot_of}

-- the persist number n stands in the slot that the ledger's desk names for session s
abbrev pub number_arrived : ℕ → Desk → ℕ → ℕ → List ℕ → Bool
number_arrived N d s n img = eqb (word img (slot_at N (place_of s (slot_of (d.session s))))) n

-- the cut call is no step, but a finish whose persist number has arrived is sealed; img is what the cut leaves
abbrev pub feed_cut : ℕ → Desk → Call → Told → List ℕ → History → History
feed_cut N d (begin s) t img h = h
feed_cut N d (read s r) t img h = h
feed_cut N d (write s r ws) t img h = h
feed_cut N d (abandon s) t img h = h
feed_cut N d (finish len s) t img h = cond (is Sealed t) (cond (number_arrived N d s (value_of t) img) (sealing s h) h) h
feed_cut N d (publish len s) t img h = h
feed_cut N d (group len set) t img h = h
feed_cut N d (settle len s) t img h = h
feed_cut N d (reclaim len s) t img h = h
feed_cut N d (listen c) t img h = h
