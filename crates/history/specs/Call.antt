-- The session calls, with whatever a caller may pass: any session, record, words and number, and any length of the trace, which finish,
-- publish, group, settle and reclaim take first. A group is a set of sessions that are published together (document 02, Req 06).
use Rattle.std.specs.Prelude.{ℕ, List}

-- the calls of the listening room (document 02, Req 03); find takes a session and a shelf number
pub data Listening : Type 0 where
  Begin : ℕ → Listening
  Read : ℕ → ℕ → Listening
  Finish : ℕ → ℕ → Listening
  Find : ℕ → ℕ → Listening

pub data Call : Type 0 where
  begin : ℕ → Call
  read : ℕ → ℕ → Call
  write : ℕ → ℕ → List ℕ → Call
  abandon : ℕ → Call
  finish : ℕ → ℕ → Call
  publish : ℕ → ℕ → Call
  group : ℕ → ℕ → Call
  settle : ℕ → ℕ → Call
  reclaim : ℕ → ℕ → Call
  listen : Listening → Call
