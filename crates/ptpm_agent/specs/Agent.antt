-- An agent as code, against the definitions: over any reply table, by what the table shows of itself.
use Rattle.std.specs.Prelude.{◌≡◌, ℕ, List}
use Rattle.ptpm_table.specs.declared.reply_table.ReplyTable.{Ghosts}
use Rattle.ptpm_table.specs.Entries.{Entries}
use Rattle.ptpm_agent.specs.declared.agent.Agent.{Agent}
use Rattle.ptpm_agent.specs.declared.verdict.Verdict.{Verdict}
use Rattle.ptpm_agent.specs.Turn.{Clock, State, Turned, outbox_of}

-- the clock of an agent, by the owner of its table
abbrev pub clock_of : {T : Type 0} {g : Ghosts T} → (T → Clock) → Agent T g → Clock
clock_of owner agent = owner agent.table

-- the state of an agent, by its data sets and the entries of its table
abbrev pub state_of : {T : Type 0} {g : Ghosts T} → (T → Entries) → Agent T g → State
state_of entries agent = record { sets = agent.sets; entries = entries agent.table }

-- a call answers this verdict, sends these messages, and leaves this state, as the turn says
pub record IsTurned (t : Turned) (verdict : Verdict) (outbox : List (ℕ × List ℕ))
    (next : State) : Type 0 where
  pub verdict_is : verdict ≡ t.verdict
  pub outbox_is : outbox ≡ outbox_of t
  pub sets_are : next.sets ≡ t.next.sets
  pub entries_are : next.entries ≡ t.next.entries
