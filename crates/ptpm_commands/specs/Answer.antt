-- `ptpm answer`: its clock as the definitions of a turn see it, and what is printed of a turn (this project's profile). The
-- clock's table of sixteen slots is seen by what it shows of itself.
use Rattle.std.specs.Prelude.{◌≡◌, ℕ, List, [], ◌∷◌, ◌++◌, Option, Ok, codes, decimal, flat_map}
use Rattle.std.specs.Io.KnownBytes.{Appends}
use Rattle.hex.specs.Hex.{decode_of}
use Rattle.ptpm_agent.specs.Agent.{clock_of, state_of}
use Rattle.ptpm_agent.specs.declared.agent.Agent.{Agent}
use Rattle.ptpm_agent.specs.Laws.{initial_clock_state}
use Rattle.ptpm_agent.specs.Turn.{Clock, State, outbox_of, turn}
use Rattle.ptpm_table.specs.declared.reply_table.ReplyTable.{Ghosts}
use Rattle.ptpm_table.specs.Tables.{OfSixteen, entries_of_sixteen, owner_of_sixteen}
use Rattle.ptpm_table.specs.Managers.{clock_with}
use Rattle.ptpm_text.specs.OctetText.{text_of_octets}
use Rattle.ptpm_commands.specs.FreshClock.{fresh_sets, managers, shown}

-- its identity, and its managers with their rights: `ReplyTable`'s owner
abbrev pub clock_shown : {g : Ghosts OfSixteen} → Agent OfSixteen g → Clock
clock_shown a = clock_of owner_of_sixteen a

-- its data sets, and what it keeps of its managers: `ReplyTable`'s entries
abbrev pub state_shown : {g : Ghosts OfSixteen} → Agent OfSixteen g → State
state_shown a = state_of entries_of_sixteen a

-- ---- what is printed

-- a message that is sent: its port, and its octets in hexadecimal
abbrev pub sent_line : ℕ × List ℕ → List ℕ
sent_line sent = decimal sent.0 ++ codes " " ++ text_of_octets sent.1 ++ 10 ∷ []

-- a line for each message, or one that says that there is none
abbrev pub sent_lines : List (ℕ × List ℕ) → List ℕ
sent_lines [] = codes "nothing" ++ 10 ∷ []
sent_lines (sent ∷ more) = flat_map sent_line (sent ∷ more)

-- what a clock sends for a datagram at its port 1
abbrev pub answered : Clock → State → List ℕ → List ℕ
answered c s datagram = sent_lines (outbox_of (turn c s 1 datagram))

-- the same of the fresh clock with its manager
abbrev pub answered_first : List ℕ → List ℕ
answered_first datagram = answered (clock_with shown managers) (initial_clock_state fresh_sets) datagram

-- a writer took what the fresh clock sends for the datagram of these digits
abbrev pub IsAnswered : List ℕ → Option (List ℕ) → Option (List ℕ) → Type 0
IsAnswered digits before after = (datagram : List ℕ) × ((decode_of digits ≡ Ok datagram) × Appends before after (answered_first datagram))

-- ---- datagrams, one after another

-- the state of a clock after these datagrams
abbrev pub state_behind : Clock → State → List (List ℕ) → State
state_behind c s [] = s
state_behind c s (datagram ∷ more) = state_behind c (turn c s 1 datagram).next more

-- what it sends for them
abbrev pub answered_each : Clock → State → List (List ℕ) → List ℕ
answered_each c s [] = []
answered_each c s (datagram ∷ more) = answered c s datagram ++ answered_each c (turn c s 1 datagram).next more

-- a writer took what the fresh clock sends for some datagrams
pub record IsAnsweredEach (before after : Option (List ℕ)) : Type 0 where
  pub datagrams : List (List ℕ)
  pub printed : Appends before after (answered_each (clock_with shown managers) (initial_clock_state fresh_sets) datagrams)
