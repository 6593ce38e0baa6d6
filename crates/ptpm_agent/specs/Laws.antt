-- What joins the turns of a clock to at-most-once execution.
use Rattle.std.specs.Prelude.{◌≡◌, ℕ, ◌<◌, List, [], ◌∷◌, map, false, Option, Some, None}
use Rattle.std.specs.FinMap.{get, empty}
use Rattle.ptpm_codec.specs.declared.identity.PortIdentity.{PortIdentity}
use Rattle.ptpm_data.specs.Members.{DataSetsValue}
use Rattle.ptpm_data.specs.Reply.{ReplyValue}
use Rattle.ptpm_table.specs.Entries.{Entries, Entry, is_known}
use Rattle.ptpm_agent.specs.Turn.{Clock, State, outbox_of, turn, reply_messages}
use Rattle.ptpm_agent.specs.Once.{Delivery, RequestCopy, History, greatest, kept_reply}
use Rattle.ptpm_codec.specs.SequenceNumber.{number_of}

-- a clock that has heard nothing yet
abbrev pub initial_clock_state : DataSetsValue → State
initial_clock_state d = record { sets = d; entries = empty }

-- a clock after these deliveries
abbrev pub turns : Clock → State → List Delivery → State
turns c s [] = s
turns c s (x ∷ xs) = turns c (turn c s x.ingress x.datagram).next xs

-- a clock after these datagrams, each with the port that it comes in at
abbrev pub after_each : Clock → State → List (ℕ × List ℕ) → State
after_each c s [] = s
after_each c s (x ∷ xs) = after_each c (turn c s x.0 x.1).next xs

-- what an outbox holds then: what is sent for the last of them, or what it held before if there is none
abbrev pub last_sent : Clock → State → List (ℕ × List ℕ) → List (ℕ × List ℕ) → List (ℕ × List ℕ)
last_sent c s before [] = before
last_sent c s before (x ∷ xs) =
    last_sent c (turn c s x.0 x.1).next (outbox_of (turn c s x.0 x.1)) xs

-- the datagrams of these deliveries, each with its port
abbrev pub datagrams_of : List Delivery → List (ℕ × List ℕ)
datagrams_of xs = map (λ x. (x.ingress, x.datagram)) xs

-- the messages of the reply that is due to a copy
abbrev pub due_messages : Clock → RequestCopy → Option ReplyValue → List (ℕ × List ℕ)
due_messages c x r = reply_messages c x.ingress x.heard r

-- the entry of a manager is its latest accepted request, with its sequenceId and its reply
pub record IsLatest (first : PortIdentity → ℕ) (h : History) (m : PortIdentity)
    (e : Entry) : Type 0 where
  pub some : 0 < greatest m h.accepted
  pub kept : kept_reply m (greatest m h.accepted) h.accepted
      ≡ Some (record { manager = m; index = greatest m h.accepted; request = e.request; reply = e.reply })
  pub number : e.number ≡ number_of (first m) (greatest m h.accepted)

-- no entry if nothing of the manager was accepted
abbrev pub IsKept : (PortIdentity → ℕ) → History → PortIdentity → Option Entry → Type 0
IsKept first h m None = greatest m h.accepted ≡ 0
IsKept first h m (Some e) = IsLatest first h m e

-- the clock is at the history: it has its data sets, and of each manager the latest accepted request
pub record StandsAt (first : PortIdentity → ℕ) (s : State) (h : History) : Type 0 where
  pub sets : s.sets ≡ h.sets
  pub entries : (m : PortIdentity) → IsKept first h m (get s.entries m)

-- nothing is kept of anyone but the configured managers
abbrev pub AreOfManagers : Clock → Entries → Type 0
AreOfManagers c entries = (m : PortIdentity) → is_known m c.managers ≡ false → get entries m ≡ None
