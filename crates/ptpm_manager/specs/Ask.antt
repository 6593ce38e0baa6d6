-- What is asked of a session, and the request that it makes of it.
use Rattle.std.specs.Prelude.{◌≡◌, ◌≤◌, ◌⊎◌, ℕ, ◌&&◌, ◌||◌, ◌==◌, Bool, true, false, not, nat_le, List, [], ◌∷◌, Option, Some, None, if◌then◌else◌}
use Rattle.std.specs.Option.{option_or}
use Rattle.ptpm_codec.specs.declared.message.Action.{Action}
use Rattle.ptpm_codec.specs.Identity.{every_port}
use Rattle.ptpm_codec.specs.Message.{is_reply, is_data_field, IsDataField, IsRequestAction}
use Rattle.ptpm_data.specs.ManagementId.{is_of_port}
use Rattle.ptpm_data.specs.Request.{RequestValue}
use Rattle.ptpm_manager.specs.declared.ask.Ask.{Ask}
use Rattle.ptpm_manager.specs.declared.ask.Pending.{Pending}
use Rattle.ptpm_manager.specs.declared.error.BeginError.{BeginError}
use Rattle.ptpm_manager.specs.declared.error.BeginError.TheVariants.{NeedsPort, NotPermitted, BadValue}
use Rattle.ptpm_codec.specs.Ordered.{first_of}

-- an id of a port needs a port of the clock, which has the ports 1 to `ports`
abbrev pub names_port : ℕ → Option ℕ → Bool
names_port ports None = false
names_port ports (Some port) = nat_le 1 port && nat_le port ports

abbrev pub named_port : Option ℕ → ℕ
named_port None = every_port
named_port (Some port) = port

-- the target's portNumber: the port that is asked for an id of a port, and every port for any other (this project's
-- profile)
unfoldable pub target_port : ℕ → Option ℕ → ℕ
target_port id port = if is_of_port id then named_port port else every_port

-- what is asked, by its parts
abbrev pub ask_of : Action → ℕ → Option ℕ → List ℕ → Ask
ask_of action id port octets = record { action = action; id = id; port = port; octets = octets }

-- the request that is made of an ask
abbrev pub request_of : Ask → RequestValue
request_of a = record { action = a.action; id = a.id; port = target_port a.id a.port; octets = a.octets }

-- the same at the port that is named, whatever the id
abbrev pub request_at_port : Ask → RequestValue
request_at_port a = record { action = a.action; id = a.id; port = named_port a.port; octets = a.octets }

-- a request, as it is kept
abbrev pub pending_request : Pending → RequestValue
pending_request p = record { action = p.action; id = p.id; port = p.port; octets = p.octets }

-- What holds for each request that is made of an ask, to a clock with this many ports. For an id of a port it names one of
-- them. For any other id it names every port, so that it has one answer.
pub record IsRequestTo (ports : ℕ) (q : RequestValue) : Type 0 where
  pub action : IsRequestAction q.action
  pub octets : IsDataField q.octets
  pub port : is_of_port q.id ≡ true → (1 ≤ q.port) × (q.port ≤ ports)
  pub every : is_of_port q.id ≡ false → q.port ≡ every_port

-- What holds for each request that a session makes, also at a port that is named. It names one port of the clock, or, for an id
-- of no port, every port.
pub record IsAskedOf (ports : ℕ) (q : RequestValue) : Type 0 where
  pub action : IsRequestAction q.action
  pub octets : IsDataField q.octets
  pub target : ((1 ≤ q.port) × (q.port ≤ ports)) ⊎ ((is_of_port q.id ≡ false) × (q.port ≡ every_port))

-- the same as a test
abbrev pub is_target_of : ℕ → ℕ → ℕ → Bool
is_target_of ports id port = names_port ports (Some port) || (not (is_of_port id) && port == every_port)

abbrev pub is_asked_of : ℕ → RequestValue → Bool
is_asked_of ports q = not (is_reply q.action) && is_data_field q.octets && is_target_of ports q.id q.port

-- why an ask by itself is refused, at a clock of this many ports
unfoldable pub ask_refusal : ℕ → Ask → Option BeginError
ask_refusal ports a = first_of (
    (is_of_port a.id && not (names_port ports a.port), NeedsPort)
    ∷ (is_reply a.action, NotPermitted)
    ∷ (not (is_data_field a.octets), BadValue)
    ∷ [])

-- the same at the port that is named, which has to be one of the clock's whatever the id
unfoldable pub named_ask_refusal : ℕ → Ask → Option BeginError
named_ask_refusal ports a = option_or (first_of ((not (names_port ports a.port), NeedsPort) ∷ [])) (ask_refusal ports a)
