-- A change at the device itself, as a host asks for it.
use Rattle.std.specs.Prelude.{◌≡◌, ◌==◌, ◌||◌, ◌&&◌, ℕ, Bool, true, false, is_some, not, List, [], ◌∷◌, Option, Some, None, if◌then◌else◌}
use Rattle.std.specs.FinMap.{empty}
use Rattle.std.specs.Option.{option_map, option_or}
use Rattle.ptpm_codec.specs.declared.identity.ClockIdentity.{ClockIdentity}
use Rattle.ptpm_codec.specs.declared.identity.PortIdentity.{PortIdentity}
use Rattle.ptpm_codec.specs.declared.message.Action.{Action}
use Rattle.ptpm_codec.specs.declared.message.Action.TheVariants as actions
use Rattle.ptpm_codec.specs.declared.message.Message.{Message}
use Rattle.ptpm_codec.specs.Message.{action_of, is_data_field}
use Rattle.ptpm_codec.specs.Ordered.{first_of}
use Rattle.ptpm_codec.specs.Reading.{message_of}
use Rattle.ptpm_data.specs.Members.{DataSetsValue, has_port}
use Rattle.ptpm_data.specs.Refusals.{refusal_of}
use Rattle.ptpm_data.specs.Request.{RequestValue}
use Rattle.ptpm_data.specs.Rights.{all_rights}
use Rattle.ptpm_table.specs.Entries.{Entries}
use Rattle.ptpm_table.specs.Managers.{clock_with}
use Rattle.ptpm_agent.specs.declared.verdict.Verdict.{Verdict}
use Rattle.ptpm_agent.specs.declared.verdict.Verdict.TheVariants as verdicts
use Rattle.ptpm_agent.specs.Addressing.{request_of}
use Rattle.ptpm_agent.specs.Turn.{Clock, State, Turned, turn}
use Rattle.ptpm_device.specs.Relayed.{is_change}
use Rattle.ptpm_device.specs.Changing.{changed_state}
use Rattle.ptpm_host.specs.declared.clock.HostedClock.{HostedClock}
use Rattle.ptpm_host.specs.declared.refusal.ChangeRefusal.{ChangeRefusal}
use Rattle.ptpm_host.specs.declared.refusal.ChangeRefusal.TheVariants as refusals
use Rattle.ptpm_host.specs.Clock.{clock_in, state_in}
use Rattle.ptpm_host.specs.Session.{asked_action}

-- what is asked, by the octet of an actionField
abbrev pub request_here : ℕ → ℕ → ℕ → List ℕ → RequestValue
request_here action id port octets = record { action = asked_action action; id = id; port = port; octets = octets }

-- every port, or one of these data sets
abbrev pub is_target : ℕ → DataSetsValue → Bool
is_target port d = port == 65535 || has_port port d

abbrev pub is_set : Action → Bool
is_set actions.Set = true
is_set _ = false

-- A SET of DOMAIN (15.5.2.3). What is under way would get no answer in another domain, so the owner moves none meanwhile.
abbrev pub moves_domain : RequestValue → Bool
moves_domain q = is_set q.action && q.id == 0x2007

abbrev pub moves_domain_in : Option Message → Bool
moves_domain_in None = false
moves_domain_in (Some v) = moves_domain (request_of v)

-- Why it is no change now. A GET changes nothing, so it is none.
abbrev pub form_refusal : RequestValue → HostedClock → Option ChangeRefusal
form_refusal q c = first_of (
    (not (is_target q.port c.agent.sets), refusals.NoPort)
    ∷ (not (is_change q.action), refusals.NotPermitted)
    ∷ (not (is_data_field q.octets), refusals.BadValue)
    ∷ (is_some c.under_way && moves_domain q, refusals.UnderWay)
    ∷ [])

-- why it is not carried out
abbrev pub change_refusal : RequestValue → HostedClock → Option ChangeRefusal
change_refusal q c = option_or (form_refusal q c) (option_map (λ error. refusals.Refused error) (refusal_of q all_rights))

-- the data sets are those after it, and what is kept of each manager is as it was
pub record IsChangedHere (q : RequestValue) (before after : HostedClock) : Type 0 where
  pub state_is : state_in after ≡ changed_state q (state_in before)
  pub clock_is : clock_in after ≡ clock_in before

-- ---- a datagram of the owner

-- the clock of this identity whose one manager is its owner, with every right
abbrev pub owner_clock : ClockIdentity → PortIdentity → Clock
owner_clock me owner = clock_with me ((owner, all_rights) ∷ [])

-- The verdict on a message of the owner: in the clock's domain, from the clock itself, addressed to it, a request, for it
-- alone. It is never a repeat, since nothing of it is kept.
abbrev pub owned_at : Bool → Bool → Bool → Bool → Bool → Verdict
owned_at domain own addressed request here =
    if not domain then verdicts.OtherDomain
    else if own then verdicts.OwnMessage
    else if not addressed then verdicts.NotAddressed
    else if not request then verdicts.NotARequest
    else if here then verdicts.AnsweredNew
    else verdicts.AnsweredUnnumbered

-- what changes nothing is as a request without a number
abbrev pub owner_verdict : Message → Verdict → Verdict
owner_verdict v verdicts.AnsweredNew =
    if is_change (action_of v.body) then verdicts.AnsweredNew else verdicts.AnsweredUnnumbered
owner_verdict v w = w

-- that clock's turn; nothing of it is kept
abbrev pub owner_turned : Message → Entries → Turned → Turned
owner_turned v kept t = record {
  verdict = owner_verdict v t.verdict;
  forwards = t.forwards;
  replies = t.replies;
  next = record { sets = t.next.sets; entries = kept };
}

abbrev pub owner_by : Clock → State → ℕ → List ℕ → Option Message → Turned
owner_by c s port datagram None = turn c s port datagram
owner_by c s port datagram (Some v) =
    owner_turned v s.entries (turn (owner_clock c.identity v.source) (record { sets = s.sets; entries = empty }) port datagram)

unfoldable pub owner_turn : Clock → State → ℕ → List ℕ → Turned
owner_turn c s port datagram = owner_by c s port datagram (message_of datagram)
