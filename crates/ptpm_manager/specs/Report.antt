-- What a reply reports to whoever asked.
use Rattle.std.specs.Prelude.{ℕ, List, Option, Some, None}
use Rattle.ptpm_codec.specs.declared.message.Action.{Action}
use Rattle.ptpm_codec.specs.declared.message.Action.TheVariants as actions
use Rattle.ptpm_codec.specs.declared.message.Body.{Body}
use Rattle.ptpm_codec.specs.Message.{action_of, error_of, octets_of}
use Rattle.ptpm_manager.specs.declared.report.Outcome.{Outcome}
use Rattle.ptpm_manager.specs.declared.report.Outcome.TheVariants as outcomes

-- an ACKNOWLEDGE says that the COMMAND was carried out, whatever its dataField; a RESPONSE gives a dataField
abbrev pub success : Action → List ℕ → Outcome
success actions.Get octets = outcomes.Value octets
success actions.Set octets = outcomes.Value octets
success actions.Response octets = outcomes.Value octets
success actions.Command octets = outcomes.Value octets
success actions.Acknowledge octets = outcomes.Done

-- an error status gives its managementErrorId, under either action
abbrev pub outcome_by : Option ℕ → Action → List ℕ → Outcome
outcome_by (Some error) action octets = outcomes.Refused error
outcome_by None action octets = success action octets

abbrev pub outcome_in : Body → Outcome
outcome_in body = outcome_by (error_of body) (action_of body) (octets_of body)

-- the octets of a dataField are copied, and nothing else needs memory
abbrev pub IsCopied : Outcome → Type 0
IsCopied (outcomes.Value octets) = Unit {0}
IsCopied outcomes.Done = ⊥
IsCopied (outcomes.Refused error) = ⊥
