-- The ids that the clock lacks and its device has: which SETs and COMMANDs of them reach the device (this project's profile).
use Rattle.std.specs.Prelude.{ℕ, ◌==◌, ◌&&◌, not, nat_le, Bool, true, false, is_none, if◌then◌else◌, List, [], ◌∷◌, length, Option, Some, None, find}
use Rattle.ptpm_codec.specs.declared.error.ErrorId.{ErrorId}
use Rattle.ptpm_codec.specs.declared.error.ErrorId.TheVariants.{NotSupported, ResponseTooBig, WrongLength}
use Rattle.ptpm_codec.specs.declared.message.Action.{Action}
use Rattle.ptpm_codec.specs.declared.message.Action.TheVariants as actions
use Rattle.ptpm_codec.specs.Ordered.{first_of}
use Rattle.ptpm_data.specs.declared.rights.Rights.{Rights}
use Rattle.ptpm_data.specs.ManagementId.{has_action, is_port_scope, row_of}
use Rattle.ptpm_data.specs.Refusals.{has_right, refusal_of, unpermitted}
use Rattle.ptpm_data.specs.Request.{RequestValue}
use Rattle.ptpm_device.specs.declared.relayed.RelayedId.{RelayedId}

-- a SET or a COMMAND
abbrev pub is_change : Action → Bool
is_change actions.Set = true
is_change actions.Command = true
is_change _ = false

-- ---- the table

abbrev pub relayed_at : RequestValue → Option RelayedId → Option RelayedId
relayed_at q None = None
relayed_at q (Some r) = if is_change q.action && is_none (row_of q.id) then Some r else None

-- The row of the id of a SET or COMMAND, if it has one. An id that the clock knows has none.
unfoldable pub relayed : List RelayedId → RequestValue → Option RelayedId
relayed rows q = relayed_at q (find (λ r. r.id == q.id) rows)

-- ---- refusals

-- the size of the dataField; 130 octets are kept at most
abbrev pub is_relayed_length : RelayedId → ℕ → Bool
is_relayed_length r size = nat_le r.least size && (nat_le size r.most && nat_le size 130)

-- The refusals of a relayed request, in their order, each with its test. What every port would answer is too big to be kept.
abbrev pub relayed_refusals : RelayedId → RequestValue → Rights → List (Bool × ErrorId)
relayed_refusals r q rights =
    (not (has_action q.action r.actions.0), unpermitted q.action)
    ∷ (not (has_right r.right.0 rights), NotSupported)
    ∷ (not (is_relayed_length r (length q.octets)), WrongLength)
    ∷ (is_port_scope r.scope && q.port == 65535, ResponseTooBig)
    ∷ []

unfoldable pub relayed_refusal : RelayedId → RequestValue → Rights → Option ErrorId
relayed_refusal r q rights = first_of (relayed_refusals r q rights)

-- why a request is refused before the device is asked
abbrev pub refusal_at : Option RelayedId → RequestValue → Rights → Option ErrorId
refusal_at None q rights = refusal_of q rights
refusal_at (Some r) q rights = relayed_refusal r q rights

abbrev pub refusal_in : List RelayedId → RequestValue → Rights → Option ErrorId
refusal_in rows q rights = refusal_at (relayed rows q) q rights
