-- Why a request is refused (IEEE 1588-2019, 15.5.4.3). Which actions an id permits, the rights, the ranges, and the order and
-- choice of the errors are this project's profile.
use Rattle.std.specs.Prelude.{ℕ, Bool, true, false, not, ◌&&◌, ◌==◌, bit_and, List, [], ◌∷◌, length, Option, Some, None}
use Rattle.ptpm_codec.specs.declared.message.Action.{Action}
use Rattle.ptpm_codec.specs.declared.message.Action.TheVariants as actions
use Rattle.ptpm_codec.specs.declared.error.ErrorId.{ErrorId}
use Rattle.ptpm_codec.specs.declared.error.ErrorId.TheVariants.{NoSuchId, WrongLength, WrongValue, NotSetable, NotSupported}
use Rattle.ptpm_codec.specs.Ordered.{first_of}
use Rattle.ptpm_codec.specs.PtpText.{is_ptp_text, ptp_text}
use Rattle.ptpm_data.specs.declared.rights.Rights.{Rights}
use Rattle.ptpm_data.specs.declared.management_id.Scope.{Scope}
use Rattle.ptpm_data.specs.declared.management_id.Scope.TheVariants.{Clock, Port}
use Rattle.ptpm_data.specs.declared.management_id.Layout.{Layout}
use Rattle.ptpm_data.specs.declared.management_id.Layout.TheVariants as layouts
use Rattle.ptpm_data.specs.ManagementId.{RowValue, row_of, has_action, set_of}
use Rattle.ptpm_data.specs.Ranges.{allows_text, allows_octet, allows_integer}
use Rattle.ptpm_data.specs.Request.{RequestValue}
use Rattle.ptpm_data.specs.SetField.{octet, first_i8, has_bit}
use Rattle.ptpm_data.specs.SetForm.{SetField, NoSet, Empty, TextUpTo, minus◌to◌, NotBothLeaps}

-- ---- lengths and ranges

-- the size of the dataField of a SET
unfoldable pub is_set_length : SetField → List ℕ → Bool
is_set_length NoSet octets = false
is_set_length Empty octets = length octets == 0
is_set_length (TextUpTo limit) octets = is_ptp_text octets
is_set_length NotBothLeaps octets = length octets == 4
is_set_length _ octets = length octets == 2

-- a GET's dataField is ignored, and a COMMAND has none
abbrev pub is_length : Action → SetField → List ℕ → Bool
is_length actions.Set set octets = is_set_length set octets
is_length actions.Command set octets = length octets == 0
is_length _ set octets = true

-- the values that a SET may give
unfoldable pub is_set_value : SetField → List ℕ → Bool
is_set_value NoSet octets = false
is_set_value Empty octets = true
is_set_value (TextUpTo limit) octets = allows_text (TextUpTo limit) (ptp_text octets)
is_set_value (minus low to high) octets = allows_integer (minus low to high) (first_i8 octets)
is_set_value NotBothLeaps octets = not (has_bit 0 (octet 2 octets) && has_bit 1 (octet 2 octets))
is_set_value set octets = allows_octet set (octet 0 octets)

abbrev pub is_value : Action → SetField → List ℕ → Bool
is_value actions.Set set octets = is_set_value set octets
is_value _ set octets = true

-- ---- rights: CLOCK_SET is 1, PORT_SET is 2, PORT_COMMAND is 4

abbrev pub set_right : Scope → ℕ
set_right Clock = 1
set_right Port = 2

-- a COMMAND of an id of a port needs the right to it, except NULL_PTP_MANAGEMENT
abbrev pub command_right : Scope → Layout → ℕ
command_right Clock _ = 0
command_right Port layouts.NullPtpManagement = 0
command_right Port _ = 4

-- what a request needs: a GET nothing
abbrev pub needed_right : Action → Scope → Layout → ℕ
needed_right actions.Set scope layout = set_right scope
needed_right actions.Command scope layout = command_right scope layout
needed_right _ scope layout = 0

abbrev pub has_right : ℕ → Rights → Bool
has_right right rights = bit_and rights.0 right == right

-- ---- refusals (15.5.4.3)

abbrev pub unpermitted : Action → ErrorId
unpermitted actions.Set = NotSetable
unpermitted _ = NotSupported

-- the refusals of a request for an id of the table, in their order, each with its test
abbrev pub refusals : RowValue → RequestValue → Rights → List (Bool × ErrorId)
refusals e q rights =
    (not (has_action q.action e.actions), unpermitted q.action)
    ∷ (not (has_right (needed_right q.action e.scope e.layout) rights), NotSupported)
    ∷ (not (is_length q.action (set_of e.layout) q.octets), WrongLength)
    ∷ (not (is_value q.action (set_of e.layout) q.octets), WrongValue)
    ∷ []

unfoldable pub row_refusal : RowValue → RequestValue → Rights → Option ErrorId
row_refusal e q rights = first_of (refusals e q rights)

abbrev pub refusal_at : Option RowValue → RequestValue → Rights → Option ErrorId
refusal_at None q rights = Some NoSuchId
refusal_at (Some e) q rights = row_refusal e q rights

-- why a request is refused; none if it is carried out
abbrev pub refusal_of : RequestValue → Rights → Option ErrorId
refusal_of q rights = refusal_at (row_of q.id) q rights
