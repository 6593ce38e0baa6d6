-- What the words of `ptpm make` ask for.
use Rattle.std.specs.Prelude.{◌≡◌, ℕ, ◌==◌, Bool, if◌then◌else◌, List, [], ◌∷◌, ◌++◌, length, flat_map, Option, Some, None, Result, Ok, Err}
use Rattle.std.specs.List.{position_or_len, before_first, after_first}
use Rattle.std.specs.Io.KnownBytes.{Appends}
use Rattle.hex.specs.declared.error.FromHexError.{FromHexError}
use Rattle.hex.specs.Hex.{decode_of}
use Rattle.ptpm_codec.specs.declared.identity.PortIdentity.{PortIdentity}
use Rattle.ptpm_codec.specs.declared.message.Action.{Action}
use Rattle.ptpm_codec.specs.declared.message.Body.TheVariants as bodies
use Rattle.ptpm_codec.specs.declared.message.Message.{Message}
use Rattle.ptpm_codec.specs.Canonical.{canonical}
use Rattle.ptpm_codec.specs.Message.{is_data_field}
use Rattle.ptpm_commands.specs.declared.faults.Fault.{Fault}
use Rattle.ptpm_commands.specs.declared.faults.Fault.TheVariants as faults
use Rattle.ptpm_commands.specs.declared.make.RequestWords.{RequestWords}
use Rattle.ptpm_members.specs.declared.parsing.ParseFault.{ParseFault}
use Rattle.ptpm_members.specs.IdNames.{id_of}
use Rattle.ptpm_members.specs.Identities.{port_identity_of}
use Rattle.ptpm_members.specs.Parsed.{parsed}
use Rattle.ptpm_text.specs.OctetText.{text_of_octets}
use Rattle.ptpm_text.specs.RequestNames.{action_named}

-- the request; both hop fields are the hops that were asked for
abbrev pub request_between : RequestWords
    → Action
    → ℕ
    → List ℕ
    → PortIdentity
    → PortIdentity
    → Message
request_between words action id octets source target = record {
  sdo = 0;
  domain = words.domain;
  source = source;
  number = words.number;
  target = target;
  starting_hops = words.hops;
  hops = words.hops;
  body = bodies.Request action id octets;
}

abbrev pub with_identities : RequestWords
    → Action
    → ℕ
    → List ℕ
    → Option PortIdentity
    → Option PortIdentity
    → Result Message Fault
with_identities words action id octets None target = Err faults.BadIdentity
with_identities words action id octets (Some source) None = Err faults.BadIdentity
with_identities words action id octets (Some source) (Some target) = Ok (request_between words action id octets source target)

-- the request of an action, an id and a dataField that were read; the dataField is judged first
abbrev pub request_of : RequestWords → Action → ℕ → List ℕ → Result Message Fault
request_of words action id octets =
    if is_data_field octets then with_identities words action id octets (port_identity_of words.from.now) (port_identity_of words.to.now)
    else Err faults.BadValue

-- ---- the words, in the order in which they are judged

abbrev pub both : Option Action → Option ℕ → Result (Action × ℕ) Fault
both None id = Err faults.BadAction
both (Some action) None = Err faults.BadId
both (Some action) (Some id) = Ok (action, id)

abbrev pub action_and_id : RequestWords → Result (Action × ℕ) Fault
action_and_id words = both (action_named words.action.now) (id_of words.id.now)

abbrev pub with_value : RequestWords → Action → ℕ → Result (List ℕ) FromHexError → Result Message Fault
with_value words action id (Ok octets) = request_of words action id octets
with_value words action id (Err error) = Err faults.BadHex

abbrev pub asked_by : RequestWords → Result (Action × ℕ) Fault → Result Message Fault
asked_by words (Err fault) = Err fault
asked_by words (Ok a) = with_value words a.0 a.1 (decode_of words.value.now)

-- the request that words ask for, or the first fault of them
abbrev pub asked : RequestWords → Result Message Fault
asked words = asked_by words (action_and_id words)

-- ---- members in place of the value

abbrev pub is_equals : ℕ → Bool
is_equals octet = octet == 0x3d

-- a member's name and its value, around the first `=`; only the value, if there is none
unfoldable pub words_of_member : List ℕ → List (List ℕ)
words_of_member text =
    if position_or_len is_equals text == length text then text ∷ []
    else before_first is_equals text ∷ after_first is_equals text ∷ []

abbrev pub with_field : RequestWords → Action → ℕ → Result (List ℕ) ParseFault → Result Message Fault
with_field words action id (Ok octets) = request_of words action id octets
with_field words action id (Err fault) = Err (faults.BadMembers fault)

abbrev pub asked_of : RequestWords → List (List ℕ) → Result (Action × ℕ) Fault → Result Message Fault
asked_of words members (Err fault) = Err fault
asked_of words members (Ok a) = with_field words a.0 a.1 (parsed a.1 (flat_map words_of_member members))

-- the request that words ask for, with these members, or the first fault of them
abbrev pub asked_with : RequestWords → List (List ℕ) → Result Message Fault
asked_with words members = asked_of words members (action_and_id words)

-- ---- what is printed

-- the canonical spelling of a request, in hexadecimal
abbrev pub request_line : Message → List ℕ
request_line request = text_of_octets (canonical request) ++ 10 ∷ []

-- a writer took the line of this request
abbrev pub IsMadeOf : Result Message Fault → Option (List ℕ) → Option (List ℕ) → Type 0
IsMadeOf asked before after = (request : Message) × ((asked ≡ Ok request) × Appends before after (request_line request))

-- of the request that words ask for
abbrev pub IsMade : RequestWords → Option (List ℕ) → Option (List ℕ) → Type 0
IsMade words = IsMadeOf (asked words)
