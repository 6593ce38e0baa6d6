-- What the value of a member is, as a number for a host that reads the lines of a dataField.
use Rattle.std.specs.Prelude.{ℕ, List, drop, Option, Some, None, slice_get}
use Rattle.ptpm_members.specs.declared.forms.Field.{Field}
use Rattle.ptpm_members.specs.declared.number_names.Enumeration.{Enumeration}
use Rattle.ptpm_members.specs.declared.number_names.Enumeration.TheVariants as enumerations
use Rattle.ptpm_members.specs.FieldText.{members_in}
use Rattle.ptpm_members.specs.Values.{Said, Unsigned, Signed, Flag, Interval, Clock, Port, Named, Quality, Text, Octets, Clocks, said_in}

abbrev pub named_kind : Enumeration → ℕ
named_kind enumerations.PortState = 16
named_kind enumerations.DelayMechanism = 17
named_kind enumerations.TimeSource = 18
named_kind enumerations.Timestamping = 19

abbrev pub kind_of : Said → ℕ
kind_of (Unsigned number) = 1
kind_of (Signed number) = 1
kind_of (Flag flag) = 2
kind_of (Interval interval) = 3
kind_of (Clock clock) = 4
kind_of (Port port) = 5
kind_of (Clocks octets) = 6
kind_of (Text octets) = 7
kind_of (Octets octets) = 8
kind_of (Named enumeration number) = named_kind enumeration
kind_of (Quality quality) = 0

abbrev pub kind_in : List ℕ → Option Field → ℕ
kind_in octets None = 0
kind_in octets (Some f) = kind_of (said_in f.2 (drop f.1 octets))

-- that of the member in the line of this place, from 0 on; 0 if there is none
abbrev pub member_kind : ℕ → List ℕ → ℕ → ℕ
member_kind id octets place = kind_in octets (slice_get (members_in id octets) place)
