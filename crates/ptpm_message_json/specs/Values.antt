-- The values of members in JSON: numbers as numbers, flags as booleans, and a TimeInterval as a whole number, nanoseconds times
-- 2^16 (this project's profile).
use Rattle.std.specs.Prelude.{ℕ, List, [], ◌∷◌, codes, drop, map}
use Rattle.std.specs.Str.Lossy.{utf8_lossy}
use Rattle.byteorder.specs.Endian.{big_number}
use Rattle.hex.specs.Hex.{encode_lower}
use Rattle.serde_json.specs.Data.{Data, array, boolean, number, string, object, unsigned, no_members, member}
use Rattle.serde_json.specs.Find.{of_integer}
use Rattle.serde_json.specs.View.{items_of}
use Rattle.ptpm_codec.specs.declared.identity.ClockIdentity.{ClockIdentity}
use Rattle.ptpm_codec.specs.declared.identity.PortIdentity.{PortIdentity}
use Rattle.ptpm_codec.specs.Identity.{clock_identity_text}
use Rattle.ptpm_codec.specs.Layout.{octet}
use Rattle.ptpm_members.specs.declared.forms.Form.{Form}
use Rattle.ptpm_members.specs.declared.values.ClockQuality.{ClockQuality}
use Rattle.ptpm_members.specs.NumberNames.{enumeration_text}
use Rattle.ptpm_members.specs.Values as values
use Rattle.ptpm_members.specs.Values.{Said, said_in}

-- octets as a text: what is no UTF-8 in them is replaced
abbrev pub text_data : List ℕ → Data
text_data octets = string (utf8_lossy octets)

abbrev pub clock_data : ClockIdentity → Data
clock_data clock = string (clock_identity_text clock.0)

abbrev pub port_data : PortIdentity → Data
port_data port =
    object (member (codes "clockIdentity") (clock_data port.clock) (member (codes "portNumber") (number (unsigned port.port)) no_members))

-- the ClockQuality whose octets come first (5.3.7)
abbrev pub quality_in : List ℕ → ClockQuality
quality_in octets = record { class = octet 0 octets; accuracy = octet 1 octets; variance = big_number 2 (drop 2 octets) }

abbrev pub quality_data : ClockQuality → Data
quality_data quality =
    object (member (codes "clockAccuracy") (number (unsigned quality.accuracy))
    (member (codes "clockClass") (number (unsigned quality.class))
    (member (codes "offsetScaledLogVariance") (number (unsigned quality.variance)) no_members)))

-- the identities of clocks, each of eight octets
unfoldable pub clocks_in : List ℕ → List (List ℕ)
clocks_in (a ∷ b ∷ c ∷ d ∷ e ∷ f ∷ g ∷ h ∷ more) = encode_lower (a ∷ b ∷ c ∷ d ∷ e ∷ f ∷ g ∷ h ∷ []) ∷ clocks_in more
clocks_in octets = []

abbrev pub clocks_data : List ℕ → Data
clocks_data octets = array (items_of (map string (clocks_in octets)))

-- the value of a member
abbrev pub said_data : Said → Data
said_data (values.Unsigned n) = number (unsigned n)
said_data (values.Signed z) = number (of_integer z)
said_data (values.Flag flag) = boolean flag
said_data (values.Interval interval) = number (of_integer interval)
said_data (values.Clock clock) = clock_data clock
said_data (values.Port port) = port_data port
said_data (values.Named enumeration n) = string (enumeration_text enumeration n)
said_data (values.Quality quality) = quality_data quality
said_data (values.Text octets) = text_data octets
said_data (values.Octets octets) = string (encode_lower octets)
said_data (values.Clocks octets) = clocks_data octets

-- that of the member whose octets come first
abbrev pub value_data : Form → List ℕ → Data
value_data form octets = said_data (said_in form octets)
