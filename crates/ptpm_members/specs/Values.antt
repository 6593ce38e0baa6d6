-- What the octets of a member say (IEEE 1588-2019, 5.3 and 15.5.3).
use Rattle.std.specs.Prelude.{◌≡◌, ℕ, ◌%◌, ◌≤◌, ◌==◌, Bool, true, not, bit_and, ℤ, List, length, take}
use Rattle.byteorder.specs.Endian.{big_number, little_number, twos_complement}
use Rattle.ptpm_codec.specs.declared.identity.ClockIdentity.{ClockIdentity}
use Rattle.ptpm_codec.specs.declared.identity.PortIdentity.{PortIdentity}
use Rattle.ptpm_codec.specs.Layout.{clock_identity_at, octet, port_identity_at}
use Rattle.ptpm_codec.specs.PtpText.{is_ptp_text, ptp_text}
use Rattle.ptpm_members.specs.Description.{counted, counted_octets, part_on}
use Rattle.ptpm_members.specs.declared.description.DescriptionPart.{DescriptionPart}
use Rattle.ptpm_members.specs.declared.description.DescriptionPart.TheVariants as parts
use Rattle.ptpm_members.specs.declared.forms.Form.{Form}
use Rattle.ptpm_members.specs.declared.forms.Form.TheVariants as forms
use Rattle.ptpm_members.specs.declared.number_names.Enumeration.{Enumeration}
use Rattle.ptpm_members.specs.declared.values.ClockQuality.{ClockQuality}
use Rattle.ptpm_members.specs.declared.values.MemberValue.{MemberValue}
use Rattle.ptpm_members.specs.declared.values.MemberValue.TheVariants as values
use Rattle.ptpm_members.specs.Tables.{form_size}

-- there are at least N octets, and N is from 1 to 8
pub record HasNumber (n : ℕ) (octets : List ℕ) : Type 0 where
  pub low : 1 ≤ n
  pub high : n ≤ 8
  pub room : n ≤ length octets

-- there are octets of a value
abbrev pub HasValue : Form → List ℕ → Type 0
HasValue (forms.Unsigned n) octets = HasNumber n octets
HasValue (forms.Hexadecimal n) octets = HasNumber n octets
HasValue (forms.Signed n) octets = HasNumber n octets
HasValue (forms.LittleEndian n) octets = HasNumber n octets
HasValue forms.Text octets = is_ptp_text octets ≡ true
HasValue form octets = form_size form ≤ length octets

-- a value, whoever prints it: a TimeInterval is nanoseconds times 2^16, what has a name is its number
pub data Said : Type 0 where
  Unsigned : (number : ℕ) → Said
  Signed : (number : ℤ) → Said
  Flag : (flag : Bool) → Said
  Interval : (interval : ℤ) → Said
  Clock : (clock : ClockIdentity) → Said
  Port : (port : PortIdentity) → Said
  Named : (enumeration : Enumeration) → (number : ℕ) → Said
  Quality : (quality : ClockQuality) → Said
  Text : (octets : List ℕ) → Said
  Octets : (octets : List ℕ) → Said
  Clocks : (octets : List ℕ) → Said

-- one of the program
abbrev pub said : MemberValue → Said
said (values.Unsigned number) = Unsigned number
said (values.Signed number) = Signed number
said (values.Flag flag) = Flag flag
said (values.Interval interval) = Interval interval
said (values.Clock clock) = Clock clock
said (values.Port port) = Port port
said (values.Named enumeration number) = Named enumeration number
said (values.Quality quality) = Quality quality
said (values.Text octets) = Text octets.now
said (values.Octets octets) = Octets octets.now
said (values.Clocks octets) = Clocks octets.now

-- that of a part of a CLOCK_DESCRIPTION whose octets come first
abbrev pub said_of_part : DescriptionPart → List ℕ → Said
said_of_part parts.PhysicalAddress octets = Octets (counted_octets octets)
said_of_part parts.NetworkProtocol octets = Unsigned (counted octets)
said_of_part parts.AddressField octets = Octets (counted_octets octets)
said_of_part parts.ManufacturerIdentity octets = Octets (take 3 octets)
said_of_part parts.ProfileIdentity octets = Octets (take 6 octets)
said_of_part part octets = Text (ptp_text octets)

-- that of the member whose octets come first
abbrev pub said_in : Form → List ℕ → Said
said_in (forms.Unsigned n) octets = Unsigned (big_number n octets)
said_in (forms.Hexadecimal n) octets = Unsigned (big_number n octets)
said_in (forms.Signed n) octets = Signed (twos_complement n (big_number n octets))
said_in (forms.Flag mask) octets = Flag (not (bit_and (octet 0 octets) mask == 0))
said_in forms.EitherFlag octets = Flag (not (octet 0 octets % 4 == 0))
said_in forms.LowNibble octets = Unsigned (octet 0 octets % 16)
said_in forms.TimeInterval octets = Interval (twos_complement 8 (big_number 8 octets))
said_in forms.ClockIdentity octets = Clock (clock_identity_at 0 octets)
said_in forms.PortIdentity octets = Port (port_identity_at 0 octets)
said_in (forms.Named enumeration) octets = Named enumeration (octet 0 octets)
said_in forms.Text octets = Text (ptp_text octets)
said_in (forms.LittleEndian n) octets = Unsigned (little_number n octets)
said_in (forms.Octets n) octets = Octets (take n octets)
said_in forms.ClockIdentities octets = Clocks octets
said_in (forms.Described part) octets = said_of_part part (part_on part octets)
