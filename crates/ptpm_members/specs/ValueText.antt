-- What is written of a member's value (this project's profile). Names are those of the standard.
use Rattle.std.specs.Prelude.{ℕ, zero, suc, ◌*◌, ◌/◌, ◌%◌, ◌==◌, nat_le, Bool, true, false, not, ◌&&◌, if◌then◌else◌, ℤ, unsigned_abs, List, [], ◌∷◌, ◌++◌, length, take, codes, decimal, flat_map}
use Rattle.std.specs.Fmt.{sign_text, signed_decimal}
use Rattle.std.specs.Int.{is_negative}
use Rattle.ptpm_codec.specs.Identity.{clock_identity_text, octet_text, port_identity_text}
use Rattle.ptpm_members.specs.declared.forms.Form.{Form}
use Rattle.ptpm_members.specs.declared.forms.Form.TheVariants as forms
use Rattle.ptpm_members.specs.declared.values.ClockQuality.{ClockQuality}
use Rattle.ptpm_members.specs.NumberNames.{enumeration_text}
use Rattle.ptpm_members.specs.Values as values
use Rattle.ptpm_members.specs.Values.{Said, said_in}

-- ---- names

abbrev pub flag_name : Bool → List ℕ
flag_name true = codes "true"
flag_name false = codes "false"

-- ---- a TimeInterval: nanoseconds, with all digits of their fraction

-- the decimal digits of n 65536ths: one at least if k is not 0, and k at most
unfoldable pub fraction_digits : ℕ → ℕ → List ℕ
fraction_digits zero n = []
fraction_digits (suc k) n =
    decimal (n * 10 / 65536) ++ (if n * 10 % 65536 == 0 then [] else fraction_digits k (n * 10 % 65536))

-- a 65536th has sixteen digits
unfoldable pub interval_text : ℤ → List ℕ
interval_text z =
    sign_text (is_negative z) ++ decimal (unsigned_abs z / 65536) ++ codes "." ++ fraction_digits 16 (unsigned_abs z % 65536)

-- ---- octets

-- a printable character of ASCII, except the backslash
abbrev pub is_plain : ℕ → Bool
is_plain c = nat_le 0x20 c && nat_le c 0x7e && not (c == 0x5c)

-- any other octet is a backslash, an x and two hexadecimal digits
abbrev pub escape : ℕ → List ℕ
escape c = 0x5c ∷ 0x78 ∷ octet_text c

abbrev pub shown_octet : ℕ → List ℕ
shown_octet c = if is_plain c then c ∷ [] else escape c

unfoldable pub shown_text : List ℕ → List ℕ
shown_text text = flat_map shown_octet text

unfoldable pub hexadecimal : List ℕ → List ℕ
hexadecimal octets = flat_map octet_text octets

-- octets in hexadecimal, or a dash if there is none
abbrev pub octets_text : List ℕ → List ℕ
octets_text [] = codes "-"
octets_text (octet ∷ more) = hexadecimal (octet ∷ more)

-- the identities of clocks, each of eight octets, with a space between two of them
abbrev pub space_before : List ℕ → List ℕ
space_before more = if nat_le 8 (length more) then codes " " else []

unfoldable pub clocks_text : List ℕ → List ℕ
clocks_text (a ∷ b ∷ c ∷ d ∷ e ∷ f ∷ g ∷ h ∷ more) =
    hexadecimal (a ∷ b ∷ c ∷ d ∷ e ∷ f ∷ g ∷ h ∷ []) ++ space_before more ++ clocks_text more
clocks_text octets = []

-- ---- a ClockQuality

-- a number of two octets, in four hexadecimal digits
abbrev pub variance_text : ℕ → List ℕ
variance_text n = octet_text (n / 256) ++ octet_text (n % 256)

unfoldable pub quality_text : ClockQuality → List ℕ
quality_text q =
    codes "class " ++ decimal q.class ++ codes " accuracy 0x" ++ octet_text q.accuracy ++ codes " variance 0x" ++ variance_text q.variance

-- ---- a value

abbrev pub said_text : Said → List ℕ
said_text (values.Unsigned number) = decimal number
said_text (values.Signed number) = signed_decimal number
said_text (values.Flag flag) = flag_name flag
said_text (values.Interval interval) = interval_text interval
said_text (values.Clock clock) = clock_identity_text clock.0
said_text (values.Port port) = port_identity_text port
said_text (values.Named enumeration number) = enumeration_text enumeration number
said_text (values.Quality quality) = quality_text quality
said_text (values.Text octets) = shown_text octets
said_text (values.Octets octets) = octets_text octets
said_text (values.Clocks octets) = clocks_text octets

-- that of the member whose octets come first
abbrev pub value_text : Form → List ℕ → List ℕ
value_text (forms.Hexadecimal n) octets = codes "0x" ++ hexadecimal (take n octets)
value_text form octets = said_text (said_in form octets)
