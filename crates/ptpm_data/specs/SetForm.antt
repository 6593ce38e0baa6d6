-- What the dataField of a SET may be (IEEE 1588-2019, 15.5.3; the ranges are this project's profile).
use Rattle.std.specs.Prelude.{ℕ}
use Rattle.ptpm_data.specs.declared.ranges.SetForm.{SetForm}
use Rattle.ptpm_data.specs.declared.ranges.SetForm.TheVariants as forms

infix 30 from◌to◌ minus◌to◌ either◌to◌or◌
pub data SetField : Type 0 where
  -- the id has no SET
  NoSet : SetField
  -- no octet
  Empty : SetField
  -- a PTPText (5.3.9) of at most N octets, which are UTF-8
  TextUpTo : (limit : ℕ) → SetField
  -- an octet and a reserved one: of any value, of a range, or of a range or one value more
  AnyOctet : SetField
  from◌to◌ : (low : ℕ) → (high : ℕ) → SetField
  either◌to◌or◌ : (low : ℕ) → (high : ℕ) → (other : ℕ) → SetField
  -- the number of a delay mechanism (8.2.15.4.4) and a reserved octet
  MechanismNumber : SetField
  -- an Integer8, from minus the first number to the second, and a reserved octet
  minus◌to◌ : (low : ℕ) → (high : ℕ) → SetField
  -- UTC_PROPERTIES (15.5.3.6.2): at most one of its two leap flags is set
  NotBothLeaps : SetField

-- a form of the program, as a value
abbrev pub set_field : SetForm → SetField
set_field forms.NoSet = NoSet
set_field forms.Empty = Empty
set_field (forms.TextUpTo limit) = TextUpTo limit
set_field forms.AnyOctet = AnyOctet
set_field (forms.FromTo low high) = from low to high
set_field (forms.FromToOr low high other) = either low to high or other
set_field forms.MechanismNumber = MechanismNumber
set_field (forms.MinusTo low high) = minus low to high
set_field forms.NotBothLeaps = NotBothLeaps
