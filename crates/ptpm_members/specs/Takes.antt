-- What a SET takes for a member, in words (this project's profile).
use Rattle.std.specs.Prelude.{ℕ, ◌==◌, if◌then◌else◌, List, [], ◌∷◌, ◌++◌, codes, flat_map}
use Rattle.ptpm_members.specs.declared.forms.Form.{Form}
use Rattle.ptpm_members.specs.declared.forms.Form.TheVariants as forms
use Rattle.ptpm_members.specs.declared.number_names.Enumeration.{Enumeration}
use Rattle.ptpm_members.specs.declared.number_names.Enumeration.TheVariants as enumerations
use Rattle.ptpm_members.specs.NumberNames.{enumeration_text, named_numbers}

-- ---- names, with a comma between two of them

unfoldable pub next_name : Enumeration → ℕ → List ℕ
next_name e n = codes ", " ++ enumeration_text e n

abbrev pub names_in : Enumeration → List ℕ → List ℕ
names_in e [] = []
names_in e (first ∷ others) = enumeration_text e first ++ flat_map (next_name e) others

unfoldable pub names_text : Enumeration → List ℕ
names_text e = names_in e (named_numbers e)

-- ---- by the form of the member

abbrev pub octet_takes : List ℕ
octet_takes = codes "a number from 0 to 255, or 0x and two hexadecimal digits"

abbrev pub none_takes : List ℕ
none_takes = codes "no value"

-- of a member whose numbers have no names
abbrev pub unnamed_text : Form → List ℕ
unnamed_text (forms.Unsigned n) = if n == 1 then octet_takes else none_takes
unnamed_text (forms.Hexadecimal n) = if n == 1 then octet_takes else none_takes
unnamed_text (forms.Signed n) =
    if n == 1 then codes "a number from -128 to 127" else if n == 2 then codes "a number from -32768 to 32767" else none_takes
unnamed_text (forms.Flag mask) = codes "true or false"
unnamed_text forms.EitherFlag = codes "true or false"
unnamed_text forms.LowNibble = codes "a number from 0 to 15, or 0x and two hexadecimal digits"
unnamed_text forms.Text = codes "a text of at most 128 octets in UTF-8"
unnamed_text _ = none_takes

-- of any member: a SET has no other numbers with names
unfoldable pub takes_text : Form → List ℕ
takes_text (forms.Named enumerations.DelayMechanism) = names_text enumerations.DelayMechanism ++ codes " or a number from 0 to 255"
takes_text form = unnamed_text form
