use Rattle.std.proofs.Common.{◌<◌, arith, codes, length}
use Rattle.std.proofs.lemmas.List.{length-append}
use Rattle.ptpm_members.specs.declared.forms.Form.{Form}
use Rattle.ptpm_members.specs.declared.forms.Form.TheVariants as forms
use Rattle.ptpm_members.specs.declared.number_names.Enumeration.TheVariants as enumerations
use Rattle.ptpm_members.specs.Takes.{names_text, takes_text}
use Rattle.ptpm_c.proofs.HandedOut.{no_room, whole}
use Rattle.ptpm_c.proofs.fields.ptpm_field_takes.Goals as goal

-- no text is empty
takes_length : (form : Form) → 0 < length (takes_text form)
unfolding takes_text
takes_length (forms.Named enumerations.DelayMechanism) =
    omega (arith, length-append (names_text enumerations.DelayMechanism) (codes " or a number from 0 to 255"))
takes_length (forms.Unsigned n) = grind arith
takes_length (forms.Hexadecimal n) = grind arith
takes_length (forms.Signed n) = grind arith
takes_length (forms.Flag mask) = omega arith
takes_length forms.EitherFlag = omega arith
takes_length forms.LowNibble = omega arith
takes_length forms.Text = omega arith
takes_length forms.TimeInterval = omega arith
takes_length forms.ClockIdentity = omega arith
takes_length forms.PortIdentity = omega arith
takes_length (forms.Named enumerations.PortState) = omega arith
takes_length (forms.Named enumerations.TimeSource) = omega arith
takes_length (forms.Named enumerations.Timestamping) = omega arith
takes_length (forms.LittleEndian n) = omega arith
takes_length (forms.Octets n) = omega arith
takes_length forms.ClockIdentities = omega arith
takes_length (forms.Described part) = omega arith

pub returns-in-Some-clause-words : goal.returns-in-Some-clause-words
returns-in-Some-clause-words c =
    let out = c.hand_out_takes.ensures in
    rw (← c.member_at.ensures, c.in-Some.is, c.unwrap_or.ensures) (whole _ _ _ _ out)

pub returns-in-Some-clause-no_room : goal.returns-in-Some-clause-no_room
returns-in-Some-clause-no_room c =
    let out = c.hand_out_takes.ensures in
    rw (← c.member_at.ensures, c.in-Some.is, c.unwrap_or.ensures) (no_room _ _ _ _ out (takes_length c.in-Some.field.2))
