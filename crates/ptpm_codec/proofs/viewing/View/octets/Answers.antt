use Rattle.std.proofs.Common.{sym, ap, ◌∙◌}
use Rattle.ptpm_codec.specs.declared.tlv.TlvKind.TheVariants.{Management, ErrorStatus}
use Rattle.ptpm_codec.specs.Message.{octets_of}
use Rattle.ptpm_codec.proofs.ReadingLaws.{body_seen, octets_of-management}
use Rattle.ptpm_codec.proofs.viewing.View.octets.Goals as goal

pub returns-in-Management : goal.returns-in-Management
returns-in-Management c =
    c.data_field.ensures ∙ sym (octets_of-management c.self.inside.action c.self.inside.message.now) ∙ ap octets_of (body_seen c.args.self.now c.self.inside.message.now c.self.inside.action c.self.inside.tlv Management c.self.view_is c.self.invariant c.in-Management.is)

pub returns-in-ErrorStatus : goal.returns-in-ErrorStatus
returns-in-ErrorStatus c =
    ap octets_of (body_seen c.args.self.now c.self.inside.message.now c.self.inside.action c.self.inside.tlv ErrorStatus c.self.view_is c.self.invariant c.in-ErrorStatus.is)
