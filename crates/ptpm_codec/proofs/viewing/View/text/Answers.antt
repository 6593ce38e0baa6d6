use Rattle.std.proofs.Common.{sym, ap, ◌∙◌}
use Rattle.ptpm_codec.specs.declared.tlv.TlvKind.TheVariants.{Management, ErrorStatus}
use Rattle.ptpm_codec.specs.Message.{text_of}
use Rattle.ptpm_codec.specs.PtpText.{ptp_text}
use Rattle.ptpm_codec.proofs.ReadingLaws.{body_seen, text_of-management}
use Rattle.ptpm_codec.proofs.viewing.View.text.Goals as goal

pub returns-in-Management : goal.returns-in-Management
returns-in-Management c =
    sym (text_of-management c.self.inside.action c.self.inside.message.now) ∙ ap text_of (body_seen c.args.self.now c.self.inside.message.now c.self.inside.action c.self.inside.tlv Management c.self.view_is c.self.invariant c.in-Management.is)

pub returns-in-ErrorStatus : goal.returns-in-ErrorStatus
returns-in-ErrorStatus c =
    c.text_of_display_data.ensures ∙ ap ptp_text c.display_data.ensures ∙ ap text_of (body_seen c.args.self.now c.self.inside.message.now c.self.inside.action c.self.inside.tlv ErrorStatus c.self.view_is c.self.invariant c.in-ErrorStatus.is)
