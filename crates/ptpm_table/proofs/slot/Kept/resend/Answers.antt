use Rattle.std.proofs.Common.{arith, ◌<◌, ◌^◌, ◌∙◌, ◌++◌, ap, map, sym}
use Rattle.ptpm_codec.specs.Message.{reply_action}
use Rattle.ptpm_table.specs.KeptMessages.{Envelope, IsCopyOf, KeptValue, pieces, renewed}
use Rattle.ptpm_table.specs.Rendering.{rendered}
use Rattle.ptpm_table.proofs.KeptMessageLaws.{length_answers, renewed_reply}
use Rattle.ptpm_table.proofs.slot.Kept.resend.Goals as goal

pub resend_each-requires-clause-room : goal.resend_each-requires-clause-room
resend_each-requires-clause-room g c = grind (arith, length_answers)

pub returns-clause-messages : goal.returns-clause-messages
returns-clause-messages g c =
    let e : Envelope = record { clock = c.self.inside.clock; manager = c.self.inside.manager; number = c.self.inside.number; action = reply_action c.self.inside.action; id = c.self.inside.id } in
    let low : c.args.ingress < 2 ^ 16 = omega arith in
    let copy : IsCopyOf e c.args.heard.now = record {
      source_is = c.requires.manager ∙ sym (ap (λ (v : KeptValue). v.manager) c.self.view_is);
      number_is = c.requires.number ∙ sym (ap (λ (v : KeptValue). v.entry.number) c.self.view_is);
    } in
    c.resend_each.ensures.messages
    ∙ ((λ i. g.O.Outgoing.sent c.args.out.now ++ map (λ m. (c.args.ingress, renewed c.args.heard.now.domain (c.port_for.ensures i) (c.hops_passed.ensures i) m))
    (pieces (c.sizes-sizes.ensures.value i) (c.octets-messages.ensures.value i)))
    ∙ ((λ i. g.O.Outgoing.sent c.args.out.now ++ renewed_reply c.self.inside.of_port e c.args.heard.now c.args.ingress
    (pieces c.self.inside.reply.sizes c.self.inside.reply.octets) copy low c.self.invariant.0.each i)
    ∙ (λ i. g.O.Outgoing.sent c.args.out.now ++ rendered (c.self.view_is i).clock c.args.heard.now (c.self.view_is i).entry.reply c.args.ingress)))
