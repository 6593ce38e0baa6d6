use Rattle.std.proofs.Common.{true, false, sym, refl, ◌∙◌}
use Rattle.ptpm_codec.proofs.ReadingLaws.{body_seen, action_seen, fault_of-parts, management_of-parts}
use Rattle.ptpm_codec.proofs.viewing.View.to_body.Goals.{in-Some+in_ok-copy_of-in-Some, in-None+in_ok-octets-in-None+then-is_reply, in-None+in_ok-octets-in-None+else-is_reply}
use Rattle.ptpm_codec.proofs.viewing.View.to_body.Goals as goal

pub returns : goal.returns
returns c =
    let v = c.args.self.now in
    let m = c.self.inside.message.now in
    let a = c.self.inside.action in
    let k = c.self.inside.tlv in
    let seen = body_seen v m a k k c.self.view_is c.self.invariant refl in
    elim c.match-error.branch [
      | in-Some+in_ok-copy_of-in-Some w ↦
          w.result-is
          ∙ fault_of-parts v.body a _ _ _ (action_seen v m a k c.self.view_is c.self.invariant) (sym w.in-Some.is ∙ c.error.ensures) c.id-id.ensures
          (w.in_ok-copy_of-in-Some.ensures ∙ w.text.ensures)
      | in-None+in_ok-octets-in-None+then-is_reply w ↦
          w.result-is
          ∙ management_of-parts v.body a m k true _ _ seen (sym w.in-None.is ∙ c.error.ensures) c.id-id.ensures
          (w.in_ok-octets-in-None.ensures ∙ w.octets.ensures) (sym w.if-is_reply.true ∙ w.is_reply.ensures)
      | in-None+in_ok-octets-in-None+else-is_reply w ↦
          w.result-is
          ∙ management_of-parts v.body a m k false _ _ seen (sym w.in-None.is ∙ c.error.ensures) c.id-id.ensures
          (w.in_ok-octets-in-None.ensures ∙ w.octets.ensures) (sym w.if-is_reply.false ∙ w.is_reply.ensures)
    ]
