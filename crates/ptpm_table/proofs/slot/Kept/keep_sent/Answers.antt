use Rattle.std.proofs.Common.{◌≡◌, ◌∙◌, ℕ, ap, map, subst, sym}
use Rattle.ptpm_codec.specs.declared.identity.ClockIdentity.{ClockIdentity}
use Rattle.ptpm_codec.specs.declared.message.Action.{Action}
use Rattle.ptpm_codec.specs.Message.{reply_action}
use Rattle.ptpm_data.specs.Reply.{ReplyValue}
use Rattle.ptpm_data.specs.Request.{RequestValue}
use Rattle.ptpm_table.specs.KeptMessages.{KeptValue, answer_in, pieces}
use Rattle.ptpm_table.specs.Sending.{IsSentReply}
use Rattle.ptpm_table.proofs.slot.Kept.keep_sent.Goals as goal

pub returns : goal.returns
returns g c = λ r s.
    let clock : c.args.self.now.clock ≡ c.self.inside.clock = sym (ap (λ (k : KeptValue). k.clock) c.self.view_is) in
    let action : c.args.request.now.action ≡ c.request.inside.action = sym (ap (λ (q : RequestValue). q.action) c.request.view_is) in
    let id : c.args.request.now.id ≡ c.request.inside.id = sym (ap (λ (q : RequestValue). q.id) c.request.view_is) in
    let here : IsSentReply c.self.inside.clock c.args.heard.now c.request.inside.action c.request.inside.id c.args.of_port (g.O.Outgoing.sent c.args.out.now) r =
    subst (λ (p : ClockIdentity × (Action × ℕ)). IsSentReply p.0 c.args.heard.now p.1.0 p.1.1 c.args.of_port (g.O.Outgoing.sent c.args.out.now) r) (λ i. (clock i, (action i, id i))) s in
    let answers = c.keep_each.ensures.answers r here in
    let request : ◌≡◌ {A = RequestValue} (record { action = c.request.inside.action; id = c.request.inside.id; port = c.request.inside.port; octets = c.keep_octets.new.kept.items }) c.args.request.now =
    ap (λ o. record { action = c.request.inside.action; id = c.request.inside.id; port = c.request.inside.port; octets = o }) c.keep_octets.ensures ∙ c.request.view_is in
    let reply : ◌≡◌ {A = ReplyValue} (record { action = reply_action c.request.inside.action; id = c.request.inside.id; answers = map (answer_in c.args.of_port) (pieces c.keep_each.new.kept.sizes c.keep_each.new.kept.octets) }) r =
    (λ i. record { action = (ap reply_action (sym action) ∙ sym s.action_is) i; id = (sym id ∙ sym s.id_is) i; answers = answers i }) in
    (λ i. record {
      clock = (c.self.view_is i).clock;
      manager = (c.self.view_is i).manager;
      entry = record { number = c.args.heard.now.number; request = request i; reply = reply i };
      most = (c.keep_each.ensures.most ∙ ap (λ (k : KeptValue). k.most) c.self.view_is) i;
    })
