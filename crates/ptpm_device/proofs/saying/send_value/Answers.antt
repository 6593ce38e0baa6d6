use Rattle.std.proofs.Common.{arith, ◌≡◌, ◌++◌, ◌∙◌, [], ap, List, ℕ}
use Rattle.ptpm_codec.specs.declared.identity.ClockIdentity.{ClockIdentity}
use Rattle.ptpm_codec.specs.declared.message.Action.TheVariants as actions
use Rattle.ptpm_codec.specs.declared.message.Body.TheVariants as bodies
use Rattle.ptpm_codec.specs.declared.message.Message.{Message}
use Rattle.ptpm_codec.specs.Message.{id_of}
use Rattle.ptpm_table.specs.Rendering.{hops_passed}
use Rattle.ptpm_table.specs.Sending.{empty_reply}
use Rattle.ptpm_agent.specs.Addressing.{heard_of}
use Rattle.ptpm_device.proofs.Said.{rendered_given}
use Rattle.ptpm_device.proofs.saying.send_value.Goals as goal

pub returns-clause-sent : goal.returns-clause-sent
returns-clause-sent g c =
    let me : ClockIdentity = (g.T.ReplyTable.owner c.args.agent.now.table).identity in
    let v : Message = c.args.get.now in
    let ingress : ℕ = c.args.ingress in
    let draft : Message = record {
      sdo = 0;
      domain = c.domain.result;
      source = record { clock = c.clock.result; port = ingress };
      number = c.number.result;
      target = c.source.result;
      starting_hops = c.saturating_sub-hops.result;
      hops = c.saturating_sub-hops.result;
      body = bodies.Answer actions.Response c.id-id.result [];
    } in
    let clock : c.clock.result ≡ me = grind arith in
    let passed : c.saturating_sub-hops.result ≡ hops_passed (heard_of v) = grind arith in
    let same : draft ≡ empty_reply me (heard_of v) actions.Response (id_of v.body) ingress =
    λ i. record {
      sdo = 0;
      domain = c.domain.ensures i;
      source = record { clock = clock i; port = ingress };
      number = c.number.ensures i;
      target = c.source.ensures i;
      starting_hops = passed i;
      hops = passed i;
      body = bodies.Answer actions.Response (c.id-id.ensures i) [];
    } in
    c.push_value.ensures.messages draft actions.Response c.id-id.result c.address.ensures.fits c.address.ensures.octets
    ∙ ap (λ (xs : List (ℕ × List ℕ)). g.O.Outgoing.sent c.args.out.now ++ xs)
    (rendered_given me v draft c.id-id.result c.args.octets.now ingress c.requires.lacked c.requires.octets c.id-id.ensures same)
