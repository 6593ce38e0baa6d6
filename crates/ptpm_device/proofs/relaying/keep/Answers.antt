use Rattle.std.proofs.Common.{◌≡◌, [], ◌∷◌, None, ap, true, sym, subst}
use Rattle.ptpm_codec.specs.Message.{IsDataField}
use Rattle.ptpm_data.specs.ManagementId.{row_of}
use Rattle.ptpm_data.specs.Reply.{Outcome}
use Rattle.ptpm_agent.specs.Turn.{NumberedRequest}
use Rattle.ptpm_device.specs.Relayed.{is_change}
use Rattle.ptpm_device.specs.Saying.{reply_relayed, said_value}
use Rattle.ptpm_device.proofs.RelayedTurns.{change_request, reply_relayed-fits, say_given}
use Rattle.ptpm_device.proofs.relaying.keep.Goals as goal

pub keep_again-requires-clause-action : goal.keep_again-requires-clause-action
keep_again-requires-clause-action g c =
    change_request c.change.inside.request.action
    (subst (λ (r : NumberedRequest). is_change r.request.action ≡ true) (sym c.change.view_is) c.requires.change)

pub keep_again-requires-clause-fits : goal.keep_again-requires-clause-fits
keep_again-requires-clause-fits g c =
    let q = c.change.inside.request in
    let say = said_value c.args.said in
    let made = reply_relayed c.args.refusal q say in
    reply_relayed-fits c.args.refusal q say _
    (subst (λ (r : NumberedRequest). is_change r.request.action ≡ true) (sym c.change.view_is) c.requires.change)
    (subst (λ (r : NumberedRequest). row_of r.request.id ≡ None) (sym c.change.view_is) c.requires.lacked)
    (subst (λ (r : NumberedRequest). IsDataField r.request.octets) (sym c.change.view_is) c.requires.request)
    (say_given c.args.said c.requires.given)
    (ap (λ (o : Outcome). record { action = made.action; id = made.id; answers = record { port = None; outcome = o } ∷ [] })
    c.relayed_outcome.ensures)
