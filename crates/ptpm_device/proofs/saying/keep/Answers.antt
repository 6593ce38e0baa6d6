use Rattle.std.proofs.Common.{◌≡◌, [], ◌∷◌, None, ap, true, sym, subst}
use Rattle.ptpm_data.specs.Reply.{Outcome}
use Rattle.ptpm_agent.specs.Turn.{NumberedRequest}
use Rattle.ptpm_device.specs.Asking.{is_lacked}
use Rattle.ptpm_device.specs.Saying.{reply_given}
use Rattle.ptpm_device.proofs.Said.{lacked_request, reply_given-fits}
use Rattle.ptpm_device.proofs.saying.keep.Goals as goal

pub keep_again-requires-clause-action : goal.keep_again-requires-clause-action
keep_again-requires-clause-action g c =
    lacked_request c.get.inside.request
    (subst (λ (r : NumberedRequest). is_lacked r.request ≡ true) (sym c.get.view_is) c.requires.lacked)

pub keep_again-requires-clause-fits : goal.keep_again-requires-clause-fits
keep_again-requires-clause-fits g c =
    let q = c.get.inside.request in
    let made = reply_given 130 q c.args.octets.now in
    reply_given-fits q c.args.octets.now _
    (subst (λ (r : NumberedRequest). is_lacked r.request ≡ true) (sym c.get.view_is) c.requires.lacked)
    c.requires.octets
    (ap (λ (o : Outcome). record { action = made.action; id = made.id; answers = record { port = None; outcome = o } ∷ [] }) c.given.ensures)
