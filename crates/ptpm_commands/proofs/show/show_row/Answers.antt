use Rattle.std.proofs.Common.{ap, map}
use Rattle.ptpm_commands.proofs.TakenLemmas.{shows-row}
use Rattle.ptpm_commands.proofs.show.show_row.Goals as goal

pub returns-in-Ok-clause-shown : goal.returns-in-Ok-clause-shown
returns-in-Ok-clause-shown g c =
    let W = g.O.Write.contents in
    rw c.in-Some.is
    (shows-row c.args.form c.args.number _ _ _ _ (W c.args.out.now) (W c.show_datagram.new.out) (ap (map (λ t. t.now)) c.as_slice.ensures.value)
    c.as_slice-2.ensures.value c.in-Ok.ensures.shown)
