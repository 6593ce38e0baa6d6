use Rattle.std.proofs.Common.{◌∙◌, ◌-◌, ap, slice_set}
use Rattle.ptpm_codec.specs.Layout.{boundary_hops}
use Rattle.ptpm_host.proofs.UnderWay.{message_front}
use Rattle.ptpm_host.proofs.sent.Sent.put_less_hop.Goals as goal

pub returns-clause-message : goal.returns-clause-message
returns-clause-message c =
    let whole = message_front c.args.datagram.now c.message_size.result c.requires.well_formed c.message_size.ensures.size in
    c.put_lowered.ensures.message ∙ ap (λ m. (c.args.port, slice_set m 45 (boundary_hops c.args.datagram.now - 1))) whole
