use Rattle.std.proofs.Common.{arith, ◌≡◌, ◌-◌}
use Rattle.ptpm_codec.specs.Layout.{boundary_hops}
use Rattle.ptpm_host.proofs.Sharing.{lowered}
use Rattle.ptpm_host.proofs.shared.lower_hop.Goals as goal

pub returns-clause-copy : goal.returns-clause-copy
returns-clause-copy c =
    let less : c.saturating_sub-hops.result ≡ boundary_hops c.args.datagram.now - 1 = grind arith in
    lowered c.message_size-size.result c.saturating_sub-hops.result c.args.datagram.now c.message_size-size.ensures.size c.message_size-size.ensures.inside less
