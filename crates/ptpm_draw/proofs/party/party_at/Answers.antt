use Rattle.ptpm_world.proofs.Common.{sym, subst, length, length-map, clock_value, described, network_value, running}
use Rattle.ptpm_draw.specs.Party.{IsThere}
use Rattle.ptpm_draw.proofs.Names.{party-there}
use Rattle.ptpm_draw.proofs.party.party_at.Goals as goal

pub returns-clause-there : goal.returns-clause-there
returns-clause-there c = λ is.
    let n = network_value c.args.network.now in
    subst (λ many. IsThere many c.find_party.result) (length-map c.args.network.now.clocks.items clock_value)
    (subst (IsThere (length n.clocks)) (sym c.find_party.ensures)
    (party-there n (running c.args.world.now).frames c.args.event.now (c.every_world.ensures.ends (described n) is.network)))
