use Rattle.ptpm_world.proofs.Common.{◌∙◌, ap, clock_value, map, network_value, option_map, sym}
use Rattle.ptpm_draw.specs.declared.party.Party.TheVariants as parties
use Rattle.ptpm_draw.proofs.Names.{named-clock}
use Rattle.ptpm_draw.proofs.party.clock_named.Goals as goal

pub returns-in_err-clock_place : goal.returns-in_err-clock_place
returns-in_err-clock_place c =
    c.from_residual.ensures ∙ ap (option_map parties.Clock) (sym c.in_err-clock_place.was ∙ c.clock_place.ensures)
    ∙ named-clock (network_value c.args.network.now) c.clocks.result.now c.args.name.now (ap (map clock_value) (sym c.clocks.ensures))

pub returns : goal.returns
returns c =
    ap (option_map parties.Clock) (sym c.in_ok-clock_place.was ∙ c.clock_place.ensures)
    ∙ named-clock (network_value c.args.network.now) c.clocks.result.now c.args.name.now (ap (map clock_value) (sym c.clocks.ensures))
