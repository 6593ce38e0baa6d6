use Rattle.ptpm_world.proofs.Common.{ap, ◌∙◌, map, arith, link_value, network_value, described}
use Rattle.ptpm_network.proofs.Served.{served-first}
use Rattle.ptpm_script.proofs.NetworkLaw.{of_text-accepted}
use Rattle.ptpm_world.proofs.DescribedLaws.{of_text-network}
use Rattle.ptpm_world.proofs.StartingLemmas.{are_links, are_names, is_of, none_stored, stands}
use Rattle.ptpm_world.proofs.world.World.new.Goals as goal

pub invariant_of-result : goal.invariant_of-result
invariant_of-result c =
    let n = network_value c.args.network.now in
    let facts = of_text-accepted n c.args.network.now.of_text in
    let clocks = c.in_ok-start_clocks.ensures in
    let sessions = c.in_ok-start_sessions.ensures in
    record {
      few_clocks = omega (arith, clocks.count, facts.clock_count);
      few_sessions = omega (arith, sessions.count, facts.session_count);
      links_there = are_links n c.in_ok-start_clocks.field-0.items c.in_ok-start_sessions.field-0.items c.in_ok-copy_links.field-0.items facts
          clocks sessions (c.in_ok-copy_links.ensures ∙ ap (map link_value) c.links.ensures);
      frames_there = none_stored _ _ c.new.result c.new.ensures;
    }

pub returns-clause-network : goal.returns-clause-network
returns-clause-network c =
    is_of (network_value c.args.network.now) _ c.in_ok-start_clocks.ensures c.in_ok-start_sessions.ensures
    (c.in_ok-copy_links.ensures ∙ ap (map link_value) c.links.ensures)

pub returns-clause-stands : goal.returns-clause-stands
returns-clause-stands c = λ first.
    stands (network_value c.args.network.now) c.in_ok-start_clocks.field-0.items c.in_ok-start_sessions.field-0.items c.new.result first c.in_ok-start_clocks.ensures c.in_ok-start_sessions.ensures c.new.ensures

pub returns-clause-after : goal.returns-clause-after
returns-clause-after c = record {
  promised = record { network = of_text-network _ c.args.network.now.of_text; in_range = tt; in_time = tt };
  stands = λ first firsts.
      stands (network_value c.args.network.now) c.in_ok-start_clocks.field-0.items c.in_ok-start_sessions.field-0.items c.new.result first c.in_ok-start_clocks.ensures c.in_ok-start_sessions.ensures c.new.ensures;
}

pub returns-clause-served : goal.returns-clause-served
returns-clause-served c = λ s place.
    served-first (described (network_value c.args.network.now)) s _ place (returns-clause-after c)

pub returns-clause-names : goal.returns-clause-names
returns-clause-names c =
    are_names (network_value c.args.network.now) c.in_ok-start_clocks.field-0.items c.in_ok-start_sessions.field-0.items c.in_ok-start_clocks.ensures c.in_ok-start_sessions.ensures
