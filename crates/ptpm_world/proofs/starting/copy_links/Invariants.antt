use Rattle.ptpm_world.proofs.Common.{◌≡◌, map, take, link_value}
use Rattle.ptpm_world.proofs.starting.copy_links.Given as goal

abbrev pub invariant-loop-link : goal.invariant-loop-link
invariant-loop-link l = map link_value l.copies.items ≡ map link_value (take l.link-index l.links)
