use Rattle.std.proofs.Common.{◌≡◌, ◌++◌, [], drop, map}
use Rattle.toml.specs.View.{view}
use Rattle.ptpm_script.specs.Heads.{clock_value, session_value}
use Rattle.ptpm_script.specs.NetworkText.{end_in, link_of}
use Rattle.ptpm_script.specs.NetworkValue.{link_value}
use Rattle.ptpm_script.proofs.Loops.{ByItself}
use Rattle.ptpm_script.proofs.reading.links_of.Given as goal

-- what is made, and what those ahead will make, is all
abbrev pub invariant-loop-link : goal.invariant-loop-link
invariant-loop-link l =
    map link_value l.links.items ++ map (link_of (map clock_value l.clocks) (map session_value l.sessions)) (map view (drop l.link-index l.values))
    ≡ map (link_of (map clock_value l.clocks) (map session_value l.sessions)) (map view l.values)

abbrev pub invariant-loop-value : goal.invariant-loop-value
invariant-loop-value l = ByItself view (end_in (map clock_value l.clocks) (map session_value l.sessions)) [] l.ends.items l.value-index l.spelt
