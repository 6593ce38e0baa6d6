use Rattle.std.proofs.Common.{◌≡◌, ◌++◌, drop, map}
use Rattle.ptpm_script.specs.Heads.{clock_value}
use Rattle.ptpm_script.specs.NetworkText.{clock_of}
use Rattle.ptpm_script.specs.NetworkValue as networks
use Rattle.ptpm_script.proofs.reading.clocks_of.Given as goal

-- what is made, and what those ahead will make, is all
abbrev pub invariant-loop-head : goal.invariant-loop-head
invariant-loop-head l =
    map networks.clock_value l.clocks.items ++ map clock_of (map clock_value (drop l.head-index l.heads)) ≡ map clock_of (map clock_value l.heads)
