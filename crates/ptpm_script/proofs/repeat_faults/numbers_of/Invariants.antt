use Rattle.std.proofs.Common.{◌≡◌, map, take}
use Rattle.toml.specs.View.{view}
use Rattle.ptpm_script.specs.Heads.{number_in}
use Rattle.ptpm_script.proofs.repeat_faults.numbers_of.Given as goal

-- the numbers of the tables before this one
abbrev pub invariant-loop-port : goal.invariant-loop-port
invariant-loop-port l = l.numbers.items ≡ map number_in (map view (take l.port-index l.ports))
