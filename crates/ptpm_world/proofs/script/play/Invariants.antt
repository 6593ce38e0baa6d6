use Rattle.ptpm_world.proofs.Common.{◌≡◌, ◌≤◌, ◌+◌, ◌-◌, Network, left_in, names_in, IsOf, running}
use Rattle.ptpm_world.proofs.Playing.{PlaysOn}
use Rattle.ptpm_world.proofs.script.play.Given as goal

-- the lines that are left go on as all lines did from the start
abbrev pub invariant-loop-number : goal.invariant-loop-number
invariant-loop-number g l =
    let called = names_in l.initial.world in
    record {
      few : l.number ≤ l.script.count;
      names : names_in l.world ≡ called;
      network : (N : Network) → IsOf N l.initial.world → IsOf N l.world;
      plays : (N : Network) → IsOf N l.initial.world
          → PlaysOn N called (running l.initial.world) (running l.world) (g.W.Write.contents l.initial.out) (g.W.Write.contents l.out)
          (l.initial.script.count + 1) (l.script.count + 1) (l.number + 1) (left_in g.R.Read.remaining l.initial.script)
          (left_in g.R.Read.remaining l.script);
    }

abbrev pub decreases-loop-number : goal.decreases-loop-number
decreases-loop-number g l = 2000000 - l.script.count
