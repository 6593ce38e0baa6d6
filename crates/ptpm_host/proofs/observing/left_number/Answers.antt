use Rattle.std.proofs.Common.{arith, ◌≡◌, ◌∙◌, ◌+◌, ◌-◌, ap}
use Rattle.ptpm_data.specs.declared.ports.TheConstants.{PORTS}
use Rattle.ptpm_host.specs.Observing.{left_from, left_number}
use Rattle.ptpm_host.proofs.observing.left_number.Goals as goal

pub returns : goal.returns
unfolding left_number
returns c =
    let all : c.loop-above.above ≡ PORTS = omega (arith, c.loop-above-test.false, c.loop-above.auto.above-end) in
    c.loop-above.invariant.last ∙ ap (λ n. left_from (PORTS + 1 - n) n c.args.left.now) all
