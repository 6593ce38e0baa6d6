use Rattle.ptpm_world.proofs.Common.{network_value, IsStartedClock}
use Rattle.ptpm_world.proofs.StartingLemmas.{grown}
use Rattle.ptpm_world.proofs.starting.start_clocks.Goals as goal

pub loop-place-preserved : goal.loop-place-preserved
loop-place-preserved c =
    let started = c.in_ok-start_clock.ensures in
    grown (IsStartedClock (network_value c.args.network.now)) c.loop-place.running.items c.start_clock.new.running.items c.loop-place.place started.0 started.1.0
    c.loop-place.invariant.0 c.loop-place.invariant.1 started.1.1
