use Rattle.ptpm_world.proofs.Common.{ap, sym, ◌∙◌, is_ok, cond-true, network_value, IsStartedSession}
use Rattle.ptpm_world.proofs.StartingLemmas.{grown}
use Rattle.ptpm_world.proofs.starting.start_sessions.Goals as goal

pub loop-place-preserved : goal.loop-place-preserved
loop-place-preserved c =
    let pushed = c.push.ensures.items ∙ cond-true _ _ _ (sym c.map_err.ensures.variant ∙ ap is_ok c.in_ok-map_err.was) in
    grown (IsStartedSession (network_value c.args.network.now)) c.loop-place.running.items c.push.new.self.items c.loop-place.place c.in_ok-session.session pushed
    c.loop-place.invariant.0 c.loop-place.invariant.1 c.in_ok-session.ensures
