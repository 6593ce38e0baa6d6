use Rattle.ptpm_world.proofs.Common.{◌∙◌, ap, sym, names_in, place_in, placed}
use Rattle.ptpm_network.specs.Events as machine
use Rattle.ptpm_world.proofs.Ending.{step_at}
use Rattle.ptpm_world.proofs.world.World.dispatch.Goals as goal

pub returns-in-Begin-clause-step : goal.returns-in-Begin-clause-step
returns-in-Begin-clause-step c = λ N is.
    step_at N c.args.self.now c.begin.new.self _ _ c.begin.result
    (ap (placed (names_in c.args.self.now)) c.in-Begin.is ∙ sym (ap (λ n. machine.Begin (place_in (names_in c.args.self.now).sessions n) c.in-Begin.ask) c.as_str.ensures)) (c.begin.ensures.step N is)

pub returns-in-Send-clause-step : goal.returns-in-Send-clause-step
returns-in-Send-clause-step c = λ N is.
    step_at N c.args.self.now c.send.new.self _ _ c.send.result
    (ap (placed (names_in c.args.self.now)) c.in-Send.is ∙ sym (ap (λ n. machine.Send (place_in (names_in c.args.self.now).sessions n)) c.as_str-in-Send.ensures)) (c.send.ensures.step N is)

pub returns-in-Resume-clause-step : goal.returns-in-Resume-clause-step
returns-in-Resume-clause-step c = λ N is.
    step_at N c.args.self.now c.resume.new.self _ _ c.resume.result
    (ap (placed (names_in c.args.self.now)) c.in-Resume.is ∙ sym (ap (λ n. machine.Resume (place_in (names_in c.args.self.now).sessions n) c.in-Resume.attempts) c.as_str-in-Resume.ensures)) (c.resume.ensures.step N is)

pub returns-in-Retune-clause-step : goal.returns-in-Retune-clause-step
returns-in-Retune-clause-step c = λ N is.
    step_at N c.args.self.now c.retune.new.self _ _ c.retune.result
    (ap (placed (names_in c.args.self.now)) c.in-Retune.is ∙ sym (ap (λ n. machine.Retune (place_in (names_in c.args.self.now).sessions n) c.in-Retune.domain) c.as_str-in-Retune.ensures)) (c.retune.ensures.step N is)

pub returns-in-Deliver-clause-step : goal.returns-in-Deliver-clause-step
returns-in-Deliver-clause-step c = λ N is.
    step_at N c.args.self.now c.deliver.new.self _ _ c.deliver.result
    (ap (placed (names_in c.args.self.now)) c.in-Deliver.is) (c.deliver.ensures.step N is)

pub returns-in-Stranger-clause-step : goal.returns-in-Stranger-clause-step
returns-in-Stranger-clause-step c = λ N is.
    step_at N c.args.self.now c.intrude.new.self _ _ c.intrude.result
    (ap (placed (names_in c.args.self.now)) c.in-Stranger.is
    ∙ sym (ap (λ n. machine.Stranger (place_in (names_in c.args.self.now).clocks n) c.in-Stranger.port c.as_slice.result.now) c.as_str-in-Stranger.ensures
    ∙ ap (λ d. machine.Stranger (place_in (names_in c.args.self.now).clocks c.in-Stranger.name) c.in-Stranger.port d) c.as_slice.ensures)) (c.intrude.ensures.step N is)
