use Rattle.std.proofs.Common.{◌∙◌, ap, sym}
use Rattle.ptpm_data.specs.Changed.{changed}
use Rattle.ptpm_data.specs.Members.{DataSetsValue}
use Rattle.ptpm_data.proofs.Differing.{nothing_changed}
use Rattle.ptpm_host.proofs.clock.HostedClock.take_objection.Goals as goal

pub returns-in-Some-clause-members : goal.returns-in-Some-clause-members
returns-in-Some-clause-members c =
    nothing_changed c.args.self.now.agent.sets ∙ ap (λ (d : DataSetsValue). changed c.args.self.now.agent.sets d) (sym c.object.ensures.sets)

pub returns-clause-members : goal.returns-clause-members
returns-clause-members c =
    c.take_turn.ensures.members ∙ ap (λ (d : DataSetsValue). changed d c.take_turn.new.self.agent.sets) c.object.ensures.sets
