use Rattle.std.proofs.Common.{rules, ◌≡◌, ◌∙◌, ap, sym}
use Rattle.ptpm_data.specs.Changed.{changed}
use Rattle.ptpm_data.specs.Changes.{changed_by}
use Rattle.ptpm_data.specs.Members.{DataSetsValue}
use Rattle.ptpm_data.specs.Rights.{all_rights}
use Rattle.ptpm_agent.specs.Turn.{State}
use Rattle.ptpm_host.proofs.clock.HostedClock.change_here.Goals as goal

pub returns-in-Ok-clause-members : goal.returns-in-Ok-clause-members
returns-in-Ok-clause-members c =
    let before : c.sets-2.result.now ≡ c.args.self.now.agent.sets = first_of (search rules, cc) in
    c.changes_of-members.ensures ∙ (λ i. changed (before i) (changed_by c.else-is_some.request all_rights (before i)))
    ∙ ap (λ (d : DataSetsValue). changed c.args.self.now.agent.sets d) (sym (ap (λ (s : State). s.sets) c.change_here.ensures.changed))
