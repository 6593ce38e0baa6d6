use Rattle.std.proofs.Common.{◌≡◌, ◌∙◌, ap, rules, sym}
use Rattle.ptpm_journal.specs.declared.record.Ending.TheVariants as endings
use Rattle.ptpm_apply.specs.declared.choice.Choice.TheVariants as choices
use Rattle.ptpm_apply.specs.Going.{Ends, Looks, Settles}
use Rattle.ptpm_apply.specs.Rollout.{RolloutValue}
use Rattle.ptpm_apply.proofs.rollout.Rollout.go_on.Goals as goal

pub returns-in-Some : goal.returns-in-Some
returns-in-Some c =
    let next = c.in-Some.ensures {u = tt} in Looks c.in-Some.lane (search rules) next.later.0 next.later.1 next.next next.passed next.touched

pub returns-in-GiveUp : goal.returns-in-GiveUp
returns-in-GiveUp c =
    let gives : c.args.self.now.choice ≡ choices.GiveUp = sym (ap (λ (o : RolloutValue). o.choice) c.self.view_is) ∙ c.in-GiveUp.is in
    Ends endings.GivenUp c.first_let_go.result c.end.ensures (gives, c.first_let_go.ensures) ((c.in_default.ensures {u = tt}).none (λ h. cc (gives, h)))
    (λ keeps. cc (gives, keeps))

pub returns-in-Settle : goal.returns-in-Settle
returns-in-Settle c =
    let settles : c.args.self.now.choice ≡ choices.Settle = sym (ap (λ (o : RolloutValue). o.choice) c.self.view_is) ∙ c.in-Settle.is in
    Settles (search rules) settles (c.in_default.ensures {u = tt}).left
