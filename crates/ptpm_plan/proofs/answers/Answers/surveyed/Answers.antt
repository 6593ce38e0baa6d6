use Rattle.ptpm_plan.proofs.Surveys.{sorted_survey}
use Rattle.ptpm_plan.proofs.answers.Answers.surveyed.Goals as goal

pub returns : goal.returns
returns c =
    sorted_survey c.args.self.now.list.items c.in_ok-surveyed.surveyed
    (record { clocks = c.sort_by_key.new.self; ports = c.sort_by_key-2.new.self })
    c.in_ok-surveyed.ensures c.sort_by_key.ensures.permutation c.sort_by_key-2.ensures.permutation
