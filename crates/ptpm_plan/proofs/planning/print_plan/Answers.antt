use Rattle.ptpm_plan.proofs.planning.print_plan.Goals as goal

pub returns : goal.returns
returns g c = record {
  file = c.in_ok-file.file;
  answers = c.in_ok-answers.answers;
  plan = c.in_ok-plan.plan;
  reads = c.in_ok-file.ensures.file;
  answered = c.in_ok-answers.ensures;
  plans = c.in_ok-plan.ensures.plan;
  left_out = c.in_ok-plan.ensures.left_out;
  sorted = c.in_ok-plan.ensures.sorted;
  best = c.in_ok-plan.ensures.best;
  warnings = c.in_ok-plan.ensures.warnings;
  report = c.in_ok-print_report.ensures;
  is = c.status_by.ensures;
}
