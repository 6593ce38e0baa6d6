use Rattle.ptpm_plan.proofs.planning.print_questions.Goals as goal

pub returns : goal.returns
returns g c = record { file = c.in_ok-file.file; reads = c.in_ok-file.ensures.file; written = c.in_ok-print_asks.ensures }
