use Rattle.std.proofs.Common.{None}
use Rattle.ptpm_journal.specs.declared.record.Ending.TheVariants as endings
use Rattle.ptpm_apply.specs.Going.{Ends}
use Rattle.ptpm_apply.proofs.rollout.Rollout.verify.Goals as goal

pub returns-then-step_count-eq0 : goal.returns-then-step_count-eq0
returns-then-step_count-eq0 c =
    Ends endings.Complete None c.end.ensures (cc (c.step_count.ensures, c.if-step_count-eq0.true)) c.requires.seen c.requires.passes
