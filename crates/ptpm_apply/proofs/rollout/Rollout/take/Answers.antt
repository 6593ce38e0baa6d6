use Rattle.std.proofs.Common.{rules}
use Rattle.ptpm_apply.specs.Going.{Checks, Reads}
use Rattle.ptpm_apply.proofs.rollout.Rollout.take.Goals as goal

pub returns-then-is_elsewhere : goal.returns-then-is_elsewhere
returns-then-is_elsewhere c =
    Checks c.args.step (search rules) c.requires.seen c.requires.next (c.is_elsewhere.ensures.0 c.if-is_elsewhere.true) c.requires.goes_on c.requires.asks c.requires.first
    c.requires.passes

pub returns-else-is_elsewhere : goal.returns-else-is_elsewhere
returns-else-is_elsewhere c =
    Reads c.args.step (search rules) c.requires.seen c.requires.next
    (λ h. cc (c.is_elsewhere.ensures.1 h, c.if-is_elsewhere.false)) c.requires.goes_on c.requires.asks c.requires.first c.requires.passes
