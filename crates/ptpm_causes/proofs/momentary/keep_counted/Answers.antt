-- `retain` called the test of each finding once.
use Rattle.ptpm_causes.proofs.momentary.keep_counted.Goals as goal

pub returns : goal.returns
returns c = (c.retain.ensures.filtered.0, c.retain.ensures.filtered.4)
