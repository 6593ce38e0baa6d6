use Rattle.ptpm_manager.proofs.ReplyLaws.{only_reply, other_ignored, reply_answered}
use Rattle.ptpm_manager.proofs.laws.answer_law.Goals as goal

pub returns-clause-answered : goal.returns-clause-answered
returns-clause-answered c = reply_answered

pub returns-clause-only : goal.returns-clause-only
returns-clause-only c = only_reply

pub returns-clause-ignored : goal.returns-clause-ignored
returns-clause-ignored c = other_ignored
