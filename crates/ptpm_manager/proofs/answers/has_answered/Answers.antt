use Rattle.std.proofs.Common.{◌∙◌}
use Rattle.ptpm_codec.specs.Identity.{same_identity}
use Rattle.ptpm_manager.proofs.AnswerLaws.{is_some-lookup}
use Rattle.ptpm_manager.proofs.answers.has_answered.Goals as goal

pub returns : goal.returns
returns c = c.contains_key.ensures ∙ is_some-lookup (same_identity c.args.source.now) c.args.answers.now.entries
