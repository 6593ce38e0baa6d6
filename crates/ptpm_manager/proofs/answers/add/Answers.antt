use Rattle.std.proofs.Common.{◌≡◌, ◌∙◌, None}
use Rattle.std.specs.Map.{lookup}
use Rattle.indexmap.proofs.CallerLemmas.{insert_entry-new}
use Rattle.ptpm_codec.specs.Identity.{same_identity}
use Rattle.ptpm_manager.proofs.AnswerLaws.{is_some-lookup, none_where}
use Rattle.ptpm_manager.proofs.answers.add.Goals as goal

pub returns-in-Ok-clause-added : goal.returns-in-Ok-clause-added
returns-in-Ok-clause-added c =
    let none : lookup (same_identity c.args.source) c.args.answers.now.entries ≡ None =
    none_where _ (is_some-lookup (same_identity c.args.source) c.args.answers.now.entries ∙ c.requires) in
    c.in-Ok.ensures.entries ∙ insert_entry-new same_identity c.args.answers.now c.args.source c.args.outcome none
