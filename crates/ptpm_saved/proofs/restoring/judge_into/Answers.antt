use Rattle.ptpm_saved.proofs.BodyLemmas.{image_taken, not_refused}
use Rattle.ptpm_saved.proofs.restoring.judge_into.Goals as goal

pub returns-in-Err-clause-found : goal.returns-in-Err-clause-found
returns-in-Err-clause-found c = λ k is own ports.
    absurd (not_refused c.args.image.now _ c.in-Err.ensures.refusal (image_taken k c.args.image.now is))
