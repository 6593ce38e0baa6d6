use Rattle.std.proofs.Common.{drop, length, subst, sym}
use Rattle.std.specs.Prelude.{IsSomeAnd}
use Rattle.ptpm_journal.specs.Turns.{IsAtEnd}
use Rattle.ptpm_apply.specs.Lanes.{AreLanesOf}
use Rattle.ptpm_apply.specs.Rollout.{RolloutValue}
use Rattle.ptpm_c.specs.declared.kept.Hosted.{Hosted}
use Rattle.ptpm_c.specs.RolloutHeld.{rollout_of}
use Rattle.ptpm_c.proofs.rollout.ptpm_rollout_open.Goals as goal

pub returns-in-Ok-put-clause-all : goal.returns-in-Ok-put-clause-all
returns-in-Ok-put-clause-all c = λ choice named zero.
    let octets = c.args.journal.now in let size = c.in-Ok.opened.1 in
    subst (λ (h : Hosted). IsSomeAnd (rollout_of h)
    (λ (r : RolloutValue). IsAtEnd r.journal r.crc (drop size octets) × AreLanesOf r.steps (length r.steps) r.lanes))
    (sym c.in-Ok-put.ensures.0)
    (subst (λ (r : RolloutValue). IsAtEnd r.journal r.crc (drop size octets) × AreLanesOf r.steps (length r.steps) r.lanes)
    (sym c.in-Ok-new.ensures.ok) (c.in-Ok.ensures.all, c.in-Ok.ensures.lanes))
