use Rattle.std.proofs.Common.{arith, ◌∙◌, ap, sym}
use Rattle.ptpm_data.specs.Start.{unless}
use Rattle.ptpm_data.proofs.StartLemmas.{handed_whole, unless_err, unless_ok}
use Rattle.ptpm_host.proofs.RelayLemmas.{goes_on, no_more, stops}
use Rattle.ptpm_host.proofs.relay.judge_each.Goals as goal

pub loop-id-preserved : goal.loop-id-preserved
loop-id-preserved c =
    let ok = sym c.judge.ensures ∙ c.in_ok-judge.was in
    goes_on _ _ _ _ (omega arith) c.loop-id.invariant (unless_ok _ _ _ ok).0

pub returns-in_err-judge : goal.returns-in_err-judge
returns-in_err-judge c =
    let err = sym c.judge.ensures ∙ c.in_err-judge.was in
    handed_whole _ _ _ _ c.from_residual.ensures.1 (stops _ _ _ _ _ (omega arith) c.loop-id.invariant (unless_err _ _ _ err))

pub returns : goal.returns
returns c = ap (λ o. unless o tt) (sym (no_more _ _ _ (omega arith) c.loop-id.invariant))
