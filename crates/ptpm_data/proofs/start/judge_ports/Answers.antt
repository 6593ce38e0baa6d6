use Rattle.std.proofs.Common.{arith, ◌∙◌, ap, sym}
use Rattle.ptpm_data.specs.Start.{unless}
use Rattle.ptpm_data.proofs.StartLemmas.{handed_whole, judged_on, judged_out, no_more, unless_err, unless_ok}
use Rattle.ptpm_data.proofs.start.judge_ports.Goals as goal

pub loop-port-preserved : goal.loop-port-preserved
loop-port-preserved c =
    let ok = sym c.judge.ensures ∙ c.in_ok-judge.was in
    judged_on _ _ _ (omega arith) c.loop-port.invariant (unless_ok _ _ _ ok).0

pub returns-in_err-judge : goal.returns-in_err-judge
returns-in_err-judge c =
    let err = sym c.judge.ensures ∙ c.in_err-judge.was in
    handed_whole _ _ _ _ c.from_residual.ensures.1 (judged_out _ _ _ _ (omega arith) c.loop-port.invariant (unless_err _ _ _ err))

pub returns : goal.returns
returns c = ap (λ o. unless o tt) (sym (no_more _ _ (omega arith) c.loop-port.invariant))
