use Rattle.std.proofs.Common.{arith, ◌∙◌, sym}
use Rattle.std.proofs.lemmas.List.{take_all}
use Rattle.ptpm_data.proofs.StartLemmas.{goes_on, stops, no_more, made_on, handed_on}
use Rattle.ptpm_data.proofs.start.port_data_sets.Goals as goal

pub loop-port-preserved : goal.loop-port-preserved
loop-port-preserved c =
    let ok = sym c.judged_data_set.ensures ∙ c.in_ok-judged_data_set.was in
    record {
      made = grind (arith, made_on);
      sound = goes_on _ _ _ _ (omega arith) c.loop-port.invariant.sound ok;
    }

pub returns-in_err-judged_data_set : goal.returns-in_err-judged_data_set
returns-in_err-judged_data_set c =
    let err = sym c.judged_data_set.ensures ∙ c.in_err-judged_data_set.was in
    handed_on _ _ _ _ c.from_residual.ensures.1 (stops _ _ _ _ (omega arith) c.loop-port.invariant.sound err)

pub returns : goal.returns
returns c = grind (arith, no_more, take_all)
