use Rattle.std.proofs.Common.{◌≡◌, ◌∙◌, ap}
use Rattle.ptpm_host.specs.Numbers.{verdict_number}
use Rattle.ptpm_c.proofs.HandedOut.{blanked_places, unchanged_places}
use Rattle.ptpm_c.proofs.batching.decide.Goals as goal

pub returns-in-Ok-clause-decided : goal.returns-in-Ok-clause-decided
returns-in-Ok-clause-decided c = λ none o said. record {
  called = c.in-Ok.ensures.called o said;
  number_is = λ d is. c.verdict_number.ensures ∙ ap verdict_number (c.in-Ok.ensures.verdict o d said is);
  changed_is = c.in-Ok.ensures.members;
  nothing_is = c.in-Ok.ensures.nothing;
  waits_is = c.in-Ok.ensures.waits;
  free_is = c.in-Ok.ensures.free;
  begun_is = c.decide.ensures.begun;
  clock_is = c.decide.ensures.clock;
}

pub returns-in-Ok-clause-places : goal.returns-in-Ok-clause-places
returns-in-Ok-clause-places c = blanked_places _ _ _ c.in-Ok.ensures.count c.in-Ok.ensures.blanked

pub returns-in-Err-clause-places : goal.returns-in-Err-clause-places
returns-in-Err-clause-places c = unchanged_places _ _ _ ((λ i. record c.nothing.result { changed = c.in-Err.ensures.untold i }) ∙ c.nothing.ensures) c.in-Err.ensures.untouched
