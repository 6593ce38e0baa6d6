use Rattle.std.proofs.Common.{◌≡◌, ◌∙◌, ◌||◌, ap}
use Rattle.ptpm_agent.specs.declared.verdict.Verdict.{Verdict}
use Rattle.ptpm_saved.specs.SavingClock.{is_new}
use Rattle.ptpm_host.specs.Numbers.{verdict_number}
use Rattle.ptpm_c.proofs.HandedOut.{unchanged_places}
use Rattle.ptpm_c.proofs.batching.hand_in.Goals as goal

pub returns-in-Ok-clause-taken : goal.returns-in-Ok-clause-taken
returns-in-Ok-clause-taken c = λ none o said.
    let verdict = c.in-Ok.ensures.verdict o said in
    record {
      called = c.in-Ok.ensures.called o said;
      number_is = c.verdict_number.ensures ∙ ap verdict_number verdict;
      waits_is = c.in-Ok.ensures.waits ∙ ap (λ (v : Verdict). c.args.clock.now.waits || is_new v) verdict;
      free_is = c.in-Ok.ensures.free;
      begun_is = c.take.ensures.begun;
      clock_is = c.take.ensures.clock;
    }

pub returns-in-Err-clause-places : goal.returns-in-Err-clause-places
returns-in-Err-clause-places c = unchanged_places _ _ _ ((λ i. record c.args.taken.now { changed = c.in-Err.ensures.untold i }) ∙ c.requires.nothing) c.in-Err.ensures.untouched

pub returns-in-Ok-clause-changed : goal.returns-in-Ok-clause-changed
returns-in-Ok-clause-changed c = λ none. c.in-Ok.ensures.members
