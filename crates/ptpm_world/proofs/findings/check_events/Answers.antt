use Rattle.ptpm_world.proofs.Common.{◌+◌, true, Ok, refl, ap, ◌∙◌, arith, option_or, result_err, left_in, event_of, text_fault}
use Rattle.ptpm_world.proofs.ScriptLemmas.{checks-more}
use Rattle.ptpm_world.proofs.Playing.{next-is}
use Rattle.ptpm_world.specs.Lines.{latest_line, line_count}
use Rattle.ptpm_world.proofs.findings.check_events.Goals as goal

pub loop-number-preserved : goal.loop-number-preserved
loop-number-preserved g c =
    let R = g.R.Read.remaining in
    let line = latest_line c.read_next.new.script in
    let count = line_count c.read_next.new.script in
    let place = c.loop-number.number + 1 in
    let bad = option_or (text_fault count line) (result_err (event_of place line)) in
    let came = ap Ok c.if-branch.true in
    let counted = c.in_ok-read_next.ensures.count came in
    let next = next-is (line_count c.loop-number.script + 1) count (text_fault count line) (left_in R c.loop-number.script) (left_in R c.read_next.new.script) true line
    refl (c.in_ok-read_next.ensures.line came) counted refl in
    record {
      few = omega (arith, c.loop-number.invariant.few, counted);
      counted = λ was. c.in_ok-check_event.ensures.counted (c.in_ok-read_next.ensures.counted (c.loop-number.invariant.counted was));
      checks = checks-more c.loop-number.invariant.checks next
          (c.in_ok-check_event.ensures.first ∙ ap (λ was. option_or was bad) (c.in_ok-read_next.ensures.same came))
          (ap (λ k. k + 1) counted);
    }
