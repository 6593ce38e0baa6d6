use Rattle.ptpm_world.proofs.Common.{◌≡◌, false, Some, sym, ap, ◌∙◌, option_map, option_or, result_err, reading, is_skipped}
use Rattle.ptpm_world.specs.Lines.{latest_line}
use Rattle.ptpm_world.proofs.ScriptLemmas.{bad-event}
use Rattle.ptpm_world.proofs.findings.check_event.Goals as goal

pub returns-in_ok-writeln-clause-first : goal.returns-in_ok-writeln-clause-first
returns-in_ok-writeln-clause-first g c =
    let line = latest_line c.args.script.now in
    let text = c.in-Ok.ensures.text in
    let take : is_skipped line ≡ false = ap is_skipped (sym text) ∙ sym c.is_skipped.ensures ∙ c.if-is_skipped.false in
    let told : Some c.in-Some.fault.error ≡ result_err (reading line) =
    ap (option_map (λ f. f.error)) (sym c.in-Some.is) ∙ c.in_ok-fault.ensures.error ∙ ap (λ l. result_err (reading l)) text in
    let bad = bad-event c.args.number line c.in-Some.fault.error take told in
    c.note.ensures.first ∙ sym (λ i. option_or c.args.findings.now.first (option_or (c.in-Ok.ensures.none i) (bad i)))
