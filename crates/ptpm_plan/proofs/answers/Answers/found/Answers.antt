use Rattle.std.proofs.Common.{◌≡◌, ◌<◌, ◌+◌, ◌∙◌, [], ◌∷◌, ◌++◌, ap, arith, get_or, length, subst, sym, take}
use Rattle.std.proofs.lemmas.List.{take_more}
use Rattle.ptpm_plan.proofs.Surveys.{HasClocks, HasPorts, clock_more, port_more}
use Rattle.ptpm_plan.proofs.answers.Answers.found.Goals as goal

pub loop-answer-preserved : goal.loop-answer-preserved
loop-answer-preserved c =
    let xs = c.args.self.now.list.items in
    let i = c.loop-answer.answer-index in
    let a = c.answer-item.result in
    let same = c.as_slice-answer-items.ensures.value in
    let inside : i < length xs = omega (arith, c.loop-answer-test.true, ap length same) in
    let is : a ≡ get_or xs i a = c.answer-item.is ∙ ap (λ ys. get_or ys i a) same in
    let more : take i xs ++ a ∷ [] ≡ take (i + 1) xs = ap (λ x. take i xs ++ x ∷ []) is ∙ sym (take_more xs i a inside) in
    let clocks = clock_more xs (take i xs) c.loop-answer.surveyed.clocks.items a c.loop-answer.invariant.0 in
    let ports = port_more xs (take i xs) c.loop-answer.surveyed.ports.items a c.loop-answer.invariant.1 in (
      subst (λ seen. HasClocks xs seen c.add_clock.new.clocks.items) more
          (subst (HasClocks xs (take i xs ++ a ∷ [])) (sym c.in_ok-add_clock.ensures) clocks),
      subst (λ seen. HasPorts xs seen c.add_port.new.ports.items) more
          (subst (HasPorts xs (take i xs ++ a ∷ [])) (sym c.in_ok-add_port.ensures) ports),
    )
