use Rattle.ptpm_world.proofs.Common.{arith, ℕ, List, ap, refl, sym, subst, ◌∙◌, TakesFirst, event_text}
use Rattle.ptpm_world.proofs.Ending.{answered, line-said}
use Rattle.ptpm_world.proofs.Taking.{takes-none, writes-err}
use Rattle.ptpm_world.proofs.trace.write_event.Goals as goal

pub returns-clause-line : goal.returns-clause-line
returns-clause-line g c = grind (arith, answered)

pub returns-clause-after : goal.returns-clause-after
returns-clause-after g c = grind (arith, answered)

pub returns-in_err-write_shown-clause-line : goal.returns-in_err-write_shown-clause-line
returns-in_err-write_shown-clause-line g c = λ N is.
    let W = g.W.Write.contents in
    let verb = ap (λ (v : List ℕ). event_text c.args.number v c.step-took.result c.is_late_delivery-is_late.result c.frames-before.result c.frames-after.result)
    c.verb.ensures in
    let told = line-said N c.args.world.now c.step-took.new.self c.args.number c.args.event.now c.step-took.result c.is_late_delivery-is_late.result c.frames-before.result c.frames-after.result
    (sym c.is_out_of_memory.ensures ∙ c.if-is_out_of_memory.false) (c.step-took.ensures.step N is) c.step-took.ensures.unchanged
    c.is_late_delivery-is_late.ensures.late c.frames-before.ensures.count c.frames-after.ensures.count in
    writes-err c.from_residual.result c.in_err-write_shown.field-0.0 c.from_residual.ensures.1 c.in_err-write_shown.ensures.0
    (subst (λ (l : List ℕ). TakesFirst l (W c.args.out.now) (W c.write_shown.new.out)) (verb ∙ told) c.in_err-write_shown.ensures.1)

pub returns-then-is_out_of_memory-clause-line : goal.returns-then-is_out_of_memory-clause-line
returns-then-is_out_of_memory-clause-line g c = λ N is. (refl, takes-none _ _)

pub returns-clause-network : goal.returns-clause-network
returns-clause-network g c = λ N is. (c.step-took.ensures.step N is).network

pub returns-in_err-write_shown-clause-network : goal.returns-in_err-write_shown-clause-network
returns-in_err-write_shown-clause-network g c = λ N is. (c.step-took.ensures.step N is).network

pub returns-then-is_out_of_memory-clause-network : goal.returns-then-is_out_of_memory-clause-network
returns-then-is_out_of_memory-clause-network g c = λ N is. (c.step-took.ensures.step N is).network
