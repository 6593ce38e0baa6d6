use Rattle.ptpm_world.proofs.Common.{◌≡◌, ℕ, ◌<◌, List, arith, subst, length, get_or, ap, ◌∙◌, flat_map, Appends, Appends-nil, TakesFirst, take_all, RunningClock, clock_lines}
use Rattle.ptpm_world.proofs.Taking.{writes-err, data-written, written-cut, written-more}
use Rattle.ptpm_world.proofs.trace.write_data_sets.Goals as goal

pub loop-clock-init : goal.loop-clock-init
loop-clock-init g c = Appends-nil (g.W.Write.contents c.args.out.now)

pub loop-clock-preserved : goal.loop-clock-preserved
loop-clock-preserved g c = grind (arith, written-more, get_or)

pub returns : goal.returns
returns g c =
    subst (Appends (g.W.Write.contents c.args.out.now) (g.W.Write.contents c.loop-clock.out))
    (ap (flat_map (λ (s : RunningClock). clock_lines s.name s.agent.sets)) (take_all c.loop-clock.clock-index c.args.world.now.clocks.items (omega (arith, ap length c.deref-clock-items.ensures.value))) ∙ data-written c.args.world.now) c.loop-clock.invariant

pub returns-in_err-write_sets : goal.returns-in_err-write_sets
returns-in_err-write_sets g c =
    let W = g.W.Write.contents in
    let clock = c.clock-item.result in
    let i = c.loop-clock.clock-index in
    let clocks = c.args.world.now.clocks.items in
    let same : c.deref-clock-items.result.now ≡ clocks = c.deref-clock-items.ensures.value in
    let within : i < length clocks = omega (arith, ap length same) in
    let is : clock ≡ get_or clocks i clock = c.clock-item.is ∙ ap (λ (l : List RunningClock). get_or l i clock) same in
    let told : clock_lines c.as_str.result.now c.sets.result.now ≡ clock_lines clock.name clock.agent.sets =
    (λ j. clock_lines (c.as_str.ensures j) (c.sets.ensures j)) in
    let cut = written-cut (W c.args.out.now) (W c.loop-clock.out) (W c.write_sets.new.out) (λ (s : RunningClock). clock_lines s.name s.agent.sets) clocks i clock within is c.loop-clock.invariant
    (subst (λ (l : List ℕ). TakesFirst l (W c.loop-clock.out) (W c.write_sets.new.out)) told c.in_err-write_sets.ensures.1) in
    writes-err c.from_residual.result c.in_err-write_sets.field-0.0 c.from_residual.ensures.1 c.in_err-write_sets.ensures.0
    (subst (λ (l : List ℕ). TakesFirst l (W c.args.out.now) (W c.write_sets.new.out)) (data-written c.args.world.now) cut)
