use Rattle.ptpm_world.proofs.Common.{◌≡◌, ℕ, ◌<◌, List, arith, subst, length, get_or, ap, ◌∙◌, flat_map, Appends, Appends-nil, TakesFirst, take_all, RunningSession, report_line, session_lines}
use Rattle.ptpm_world.proofs.Taking.{writes-err, reports-written, written-cut, written-more}
use Rattle.ptpm_world.proofs.trace.write_reports.Goals as goal

pub loop-session-init : goal.loop-session-init
loop-session-init g c = Appends-nil (g.W.Write.contents c.args.out.now)

pub loop-session-preserved : goal.loop-session-preserved
loop-session-preserved g c = grind (arith, written-more, get_or)

pub returns : goal.returns
returns g c =
    subst (Appends (g.W.Write.contents c.args.out.now) (g.W.Write.contents c.loop-session.out))
    (ap (flat_map (λ (s : RunningSession). session_lines s.name s.reports.items)) (take_all c.loop-session.session-index c.args.world.now.sessions.items (omega (arith, ap length c.deref-session-items.ensures.value))) ∙ reports-written c.args.world.now) c.loop-session.invariant

pub returns-in_err-write_session : goal.returns-in_err-write_session
returns-in_err-write_session g c =
    let W = g.W.Write.contents in
    let session = c.session-item.result in
    let i = c.loop-session.session-index in
    let sessions = c.args.world.now.sessions.items in
    let same : c.deref-session-items.result.now ≡ sessions = c.deref-session-items.ensures.value in
    let within : i < length sessions = omega (arith, ap length same) in
    let is : session ≡ get_or sessions i session = c.session-item.is ∙ ap (λ (l : List RunningSession). get_or l i session) same in
    let told : flat_map (report_line c.as_str.result.now) c.as_slice-reports.result.now ≡ session_lines session.name session.reports.items =
    (λ j. flat_map (report_line (c.as_str.ensures j)) (c.as_slice-reports.ensures.value j)) in
    let cut = written-cut (W c.args.out.now) (W c.loop-session.out) (W c.write_session.new.out) (λ (s : RunningSession). session_lines s.name s.reports.items) sessions i session within is c.loop-session.invariant
    (subst (λ (l : List ℕ). TakesFirst l (W c.loop-session.out) (W c.write_session.new.out)) told c.in_err-write_session.ensures.1) in
    writes-err c.from_residual.result c.in_err-write_session.field-0.0 c.from_residual.ensures.1 c.in_err-write_session.ensures.0
    (subst (λ (l : List ℕ). TakesFirst l (W c.args.out.now) (W c.write_session.new.out)) (reports-written c.args.world.now) cut)
