use Rattle.ptpm_world.proofs.Common.{arith, ◌≡◌, ◌+◌, ap, sym, subst, ◌∙◌, refl, Some, length, option_map, slice_get, slice_get_read, run, initial_state, RunningSession}
use Rattle.ptpm_network.specs.Worth.{IsWorth}
use Rattle.ptpm_world.proofs.WorldLemmas.{known-found, unknown-name, worth-shown, at_name, of_no_name}
use Rattle.ptpm_world.proofs.world.World.reports.Goals as goal

pub returns-in-Some-clause-reports : goal.returns-in-Some-clause-reports
returns-in-Some-clause-reports c =
    let xs = c.args.self.now.sessions.items in
    let at = slice_get_read xs (length xs) c.in-Some.place c.index.result.now refl c.in-Some.ensures.found.1 c.index.ensures in
    ap Some c.as_slice.ensures.value
    ∙ sym (ap (option_map (λ (x : RunningSession). x.reports.items)) (at_name (λ (x : RunningSession). x.name) xs c.args.session.now c.in-Some.place c.index.result.now c.in-Some.ensures.found.0 at))

pub returns-in-None-clause-reports : goal.returns-in-None-clause-reports
returns-in-None-clause-reports c =
    sym (ap (option_map (λ (x : RunningSession). x.reports.items)) (of_no_name (λ (x : RunningSession). x.name) c.args.self.now.sessions.items c.args.session.now c.in-None.ensures.none))

pub returns-in-Some-clause-known : goal.returns-in-Some-clause-known
returns-in-Some-clause-known c = grind (arith, known-found)

pub returns-in-None-clause-known : goal.returns-in-None-clause-known
returns-in-None-clause-known c = unknown-name (λ (x : RunningSession). x.name) c.args.self.now.sessions.items c.args.session.now c.in-None.ensures.none

pub returns-in-Some-clause-worth : goal.returns-in-Some-clause-worth
returns-in-Some-clause-worth c = λ N past is at i report here.
    let xs = c.args.self.now.sessions.items in
    let there = slice_get_read xs (length xs) c.in-Some.place c.index.result.now refl c.in-Some.ensures.found.1 c.index.ensures in
    subst (λ s. (report.index ≡ i + 1) × IsWorth N (run N (initial_state N) past) s report) c.in-Some.ensures.found.0
    (worth-shown N past c.args.self.now c.in-Some.place c.index.result.now is at there i report (ap (λ rs. slice_get rs i) (sym c.as_slice.ensures.value) ∙ here))
