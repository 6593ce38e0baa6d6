use Rattle.ptpm_world.proofs.Common.{ap, ◌∙◌, bytes_eq, position, RunningSession}
use Rattle.ptpm_world.proofs.WorldLemmas.{found_clause, none_clause}
use Rattle.ptpm_world.proofs.world.World.session_place.Goals as goal

pub returns-clause-found : goal.returns-clause-found
returns-clause-found c =
    let e = c.place_of_session.ensures ∙ ap (position (λ (x : RunningSession). bytes_eq x.name c.args.name.now)) c.as_slice.ensures.value in
    found_clause (λ (x : RunningSession). x.name) c.args.self.now.sessions.items c.args.name.now _ e

pub returns-clause-none : goal.returns-clause-none
returns-clause-none c =
    let e = c.place_of_session.ensures ∙ ap (position (λ (x : RunningSession). bytes_eq x.name c.args.name.now)) c.as_slice.ensures.value in
    none_clause (λ (x : RunningSession). x.name) c.args.self.now.sessions.items c.args.name.now _ e
