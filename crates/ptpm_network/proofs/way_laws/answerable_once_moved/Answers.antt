use Rattle.ptpm_network.proofs.Reporting.{taken-moved, taken-resumed, moving, answerable-after, runs-after, both-ready, resumed-ready, retuned-ready}
use Rattle.ptpm_network.proofs.way_laws.answerable_once_moved.Goals as goal
use Rattle.ptpm_network.proofs.Common.{Retune, [], ◌∷◌, refl, Resume}
use Rattle.ptpm_network.specs.Machine.{state_after}

pub returns-clause-resumed : goal.returns-clause-resumed
returns-clause-resumed c = λ N es s hops port ends n range place busy all room attempts some way.
    answerable-after N es (Resume s attempts ∷ []) s hops port ends n range place all (tt, tt)
    (resumed-ready N (state_after N es) s hops port ends place busy room attempts some way)

pub returns-clause-retuned : goal.returns-clause-retuned
returns-clause-retuned c = λ N es s hops port ends n range place busy all room domain some way.
    answerable-after N es (Retune s domain ∷ []) s hops port ends n range place all (tt, tt)
    (retuned-ready N (state_after N es) s hops port ends place busy room domain some way)

pub returns-clause-moved : goal.returns-clause-moved
returns-clause-moved c = λ N es s hops port ends n range place busy all room domain attempts some way.
    answerable-after N es (moving s domain attempts) s hops port ends n range place all (tt, (tt, tt))
    (both-ready N (state_after N es) s hops port ends place busy room domain attempts some way)

pub returns-clause-taken : goal.returns-clause-taken
returns-clause-taken c = λ N w s domain attempts place busy.
    (taken-resumed N w s attempts place busy, taken-moved N w s domain attempts place busy)

pub returns-clause-runs_resumed : goal.returns-clause-runs_resumed
returns-clause-runs_resumed c = λ N past r s hops port ends at place busy all room attempts some way.
    runs-after N past (Resume s attempts ∷ []) r s hops port ends at place all (tt, tt) ((λ none. refl), tt) (taken-resumed N (state_after N past) s attempts place busy)
    (resumed-ready N (state_after N past) s hops port ends place busy room attempts some way)

pub returns-clause-runs_moved : goal.returns-clause-runs_moved
returns-clause-runs_moved c = λ N past r s hops port ends at place busy all room domain attempts some way.
    runs-after N past (moving s domain attempts) r s hops port ends at place all (tt, (tt, tt)) ((λ none. refl), ((λ none. refl), tt)) (taken-moved N (state_after N past) s domain attempts place busy)
    (both-ready N (state_after N past) s hops port ends place busy room domain attempts some way)
