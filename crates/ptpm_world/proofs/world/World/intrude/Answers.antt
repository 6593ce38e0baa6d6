use Rattle.ptpm_world.proofs.Common.{◌++◌, cond-false, flat_map, network_event, posted_by, strange_frame, ◌≡◌, ◌∙◌, All, Some, ap, length, refl, subst, sym, same_Some, slice_get_read, slice_get, has_port, origin_by, Neither, RunningClock, AreLinks, IsStoredFrame, port_counts, held_in, link_ends, Stranger}
use Rattle.ptpm_world.proofs.Changing.{names-clock, kept-clock}
use Rattle.ptpm_world.proofs.Steps.{ports_after, stranger-forges, stranger-no_clock, stranger-no_port, stranger-too_many, port_there, turn-step}
use Rattle.ptpm_world.proofs.Ending.{roomy, skips, step_named}
use Rattle.ptpm_world.proofs.world.World.intrude.Goals as goal
use Rattle.ptpm_world.proofs.world.World.intrude.Goals.{After-has_port, After-index_mut-clock}

-- the clock of that name, before its turn and for it
asked : (c : After-has_port)
    → slice_get c.args.self.now.clocks.items c.in-Some.place ≡ Some c.index.result.now
asked c = slice_get_read c.args.self.now.clocks.items _ c.in-Some.place c.index.result.now refl c.in-Some.ensures.found.1 c.index.ensures

has_its_port : (c : After-has_port)
    → has_port c.args.port c.index.result.now.agent.sets ≡ c.has_port.result
has_its_port c = ap (has_port c.args.port) (sym c.sets.ensures) ∙ sym c.has_port.ensures.exact

turning : (c : After-index_mut-clock)
    → slice_get c.args.self.now.clocks.items c.in-Some.place ≡ Some c.index_mut-clock.result.now
turning c = slice_get_read c.args.self.now.clocks.items _ c.in-Some.place c.index_mut-clock.result.now refl c.in-Some.ensures.found.1 c.index_mut-clock.ensures.value

pub returns-in_default-clause-step : goal.returns-in_default-clause-step
returns-in_default-clause-step c = λ N is. stranger-no_clock N c.args.self.now _ c.args.port c.args.datagram.now is c.in_default.ensures.none

pub returns-then-not-has_port-clause-step : goal.returns-then-not-has_port-clause-step
returns-then-not-has_port-clause-step c = λ N is.
    let here = (goal.at.returns-then-not-has_port-clause-step c).After-has_port in
    step_named N c.args.self.now _ (λ k. Stranger k c.args.port c.args.datagram.now) c.in-Some.place _ _ c.in-Some.ensures.found.0
    (stranger-no_port N c.args.self.now _ c.in-Some.place c.args.port c.index.result.now c.args.datagram.now is
    (record { clock_count = is.clock_count; clocks = is.clocks; session_count = is.session_count; sessions = is.sessions; links = is.links })
    (asked here) (has_its_port here ∙ c.if-not-has_port.true))

pub returns-then-is_forged-clause-step : goal.returns-then-is_forged-clause-step
returns-then-is_forged-clause-step c = λ N is.
    let here = (goal.at.returns-then-is_forged-clause-step c).After-has_port in
    step_named N c.args.self.now _ (λ k. Stranger k c.args.port c.args.datagram.now) c.in-Some.place _ _ c.in-Some.ensures.found.0
    (stranger-forges N c.args.self.now _ c.in-Some.place c.args.port c.index.result.now c.args.datagram.now is
    (record { clock_count = is.clock_count; clocks = is.clocks; session_count = is.session_count; sessions = is.sessions; links = is.links })
    (asked here) (has_its_port here ∙ c.if-not-has_port.false)
    (sym (c.is_forged.ensures N (record { clock_count = is.clock_count; clocks = is.clocks; session_count = is.session_count; sessions = is.sessions; links = is.links })) ∙ c.if-is_forged.true))

pub returns-then-is_full-clause-step : goal.returns-then-is_full-clause-step
returns-then-is_full-clause-step c = λ N is.
    let here = (goal.at.returns-then-is_full-clause-step c).After-has_port in
    step_named N c.args.self.now _ (λ k. Stranger k c.args.port c.args.datagram.now) c.in-Some.place _ _ c.in-Some.ensures.found.0
    (stranger-too_many N c.args.self.now _ c.in-Some.place c.args.port c.index.result.now c.args.datagram.now is
    (record { clock_count = is.clock_count; clocks = is.clocks; session_count = is.session_count; sessions = is.sessions; links = is.links })
    (asked here) (has_its_port here ∙ c.if-not-has_port.false)
    (sym (c.is_forged.ensures N (record { clock_count = is.clock_count; clocks = is.clocks; session_count = is.session_count; sessions = is.sessions; links = is.links })) ∙ c.if-is_forged.false)
    (sym c.is_full.ensures ∙ c.if-is_full.true))

pub post_turn-requires-clause-links : goal.post_turn-requires-clause-links
post_turn-requires-clause-links c =
    let w = c.args.self.now in
    (port_counts w.clocks.items, length w.sessions.items, subst (AreLinks (port_counts w.clocks.items) (length w.sessions.items)) (sym c.as_slice.ensures.value) w.links_there)

pub invariant_of-self-2 : goal.invariant_of-self-2
invariant_of-self-2 c =
    let w = c.args.self.now in
    let x = c.index_mut-clock.result.now in
    let y = c.take_turn-verdict.new.self in
    let at = turning (goal.at.invariant_of-self-2 c).After-index_mut-clock in
    let counts = port_counts w.clocks.items in
    let sessions = length w.sessions.items in
    let before = subst (All (IsStoredFrame counts sessions)) (sym c.in_ok-make_room.ensures.stored) w.frames_there in
    let links = subst (AreLinks counts sessions) (sym c.as_slice.ensures.value) w.links_there in
    let ports = ports_after x y c.args.port c.args.datagram.now c.take_turn-verdict.result c.take_turn-verdict.new.outbox c.take_turn-verdict.ensures.turned in
    let kept = kept-clock w c.in-Some.place x y _ at ports (c.post_turn.ensures.stored counts sessions before links tt) in
    record { few_clocks = kept.few_clocks; few_sessions = kept.few_sessions; links_there = kept.links_there; frames_there = kept.frames_there }

pub returns-clause-step : goal.returns-clause-step
unfolding network_event
returns-clause-step c = λ N is.
    let w = c.args.self.now in
    let x = c.index_mut-clock.result.now in
    let y = c.take_turn-verdict.new.self in
    let at = turning (goal.at.returns-clause-step c).After-index_mut-clock in
    let before = (goal.at.returns-clause-step c).After-has_port in
    let same : x ≡ c.index.result.now = same_Some _ _ (sym at ∙ asked before) in
    let has = ap (λ (k : RunningClock). has_port c.args.port k.agent.sets) same ∙ has_its_port before ∙ c.if-not-has_port.false in
    let honest = sym (c.is_forged.ensures N (record { clock_count = is.clock_count; clocks = is.clocks; session_count = is.session_count; sessions = is.sessions; links = is.links })) ∙ c.if-is_forged.false in
    let turned = c.take_turn-verdict.ensures.turned in
    let verdict = c.take_turn-verdict.result in
    let out = c.take_turn-verdict.new.outbox in
    let frames : held_in c.post_turn.new.frames ≡ held_in w.frames ++ flat_map (posted_by (link_ends w.links.items) c.in-Some.place c.args.port Neither (origin_by verdict Neither)) out =
    cc (c.post_turn.ensures.frames, c.in_ok-make_room.ensures.frames, c.as_slice.ensures.value, c.entries.ensures.messages) in
    step_named N w _ (λ k. Stranger k c.args.port c.args.datagram.now) c.in-Some.place _ _ c.in-Some.ensures.found.0
    (turn-step N w _ c.in-Some.place c.args.port x y (strange_frame c.in-Some.place c.args.port c.args.datagram.now) verdict out is
    (record { at = at; clocks = refl; sessions = refl; links = refl; name = c.take_turn-verdict.ensures.name; clock = c.take_turn-verdict.ensures.clock; ports = ports_after x y c.args.port c.args.datagram.now verdict out turned })
    turned _ frames
    (skips _ _ _ (port_there N w c.in-Some.place c.args.port x is at has)
    (skips _ _ _ (cond-false _ _ _ honest) (skips _ _ _ (roomy (held_in w.frames) (sym c.is_full.ensures ∙ c.if-is_full.false)) refl))))

pub returns-clause-names : goal.returns-clause-names
returns-clause-names c =
    let w = c.args.self.now in
    let x = c.index_mut-clock.result.now in
    let at = turning (goal.at.returns-clause-names c).After-index_mut-clock in
    names-clock w c.in-Some.place x c.take_turn-verdict.new.self at c.take_turn-verdict.ensures.name
