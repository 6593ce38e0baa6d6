use Rattle.ptpm_world.proofs.Common.{Deliver, Ok, reaches, running, seen, ◌≡◌, ◌++◌, ◌∙◌, All, ℕ, List, Some, ap, arith, length, nat_lt, refl, subst, sym, slice_get_read, flat_map, slice_get, frame_at, frames_limit, origin_by, posted_by, Held, AreLinks, IsStoredFrame, World, port_counts, described_end, frame_value, held_in, link_ends, origin_of}
use Rattle.ptpm_world.proofs.Changing.{names-clock, names-session, kept-clock}
use Rattle.ptpm_world.proofs.Steps.{deliver-no_frame, deliver-too_many, ports_after, turn-step, hear-step, hear-unchanged}
use Rattle.ptpm_network.specs.Network.{End}
use Rattle.ptpm_world.proofs.Ending.{delivered}
use Rattle.ptpm_world.proofs.WorldLemmas.{IsAtClock, at_clock, at_session, lent_octets, with_octets}
use Rattle.ptpm_world.proofs.world.World.deliver.Goals as goal
use Rattle.ptpm_world.proofs.world.World.deliver.Goals.{After-index_mut, After-index_mut-clock}

-- the frame that was found once there was room is the one of before
lent : (w : World) (n : ℕ) (held : List Held) (h : Held)
    → held ≡ held_in w.frames
    → Some h ≡ frame_at held n
    → frame_at (held_in w.frames) n ≡ Some h
lent w n held h kept found = ap (λ (fs : List Held). frame_at fs n) (sym kept) ∙ sym found

-- it comes in at a port of a clock
coming : (c : After-index_mut-clock)
    → IsAtClock c.args.self.now c.in-Clock.place c.in-Clock.port c.origin-origin.result (frame_value c.in-Some.frame)
coming c =
    at_clock c.args.self.now c.args.number c.in-Clock.place c.in-Clock.port c.origin-origin.result (frame_value c.in-Some.frame)
    (lent c.args.self.now c.args.number _ (frame_value c.in-Some.frame) c.in_ok-make_room.ensures.frames c.in-Some.ensures)
    (ap described_end (sym c.end.ensures ∙ c.in-Clock.is)) (ap origin_of (sym c.origin-origin.ensures))

-- which takes its turn
turning : (c : After-index_mut-clock)
    → slice_get c.args.self.now.clocks.items c.in-Clock.place ≡ Some c.index_mut-clock.result.now
turning c = slice_get_read c.args.self.now.clocks.items _ c.in-Clock.place c.index_mut-clock.result.now refl (coming c).there.within c.index_mut-clock.ensures.value

-- it comes in at a session
hearing : (c : After-index_mut)
    → slice_get c.args.self.now.sessions.items c.in-Session.place ≡ Some c.index_mut.result.now
hearing c = grind (arith, slice_get_read, at_session, lent)

pub returns-in_default-clause-step : goal.returns-in_default-clause-step
returns-in_default-clause-step c = grind (arith, deliver-no_frame)

pub returns-then-is_full-clause-step : goal.returns-then-is_full-clause-step
returns-then-is_full-clause-step c = grind (arith, deliver-too_many, lent, nat_lt)

-- ---- at a clock

pub index_mut-clock-requires : goal.index_mut-clock-requires
index_mut-clock-requires c = grind (arith, at_clock, lent)

pub take_turn-verdict-requires : goal.take_turn-verdict-requires
take_turn-verdict-requires c =
    let here = (goal.at.take_turn-verdict-requires c).After-index_mut-clock in
    record { port = (coming here).there.has c.index_mut-clock.result.now (turning here) }

pub post_turn-requires-clause-links : goal.post_turn-requires-clause-links
post_turn-requires-clause-links c =
    let w = c.args.self.now in
    (port_counts w.clocks.items, length w.sessions.items, subst (AreLinks (port_counts w.clocks.items) (length w.sessions.items)) (sym c.as_slice.ensures.value) w.links_there)

pub invariant_of-self-in-Clock : goal.invariant_of-self-in-Clock
invariant_of-self-in-Clock c =
    let w = c.args.self.now in
    let x = c.index_mut-clock.result.now in
    let y = c.take_turn-verdict.new.self in
    let here = (goal.at.invariant_of-self-in-Clock c).After-index_mut-clock in
    let counts = port_counts w.clocks.items in
    let sessions = length w.sessions.items in
    let before = subst (All (IsStoredFrame counts sessions)) (sym c.in_ok-make_room.ensures.stored) w.frames_there in
    let links = subst (AreLinks counts sessions) (sym c.as_slice.ensures.value) w.links_there in
    let ports = ports_after x y c.in-Clock.port c.octets.result.now c.take_turn-verdict.result c.take_turn-verdict.new.outbox c.take_turn-verdict.ensures.turned in
    let kept = kept-clock w c.in-Clock.place x y _ (turning here) ports (c.post_turn.ensures.stored counts sessions before links (coming here).session) in
    record { few_clocks = kept.few_clocks; few_sessions = kept.few_sessions; links_there = kept.links_there; frames_there = kept.frames_there }

pub returns-in-Clock-clause-step : goal.returns-in-Clock-clause-step
returns-in-Clock-clause-step c = λ N is.
    let w = c.args.self.now in
    let x = c.index_mut-clock.result.now in
    let y = c.take_turn-verdict.new.self in
    let here = (goal.at.returns-in-Clock-clause-step c).After-index_mut-clock in
    let h = with_octets (frame_value c.in-Some.frame) c.octets.result.now in
    let e : frame_at (held_in w.frames) c.args.number ≡ Some h =
    ap (λ (fs : List Held). frame_at fs c.args.number) (sym c.in_ok-make_room.ensures.frames)
    ∙ lent_octets _ (frame_value c.in-Some.frame) c.octets.result.now c.in-Some.ensures c.octets.ensures in
    let turned = c.take_turn-verdict.ensures.turned in
    let verdict = c.take_turn-verdict.result in
    let out = c.take_turn-verdict.new.outbox in
    let frames : held_in c.post_turn.new.frames ≡ held_in w.frames ++ flat_map (posted_by (link_ends w.links.items) c.in-Clock.place c.in-Clock.port h.origin (origin_by verdict h.origin)) out =
    cc (c.post_turn.ensures.frames, c.in_ok-make_room.ensures.frames, c.as_slice.ensures.value, c.entries.ensures.messages, (coming here).origin_is) in
    turn-step N w _ c.in-Clock.place c.in-Clock.port x y (seen h) verdict out is
    (record { at = turning here; clocks = refl; sessions = refl; links = refl; name = c.take_turn-verdict.ensures.name; clock = c.take_turn-verdict.ensures.clock; ports = ports_after x y c.in-Clock.port c.octets.result.now verdict out turned })
    turned (Deliver c.args.number) frames
    (delivered N (running w) c.args.number h e (ap (λ (fs : List Held). nat_lt frames_limit (length fs)) (sym c.in_ok-make_room.ensures.frames) ∙ sym c.is_full.ensures ∙ c.if-is_full.false)
    ∙ ap (λ (end : End). Ok (reaches N (running w) h end)) (coming here).end)

pub returns-in-Clock-clause-names : goal.returns-in-Clock-clause-names
returns-in-Clock-clause-names c = grind (arith, names-clock, turning, After-index_mut-clock)

-- ---- at a session

pub index_mut-requires : goal.index_mut-requires
index_mut-requires c = grind (arith, at_session, lent)

pub returns-in-Session-clause-step : goal.returns-in-Session-clause-step
returns-in-Session-clause-step c = λ N is.
    let w = c.args.self.now in
    let h = with_octets (frame_value c.in-Some.frame) c.octets-in-Session.result.now in
    let e : frame_at (held_in w.frames) c.args.number ≡ Some h =
    ap (λ (fs : List Held). frame_at fs c.args.number) (sym c.in_ok-make_room.ensures.frames)
    ∙ lent_octets _ (frame_value c.in-Some.frame) c.octets-in-Session.result.now c.in-Some.ensures c.octets-in-Session.ensures in
    hear-step N w _ c.in-Session.place c.index_mut.result.now c.hear.new.self is
    (record { at = hearing (goal.at.returns-in-Session-clause-step c).After-index_mut; sessions = refl; clocks = refl; links = refl; name = c.hear.ensures.name; identity = c.hear.ensures.identity })
    c.args.number h c.hear.result e (ap described_end (sym c.end.ensures ∙ c.in-Session.is))
    (ap (λ (fs : List Held). nat_lt frames_limit (length fs)) (sym c.in_ok-make_room.ensures.frames) ∙ sym c.is_full.ensures ∙ c.if-is_full.false)
    c.hear.ensures.session c.hear.ensures.reports c.in_ok-make_room.ensures.frames c.hear.ensures.answers c.hear.ensures.refused

pub returns-in-Session-clause-unchanged : goal.returns-in-Session-clause-unchanged
returns-in-Session-clause-unchanged c =
    hear-unchanged c.args.self.now c.in-Session.place c.index_mut.result.now c.hear.new.self _ c.hear.result
    (hearing (goal.at.returns-in-Session-clause-unchanged c).After-index_mut) c.in_ok-make_room.ensures.frames c.hear.ensures.unchanged

pub returns-in-Session-clause-names : goal.returns-in-Session-clause-names
returns-in-Session-clause-names c = grind (arith, names-session, hearing, After-index_mut)
