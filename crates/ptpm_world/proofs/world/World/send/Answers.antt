use Rattle.ptpm_world.proofs.Common.{arith, Send, ◌++◌, posted, peers, network_event, ◌≡◌, Some, refl, sym, ◌∙◌, ap, subst, All, length, slice_get_read, slice_get, SessionValue, AtSession, RequestOf, AreLinks, IsStoredFrame, port_counts, held_in, link_ends}
use Rattle.ptpm_world.proofs.Changing.{names-session, kept-session}
use Rattle.ptpm_world.proofs.Ending.{step_error, step_named}
use Rattle.ptpm_world.proofs.Steps.{message_due, send-fine, no_name, send-refused, send-too_many}
use Rattle.ptpm_world.proofs.world.World.send.Goals as goal
use Rattle.ptpm_world.proofs.world.World.send.Goals.{After-index_mut}

-- the session of that name
named : (c : After-index_mut)
    → slice_get c.args.self.now.sessions.items c.in-Some.place ≡ Some c.index_mut.result.now
named c = slice_get_read c.args.self.now.sessions.items _ c.in-Some.place c.index_mut.result.now refl c.in-Some.ensures.found.1 c.index_mut.ensures.value

pub returns-in_default-clause-step : goal.returns-in_default-clause-step
unfolding network_event
returns-in_default-clause-step c = λ N is. no_name N c.args.self.now _ _ _ is c.in_default.ensures.none refl

pub returns-then-is_full-clause-step : goal.returns-then-is_full-clause-step
returns-then-is_full-clause-step c = grind (arith, step_named, send-too_many)

pub returns-in_err-send-clause-step : goal.returns-in_err-send-clause-step
returns-in_err-send-clause-step c = λ N is.
    let at = named (goal.at.returns-in_err-send-clause-step c).After-index_mut in
    step_named N c.args.self.now _ Send c.in-Some.place _ _ c.in-Some.ensures.found.0
    (step_error N c.args.self.now _ (Send c.in-Some.place) _ c.from_residual-in_err-send.result c.from_residual-in_err-send.ensures.1
    (send-refused N c.args.self.now _ c.in-Some.place c.index_mut.result.now _ is (record { at = at; sessions = refl; clocks = refl; links = refl; name = refl; identity = refl })
    c.in_err-send.field-0.0 (sym c.is_full.ensures ∙ c.if-is_full.false) c.in_err-send.ensures.refusal))

pub post-requires-clause-few : goal.post-requires-clause-few
post-requires-clause-few c =
    let w = c.args.self.now in
    (port_counts w.clocks.items, length w.sessions.items, subst (AreLinks (port_counts w.clocks.items) (length w.sessions.items)) (sym c.as_slice.ensures.value) w.links_there)

pub invariant_of-self-2 : goal.invariant_of-self-2
invariant_of-self-2 c =
    let w = c.args.self.now in
    let counts = port_counts w.clocks.items in
    let sessions = length w.sessions.items in
    let before = subst (All (IsStoredFrame counts sessions)) (sym c.in_ok-make_room.ensures.stored) w.frames_there in
    let links = subst (AreLinks counts sessions) (sym c.as_slice.ensures.value) w.links_there in
    let kept = kept-session w c.in-Some.place _ _ (c.post.ensures.stored counts sessions before links (c.in-Some.ensures.found.1, c.issued.ensures.limit)) in
    record { few_clocks = kept.few_clocks; few_sessions = kept.few_sessions; links_there = kept.links_there; frames_there = kept.frames_there }

pub returns-clause-step : goal.returns-clause-step
returns-clause-step c = λ N is.
    let w = c.args.self.now in
    let x = c.index_mut.result.now in
    let at = named (goal.at.returns-clause-step c).After-index_mut in
    let due = message_due x.session c.in_ok-send.ensures.refusal in
    let count = sym (c.issued.ensures.count ∙ ap (λ (z : SessionValue). z.issued) c.in_ok-send.ensures.sent) in
    let frames : held_in c.post.new.self ≡ held_in w.frames ++ posted (peers (link_ends w.links.items) (AtSession c.in-Some.place)) c.send.new.buffer.items (RequestOf c.in-Some.place c.issued.result) =
    cc (c.post.ensures.frames, c.in_ok-make_room.ensures.frames, c.as_slice.ensures.value, c.as_slice-2.ensures.value) in
    step_named N w _ Send c.in-Some.place _ _ c.in-Some.ensures.found.0
    (send-fine N w _ c.in-Some.place x _ is (record { at = at; sessions = refl; clocks = refl; links = refl; name = refl; identity = refl })
    c.issued.result c.send.new.buffer.items due.0 (sym c.is_full.ensures ∙ c.if-is_full.false) c.in_ok-send.ensures.refusal count due.1
    (c.in_ok-send.ensures.octets due.0 due.1) c.in_ok-send.ensures.sent refl frames)

pub returns-clause-names : goal.returns-clause-names
returns-clause-names c = names-session c.args.self.now c.in-Some.place c.index_mut.result.now _ (named (goal.at.returns-clause-names c).After-index_mut) refl
