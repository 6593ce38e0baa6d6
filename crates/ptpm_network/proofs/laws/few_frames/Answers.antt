-- How many frames an event makes.
use Rattle.ptpm_network.proofs.Common.{ClocksHaveAtMost, INLINE_PORTS, frames_of_event, Replay, no_end, to_end, by_test, arith, ◌≡◌, ℕ, ◌+◌, ◌-◌, ◌<◌, ◌≤◌, List, [], ◌∷◌, ◌++◌, Option, Some, None, refl, subst, length, length-append, ltb-false, length-map, nat_lt, AllByRecursion, list_any, first_of-none, option_or-none, ClockIdentity, Message, canonical, boundary_hops, message_of, DataSetsValue, ReplyValue, Heard, rendered, forwarded, forwarded_by, is_forwarded, due_messages, RequestCopy, copy_of, due_reply, Deliver, Event, FramesAtMaximum, IsInRange, Send, Stranger, forged, frame_at, frames_limit, no_frame, no_port, no_room, no_session, refusal, send_refused, IsReached, answer_messages, answer_origin, answering_frames, arrives, delivery, forwarded_frames, happens, made_frames, run, sent_frames, step, strange_frame, AtPort, AtSession, End, HasEnd, IsLink, IsNetwork, Network, peers, ports, same_end, Frame, NetworkState, Origin, frames_to, history, filter-fewer, flat-few, initial_state}
use Rattle.ptpm_agent.proofs.Egress.{copies_up_to-all, length-copies_up_to_but_one}
use Rattle.ptpm_network.proofs.Answering.{keeps_due}
use Rattle.ptpm_network.proofs.Arriving.{IsCopyOf, arrives-reached, is_copy_of}
use Rattle.ptpm_network.proofs.Frames.{IsHeard, heard-frame}
use Rattle.ptpm_network.proofs.Reaching.{frame_at-is, step-reached, after-step, after-delivery, strange-comes, first-reached, reached}
use Rattle.ptpm_network.proofs.Messages.{read_few}
use Rattle.ptpm_network.proofs.laws.few_frames.Goals as goal

-- ---- one message

-- a link takes it to fifteen other ends at most
peers-few : (N : Network) (links : List (List End)) (e : End)
    → AllByRecursion (IsLink N) links
    → length (peers links e) ≤ 15
peers-few N [] e a = omega arith
peers-few N (link ∷ links) e a = by_test (list_any (same_end e) link)
    (λ y. rw y (omega (arith, filter-fewer (same_end e) link y, a.0.at_most_sixteen)))
    (λ n. rw n (peers-few N links e a.1))

module _ (N : Network) (n : IsNetwork N) where
  frames_to-few : (e : End) (octets : List ℕ) (o : Origin) (first_hops forwardings : ℕ)
      → length (frames_to (peers N.links e) octets o first_hops forwardings) ≤ 15
  frames_to-few e octets o first_hops forwardings = grind (arith, length-map, peers-few)

  sent-few : (s k : ℕ) (o : Option Message)
      → length (sent_frames (peers N.links (AtSession s)) s k o) ≤ 15
  sent-few s k None = omega arith
  sent-few s k (Some v) = frames_to-few (AtSession s) (canonical v) _ (boundary_hops (canonical v)) 0

-- ---- one turn of a clock

module _ (most : ℕ) (me : ClockIdentity) (port : ℕ) (d : DataSetsValue) (octets : List ℕ) (low : 1 ≤ port) (high : port ≤ length d.ports) (few : length d.ports ≤ most) where
  -- a copy is passed on at each port but one, at most
  forwarded_by-few : (o : Option Message) → length (forwarded_by me port d octets o) ≤ most - 1
  forwarded_by-few None = omega arith
  forwarded_by-few (Some v) = by_test (is_forwarded me port d v)
      (λ y. rw (y, ← (copies_up_to-all port d octets)) (omega (arith, length-copies_up_to_but_one port d octets (length d.ports) low high)))
      (λ n. rw n (omega arith))

  forwarded-few : length (forwarded me port d octets) ≤ most - 1
  unfolding forwarded
  forwarded-few = forwarded_by-few (message_of octets)

length-rendered : (me : ClockIdentity) (heard : Heard) (r : ReplyValue) (ingress : ℕ)
    → length (rendered me heard r ingress) ≡ length r.answers
unfolding rendered
length-rendered me heard r ingress = length-map r.answers _

-- the reply that is due to a numbered copy has one answer
due-few : (most : ℕ) (N : Network) (w : NetworkState) (c port : ℕ) (f : Frame) (copy : RequestCopy)
    (o : Option ReplyValue)
    → IsReached N (arrives w c (delivery port f)) → IsCopyOf N w c port f copy
    → copy_of (N.clock c) (ports N c) (delivery port f) ≡ Some copy
    → due_reply (N.clock c) (history N w c) copy ≡ o
    → 1 ≤ most
    → length (due_messages (N.clock c) copy o) ≤ most
due-few most N w c port f copy None reached of e d some = omega arith
due-few most N w c port f copy (Some r) reached of e d some =
    let keeps = keeps_due N w c port f copy r reached of e d in
    let one : length r.answers ≡ 1 = grind arith in
    omega (arith, length-rendered (N.clock c).identity copy.heard r copy.ingress, one, some)

answers-few : (most : ℕ) (N : Network) (w : NetworkState) (c port : ℕ) (f : Frame) (o : Option RequestCopy)
    → IsNetwork N → IsReached N w → c < N.clocks → IsHeard N w f.octets f.origin
    → 1 ≤ most → length (history N w c).sets.ports ≤ most → copy_of (N.clock c) (ports N c) (delivery port f) ≡ o
    → length (answer_messages (N.clock c) (history N w c) port f.octets o) ≤ most
answers-few most N w c port f None n r place i some few e = grind (arith, length-rendered, read_few)
answers-few most N w c port f (Some copy) n r place i some few e =
    due-few most N w c port f copy (due_reply (N.clock c) (history N w c) copy) (arrives-reached N w c port f n r place i) (is_copy_of N w c port f copy n r place i e) e refl some

made-few : (most : ℕ) (N : Network) (w : NetworkState) (c port : ℕ) (f : Frame)
    → ClocksHaveAtMost N most → 1 ≤ most → IsNetwork N → IsReached N w → HasEnd N (AtPort c port) → IsHeard N w f.octets f.origin
    → length (made_frames N c (history N w c) port f) ≤ frames_of_event most
made-few most N w c port f all some n r end i =
    let h = history N w c in
    let sets = r.clocks c end.0 in
    let has : port ≤ length h.sets.ports = rw sets.ports_are end.2 in
    let few : length h.sets.ports ≤ most = rw sets.ports_are (all c end.0) in
    let copy = copy_of (N.clock c) (ports N c) (delivery port f) in
    let sent = forwarded (N.clock c).identity port h.sets f.octets in
    let told = answer_messages (N.clock c) h port f.octets copy in
    omega (
      arith,
      length-append (forwarded_frames N c f sent) (answering_frames N c h port f copy),
      flat-few _ 15 (λ m. frames_to-few N n (AtPort c m.0) m.1 f.origin f.first_hops (f.forwardings + 1)) sent,
      flat-few _ 15 (λ m. frames_to-few N n (AtPort c m.0) m.1 (answer_origin f.origin copy) (boundary_hops m.1) 0) told,
      forwarded-few most (N.clock c).identity port h.sets f.octets end.1 has few,
      answers-few most N w c port f copy n r end.0 i some few refl,
    )

-- ---- any event

more : {X : Type 0} (most : ℕ) (xs ys : List X) → length ys ≤ frames_of_event most → length (xs ++ ys) ≤ length xs + frames_of_event most
more most xs ys few = omega (arith, length-append xs ys, few)

-- the ends of one link are no more
within_one : (most count : ℕ) → 1 ≤ most → count ≤ 15 → count ≤ frames_of_event most
within_one most count some few = omega (arith, some, few)

to_end-few : (most : ℕ) (end : End) (o : Option Frame) → 1 ≤ most → length (to_end end o) ≤ frames_of_event most
to_end-few most end None some = omega arith
to_end-few most end (Some f) some = omega (arith, some)

happens-few : (most : ℕ) (N : Network) (w : NetworkState) (e : Event)
    → ClocksHaveAtMost N most → 1 ≤ most → IsNetwork N → IsReached N w → IsInRange e → refusal N w e ≡ None
    → length (happens N w e).frames ≤ length w.frames + frames_of_event most
unfolding refusal happens
happens-few most N w (Send s) all some n r i none = more most w.frames _ (within_one most _ some (sent-few N n s _ _))
happens-few most N w (Deliver k) all some n r i none =
    after-delivery (λ (u : NetworkState). length u.frames ≤ length w.frames + frames_of_event most) N w k (omega arith)
    (λ f at c port end. let is = frame_at-is N w k f r at in more most w.frames _ (made-few most N w c port f all some n r (subst (HasEnd N) end is.end) (heard-frame N w f.octets f.origin is.origin)))
    (λ f at s end. omega arith)
happens-few most N w (Replay k end) all some n r i none = more most w.frames _ (to_end-few most end (frame_at w.frames k) some)
happens-few most N w (Stranger c port datagram) all some n r octets none =
    let there = strange-comes N w c port datagram octets none in
    more most w.frames _ (made-few most N w c port (strange_frame c port datagram) all some n r there.0 there.1)
happens-few most N w _ all some n r i none = omega arith

-- ---- if there is room

room : (frames : List Frame) → no_room frames ≡ None → length frames ≤ 399775
room frames none = ltb-false _ _ (first_of-none (nat_lt frames_limit (length frames)) FramesAtMaximum [] none).0

filled : (old new : ℕ) → old ≤ 399775 → new ≤ old + frames_of_event INLINE_PORTS → new ≤ 400000
filled old new a b = omega (arith, a, b)

-- an event that adds frames has room for them
happens-within : (N : Network) (w : NetworkState) (e : Event)
    → ClocksHaveAtMost N INLINE_PORTS → IsNetwork N → IsReached N w → IsInRange e → refusal N w e ≡ None → length w.frames ≤ 400000
    → length (happens N w e).frames ≤ 400000
unfolding refusal happens
happens-within N w (Send s) all n r i none within =
    let p = option_or-none (no_session N s) _ none in
    let q = option_or-none (no_room w.frames) (send_refused N w s) p.1 in
    filled (length w.frames) _ (room w.frames q.0) (happens-few INLINE_PORTS N w (Send s) all (omega arith) n r i none)
happens-within N w (Deliver k) all n r i none within =
    let p = option_or-none (no_frame (frame_at w.frames k)) (no_room w.frames) none in
    filled (length w.frames) _ (room w.frames p.1) (happens-few INLINE_PORTS N w (Deliver k) all (omega arith) n r i none)
happens-within N w (Replay k end) all n r i none within =
    let p = option_or-none (no_frame (frame_at w.frames k)) _ none in
    let q = option_or-none (no_end N end) (no_room w.frames) p.1 in
    filled (length w.frames) _ (room w.frames q.1) (happens-few INLINE_PORTS N w (Replay k end) all (omega arith) n r i none)
happens-within N w (Stranger c port datagram) all n r i none within =
    let p = option_or-none (no_port N c port) _ none in
    let q = option_or-none (forged N datagram) (no_room w.frames) p.1 in
    filled (length w.frames) _ (room w.frames q.1) (happens-few INLINE_PORTS N w (Stranger c port datagram) all (omega arith) n r i none)
happens-within N w _ all n r i none within = within

run-within : (N : Network) (w : NetworkState) (es : List Event)
    → ClocksHaveAtMost N INLINE_PORTS → IsNetwork N → IsReached N w → AllByRecursion IsInRange es → length w.frames ≤ 400000
    → length (run N w es).frames ≤ 400000
run-within N w [] all n r i within = within
run-within N w (e ∷ es) all n r i within =
    run-within N (step N w e) es all n (step-reached N w e n i.0 r) i.1
    (after-step (λ (u : NetworkState). length u.frames ≤ 400000) N w e within (λ none. happens-within N w e all n r i.0 none within))

pub returns-clause-event : goal.returns-clause-event
returns-clause-event c = λ N most es e n all some past i none.
    happens-few most N (run N (initial_state N) es) e all some n (reached N es n past) i none

pub returns-clause-ever : goal.returns-clause-ever
returns-clause-ever c = λ N es n all past. run-within N (initial_state N) es all n (first-reached N n) past (omega arith)
