-- Where a clock goes at a frame: where the machine goes, and nowhere if the frame is a stranger's or its request is refused.
use Rattle.ptpm_network.proofs.Common.{arith, by_test, ◌≡◌, ℕ, List, Some, None, sym, ◌∙◌, ap, subst, cond-true, cond-false, eqb-true, same_Some, AllByRecursion, Contains, ErrorId, Answer, Refused, ReplyValue, refused_answer, Delivery, History, RequestCopy, accepted_from, after_arrival, after_copy, copy_of, due_reply, joins, Clock, Event, IsInRange, Stranger, refusal, IsReached, arrives, happens, run, step, IsNetwork, Network, ports, NetworkState, initial_state, history, ◌<◌, ◌==◌, ◌++◌, refl, length, map-append, map, PortIdentity, DataSetsValue, forwarded, StandsAt, State, turn, IsInTime, stands-arrival, stands-initial_history, answer_messages, answer_origin, delivered_at_clock, delivery, forwarded_frames, made_frames, reply_frames, with_place, Stands, RunningNetwork, after_turn, held, initial_network, turn_frames, Frame, eq-eqb}
use Rattle.ptpm_network.proofs.Arriving.{history-elsewhere, history-here, is_copy_of, history-ports}
use Rattle.ptpm_network.proofs.Reaching.{after-step, strange-comes, reached}
use Rattle.ptpm_network.proofs.Posting.{turn-answers, turn-passes_on}

-- ---- what leaves a clock as it was: a stranger's datagram, and a request that is refused

-- ---- strangers

module _ (N : Network) (w : NetworkState) (c port : ℕ) (datagram : List ℕ) (d : ℕ) (n : IsNetwork N) (r : IsReached N w) where
  pub strange-happens : IsInRange (Stranger c port datagram)
      → refusal N w (Stranger c port datagram) ≡ None
      → history N (happens N w (Stranger c port datagram)) d ≡ history N w d
  unfolding happens refusal
  strange-happens octets none = grind (arith, strange-comes, eqb-true, history-here, history-elsewhere, is_copy_of)

pub strangers-leave : (N : Network) (es : List Event) (c port : ℕ) (datagram : List ℕ) (d : ℕ)
    → IsNetwork N → AllByRecursion IsInRange es → IsInRange (Stranger c port datagram)
    → history N (step N (run N (initial_state N) es) (Stranger c port datagram)) d
    ≡ history N (run N (initial_state N) es) d
strangers-leave N es c port datagram d n i octets = grind (arith, after-step, strange-happens, reached)

-- ---- refused requests

pub refused-copy : (c : Clock) (h : History) (copy : RequestCopy) (r : ReplyValue) (a : Answer)
    (error : ErrorId)
    → due_reply c h copy ≡ Some r → Contains r.answers a → a.outcome ≡ Refused error
    → (after_copy c h copy).sets ≡ h.sets
refused-copy c h copy r a error due has refused = by_test (joins h copy)
    (λ y. let same : (accepted_from c h copy).reply ≡ r = same_Some _ r (sym (cond-true _ _ _ y) ∙ due) in
    ap (λ (g : History). g.sets) (cond-true _ _ _ y)
    ∙ refused_answer copy.request (c.rights copy.heard.source) h.sets a error
    (subst (λ (z : ReplyValue). Contains z.answers a) (sym same) has) refused)
    (λ n. ap (λ (g : History). g.sets) (cond-false _ _ _ n))

pub refused-leaves : (N : Network) (w : NetworkState) (c : ℕ) (x : Delivery) (copy : RequestCopy)
    (r : ReplyValue) (a : Answer) (error : ErrorId)
    → copy_of (N.clock c) (ports N c) x ≡ Some copy
    → due_reply (N.clock c) (history N w c) copy ≡ Some r → Contains r.answers a
    → a.outcome ≡ Refused error
    → (history N (arrives w c x) c).sets ≡ (history N w c).sets
refused-leaves N w c x copy r a error is due has refused =
    ap (λ (h : History). h.sets) (history-here N w c x ∙ ap (after_arrival (N.clock c) (history N w c)) is)
    ∙ refused-copy (N.clock c) (history N w c) copy r a error due has refused

pub ruleset strangers_change_nothing_laws = (strangers-leave)

-- ---- a clock that takes its turn at a frame goes where the machine goes

-- they are the frames that the machine makes
turn_frames-made : (N : Network) (first : PortIdentity → ℕ) (s : State) (h : History) (c port : ℕ)
    (f : Frame)
    → StandsAt first s h → length h.sets.ports ≡ ports N c
    → ((k : RequestCopy) → copy_of (N.clock c) (ports N c) (delivery port f) ≡ Some k → IsInTime first h k)
    → turn_frames N s c port f ≡ made_frames N c h port f
turn_frames-made N first s h c port f at many time =
    ap (λ sent. forwarded_frames N c f sent ++ reply_frames N c (answer_origin f.origin (copy_of (N.clock c) (length s.sets.ports) (delivery port f))) (turn (N.clock c) s port f.octets).replies) (turn-passes_on (N.clock c) first s h port f at)
    ∙ ap (λ sent. forwarded_frames N c f (forwarded (N.clock c).identity port h.sets f.octets) ++ reply_frames N c (answer_origin f.origin (copy_of (N.clock c) (length s.sets.ports) (delivery port f))) sent) (turn-answers (N.clock c) first s h port f at (λ k e. time k (ap (λ p. copy_of (N.clock c) p (delivery port f)) (sym many) ∙ e)))
    ∙ ap (λ (d : DataSetsValue). forwarded_frames N c f (forwarded (N.clock c).identity port h.sets f.octets)
    ++ reply_frames N c (answer_origin f.origin (copy_of (N.clock c) (length d.ports) (delivery port f))) (answer_messages (N.clock c) h port f.octets (copy_of (N.clock c) (length h.sets.ports) (delivery port f)))) at.sets
    ∙ ap (λ p. forwarded_frames N c f (forwarded (N.clock c).identity port h.sets f.octets)
    ++ reply_frames N c (answer_origin f.origin (copy_of (N.clock c) p (delivery port f))) (answer_messages (N.clock c) h port f.octets (copy_of (N.clock c) p (delivery port f)))) many

module _ (N : Network) (first : ℕ → PortIdentity → ℕ) (r : RunningNetwork) (w : NetworkState) (c port : ℕ) (f : Frame) (at : Stands N first r w) (place : c < N.clocks) (time : ((k : RequestCopy) → copy_of (N.clock c) (ports N c) (delivery port f) ≡ Some k → IsInTime (first c) (history N w c) k)) where
  clock-stands : (d : ℕ)
      → d < N.clocks
      → StandsAt (first d) (with_place r.clock c (turn (N.clock c) (r.clock c) port f.octets).next d)
      (history N (arrives w c (delivery port f)) d)
  clock-stands d there = by_test (d == c)
      (λ y. rw (eqb-true d c y, history-here N w c (delivery port f), eq-eqb c c refl)
      (stands-arrival (first c) (N.clock c) (ports N c) (r.clock c) (history N w c) (delivery port f) (copy_of (N.clock c) (ports N c) (delivery port f)) (history-ports N w c) refl (at.clocks c place) time))
      (λ n. rw n (at.clocks d there))

  pub stands-turned : Stands N first (after_turn N r c port f) (delivered_at_clock N w c port f)
  stands-turned = record {
    clocks = clock-stands;
    sessions = at.sessions;
    reports = at.reports;
    frames = ap (λ fs. fs ++ map held (turn_frames N (r.clock c) c port f)) at.frames
        ∙ ap (λ fs. map held w.frames ++ map held fs) (turn_frames-made N (first c) (r.clock c) (history N w c) c port f (at.clocks c place) (history-ports N w c) time)
        ∙ sym (map-append held w.frames (made_frames N c (history N w c) port f));
  }

-- and it is at the machine's state when it starts
pub stands-initial_state : (N : Network) (first : ℕ → PortIdentity → ℕ)
    → Stands N first (initial_network N) (initial_state N)
stands-initial_state N first = record {
  clocks = λ c place. stands-initial_history (first c) (N.start c);
  sessions = λ s place. refl;
  reports = λ s place. refl;
  frames = refl;
}
