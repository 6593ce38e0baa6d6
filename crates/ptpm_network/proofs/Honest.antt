-- What holds of a running network after every list of events, however late others come. Each frame is true to whom it is
-- of, and clocks and sessions can send what they keep.
use Rattle.ptpm_network.proofs.Common.{arith, ◌≡◌, ℕ, ◌+◌, ◌-◌, List, length, map, AllByRecursion, Message, copy_of, State, turn, answer_origin, delivery, AtPort, HasEnd, IsNetwork, Network, peers, Frame, Held, held, turn_frames, forwarded_frames, Origin, RequestOf, all_append, all_flat, all_made, End, expected_ports, ◌++◌, ◌∷◌, [], by_test, reading, Turned, all_weaker, sends_in, sent, IsMessage, IsForeignFrame, ◌<◌, ◌^◌, Option, Some, None, Result, Ok, refl, sym, ◌∙◌, ap, subst, same_Some, option_map, PortIdentity, canonical, same_identity, Fits, message_of, ReplyValue, RequestValue, read_reply_to, reply_to, Entry, reply_messages, RequestCopy, delivers_copy, heard_of, request_of, Clock, judged, reply_by, turn-message, Verdict, Answers, AreDataSets, same_identity-true, reply_origin, AtSession, ports, seen, after_turn, ReplyTo, Neither, Happened, unless_refused, reaches, hears, sent_posted, with_session_value, RunningNetwork, SessionValue, initial_history, DataSetsValue, Stands, initial_state, answered, begun, due_message, received_of, request_message, Ask, ask_refusal, begin_refusal, Refusal, frame_at, IsAsked, frame_at-all, at_place}
use Rattle.ptpm_network.proofs.Messages.{IsPassedOn, less_hop-message, passed_on, canonical-message, request-fits, request-valid, answered as reply-answers, kept, observed-kept, read_answered}
use Rattle.ptpm_network.proofs.Frames.{IsTrue, IsTrueTo, IsCopyBy, is_copy_by, message-true}
use Rattle.ptpm_network.proofs.Steps.{has_peers}
use Rattle.ptpm_network.proofs.Posting.{turn-forwards, turn-reads}
use Rattle.std.specs.FinMap.{get, insert}
use Rattle.ptpm_manager.specs.declared.receiving.Received.{Received}
use Rattle.ptpm_manager.specs.declared.setup.Setup.{Setup}
use Rattle.ptpm_data.specs.ObservationBack.{Observation}
use Rattle.ptpm_data.specs.ObservationLaws.{IsSizedObservation}
use Rattle.ptpm_agent.specs.Laws.{IsKept}
use Rattle.ptpm_agent.specs.Observing.{moved_state}
use Rattle.ptpm_agent.specs.Turn.{kept_reply_of, next_by}
use Rattle.ptpm_agent.proofs.Entries.{accepted_entry, get-insert_other, get-insert_same}
use Rattle.ptpm_agent.proofs.Turns.{turn-next}
use Rattle.ptpm_network.specs.GivingUp.{after_observation}
use Rattle.ptpm_network.proofs.Answering.{rendered-says, id-fits, read-foreign}
use Rattle.ptpm_network.proofs.Refusals.{asked-not_refused, begin-not_refused}
use Rattle.ptpm_manager.specs.declared.receiving.Received.TheVariants as received
use Rattle.ptpm_manager.specs.Ask as ask
use Rattle.ptpm_agent.specs.declared.verdict.Verdict.TheVariants as verdicts

-- ---- what the frames that a clock makes in a running network say of whom they are of, in time or late

-- ---- what is passed on

true-hop : (N : Network) (v : Message) (n : ℕ) (o : Origin) → IsTrueTo N v o → IsTrueTo N (record v { hops = n }) o
true-hop N v n (RequestOf t k) i = assumption
true-hop N v n _ i = assumption

pub passed_on-true : (N : Network) (d : List ℕ) (m : ℕ × List ℕ) (o : Origin)
    → IsPassedOn d m → IsTrue N d o
    → IsTrue N m.1 o
passed_on-true N d m o p i u e =
    let v : Message = p.message in
    let says = i v p.read in
    let less = less_hop-message v d p.read says.0 in
    let same : record v { hops = v.hops - 1 } ≡ u = grind arith in grind (arith, IsTrueTo, true-hop)

-- ---- a turn

-- the frames that a clock makes of one that comes in, by those that it passes on and by its replies
module _ (Q : Held → Type 0) (N : Network) (s : State) (c port : ℕ) (f : Frame) (n : IsNetwork N) where
  frames-to : (m : ℕ × List ℕ) (o : Origin) (first forwardings : ℕ)
      → ((e : End) → HasEnd N e → Q (record { end = e; octets = m.1; origin = o }))
      → AllByRecursion (λ (g : Frame). Q (held g)) (map (λ e. record { end = e; octets = m.1; origin = o; first_hops = first; forwardings = forwardings }) (peers N.links (AtPort c m.0)))
  frames-to m o first forwardings each =
      all_made (HasEnd N) (λ (g : Frame). Q (held g)) _ each (peers N.links (AtPort c m.0)) (has_peers N (AtPort c m.0) n)

  pub turn_frames-all : ((m : ℕ × List ℕ) → IsPassedOn f.octets m → (e : End) → HasEnd N e → Q (record { end = e; octets = m.1; origin = f.origin }))
      → AllByRecursion
      (λ (m : ℕ × List ℕ). (e : End) → HasEnd N e → Q (record { end = e; octets = m.1; origin = answer_origin f.origin (copy_of (N.clock c) (length s.sets.ports) (delivery port f)) }))
      (turn (N.clock c) s port f.octets).replies
      → AllByRecursion Q (map held (turn_frames N s c port f))
  turn_frames-all passed replied =
      let on : AllByRecursion (IsPassedOn f.octets) (turn (N.clock c) s port f.octets).forwards = grind (arith, IsPassedOn, turn-forwards, passed_on) in
      all_made (λ (g : Frame). Q (held g)) Q held (λ g q. q) (turn_frames N s c port f)
      (all_append (λ (g : Frame). Q (held g)) (forwarded_frames N c f (turn (N.clock c) s port f.octets).forwards) _
      (all_flat (IsPassedOn f.octets) (λ (g : Frame). Q (held g)) _ (λ m p. frames-to m f.origin f.first_hops (f.forwardings + 1) (passed m p)) (turn (N.clock c) s port f.octets).forwards on)
      (all_flat _ (λ (g : Frame). Q (held g)) _ (λ m each. frames-to m _ _ 0 each) (turn (N.clock c) s port f.octets).replies replied))

-- ---- what clocks and sessions keep

pub record IsSendableEntry (e : Entry) : Type 0 where
  pub id : e.request.id < 2 ^ 16
  pub answers : Answers e.request e.reply

pub record IsHonestClock (p : ℕ) (s : State) : Type 0 where
  pub sets : AreDataSets p s.sets
  pub kept : (m : PortIdentity) (e : Entry) → get s.entries m ≡ Some e → IsSendableEntry e

pub record IsHonestSession (N : Network) (t : ℕ) (v : SessionValue) : Type 0 where
  pub setup : v.setup ≡ (N.session t).setup
  pub asked : (q : RequestValue) → v.unanswered ≡ Some q → IsAsked (expected_ports N t) q

pub record IsTrueFrame (N : Network) (h : Held) : Type 0 where
  pub end : HasEnd N h.end
  pub says : IsTrue N h.octets h.origin

pub record IsHonest (N : Network) (r : RunningNetwork) : Type 0 where
  pub clocks : (c : ℕ) → c < N.clocks → IsHonestClock (ports N c) (r.clock c)
  pub sessions : (t : ℕ) → t < N.sessions → IsHonestSession N t (r.session t)
  pub frames : AllByRecursion (IsTrueFrame N) r.frames

-- ---- a clock after a turn

entry-sendable : (c : Clock) (p : ℕ) (s : State) (v : Message)
    → Fits v → AreDataSets p s.sets
    → IsSendableEntry (accepted_entry c s v)
entry-sendable c p s v fits sets = record {
  id = id-fits v.body fits.body;
  answers = grind (arith, reply-answers);
}

next-honest : (c : Clock) (p : ℕ) (s : State) (v : Message) (w : Verdict)
    → Fits v → IsHonestClock p s
    → IsHonestClock p (next_by w c s v)
next-honest c p s v verdicts.AnsweredNew fits h = record {
  sets = kept (request_of v) (c.rights v.source) p s.sets h.sets;
  kept = λ m e is. by_test (same_identity m v.source)
      (λ y. let new : Some (accepted_entry c s v) ≡ Some e =
      sym (get-insert_same s.entries v.source (accepted_entry c s v))
      ∙ subst (λ (q : PortIdentity). get (insert s.entries v.source (accepted_entry c s v)) q ≡ Some e) (same_identity-true m v.source y) is in
      subst IsSendableEntry (same_Some (accepted_entry c s v) e new) (entry-sendable c p s v fits h.sets))
      (λ n. h.kept m e (sym (get-insert_other s.entries v.source (accepted_entry c s v) m n) ∙ is));
}
next-honest c p s v _ fits h = h

-- ---- what it replies

-- a reply says what was asked
pub record IsReplyTo (q : RequestValue) (r : ReplyValue) : Type 0 where
  pub id : q.id < 2 ^ 16
  pub answers : Answers q r

kept-replies : (o : Option Entry) (r : ReplyValue)
    → ((e : Entry) → o ≡ Some e → IsSendableEntry e) → kept_reply_of o ≡ Some r
    → (q : RequestValue) × IsReplyTo q r
kept-replies None r sendable e = absurd (cc)
kept-replies (Some entry) r sendable e =
    let s = sendable entry refl in grind arith

replies : (c : Clock) (p : ℕ) (s : State) (v : Message) (w : Verdict) (r : ReplyValue)
    → Fits v → IsHonestClock p s → reply_by w c s v ≡ Some r
    → (q : RequestValue) × IsReplyTo q r
replies c p s v verdicts.AnsweredNew r fits h e =
    (request_of v, subst (IsReplyTo (request_of v)) (same_Some (reply_to (request_of v) (c.rights v.source) s.sets) r e) (record { id = id-fits v.body fits.body; answers = reply-answers (request_of v) (c.rights v.source) p s.sets h.sets }))
replies c p s v verdicts.AnsweredRepeat r fits h e = kept-replies (get s.entries v.source) r (λ x is. h.kept v.source x is) e
replies c p s v verdicts.AnsweredUnnumbered r fits h e =
    (request_of v, subst (IsReplyTo (request_of v)) (same_Some (read_reply_to (request_of v) s.sets) r e) (record { id = id-fits v.body fits.body; answers = read_answered (request_of v) p s.sets h.sets }))
replies c p s v _ r fits h e = absurd (cc)

module _ (N : Network) (n : IsNetwork N) (c port : ℕ) (end : HasEnd N (AtPort c port)) (s : State) (h : IsHonestClock (ports N c) s) where
  replied-true : (o : Origin) (v : Message) (w : Verdict) (r : Option ReplyValue)
      → Fits v → IsCopyBy N c o v → reply_by w (N.clock c) s v ≡ r
      → AllByRecursion (λ (m : ℕ × List ℕ). IsTrue N m.1 (reply_origin o)) (reply_messages (N.clock c) port (heard_of v) r)
  replied-true o v w None fits by e = tt
  replied-true o v w (Some r) fits by e =
      let a = replies (N.clock c) (ports N c) s v w r fits h e in
      subst (λ (x : Origin). AllByRecursion (λ (m : ℕ × List ℕ). IsTrue N m.1 (reply_origin x)) (reply_messages (N.clock c) port (heard_of v) (Some r))) (sym by.origin)
      (rendered-says (λ x. IsTrue N x (ReplyTo by.session by.k)) N c port v a.0 r n end fits a.1.id a.1.answers
      (λ x u m source target is. grind (arith, message-true)))

  turned-true : (f : Frame) (k : Option RequestCopy)
      → IsTrue N f.octets f.origin → copy_of (N.clock c) (length s.sets.ports) (delivery port f) ≡ k
      → AllByRecursion (λ (m : ℕ × List ℕ). IsTrue N m.1 (answer_origin f.origin k)) (turn (N.clock c) s port f.octets).replies
  turned-true f None i e =
      subst (AllByRecursion (λ (m : ℕ × List ℕ). IsTrue N m.1 Neither)) (sym (turn-reads (N.clock c) s (delivery port f) (reading f.octets) refl e))
      (all_weaker (λ (m : ℕ × List ℕ). IsForeignFrame N m.1) (λ (m : ℕ × List ℕ). IsTrue N m.1 Neither) (λ m x. message-true N m.1 x.message Neither x.is x.foreign) _
      (read-foreign N c port s.sets f.octets f.origin (message_of f.octets) n end h.sets i refl))
  turned-true f (Some k) i e =
      let d = delivers_copy (N.clock c) (length s.sets.ports) (delivery port f) k e in
      let v : Message = d.message in
      let says = i v d.read in
      subst (λ (t : Turned). AllByRecursion (λ (m : ℕ × List ℕ). IsTrue N m.1 (reply_origin f.origin)) t.replies) (sym (turn-message (N.clock c) s port f.octets v d.read))
      (replied-true f.origin v (judged (N.clock c) s v) (reply_by (judged (N.clock c) s v) (N.clock c) s v) says.0
      (is_copy_by N c (length s.sets.ports) f.origin v n end.0 says.1 d.passes) refl)

  pub frames-true : (f : Frame) → IsTrue N f.octets f.origin → AllByRecursion (IsTrueFrame N) (map held (turn_frames N s c port f))
  frames-true f i =
      turn_frames-all (IsTrueFrame N) N s c port f n
      (λ m p e he. record { end = he; says = passed_on-true N f.octets m f.origin p i })
      (all_weaker (λ (m : ℕ × List ℕ). IsTrue N m.1 (answer_origin f.origin (copy_of (N.clock c) (length s.sets.ports) (delivery port f)))) _
      (λ m t e he. record { end = he; says = t }) _ (turned-true f (copy_of (N.clock c) (length s.sets.ports) (delivery port f)) i refl))

-- a clock takes its turn
pub turns-honest : (N : Network) (r : RunningNetwork) (c port : ℕ) (f : Frame)
    → IsNetwork N → IsHonest N r → HasEnd N (AtPort c port) → IsTrue N f.octets f.origin
    → IsHonest N (after_turn N r c port f)
turns-honest N r c port f n h end i = record {
  clocks = λ d there. at_place (λ j (s : State). IsHonestClock (ports N j) s) r.clock c (turn (N.clock c) (r.clock c) port f.octets).next d
      (turn-next (IsHonestClock (ports N c)) (N.clock c) (r.clock c) port f.octets (h.clocks c end.0) (λ v e. next-honest (N.clock c) (ports N c) (r.clock c) v _ (i v e).0 (h.clocks c end.0))) (h.clocks d there);
  sessions = h.sessions;
  frames = grind (arith, all_append, frames-true);
}

-- its host observes it
pub observed-honest : (N : Network) (r : RunningNetwork) (c : ℕ) (o : Observation)
    → IsHonest N r → c < N.clocks → IsSizedObservation o.clock
    → IsHonest N (after_observation r c o)
observed-honest N r c o h there fits = record {
  clocks = λ d exists. at_place (λ j (s : State). IsHonestClock (ports N j) s) r.clock c (moved_state o.clock o.ports (r.clock c)) d
      (record { sets = observed-kept o (ports N c) (r.clock c).sets fits (h.clocks c there).sets; kept = (h.clocks c there).kept }) (h.clocks d exists);
  sessions = h.sessions;
  frames = h.frames;
}

-- ---- sessions

pub session-honest : (N : Network) (r : RunningNetwork) (t : ℕ) (v : SessionValue)
    → IsHonest N r → IsHonestSession N t v
    → IsHonest N (with_session_value r t v)
session-honest N r t v h s = grind (arith, at_place)

-- one that keeps its setup and its request
pub moved-honest : (N : Network) (r : RunningNetwork) → IsHonest N r → (t : ℕ) (f : SessionValue → SessionValue) → t < N.sessions
    → (f (r.session t)).setup ≡ (r.session t).setup → (f (r.session t)).unanswered ≡ (r.session t).unanswered
    → IsHonest N (with_session_value r t (f (r.session t)))
moved-honest N r h t f there setup unanswered =
    let value = h.sessions t there in
    session-honest N r t (f (r.session t)) h (record { setup = setup ∙ value.setup; asked = λ q e. value.asked q (sym unanswered ∙ e) })

-- what a session sends is its own request
pub record IsSentBy (N : Network) (t : ℕ) (value : SessionValue) (v : Message) : Type 0 where
  pub request : RequestValue
  pub unanswered : value.unanswered ≡ Some request
  pub asked : IsAsked (expected_ports N t) request
  pub is : v ≡ request_message (N.session t).setup value.domain value.issued request
  pub message : IsMessage (canonical v) v

sent-by : (N : Network) (t : ℕ) (value : SessionValue) (o : Option RequestValue) (v : Message)
    → IsNetwork N → t < N.sessions → IsHonestSession N t value → value.unanswered ≡ o
    → option_map (request_message value.setup value.domain value.issued) o ≡ Some v
    → IsSentBy N t value v
sent-by N t value None v n place h u e = absurd (cc)
sent-by N t value (Some q) v n place h u e =
    let made : request_message value.setup value.domain value.issued q ≡ v = same_Some _ v e in
    let is : v ≡ request_message (N.session t).setup value.domain value.issued q = grind arith in
    let asked = h.asked q u in
    let p = expected_ports N t in
    let first : Message = request_message (N.session t).setup value.domain value.issued q in grind (arith, canonical-message, request-valid, request-fits)

pub sent_by : (N : Network) (t : ℕ) (value : SessionValue) (v : Message)
    → IsNetwork N → t < N.sessions → IsHonestSession N t value → due_message value ≡ Some v
    → IsSentBy N t value v
sent_by N t value v n place h e = sent-by N t value value.unanswered v n place h refl e

-- of each frame that it sends
pub sent-all : (Q : Held → Type 0) (N : Network) (t k : ℕ) (o : Option Message)
    → IsNetwork N
    → ((v : Message) → o ≡ Some v → (e : End) → HasEnd N e → Q (record { end = e; octets = canonical v; origin = RequestOf t k }))
    → AllByRecursion Q (sent_posted (peers N.links (AtSession t)) t k o)
sent-all Q N t k None n each = tt
sent-all Q N t k (Some v) n each = all_made (HasEnd N) Q _ (each v refl) (peers N.links (AtSession t)) (has_peers N (AtSession t) n)

pub sends-honest : (N : Network) (r : RunningNetwork) (t : ℕ)
    → IsNetwork N → IsHonest N r → t < N.sessions
    → IsHonest N (sends_in N r t)
sends-honest N r t n h place =
    let value = h.sessions t place in
    let base = session-honest N r t (sent (r.session t)) h (record { setup = value.setup; asked = value.asked }) in
    record {
      clocks = base.clocks;
      sessions = base.sessions;
      frames = all_append (IsTrueFrame N) r.frames _ h.frames
          (sent-all (IsTrueFrame N) N t (r.session t).issued (due_message (r.session t)) n
          (λ v e x he. let by = sent_by N t (r.session t) v n place value e in
          record { end = he; says = grind (arith, message-true) }));
    }

hears-honest : (N : Network) (r : RunningNetwork) (t : ℕ) (x : Received)
    → IsHonest N r → t < N.sessions
    → IsHonest N (hears r t x)
hears-honest N r t (received.Ignored reason) h place = h
hears-honest N r t (received.Answered report) h place =
    let base = session-honest N r t (answered (r.session t)) h (record { setup = (h.sessions t place).setup; asked = λ q e. absurd (cc) }) in grind arith

-- ---- any event

-- if it is not refused, P holds of what happens
abbrev pub Then : Result Happened Refusal → (Happened → Type 0) → Type 0
Then x P = (h : Happened) → x ≡ Ok h → P h

pub then_ok : (P : Happened → Type 0) (g : Happened) → P g → Then (Ok g) P
then_ok P g p h e = let same : g ≡ h = cc in subst P same p

pub then_unless : (P : Happened → Type 0) (o : Option Refusal) (x : Result Happened Refusal)
    → (o ≡ None → Then x P)
    → Then (unless_refused o x) P
then_unless P None x p = p refl
then_unless P (Some reason) x p = λ h e. absurd (cc)

pub begins-honest : (N : Network) (r : RunningNetwork) (t : ℕ) (a : Ask)
    → IsNetwork N → IsHonest N r → t < N.sessions → a.id < 2 ^ 16 → begin_refusal (r.session t) a ≡ None
    → IsHonestSession N t (begun (r.session t) (ask.request_of a))
begins-honest N r t a n h place id e =
    let session = n.are_sessions t place in
    let value = h.sessions t place in
    let fine = (begin-not_refused (r.session t) a e).1 in
    let asked : IsAsked (expected_ports N t) (ask.request_of a) =
    asked-not_refused (expected_ports N t) a session.few_ports id
    (subst (λ p. ask_refusal p a ≡ None) (ap (λ (x : Setup). x.ports) value.setup) fine) in grind arith

module _ (N : Network) (n : IsNetwork N) (r : RunningNetwork) (h : IsHonest N r) where
  pub frame-true : (k : ℕ) (x : Held) → frame_at r.frames k ≡ Some x → IsTrueFrame N x
  frame-true k x e = frame_at-all (IsTrueFrame N) r.frames k x h.frames e

  pub replayed-honest : (k : ℕ) (x : Held) (end : End) → frame_at r.frames k ≡ Some x → HasEnd N end
      → IsHonest N (record r { frames = r.frames ++ record x { end = end } ∷ [] })
  replayed-honest k x end e there = record {
    clocks = h.clocks;
    sessions = h.sessions;
    frames = all_append (IsTrueFrame N) r.frames _ h.frames (record { end = there; says = (frame-true k x e).says }, tt);
  }

  pub reaches-honest : (x : Held) (end : End) → IsTrue N x.octets x.origin → HasEnd N end → IsHonest N (reaches N r x end).network
  reaches-honest x (AtPort c port) i end = turns-honest N r c port (seen x) n h end i
  reaches-honest x (AtSession t) i end = hears-honest N r t (received_of (r.session t) x.octets) h end

-- ---- as it starts

pub nothing_kept : {X : Type 0} (first : PortIdentity → ℕ) (d : DataSetsValue) (m : PortIdentity) (e : Entry)
    → IsKept first (initial_history d) m (Some e)
    → X
nothing_kept first d m e h = absurd (omega (arith, h.some))

pub first-honest : (N : Network) (first : ℕ → PortIdentity → ℕ) (r : RunningNetwork)
    → IsNetwork N → Stands N first r (initial_state N)
    → IsHonest N r
first-honest N first r n at = grind (arith, kept, nothing_kept)
