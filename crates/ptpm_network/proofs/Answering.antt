-- The frames that a clock makes of one that comes in keep the invariant.
use Rattle.ptpm_network.proofs.Common.{PORTS, by_test, arith, ◌≡◌, ℕ, ◌<◌, ◌≤◌, ◌^◌, List, [], ◌∷◌, Option, Some, None, true, refl, sym, ap, subst, and_from, cond-true, cond-false, eq-eqb, same_Some, map, AllByRecursion, ClockIdentity, Message, canonical, Fits, action_of, is_reply, heard_of, RequestValue, Answers, HasOneAnswer, IsMessage, number_of, all_weaker, Answer, ReplyValue, Heard, hops_passed, rendered, reply_message, due_messages, Accepted, History, RequestCopy, accepted_from, after_copy, copy_of, due_reply, joins, kept_for, kept_reply, Clock, same_identity-refl, IsSendable, IsFrame, IsOfOrigin, IsReached, arrives, delivery, reply_frames, reply_origin, AtPort, HasEnd, IsNetwork, Network, manager, ports, Frame, NetworkState, Origin, ReplyTo, accepted_at_target, history, all_flat, all_made, ◌+◌, is_addressed, AreDataSets, DataSetsValue, false, ◌∙◌, and_parts, not-true, or_cases, true≢false, slice_get, Body, boundary_hops, BodyFits, id_of, message_of, read_reply_to, forwarded, is_numbered, is_request, request_of, same_clock-true, IsForeign, IsForeignFrame, answering_frames, delivered_at_clock, is_read, made_frames, read_messages, RequestOf, Neither, all_append}
use Rattle.ptpm_network.specs.Invariant.{IsReplyFrame}
use Rattle.ptpm_network.proofs.Arriving.{IsCopyOf, history-here, arrives-reached, is_copy_of, kept-stays}
use Rattle.ptpm_network.proofs.Frames.{SaysKept, says_kept, IsHeard, forwarded_frames-are, IsTrue, IsTrueTo, heard-true}
use Rattle.ptpm_network.proofs.Messages.{answer_body-is_reply, canonical-message, reply_at, reply-fits, reply-valid, passed_on, read_answered}
use Rattle.ptpm_network.proofs.Steps.{has_peers, new_frames-are, KeptStays, more-frames, origin-stays}
use Rattle.ptpm_network.proofs.Lists.{and_first, and_rest}
use Rattle.ptpm_codec.specs.declared.message.Body.TheVariants as bodies

-- ---- the reply that is due is the one that is kept from then on

pub record IsDue (c : Clock) (h : History) (copy : RequestCopy) (r : ReplyValue) : Type 0 where
  pub entry : Accepted
  pub kept : kept_reply copy.heard.source copy.index (after_copy c h copy).accepted ≡ Some entry
  pub reply : entry.reply ≡ r

kept_for-some : (copy : RequestCopy) (o : Option Accepted) (r : ReplyValue)
    → kept_for copy o ≡ Some r
    → (e : Accepted) × (o ≡ Some e) × (e.reply ≡ r)
kept_for-some copy None r e = absurd (cc)
kept_for-some copy (Some a) r e = grind (arith, same_Some, cond-true, cond-false)

pub is_due : (c : Clock) (h : History) (copy : RequestCopy) (r : ReplyValue)
    → due_reply c h copy ≡ Some r
    → IsDue c h copy r
is_due c h copy r e = by_test (joins h copy)
    (λ y. record {
      entry = accepted_from c h copy;
      kept = grind (arith, cond-true, and_from, same_identity-refl, eq-eqb);
      reply = same_Some (accepted_from c h copy).reply r (rw y at e);
    })
    (λ j. grind (arith, kept_for-some))

-- ---- frames of new messages

pub reply_frames-are : (N : Network) (w : NetworkState) (c : ℕ) (o : Origin)
    (sent : List (ℕ × List ℕ))
    → IsNetwork N → AllByRecursion (λ m. IsOfOrigin N w m.1 o) sent
    → AllByRecursion (IsFrame N w) (reply_frames N c o sent)
reply_frames-are N w c o sent n a =
    all_flat (λ m. IsOfOrigin N w m.1 o) (IsFrame N w) _ (λ m p. grind (arith, new_frames-are, has_peers)) sent a

pub rendered-one : (me : ClockIdentity) (heard : Heard) (r : ReplyValue) (ingress : ℕ) (a : Answer)
    → r.answers ≡ a ∷ []
    → rendered me heard r ingress
    ≡ (ingress, canonical (reply_message me heard r.action r.id ingress a)) ∷ []
unfolding rendered
rendered-one me heard r ingress a e = ap (map (λ (b : Answer). (ingress, canonical (reply_message me heard r.action r.id ingress b)))) e

pub small : (p n : ℕ) → p ≤ n → n ≤ PORTS → p < 2 ^ 16
small p n a b = omega arith

pub reply-message : (N : Network) (c port : ℕ) (v : Message) (q : RequestValue) (r : ReplyValue) (a : Answer)
    → IsNetwork N → HasEnd N (AtPort c port) → Fits v → q.id < 2 ^ 16 → Answers q r → IsSendable a
    → IsMessage (canonical (reply_message (N.clock c).identity (heard_of v) r.action r.id port a))
    (reply_at (N.clock c).identity (heard_of v) r port (hops_passed (heard_of v)) a)
reply-message N c port v q r a n end fits id answers s =
    let clock = n.are_clocks c end.0 in
    let me = (N.clock c).identity in
    canonical-message (reply_at me (heard_of v) r port (hops_passed (heard_of v)) a)
    (reply-valid me (heard_of v) q r port (hops_passed (heard_of v)) a answers s)
    (reply-fits me (heard_of v) q r port (hops_passed (heard_of v)) a clock.identity fits.source.clock fits.source.port fits.number
    (small port (ports N c) end.2 clock.few_ports) id answers s)

-- each message of a reply: this holds of it
pub rendered-says : (P : List ℕ → Type 0) (N : Network) (c port : ℕ) (v : Message) (q : RequestValue) (r : ReplyValue)
    → IsNetwork N → HasEnd N (AtPort c port) → Fits v → q.id < 2 ^ 16 → Answers q r
    → ((octets : List ℕ) (u : Message) → IsMessage octets u → u.source.clock ≡ (N.clock c).identity → u.target ≡ v.source
    → is_reply (action_of u.body) ≡ true → P octets)
    → AllByRecursion (λ (m : ℕ × List ℕ). P m.1) (rendered (N.clock c).identity (heard_of v) r port)
unfolding rendered
rendered-says P N c port v q r n end fits id answers each =
    let me = (N.clock c).identity in
    all_made IsSendable (λ (m : ℕ × List ℕ). P m.1) _
    (λ a s. each _ (reply_at me (heard_of v) r port (hops_passed (heard_of v)) a) (reply-message N c port v q r a n end fits id answers s) refl refl (answer_body-is_reply q r a.outcome answers))
    r.answers answers.sendable

-- ---- the reply to a numbered copy

-- what the clock keeps of the copy's request, once the copy came in
pub record KeepsDue (N : Network) (u : NetworkState) (s k : ℕ) (r : ReplyValue) : Type 0 where
  pub entry : Accepted
  pub kept : kept_reply (manager N s) k (accepted_at_target N u s) ≡ Some entry
  pub says : SaysKept N s k (u.session s).begun entry
  pub reply : entry.reply ≡ r

pub keeps_due : (N : Network) (w : NetworkState) (c port : ℕ) (f : Frame) (copy : RequestCopy)
    (r : ReplyValue)
    → IsReached N (arrives w c (delivery port f)) → (of : IsCopyOf N w c port f copy)
    → copy_of (N.clock c) (ports N c) (delivery port f) ≡ Some copy
    → due_reply (N.clock c) (history N w c) copy ≡ Some r
    → KeepsDue N (arrives w c (delivery port f)) of.session of.k r
keeps_due N w c port f copy r reached of e d =
    let u = arrives w c (delivery port f) in
    let due = is_due (N.clock c) (history N w c) copy r d in
    let here : history N u c ≡ after_copy (N.clock c) (history N w c) copy = grind (arith, history-here) in
    let kept_here : kept_reply copy.heard.source copy.index (history N u c).accepted ≡ Some due.entry = grind arith in
    let kept_m : kept_reply (manager N of.session) of.k (history N u c).accepted ≡ Some due.entry = grind arith in
    let kept : kept_reply (manager N of.session) of.k (accepted_at_target N u of.session) ≡ Some due.entry = grind arith in
    record {
      entry = due.entry;
      kept = kept;
      says = says_kept N u of.session of.k due.entry reached of.says.place of.says.positive kept;
      reply = due.reply;
    }

-- a reply that is kept for a session's request, as it is sent
pub kept-frame : (N : Network) (s k port : ℕ) (accepted : List Accepted) (me : ClockIdentity) (heard : Heard) (entry : Accepted)
    → me ≡ (N.session s).setup.target → 0 < k → kept_reply (manager N s) k accepted ≡ Some entry
    → HasOneAnswer entry.request entry.reply
    → heard.source ≡ manager N s → heard.number ≡ number_of (N.session s).setup.first k → port < 2 ^ 16
    → AllByRecursion (λ (m : ℕ × List ℕ). IsReplyFrame (N.session s).setup accepted k m.1) (rendered me heard entry.reply port)
kept-frame N s k port accepted me heard entry target positive kept one source number in' =
    let r = entry.reply in
    let a = one.answer in
    subst (AllByRecursion (λ (m : ℕ × List ℕ). IsReplyFrame (N.session s).setup accepted k m.1)) (sym (rendered-one me heard r port a one.is)) (
      record {
        positive = positive;
        entry = entry;
        kept = kept;
        answer = a;
        one = one.is;
        heard = heard;
        source = source;
        number = number;
        ingress = port;
        port = in';
        hops = hops_passed heard;
        is = grind arith;
      },
      tt,
    )

module _ (N : Network) (w : NetworkState) (c port : ℕ) (f : Frame) (copy : RequestCopy) (n : IsNetwork N) (reached : IsReached N (arrives w c (delivery port f))) (end : HasEnd N (AtPort c port)) (of : IsCopyOf N w c port f copy) (e : copy_of (N.clock c) (ports N c) (delivery port f) ≡ Some copy) where
  due-origin : (r : ReplyValue)
      → due_reply (N.clock c) (history N w c) copy ≡ Some r
      → AllByRecursion
      (λ m. IsOfOrigin N (arrives w c (delivery port f)) m.1 (ReplyTo of.session of.k))
      (rendered (N.clock c).identity copy.heard r copy.ingress)
  due-origin r d =
      let accepted = accepted_at_target N (arrives w c (delivery port f)) of.session in
      let keeps = keeps_due N w c port f copy r reached of e d in
      let target : (N.clock c).identity ≡ (N.session of.session).setup.target = grind arith in
      let in' : copy.ingress < 2 ^ 16 = grind (arith, small) in
      let P : ℕ × List ℕ → Type 0 = λ m. IsReplyFrame (N.session of.session).setup accepted of.k m.1 in grind (arith, all_weaker, kept-frame)

  pub due-frames : (o : Option ReplyValue)
      → due_reply (N.clock c) (history N w c) copy ≡ o
      → AllByRecursion (IsFrame N (arrives w c (delivery port f)))
      (reply_frames N c (reply_origin f.origin) (due_messages (N.clock c) copy o))
  due-frames None d = tt
  due-frames (Some r) d =
      reply_frames-are N (arrives w c (delivery port f)) c (reply_origin f.origin) (rendered (N.clock c).identity copy.heard r copy.ingress) n
      (subst (λ (x : Origin). AllByRecursion (λ m. IsOfOrigin N (arrives w c (delivery port f)) m.1 (reply_origin x)) (rendered (N.clock c).identity copy.heard r copy.ingress)) (sym of.origin)
      (due-origin r d))

-- ---- replies to what is not numbered go to no session, and a delivery at a clock keeps the invariant

-- ---- a message that comes in

pub id-fits : (b : Body) → BodyFits b → id_of b < 2 ^ 16
id-fits (bodies.Request action id octets) h = h
id-fits (bodies.Answer action id octets) h = h
id-fits (bodies.Fault action error id text) h = h.1

-- the tests of a request that is not numbered
record ReadParts (c : Clock) (d : DataSetsValue) (v : Message) : Type 0 where
  pub addressed : is_addressed c d v ≡ true
  pub request : is_request v ≡ true
  pub not_numbered : is_numbered c v ≡ false

read_parts : (c : Clock) (d : DataSetsValue) (v : Message) → is_read c d v ≡ true → ReadParts c d v
read_parts c d v y = search (and_first, and_rest, not-true)

-- what is not numbered is of no session
no_session : (N : Network) (c : ℕ) (d : DataSetsValue) (o : Origin) (v : Message)
    → IsNetwork N → c < N.clocks → IsTrueTo N v o → ReadParts (N.clock c) d v
    → (s : ℕ) → s < N.sessions → v.source ≡ manager N s
    → ⊥
no_session N c d (RequestOf t k) v n place i p s exists h = grind (arith, true≢false, same_clock-true, and_from, or_cases, and_parts)
no_session N c d (ReplyTo t k) v n place i p s exists h = true≢false (sym i.reply ∙ not-true _ p.request)
no_session N c d Neither v n place i p s exists h = i.no_request s exists h

-- ---- the reply to it

foreign-reply : (N : Network) (c : ℕ) (v u : Message)
    → IsNetwork N → c < N.clocks → ((s : ℕ) → s < N.sessions → v.source ≡ manager N s → ⊥)
    → u.source.clock ≡ (N.clock c).identity → u.target ≡ v.source
    → IsForeign N u
foreign-reply N c v u n place none source target = record {
  no_request = grind arith;
  no_reply = λ d s there exists from' h. none s exists (sym target ∙ h);
}

pub read-foreign : (N : Network) (c port : ℕ) (d : DataSetsValue) (octets : List ℕ) (o : Origin) (q : Option Message)
    → IsNetwork N → HasEnd N (AtPort c port) → AreDataSets (ports N c) d → IsTrue N octets o → message_of octets ≡ q
    → AllByRecursion (λ (m : ℕ × List ℕ). IsForeignFrame N m.1) (read_messages (N.clock c) d port q)
read-foreign N c port d octets o None n end sets i e = tt
read-foreign N c port d octets o (Some v) n end sets i e = by_test (is_read (N.clock c) d v)
    (λ y. let says = i v e in
    subst (AllByRecursion (λ (m : ℕ × List ℕ). IsForeignFrame N m.1)) (sym (cond-true _ _ _ y))
    (rendered-says (IsForeignFrame N) N c port v (request_of v) (read_reply_to (request_of v) d) n end says.0 (id-fits v.body says.0.body)
    (read_answered (request_of v) (ports N c) d sets)
    (λ x u m source target is. grind (arith, foreign-reply, no_session, read_parts))))
    (λ no'. grind (arith, cond-false))

-- ---- all frames that a clock makes

heard-stays : (N : Network) (w u : NetworkState) (octets : List ℕ) (o : Origin)
    → ((s i : ℕ) → (w.session s).begun ≡ (u.session s).begun) → KeptStays N w u
    → IsHeard N w octets o
    → IsHeard N u octets o
heard-stays N w u octets Neither same kept i = i
heard-stays N w u octets o same kept i = origin-stays N w u (λ t j q e. subst (λ b. slice_get b j ≡ Some q) (same t j) e) kept octets o i

answering-frames : (N : Network) (w : NetworkState) (c port : ℕ) (f : Frame)
    (o : Option RequestCopy)
    → IsNetwork N → IsReached N w → IsReached N (arrives w c (delivery port f))
    → HasEnd N (AtPort c port) → IsHeard N w f.octets f.origin
    → copy_of (N.clock c) (ports N c) (delivery port f) ≡ o
    → AllByRecursion (IsFrame N (arrives w c (delivery port f)))
    (answering_frames N c (history N w c) port f o)
answering-frames N w c port f (Some copy) n r reached end i e = grind (arith, due-frames, is_copy_of)
answering-frames N w c port f None n r reached end i e =
    reply_frames-are N (arrives w c (delivery port f)) c Neither (read_messages (N.clock c) (history N w c).sets port (message_of f.octets)) n
    (read-foreign N c port (history N w c).sets f.octets f.origin (message_of f.octets) n end (r.clocks c end.0) (heard-true N w f.octets f.origin n r i) refl)

pub delivered_at_clock-reached : (N : Network) (w : NetworkState) (c port : ℕ) (f : Frame)
    → IsNetwork N → IsReached N w → HasEnd N (AtPort c port) → IsHeard N w f.octets f.origin
    → boundary_hops f.octets + f.forwardings ≡ f.first_hops
    → IsReached N (delivered_at_clock N w c port f)
delivered_at_clock-reached N w c port f n r end i hops =
    let u : NetworkState = arrives w c (delivery port f) in
    let reached = arrives-reached N w c port f n r end.0 i in
    let heard = heard-stays N w u f.octets f.origin (λ s j. refl) (kept-stays N w c port f n r end.0 i) i in
    let sent = forwarded (N.clock c).identity port (history N w c).sets f.octets in
    more-frames N u (made_frames N c (history N w c) port f)
    (all_append (IsFrame N u) _ _
    (forwarded_frames-are N u c port f sent (passed_on (N.clock c).identity port (history N w c).sets f.octets) n reached heard hops)
    (answering-frames N w c port f (copy_of (N.clock c) (ports N c) (delivery port f)) n r reached end i refl))
    reached
