-- What one copy of a session's last request brings about at its target, and one of the reply at the session.
use Rattle.ptpm_network.proofs.Common.{arith, ◌≡◌, ℕ, ◌<◌, ◌≤◌, List, ◌++◌, Some, None, true, false, subst, and_from, and_right, cond-true, cond-false, eq-eqb, le-ltb, ne_eqb, bytes_eq-Decides, AllByRecursion, RequestValue, same_request, due_messages, Accepted, History, RequestCopy, due_reply, greatest, joins, kept_reply, Clock, delivers_copy, copy_parts, forwarded-copy, Deliver, Event, IsInRange, IsReached, happens, reply_frames, reply_origin, run, HasEnd, IsNetwork, Network, manager, Frame, NetworkState, accepted_at_target, initial_state, history, LastIsForOne, expected_ports, IsForOne, ◌+◌, ◌-◌, ◌^◌, [], ◌∷◌, refl, sym, ◌∙◌, ap, ⊎_elim, length, length-append, cases_eq, eqb-false, false_from_ne_true, le-leb, lt-ltb, or_left, or_right, append-nil, option_or, ClockIdentity, PortIdentity, Message, canonical, same_clock, boundary_hops, domain_number, Fits, IsValid, first_of, message_of, canonical_spells, same_clock-refl, same_clock-true, octet-take, message_of-some, message_of-spells, message_size, Answer, ReplyValue, reply_message, copy_by, copy_from, copy_of, is_copy, is_for_this_clock, Report, outcome_in, FramesAtMaximum, frame_at, frames_limit, no_frame, no_room, refusal, HasReplied, HasReported, HasRoom, IsHeardBy, IsAsked, IsFrame, IsOfOrigin, arrives, delivered_at, delivered_at_clock, delivery, index_of, made_frames, report_from, reported, step, step_by, AtPort, AtSession, End, peers, ports, RequestOf, ReplyTo, greatest_accepted, is_idle, issued, new_frames, with_place-same}
use Rattle.std.proofs.Math.Nat.{ne_of_gt}
use Rattle.ptpm_network.specs.Copies.{IsCopyAt}
use Rattle.ptpm_network.proofs.Arriving.{IsCopyOf, is_copy_of, arrives-reached}
use Rattle.ptpm_network.proofs.Frames.{heard-frame, SaysRequest, says_reply, says_request, sendable-one}
use Rattle.ptpm_network.proofs.Reaching.{frame_at-is, reached}
use Rattle.ptpm_network.proofs.Answering.{keeps_due, rendered-one, small}
use Rattle.ptpm_network.proofs.Messages.{message-hops, reply-fits, reply-valid, reply_at, request_at}

-- ---- what is due to a copy of a request, and what its delivery makes

-- ---- the one reply kept

pub same_request-refl : (q : RequestValue) → same_request q q ≡ true
same_request-refl q = grind (arith, and_from, eq-eqb, bytes_eq-Decides)

not_above : (c : Clock) (h : History) (copy : RequestCopy)
    → copy.index ≤ greatest copy.heard.source h.accepted
    → joins h copy ≡ false
not_above c h copy le = and_right _ _ (le-ltb _ _ le)

-- what the clock keeps as the request that a copy is of is that request
pub record KeepsLatest (c : Clock) (h : History) (copy : RequestCopy) : Type 0 where
  pub kept : Accepted
  pub is : kept_reply copy.heard.source copy.index h.accepted ≡ Some kept
  pub request : kept.request ≡ copy.request

keeps-latest : (N : Network) (w : NetworkState) (c port : ℕ) (f : Frame) (copy : RequestCopy)
    → IsReached N w → IsCopyOf N w c port f copy
    → greatest copy.heard.source (history N w c).accepted ≡ copy.index
    → KeepsLatest (N.clock c) (history N w c) copy
keeps-latest N w c port f copy r of latest =
    let accepted : ℕ → List Accepted = λ d. (history N w d).accepted in
    let here : greatest (manager N of.session) (accepted_at_target N w of.session) ≡ of.k = grind arith in
    let was = (r.sessions of.session of.says.place).without_gap of.k of.says.positive (omega (arith, here)) in grind arith

pub due-latest : (c : Clock) (h : History) (copy : RequestCopy)
    → greatest copy.heard.source h.accepted ≡ copy.index → (keeps : KeepsLatest c h copy)
    → due_reply c h copy ≡ Some keeps.kept.reply
due-latest c h copy latest keeps = grind (arith, same_request-refl, cond-false, not_above, cond-true, eq-eqb)

pub latest-kept : (N : Network) (es : List Event) (n c port : ℕ) (f : Frame) (copy : RequestCopy)
    → IsNetwork N → AllByRecursion IsInRange es
    → IsCopyAt N (run N (initial_state N) es) n c port f copy
    → greatest copy.heard.source (history N (run N (initial_state N) es) c).accepted ≡ copy.index
    → (kept : Accepted)
    × (kept_reply copy.heard.source copy.index (history N (run N (initial_state N) es) c).accepted ≡ Some kept) × (due_reply (N.clock c) (history N (run N (initial_state N) es) c) copy ≡ Some kept.reply)
latest-kept N es n c port f copy is i at latest =
    let w : NetworkState = run N (initial_state N) es in
    let r = reached N es is i in
    let frame = frame_at-is N w n f r at.frame in
    let of = is_copy_of N w c port f copy is r (subst (HasEnd N) at.end frame.end).0 (heard-frame N w f.octets f.origin frame.origin) at.heard in
    let keeps = keeps-latest N w c port f copy r of latest in
    (keeps.kept, keeps.is, due-latest (N.clock c) (history N w c) copy latest keeps)

-- ---- older ones none

pub older-none : (c : Clock) (h : History) (copy : RequestCopy)
    → copy.index < greatest copy.heard.source h.accepted
    → due_reply c h copy ≡ None
older-none c h copy below = grind (arith, cond-false, not_above, ne_eqb, ne_of_gt)

-- ---- the delivery of a copy

pub copy-delivered : (N : Network) (w : NetworkState) (n c port : ℕ) (f : Frame)
    (copy : RequestCopy)
    → IsCopyAt N w n c port f copy
    → (happens N w (Deliver n)).frames
    ≡ w.frames ++ reply_frames N c (reply_origin f.origin)
    (due_messages (N.clock c) copy (due_reply (N.clock c) (history N w c) copy))
unfolding happens
copy-delivered N w n c port f copy at = grind (arith, delivers_copy, forwarded-copy, copy_parts)

pub ruleset one_reply_kept_laws = (latest-kept, older-none, copy-delivered)

-- ---- an event that is not refused

pub is_room : (w : NetworkState) → HasRoom w → no_room w.frames ≡ None
is_room w room = ap (λ b. first_of ((b, FramesAtMaximum) ∷ [])) (le-ltb frames_limit (length w.frames) room)

module _ (N : Network) (w : NetworkState) (n : ℕ) (f : Frame) where
  pub delivery-taken : frame_at w.frames n ≡ Some f → HasRoom w → refusal N w (Deliver n) ≡ None
  unfolding refusal
  delivery-taken e room = ap (λ o. option_or (no_frame o) (no_room w.frames)) e ∙ is_room w room

pub step-taken : (N : Network) (w : NetworkState) (e : Event)
    → refusal N w e ≡ None
    → step N w e ≡ happens N w e
step-taken N w e none = ap (λ o. step_by o N w e) none

pub delivery-step : (N : Network) (w : NetworkState) (n : ℕ) (f : Frame) (end : End)
    → frame_at w.frames n ≡ Some f → f.end ≡ end → HasRoom w
    → step N w (Deliver n) ≡ delivered_at N w f end
unfolding happens
delivery-step N w n f end e q room = grind (arith, step-taken, delivery-taken)

-- ---- fields of a message

pub message-domain : (v : Message) (d : List ℕ) → message_of d ≡ Some v → v.domain ≡ domain_number d
message-domain v d e = grind (arith, message_size, message_of-some, message_of-spells, octet-take)

pub clocks_apart : (a b : ClockIdentity) → (a ≡ b → ⊥) → same_clock a b ≡ false
clocks_apart a b ne = false_from_ne_true (same_clock a b) (λ y. ne (same_clock-true a b y))

-- ---- a copy of a session's request at its target

request-is_copy : (N : Network) (s k domain hops : ℕ) (q : RequestValue)
    → IsNetwork N → s < N.sessions → IsAsked (expected_ports N s) q → IsForOne (ports N (N.session s).target) q
    → is_copy (N.clock (N.session s).target) (ports N (N.session s).target)
    (request_at N s k domain hops q) ≡ true
request-is_copy N s k domain hops q n place asked one = grind (arith, request_at, clocks_apart, same_clock-refl, and_from, or_right, le-leb, or_left, eq-eqb)

-- ---- a reply is due to it

abbrev IsDueTo : Clock → History → RequestCopy → Type 0
IsDueTo c h x = (r : ReplyValue) × (due_reply c h x ≡ Some r)

-- the parts of a copy of the last request
pub record IsLatestCopy (N : Network) (w : NetworkState) (s : ℕ) (octets : List ℕ) (x : RequestCopy) : Type 0 where
  pub says : SaysRequest N s (issued w s) (w.session s).begun octets
  pub source : x.heard.source ≡ manager N s
  pub index : x.index ≡ issued w s
  pub request : x.request ≡ says.request
  pub domain : x.heard.domain ≡ domain_number octets

module _ (N : Network) (w : NetworkState) (s : ℕ) (octets : List ℕ) (x : RequestCopy) (r : IsReached N w) (place : s < N.sessions) (of : IsLatestCopy N w s octets x) where
  due-repeat : greatest_accepted N w s ≡ issued w s
      → IsDueTo (N.clock (N.session s).target) (history N w (N.session s).target) x
  due-repeat g =
      let at = r.sessions s place in
      let was = at.without_gap (issued w s) of.says.positive (omega (arith, g)) in
      let here : greatest x.heard.source (accepted_at_target N w s) ≡ x.index = grind arith in
      let kept : kept_reply x.heard.source x.index (accepted_at_target N w s) ≡ Some was.entry = grind arith in
      let same : was.entry.request ≡ x.request = grind arith in
      (was.entry.reply, due-latest (N.clock (N.session s).target) (history N w (N.session s).target) x here (record { kept = was.entry; is = kept; request = same }))

  due-first : domain_number octets ≡ (history N w (N.session s).target).sets.default.domain
      → (greatest_accepted N w s ≡ issued w s → ⊥)
      → IsDueTo (N.clock (N.session s).target) (history N w (N.session s).target) x
  due-first domain ne =
      let above : greatest (manager N s) (accepted_at_target N w s) < x.index = omega (arith, (r.sessions s place).begun_before, of.index, ne) in
      (_, cond-true _ _ _ (and_from _ _ (eq-eqb _ _ (of.domain ∙ domain)) (lt-ltb _ _ (subst (λ (m : PortIdentity). greatest m (accepted_at_target N w s) < x.index) (sym of.source) above))))

due-to : (N : Network) (w : NetworkState) (s : ℕ) (octets : List ℕ) (x : RequestCopy)
    → IsReached N w → s < N.sessions → IsLatestCopy N w s octets x → IsHeardBy N w s octets
    → IsDueTo (N.clock (N.session s).target) (history N w (N.session s).target) x
due-to N w s octets x r place of heard = ⊎_elim
    (λ (g : greatest_accepted N w s ≡ issued w s). due-repeat N w s octets x r place of g)
    (λ (ne : greatest_accepted N w s ≡ issued w s → ⊥). ⊎_elim
    (λ (domain : domain_number octets ≡ (history N w (N.session s).target).sets.default.domain). due-first N w s octets x r place of domain ne)
    (λ (g : greatest_accepted N w s ≡ issued w s). absurd (ne g))
    heard)
    (cases_eq (greatest_accepted N w s) (issued w s))

-- ---- it is one message

-- the message of the reply that is due
pub record IsReplyMessage (me : ClockIdentity) (x : RequestCopy) (r : ReplyValue) : Type 0 where
  pub answer : Answer
  pub one : r.answers ≡ answer ∷ []
  pub valid : IsValid (reply_message me x.heard r.action r.id x.ingress answer)
  pub fits : Fits (reply_message me x.heard r.action r.id x.ingress answer)

reply-message : (N : Network) (w : NetworkState) (s port : ℕ) (f : Frame) (x : RequestCopy)
    (r : ReplyValue)
    → IsNetwork N → IsReached N w → s < N.sessions → HasEnd N (AtPort (N.session s).target port)
    → f.origin ≡ RequestOf s (issued w s) → IsOfOrigin N w f.octets f.origin
    → IsLatestCopy N w s f.octets x → x.ingress ≡ port → x.heard.number < 2 ^ 16
    → copy_of (N.clock (N.session s).target) (ports N (N.session s).target) (delivery port f)
    ≡ Some x
    → due_reply (N.clock (N.session s).target) (history N w (N.session s).target) x ≡ Some r
    → IsReplyMessage (N.clock (N.session s).target).identity x r
reply-message N w s port f x r n reached place end origin i of ingress number e d =
    let c = (N.session s).target in
    let session = n.are_sessions s place in
    let u = arrives w c (delivery port f) in
    let heard = heard-frame N w f.octets f.origin i in
    let reached_u : IsReached N u = arrives-reached N w c port f n reached session.exists heard in
    let due = keeps_due N w c port f x r reached_u (is_copy_of N w c port f x n reached session.exists heard e) e d in
    let says = due.says in
    let sendable = sendable-one due.entry.request due.entry says.one.answer says.one.is says.answers in
    let clock = n.are_clocks c session.exists in
    let source : length x.heard.source.clock.0 ≡ 8 = grind arith in
    let source_port : x.heard.source.port < 2 ^ 16 = grind arith in
    let in' : x.ingress < 2 ^ 16 = grind (arith, small) in
    let a = says.one.answer in grind (arith, reply-valid, reply-fits)

-- what its canonical spelling says
pub said-domain : (v : Message) (domain : ℕ)
    → IsValid v → Fits v → v.domain ≡ domain
    → domain_number (canonical v) ≡ domain
said-domain v domain valid fits e = sym (canonical_spells v valid fits).domain ∙ e

pub said-hops : (v : Message) (hops : ℕ)
    → IsValid v → Fits v → v.hops ≡ hops
    → boundary_hops (canonical v) ≡ hops
said-hops v hops valid fits e = sym (canonical_spells v valid fits).hops ∙ e

-- ---- the target replies

-- all that the target makes of the copy is the reply
made-reply : (N : Network) (w : NetworkState) (s port : ℕ) (f : Frame) (x : RequestCopy)
    (v : Message) (r : ReplyValue)
    → f.origin ≡ RequestOf s (issued w s) → message_of f.octets ≡ Some v
    → is_for_this_clock (N.clock (N.session s).target) v ≡ true
    → copy_of (N.clock (N.session s).target) (ports N (N.session s).target) (delivery port f)
    ≡ Some x
    → due_reply (N.clock (N.session s).target) (history N w (N.session s).target) x ≡ Some r
    → x.ingress ≡ port → (m : IsReplyMessage (N.clock (N.session s).target).identity x r)
    → made_frames N (N.session s).target (history N w (N.session s).target) port f
    ≡ new_frames (peers N.links (AtPort (N.session s).target port))
    (canonical (reply_message (N.clock (N.session s).target).identity x.heard r.action r.id x.ingress m.answer)) (ReplyTo s (issued w s))
made-reply N w s port f x v r origin e here is due ingress m = grind (arith, forwarded-copy, rendered-one, append-nil)

pub replied : (N : Network) (w : NetworkState) (s port : ℕ) (f : Frame)
    → IsNetwork N → IsReached N w → s < N.sessions → IsFrame N w f
    → f.end ≡ AtPort (N.session s).target port → f.origin ≡ RequestOf s (issued w s)
    → LastIsForOne N s (w.session s).begun → IsHeardBy N w s f.octets
    → HasReplied N w (delivered_at_clock N w (N.session s).target port f) s port f.octets
replied N w s port f n r place i end origin for_one heard =
    let c = (N.session s).target in
    let session = n.are_sessions s place in
    let own : IsOfOrigin N w f.octets (RequestOf s (issued w s)) = grind arith in
    let says = says_request N w s (issued w s) f.octets n r own in
    let v : Message = request_at N s (issued w s) says.domain says.hops says.request in
    let x : RequestCopy = copy_from (delivery port f) v in
    let domain : says.domain ≡ domain_number f.octets = message-domain v f.octets says.message.read in
    let of : IsLatestCopy N w s f.octets x = record { says = says; source = refl; index = ap index_of origin; request = refl; domain = domain } in
    let is : copy_of (N.clock c) (ports N c) (delivery port f) ≡ Some x =
    ap (copy_by (N.clock c) (ports N c) (delivery port f)) says.message.read ∙ cond-true _ _ _ (request-is_copy N s (issued w s) says.domain says.hops says.request n place says.asked (for_one says.request says.begun_as)) in
    let due = due-to N w s f.octets x r place of heard in
    let m = reply-message N w s port f x due.0 n r place (subst (HasEnd N) end i.end) origin i.origin of refl says.message.fits.number is due.1 in
    let u : Message = reply_message (N.clock c).identity x.heard (due.0).action (due.0).id x.ingress m.answer in
    let here : same_clock (N.session s).setup.target (N.clock c).identity ≡ true = grind (arith, session.target, same_clock-refl) in
    record {
      reply = canonical u;
      frames = ap (λ fs. w.frames ++ fs) (made-reply N w s port f x v due.0 origin says.message.read here is due.1 refl m);
      domain = grind (arith, said-domain);
      hops = said-hops u ((N.session s).setup.hops - boundary_hops f.octets) m.valid m.fits (ap (λ k. (N.session s).setup.hops - k) (message-hops v f.octets says.message.read));
    }

-- ---- the session reports

pub reports-answer : (N : Network) (w : NetworkState) (s : ℕ) (f : Frame)
    → IsNetwork N → IsReached N w → s < N.sessions → IsFrame N w f
    → f.origin ≡ ReplyTo s (issued w s) → is_idle (w.session s) ≡ false
    → domain_number f.octets ≡ (w.session s).domain
    → HasReported w (delivered_at N w f (AtSession s)) s
reports-answer N w s f n r place i origin busy domain =
    let at = r.sessions s place in
    let own : IsOfOrigin N w f.octets (ReplyTo s (issued w s)) = grind arith in
    let says = says_reply N w s (issued w s) f.octets n r own in
    let v : Message = reply_at (N.session s).setup.target says.heard says.entry.reply says.ingress says.hops says.answer in
    let report : Report = record { index = issued w s; outcome = outcome_in v.body } in
    let from : report_from s (w.session s) f ≡ Some report = grind (arith, cond-true, and_from, eq-eqb, message-domain) in
    let now : (delivered_at N w f (AtSession s)).session s ≡ reported (w.session s) (Some report) = grind (arith, with_place-same, eq-eqb) in
    let size : length ((w.session s).reports ++ report ∷ []) ≡ length (w.session s).reports + 1 = length-append (w.session s).reports (report ∷ []) in
    let all : length ((w.session s).reports ++ report ∷ []) ≡ length (w.session s).begun =
    omega (arith, size, at.one_at_a_time, at.accepted_before, at.begun_before, eqb-false (length (w.session s).reports) (length (w.session s).begun) busy) in grind (arith, eq-eqb)

-- ---- the laws
