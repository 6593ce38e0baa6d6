-- One delivery on the way of a request: a clock passes it on, or the target replies, and the same of the reply.
use Rattle.ptpm_network.proofs.Common.{LastIsForOne, arith, ◌≡◌, ℕ, ◌<◌, ◌≤◌, ◌+◌, ◌-◌, List, [], ◌∷◌, Some, true, false, refl, sym, ◌∙◌, ap, subst, ⊎_elim, ◌⊎◌, inl, inr, length, length-append, cond-false, le-ltb, ne_eqb, slice_get, list_any, boundary_hops, domain_number, may_forward, History, Deliver, frame_at, HasReplied, HasRoom, IsHeardBy, IsOfOrigin, IsReached, delivered_at_clock, step, AtPort, End, HasEnd, IsNetwork, Network, peers, same_end, Frame, NetworkState, Origin, RequestOf, ReplyTo, greatest_accepted, history, is_late, issued, new_frames, AreLinked, ComesIn, Hop, Leads, PassesOn, IsFrame, same_identity-refl, length-map, expected_ports, ◌++◌, None, eq-eqb, Message, canonical, RequestValue, send_refusal, request_message, Send, refusal, HasReported, happens, AtSession, is_idle, unanswered, with_place-same, Replay, Event, Stranger, run, all_weaker}
use Rattle.ptpm_network.proofs.Accepting.{greatest-same}
use Rattle.ptpm_network.proofs.Arriving.{JoinsAt, here_after, history-elsewhere}
use Rattle.ptpm_network.proofs.Carrying.{IsIn, IsPassing, MakesAtMost, MayPass, in_any, in_map, in_right, passed-domain, passed-hops, passed_copy, passing-few, passing-history, passing-made, reply-passing, request-passing, in_left}
use Rattle.ptpm_network.proofs.Exchanging.{delivery-step, delivery-taken, replied, is_room, reports-answer, said-domain, said-hops, step-taken}
use Rattle.ptpm_network.proofs.Frames.{heard-frame}
use Rattle.ptpm_network.proofs.Reaching.{frame_at-is, step-reached, after-step, after-delivery}
use Rattle.ptpm_network.proofs.Messages.{request-fits, request-valid}
use Rattle.ptpm_network.proofs.Steps.{unanswered-last}
use Rattle.ptpm_network.proofs.Worth.{session-named}
use Rattle.ptpm_network.specs.Way.{IsWayIn}
use Rattle.ptpm_network.specs.Machine as machine

-- ---- what stays

-- what deliveries on the way leave as it was: sessions, and all clocks but the target
pub record Moved (N : Network) (s : ℕ) (w u : NetworkState) (made : ℕ) : Type 0 where
  pub reached : IsReached N u
  pub sessions : u.session ≡ w.session
  pub histories : (d : ℕ) → (d ≡ (N.session s).target → ⊥) → history N u d ≡ history N w d
  pub frames : length u.frames ≤ length w.frames + made

-- ---- a frame on its way to an end

pub record Comes (w : NetworkState) (end : End) (o : Origin) (domain hops : ℕ) : Type 0 where
  pub frame : Frame
  pub held : IsIn w.frames frame
  pub at_end : frame.end ≡ end
  pub origin_is : frame.origin ≡ o
  pub domain_is : domain_number frame.octets ≡ domain
  pub hops_are : boundary_hops frame.octets ≡ hops

pub numbered : (frames : List Frame) (f : Frame)
    → IsIn frames f
    → (n : ℕ) × (frame_at frames n ≡ Some f)
numbered frames f p =
    let back : (p.0 + 1) - 1 ≡ p.0 = omega arith in
    (p.0 + 1, cond-false _ _ _ (ne_eqb (p.0 + 1) 0 (λ (h : p.0 + 1 ≡ 0). omega arith)) ∙ ap (slice_get frames) back ∙ p.1)

pub in_time : (w : NetworkState) (s k : ℕ) → issued w s ≡ k → is_late w (RequestOf s k) ≡ false
in_time w s k e = le-ltb (k + 32768) (issued w s) (omega (arith, e))

pub one-delivery : (N : Network) (w : NetworkState) (n : ℕ) (f : Frame) (end : End)
    → frame_at w.frames n ≡ Some f → f.end ≡ end → HasRoom w → is_late w f.origin ≡ false
    → ComesIn N w n end
one-delivery N w n f end e q room late = record { frame = f; is = e; at_end = q; not_refused = delivery-taken N w n f e room; in_time = late }

-- ---- it is handed on

-- the target hears request k
abbrev pub Hears : Network → NetworkState → ℕ → ℕ → ℕ → Type 0
Hears N w s k domain = ((history N w (N.session s).target).sets.default.domain ≡ domain) ⊎ (greatest_accepted N w s ≡ k)

heard-by : (N : Network) (w : NetworkState) (s k domain : ℕ) (octets : List ℕ)
    → issued w s ≡ k → domain_number octets ≡ domain → Hears N w s k domain
    → IsHeardBy N w s octets
heard-by N w s k domain octets e d h = ⊎_elim
    (λ (same : (history N w (N.session s).target).sets.default.domain ≡ domain). inl (d ∙ sym same))
    (λ (g : greatest_accepted N w s ≡ k). inr (g ∙ sym e))
    h

pub hears-stays : (N : Network) (w u : NetworkState) (s k domain : ℕ)
    → history N u (N.session s).target ≡ history N w (N.session s).target → Hears N w s k domain
    → Hears N u s k domain
hears-stays N w u s k domain same h = ⊎_elim
    (λ (d : (history N w (N.session s).target).sets.default.domain ≡ domain). inl (ap (λ (x : History). x.sets.default.domain) same ∙ d))
    (λ (g : greatest_accepted N w s ≡ k). grind arith)
    h

-- A message of request k comes in at this end, and another is on its way to the next one then.
pub record HandedOn (N : Network) (s : ℕ) (w : NetworkState) (most k domain : ℕ) (at e : End) (o : Origin) (hops : ℕ) : Type 0 where
  pub number : ℕ
  pub comes_in : ComesIn N w number at
  pub moved : Moved N s w (step N w (Deliver number)) most
  pub hears : Hears N (step N w (Deliver number)) s k domain
  pub comes : Comes (step N w (Deliver number)) e o domain hops

-- ---- a clock passes it on

-- what the clock needs for it
record CanPass (N : Network) (w : NetworkState) (c p q : ℕ) (e : End) (domain : ℕ) : Type 0 where
  pub two_ports : q ≡ p → ⊥
  pub domain_is : (history N w c).sets.default.domain ≡ domain
  pub ingress : may_forward p (history N w c).sets ≡ true
  pub egress : may_forward q (history N w c).sets ≡ true
  pub link : list_any (same_end e) (peers N.links (AtPort c q)) ≡ true

pass : (N : Network) (s : ℕ) (w : NetworkState) (most k c p q : ℕ) (e : End) (o : Origin)
    (domain hops : ℕ)
    → IsNetwork N → MakesAtMost N most → IsReached N w → HasRoom w → is_late w o ≡ false
    → Hears N w s k domain
    → ((octets : List ℕ) → c < N.clocks → IsOfOrigin N w octets o → IsPassing (N.clock c).identity octets)
    → CanPass N w c p q e domain → 0 < hops → Comes w (AtPort c p) o domain hops
    → HandedOn N s w most k domain (AtPort c p) e o (hops - 1)
pass N s w most k c p q e o domain hops n few r room late hears passing can hop comes =
    let f = comes.frame in
    let number = numbered w.frames f comes.held in
    let i = frame_at-is N w number.0 f r number.1 in
    let exists = (subst (HasEnd N) comes.at_end i.end).0 in
    let v = passing f.octets exists (subst (IsOfOrigin N w f.octets) comes.origin_is i.origin) in
    let may : MayPass (history N w c).sets p q f.octets = grind arith in
    let u : NetworkState = delivered_at_clock N w c p f in
    let is : step N w (Deliver number.0) ≡ u = delivery-step N w number.0 f (AtPort c p) number.1 comes.at_end room in
    let reached_u : IsReached N u = grind (arith, step-reached) in
    let moved : Moved N s w u most = record {
      reached = reached_u;
      sessions = refl;
      histories = λ d ne. passing-history N w c p f d v;
      frames = passing-few N w most c p q f few (r.clocks c exists) v may;
    } in
    let comes_u : Comes u e o domain (hops - 1) = record {
      frame = passed_copy f e;
      held = passing-made N w c p q f e v may can.link;
      at_end = refl;
      origin_is = comes.origin_is;
      domain_is = grind (arith, passed-domain);
      hops_are = grind (arith, passed-hops);
    } in grind (arith, one-delivery, hears-stays, passing-history)

-- ---- the target replies

-- it hears the request still, as it has accepted it, or is as it was
hears-after : (N : Network) (s : ℕ) (w : NetworkState) (k domain port : ℕ) (f : Frame)
    → IsNetwork N → s < N.sessions → IsReached N w → IsFrame N w f
    → IsReached N (delivered_at_clock N w (N.session s).target port f)
    → issued w s ≡ k → f.origin ≡ RequestOf s k → Hears N w s k domain
    → Hears N (delivered_at_clock N w (N.session s).target port f) s k domain
hears-after N s w k domain port f n place r i r_u e origin hears = grind (arith, hears-stays, JoinsAt, same_identity-refl, greatest-same, here_after, heard-frame)

pub reply : (N : Network) (s : ℕ) (w : NetworkState) (most k domain hops lost port : ℕ) (from : End)
    → IsNetwork N → s < N.sessions → MakesAtMost N most → IsReached N w → HasRoom w → issued w s ≡ k
    → lost + hops ≡ (N.session s).setup.hops → AreLinked N from (AtPort (N.session s).target port)
    → LastIsForOne N s (w.session s).begun → Hears N w s k domain → Comes w (AtPort (N.session s).target port) (RequestOf s k) domain hops
    → HandedOn N s w most k domain (AtPort (N.session s).target port) from (ReplyTo s k) lost
reply N s w most k domain hops lost port from n place few r room e sum link for_one hears comes =
    let f = comes.frame in
    let t = (N.session s).target in
    let number = numbered w.frames f comes.held in
    let i = frame_at-is N w number.0 f r number.1 in
    let u : NetworkState = delivered_at_clock N w t port f in
    let is : step N w (Deliver number.0) ≡ u = delivery-step N w number.0 f (AtPort t port) number.1 comes.at_end room in
    let reached_u : IsReached N u = grind (arith, step-reached) in
    let back : HasReplied N w u s port f.octets = grind (arith, replied, heard-by) in
    let ends = peers N.links (AtPort t port) in
    let made = new_frames ends back.reply (ReplyTo s (issued w s)) in
    let copy : Frame = record { end = from; octets = back.reply; origin = ReplyTo s (issued w s); first_hops = boundary_hops back.reply; forwardings = 0 } in
    let held : IsIn u.frames copy = subst (λ fs. IsIn fs copy) (sym back.frames) (in_right w.frames made copy
    (in_map (λ end. record { end = end; octets = back.reply; origin = ReplyTo s (issued w s); first_hops = boundary_hops back.reply; forwardings = 0 }) ends from (in_any from ends link.back))) in
    let size : length made ≤ most = rw length-map (omega (arith, few (AtPort t port))) in
    let more : length u.frames ≡ length w.frames + length made = ap length back.frames ∙ length-append w.frames made in
    let moved : Moved N s w u most = grind (arith, history-elsewhere, ne_eqb) in
    let comes_u : Comes u from (ReplyTo s k) domain lost = record {
      frame = copy;
      held = held;
      at_end = refl;
      origin_is = ap (ReplyTo s) e;
      domain_is = back.domain ∙ comes.domain_is;
      hops_are = omega (arith, back.hops, comes.hops_are, sum);
    } in
    record {
      number = number.0;
      comes_in = one-delivery N w number.0 f (AtPort t port) number.1 comes.at_end room (ap (is_late w) comes.origin_is ∙ in_time w s k e);
      moved = grind arith;
      hears = subst (λ (x : NetworkState). Hears N x s k domain) (sym is) (hears-after N s w k domain port f n place r i reached_u e comes.origin_is hears);
      comes = grind arith;
    }

-- ---- a way

-- the end at which a way comes in first
abbrev pub first_end : List Hop → End → End
first_end [] to = to
first_end (h ∷ hops) to = AtPort h.clock h.near

pub leads-first : (N : Network) (hops : List Hop) (from to : End)
    → Leads N from hops to
    → AreLinked N from (first_end hops to)
leads-first N [] from to leads = leads
leads-first N (h ∷ hops) from to leads = leads.0

module _ (N : Network) (s : ℕ) (w : NetworkState) (most k domain hops : ℕ) (h : Hop) (e : End) (n : IsNetwork N) (few : MakesAtMost N most) (r : IsReached N w) (room : HasRoom w) (is : issued w s ≡ k) (hears : Hears N w s k domain) where
  -- a clock passes a request on to the far side, and the reply back to the near one
  pub pass_there : PassesOn N w (N.session s).target domain h
      → list_any (same_end e) (peers N.links (AtPort h.clock h.far)) ≡ true → 0 < hops
      → Comes w (AtPort h.clock h.near) (RequestOf s k) domain hops
      → HandedOn N s w most k domain (AtPort h.clock h.near) e (RequestOf s k) (hops - 1)
  pass_there p link hop comes =
      pass N s w most k h.clock h.near h.far e (RequestOf s k) domain hops n few r room (in_time w s k is) hears
      (λ octets exists i. request-passing N w s k h.clock octets n r exists p.other i)
      (record { two_ports = λ q. p.two_ports (sym q); domain_is = p.in_domain; ingress = p.near; egress = p.far; link = link }) hop comes

  pub pass_back : PassesOn N w (N.session s).target domain h
      → list_any (same_end e) (peers N.links (AtPort h.clock h.near)) ≡ true → 0 < hops
      → Comes w (AtPort h.clock h.far) (ReplyTo s k) domain hops
      → HandedOn N s w most k domain (AtPort h.clock h.far) e (ReplyTo s k) (hops - 1)
  pass_back p link hop comes =
      pass N s w most k h.clock h.far h.near e (ReplyTo s k) domain hops n few r room (in_time w s k is) hears
      (λ octets exists i. reply-passing N w s k h.clock octets n r exists p.other i)
      (record { two_ports = p.two_ports; domain_is = p.in_domain; ingress = p.far; egress = p.near; link = link }) hop comes

-- ---- a session sends its unanswered request, and hears the answer

-- ---- it sends

-- the unanswered request, as it is sent
pub record Sent (N : Network) (w : NetworkState) (s : ℕ) : Type 0 where
  pub octets : List ℕ
  pub frames : (machine.sends N w s).frames
      ≡ w.frames ++ new_frames (peers N.links (AtSession s)) octets (RequestOf s (issued w s))
  pub domain : domain_number octets ≡ (w.session s).domain
  pub hops : boundary_hops octets ≡ (N.session s).setup.hops

pub send-frames : (N : Network) (w : NetworkState) (s : ℕ) (q : RequestValue)
    → IsNetwork N → IsReached N w → s < N.sessions → unanswered (w.session s) ≡ Some q
    → Sent N w s
send-frames N w s q n r place e =
    let k = issued w s in
    let asked = (r.sessions s place).asked (length (w.session s).begun - 1) q (unanswered-last (w.session s) q e) in
    let v : Message = request_message (N.session s).setup (w.session s).domain k q in
    let p = expected_ports N s in
    let valid = request-valid N s k (w.session s).domain (N.session s).setup.hops p q asked in
    let fits = request-fits N s k (w.session s).domain (N.session s).setup.hops p q n place asked in
    record {
      octets = canonical v;
      frames = grind arith;
      domain = said-domain v (w.session s).domain valid fits refl;
      hops = said-hops v (N.session s).setup.hops valid fits refl;
    }

pub send-taken : (N : Network) (w : NetworkState) (s : ℕ) (q : RequestValue)
    → s < N.sessions → HasRoom w → unanswered (w.session s) ≡ Some q
    → ((w.session s).attempts_left ≡ 0 → ⊥)
    → refusal N w (Send s) ≡ None
unfolding refusal send_refusal
send-taken N w s q place room e ne = grind (arith, session-named, is_room, ne_eqb)

module _ (N : Network) (w : NetworkState) (s : ℕ) where
  pub send-step : refusal N w (Send s) ≡ None → step N w (Send s) ≡ machine.sends N w s
  unfolding happens
  send-step none = step-taken N w (Send s) none

  -- its session is as it was, except the attempts
  pub sent-session : (machine.sends N w s).session s
      ≡ record (w.session s) { attempts_left = (w.session s).attempts_left - 1 }
  sent-session = with_place-same w.session s (record (w.session s) { attempts_left = (w.session s).attempts_left - 1 }) s (eq-eqb s s refl)

-- its requests, reports and domain are as they were
pub record IsSameSession (w u : NetworkState) (s : ℕ) : Type 0 where
  pub counted : issued u s ≡ issued w s
  pub reports : (u.session s).reports ≡ (w.session s).reports
  pub domain : (u.session s).domain ≡ (w.session s).domain
  pub idle : is_idle (u.session s) ≡ is_idle (w.session s)

-- copies of it are on their way, and no more than this
pub sent-comes : (N : Network) (w : NetworkState) (s : ℕ) (end : End)
    → Sent N w s → list_any (same_end end) (peers N.links (AtSession s)) ≡ true
    → Comes (machine.sends N w s) end (RequestOf s (issued w s)) (w.session s).domain
    (N.session s).setup.hops
sent-comes N w s end sent link =
    let ends = peers N.links (AtSession s) in
    let make : End → Frame = λ e. record { end = e; octets = sent.octets; origin = RequestOf s (issued w s); first_hops = boundary_hops sent.octets; forwardings = 0 } in
    record {
      frame = make end;
      held = subst (λ fs. IsIn fs (make end)) (sym sent.frames) (in_right w.frames (new_frames ends sent.octets (RequestOf s (issued w s))) (make end) (in_map make ends end (in_any end ends link)));
      at_end = refl;
      origin_is = refl;
      domain_is = sent.domain;
      hops_are = sent.hops;
    }

pub sent-few : (N : Network) (w : NetworkState) (s most : ℕ)
    → Sent N w s → MakesAtMost N most
    → length (machine.sends N w s).frames ≤ length w.frames + most
sent-few N w s most sent few = grind (arith, length-map, length-append)

-- the last delivery, at the session
pub record Told (N : Network) (s : ℕ) (z : NetworkState) : Type 0 where
  pub number : ℕ
  pub comes_in : ComesIn N z number (AtSession s)
  pub reported : HasReported z (step N z (Deliver number)) s

pub tell : (N : Network) (s : ℕ) (z : NetworkState) (k domain hops : ℕ)
    → IsNetwork N → s < N.sessions → IsReached N z → HasRoom z → issued z s ≡ k
    → is_idle (z.session s) ≡ false → (z.session s).domain ≡ domain
    → Comes z (AtSession s) (ReplyTo s k) domain hops
    → Told N s z
tell N s z k domain hops n place r room is busy here comes =
    let f = comes.frame in
    let number = numbered z.frames f comes.held in
    let i = frame_at-is N z number.0 f r number.1 in
    record {
      number = number.0;
      comes_in = one-delivery N z number.0 f (AtSession s) number.1 comes.at_end room (ap (is_late z) comes.origin_is ∙ in_time z s k is);
      reported = subst (λ (x : NetworkState). HasReported z x s) (sym (delivery-step N z number.0 f (AtSession s) number.1 comes.at_end room))
          (reports-answer N z s f n r place i (comes.origin_is ∙ ap (ReplyTo s) (sym is)) busy (comes.domain_is ∙ sym here));
    }

-- ---- what events leave as it was: frames stay, and a way stays one if its clocks and its session do

-- ---- frames stay

module _ (N : Network) (w : NetworkState) (x : Frame) where
  happens-frames : (e : Event) → IsIn w.frames x → IsIn (happens N w e).frames x
  unfolding happens
  happens-frames (Send s) p = in_left w.frames _ x p
  happens-frames (Deliver n) p =
      after-delivery (λ (u : NetworkState). IsIn u.frames x) N w n p (λ f at c port end. in_left w.frames _ x p) (λ f at s end. p)
  happens-frames (Replay n end) p = in_left w.frames _ x p
  happens-frames (Stranger c port datagram) p = in_left w.frames _ x p
  happens-frames _ p = p

pub run-frames : (N : Network) (w : NetworkState) (es : List Event) (x : Frame)
    → IsIn w.frames x
    → IsIn (run N w es).frames x
run-frames N w [] x p = p
run-frames N w (e ∷ es) x p = run-frames N (step N w e) es x (after-step (λ (u : NetworkState). IsIn u.frames x) N w e p (λ none. happens-frames N w x e p))

-- ---- a way stays one

-- if all clocks but the target are as they were, and the target hears the last request, and has the port that it is for
pub way-stays : (N : Network) (w u : NetworkState) (s domain port : ℕ) (hops : List Hop)
    → ((d : ℕ) → (d ≡ (N.session s).target → ⊥) → history N u d ≡ history N w d)
    → LastIsForOne N s (u.session s).begun → Hears N u s (issued u s) domain → IsWayIn N w s domain hops port
    → IsWayIn N u s domain hops port
way-stays N w u s domain port hops same for_one hears way = grind (arith, all_weaker)
