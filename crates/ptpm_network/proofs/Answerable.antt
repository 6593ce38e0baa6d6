-- The request of a session is answered along a way, whatever else happens meanwhile, and so also if nothing does.
use Rattle.ptpm_network.proofs.Common.{SessionState, LastIsForOne, with_place-same, eq-eqb, suc, arith, ◌≡◌, ℕ, ◌<◌, ◌≤◌, ◌+◌, ◌-◌, ◌*◌, List, [], ◌∷◌, ◌++◌, None, false, refl, sym, ◌∙◌, ap, subst, length, length-append, append_assoc, AllByRecursion, Deliver, Event, IsInRange, Send, frames_limit, refusal, HasRoom, IsReached, run, step, AtPort, AtSession, End, IsNetwork, Network, NetworkState, Origin, RequestOf, ReplyTo, is_idle, issued, AreLinked, Hop, IsWay, Leads, LinksHaveAtMost, PassesOn, made_along, made_each_way, passed_at_most, visited, append-nil, cond-true, eqb-false, is_none, HasReported, AreInTime, is_late_frame, taken, initial_state, ComeIn, ComesIn, IsAnswerable, ends_of, handed_in}
use Rattle.ptpm_network.specs.Way.{IsWayIn}
use Rattle.ptpm_network.specs.Meanwhile.{ComeInMeanwhile, LeavesWay, IsAnswerableMeanwhile}
use Rattle.ptpm_network.proofs.Carrying.{MakesAtMost, few-made}
use Rattle.ptpm_network.proofs.RoundTrip.{way-stays, run-frames, Comes, HandedOn, Hears, Moved, first_end, hears-stays, leads-first, pass_back, pass_there, reply, IsSameSession, Sent, send-step, sent-comes, sent-few, tell, sent-session, send-frames, send-taken}
use Rattle.ptpm_network.proofs.Reaching.{run-reached, reached}
use Rattle.ptpm_network.proofs.Steps.{sends-reached}
use Rattle.ptpm_network.proofs.Taking.{run-append}
use Rattle.std.proofs.Math.Nat.{ne_of_gt}
use Rattle.ptpm_network.proofs.Worth.{unanswered-some}
use Rattle.ptpm_network.specs.Machine as machine

-- ---- one copy each way along a way answers a request, whatever else happens between: frames stay, so each is there when its turn
-- comes.

-- ---- what has come between

-- since the state w the way is as it was, and there is room for this many frames
pub record IsOpen (N : Network) (w v : NetworkState) (s : ℕ) (hops : List Hop) (port made : ℕ) : Type 0 where
  pub reached : IsReached N v
  pub same : IsSameSession w v s
  pub way : IsWayIn N v s (w.session s).domain hops port
  pub room : length v.frames + made ≤ frames_limit

module _ (N : Network) (w v u : NetworkState) (s : ℕ) (hops : List Hop) (port made : ℕ) where
  -- a message of the request's own was handed in
  open-moved : (most n : ℕ)
      → made ≡ most * suc n → IsOpen N w v s hops port made → Moved N s v u most
      → Hears N u s (issued w s) (w.session s).domain
      → IsOpen N w u s hops port (most * n)
  open-moved most n e o m hears =
      let for_one : LastIsForOne N s (u.session s).begun = subst (λ (f : ℕ → SessionState). LastIsForOne N s (f s).begun) (sym m.sessions) o.way.for_one in
      grind (arith, IsSameSession, way-stays, Hears)

-- ---- one message after another

-- others come first
module _ (N : Network) (w : NetworkState) (s : ℕ) (hops : List Hop) (port made : ℕ) (past others : List Event) where
  others-open : IsNetwork N
      → AllByRecursion IsInRange others
      → IsOpen N w (run N w past) s hops port made
      → LeavesWay N (run N w past) (run N w (past ++ others)) s hops port made
      → IsOpen N w (run N w (past ++ others)) s hops port made
  others-open n range o l = grind (arith, run-append, run-reached)

  others-comes : (e : End) (o : Origin) (domain left : ℕ)
      → Comes (run N w past) e o domain left
      → Comes (run N w (past ++ others)) e o domain left
  others-comes e o domain left c = rw (run-append N w past others) (search (run-frames N (run N w past) others c.frame c.held))

-- A message of the request is on its way to this end, and whatever happens it goes on from there to these.
abbrev Goes : Network → NetworkState → ℕ → List Hop → ℕ → ℕ → Origin → End → List End → ℕ → Type 0
Goes N w s hops port ends o at es left = (past : List Event)
    → IsOpen N w (run N w past) s hops port (passed_at_most ends * length es)
    → Comes (run N w past) at o (w.session s).domain left
    → ComeInMeanwhile N w s hops port ends past (at ∷ es)

-- it is handed on to the next end, and goes on from there
hand-on : (N : Network) (w : NetworkState) (s : ℕ) (hops : List Hop) (port ends : ℕ) (at e : End)
    (es : List End) (o p : Origin) (left less : ℕ)
    → IsNetwork N
    → ((u : NetworkState) → IsOpen N w u s hops port (passed_at_most ends * length (e ∷ es)) → Comes u at o (w.session s).domain left → HandedOn N s u (passed_at_most ends) (issued w s) (w.session s).domain at e p less)
    → Goes N w s hops port ends p e es less
    → Goes N w s hops port ends o at (e ∷ es) left
hand-on N w s hops port ends at e es o p left less n here next past clear comes others range leaves =
    let most = passed_at_most ends in
    let v : NetworkState = run N w (past ++ others) in
    let open_v : IsOpen N w v s hops port (most * length (e ∷ es)) = others-open N w s hops port (most * length (e ∷ es)) past others n range clear leaves in
    let on = here v open_v (others-comes N w s hops port (most * length (e ∷ es)) past others at o (w.session s).domain left comes) in
    let u : NetworkState = step N v (Deliver on.number) in
    let is : run N w ((past ++ others) ++ Deliver on.number ∷ []) ≡ u = run-append N w (past ++ others) (Deliver on.number ∷ []) in
    let open_u : IsOpen N w u s hops port (most * length es) = open-moved N w v u s hops port (most * length (e ∷ es)) most (length es) refl open_v on.moved on.hears in (
      on.number,
      on.comes_in,
      next ((past ++ others) ++ Deliver on.number ∷ [])
          (subst (λ (x : NetworkState). IsOpen N w x s hops port (most * length es)) (sym is) open_u)
          (subst (λ (x : NetworkState). Comes x e p (w.session s).domain less) (sym is) on.comes),
    )

-- ---- over the clocks of the way

-- the ends at which one copy each way comes in, after the first
abbrev pub behind : List Hop → End → List End
behind [] to = []
behind (h ∷ hops) to = visited hops to ++ AtPort h.clock h.far ∷ []

pub visited-is : (hops : List Hop) (to : End) → first_end hops to ∷ behind hops to ≡ visited hops to
visited-is [] to = refl
visited-is (h ∷ hops) to = refl

-- the clocks of a part of the way
abbrev AreOf : Network → NetworkState → ℕ → List Hop → List Hop → Type 0
AreOf N w s all hops = (u : NetworkState)
    → AllByRecursion (PassesOn N u (N.session s).target (w.session s).domain) all
    → AllByRecursion (PassesOn N u (N.session s).target (w.session s).domain) hops

module _ (N : Network) (w : NetworkState) (s : ℕ) (all : List Hop) (port ends : ℕ) (n : IsNetwork N) (place : s < N.sessions) (few : MakesAtMost N (passed_at_most ends)) where
  abbrev target : End
  target = AtPort (N.session s).target port

  open-hears : (u : NetworkState) (made : ℕ)
      → IsOpen N w u s all port made
      → Hears N u s (issued w s) (w.session s).domain
  open-hears u made o = subst (λ k. Hears N u s k (w.session s).domain) o.same.counted o.way.heard

  open-room : (u : NetworkState) (made : ℕ) → IsOpen N w u s all port made → HasRoom u
  open-room u made o = omega (arith, o.room)

  -- a clock of the way passes the reply back
  goes-back : (h : Hop) (hops : List Hop) (from : End) (es : List End) (lost : ℕ)
      → AreOf N w s all (h ∷ hops) → AreLinked N from (AtPort h.clock h.near)
      → Goes N w s all port ends (ReplyTo s (issued w s)) from es lost
      → Goes N w s all port ends (ReplyTo s (issued w s)) (AtPort h.clock h.far) (from ∷ es) (lost + 1)
  goes-back h hops from es lost of link next =
      let less : lost ≡ (lost + 1) - 1 = omega arith in
      hand-on N w s all port ends (AtPort h.clock h.far) from es (ReplyTo s (issued w s)) (ReplyTo s (issued w s)) (lost + 1) ((lost + 1) - 1) n
      (λ u o comes. grind (arith, pass_back, open-room, open-hears))
      (subst (Goes N w s all port ends (ReplyTo s (issued w s)) from es) less next)

  goes : (hops : List Hop) (left lost : ℕ) (from : End) (es : List End)
      → AreOf N w s all hops → lost + left ≡ (N.session s).setup.hops → length hops ≤ left
      → Leads N from hops target
      → Goes N w s all port ends (ReplyTo s (issued w s)) from es lost
      → Goes N w s all port ends (RequestOf s (issued w s)) (first_end hops target) (behind hops target ++ from ∷ es) left
  goes [] left lost from es of sum le leads next =
      hand-on N w s all port ends target from es (RequestOf s (issued w s)) (ReplyTo s (issued w s)) left lost n
      (λ u o comes. reply N s u (passed_at_most ends) (issued w s) (w.session s).domain left lost port from n place few o.reached (open-room u _ o) o.same.counted sum leads o.way.for_one (open-hears u _ o) comes) next
  goes (h ∷ hops) left lost from es of sum le leads next =
      let far : End = AtPort h.clock h.far in
      let first : End = first_end hops target in
      let link = leads-first N hops far target leads.1 in
      let on = goes hops (left - 1) (lost + 1) far (from ∷ es) (λ u passes. (of u passes).1) (omega (arith, le, sum)) (omega (arith, le)) leads.1 (goes-back h hops from es lost of leads.0 next) in
      subst (λ ls. Goes N w s all port ends (RequestOf s (issued w s)) (AtPort h.clock h.near) ls left) (ap (λ ls. ls ++ far ∷ from ∷ es) (visited-is hops target) ∙ sym (append_assoc (visited hops target) (far ∷ []) (from ∷ es)))
      (hand-on N w s all port ends (AtPort h.clock h.near) first (behind hops target ++ far ∷ from ∷ es) (RequestOf s (issued w s)) (RequestOf s (issued w s)) left (left - 1) n
      (λ u o comes. grind (arith, pass_there, open-room, open-hears)) on)

  -- at last the session reports
  goes-home : is_idle (w.session s) ≡ false
      → Goes N w s all port ends (ReplyTo s (issued w s)) (AtSession s) [] 0
  goes-home busy past clear comes others range leaves =
      let made = passed_at_most ends * 0 in
      let v : NetworkState = run N w (past ++ others) in
      let o : IsOpen N w v s all port made = others-open N w s all port made past others n range clear leaves in
      let told = tell N s v (issued w s) (w.session s).domain 0 n place o.reached (omega (arith, o.room)) o.same.counted (o.same.idle ∙ busy) o.same.domain
      (others-comes N w s all port made past others (AtSession s) (ReplyTo s (issued w s)) (w.session s).domain 0 comes) in
      let h = told.reported in grind (arith, run-append)

-- ---- from the sending on

made-along : (most : ℕ) (hops : List Hop) (to : End)
    → made_along most hops ≡ most * length (visited hops to)
made-along most [] to = omega arith
made-along most (h ∷ hops) to =
    let size : length (visited hops to ++ AtPort h.clock h.far ∷ []) ≡ suc (length (visited hops to)) = omega (arith, length-append (visited hops to) (AtPort h.clock h.far ∷ [])) in
    omega (arith, made-along most hops to, ap (λ n. most * n) size)

-- once it is sent
open-sent : (N : Network) (w : NetworkState) (s : ℕ) (hops : List Hop) (port most : ℕ)
    → IsNetwork N → IsReached N w → s < N.sessions → MakesAtMost N most → Sent N w s
    → IsWay N w s hops port → length w.frames + (most + made_along most hops) ≤ frames_limit
    → IsOpen N w (machine.sends N w s) s hops port (made_along most hops)
open-sent N w s hops port most n r place few sent way room =
    let u : NetworkState = machine.sends N w s in
    let own = sent-session N w s in
    let same : IsSameSession w u s = search own in
    let hears : Hears N u s (issued u s) (w.session s).domain = grind (arith, Hears, hears-stays) in
    let state : SessionState = record (w.session s) { attempts_left = (w.session s).attempts_left - 1 } in
    let for_one : LastIsForOne N s (u.session s).begun =
    subst (λ (x : SessionState). LastIsForOne N s x.begun) (sym (with_place-same w.session s state s (eq-eqb s s refl))) way.for_one in
    record {
      reached = sends-reached N w s n place r;
      same = same;
      way = grind (arith, way-stays);
      room = omega (arith, sent-few N w s most sent few, room);
    }

pub sent-goes : (N : Network) (w : NetworkState) (s : ℕ) (hops : List Hop) (port ends : ℕ)
    → IsNetwork N → IsReached N w → s < N.sessions → LinksHaveAtMost N ends
    → is_idle (w.session s) ≡ false → Sent N w s → refusal N w (Send s) ≡ None → IsWay N w s hops port
    → length w.frames + made_each_way ends hops ≤ frames_limit
    → ComeInMeanwhile N w s hops port ends (Send s ∷ [])
    (visited hops (AtPort (N.session s).target port) ++ AtSession s ∷ [])
sent-goes N w s hops port ends n r place all busy sent goes' way room =
    let most = passed_at_most ends in
    let few = few-made N ends all in
    let to : End = AtPort (N.session s).target port in
    let is : step N w (Send s) ≡ machine.sends N w s = send-step N w s goes' in
    let made : made_along most hops ≡ most * length (behind hops to ++ AtSession s ∷ []) =
    let size : length (visited hops to) ≡ length (behind hops to ++ AtSession s ∷ []) = omega (arith, length-append (behind hops to) (AtSession s ∷ []), ap length (visited-is hops to)) in
    made-along most hops to ∙ ap (λ k. most * k) size in
    let clear : IsOpen N w (step N w (Send s)) s hops port (most * length (behind hops to ++ AtSession s ∷ [])) = grind (arith, open-sent) in
    let comes = sent-comes N w s (first_end hops to) sent (leads-first N hops (AtSession s) to way.leads).there in
    let sum : 0 + (N.session s).setup.hops ≡ (N.session s).setup.hops = omega arith in
    subst (ComeInMeanwhile N w s hops port ends (Send s ∷ [])) (ap (λ es. es ++ AtSession s ∷ []) (visited-is hops to))
    (goes N w s hops port ends n place few hops (N.session s).setup.hops 0 (AtSession s) [] (λ u passes. passes) sum way.hops_suffice way.leads (goes-home N w s hops port ends n place few busy) (Send s ∷ []) clear
    (subst (λ (x : NetworkState). Comes x (first_end hops to) (RequestOf s (issued w s)) (w.session s).domain (N.session s).setup.hops) (sym is) comes))

-- ---- whatever else happens

module _ (N : Network) (w : NetworkState) (s : ℕ) (hops : List Hop) (port ends : ℕ) where
  pub answerable-at : IsNetwork N → IsReached N w → s < N.sessions → LinksHaveAtMost N ends
      → is_idle (w.session s) ≡ false → 0 < (w.session s).attempts_left → IsWay N w s hops port
      → length w.frames + made_each_way ends hops ≤ frames_limit
      → IsAnswerableMeanwhile N w s hops port ends
  answerable-at n r place all busy attempts way room = grind (arith, unanswered-some, eqb-false, send-taken, ne_of_gt, sent-goes, send-frames)

-- ---- if nothing else does

pub leaves-nothing : (N : Network) (w : NetworkState) (s : ℕ) (hops : List Hop) (port frames : ℕ)
    → LeavesWay N w w s hops port frames
leaves-nothing N w s hops port frames = record { begun = refl; reports = refl; domain = refl; way = λ x. x; room = λ x. x }

record Quiet (N : Network) (w v : NetworkState) (s : ℕ) (es : List End) : Type 0 where
  pub deliveries : List (ℕ × End)
  pub along : ends_of deliveries ≡ es
  pub come_in : ComeIn N v deliveries
  pub reported : HasReported w (run N v (handed_in deliveries)) s

quiet : (N : Network) (w : NetworkState) (s : ℕ) (hops : List Hop) (port ends : ℕ)
    (past : List Event) (es : List End)
    → ComeInMeanwhile N w s hops port ends past es
    → Quiet N w (run N w past) s es
quiet N w s hops port ends past [] reported = record { deliveries = []; along = refl; come_in = tt; reported = reported }
quiet N w s hops port ends past (e ∷ es) goes =
    let v : NetworkState = run N w past in
    let made = passed_at_most ends * length es in
    let none : LeavesWay N v (run N w (past ++ [])) s hops port made = grind (arith, append-nil, leaves-nothing) in
    let next = subst (λ (ps : List Event). (number : ℕ) × ComesIn N (run N w ps) number e × ComeInMeanwhile N w s hops port ends (ps ++ Deliver number ∷ []) es) (append-nil past) (goes [] tt none) in
    let rest : Quiet N w (step N v (Deliver next.0)) s es =
    subst (λ (u : NetworkState). Quiet N w u s es) (run-append N w past (Deliver next.0 ∷ [])) (quiet N w s hops port ends (past ++ Deliver next.0 ∷ []) es next.2) in
    record {
      deliveries = (next.0, e) ∷ rest.deliveries;
      along = ap (λ ends. e ∷ ends) rest.along;
      come_in = (next.1, rest.come_in);
      reported = rest.reported;
    }

pub answerable-alone : (N : Network) (w : NetworkState) (s : ℕ) (hops : List Hop) (port ends : ℕ)
    → IsAnswerableMeanwhile N w s hops port ends
    → IsAnswerable N w s hops port
answerable-alone N w s hops port ends a = grind (arith, quiet)

pub answerable : (N : Network) (es : List Event) (s : ℕ) (hops : List Hop) (port ends : ℕ)
    → IsNetwork N → AllByRecursion IsInRange es → s < N.sessions
    → is_idle ((run N (initial_state N) es).session s) ≡ false
    → 0 < ((run N (initial_state N) es).session s).attempts_left
    → IsWay N (run N (initial_state N) es) s hops port → LinksHaveAtMost N ends
    → length (run N (initial_state N) es).frames + made_each_way ends hops ≤ frames_limit
    → IsAnswerable N (run N (initial_state N) es) s hops port
answerable N es s hops port ends n range place busy attempts way all room =
    answerable-alone N (run N (initial_state N) es) s hops port ends (answerable-at N (run N (initial_state N) es) s hops port ends n (reached N es n range) place all busy attempts way room)

-- ---- a network that runs goes through these events too

come_in-taken : (N : Network) (w : NetworkState) (ds : List (ℕ × End))
    → ComeIn N w ds
    → taken N w (handed_in ds) ≡ handed_in ds
come_in-taken N w [] x = refl
come_in-taken N w (d ∷ ds) x = cond-true _ _ _ (ap is_none (x.0).not_refused) ∙ ap (λ rest. Deliver d.0 ∷ rest) (come_in-taken N (step N w (Deliver d.0)) ds x.1)

come_in-in_time : (N : Network) (w : NetworkState) (ds : List (ℕ × End))
    → ComeIn N w ds
    → AreInTime N w (handed_in ds)
come_in-in_time N w [] x = tt
come_in-in_time N w (d ∷ ds) x = (λ none. ap (is_late_frame w) (x.0).is ∙ (x.0).in_time, come_in-in_time N (step N w (Deliver d.0)) ds x.1)

handed_in-in_range : (ds : List (ℕ × End)) → AllByRecursion IsInRange (handed_in ds)
handed_in-in_range [] = tt
handed_in-in_range (d ∷ ds) = (tt, handed_in-in_range ds)

-- the events that answer
abbrev pub answering : ℕ → List (ℕ × End) → List Event
answering s ds = Send s ∷ handed_in ds

pub answer-runs : (N : Network) (w : NetworkState) (s : ℕ) (hops : List Hop) (port : ℕ)
    (a : IsAnswerable N w s hops port)
    → AllByRecursion IsInRange (answering s a.deliveries)
    × (taken N w (answering s a.deliveries) ≡ answering s a.deliveries) × AreInTime N w
    (answering s a.deliveries)
answer-runs N w s hops port a = grind (arith, handed_in-in_range, cond-true, is_none, come_in-taken, come_in-in_time)
