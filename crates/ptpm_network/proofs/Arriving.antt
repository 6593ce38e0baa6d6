-- What a delivery at a clock does to what the clock accepted.
use Rattle.ptpm_network.proofs.Common.{expected_ports, copy_parts, names_port, IsForOne, arith, by_test, ◌≡◌, ℕ, ◌-◌, ◌<◌, ◌≤◌, ◌==◌, List, [], ◌∷◌, ◌++◌, Option, Some, None, true, false, refl, sym, ◌∙◌, ap, subst, ⊎_elim, ◌⊎◌, inl, inr, length, and_parts, cond-true, cond-false, eq-eqb, eqb-true, ltb-true, cons_option, slice_get, PortIdentity, Message, same_identity, message_of, RequestValue, Accepted, Delivery, History, RequestCopy, accepted_from, after_arrival, after_copy, applied_once, copies, initial_history, copy_from, copy_of, greatest, is_copy, joined, joins, kept_reply, Clock, applied_once-ports, delivers_copy, same_identity-true, number_of, AreDataSets, IsInStep, IsReached, arrives, delivery, IsNetwork, Network, manager, ports, Frame, NetworkState, SessionState, RequestOf, accepted_at_target, copies_at, history, with_place-other, with_place-same}
use Rattle.std.proofs.lemmas.List.Elements.{filter_map-append}
use Rattle.ptpm_network.proofs.Accepting.{IsAbove, JoinsOwn, Keeps, in_step-joined, keeps-joined, kept-joined, kept-le}
use Rattle.ptpm_network.proofs.Frames.{IsHeard, SaysRequest, same_read, says_request, heard-true, is_copy_by}
use Rattle.ptpm_network.proofs.Messages.{request_at, answered, for_one-there, kept, once}
use Rattle.ptpm_network.proofs.Steps.{KeptStays, frames-stay}

-- ---- the session that a numbered copy is of

pub record IsCopyOf (N : Network) (w : NetworkState) (c port : ℕ) (f : Frame) (copy : RequestCopy) : Type 0 where
  pub session : ℕ
  pub k : ℕ
  pub origin : f.origin ≡ RequestOf session k
  pub target : (N.session session).target ≡ c
  pub says : SaysRequest N session k (w.session session).begun f.octets
  -- the parts of the copy
  pub index : copy.index ≡ k
  pub ingress : copy.ingress ≡ port
  pub source : copy.heard.source ≡ manager N session
  pub number : copy.heard.number ≡ number_of (N.session session).setup.first k
  pub request : copy.request ≡ says.request
  pub read : (v : Message) → message_of f.octets ≡ Some v → is_copy (N.clock c) (ports N c) v ≡ true

pub is_copy_of : (N : Network) (w : NetworkState) (c port : ℕ) (f : Frame) (copy : RequestCopy)
    → IsNetwork N → IsReached N w → c < N.clocks → IsHeard N w f.octets f.origin
    → copy_of (N.clock c) (ports N c) (delivery port f) ≡ Some copy
    → IsCopyOf N w c port f copy
is_copy_of N w c port f copy n r place i e =
    let d = delivers_copy (N.clock c) (ports N c) (delivery port f) copy e in
    let by = is_copy_by N c (ports N c) f.origin d.message n place (heard-true N w f.octets f.origin n r i d.message d.read).1 d.passes in
    let says = says_request N w by.session by.k f.octets n r (subst (IsHeard N w f.octets) by.origin i) in
    let v : Message = request_at N by.session by.k says.domain says.hops says.request in
    let is : copy ≡ copy_from (delivery port f) v = grind (arith, same_read) in
    record {
      session = by.session;
      k = by.k;
      origin = by.origin;
      target = by.target;
      says = says;
      index = grind arith;
      ingress = ap (λ (x : RequestCopy). x.ingress) is;
      source = ap (λ (x : RequestCopy). x.heard.source) is;
      number = ap (λ (x : RequestCopy). x.heard.number) is;
      request = ap (λ (x : RequestCopy). x.request) is;
      read = grind arith;
    }

-- ---- what a delivery leaves of a clock

applied_once-arrival : (c : Clock) (h : History) (ks : List RequestCopy) (o : Option RequestCopy)
    → applied_once c h (ks ++ cons_option o []) ≡ after_arrival c (applied_once c h ks) o
applied_once-arrival c h [] None = refl
applied_once-arrival c h [] (Some k) = refl
applied_once-arrival c h (j ∷ js) o = applied_once-arrival c (after_copy c h j) js o

module _ (N : Network) (w : NetworkState) (c : ℕ) (x : Delivery) where
  -- the copies of a list with one more delivery
  pub copies-here : copies_at N (arrives w c x) c
      ≡ copies_at N w c ++ cons_option (copy_of (N.clock c) (ports N c) x) []
  copies-here = grind (arith, with_place-same, eq-eqb, filter_map-append)

  pub copies-elsewhere : (d : ℕ) → d == c ≡ false → copies_at N (arrives w c x) d ≡ copies_at N w d
  copies-elsewhere d n = ap (copies (N.clock d) (ports N d)) (with_place-other w.arrivals c (w.arrivals c ++ x ∷ []) d n)

  pub history-here : history N (arrives w c x) c
      ≡ after_arrival (N.clock c) (history N w c) (copy_of (N.clock c) (ports N c) x)
  history-here = grind (arith, copies-here, applied_once-arrival)

  pub history-elsewhere : (d : ℕ) → d == c ≡ false → history N (arrives w c x) d ≡ history N w d
  history-elsewhere d n = ap (applied_once (N.clock d) (initial_history (N.start d))) (copies-elsewhere d n)

-- a clock keeps its number of ports
pub history-ports : (N : Network) (w : NetworkState) (c : ℕ)
    → length (history N w c).sets.ports ≡ ports N c
history-ports N w c = applied_once-ports (N.clock c) (initial_history (N.start c)) (copies_at N w c)

-- a copy joins
pub record JoinsAt (N : Network) (w : NetworkState) (c port : ℕ) (f : Frame) : Type 0 where
  pub copy : RequestCopy
  pub of : IsCopyOf N w c port f copy
  pub above : greatest copy.heard.source (history N w c).accepted < copy.index
  pub is : history N (arrives w c (delivery port f)) c ≡ joined (N.clock c) (history N w c) copy

abbrev HereAfter : Network → NetworkState → ℕ → ℕ → Frame → Type 0
HereAfter N w c port f = (history N (arrives w c (delivery port f)) c ≡ history N w c) ⊎ JoinsAt N w c port f

module _ (N : Network) (w : NetworkState) (c port : ℕ) (f : Frame) (n : IsNetwork N) (r : IsReached N w) (place : c < N.clocks) (i : IsHeard N w f.octets f.origin) where
  here_by : (o : Option RequestCopy)
      → copy_of (N.clock c) (ports N c) (delivery port f) ≡ o
      → HereAfter N w c port f
  here_by None e = grind (arith, history-here)
  here_by (Some copy) e =
      let is : history N (arrives w c (delivery port f)) c ≡ after_copy (N.clock c) (history N w c) copy = grind (arith, history-here) in
      by_test (joins (history N w c) copy)
      (λ y. grind (arith, is_copy_of, ltb-true, and_parts, cond-true))
      (λ f. inl (is ∙ cond-false _ _ _ f))

  pub here_after : HereAfter N w c port f
  here_after = here_by (copy_of (N.clock c) (ports N c) (delivery port f)) refl

-- ---- data sets stay data sets

module _ (N : Network) (w : NetworkState) (c port : ℕ) (f : Frame) (n : IsNetwork N) (r : IsReached N w) (place : c < N.clocks) (i : IsHeard N w f.octets f.origin) where
  clock-after : AreDataSets (ports N c) (history N (arrives w c (delivery port f)) c).sets
  clock-after = ⊎_elim
      (λ (e : history N (arrives w c (delivery port f)) c ≡ history N w c). rw e (r.clocks c place))
      (λ (j : JoinsAt N w c port f). rw j.is (kept j.copy.request ((N.clock c).rights j.copy.heard.source) (ports N c) (history N w c).sets (r.clocks c place)))
      (here_after N w c port f n r place i)

  clocks-after : (d : ℕ)
      → d < N.clocks
      → AreDataSets (ports N d) (history N (arrives w c (delivery port f)) d).sets
  clocks-after d exists = grind (arith, eqb-true, clock-after, history-elsewhere)

-- ---- what was accepted of a session

pub record Gains (m : PortIdentity) (begun : List RequestValue) (new old : List Accepted) : Type 0 where
  pub entry : Accepted
  pub is : new ≡ entry ∷ old
  pub above : IsAbove m old entry
  pub own : same_identity m entry.manager ≡ true → JoinsOwn m begun entry

abbrev pub StaysOrGains : PortIdentity → List RequestValue → List Accepted → List Accepted → Type 0
StaysOrGains m begun new old = (new ≡ old) ⊎ Gains m begun new old

pub kept-gained : (m : PortIdentity) (begun : List RequestValue) (new old : List Accepted)
    → StaysOrGains m begun new old → (k : ℕ) (e : Accepted)
    → kept_reply m k old ≡ Some e
    → kept_reply m k new ≡ Some e
kept-gained m begun new old gains k e h = grind (arith, kept-joined, kept-le)

pub step-gained : (m : PortIdentity) (p : ℕ) (new old : List Accepted) (state : SessionState)
    → StaysOrGains m state.begun new old → IsInStep m p old state
    → IsInStep m p new state
step-gained m p new old state gains at = ⊎_elim
    (λ (q : new ≡ old). subst (λ es. IsInStep m p es state) (sym q) at)
    (λ (g : Gains m state.begun new old). subst (λ es. IsInStep m p es state) (sym g.is) (in_step-joined m p old g.entry state g.above g.own at))
    gains

pub keeps-gained : (m : PortIdentity) (p : ℕ) (begun : List RequestValue) (new old : List Accepted)
    → StaysOrGains m begun new old → Keeps m p begun old
    → Keeps m p begun new
keeps-gained m p begun new old gains at = ⊎_elim
    (λ (q : new ≡ old). subst (λ es. Keeps m p begun es) (sym q) at)
    (λ (g : Gains m begun new old). subst (λ es. Keeps m p begun es) (sym g.is) (keeps-joined m p begun old g.entry g.above g.own at))
    gains

joins-own : (N : Network) (w : NetworkState) (c port : ℕ) (f : Frame)
    → IsNetwork N → IsReached N w → c < N.clocks → (j : JoinsAt N w c port f)
    → JoinsOwn (manager N j.of.session) (w.session j.of.session).begun
    (accepted_from (N.clock c) (history N w c) j.copy)
joins-own N w c port f n r place j =
    let s = j.of.session in
    let says = j.of.says in
    let q : RequestValue = j.copy.request in
    let v : Message = request_at N s j.of.k says.domain says.hops says.request in
    let has : names_port (ports N c) says.request.port ≡ true = (copy_parts (N.clock c) (ports N c) v (j.of.read v says.message.read)).port in
    let one : IsForOne (ports N c) q = subst (IsForOne (ports N c)) (sym j.of.request)
    (for_one-there (expected_ports N s) (ports N c) says.request says.asked.one (n.are_sessions s says.place).few_ports has) in
    record {
      index = subst (λ i. i ≤ length (w.session s).begun) (sym j.of.index) says.within;
      begun_as = ap (λ i. slice_get (w.session s).begun (i - 1)) j.of.index ∙ says.begun_as ∙ ap Some (sym j.of.request);
      answers = answered q ((N.clock c).rights j.copy.heard.source) (ports N c) (history N w c).sets (r.clocks c place);
      one = once q ((N.clock c).rights j.copy.heard.source) (ports N c) (history N w c).sets (r.clocks c place) one;
    }

module _ (N : Network) (w : NetworkState) (c port : ℕ) (f : Frame) (n : IsNetwork N) (r : IsReached N w) (place : c < N.clocks) (i : IsHeard N w f.octets f.origin) (t : ℕ) (exists : t < N.sessions) where
  gains-here : (N.session t).target ≡ c
      → StaysOrGains (manager N t) (w.session t).begun
      (history N (arrives w c (delivery port f)) c).accepted (history N w c).accepted
  gains-here at = ⊎_elim
      (λ (e : history N (arrives w c (delivery port f)) c ≡ history N w c). inl (ap (λ (h : History). h.accepted) e))
      (λ (j : JoinsAt N w c port f). inr (record {
        entry = accepted_from (N.clock c) (history N w c) j.copy;
        is = ap (λ (h : History). h.accepted) j.is;
        above = grind (arith, same_identity-true);
        own = λ y.
            let me : manager N t ≡ manager N j.of.session = same_identity-true _ _ y ∙ j.of.source in
            let ts : t ≡ j.of.session = n.sessions_apart t j.of.session exists j.of.says.place me (at ∙ sym j.of.target) in
            subst (λ s. JoinsOwn (manager N s) (w.session s).begun (accepted_from (N.clock c) (history N w c) j.copy)) (sym ts) (joins-own N w c port f n r place j);
      }))
      (here_after N w c port f n r place i)

  pub gains : StaysOrGains (manager N t) (w.session t).begun
      (accepted_at_target N (arrives w c (delivery port f)) t) (accepted_at_target N w t)
  gains = grind (arith, eqb-true, gains-here, history-elsewhere)

-- ---- the invariant, before the clock sends anything

module _ (N : Network) (w : NetworkState) (c port : ℕ) (f : Frame) (n : IsNetwork N) (r : IsReached N w) (place : c < N.clocks) where
  pub kept-stays : IsHeard N w f.octets f.origin → KeptStays N w (arrives w c (delivery port f))
  kept-stays i t k e exists h = grind (arith, kept-gained, gains)

  pub arrives-reached : IsHeard N w f.octets f.origin → IsReached N (arrives w c (delivery port f))
  arrives-reached i = record {
    sessions = λ t exists.
        step-gained (manager N t) (expected_ports N t) (accepted_at_target N (arrives w c (delivery port f)) t) (accepted_at_target N w t) (w.session t) (gains N w c port f n r place i t exists) (r.sessions t exists);
    clocks = clocks-after N w c port f n r place i;
    frames = frames-stay N w (arrives w c (delivery port f)) (λ s j q e. e) (kept-stays i) w.frames r.frames;
  }
