-- What a report is worth at one moment it is worth ever after, and what a session takes for its answer is worth that already.
use Rattle.ptpm_network.proofs.Common.{by_test, arith, ◌≡◌, ℕ, ◌<◌, ◌≤◌, ◌==◌, ◌&&◌, ◌++◌, List, [], ◌∷◌, Option, Some, None, false, refl, sym, ◌∙◌, ap, subst, ⊎_elim, inl, length, append-nil, append_assoc, cond-true, cond-false, eqb-true, eq-eqb, slice_get, option_map, PortIdentity, same_identity, RequestValue, DataSetsValue, Clock, Accepted, RequestCopy, Delivery, applied_once, copies, initial_history, Event, Refusal, Begin, Send, Resume, Retune, Deliver, Replay, Stranger, IsInRange, refusal, no_room, frame_at, IsReached, Ok, Report, received_of, arrives, delivered_at_clock, delivery, is_late_delivery, reported, run, step, strange_frame, with_place, AtPort, AtSession, End, HasEnd, IsNetwork, Network, manager, ports, Held, Happened, RunningNetwork, held, hears, delivers, network_event, reaches, unless_refused, StandsAfter, Frame, NetworkState, SessionState, accepted_at_target, copies_at, initial_state, IsWorth, WasCarriedOut, entries_of, get_append, get_last, same_Some, with_place-same}
use Rattle.std.proofs.lemmas.List.Elements.{filter_map-append}
use Rattle.ptpm_manager.specs.declared.receiving.Received.{Received}
use Rattle.ptpm_manager.specs.declared.receiving.Received.TheVariants as received
use Rattle.ptpm_network.specs.Machine as machine
use Rattle.ptpm_network.proofs.Arriving.{StaysOrGains, Gains, gains}
use Rattle.ptpm_network.proofs.Frames.{IsHeard, heard-frame}
use Rattle.ptpm_network.proofs.Held.{frame_at-map}
use Rattle.ptpm_network.proofs.Promise.{first_of_sessions, firsts, stands-event}
use Rattle.ptpm_network.proofs.Reaching.{after-delivery, after-step, frame_at-is, strange-comes}
use Rattle.ptpm_network.proofs.Reporting.{worth-after}
use Rattle.ptpm_network.proofs.Taking.{run-append}
use Rattle.ptpm_network.proofs.Worth.{at_most_once}

-- ---- if nothing that was begun, came in or was accepted is lost

once-more : (m : PortIdentity) (k : ℕ) (begun : List RequestValue) (new old : List Accepted) (e : Accepted)
    → StaysOrGains m begun new old → length (entries_of m k new) ≤ 1 → entries_of m k old ≡ e ∷ []
    → entries_of m k new ≡ e ∷ []
once-more m k begun new old e gains few h = ⊎_elim
    (λ (same : new ≡ old). ap (entries_of m k) same ∙ h)
    (λ (g : Gains m begun new old). by_test (same_identity m g.entry.manager && g.entry.index == k)
    (λ y. let two : entries_of m k new ≡ g.entry ∷ e ∷ [] = ap (entries_of m k) g.is ∙ cond-true _ _ _ y ∙ ap (λ (es : List Accepted). g.entry ∷ es) h in
    absurd (omega (arith, ap length two, few)))
    (λ n. ap (entries_of m k) g.is ∙ cond-false _ _ _ n ∙ h))
    gains

carried-more : (c : Clock) (start : DataSetsValue) (xs ys : List RequestCopy) (e : Accepted)
    → WasCarriedOut c start xs e
    → WasCarriedOut c start (xs ++ ys) e
carried-more c start xs ys e was = grind (arith, append_assoc)

module _ (N : Network) (w u : NetworkState) (s : ℕ) (x : Report) where
  worth-from : ((i : ℕ) (q : RequestValue) → slice_get (w.session s).begun i ≡ Some q → slice_get (u.session s).begun i ≡ Some q)
      → (ys : List RequestCopy) → copies_at N u (N.session s).target ≡ copies_at N w (N.session s).target ++ ys
      → StaysOrGains (manager N s) (w.session s).begun (accepted_at_target N u s) (accepted_at_target N w s)
      → IsWorth N w s x
      → IsWorth N u s x
  worth-from begun ys more gains h = record {
    entry = h.entry;
    once = once-more (manager N s) x.index (w.session s).begun (accepted_at_target N u s) (accepted_at_target N w s) h.entry gains (at_most_once N u (N.session s).target (manager N s) x.index) h.once;
    begun_as = begun _ h.entry.request h.begun_as;
    carried_out = subst (λ (zs : List RequestCopy). WasCarriedOut (N.clock (N.session s).target) (N.start (N.session s).target) zs h.entry) (sym more)
        (carried-more (N.clock (N.session s).target) (N.start (N.session s).target) (copies_at N w (N.session s).target) ys h.entry h.carried_out);
    answer = h.answer;
    one = h.one;
    outcome = h.outcome;
  }

  -- only sessions act
  worth-apart : ((i : ℕ) (q : RequestValue) → slice_get (w.session s).begun i ≡ Some q → slice_get (u.session s).begun i ≡ Some q)
      → u.arrivals ≡ w.arrivals → IsWorth N w s x
      → IsWorth N u s x
  worth-apart begun same h =
      let at : copies_at N u (N.session s).target ≡ copies_at N w (N.session s).target =
      ap (λ (a : ℕ → List Delivery). copies (N.clock (N.session s).target) (ports N (N.session s).target) (a (N.session s).target)) same in
      worth-from begun [] (at ∙ sym (append-nil (copies_at N w (N.session s).target)))
      (inl (ap (λ (xs : List RequestCopy). (applied_once (N.clock (N.session s).target) (initial_history (N.start (N.session s).target)) xs).accepted) at)) h

-- ---- events

begun-in : (w : NetworkState) (t s : ℕ) (v : SessionState)
    → ((i : ℕ) (q : RequestValue) → slice_get (w.session t).begun i ≡ Some q → slice_get v.begun i ≡ Some q)
    → (i : ℕ) (q : RequestValue) → slice_get (w.session s).begun i ≡ Some q
    → slice_get (with_place w.session t v s).begun i ≡ Some q
begun-in w t s v more i q e = grind (arith, slice_get, eqb-true)

-- a report leaves what was begun
reported-begun : (state : SessionState) (o : Option Report) (i : ℕ) (q : RequestValue)
    → slice_get state.begun i ≡ Some q
    → slice_get (reported state o).begun i ≡ Some q
reported-begun state None i q e = e
reported-begun state (Some report) i q e = e

copies-more : (N : Network) (w : NetworkState) (c d : ℕ) (x : Delivery)
    → (ys : List RequestCopy) × (copies_at N (arrives w c x) d ≡ copies_at N w d ++ ys)
copies-more N w c d x = by_test (d == c)
    (λ y. (copies (N.clock c) (ports N c) (x ∷ []), grind (arith, eqb-true, cond-true, filter_map-append)))
    (λ n. ([], ap (copies (N.clock d) (ports N d)) (cond-false _ _ _ n) ∙ sym (append-nil (copies_at N w d))))

module _ (N : Network) (w : NetworkState) (n : IsNetwork N) (known : IsReached N w) (s : ℕ) (place : s < N.sessions) (x : Report) (h : IsWorth N w s x) where
  worth-arrived : (c port : ℕ) (f : Frame)
      → c < N.clocks → IsHeard N w f.octets f.origin
      → IsWorth N (delivered_at_clock N w c port f) s x
  worth-arrived c port f there heard =
      let more = copies-more N w c (N.session s).target (delivery port f) in
      worth-from N w (delivered_at_clock N w c port f) s x (λ i q e. e) more.0 more.1 (gains N w c port f n known there heard s place) h

  worth-happens : (e : Event) → IsInRange e → refusal N w e ≡ None → IsWorth N (machine.happens N w e) s x
  unfolding machine.happens
  worth-happens (Begin t q) i none = worth-apart N w _ s x (begun-in w t s _ (λ i q e. get_append _ _ i q e)) refl h
  worth-happens (Send t) i none = worth-apart N w _ s x (begun-in w t s _ (λ i q e. e)) refl h
  worth-happens (Resume t attempts) i none = worth-apart N w _ s x (begun-in w t s _ (λ i q e. e)) refl h
  worth-happens (Retune t domain) i none = worth-apart N w _ s x (begun-in w t s _ (λ i q e. e)) refl h
  worth-happens (Deliver m) i none =
      after-delivery (λ u. IsWorth N u s x) N w m h
      (λ f at c port end. let is = frame_at-is N w m f known at in
      let there : HasEnd N (AtPort c port) = subst (HasEnd N) end is.end in
      worth-arrived c port f there.0 (heard-frame N w f.octets f.origin is.origin))
      (λ f at t end. worth-apart N w _ s x (begun-in w t s _ (reported-begun (w.session t) _)) refl h)
  worth-happens (Replay m end) i none = worth-apart N w _ s x (λ i q e. e) refl h
  worth-happens (Stranger c port datagram) i none =
      let there = strange-comes N w c port datagram i none in
      worth-arrived c port (strange_frame c port datagram) there.0.0 there.1

  pub worth-step : (e : Event) → IsInRange e → IsWorth N (step N w e) s x
  worth-step e i = after-step (λ u. IsWorth N u s x) N w e h (worth-happens e i)

-- ---- what a session takes for its answer

-- no end is at a port and at a session
apart : (c port s : ℕ) → AtPort c port ≡ AtSession s → ⊥
apart c port s e = cc

pub delivers-to : (N : Network) (r : RunningNetwork) (m : ℕ) (x : Held) (e : End)
    → frame_at r.frames m ≡ Some x → x.end ≡ e → no_room r.frames ≡ None
    → network_event N r (Deliver m) ≡ Ok (reaches N r x e)
unfolding network_event
delivers-to N r m x e is end room =
    ap (λ (o : Option Held). delivers N r o) is ∙ ap (λ (o : Option Refusal). unless_refused o (Ok (reaches N r x x.end))) room
    ∙ ap (λ (f : End). Ok (reaches N r x f)) end

-- what was reported since was begun before
begun-back : (w : NetworkState) (t s : ℕ) (o : Option Report) (i : ℕ) (q : RequestValue)
    → slice_get (with_place w.session t (reported (w.session t) o) s).begun i ≡ Some q
    → slice_get (w.session s).begun i ≡ Some q
begun-back w t s None i q e = grind (arith, eqb-true)
begun-back w t s (Some report) i q e = grind (arith, eqb-true)

module _ (N : Network) (past : List Event) (r : RunningNetwork) (s m : ℕ) (x : Held) (report : Report) (at : StandsAfter N past r) (place : s < N.sessions) (is : frame_at r.frames m ≡ Some x) (end : x.end ≡ AtSession s) where
  abbrev state : NetworkState
  state = run N (initial_state N) past

  -- the frame of the machine that it is
  same-frame : option_map held (frame_at state.frames m) ≡ Some x
  same-frame = sym (frame_at-map state.frames m) ∙ ap (λ (fs : List Held). frame_at fs m) (sym (at.stands (first_of_sessions N N.sessions) (firsts N at.promised.network)).frames) ∙ is

  -- what a report is worth once it is made it is worth before
  worth-before : IsWorth N (step N state (Deliver m)) s report → IsWorth N state s report
  unfolding machine.happens
  worth-before = after-step (λ u. IsWorth N u s report → IsWorth N state s report) N state (Deliver m) (λ h. h)
      (λ none. after-delivery (λ u. IsWorth N u s report → IsWorth N state s report) N state m (λ h. h)
      (λ f there c port f_end. absurd (clash f there c port f_end))
      (λ f there t f_end h. worth-apart N _ state s report (begun-back state t s _) refl h))
    where
      clash : (f : Frame) → frame_at state.frames m ≡ Some f → (c port : ℕ) → f.end ≡ AtPort c port → ⊥
      clash f there c port f_end =
          let one : Some (held f) ≡ Some x = ap (λ (o : Option Frame). option_map held o) (sym there) ∙ same-frame in
          apart c port s (sym f_end ∙ ap (λ (y : Held). y.end) (same_Some (held f) x one) ∙ end)

  pub worth-heard : no_room r.frames ≡ None
      → is_late_delivery state (Deliver m) ≡ false → received_of (r.session s) x.octets ≡ received.Answered report
      → IsWorth N state s report
  worth-heard room late hears' =
      let next : Happened = reaches N r x (AtSession s) in
      let there = stands-event N past r (Deliver m) next at tt (delivers-to N r m x (AtSession s) is end room) late in
      let reports : next.network.reports s ≡ r.reports s ++ report ∷ [] =
      ap (λ (y : Received). (hears r s y).reports s) hears' ∙ with_place-same r.reports s (r.reports s ++ report ∷ []) s (eq-eqb s s refl) in
      let worth = worth-after N (past ++ Deliver m ∷ []) next.network s (length (r.reports s)) report there place
      (ap (λ (xs : List Report). slice_get xs (length (r.reports s))) reports ∙ get_last (r.reports s) report) in
      worth-before (subst (λ (u : NetworkState). IsWorth N u s report) (run-append N (initial_state N) past (Deliver m ∷ [])) worth)
