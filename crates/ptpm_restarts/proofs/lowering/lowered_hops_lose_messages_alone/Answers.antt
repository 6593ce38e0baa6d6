-- What a network in which nobody lowers hops does beside one in which hosts do: nothing, or the same.
use Rattle.ptpm_network.proofs.Common.{by_test, arith, suc, zero, ◌≡◌, ℕ, ◌+◌, ◌-◌, ◌≤◌, ◌==◌, inl, inr, ⊎_elim, Bool, true, false, if◌then◌else◌, List, [], ◌∷◌, ◌++◌, map, filter, length, Option, Some, None, refl, sym, ◌∙◌, ap, subst, map-append, slice_get, cond-true, cond-false, same_Some, Message, State, turn, copy_by, copy_from, copy_of, delivery, is_copy, RequestCopy, answer_origin, reply_origin, frames_to, forwarded_frames, reply_frames, AtPort, End, Network, peers, Origin, Neither, Held, held, seen, Frame, turn_frames, SessionValue, received_of, answer_by, answer_to, reason_of, frame_at, not, option_map, Result, Ok, result_err, length-append, option_or, option_or-none, nat_lt, with_place, AtSession, strange_frame, begin_refusal, send_refusal, Happened, BeginRefused, SendRefused, Refusal, Event, Begin, Send, Resume, Retune, Deliver, Replay, Stranger, forged, no_end, no_port, no_room, no_session, nothing_to_resume, unless_refused, replays, network_event, reaches, sends_in, begun, resumed, retuned, with_session_value, all_append, AllByRecursion}
use Rattle.ptpm_agent.proofs.Turns.{reading-message_of}
use Rattle.ptpm_manager.specs.declared.receiving.Reason.{Reason}
use Rattle.ptpm_network.specs.Lowered.{AreLowered, IsLowered, with_fewer_hops}
use Rattle.ptpm_network.proofs.Lowering.{next-alike, none-passed, passed-alike, replies-alike, verdict-alike}
use Rattle.ptpm_restarts.specs.HostsLowering.{Ended, IsLoweredHeld, Lacks, StandFor, Stands, AreOfHost, AreTimelyOfHost, HasRoomAfter, after_host_incidents, AsEver, GoesBeside, HostIncident, IsLoweredNetwork, IsLoweredWaiting, IsOfHost, IsPossibleOfHost, IsTimelyOfHost, Lowers, host_incident, with_octets}
use Rattle.ptpm_restarts.proofs.Steps.{contains-at, numbered, clear, fewer, passes}
use Rattle.ptpm_manager.specs.declared.receiving.Received.{Received}
use Rattle.ptpm_agent.specs.Observing.{moved_state}
use Rattle.ptpm_manager.specs.declared.error.GiveUpRefusal.{GiveUpRefusal}
use Rattle.ptpm_manager.specs.Session.{give_up_refusal}
use Rattle.ptpm_network.specs.RunningNetwork.{Done}
use Rattle.ptpm_restarts.specs.ActsAsIfNever.{ActsAsIfNever, IsPossibleAct}
use Rattle.ptpm_restarts.specs.AsIfNever.{IsTimely, is_late_event, is_late_held, is_late_in}
use Rattle.ptpm_restarts.specs.Incidents.{CrashClock, CrashSession, GivesUp, Happens, Incident, Observes, SaveClock, SaveSession, after_incidents, comes_in, delivered, happens, incident, lets_go, no_room_for, refused, replayed, unless}
use Rattle.ptpm_restarts.specs.Restarting.{RestartingNetwork, after_verdict, held_frames, hears, initial_restarting, running, sent_or_waiting, sends, takes_turn, turned, waiting_at, waiting_elsewhere}
use Rattle.ptpm_restarts.specs.Storage.{Stored, noted}
use Rattle.ptpm_restarts.proofs.Again.{after-append, timely-append}
use Rattle.ptpm_restarts.proofs.Worth.{delivers-to}
use Rattle.ptpm_manager.specs.declared.receiving.Received.TheVariants as received
use Rattle.ptpm_manager.specs.Ask as ask
use Rattle.ptpm_network.specs.RunningNetwork as running_network
use Rattle.ptpm_restarts.proofs.lowering.lowered_hops_lose_messages_alone.Goals as goal

-- ---- lists

module _ {A : Type 0} (R : A → A → Type 0) where
  pub stand-append : (xs ys us vs : List A) → StandFor R xs ys → StandFor R us vs → StandFor R (xs ++ us) (ys ++ vs)
  stand-append [] [] us vs Ended s = s
  stand-append (x ∷ xs) [] us vs h s = elim h [ ]
  stand-append (x ∷ xs) (y ∷ ys) us vs (Stands _ _ _ _ r w) s = Stands x y (xs ++ us) (ys ++ vs) r (stand-append xs ys us vs w s)
  stand-append xs (y ∷ ys) us vs (Lacks _ _ _ w) s = Lacks y (xs ++ us) (ys ++ vs) (stand-append xs ys us vs w s)

  pub stand-none : (ys : List A) → StandFor R [] ys
  stand-none [] = Ended
  stand-none (y ∷ ys) = Lacks y [] ys (stand-none ys)

  pub stand-self : ((x : A) → R x x) → (xs : List A) → StandFor R xs xs
  stand-self r [] = Ended
  stand-self r (x ∷ xs) = Stands x x xs xs (r x) (stand-self r xs)

  pub stand-filter : (test : A → Bool) → ((x y : A) → R x y → test x ≡ test y) → (xs ys : List A) → StandFor R xs ys
      → StandFor R (filter test xs) (filter test ys)
  stand-filter test same [] [] Ended = Ended
  stand-filter test same (x ∷ xs) [] h = elim h [ ]
  stand-filter test same (x ∷ xs) (y ∷ ys) (Stands _ _ _ _ r w) = by_test (test x)
      (λ e. rw (e, sym (same x y r) ∙ e) (Stands x y (filter test xs) (filter test ys) r (stand-filter test same xs ys w)))
      (λ n. rw (n, sym (same x y r) ∙ n) (stand-filter test same xs ys w))
  stand-filter test same xs (y ∷ ys) (Lacks _ _ _ w) = by_test (test y)
      (λ e. rw e (Lacks y (filter test xs) (filter test ys) (stand-filter test same xs ys w)))
      (λ n. rw n (stand-filter test same xs ys w))

  -- what one at a place stands for
  pub stand-get : (xs ys : List A) (i : ℕ) (x : A) → StandFor R xs ys → slice_get xs i ≡ Some x
      → (j : ℕ) × (y : A) × (slice_get ys j ≡ Some y) × R x y
  stand-get [] [] i x Ended e = absurd (cc)
  stand-get (z ∷ xs) [] i x h e = elim h [ ]
  stand-get (z ∷ xs) (y ∷ ys) zero x (Stands _ _ _ _ r w) e = (zero, y, refl, subst (λ u. R u y) (same_Some z x e) r)
  stand-get (z ∷ xs) (y ∷ ys) (suc i) x (Stands _ _ _ _ r w) e = let rest = stand-get xs ys i x w e in (suc rest.0, rest.1, rest.2, rest.3)
  stand-get xs (y ∷ ys) i x (Lacks _ _ _ w) e = let rest = stand-get xs ys i x w e in (suc rest.0, rest.1, rest.2, rest.3)

stand-map : {A B : Type 0} (R : A → A → Type 0) (S : B → B → Type 0) (f : A → B) → ((x y : A) → R x y → S (f x) (f y)) → (xs ys : List A)
    → StandFor R xs ys
    → StandFor S (map f xs) (map f ys)
stand-map R S f make [] [] Ended = Ended
stand-map R S f make (x ∷ xs) [] h = elim h [ ]
stand-map R S f make (x ∷ xs) (y ∷ ys) (Stands _ _ _ _ r w) = Stands (f x) (f y) (map f xs) (map f ys) (make x y r) (stand-map R S f make xs ys w)
stand-map R S f make xs (y ∷ ys) (Lacks _ _ _ w) = Lacks (f y) (map f xs) (map f ys) (stand-map R S f make xs ys w)

stand-both : {A B : Type 0} (S : B → B → Type 0) (f : A → B) (xs ys us vs : List A)
    → StandFor S (map f xs) (map f ys) → StandFor S (map f us) (map f vs)
    → StandFor S (map f (xs ++ us)) (map f (ys ++ vs))
stand-both S f xs ys us vs a b =
    subst (λ bs. StandFor S bs (map f (ys ++ vs))) (sym (map-append f xs us))
    (subst (λ bs. StandFor S (map f xs ++ map f us) bs) (sym (map-append f ys vs)) (stand-append S (map f xs) (map f ys) (map f us) (map f vs) a b))

stand-at : (xs ys : List Held) (n : ℕ) (x : Held) → StandFor IsLoweredHeld xs ys → frame_at xs n ≡ Some x
    → (m : ℕ) × (y : Held) × (frame_at ys m ≡ Some y) × IsLoweredHeld x y
stand-at xs ys n x w e = by_test (n == 0)
    (λ y. absurd (cc (sym (cond-true _ _ _ y) ∙ e)))
    (λ o. let r = stand-get IsLoweredHeld xs ys (n - 1) x w (sym (cond-false _ _ _ o) ∙ e) in
    let m = numbered ys r.1 (contains-at ys r.0 r.1 r.2) in
    (m.0, r.1, m.1, r.3))

-- ---- octets that were lowered

starting-twice : (starting hops a b : ℕ) → a ≤ hops → b ≤ a → (starting - (hops - a)) - (a - b) ≡ starting - (hops - b)
starting-twice starting hops a b p q = omega (arith, p, q)

lowered-twice : (a b : ℕ) (d e f : List ℕ) → IsLowered a d e → IsLowered b e f → IsLowered b d f
lowered-twice a b d e f x y =
    let v : Message = x.message in
    let same : y.message ≡ with_fewer_hops a v = same_Some y.message (with_fewer_hops a v) (sym y.read ∙ x.is) in
    let less : b ≤ a = subst (λ (m : Message). b ≤ m.hops) same y.fewer in
    record {
      message = v;
      read = x.read;
      fewer = omega (arith, less, x.fewer);
      is = y.is ∙ ap (λ (m : Message). Some (with_fewer_hops b m)) same
          ∙ ap (λ n. Some (record v { starting_hops = n; hops = b })) (starting-twice v.starting_hops v.hops a b x.fewer less);
    }

held-self : (x : Held) → IsLoweredHeld x x
held-self x = record { end = refl; origin = refl; octets = inl refl }

held-lowered : (l h : Held) (octets : List ℕ) → IsLoweredHeld l h → (most : ℕ) × IsLowered most l.octets octets
    → IsLoweredHeld (record l { octets = octets }) h
held-lowered l h octets r low = record {
  end = r.end;
  origin = r.origin;
  octets = ⊎_elim
      (λ (q : l.octets ≡ h.octets). inr (low.0, subst (λ d. IsLowered low.0 d octets) q low.1))
      (λ (x : (most : ℕ) × IsLowered most h.octets l.octets). inr (low.0, lowered-twice x.0 low.0 h.octets l.octets octets x.1 low.1))
      r.octets;
}

-- ---- a session hears the same

reason-alike : (s : SessionValue) (most : ℕ) (v : Message) → reason_of s (with_fewer_hops most v) ≡ reason_of s v
unfolding reason_of
reason-alike s most v = refl

answer-alike : (o : Option Reason) (s : SessionValue) (most : ℕ) (v : Message) → answer_by o s (with_fewer_hops most v) ≡ answer_by o s v
answer-alike None s most v = refl
answer-alike (Some reason) s most v = refl

received-lowered : (s : SessionValue) (most : ℕ) (d l : List ℕ) → IsLowered most d l → received_of s l ≡ received_of s d
received-lowered s most d l h =
    let v : Message = h.message in
    ap (answer_to s) (reading-message_of l (with_fewer_hops most v) h.is)
    ∙ ap (λ o. answer_by o s (with_fewer_hops most v)) (reason-alike s most v) ∙ answer-alike (reason_of s v) s most v
    ∙ sym (ap (answer_to s) (reading-message_of d v h.read))

received-alike : (s : SessionValue) (l h : Held) → IsLoweredHeld l h → received_of s l.octets ≡ received_of s h.octets
received-alike s l h r = ⊎_elim
    (λ (q : l.octets ≡ h.octets). ap (received_of s) q)
    (λ (x : (most : ℕ) × IsLowered most h.octets l.octets). received-lowered s x.0 h.octets l.octets x.1)
    r.octets

-- ---- a clock makes the same of it, but for hops

-- as many frames, at the same ends
posted-lowered : (ends : List End) (o d : List ℕ) (q p : Origin) (first forwardings : ℕ) → q ≡ p → (most : ℕ) × IsLowered most d o
    → StandFor IsLoweredHeld (map held (frames_to ends o q first forwardings)) (map held (frames_to ends d p first forwardings))
posted-lowered [] o d q p first forwardings same low = Ended
posted-lowered (e ∷ ends) o d q p first forwardings same low =
    Stands (record { end = e; octets = o; origin = q }) (record { end = e; octets = d; origin = p })
    (map held (frames_to ends o q first forwardings)) (map held (frames_to ends d p first forwardings))
    (record { end = refl; origin = same; octets = inr low }) (posted-lowered ends o d q p first forwardings same low)

passed-lowered : (N : Network) (c most : ℕ) (f g : Frame) (ms ls : List (ℕ × List ℕ)) → f.origin ≡ g.origin → f.first_hops ≡ g.first_hops → f.forwardings ≡ g.forwardings
    → AreLowered most ms ls
    → StandFor IsLoweredHeld (map held (forwarded_frames N c f ls)) (map held (forwarded_frames N c g ms))
passed-lowered N c most f g [] [] same first forwardings a = Ended
passed-lowered N c most f g [] (l ∷ ls) same first forwardings a = absurd a
passed-lowered N c most f g (m ∷ ms) [] same first forwardings a = absurd a
passed-lowered N c most f g (m ∷ ms) (l ∷ ls) same first forwardings a =
    let ends = peers N.links (AtPort c m.0) in
    let here : StandFor IsLoweredHeld (map held (frames_to (peers N.links (AtPort c l.0)) l.1 f.origin f.first_hops (f.forwardings + 1)))
    (map held (frames_to ends m.1 g.origin g.first_hops (g.forwardings + 1))) =
    subst (λ port. StandFor IsLoweredHeld (map held (frames_to (peers N.links (AtPort c port)) l.1 f.origin f.first_hops (f.forwardings + 1)))
    (map held (frames_to ends m.1 g.origin g.first_hops (g.forwardings + 1)))) (sym a.0)
    (subst (λ n. StandFor IsLoweredHeld (map held (frames_to ends l.1 f.origin n (f.forwardings + 1))) (map held (frames_to ends m.1 g.origin g.first_hops (g.forwardings + 1)))) (sym first)
    (subst (λ n. StandFor IsLoweredHeld (map held (frames_to ends l.1 f.origin g.first_hops (n + 1))) (map held (frames_to ends m.1 g.origin g.first_hops (g.forwardings + 1)))) (sym forwardings)
    (posted-lowered ends l.1 m.1 f.origin g.origin g.first_hops (g.forwardings + 1) same (most, a.1)))) in
    stand-both IsLoweredHeld held (frames_to (peers N.links (AtPort c l.0)) l.1 f.origin f.first_hops (f.forwardings + 1))
    (frames_to ends m.1 g.origin g.first_hops (g.forwardings + 1)) (forwarded_frames N c f ls) (forwarded_frames N c g ms)
    here (passed-lowered N c most f g ms ls same first forwardings a.2)

origin-by : (o : Origin) (b : Bool) (x : RequestCopy) → answer_origin o (if b then Some x else None) ≡ (if b then reply_origin o else Neither)
origin-by o true x = refl
origin-by o false x = refl

module _ (N : Network) (st : State) (c p most : ℕ) (l h : Held) (same : l.origin ≡ h.origin) (low : IsLowered most h.octets l.octets) where
  answers-alike : answer_origin l.origin (copy_of (N.clock c) (length st.sets.ports) (delivery p (seen l)))
      ≡ answer_origin h.origin (copy_of (N.clock c) (length st.sets.ports) (delivery p (seen h)))
  answers-alike =
      let v : Message = low.message in
      let less : Message = with_fewer_hops most v in
      let k = length st.sets.ports in
      let is = is_copy (N.clock c) k v in
      ap (λ o. answer_origin l.origin (copy_by (N.clock c) k (delivery p (seen l)) o)) low.is ∙ origin-by l.origin is (copy_from (delivery p (seen l)) less)
      ∙ ap (λ o. if is then reply_origin o else Neither) same
      ∙ sym (ap (λ o. answer_origin h.origin (copy_by (N.clock c) k (delivery p (seen h)) o)) low.read ∙ origin-by h.origin is (copy_from (delivery p (seen h)) v))

  forwards-alike : StandFor IsLoweredHeld (map held (forwarded_frames N c (seen l) (turn (N.clock c) st p l.octets).forwards))
      (map held (forwarded_frames N c (seen h) (turn (N.clock c) st p h.octets).forwards))
  forwards-alike = by_most most low
    where
      by_most : (most : ℕ) → IsLowered most h.octets l.octets
          → StandFor IsLoweredHeld (map held (forwarded_frames N c (seen l) (turn (N.clock c) st p l.octets).forwards))
          (map held (forwarded_frames N c (seen h) (turn (N.clock c) st p h.octets).forwards))
      by_most zero none =
          subst (λ ms. StandFor IsLoweredHeld (map held (forwarded_frames N c (seen l) ms)) (map held (forwarded_frames N c (seen h) (turn (N.clock c) st p h.octets).forwards)))
          (sym (none-passed (N.clock c) st p h.octets l.octets none)) (stand-none IsLoweredHeld _)
      by_most (suc n) some =
          passed-lowered N c (suc n - 1) (seen l) (seen h) (turn (N.clock c) st p h.octets).forwards (turn (N.clock c) st p l.octets).forwards same refl refl
          (passed-alike (N.clock c) st p (suc n) h.octets l.octets some (omega arith))

  made-lowered : StandFor IsLoweredHeld (map held (turn_frames N st c p (seen l))) (map held (turn_frames N st c p (seen h)))
  made-lowered =
      let origin-l = answer_origin l.origin (copy_of (N.clock c) (length st.sets.ports) (delivery p (seen l))) in
      let origin-h = answer_origin h.origin (copy_of (N.clock c) (length st.sets.ports) (delivery p (seen h))) in
      let replies-l = (turn (N.clock c) st p l.octets).replies in
      let replies-h = (turn (N.clock c) st p h.octets).replies in
      stand-both IsLoweredHeld held (forwarded_frames N c (seen l) (turn (N.clock c) st p l.octets).forwards) (forwarded_frames N c (seen h) (turn (N.clock c) st p h.octets).forwards)
      (reply_frames N c origin-l replies-l) (reply_frames N c origin-h replies-h) forwards-alike
      (subst (λ o. StandFor IsLoweredHeld (map held (reply_frames N c o replies-l)) (map held (reply_frames N c origin-h replies-h))) (sym answers-alike)
      (subst (λ ms. StandFor IsLoweredHeld (map held (reply_frames N c origin-h ms)) (map held (reply_frames N c origin-h replies-h)))
      (sym (replies-alike (N.clock c) st p most h.octets l.octets low)) (stand-self IsLoweredHeld held-self _)))

-- what a clock makes of a frame here and of the one there
record TurnsAlike (N : Network) (st : State) (c p : ℕ) (l h : Held) : Type 0 where
  pub verdict : (turn (N.clock c) st p l.octets).verdict ≡ (turn (N.clock c) st p h.octets).verdict
  pub next : (turn (N.clock c) st p l.octets).next ≡ (turn (N.clock c) st p h.octets).next
  pub made : StandFor IsLoweredHeld (map held (turn_frames N st c p (seen l))) (map held (turn_frames N st c p (seen h)))

turns-same : (N : Network) (st : State) (c p : ℕ) (h : Held) → TurnsAlike N st c p h h
turns-same N st c p h = record { verdict = refl; next = refl; made = stand-self IsLoweredHeld held-self _ }

turns-alike : (N : Network) (st : State) (c p : ℕ) (l h : Held) → IsLoweredHeld l h → TurnsAlike N st c p l h
turns-alike N st c p l h r = ⊎_elim
    (λ (q : l.octets ≡ h.octets).
    let same : l ≡ h = λ i. record { end = r.end i; octets = q i; origin = r.origin i } in
    subst (λ (x : Held). TurnsAlike N st c p x h) (sym same) (turns-same N st c p h))
    (λ (x : (most : ℕ) × IsLowered most h.octets l.octets). record {
      verdict = verdict-alike (N.clock c) st p x.0 h.octets l.octets x.1;
      next = next-alike (N.clock c) st p x.0 h.octets l.octets x.1;
      made = made-lowered N st c p x.0 l h r.origin x.1;
    })
    r.octets

-- A network in which nobody lowers hops goes on beside one in which hosts do.

-- the same clocks, sessions and reports, with other frames
abbrev with_held : RestartingNetwork → List Held → List (ℕ × Held) → RestartingNetwork
with_held k fs ws = record k { frames = fs; waiting = ws }

-- a session is another
abbrev other-session : RestartingNetwork → ℕ → SessionValue → Happened
other-session k s value = record { deed = Done; network = with_session_value (running k) s value }

refused-alike : (o p : Option Refusal) (x y : Happened) → result_err (unless_refused o (unless_refused p (Ok x))) ≡ result_err (unless_refused o (unless_refused p (Ok y)))
refused-alike None None x y = refl
refused-alike None (Some reason) x y = refl
refused-alike (Some reason) p x y = refl

module _ (N : Network) (k : RestartingNetwork) (fs : List Held) (ws : List (ℕ × Held)) (hf : StandFor IsLoweredHeld fs k.frames) (hw : StandFor IsLoweredWaiting ws k.waiting) where
  abbrev low : RestartingNetwork
  low = with_held k fs ws

  pub beside-now : IsLoweredNetwork low k
  beside-now = record { same = refl; frames = hf; waiting = hw }

  -- ---- what comes in

  turned-beside : (c : ℕ) (x : Stored State) (ml mh : List Held) (b : Bool) → StandFor IsLoweredHeld ml mh
      → IsLoweredNetwork (sent_or_waiting b (record low { clock = with_place k.clock c x }) c ml) (sent_or_waiting b (record k { clock = with_place k.clock c x }) c mh)
  turned-beside c x ml mh true m = record {
    same = refl;
    frames = hf;
    waiting = stand-append IsLoweredWaiting ws k.waiting _ _ hw (stand-map IsLoweredHeld IsLoweredWaiting (λ h. (c, h)) (λ y z r. (refl, r)) ml mh m);
  }
  turned-beside c x ml mh false m = record { same = refl; frames = stand-append IsLoweredHeld fs k.frames ml mh hf m; waiting = hw }

  takes-beside : (c p : ℕ) (l h : Held) → TurnsAlike N (k.clock c).live c p l h
      → IsLoweredNetwork (takes_turn N low c p (seen l)) (takes_turn N k c p (seen h))
  takes-beside c p l h t =
      let st : State = (k.clock c).live in
      let xl : Stored State = after_verdict (turn (N.clock c) st p l.octets).verdict (k.clock c) (turn (N.clock c) st p l.octets).next in
      let xh : Stored State = after_verdict (turn (N.clock c) st p h.octets).verdict (k.clock c) (turn (N.clock c) st p h.octets).next in
      let same : xl ≡ xh = λ i. after_verdict (t.verdict i) (k.clock c) (t.next i) in
      let ml : List Held = map held (turn_frames N st c p (seen l)) in
      let mh : List Held = map held (turn_frames N st c p (seen h)) in
      subst (λ (x : Stored State). IsLoweredNetwork (turned low c x ml) (turned k c xh mh)) (sym same) (turned-beside c xh ml mh xh.is_unsaved t.made)

  same-beside : (c p : ℕ) (f : Frame) → IsLoweredNetwork (takes_turn N low c p f) (takes_turn N k c p f)
  same-beside c p f =
      let t = turn (N.clock c) (k.clock c).live p f.octets in
      let x : Stored State = after_verdict t.verdict (k.clock c) t.next in
      let made : List Held = map held (turn_frames N (k.clock c).live c p f) in
      turned-beside c x made made x.is_unsaved (stand-self IsLoweredHeld held-self made)

  hears-beside : (s : ℕ) (x : Received) → IsLoweredNetwork (hears low s x) (hears k s x)
  hears-beside s (received.Answered report) = record { same = refl; frames = hf; waiting = hw }
  hears-beside s (received.Ignored reason) = beside-now

  comes-beside : (l h : Held) (e : End) → IsLoweredHeld l h → IsLoweredNetwork (comes_in N low l e) (comes_in N k h e)
  comes-beside l h (AtPort c p) r = takes-beside c p l h (turns-alike N (k.clock c).live c p l h r)
  comes-beside l h (AtSession s) r =
      let value : SessionValue = (k.session s).live.session in
      subst (λ (x : Received). IsLoweredNetwork (hears low s x) (hears k s (received_of value h.octets))) (sym (received-alike value l h r)) (hears-beside s (received_of value h.octets))

  -- ---- what the other does

  pub stays : (now : RestartingNetwork) (possible timely : Type 0) → IsLoweredNetwork now k → GoesBeside N k 1 now possible timely
  stays now possible timely h = record { incidents = []; at_most = omega arith; beside = h; are_possible = λ p. tt; are_timely = λ t. tt }

  pub goes : (now : RestartingNetwork) (possible timely : Type 0) (i : Incident) → IsLoweredNetwork now (incident N k i) → (possible → IsPossibleAct i) → (timely → IsTimely N k i)
      → GoesBeside N k 1 now possible timely
  goes now possible timely i h p t = record { incidents = i ∷ []; at_most = omega arith; beside = h; are_possible = λ x. (p x, tt); are_timely = λ x. (t x, tt) }

  -- an event happens there that is not refused
  pub event-goes : (now : RestartingNetwork) (possible timely : Type 0) (e : Event) → refused N k e ≡ None → IsLoweredNetwork now (happens N k e)
      → (possible → IsPossibleAct (Happens e)) → (timely → is_late_event k e ≡ false)
      → GoesBeside N k 1 now possible timely
  event-goes now possible timely e none h p t = goes now possible timely (Happens e)
      (subst (λ (o : Option Refusal). IsLoweredNetwork now (unless o k (happens N k e))) (sym none) h) p (λ x none'. t x)

  -- ---- a delivery

  room-sent : no_room (held_frames k) ≡ None → no_room k.frames ≡ None
  room-sent room = fewer k.frames (held_frames k) (omega (arith, length-append k.frames (map (λ (w : ℕ × Held). w.1) k.waiting))) room

  -- it is refused for no other reason than its network's, or for want of room
  not-refused : (e : Event) (x : Happened) → network_event N (running k) e ≡ Ok x → no_room_for k e ≡ None → refused N k e ≡ None
  not-refused e x ok room = ap (λ (y : Result Happened Refusal). option_or (result_err y) (no_room_for k e)) ok ∙ room

  delivers-there : (m : ℕ) (h : Held) → frame_at k.frames m ≡ Some h → no_room (held_frames k) ≡ None → refused N k (Deliver m) ≡ None
  delivers-there m h at room =
      not-refused (Deliver m) (reaches N (running k) h h.end) (delivers-to N (running k) m h h.end at refl (room-sent room)) room

  -- a frame comes in here, and the one that it stands for there
  pub came : (l h : Held) (m : ℕ) (possible timely : Type 0) → IsLoweredHeld l h → frame_at k.frames m ≡ Some h → no_room (held_frames k) ≡ None
      → (timely → is_late_in k l.origin ≡ false)
      → GoesBeside N k 1 (comes_in N low l l.end) possible timely
  came l h m possible timely r at room late = event-goes (comes_in N low l l.end) possible timely (Deliver m) (delivers-there m h at room)
      (subst (λ (o : Option Held). IsLoweredNetwork (comes_in N low l l.end) (delivered N k o)) (sym at)
      (subst (λ (e : End). IsLoweredNetwork (comes_in N low l e) (comes_in N k h h.end)) (sym r.end) (comes-beside l h h.end r)))
      (λ p. tt)
      (λ t. ap (is_late_held k) at ∙ ap (is_late_in k) (sym r.origin) ∙ late t)

  pub came-if : (n : ℕ) (q : Option Held) (possible timely : Type 0) → frame_at fs n ≡ q → no_room (held_frames k) ≡ None
      → (timely → is_late_held low q ≡ false)
      → GoesBeside N k 1 (delivered N low q) possible timely
  came-if n None possible timely e room late = stays low possible timely beside-now
  came-if n (Some l) possible timely e room late = let at = stand-at fs k.frames n l hf e in came l at.1 at.0 possible timely at.3 at.2 room late

  pub lowered-if : (n : ℕ) (octets : List ℕ) (q : Option Held) (possible timely : Type 0) → frame_at fs n ≡ q → no_room (held_frames k) ≡ None
      → ((h : Held) → q ≡ Some h → (most : ℕ) × IsLowered most h.octets octets)
      → (timely → is_late_held low q ≡ false)
      → GoesBeside N k 1 (delivered N low (with_octets octets q)) possible timely
  lowered-if n octets None possible timely e room of late = stays low possible timely beside-now
  lowered-if n octets (Some l) possible timely e room of late =
      let at = stand-at fs k.frames n l hf e in
      came (record l { octets = octets }) at.1 at.0 possible timely (held-lowered l at.1 octets at.3 (of l refl)) at.2 room late

  -- ---- a frame is replayed

  replays-if : (n : ℕ) (end : End) (q : Option Held) (possible timely : Type 0) → frame_at fs n ≡ q → no_room (held_frames k) ≡ None
      → result_err (replays N (running low) q end) ≡ None
      → GoesBeside N k 1 (replayed low q end) possible timely
  unfolding network_event
  replays-if n end None possible timely e room none = stays low possible timely beside-now
  replays-if n end (Some l) possible timely e room none =
      let at = stand-at fs k.frames n l hf e in
      let r = at.3 in
      let exists : no_end N end ≡ None = (clear (no_end N end) _ none).0 in
      let fits : no_room k.frames ≡ None = room-sent room in
      let there : Happened = record { deed = Done; network = record (running k) { frames = k.frames ++ record (at.1) { end = end } ∷ [] } } in
      let ok : network_event N (running k) (Replay at.0 end) ≡ Ok there =
      ap (λ (o : Option Held). replays N (running k) o end) at.2 ∙ passes (no_end N end) _ exists ∙ passes (no_room k.frames) _ fits in
      event-goes (replayed low (Some l) end) possible timely (Replay at.0 end) (not-refused (Replay at.0 end) there ok room)
      (subst (λ (o : Option Held). IsLoweredNetwork (replayed low (Some l) end) (replayed k o end)) (sym at.2)
      (record {
        same = refl;
        frames = stand-append IsLoweredHeld fs k.frames _ _ hf (Stands (record l { end = end }) (record (at.1) { end = end }) [] [] (record { end = refl; origin = r.origin; octets = r.octets }) Ended);
        waiting = hw;
      }))
      (λ p. tt) (λ t. refl)

  -- ---- any event

  sends-beside : (s : ℕ) (b : Bool) → IsLoweredNetwork (sends b N low s) (sends b N k s)
  sends-beside s true = beside-now
  sends-beside s false = record { same = refl; frames = stand-append IsLoweredHeld fs k.frames _ _ hf (stand-self IsLoweredHeld held-self _); waiting = hw }

  event-beside : (e : Event) (possible timely : Type 0) → no_room (held_frames k) ≡ None → refused N low e ≡ None
      → (possible → IsPossibleAct (Happens e)) → (timely → is_late_event low e ≡ false)
      → GoesBeside N k 1 (happens N low e) possible timely
  unfolding network_event
  event-beside (Begin s a) possible timely room none p late =
      event-goes _ possible timely (Begin s a) (ap (λ (o : Option Refusal). option_or o None) (refused-alike (no_session N s) (option_map BeginRefused (begin_refusal (k.session s).live.session a)) (other-session k s (begun (k.session s).live.session (ask.request_of a))) (other-session low s (begun (k.session s).live.session (ask.request_of a)))) ∙ none)
      (record { same = refl; frames = hf; waiting = hw }) p (λ t. refl)
  event-beside (Resume s attempts) possible timely room none p late =
      event-goes _ possible timely (Resume s attempts) (ap (λ (o : Option Refusal). option_or o None) (refused-alike (no_session N s) (nothing_to_resume (k.session s).live.session) (other-session k s (resumed (k.session s).live.session attempts)) (other-session low s (resumed (k.session s).live.session attempts))) ∙ none)
      (record { same = refl; frames = hf; waiting = hw }) p (λ t. refl)
  event-beside (Retune s domain) possible timely room none p late =
      event-goes _ possible timely (Retune s domain) (ap (λ (o : Option Refusal). option_or o None) (refused-alike (no_session N s) None (other-session k s (retuned (k.session s).live.session domain)) (other-session low s (retuned (k.session s).live.session domain))) ∙ none)
      (record { same = refl; frames = hf; waiting = hw }) p (λ t. refl)
  event-beside (Send s) possible timely room none p late =
      let all = option_or-none _ (no_room (held_frames low)) none in
      let one = clear (no_session N s) _ all.0 in
      let two = clear (no_room fs) _ one.1 in
      let three = clear (option_map SendRefused (send_refusal (k.session s).live.session)) _ two.1 in
      let there : Happened = record { deed = Done; network = sends_in N (running k) s } in
      let ok : network_event N (running k) (Send s) ≡ Ok there =
      passes (no_session N s) _ one.0 ∙ passes (no_room k.frames) _ (room-sent room) ∙ passes (option_map SendRefused (send_refusal (k.session s).live.session)) _ three.0 in
      event-goes _ possible timely (Send s) (not-refused (Send s) there ok room) (sends-beside s (k.session s).is_unsaved) p (λ t. refl)
  event-beside (Deliver n) possible timely room none p late = came-if n (frame_at fs n) possible timely refl room late
  event-beside (Replay n end) possible timely room none p late =
      replays-if n end (frame_at fs n) possible timely refl room (option_or-none _ (no_room (held_frames low)) none).0
  event-beside (Stranger c port datagram) possible timely room none p late =
      let all = option_or-none _ (no_room (held_frames low)) none in
      let one = clear (no_port N c port) _ all.0 in
      let two = clear (forged N datagram) _ one.1 in
      let there : Happened = running_network.takes_turn N (running k) c port (strange_frame c port datagram) in
      let ok : network_event N (running k) (Stranger c port datagram) ≡ Ok there =
      passes (no_port N c port) _ one.0 ∙ passes (forged N datagram) _ two.0 ∙ passes (no_room k.frames) _ (room-sent room) in
      event-goes _ possible timely (Stranger c port datagram) (not-refused (Stranger c port datagram) there ok room) (same-beside c port (strange_frame c port datagram)) p (λ t. refl)

  -- ---- any incident

  elsewhere : (c : ℕ) → StandFor IsLoweredWaiting (waiting_elsewhere c ws) (waiting_elsewhere c k.waiting)
  elsewhere c = stand-filter IsLoweredWaiting (λ w. not (w.0 == c)) (λ x y r. ap (λ d. not (d == c)) r.0) ws k.waiting hw

  at-clock : (c : ℕ) → StandFor IsLoweredHeld (waiting_at c ws) (waiting_at c k.waiting)
  at-clock c = stand-map IsLoweredWaiting IsLoweredHeld (λ (w : ℕ × Held). w.1) (λ x y r. r.1) _ _
      (stand-filter IsLoweredWaiting (λ w. w.0 == c) (λ x y r. ap (λ d. d == c) r.0) ws k.waiting hw)

  let-go : (s : ℕ) (o : Option GiveUpRefusal) → IsLoweredNetwork (lets_go o low s) (lets_go o k s)
  let-go s None = record { same = refl; frames = hf; waiting = hw }
  let-go s (Some reason) = beside-now

  gives-up : (s : ℕ) (b : Bool) → IsLoweredNetwork (if b then lets_go (give_up_refusal (k.session s).live.session) low s else low) (if b then lets_go (give_up_refusal (k.session s).live.session) k s else k)
  gives-up s true = let-go s (give_up_refusal (k.session s).live.session)
  gives-up s false = beside-now

  observes : (b : Bool) (clock : ℕ → Stored State) → IsLoweredNetwork (if b then record low { clock = clock } else low) (if b then record k { clock = clock } else k)
  observes true clock = record { same = refl; frames = hf; waiting = hw }
  observes false clock = beside-now

  happens-beside : (e : Event) (o : Option Refusal) → no_room (held_frames k) ≡ None → refused N low e ≡ o
      → GoesBeside N k 1 (unless o low (happens N low e)) (IsPossibleAct (Happens e)) (IsTimely N low (Happens e))
  happens-beside e None room none = event-beside e (IsPossibleAct (Happens e)) (IsTimely N low (Happens e)) room none (λ p. p) (λ t. t none)
  happens-beside e (Some reason) room is = stays low _ _ beside-now

  incident-beside : (i : Incident) → no_room (held_frames k) ≡ None → GoesBeside N k 1 (incident N low i) (IsPossibleAct i) (IsTimely N low i)
  incident-beside (Happens e) room = happens-beside e (refused N low e) room refl
  incident-beside (SaveClock c) room = goes _ _ _ (SaveClock c)
      (record { same = refl; frames = stand-append IsLoweredHeld fs k.frames _ _ hf (at-clock c); waiting = elsewhere c }) (λ p. tt) (λ t. tt)
  incident-beside (SaveSession s) room = goes _ _ _ (SaveSession s) (record { same = refl; frames = hf; waiting = hw }) (λ p. tt) (λ t. tt)
  incident-beside (CrashClock c) room = goes _ _ _ (CrashClock c) (record { same = refl; frames = hf; waiting = elsewhere c }) (λ p. tt) (λ t. tt)
  incident-beside (CrashSession s) room = goes _ _ _ (CrashSession s) (record { same = refl; frames = hf; waiting = hw }) (λ p. tt) (λ t. tt)
  incident-beside (GivesUp s) room = goes _ _ _ (GivesUp s) (gives-up s (nat_lt s N.sessions)) (λ p. tt) (λ t. tt)
  incident-beside (Observes c o) room = goes _ _ _ (Observes c o)
      (observes (nat_lt c N.clocks) (with_place k.clock c (noted (k.clock c) (moved_state o.clock o.ports (k.clock c).live)))) (λ p. p) (λ t. tt)

  lowers-beside : (n : ℕ) (octets : List ℕ) (o : Option Refusal) → no_room (held_frames k) ≡ None → refused N low (Deliver n) ≡ o
      → IsOfHost low (Lowers n octets)
      → GoesBeside N k 1 (unless o low (delivered N low (with_octets octets (frame_at fs n)))) (IsPossibleOfHost (Lowers n octets)) (IsTimelyOfHost N low (Lowers n octets))
  lowers-beside n octets None room none of = lowered-if n octets (frame_at fs n) _ _ refl room of (λ t. t none)
  lowers-beside n octets (Some reason) room is of = stays low _ _ beside-now

  pub host-beside : (i : HostIncident) → no_room (held_frames k) ≡ None → IsOfHost low i
      → GoesBeside N k 1 (host_incident N low i) (IsPossibleOfHost i) (IsTimelyOfHost N low i)
  host-beside (AsEver i) room of = incident-beside i room
  host-beside (Lowers n octets) room of = lowers-beside n octets (refused N low (Deliver n)) room refl of

-- ---- the law

first-beside : (N : Network) → IsLoweredNetwork (initial_restarting N) (initial_restarting N)
first-beside N = record { same = refl; frames = Ended; waiting = Ended }

goes-beside : (N : Network) (low k : RestartingNetwork) (i : HostIncident) → IsLoweredNetwork low k → IsOfHost low i → no_room (held_frames k) ≡ None
    → GoesBeside N k 1 (host_incident N low i) (IsPossibleOfHost i) (IsTimelyOfHost N low i)
goes-beside N l k i h of room =
    subst (λ (x : RestartingNetwork). IsOfHost x i → GoesBeside N k 1 (host_incident N x i) (IsPossibleOfHost i) (IsTimelyOfHost N x i)) (sym h.same)
    (host-beside N k l.frames l.waiting h.frames h.waiting i room) of

all-beside : (N : Network) (low k : RestartingNetwork) (is : List HostIncident) → IsLoweredNetwork low k → AreOfHost N low is → HasRoomAfter N k (length is)
    → GoesBeside N k (length is) (after_host_incidents N low is) (AllByRecursion IsPossibleOfHost is) (AreTimelyOfHost N low is)
all-beside N l k [] h of room = record { incidents = []; at_most = omega arith; beside = h; are_possible = λ p. tt; are_timely = λ t. tt }
all-beside N l k (i ∷ is) h of room =
    let one = goes-beside N l k i h of.0 (room [] (omega arith)) in
    let next : RestartingNetwork = after_incidents N k one.incidents in
    let later : HasRoomAfter N next (length is) =
    (λ js fewer'. subst (λ (x : RestartingNetwork). no_room (held_frames x) ≡ None) (after-append N k one.incidents js)
    (room (one.incidents ++ js) (omega (arith, length-append one.incidents js, one.at_most, fewer')))) in
    let rest = all-beside N (host_incident N l i) next is one.beside of.1 later in
    record {
      incidents = one.incidents ++ rest.incidents;
      at_most = omega (arith, length-append one.incidents rest.incidents, one.at_most, rest.at_most);
      beside = subst (IsLoweredNetwork (after_host_incidents N (host_incident N l i) is)) (sym (after-append N k one.incidents rest.incidents)) rest.beside;
      are_possible = λ p. all_append IsPossibleAct one.incidents rest.incidents (one.are_possible p.0) (rest.are_possible p.1);
      are_timely = λ t. timely-append N k one.incidents rest.incidents (one.are_timely t.0) (rest.are_timely t.1);
    }

lowered-among-acts : (N : Network) (is : List Incident) (low k : RestartingNetwork) (a : ActsAsIfNever N is k) → IsLoweredNetwork low k
    → (record (running low) { frames = a.network.frames } ≡ a.network) × (low.told ≡ k.told)
lowered-among-acts N is l k a h =
    (ap (λ (x : RestartingNetwork). record (running x) { frames = a.network.frames }) h.same ∙ a.same, ap (λ (x : RestartingNetwork). x.told) h.same)

pub returns-clause-first : goal.returns-clause-first
returns-clause-first c = first-beside

pub returns-clause-goes_on : goal.returns-clause-goes_on
returns-clause-goes_on c = goes-beside

pub returns-clause-go_on : goal.returns-clause-go_on
returns-clause-go_on c = all-beside

pub returns-clause-among_acts : goal.returns-clause-among_acts
returns-clause-among_acts c = lowered-among-acts
