-- What a turn of any clock makes of a session whose own messages come in time, whatever comes late of others.
use Rattle.ptpm_network.proofs.Common.{expected_ports, names_port, arith, by_test, IsForOne, ◌≡◌, ℕ, ◌<◌, ◌≤◌, ◌==◌, inl, List, [], ◌++◌, length, Option, Some, None, Result, Ok, Err, true, false, refl, sym, ◌∙◌, ap, subst, ⊎_elim, cases_eq, cond-false, eq-eqb, eqb-true, eqb-false, true≢false, map, all_append, all_weaker, AllByRecursion, PortIdentity, Message, DecodeError, same_identity, message_of, reading, message_of-reading, RequestValue, Accepted, Delivery, RequestCopy, copy_of, delivers_copy, copy_parts, no_copy, is_copy, heard_of, request_of, Clock, State, turn, judged, Verdict, same_identity-true, InWindow, greatest, answer_origin, delivery, reply_origin, AtPort, HasEnd, IsNetwork, Network, manager, ports, Frame, Held, held, turn_frames, after_turn, Origin, RequestOf, ReplyTo, RunningNetwork, false_from_ne_true}
use Rattle.std.specs.FinMap.{get}
use Rattle.ptpm_agent.specs.CarriedOut.{carried_by, carried_of}
use Rattle.ptpm_agent.specs.declared.verdict.Verdict.TheVariants as verdicts
use Rattle.ptpm_agent.specs.Turn.{next_by}
use Rattle.ptpm_agent.proofs.AtMostOnce.{turn-no_copy}
use Rattle.ptpm_agent.proofs.Entries.{accepted_entry, get-insert_other}
use Rattle.ptpm_agent.proofs.Turns.{is_copy-new}
use Rattle.ptpm_network.specs.ByManager.{Account}
use Rattle.ptpm_network.specs.CarriedOut.{carried_at}
use Rattle.ptpm_network.specs.Invariant.{IsReplyFrame}
use Rattle.ptpm_network.specs.GivingUp.{carried_as}
use Rattle.ptpm_network.proofs.Accepting.{Keeps}
use Rattle.ptpm_network.proofs.Answering.{kept-frame, small}
use Rattle.ptpm_network.proofs.Arriving.{StaysOrGains, keeps-gained, kept-gained}
use Rattle.ptpm_network.proofs.Frames.{kept_says, request_says, same_read, IsTrue, is_copy_by}
use Rattle.ptpm_network.proofs.Honest.{IsHonest, turn_frames-all}
use Rattle.ptpm_network.proofs.Owned.{ComesOwn, IsLastOf, Replied, accepted_after, does, turns_own, IsHeld, IsOwnFrame, IsSaid, said-passed, said-stays}
use Rattle.ptpm_network.proofs.Messages.{answered as reply-answers, for_one-there, once}
use Rattle.ptpm_network.proofs.Lists.{all_of}

-- ---- a turn that is no turn on the session's own copy

carried-not_new : (w : Verdict) (v : Message) → (w ≡ verdicts.AnsweredNew → ⊥) → carried_by w v ≡ []
carried-not_new verdicts.AnsweredNew v other = absurd (other refl)
carried-not_new _ v other = refl

carried-none : (c : Clock) (s : State) (x : Delivery) (r : Result Message DecodeError)
    → reading x.datagram ≡ r → copy_of c (length s.sets.ports) x ≡ None
    → carried_of c s r ≡ []
carried-none c s x (Err cause) e none = refl
carried-none c s x (Ok v) e none =
    carried-not_new (judged c s v) v
    (λ (new : judged c s v ≡ verdicts.AnsweredNew). true≢false (sym (is_copy-new c s v new) ∙ no_copy c (length s.sets.ports) x v none (message_of-reading x.datagram v e)))

carried_as-others : (j : ℕ) (m : PortIdentity) (c : Clock) (s : State) (v : Message) (w : Verdict) (es : List Accepted)
    → same_identity m v.source ≡ false
    → carried_as j m c s (carried_by w v) es ≡ es
carried_as-others j m c s v verdicts.AnsweredNew es other = cond-false _ _ _ other
carried_as-others j m c s v _ es other = refl

entries-others : (m : PortIdentity) (c : Clock) (s : State) (v : Message) (w : Verdict)
    → same_identity m v.source ≡ false
    → get (next_by w c s v).entries m ≡ get s.entries m
entries-others m c s v verdicts.AnsweredNew other = get-insert_other s.entries v.source (accepted_entry c s v) m other
entries-others m c s v _ other = refl

-- ---- the session's target takes a turn

-- the account of a session, with this accepted
abbrev pub with_accepted : Account → List Accepted → Account
with_accepted a es = record { begun = a.begun; accepted = es }

-- What the turn is given. A copy of the session's request k is in the clock's window. If it is new, it is accepted under
-- the index j.
pub record IsGiven (m : PortIdentity) (a : Account) (k j : ℕ) : Type 0 where
  pub window : k ≤ length a.begun → InWindow (greatest m a.accepted) k
  pub index : k ≤ length a.begun → greatest m a.accepted < k → j ≡ k

-- and what it leaves: at most one more of the session's requests is accepted
pub record HeldAfter (N : Network) (s : ℕ) (clock : State) (frames : List Held) (a : Account) (new : List Accepted) : Type 0 where
  pub gains : StaysOrGains (manager N s) a.begun new a.accepted
  pub held : IsHeld N s clock frames (with_accepted a new)

-- the session's frames, once a clock took its turn at a frame
frames-after : (N : Network) (s : ℕ) (b : Account) (clock : State) (d port : ℕ) (f : Frame) (frames : List Held)
    → IsNetwork N → s < N.sessions → Keeps (manager N s) (expected_ports N s) b.begun b.accepted
    → AllByRecursion (IsOwnFrame N s b) frames → IsSaid N s b f.octets f.origin
    → AllByRecursion (λ (x : ℕ × List ℕ). IsSaid N s b x.1 (answer_origin f.origin (copy_of (N.clock d) (length clock.sets.ports) (delivery port f)))) (turn (N.clock d) clock port f.octets).replies
    → AllByRecursion (IsOwnFrame N s b) (frames ++ map held (turn_frames N clock d port f))
frames-after N s b clock d port f frames n place keeps old said replied =
    all_append (IsOwnFrame N s b) frames _ old
    (turn_frames-all (IsOwnFrame N s b) N clock d port f n
    (λ x p e he. subst (λ octets. IsSaid N s b octets f.origin) (sym p.octets) (said-passed N s b f.octets f.origin n place keeps said))
    (all_weaker (λ (x : ℕ × List ℕ). IsSaid N s b x.1 (answer_origin f.origin (copy_of (N.clock d) (length clock.sets.ports) (delivery port f)))) _ (λ x i e he. i) _ replied))

module _ (N : Network) (n : IsNetwork N) (s : ℕ) (place : s < N.sessions) (r : RunningNetwork) (h : IsHonest N r) (a : Account) (at : IsHeld N s (r.clock (N.session s).target) r.frames a) (port : ℕ) (f : Frame) (true' : IsTrue N f.octets f.origin) (said : IsSaid N s a f.octets f.origin) where
  -- no reply of another clock, or to a copy of another session, is to the session
  replies-elsewhere : (d : ℕ) (b : Account) (k : Option RequestCopy)
      → d < N.clocks → copy_of (N.clock d) (length (r.clock d).sets.ports) (delivery port f) ≡ k
      → ((t j : ℕ) → f.origin ≡ RequestOf t j → (N.session t).target ≡ d → t ≡ s → ⊥)
      → AllByRecursion (λ (x : ℕ × List ℕ). IsSaid N s b x.1 (answer_origin f.origin k)) (turn (N.clock d) (r.clock d) port f.octets).replies
  replies-elsewhere d b None there e none = all_of _ (λ x. tt) _
  replies-elsewhere d b (Some k) there e none =
      let c = delivers_copy (N.clock d) (length (r.clock d).sets.ports) (delivery port f) k e in
      let by = is_copy_by N d (length (r.clock d).sets.ports) f.origin c.message n there (true' c.message c.read).1 c.passes in
      subst (λ (o : Origin). AllByRecursion (λ (x : ℕ × List ℕ). IsSaid N s b x.1 (reply_origin o)) (turn (N.clock d) (r.clock d) port f.octets).replies) (sym by.origin)
      (all_of _ (λ x ts. absurd (none by.session by.k by.origin by.target ts)) _)

  -- another clock takes its turn
  held-elsewhere : (d : ℕ) → HasEnd N (AtPort d port) → (N.session s).target == d ≡ false
      → HeldAfter N s (r.clock (N.session s).target) (r.frames ++ map held (turn_frames N (r.clock d) d port f)) a a.accepted
  held-elsewhere d end other = record {
    gains = inl refl;
    held = record {
      keeps = at.keeps;
      last = at.last;
      frames_say = frames-after N s a (r.clock d) d port f r.frames n place at.keeps at.frames_say said
          (replies-elsewhere d a (copy_of (N.clock d) (length (r.clock d).sets.ports) (delivery port f)) end.0 refl
          (λ t j o q ts. grind (arith, eqb-false)));
    };
  }

  -- ---- the target takes its turn

  held-with : HasEnd N (AtPort (N.session s).target port)
      → (new : List Accepted) → StaysOrGains (manager N s) a.begun new a.accepted
      → IsLastOf (manager N s) (N.session s).setup.first new (get (turn (N.clock (N.session s).target) (r.clock (N.session s).target) port f.octets).next.entries (manager N s))
      → (k : Option RequestCopy) → copy_of (N.clock (N.session s).target) (length (r.clock (N.session s).target).sets.ports) (delivery port f) ≡ k
      → (Keeps (manager N s) (expected_ports N s) a.begun new
      → AllByRecursion (λ (x : ℕ × List ℕ). IsSaid N s (with_accepted a new) x.1 (answer_origin f.origin k)) (turn (N.clock (N.session s).target) (r.clock (N.session s).target) port f.octets).replies)
      → HeldAfter N s (turn (N.clock (N.session s).target) (r.clock (N.session s).target) port f.octets).next
      (r.frames ++ map held (turn_frames N (r.clock (N.session s).target) (N.session s).target port f)) a new
  held-with end new gains last k e replied =
      let c = (N.session s).target in
      let keeps = keeps-gained (manager N s) (expected_ports N s) a.begun new a.accepted gains at.keeps in
      let kept = kept-gained (manager N s) a.begun new a.accepted gains in
      let stays : (octets : List ℕ) (o : Origin) → IsSaid N s a octets o → IsSaid N s (with_accepted a new) octets o = grind (arith, said-stays) in
      record {
        gains = gains;
        held = record {
          keeps = keeps;
          last = last;
          frames_say = frames-after N s (with_accepted a new) (r.clock c) c port f r.frames n place keeps
              (all_weaker (IsOwnFrame N s a) (IsOwnFrame N s (with_accepted a new)) (λ x i. stays x.octets x.origin i) r.frames at.frames_say)
              (stays f.octets f.origin said)
              (subst (λ (o : Option RequestCopy). AllByRecursion (λ (x : ℕ × List ℕ). IsSaid N s (with_accepted a new) x.1 (answer_origin f.origin o)) (turn (N.clock c) (r.clock c) port f.octets).replies) (sym e) (replied keeps));
        };
      }

  -- nothing of the session changes
  last-kept : (j : ℕ) → accepted_after j (manager N s) (N.clock (N.session s).target) (r.clock (N.session s).target) f.octets a.accepted ≡ a.accepted
      → get (turn (N.clock (N.session s).target) (r.clock (N.session s).target) port f.octets).next.entries (manager N s) ≡ get (r.clock (N.session s).target).entries (manager N s)
      → IsLastOf (manager N s) (N.session s).setup.first (accepted_after j (manager N s) (N.clock (N.session s).target) (r.clock (N.session s).target) f.octets a.accepted)
      (get (turn (N.clock (N.session s).target) (r.clock (N.session s).target) port f.octets).next.entries (manager N s))
  last-kept j same entries = grind (arith, IsLastOf)

  -- the session's own copy comes in at its target
  pub comes_own : (v : Message) (k j : ℕ) → f.origin ≡ RequestOf s k → IsGiven (manager N s) a k j
      → message_of f.octets ≡ Some v → is_copy (N.clock (N.session s).target) (length (r.clock (N.session s).target).sets.ports) v ≡ true
      → ComesOwn (manager N s) (N.session s).setup.first (expected_ports N s) (N.clock (N.session s).target) (r.clock (N.session s).target) v k j a.accepted a.begun
  comes_own v k j origin given read passes =
      let c = (N.session s).target in
      let clock = h.clocks c (n.are_sessions s place).exists in
      let says = request_says N s k a.accepted a.begun n place at.keeps f.octets (subst (IsSaid N s a f.octets) origin said refl) in
      let same = same_read f.octets v _ says.message read in
      let request : request_of v ≡ says.request = ap request_of same in
      let parts = copy_parts (N.clock c) (length (r.clock c).sets.ports) v passes in
      record {
        parts = parts;
        source = ap (λ (u : Message). u.source) same;
        positive = says.positive;
        within = says.within;
        number = ap (λ (u : Message). u.number) same;
        begun_as = says.begun_as ∙ ap Some (sym request);
        window = given.window says.within;
        index = given.index says.within;
        keeps = at.keeps;
        last = at.last;
        answers = grind (arith, reply-answers);
        one = once (request_of v) ((N.clock c).rights v.source) (ports N c) (r.clock c).sets clock.sets
            (for_one-there (expected_ports N s) (ports N c) (request_of v) (subst (λ (q : RequestValue). IsForOne (expected_ports N s) q) (sym request) says.asked.one)
            (n.are_sessions s place).few_ports (subst (λ p. names_port p v.target.port ≡ true) clock.sets.ports_are parts.port));
      }

  held-here : HasEnd N (AtPort (N.session s).target port)
      → (j : ℕ) → ((k : ℕ) → f.origin ≡ RequestOf s k → IsGiven (manager N s) a k j)
      → (k : Option RequestCopy)
      → copy_of (N.clock (N.session s).target) (length (r.clock (N.session s).target).sets.ports) (delivery port f) ≡ k
      → HeldAfter N s (turn (N.clock (N.session s).target) (r.clock (N.session s).target) port f.octets).next
      (r.frames ++ map held (turn_frames N (r.clock (N.session s).target) (N.session s).target port f)) a
      (accepted_after j (manager N s) (N.clock (N.session s).target) (r.clock (N.session s).target) f.octets a.accepted)
  held-here end j given None e =
      let c = (N.session s).target in
      let new = accepted_after j (manager N s) (N.clock c) (r.clock c) f.octets a.accepted in
      let same : new ≡ a.accepted = ap (λ rs. carried_as j (manager N s) (N.clock c) (r.clock c) rs a.accepted) (carried-none (N.clock c) (r.clock c) (delivery port f) (reading f.octets) refl e) in
      held-with end new (inl same) (last-kept j same (ap (λ (x : State). get x.entries (manager N s)) (turn-no_copy (N.clock c) (r.clock c) (delivery port f) e)))
      None e (λ keeps. all_of _ (λ x. tt) _)
  held-here end j given (Some k) e =
      let c = (N.session s).target in
      let st = r.clock c in
      let new = accepted_after j (manager N s) (N.clock c) st f.octets a.accepted in
      let copy = delivers_copy (N.clock c) (length st.sets.ports) (delivery port f) k e in
      let v : Message = copy.message in
      let says = true' v copy.read in
      let by = is_copy_by N c (length st.sets.ports) f.origin v n end.0 says.1 copy.passes in
      let d = does (N.clock c) st port f.octets v copy.read in
      ⊎_elim
      (λ (ts : by.session ≡ s).
      let origin : f.origin ≡ RequestOf s by.k = by.origin ∙ ap (λ i. RequestOf i by.k) ts in
      let o = comes_own v by.k j origin (given by.k origin) copy.read copy.passes in
      let t = turns_own (manager N s) (N.session s).setup.first (expected_ports N s) (N.clock c) st port f.octets v by.k j a.accepted a.begun copy.read o in
      let P : ℕ × List ℕ → Type 0 = λ x. IsReplyFrame (N.session s).setup new by.k x.1 in
      held-with end new t.gains t.last (Some k) e
      (λ keeps.
      (subst (λ (z : Origin). AllByRecursion (λ (x : ℕ × List ℕ). IsSaid N s (with_accepted a new) x.1 (reply_origin z)) (turn (N.clock c) st port f.octets).replies) (sym origin)
      (all_weaker P (λ (x : ℕ × List ℕ). IsSaid N s (with_accepted a new) x.1 (ReplyTo s by.k)) (λ x i q. i) (turn (N.clock c) st port f.octets).replies
      (⊎_elim
      (λ (nil : (turn (N.clock c) st port f.octets).replies ≡ []). subst (AllByRecursion P) (sym nil) tt)
      (λ (told : Replied (manager N s) (N.clock c) st port f.octets v by.k new). subst (AllByRecursion P) (sym told.is)
      (kept-frame N s by.k port new (N.clock c).identity (heard_of v) told.entry (sym (n.are_sessions s place).target) o.positive told.kept
      (kept_says N s by.k new a.begun told.entry keeps o.positive told.kept).one o.source o.number (small port (ports N c) end.2 (n.are_clocks c end.0).few_ports)))
      t.replies)))))
      (λ (ne : by.session ≡ s → ⊥).
      let other : same_identity (manager N s) v.source ≡ false = grind (arith, false_from_ne_true, same_identity-true) in
      let same : new ≡ a.accepted = grind (arith, carried_as-others) in
      let entries = ap (λ (x : State). get x.entries (manager N s)) d.next ∙ entries-others (manager N s) (N.clock c) st v (judged (N.clock c) st v) other in
      held-with end new (inl same) (last-kept j same entries) (Some k) e
      (λ keeps.
      (replies-elsewhere c (with_accepted a new) (Some k) end.0 e
      (λ t i o q ts. grind arith))))
      (cases_eq by.session s)

  -- any clock takes its turn
  pub held-turned : (d j : ℕ) → HasEnd N (AtPort d port)
      → ((k : ℕ) → f.origin ≡ RequestOf s k → d ≡ (N.session s).target → IsGiven (manager N s) a k j)
      → HeldAfter N s ((after_turn N r d port f).clock (N.session s).target) (after_turn N r d port f).frames a
      (carried_as j (manager N s) (N.clock (N.session s).target) (r.clock (N.session s).target) (carried_at N r (N.session s).target (AtPort d port) f.octets) a.accepted)
  held-turned d j end given =
      let c = (N.session s).target in
      by_test (c == d)
      (λ y. let cd : c ≡ d = eqb-true c d y in
      rw (← cd, eq-eqb c c refl) (held-here (subst (λ i. HasEnd N (AtPort i port)) (sym cd) end) j (λ k o. given k o (sym cd)) (copy_of (N.clock c) (length (r.clock c).sets.ports) (delivery port f)) refl))
      (λ o. rw o (held-elsewhere d end o))
