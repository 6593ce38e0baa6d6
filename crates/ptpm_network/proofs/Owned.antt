-- A session whose own messages come in time: what it has, what its target keeps of it, and what its acts and what it hears make of it.
use Rattle.ptpm_network.proofs.Common.{Bool, inr, true≢false, ◌⊎◌, arith, ◌≡◌, ℕ, ◌-◌, ◌<◌, ◌≤◌, List, [], ◌∷◌, length, Option, Some, None, true, false, refl, sym, ◌∙◌, ap, subst, ⊎_elim, and_from, cond-true, eq-eqb, same_Some, slice_get, PortIdentity, Message, same_identity, message_of, reading-message_of, RequestValue, Entry, look_at, look_by, same_request, InWindow, reply_messages, Accepted, greatest, kept_reply, heard_of, request_of, Clock, State, turn, turn-message, judged, Verdict, reply_by, same_identity-refl, number_of, Answers, HasOneAnswer, expected_ports, ◌+◌, ◌++◌, eqb-true, eqb-false, get_append, all_weaker, AllByRecursion, canonical, reading, Report, received_of, IsAsked, IsInStep, request_message, with_less_hop, IsNetwork, Network, manager, Held, Origin, RequestOf, ReplyTo, Neither, SessionState, SessionValue, session_value, answered, begun, resumed, retuned, sent, is_waiting, le_trans}
use Rattle.std.specs.FinMap.{get}
use Rattle.std.proofs.lemmas.Bool.{cases_order}
use Rattle.std.proofs.Math.Nat.{ne_of_gt, ne_of_lt}
use Rattle.ptpm_table.specs.declared.serial.Serial.{Serial}
use Rattle.ptpm_table.specs.declared.serial.Serial.TheVariants.{Newer, Older, Same}
use Rattle.ptpm_table.specs.Serial.{order_of}
use Rattle.ptpm_table.proofs.SerialLaws.{order_of-same, order_of-newer, order_of-older}
use Rattle.ptpm_agent.specs.CarriedOut.{carried_by, carried_in}
use Rattle.ptpm_agent.specs.Turn.{new_reply, next_by}
use Rattle.ptpm_agent.proofs.Entries.{accepted_at, accepted_entry, accepted_kept}
use Rattle.ptpm_agent.proofs.AtMostOnce.{serial_of-number_of}
use Rattle.ptpm_agent.proofs.Turns.{CopyParts, judged-copy}
use Rattle.ptpm_network.specs.GivingUp.{carried_as}
use Rattle.ptpm_network.proofs.Accepting.{Keeps, IsToldOf, in_step-begun, in_step-keeps, in_step-reported, in_step-set, keeps-begun}
use Rattle.ptpm_network.proofs.Arriving.{StaysOrGains}
use Rattle.ptpm_network.proofs.Exchanging.{same_request-refl}
use Rattle.ptpm_manager.specs.declared.receiving.Received.{Received}
use Rattle.ptpm_manager.specs.Receiving.{left_by}
use Rattle.ptpm_network.specs.ByManager.{Account}
use Rattle.ptpm_network.specs.Invariant.{IsReplyFrame, IsRequestFrame}
use Rattle.ptpm_network.proofs.Frames.{reply_passed, reply_says, request_passed, same_read, IsTrue, IsTrueTo}
use Rattle.ptpm_network.proofs.Receiving.{answered-value, begun-value, Takes, not_idle, takes-by, takes-last, takes-own}
use Rattle.ptpm_network.proofs.Honest.{IsSentBy}
use Rattle.ptpm_network.proofs.Refusals.{idle-not_waiting}
use Rattle.ptpm_network.proofs.Steps.{reply-stays, request-sent, request-stays}
use Rattle.ptpm_table.specs.declared.reply_table.Look.TheVariants as looks
use Rattle.ptpm_agent.specs.declared.verdict.Verdict.TheVariants as verdicts
use Rattle.ptpm_manager.specs.declared.receiving.Received.TheVariants as received

-- ---- what a session has and what its target keeps of it, if its own messages came in time

-- ---- the entry of the manager

-- it is the latest request that was accepted, with its sequenceId
pub record IsLast (m : PortIdentity) (first : ℕ) (accepted : List Accepted) (e : Entry) : Type 0 where
  pub some : 0 < greatest m accepted
  pub kept : kept_reply m (greatest m accepted) accepted ≡ Some (accepted_at m (greatest m accepted) e)
  pub number : e.number ≡ number_of first (greatest m accepted)

abbrev pub IsLastOf : PortIdentity → ℕ → List Accepted → Option Entry → Type 0
IsLastOf m first accepted None = greatest m accepted ≡ 0
IsLastOf m first accepted (Some e) = IsLast m first accepted e

-- ---- what the entry says of a number

-- it is of this request
abbrev asks_same : Option Entry → RequestValue → Bool
asks_same None q = false
asks_same (Some e) q = same_request e.request q

-- ---- what a verdict does with a message

pub record Does (c : Clock) (s : State) (port : ℕ) (octets : List ℕ) (v : Message) (w : Verdict) : Type 0 where
  pub carried : carried_in c s octets ≡ carried_by w v
  pub next : (turn c s port octets).next ≡ next_by w c s v
  pub replies : (turn c s port octets).replies ≡ reply_messages c port (heard_of v) (reply_by w c s v)

pub does : (c : Clock) (s : State) (port : ℕ) (octets : List ℕ) (v : Message)
    → message_of octets ≡ Some v
    → Does c s port octets v (judged c s v)
does c s port octets v e = grind (arith, turn-message, reading-message_of)

-- ---- a turn on a copy of the manager's own request k, in the window

-- what is accepted of the manager then, under this index
abbrev pub accepted_after : ℕ → PortIdentity → Clock → State → List ℕ → List Accepted → List Accepted
accepted_after j m c s octets accepted = carried_as j m c s (carried_in c s octets) accepted

-- a reply is sent, and it is the one that is kept for the request
pub record Replied (m : PortIdentity) (c : Clock) (s : State) (port : ℕ) (octets : List ℕ) (v : Message) (k : ℕ) (new : List Accepted) : Type 0 where
  pub entry : Accepted
  pub kept : kept_reply m k new ≡ Some entry
  pub is : (turn c s port octets).replies ≡ reply_messages c port (heard_of v) (Some entry.reply)

pub record TurnsOwn (m : PortIdentity) (first : ℕ) (begun : List RequestValue) (c : Clock) (s : State) (port : ℕ) (octets : List ℕ) (v : Message) (k j : ℕ) (accepted : List Accepted) : Type 0 where
  pub gains : StaysOrGains m begun (accepted_after j m c s octets accepted) accepted
  pub last : IsLastOf m first (accepted_after j m c s octets accepted) (get (turn c s port octets).next.entries m)
  pub replies : ((turn c s port octets).replies ≡ []) ⊎ Replied m c s port octets v k (accepted_after j m c s octets accepted)
  -- the latest is always answered, an older one never
  pub latest : k ≡ greatest m accepted → Replied m c s port octets v k accepted
  pub older : k < greatest m accepted → (turn c s port octets).replies ≡ []

-- what the turn is given
pub record ComesOwn (m : PortIdentity) (first p : ℕ) (c : Clock) (s : State) (v : Message) (k j : ℕ) (accepted : List Accepted) (begun : List RequestValue) : Type 0 where
  pub parts : CopyParts c (length s.sets.ports) v
  pub source : v.source ≡ m
  pub positive : 0 < k
  pub within : k ≤ length begun
  pub number : v.number ≡ number_of first k
  pub begun_as : slice_get begun (k - 1) ≡ Some (request_of v)
  pub window : InWindow (greatest m accepted) k
  -- the index under which it is accepted, if it is new
  pub index : greatest m accepted < k → j ≡ k
  pub keeps : Keeps m p begun accepted
  pub last : IsLastOf m first accepted (get s.entries m)
  -- the reply to it
  pub answers : Answers (request_of v) (new_reply c s v)
  pub one : HasOneAnswer (request_of v) (new_reply c s v)

-- of the message's own source
module _ (first p : ℕ) (c : Clock) (s : State) (port : ℕ) (octets : List ℕ) (v : Message) (k j : ℕ) (accepted : List Accepted) (begun : List RequestValue) (read : message_of octets ≡ Some v) (o : ComesOwn v.source first p c s v k j accepted begun) where
  abbrev new_entry : Accepted
  new_entry = accepted_at v.source j (accepted_entry c s v)

  abbrev Turns : Type 0
  Turns = TurnsOwn v.source first begun c s port octets v k j accepted

  -- it is carried out
  own-new : greatest v.source accepted < k → Does c s port octets v verdicts.AnsweredNew → Turns
  own-new above d =
      let m = v.source in
      let me : same_identity m m ≡ true = same_identity-refl m in
      let here : accepted_after j m c s octets accepted ≡ new_entry ∷ accepted = grind (arith, cond-true) in
      let index : j ≡ k = o.index above in
      let most : greatest m (new_entry ∷ accepted) ≡ k = cond-true _ _ _ me ∙ omega (arith, index) in
      let kept : kept_reply m k (new_entry ∷ accepted) ≡ Some new_entry = grind (arith, cond-true, and_from, eq-eqb) in
      let at : IsLast m first (new_entry ∷ accepted) (accepted_entry c s v) = grind (arith, accepted_at, accepted_entry) in
      record {
        gains = grind arith;
        last = grind (arith, accepted_kept);
        replies = inr (record { entry = new_entry; kept = ap (kept_reply m k) here ∙ kept; is = d.replies });
        latest = λ e. absurd (omega arith);
        older = λ l. absurd (omega arith);
      }

  -- nothing is carried out: it is answered if it is the latest, and nothing is sent if it is not
  own-still : (w : Verdict) → carried_by w v ≡ [] → next_by w c s v ≡ s → Does c s port octets v w
      → ((k ≡ greatest v.source accepted → ⊥) × (reply_by w c s v ≡ None))
      ⊎ ((k ≡ greatest v.source accepted) × Replied v.source c s port octets v k accepted)
      → Turns
  own-still w none stays d which = grind (arith, ne_of_lt)

  looked : (z : Serial) → order_of (greatest v.source accepted) k ≡ z
      → look_at (get s.entries v.source) v.number (request_of v) ≡ look_by z (asks_same (get s.entries v.source) (request_of v))
  looked z e = grind (arith, order_of-newer, serial_of-number_of)

  -- what is kept as the latest is the request of the copy
  own-repeat : (x : Option Entry) → k ≡ greatest v.source accepted → get s.entries v.source ≡ x → IsLastOf v.source first accepted x
      → Turns
  own-repeat None same is last = absurd (ne_of_gt o.positive (same ∙ last))
  own-repeat (Some e) same is last =
      let m = v.source in
      let kept : kept_reply m k accepted ≡ Some (accepted_at m (greatest m accepted) e) = ap (λ i. kept_reply m i accepted) same ∙ last.kept in
      let was = o.keeps.was k (accepted_at m (greatest m accepted) e) o.positive kept in
      let entry : was.entry ≡ accepted_at m (greatest m accepted) e = same_Some was.entry _ (sym was.is ∙ kept) in
      let request : e.request ≡ request_of v = grind arith in
      let repeat : look_at (get s.entries m) v.number (request_of v) ≡ looks.Repeat =
      looked Same (order_of-same (greatest m accepted) k (sym same))
      ∙ ap (λ (x : Option Entry). look_by Same (asks_same x (request_of v))) is
      ∙ ap (λ b. look_by Same b) (ap (λ (q : RequestValue). same_request q (request_of v)) request ∙ same_request-refl (request_of v)) in
      judged-copy (λ w. Does c s port octets v w → Turns) c s v looks.Repeat o.parts repeat
      (λ _ d. grind (arith, own-still, accepted_at))
      (λ _ n. absurd (true≢false n))
      (does c s port octets v read)

  own-turns : Turns
  own-turns =
      let g = greatest v.source accepted in
      let fits = does c s port octets v read in
      ⊎_elim
      (λ (same : k ≡ g). own-repeat (get s.entries v.source) same refl o.last)
      (⊎_elim
      (λ (below : k < g).
      let other : k ≡ g → ⊥ = ne_of_lt below in
      judged-copy (λ w. Does c s port octets v w → Turns) c s v looks.Old o.parts (looked Older (order_of-older g k below))
      (λ _ d. grind (arith, own-still))
      (λ _ n d. grind (arith, own-still)) fits)
      (λ (above : g < k).
      judged-copy (λ w. Does c s port octets v w → Turns) c s v looks.New o.parts (looked Newer (order_of-newer g k above))
      (λ _ d. own-new above d)
      (λ _ n d. grind (arith, own-still, ne_of_gt)) fits))
      (cases_order k g)

pub turns_own : (m : PortIdentity) (first p : ℕ) (c : Clock) (s : State) (port : ℕ) (octets : List ℕ) (v : Message) (k j : ℕ)
    (accepted : List Accepted) (begun : List RequestValue)
    → message_of octets ≡ Some v → ComesOwn m first p c s v k j accepted begun
    → TurnsOwn m first begun c s port octets v k j accepted
turns_own m first p c s port octets v k j accepted begun read o =
    subst (λ (q : PortIdentity). ComesOwn q first p c s v k j accepted begun → TurnsOwn q first begun c s port octets v k j accepted) o.source
    (own-turns first p c s port octets v k j accepted begun read) o

-- ---- a session whose own messages come in time, and what its own acts and what it hears make of it

-- ---- the invariant of one session

abbrev pub state_of : SessionValue → List Report → Account → SessionState
state_of value reports a = record { domain = value.domain; attempts_left = value.attempts_left; begun = a.begun; reports = reports }

-- what a frame says that is of the session
abbrev pub IsSaid : Network → ℕ → Account → List ℕ → Origin → Type 0
IsSaid N s a octets (RequestOf t k) = t ≡ s → IsRequestFrame (N.session s).setup a.begun k octets
IsSaid N s a octets (ReplyTo t k) = t ≡ s → IsReplyFrame (N.session s).setup a.accepted k octets
IsSaid N s a octets Neither = Unit {0}

abbrev pub IsOwnFrame : Network → ℕ → Account → Held → Type 0
IsOwnFrame N s a h = IsSaid N s a h.octets h.origin

pub record IsOwn (N : Network) (s : ℕ) (value : SessionValue) (reports : List Report) (clock : State) (frames : List Held) (a : Account) : Type 0 where
  pub value_is : value ≡ session_value (N.session s) (state_of value reports a)
  pub step : IsInStep (manager N s) (expected_ports N s) a.accepted (state_of value reports a)
  pub last : IsLastOf (manager N s) (N.session s).setup.first a.accepted (get clock.entries (manager N s))
  pub frames_say : AllByRecursion (IsOwnFrame N s a) frames

-- of it, what its target and the frames have
pub record IsHeld (N : Network) (s : ℕ) (clock : State) (frames : List Held) (a : Account) : Type 0 where
  pub keeps : Keeps (manager N s) (expected_ports N s) a.begun a.accepted
  pub last : IsLastOf (manager N s) (N.session s).setup.first a.accepted (get clock.entries (manager N s))
  pub frames_say : AllByRecursion (IsOwnFrame N s a) frames

pub own-held : (N : Network) (s : ℕ) (value : SessionValue) (reports : List Report) (clock : State) (frames : List Held) (a : Account)
    → IsOwn N s value reports clock frames a
    → IsHeld N s clock frames a
own-held N s value reports clock frames a at = record {
  keeps = in_step-keeps (manager N s) (expected_ports N s) a.accepted (state_of value reports a) at.step;
  last = at.last;
  frames_say = at.frames_say;
}

-- it is still said when more was begun and accepted
pub said-stays : (N : Network) (s : ℕ) (a b : Account) (octets : List ℕ) (o : Origin)
    → ((i : ℕ) (q : RequestValue) → slice_get a.begun i ≡ Some q → slice_get b.begun i ≡ Some q)
    → ((k : ℕ) (e : Accepted) → kept_reply (manager N s) k a.accepted ≡ Some e → kept_reply (manager N s) k b.accepted ≡ Some e)
    → IsSaid N s a octets o
    → IsSaid N s b octets o
said-stays N s a b octets (RequestOf t k) begun kept i = λ ts. request-stays (N.session s).setup a.begun b.begun k octets begun (i ts)
said-stays N s a b octets (ReplyTo t k) begun kept i = λ ts. reply-stays (N.session s).setup a.accepted b.accepted k octets (kept k) (i ts)
said-stays N s a b octets Neither begun kept i = tt

-- and of what is passed on
pub said-passed : (N : Network) (s : ℕ) (a : Account) (octets : List ℕ) (o : Origin)
    → IsNetwork N → s < N.sessions → Keeps (manager N s) (expected_ports N s) a.begun a.accepted
    → IsSaid N s a octets o
    → IsSaid N s a (with_less_hop octets) o
said-passed N s a octets (RequestOf t k) n place keeps i = λ ts. request_passed N s k a.accepted a.begun n place keeps octets (i ts)
said-passed N s a octets (ReplyTo t k) n place keeps i = λ ts. reply_passed N s k a.accepted a.begun n place keeps octets (i ts)
said-passed N s a octets Neither n place keeps i = tt

-- and it is still so when the session begins its next request
pub held-begun : (N : Network) (s : ℕ) (clock : State) (frames : List Held) (a : Account) (q : RequestValue)
    → IsAsked (expected_ports N s) q → IsHeld N s clock frames a
    → IsHeld N s clock frames (record { begun = a.begun ++ q ∷ []; accepted = a.accepted })
held-begun N s clock frames a q asked at =
    let b : Account = record { begun = a.begun ++ q ∷ []; accepted = a.accepted } in
    record {
      keeps = keeps-begun (manager N s) (expected_ports N s) a.begun a.accepted q asked at.keeps;
      last = at.last;
      frames_say = all_weaker (IsOwnFrame N s a) (IsOwnFrame N s b)
          (λ x i. said-stays N s a b x.octets x.origin (λ j p e. get_append a.begun (q ∷ []) j p e) (λ k e kept. kept) i) frames at.frames_say;
    }

-- what a session sends says its last request
pub sent-says : (N : Network) (s : ℕ) (value : SessionValue) (a : Account) (v : Message)
    → (by : IsSentBy N s value v) → 0 < value.issued → slice_get a.begun (value.issued - 1) ≡ Some by.request
    → IsRequestFrame (N.session s).setup a.begun value.issued (canonical v)
sent-says N s value a v by positive last = record {
  positive = positive;
  request = by.request;
  begun_as = last;
  domain = value.domain;
  hops = (N.session s).setup.hops;
  is = ap (λ (x : Message). canonical x) by.is;
}

abbrev pub reports_with : List Report → Received → List Report
reports_with reports (received.Answered report) = reports ++ report ∷ []
reports_with reports (received.Ignored reason) = reports

-- what it takes for its answer says of the last request what is kept of it
pub told_of : (N : Network) (s : ℕ) (value : SessionValue) (a : Account) (octets : List ℕ) (o : Origin) (report : Report)
    → IsNetwork N → s < N.sessions → (takes : Takes value octets report) → IsTrueTo N takes.message o → IsSaid N s a octets o
    → ((k : ℕ) → o ≡ ReplyTo s k → length a.begun ≤ k + 32768)
    → value.setup ≡ (N.session s).setup → value.issued ≡ length a.begun
    → Keeps (manager N s) (expected_ports N s) a.begun a.accepted
    → IsToldOf (manager N s) (length a.begun) a.accepted report
told_of N s value a octets o report n place takes i says time setup issued keeps =
    let own = takes-own N s value octets o report n place setup takes i in
    let k = own.0 in
    let said = reply_says N s k a.accepted a.begun n place keeps octets (subst (IsSaid N s a octets) own.1 says refl) in
    let same = same_read octets takes.message _ said.message takes.read in
    let number : takes.message.number ≡ number_of (N.session s).setup.first k = ap (λ (u : Message). u.number) same ∙ said.number in
    let last : k ≡ length a.begun = grind (arith, takes-last) in grind arith

module _ (N : Network) (s : ℕ) (value : SessionValue) (reports : List Report) (clock : State) (frames : List Held) (a : Account) (at : IsOwn N s value reports clock frames a) where
  pub told : length reports ≤ length a.begun
  told = le_trans at.step.accepted_before at.step.begun_before

  -- ---- what the session does

  pub own-begun : (q : RequestValue) → IsAsked (expected_ports N s) q → is_waiting value ≡ false
      → IsOwn N s (begun value q) reports clock frames (record { begun = a.begun ++ q ∷ []; accepted = a.accepted })
  own-begun q asked idle =
      let state = state_of value reports a in
      let done : length reports ≡ length a.begun = eqb-true _ _ (idle-not_waiting (N.session s) state told (sym (ap is_waiting at.value_is) ∙ idle)) in
      record {
        value_is = ap (λ (x : SessionValue). begun x q) at.value_is
            ∙ begun-value (N.session s) state q told
            ∙ ap (λ n. session_value (N.session s) (record { domain = value.domain; attempts_left = n; begun = a.begun ++ q ∷ []; reports = reports })) (sym (ap (λ (x : SessionValue). x.setup.attempts) at.value_is));
        step = in_step-begun (manager N s) (expected_ports N s) a.accepted state q value.setup.attempts asked done at.step;
        last = at.last;
        frames_say = (held-begun N s clock frames a q asked (own-held N s value reports clock frames a at)).frames_say;
      }

  pub own-resumed : (n : ℕ) → IsOwn N s (resumed value n) reports clock frames a
  own-resumed n = search (ap (λ (x : SessionValue). resumed x n) at.value_is, in_step-set (manager N s) (expected_ports N s) a.accepted (state_of value reports a) value.domain n at.step)

  pub own-retuned : (domain : ℕ) → IsOwn N s (retuned value domain) reports clock frames a
  own-retuned domain = search (ap (λ (x : SessionValue). retuned x domain) at.value_is, in_step-set (manager N s) (expected_ports N s) a.accepted (state_of value reports a) domain value.attempts_left at.step)

  pub own-sent : IsOwn N s (sent value) reports clock frames a
  own-sent = search (ap sent at.value_is, in_step-set (manager N s) (expected_ports N s) a.accepted (state_of value reports a) value.domain (value.attempts_left - 1) at.step)

  pub own-message : (v : Message) → IsSentBy N s value v → IsRequestFrame (N.session s).setup a.begun value.issued (canonical v)
  own-message v by =
      let issued : length a.begun ≡ value.issued = sym (ap (λ (x : SessionValue). x.issued) at.value_is) in
      let same : request_message (N.session s).setup value.domain (length a.begun) by.request ≡ v = grind arith in
      subst (λ i. IsRequestFrame (N.session s).setup a.begun i (canonical v)) issued
      (subst (λ (x : Message). IsRequestFrame (N.session s).setup a.begun (length a.begun) (canonical x)) same
      (request-sent (N.session s) (state_of value reports a) by.request (sym (ap (λ (x : SessionValue). x.unanswered) at.value_is) ∙ by.unanswered)))

  -- ---- what it hears

  own-answered : (report : Report) → is_waiting value ≡ true → IsToldOf (manager N s) (length a.begun) a.accepted report
      → IsOwn N s (answered value) (reports ++ report ∷ []) clock frames a
  own-answered report waits t =
      let state = state_of value reports a in
      let busy : length reports ≡ length a.begun → ⊥ = grind (arith, eqb-false, not_idle) in
      record {
        value_is = ap answered at.value_is ∙ answered-value (N.session s) state report busy at.step.one_at_a_time told;
        step = in_step-reported (manager N s) (expected_ports N s) a.accepted state (length a.begun) report refl busy t at.step;
        last = at.last;
        frames_say = at.frames_say;
      }

  -- it hears the answer to its last request, or nothing
  pub own-hears : (octets : List ℕ) (o : Origin) (x : Received)
      → IsNetwork N → s < N.sessions → IsTrue N octets o → IsSaid N s a octets o
      → ((k : ℕ) → o ≡ ReplyTo s k → length a.begun ≤ k + 32768)
      → received_of value octets ≡ x
      → IsOwn N s (left_by value x) (reports_with reports x) clock frames a
  own-hears octets o (received.Ignored reason) n place i says time e = at
  own-hears octets o (received.Answered report) n place i says time e =
      let takes = takes-by value octets report (reading octets) refl e in
      own-answered report takes.accepted.waiting
      (told_of N s value a octets o report n place takes (i takes.message takes.read).1 says time
      (ap (λ (x : SessionValue). x.setup) at.value_is) (ap (λ (x : SessionValue). x.issued) at.value_is) (own-held N s value reports clock frames a at).keeps)
