-- At-most-once execution: what a turn does with a copy of a request is what the history says.
use Rattle.std.proofs.Common.{arith, ◌≡◌, ℕ, ◌<◌, ◌≤◌, ◌==◌, List, [], ◌∷◌, Option, Some, None, Ok, Bool, true, false, length, refl, sym, ◌∙◌, ap, subst, ⊎_elim}
use Rattle.ptpm_table.specs.Serial.{serial_of, order_of, InWindow}
use Rattle.ptpm_table.proofs.SerialLaws.{serial_in_window, order_of-same, order_of-newer, order_of-older}
use Rattle.ptpm_codec.specs.SequenceNumber.{number_of}
use Rattle.std.proofs.lemmas.Grind.{common_steps}
use Rattle.std.proofs.lemmas.Bool.{cases_eq, cases_order, and_left, and_right, ne_eqb, or_cases, le-ltb, cond-false, true≢false, false≢true}
use Rattle.std.specs.FinMap.{get, get-empty}
use Rattle.ptpm_codec.specs.declared.identity.PortIdentity.{PortIdentity}
use Rattle.ptpm_codec.specs.declared.message.Message.{Message}
use Rattle.ptpm_codec.specs.Identity.{identity_cmp}
use Rattle.ptpm_codec.specs.Reading.{message_of}
use Rattle.ptpm_data.specs.Members.{DataSetsValue}
use Rattle.ptpm_data.proofs.Keeping.{changed_by-ports}
use Rattle.ptpm_table.specs.declared.serial.Serial.{Serial}
use Rattle.ptpm_table.specs.declared.serial.Serial.TheVariants.{Same, Newer, Older}
use Rattle.ptpm_table.specs.Entries.{Entry}
use Rattle.ptpm_table.specs.Numbering.{look_at, look_by, same_request}
use Rattle.ptpm_agent.specs.declared.verdict.Verdict.{Verdict}
use Rattle.ptpm_agent.specs.Addressing.{request_of}
use Rattle.ptpm_agent.specs.Turn.{Clock, State, Turned, is_repeat, judged, next_by, reply_by, turn, turn_by, verdict_at}
use Rattle.ptpm_agent.specs.Once.{Delivery, RequestCopy, History, after_copy, applied_once, initial_history, copy_from, copy_of, due_reply, greatest, is_copy, joins, kept_for}
use Rattle.ptpm_agent.specs.Window.{IsInTime, IsNumbered}
use Rattle.ptpm_agent.specs.Laws.{IsKept, IsLatest, StandsAt, due_messages, initial_clock_state}
use Rattle.ptpm_agent.proofs.Entries.{StandsAt-joined, accepted_at}
use Rattle.ptpm_agent.proofs.Turns.{CopyParts, copy_parts, forwarded-copy, judged-copy, next_by-no_copy, turn-message, turn-next}
use Rattle.ptpm_agent.specs.declared.verdict.Verdict.TheVariants as verdicts

-- ---- in the window, sequenceIds say what the indexes say

pub serial_of-number_of : (first g k : ℕ)
    → 0 < g
    → 0 < k
    → InWindow g k
    → serial_of (number_of first g) (number_of first k) ≡ order_of g k
serial_of-number_of first g k a b w = grind (arith, serial_in_window)

-- ---- the copy of a delivery

-- the message that a delivered copy is of
pub record DeliversCopy (c : Clock) (ports : ℕ) (x : Delivery) (k : RequestCopy) : Type 0 where
  pub message : Message
  pub read : message_of x.datagram ≡ Some message
  pub passes : is_copy c ports message ≡ true
  pub copy : copy_from x message ≡ k

pub delivers_copy : (c : Clock) (ports : ℕ) (x : Delivery) (k : RequestCopy)
    → copy_of c ports x ≡ Some k
    → DeliversCopy c ports x k
delivers_copy c ports x k e = grind arith

-- the message of a delivery that is no copy
pub no_copy : (c : Clock) (ports : ℕ) (x : Delivery) (v : Message)
    → copy_of c ports x ≡ None
    → message_of x.datagram ≡ Some v
    → is_copy c ports v ≡ false
no_copy c ports x v none r = grind arith

-- ---- one verdict

-- what the verdict w does with the message v of the delivery x is what the history says of its copy
pub record Goes (first : PortIdentity → ℕ) (c : Clock) (s : State) (h : History) (x : Delivery) (v : Message) (w : Verdict) : Type 0 where
  pub stands : StandsAt first (next_by w c s v) (after_copy c h (copy_from x v))
  pub reply : reply_by w c s v ≡ due_reply c h (copy_from x v)
  pub stays : joins h (copy_from x v) ≡ false → next_by w c s v ≡ s

goes_at : (first : PortIdentity → ℕ) (c : Clock) (s : State) (h : History) (x : Delivery)
    (v : Message) (u w : Verdict)
    → u ≡ w
    → Goes first c s h x v w
    → Goes first c s h x v u
goes_at first c s h x v u w e goes = subst (λ (t : Verdict). Goes first c s h x v t) (sym e) goes

-- a new request
goes_new : (first : PortIdentity → ℕ) (c : Clock) (s : State) (h : History) (x : Delivery)
    (v : Message)
    → StandsAt first s h
    → IsNumbered first (copy_from x v)
    → v.domain == h.sets.default.domain ≡ true
    → greatest v.source h.accepted < x.index
    → Goes first c s h x v verdicts.AnsweredNew
goes_new first c s h x v at n d above = grind (arith, StandsAt-joined)

-- a verdict that changes nothing
goes_still : (first : PortIdentity → ℕ) (c : Clock) (s : State) (h : History) (x : Delivery)
    (v : Message) (w : Verdict)
    → next_by w c s v ≡ s
    → StandsAt first s h
    → joins h (copy_from x v) ≡ false
    → reply_by w c s v ≡ due_reply c h (copy_from x v)
    → Goes first c s h x v w
goes_still first c s h x v w stays at j reply = grind arith

-- ---- what is due

pub joins-below : (h : History) (k : RequestCopy)
    → k.index ≤ greatest k.heard.source h.accepted
    → joins h k ≡ false
joins-below h k le = and_right _ _ (le-ltb _ _ le)

-- nothing is due to a copy that neither joins nor has the greatest index
due_reply-none : (c : Clock) (h : History) (k : RequestCopy)
    → joins h k ≡ false
    → (greatest k.heard.source h.accepted ≡ k.index → ⊥)
    → due_reply c h k ≡ None
due_reply-none c h k j other = cond-false _ _ _ j ∙ cond-false _ _ _ (ne_eqb (greatest k.heard.source h.accepted) k.index other)

-- to one that has it, what is kept of the latest request is due, if it is a copy of that
due_reply-kept : (first : PortIdentity → ℕ) (c : Clock) (h : History) (k : RequestCopy) (e : Entry)
    → joins h k ≡ false
    → greatest k.heard.source h.accepted ≡ k.index
    → IsLatest first h k.heard.source e
    → due_reply c h k ≡ kept_for k (Some (accepted_at k.heard.source k.index e))
due_reply-kept first c h k e j same latest = grind arith

-- ---- the number of a copy

-- it gives the order of the indexes
serial_of-copy : (first : PortIdentity → ℕ) (h : History) (k : RequestCopy) (e : Entry)
    → IsInTime first h k
    → IsLatest first h k.heard.source e
    → serial_of e.number k.heard.number ≡ order_of (greatest k.heard.source h.accepted) k.index
serial_of-copy first h k e time latest = grind (arith, serial_of-number_of)

-- ---- a copy

-- the latest request once more, or another under its number
goes_same : (first : PortIdentity → ℕ) (c : Clock) (s : State) (h : History) (x : Delivery)
    (v : Message) (e : Entry)
    → StandsAt first s h
    → get s.entries v.source ≡ Some e
    → IsLatest first h v.source e
    → greatest v.source h.accepted ≡ x.index
    → Goes first c s h x v (verdict_at (look_by Same (same_request e.request (request_of v))))
goes_same first c s h x v e at g latest same = grind (arith, common_steps)

-- a copy in the clock's domain, by the order of its index
goes_by_order : (first : PortIdentity → ℕ) (c : Clock) (s : State) (h : History) (x : Delivery)
    (v : Message) (e : Entry)
    → StandsAt first s h
    → IsInTime first h (copy_from x v)
    → v.domain == h.sets.default.domain ≡ true
    → get s.entries v.source ≡ Some e
    → IsLatest first h v.source e
    → Goes first c s h x v
    (verdict_at
    (look_by (order_of (greatest v.source h.accepted) x.index)
    (same_request e.request (request_of v))))
goes_by_order first c s h x v e at time d g latest =
    let by : (o : Serial) → order_of (greatest v.source h.accepted) x.index ≡ o → Goes first c s h x v (verdict_at (look_by o (same_request e.request (request_of v)))) → Goes first c s h x v (verdict_at (look_by (order_of (greatest v.source h.accepted) x.index) (same_request e.request (request_of v)))) = grind arith in
    ⊎_elim
    (λ (q : greatest v.source h.accepted ≡ x.index). grind (arith, order_of-same))
    (⊎_elim
    (λ (q : greatest v.source h.accepted < x.index). grind (arith, order_of-newer, goes_new))
    (λ (q : x.index < greatest v.source h.accepted). grind arith))
    (cases_order (greatest v.source h.accepted) x.index)

-- a copy in the clock's domain
goes_at_home : (first : PortIdentity → ℕ) (c : Clock) (s : State) (h : History) (x : Delivery)
    (v : Message) (o : Option Entry)
    → StandsAt first s h
    → IsInTime first h (copy_from x v)
    → v.domain == h.sets.default.domain ≡ true
    → get s.entries v.source ≡ o
    → IsKept first h v.source o
    → Goes first c s h x v (verdict_at (look_at o v.number (request_of v)))
goes_at_home first c s h x v None at time d g none = grind (arith, goes_new)
goes_at_home first c s h x v (Some e) at time d g latest =
    goes_at first c s h x v _ _
    (ap (λ (o : Serial). verdict_at (look_by o (same_request e.request (request_of v)))) (serial_of-copy first h (copy_from x v) e time latest))
    (goes_by_order first c s h x v e at time d g latest)

-- the class of a repeat's number
repeat_class : (first : PortIdentity → ℕ) (h : History) (x : Delivery) (v : Message) (e : Entry)
    (o : Serial)
    → IsInTime first h (copy_from x v)
    → IsLatest first h v.source e
    → order_of (greatest v.source h.accepted) x.index ≡ o
    → is_repeat (look_at (Some e) v.number (request_of v))
    ≡ is_repeat (look_by o (same_request e.request (request_of v)))
repeat_class first h x v e o time latest q =
    ap (λ (r : Serial). is_repeat (look_by r (same_request e.request (request_of v)))) (serial_of-copy first h (copy_from x v) e time latest ∙ q)

-- a repeat, in whatever domain
goes_repeat : (first : PortIdentity → ℕ) (c : Clock) (s : State) (h : History) (x : Delivery)
    (v : Message) (o : Option Entry)
    → StandsAt first s h
    → IsInTime first h (copy_from x v)
    → is_repeat (look_at o v.number (request_of v)) ≡ true
    → get s.entries v.source ≡ o
    → IsKept first h v.source o
    → Goes first c s h x v (verdict_at (look_at o v.number (request_of v)))
goes_repeat first c s h x v None at time y g none = absurd (false≢true y)
goes_repeat first c s h x v (Some e) at time y g latest =
    ⊎_elim
    (λ (q : greatest v.source h.accepted ≡ x.index). grind arith)
    (⊎_elim
    (λ (q : greatest v.source h.accepted < x.index). absurd (false≢true (sym (repeat_class first h x v e Newer time latest (order_of-newer _ _ q)) ∙ y)))
    (λ (q : x.index < greatest v.source h.accepted). absurd (false≢true (sym (repeat_class first h x v e Older time latest (order_of-older _ _ q)) ∙ y))))
    (cases_order (greatest v.source h.accepted) x.index)

conflict : (b : Bool) → is_repeat (look_by Same b) ≡ false → b ≡ false
conflict true n = absurd (true≢false n)
conflict false n = refl

-- nothing is due to a copy of another domain that is no repeat
due_reply-elsewhere : (first : PortIdentity → ℕ) (c : Clock) (s : State) (h : History)
    (x : Delivery) (v : Message) (o : Option Entry)
    → IsInTime first h (copy_from x v)
    → joins h (copy_from x v) ≡ false
    → is_repeat (look_at o v.number (request_of v)) ≡ false
    → IsKept first h v.source o
    → due_reply c h (copy_from x v) ≡ None
due_reply-elsewhere first c s h x v None time j n none = grind arith
due_reply-elsewhere first c s h x v (Some e) time j n latest =
    ⊎_elim
    (λ (q : greatest v.source h.accepted ≡ x.index).
    due_reply-kept first c h (copy_from x v) e j q latest
    ∙ cond-false _ _ _ (conflict (same_request e.request (request_of v)) (sym (repeat_class first h x v e Same time latest (order_of-same _ _ q)) ∙ n)))
    (λ (other : greatest v.source h.accepted ≡ x.index → ⊥). due_reply-none c h (copy_from x v) j other)
    (cases_eq (greatest v.source h.accepted) x.index)

goes_elsewhere : (first : PortIdentity → ℕ) (c : Clock) (s : State) (h : History) (x : Delivery)
    (v : Message)
    → StandsAt first s h
    → IsInTime first h (copy_from x v)
    → v.domain == h.sets.default.domain ≡ false
    → is_repeat (look_at (get s.entries v.source) v.number (request_of v)) ≡ false
    → Goes first c s h x v verdicts.OtherDomain
goes_elsewhere first c s h x v at time d n =
    let j : joins h (copy_from x v) ≡ false = and_left _ _ d in
    goes_still first c s h x v verdicts.OtherDomain refl at j
    (sym (due_reply-elsewhere first c s h x v (get s.entries v.source) time j n (at.entries v.source)))

goes_copy : (first : PortIdentity → ℕ) (c : Clock) (s : State) (h : History) (x : Delivery)
    (v : Message)
    → StandsAt first s h
    → is_copy c (length h.sets.ports) v ≡ true
    → IsInTime first h (copy_from x v)
    → Goes first c s h x v (judged c s v)
goes_copy first c s h x v at y time =
    let parts : CopyParts c (length s.sets.ports) v = grind arith in
    let home : v.domain == s.sets.default.domain ≡ v.domain == h.sets.default.domain = grind arith in
    judged-copy (λ w. Goes first c s h x v w) c s v (look_at (get s.entries v.source) v.number (request_of v)) parts refl
    (λ numbered. ⊎_elim
    (λ (d : v.domain == s.sets.default.domain ≡ true).
    goes_at_home first c s h x v (get s.entries v.source) at time (sym home ∙ d) refl (at.entries v.source))
    (λ (r : is_repeat (look_at (get s.entries v.source) v.number (request_of v)) ≡ true).
    goes_repeat first c s h x v (get s.entries v.source) at time r refl (at.entries v.source))
    (or_cases (v.domain == s.sets.default.domain) _ numbered))
    (λ d r. goes_elsewhere first c s h x v at time (sym home ∙ d) r)

-- ---- one delivery

-- a turn on a copy leaves this history, sends this reply, and changes nothing if the copy does not join
pub record TurnsAs (first : PortIdentity → ℕ) (c : Clock) (s : State) (h : History) (x : Delivery) (k : RequestCopy) : Type 0 where
  pub stands : StandsAt first (turn c s x.ingress x.datagram).next (after_copy c h k)
  pub replies : (turn c s x.ingress x.datagram).replies ≡ due_messages c k (due_reply c h k)
  pub forwards : (turn c s x.ingress x.datagram).forwards ≡ []
  pub stays : joins h k ≡ false → (turn c s x.ingress x.datagram).next ≡ s

turns_as_message : (first : PortIdentity → ℕ) (c : Clock) (s : State) (h : History) (x : Delivery)
    (v : Message)
    → StandsAt first s h
    → message_of x.datagram ≡ Some v
    → is_copy c (length h.sets.ports) v ≡ true
    → IsInTime first h (copy_from x v)
    → TurnsAs first c s h x (copy_from x v)
turns_as_message first c s h x v at r y time =
    let goes : Goes first c s h x v (judged c s v) = goes_copy first c s h x v at y time in
    let t : turn c s x.ingress x.datagram ≡ turn_by c s x.ingress x.datagram (Ok v) = turn-message c s x.ingress x.datagram v r in grind (arith, forwarded-copy)

pub turns_as : (first : PortIdentity → ℕ) (c : Clock) (s : State) (h : History) (x : Delivery)
    (k : RequestCopy)
    → StandsAt first s h
    → copy_of c (length h.sets.ports) x ≡ Some k
    → IsInTime first h k
    → TurnsAs first c s h x k
turns_as first c s h x k at e time =
    let copy = delivers_copy c (length h.sets.ports) x k e in
    subst (λ (j : RequestCopy). TurnsAs first c s h x j) copy.copy
    (turns_as_message first c s h x copy.message at copy.read copy.passes (subst (λ (j : RequestCopy). IsInTime first h j) (sym copy.copy) time))

-- any other delivery changes nothing
pub turn-no_copy : (c : Clock) (s : State) (x : Delivery)
    → copy_of c (length s.sets.ports) x ≡ None
    → (turn c s x.ingress x.datagram).next ≡ s
turn-no_copy c s x none =
    turn-next (λ (n : State). n ≡ s) c s x.ingress x.datagram refl (λ v r. grind (arith, next_by-no_copy))

-- ---- where a clock begins, and its number of ports

pub stands-initial_history : (first : PortIdentity → ℕ) (d : DataSetsValue)
    → StandsAt first (initial_clock_state d) (initial_history d)
stands-initial_history first d = record {
  sets = refl;
  entries = λ m. subst (λ (o : Option Entry). IsKept first (initial_history d) m o) (sym (get-empty identity_cmp m)) refl;
}

-- what was accepted leaves as many ports
pub after_copy-ports : (c : Clock) (h : History) (k : RequestCopy)
    → length (after_copy c h k).sets.ports ≡ length h.sets.ports
after_copy-ports c h k = grind (arith, changed_by-ports)

pub applied_once-ports : (c : Clock) (h : History) (ks : List RequestCopy)
    → length (applied_once c h ks).sets.ports ≡ length h.sets.ports
applied_once-ports c h [] = refl
applied_once-ports c h (k ∷ ks) = applied_once-ports c (after_copy c h k) ks ∙ after_copy-ports c h k

-- a copy is never passed on, in the window or not
pub forwards-copy : (c : Clock) (s : State) (x : Delivery) (k : RequestCopy)
    → copy_of c (length s.sets.ports) x ≡ Some k
    → (turn c s x.ingress x.datagram).forwards ≡ []
forwards-copy c s x k e =
    let copy = delivers_copy c (length s.sets.ports) x k e in
    ap (λ (u : Turned). u.forwards) (turn-message c s x.ingress x.datagram copy.message copy.read)
    ∙ forwarded-copy c x.ingress s.sets x.datagram copy.message copy.read (copy_parts c (length s.sets.ports) copy.message copy.passes).target
