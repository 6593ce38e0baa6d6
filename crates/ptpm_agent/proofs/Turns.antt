-- What a turn does with a message, by what the message is to the clock.
use Rattle.std.proofs.Common.{arith, ◌≡◌, ℕ, ◌==◌, ◌||◌, ◌&&◌, nat_lt, not, List, [], length, Option, Some, Result, Ok, Err, OnErr, map, ◌++◌, Bool, true, false, refl, sym, inl, inr, ◌∙◌, ap, subst}
use Rattle.std.proofs.lemmas.Bool.{and_parts, and_from, cases_Bool, or_left, or_parts, or_right, not-true, cond-true, cond-false, false≢true}
use Rattle.std.specs.FinMap.{get}
use Rattle.ptpm_codec.specs.declared.error.DecodeError.{DecodeError}
use Rattle.ptpm_codec.specs.declared.identity.ClockIdentity.{ClockIdentity}
use Rattle.ptpm_codec.specs.declared.message.Message.{Message}
use Rattle.ptpm_codec.specs.Identity.{every_clock, same_clock}
use Rattle.ptpm_codec.specs.Reading.{message_of, reading}
use Rattle.ptpm_data.specs.declared.changed.ChangedMembers.{ChangedMembers}
use Rattle.ptpm_data.specs.declared.rights.Rights.{Rights}
use Rattle.ptpm_data.specs.Changed.{changed}
use Rattle.ptpm_data.specs.Changes.{changed_by}
use Rattle.ptpm_data.specs.Members.{DataSetsValue, may_forward}
use Rattle.ptpm_table.specs.declared.reply_table.Look.{Look}
use Rattle.ptpm_table.specs.declared.reply_table.Look.TheVariants as looks
use Rattle.ptpm_table.specs.Entries.{Entry, is_known}
use Rattle.ptpm_table.specs.Numbering.{look_at}
use Rattle.ptpm_table.specs.Rendering.{rendered}
use Rattle.ptpm_agent.specs.Agent.{IsTurned}
use Rattle.ptpm_agent.specs.declared.verdict.Verdict.{Verdict}
use Rattle.ptpm_agent.specs.declared.verdict.Verdict.TheVariants as verdicts
use Rattle.ptpm_agent.specs.Forwarding.{copies_if, egress_ports, forwarded, forwarded_by, is_forwarded, with_less_hop}
use Rattle.ptpm_agent.specs.Addressing.{heard_of, is_addressed, is_for_this_clock, is_numbered, is_own, is_request, names_port, request_of}
use Rattle.ptpm_agent.specs.Turn.{Clock, State, carried_out, is_accepted_repeat, is_in_domain, is_repeat, judged, kept_reply_of, look, new_reply, next_by, reply_by, reply_messages, turn, turn_by, verdict_at, verdict_of}
use Rattle.ptpm_agent.specs.Once.{is_copy}
use Rattle.ptpm_agent.specs.Laws.{AreOfManagers}
use Rattle.ptpm_codec.proofs.MessageLaws.{same_identity-true}
use Rattle.ptpm_data.proofs.Keeping.{changed_by-ports}
use Rattle.ptpm_agent.proofs.Entries.{get-insert_other}
use Rattle.ptpm_agent.specs.declared.verdict.Verdict.TheVariants as verdicts

-- ---- the message of a datagram

pub reading-message_of : (datagram : List ℕ) (v : Message)
    → message_of datagram ≡ Some v
    → reading datagram ≡ Ok v
unfolding message_of
reading-message_of datagram v e = grind arith

pub message_of-reading : (datagram : List ℕ) (v : Message)
    → reading datagram ≡ Ok v
    → message_of datagram ≡ Some v
unfolding message_of
message_of-reading datagram v e = grind arith

pub turn-message : (c : Clock) (s : State) (ingress : ℕ) (datagram : List ℕ) (v : Message)
    → message_of datagram ≡ Some v
    → turn c s ingress datagram ≡ turn_by c s ingress datagram (Ok v)
unfolding turn
turn-message c s ingress datagram v e = ap (λ (r : Result Message DecodeError). turn_by c s ingress datagram r) (reading-message_of datagram v e)

pub turn-next : (P : State → Type 0) (c : Clock) (s : State) (ingress : ℕ) (datagram : List ℕ)
    → P s
    → ((v : Message) → message_of datagram ≡ Some v → P (next_by (judged c s v) c s v))
    → P (turn c s ingress datagram).next
unfolding turn
turn-next P c s ingress datagram before each = grind (arith, message_of-reading)

pub on_err : {A E : Type 0} (r : Result A E) (P : Type 0) → P → OnErr r P
on_err (Ok a) P p = tt
on_err (Err e) P p = p

pub verdict_new : (c : Clock) (s : State) (datagram : List ℕ) (v : Message) (verdict : Verdict)
    → reading datagram ≡ Ok v
    → verdict ≡ judged c s v
    → verdict ≡ verdicts.AnsweredNew → verdict_of c s datagram ≡ verdicts.AnsweredNew
verdict_new c s datagram v verdict read is new = rw read (sym is ∙ new)

-- ---- the verdict on a message

pub judged-foreign : (c : Clock) (s : State) (v : Message)
    → is_in_domain c s v ≡ false
    → judged c s v ≡ verdicts.OtherDomain
unfolding judged
judged-foreign c s v d = cond-true _ _ _ (ap not d)

pub judged-own : (c : Clock) (s : State) (v : Message)
    → is_in_domain c s v ≡ true
    → is_own c v ≡ true
    → judged c s v ≡ verdicts.OwnMessage
unfolding judged
judged-own c s v d o = cond-false _ _ _ (ap not d) ∙ cond-true _ _ _ o

pub judged-away : (c : Clock) (s : State) (v : Message)
    → is_in_domain c s v ≡ true
    → is_own c v ≡ false
    → is_addressed c s.sets v ≡ false
    → judged c s v ≡ verdicts.NotAddressed
unfolding judged
judged-away c s v d o a = cond-false _ _ _ (ap not d) ∙ (cond-false _ _ _ o ∙ cond-true _ _ _ (ap not a))

pub judged-reply : (c : Clock) (s : State) (v : Message)
    → is_in_domain c s v ≡ true
    → is_own c v ≡ false
    → is_addressed c s.sets v ≡ true
    → is_request v ≡ false
    → judged c s v ≡ verdicts.NotARequest
unfolding judged
judged-reply c s v d o a q = grind arith

pub judged-request : (c : Clock) (s : State) (v : Message)
    → is_in_domain c s v ≡ true
    → is_own c v ≡ false
    → is_addressed c s.sets v ≡ true
    → is_request v ≡ true
    → judged c s v ≡ verdict_at (look c s v)
unfolding judged
judged-request c s v d o a q = grind arith

-- an accepted repeat is answered in every domain
pub judged-repeat : (c : Clock) (s : State) (v : Message)
    → v.sdo == 0 ≡ true
    → is_accepted_repeat c s v ≡ true
    → judged c s v ≡ verdicts.AnsweredRepeat
judged-repeat c s v sdo repeat = grind (arith, and_parts, or_right, judged-request, not-true)

-- ---- a copy of a numbered request

-- the test of a copy, part by part
pub record CopyParts (c : Clock) (ports : ℕ) (v : Message) : Type 0 where
  pub sdo : v.sdo == 0 ≡ true
  pub own : is_own c v ≡ false
  pub known : is_known v.source c.managers ≡ true
  pub target : is_for_this_clock c v ≡ true
  pub port : names_port ports v.target.port ≡ true
  pub request : is_request v ≡ true

pub copy_parts : (c : Clock) (ports : ℕ) (v : Message)
    → is_copy c ports v ≡ true
    → CopyParts c ports v
copy_parts c ports v h = grind arith

addressed : (c : Clock) (d : DataSetsValue) (v : Message)
    → CopyParts c (length d.ports) v
    → is_addressed c d v ≡ true
addressed c d v p = and_from _ _ (or_left _ (same_clock v.target.clock every_clock) p.target) p.port

look-copy : (c : Clock) (s : State) (v : Message)
    → CopyParts c (length s.sets.ports) v
    → look c s v ≡ look_at (get s.entries v.source) v.number (request_of v)
look-copy c s v p = cond-true _ _ _ (and_from _ _ p.known p.target)

in_domain-copy : (c : Clock) (s : State) (v : Message)
    → CopyParts c (length s.sets.ports) v
    → is_in_domain c s v ≡ (v.domain == s.sets.default.domain || is_repeat (look c s v))
in_domain-copy c s v p = grind arith

-- in the clock's domain, or a repeat: as the number says
judged-numbered : (c : Clock) (s : State) (v : Message)
    → CopyParts c (length s.sets.ports) v
    → (v.domain == s.sets.default.domain || is_repeat (look c s v)) ≡ true
    → judged c s v ≡ verdict_at (look_at (get s.entries v.source) v.number (request_of v))
judged-numbered c s v p d = grind (arith, judged-request)

judged-elsewhere : (c : Clock) (s : State) (v : Message)
    → CopyParts c (length s.sets.ports) v
    → (v.domain == s.sets.default.domain || is_repeat (look c s v)) ≡ false
    → judged c s v ≡ verdicts.OtherDomain
judged-elsewhere c s v p d = judged-foreign c s v (in_domain-copy c s v p ∙ d)

-- the verdict on a copy, by what the entry of its source says: in the clock's domain or of a repeat, or elsewhere of none
pub judged-copy : (P : Verdict → Type 0) (c : Clock) (s : State) (v : Message) (l : Look)
    → CopyParts c (length s.sets.ports) v
    → look_at (get s.entries v.source) v.number (request_of v) ≡ l
    → ((v.domain == s.sets.default.domain || is_repeat l) ≡ true → P (verdict_at l))
    → (v.domain == s.sets.default.domain ≡ false → is_repeat l ≡ false → P verdicts.OtherDomain)
    → P (judged c s v)
judged-copy P c s v l p e numbered elsewhere = grind (arith, look-copy, judged-numbered, judged-elsewhere, or_parts, cases_Bool)

pub forwarded-copy : (c : Clock) (ingress : ℕ) (d : DataSetsValue) (datagram : List ℕ) (v : Message)
    → message_of datagram ≡ Some v
    → is_for_this_clock c v ≡ true
    → forwarded c.identity ingress d datagram ≡ []
unfolding forwarded
forwarded-copy c ingress d datagram v e t = grind arith

-- a message is passed on at each egress port, or not at all
pub forwarded-on : (me : ClockIdentity) (ingress : ℕ) (d : DataSetsValue) (datagram : List ℕ)
    (v : Message)
    → reading datagram ≡ Ok v
    → is_forwarded me ingress d v ≡ true
    → forwarded me ingress d datagram
    ≡ map (λ port. (port, with_less_hop datagram)) (egress_ports ingress d)
unfolding forwarded
forwarded-on me ingress d datagram v e y = ap (forwarded_by me ingress d datagram) (message_of-reading datagram v e) ∙ cond-true _ _ _ y

pub forwarded-not : (me : ClockIdentity) (ingress : ℕ) (d : DataSetsValue) (datagram : List ℕ)
    (v : Message)
    → reading datagram ≡ Ok v
    → is_forwarded me ingress d v ≡ false
    → forwarded me ingress d datagram ≡ []
unfolding forwarded
forwarded-not me ingress d datagram v e n = ap (forwarded_by me ingress d datagram) (message_of-reading datagram v e) ∙ cond-false _ _ _ n

pub copies_are : (me : ClockIdentity) (ingress : ℕ) (d : DataSetsValue) (datagram : List ℕ) (v : Message) (passed : Bool)
    → reading datagram ≡ Ok v
    → passed ≡ is_forwarded me ingress d v
    → copies_if passed ingress d datagram ≡ forwarded me ingress d datagram
unfolding forwarded
copies_are me ingress d datagram v passed e is =
    ap (λ (b : Bool). copies_if b ingress d datagram) is ∙ sym (ap (forwarded_by me ingress d datagram) (message_of-reading datagram v e))

-- ---- what is passed on, by the verdict

-- what is passed on is in the clock's domain, and from another clock
forwarded_parts : (c : Clock) (s : State) (ingress : ℕ) (v : Message)
    → is_forwarded c.identity ingress s.sets v ≡ true
    → (is_in_domain c s v ≡ true) × (is_own c v ≡ false)
forwarded_parts c s ingress v h =
    let sdo = and_parts _ _ h in
    let domain = and_parts _ _ sdo.1 in
    let own = and_parts _ _ domain.1 in
    (and_from _ _ sdo.0 (or_left _ (is_accepted_repeat c s v) domain.0), not-true _ own.0)

-- a verdict on what is in the clock's domain, and from another clock
abbrev is_near : Verdict → Bool
is_near verdicts.OtherDomain = false
is_near verdicts.OwnMessage = false
is_near _ = true

is_near-look : (l : Look) → is_near (verdict_at l) ≡ true
is_near-look looks.Unknown = refl
is_near-look looks.New = refl
is_near-look looks.Repeat = refl
is_near-look looks.Conflict = refl
is_near-look looks.Old = refl

is_near-judged : (c : Clock) (s : State) (v : Message)
    → is_in_domain c s v ≡ true
    → is_own c v ≡ false
    → is_near (judged c s v) ≡ true
is_near-judged c s v d o = elim (cases_Bool (is_addressed c s.sets v)) [
  | inr away ↦ ap is_near (judged-away c s v d o away)
  | inl here ↦ elim (cases_Bool (is_request v)) [
    | inr reply ↦ ap is_near (judged-reply c s v d o here reply)
    | inl request ↦ ap is_near (judged-request c s v d o here request) ∙ is_near-look (look c s v)
  ]
]

-- of what has another verdict nothing is passed on
not_forwarded-far : (c : Clock) (s : State) (ingress : ℕ) (v : Message)
    → is_near (judged c s v) ≡ false
    → is_forwarded c.identity ingress s.sets v ≡ false
not_forwarded-far c s ingress v far = elim (cases_Bool (is_forwarded c.identity ingress s.sets v)) [
  | inl passed ↦
      let p = forwarded_parts c s ingress v passed in absurd (false≢true (sym far ∙ is_near-judged c s v p.0 p.1))
  | inr stays ↦ stays
]

pub not_forwarded-foreign : (c : Clock) (s : State) (ingress : ℕ) (v : Message)
    → judged c s v ≡ verdicts.OtherDomain
    → is_forwarded c.identity ingress s.sets v ≡ false
not_forwarded-foreign c s ingress v e = not_forwarded-far c s ingress v (ap is_near e)

pub not_forwarded-own : (c : Clock) (s : State) (ingress : ℕ) (v : Message)
    → judged c s v ≡ verdicts.OwnMessage
    → is_forwarded c.identity ingress s.sets v ≡ false
not_forwarded-own c s ingress v e = not_forwarded-far c s ingress v (ap is_near e)

false_unless : (b : Bool) → (b ≡ true → ⊥) → b ≡ false
false_unless true differs = absurd (differs refl)
false_unless false differs = refl

true_unless : (b : Bool) → (b ≡ false → ⊥) → b ≡ true
true_unless true differs = refl
true_unless false differs = absurd (differs refl)

either_true : (x y : Bool) → (x || y) ≡ true → y ≡ false → x ≡ true
either_true true y h is_false = refl
either_true false y h is_false = absurd (false≢true (sym is_false ∙ h))

-- by any other verdict than these, only the target, the hops and the ingress port are left to see
pub forwarded_near : (c : Clock) (s : State) (ingress : ℕ) (v : Message)
    → (judged c s v ≡ verdicts.OtherDomain → ⊥)
    → (judged c s v ≡ verdicts.OwnMessage → ⊥)
    → (judged c s v ≡ verdicts.AnsweredRepeat → ⊥)
    → is_forwarded c.identity ingress s.sets v
    ≡ (not (same_clock v.target.clock c.identity) && (nat_lt 0 v.hops && may_forward ingress s.sets))
forwarded_near c s ingress v not_foreign not_own not_repeat =
    let d : is_in_domain c s v ≡ true = true_unless _ (λ foreign. not_foreign (judged-foreign c s v foreign)) in
    let sdo = and_parts _ _ d in
    let repeat : is_accepted_repeat c s v ≡ false = false_unless _ (λ yes. not_repeat (judged-repeat c s v sdo.0 yes)) in
    let domain : (v.domain == s.sets.default.domain) ≡ true = either_true _ (is_accepted_repeat c s v) sdo.1 repeat in
    let own : is_own c v ≡ false = false_unless _ (λ yes. not_own (judged-own c s v d yes)) in
    (λ i. sdo.0 i && (domain i && (not (own i) && (not (same_clock v.target.clock c.identity)
    && (nat_lt 0 v.hops && may_forward ingress s.sets)))))

-- ---- any other message changes nothing

-- a numbered request in the clock's domain, or a repeat, is a copy
pub is_copy-numbered : (c : Clock) (s : State) (v : Message)
    → is_in_domain c s v ≡ true
    → is_own c v ≡ false
    → is_addressed c s.sets v ≡ true
    → is_request v ≡ true
    → is_numbered c v ≡ true
    → is_copy c (length s.sets.ports) v ≡ true
is_copy-numbered c s v d o a q n = grind arith

-- what holds of each verdict if it is the first that holds, holds of the verdict
pub judged-each : (P : Verdict → Type 0) (c : Clock) (s : State) (v : Message)
    → P verdicts.OtherDomain
    → P verdicts.OwnMessage
    → P verdicts.NotAddressed
    → P verdicts.NotARequest
    → (is_in_domain c s v ≡ true
    → is_own c v ≡ false
    → is_addressed c s.sets v ≡ true
    → is_request v ≡ true
    → P (verdict_at (look c s v)))
    → P (judged c s v)
judged-each P c s v foreign own away reply request = grind (arith, judged-own, judged-request, judged-reply, judged-away, judged-foreign)

-- a request without a number is answered from the data sets as they are
pub verdict_at-unnumbered : (c : Clock) (s : State) (v : Message)
    → is_numbered c v ≡ false
    → verdict_at (look c s v) ≡ verdicts.AnsweredUnnumbered
verdict_at-unnumbered c s v n = ap verdict_at (cond-false _ _ _ n)

pub next_by-no_copy : (c : Clock) (s : State) (v : Message)
    → is_copy c (length s.sets.ports) v ≡ false
    → next_by (judged c s v) c s v ≡ s
next_by-no_copy c s v no_copy = judged-each (λ (w : Verdict). next_by w c s v ≡ s) c s v refl refl refl refl
    (λ d o a q. grind arith)

-- ---- what a verdict says of its message

is_new : Verdict → Bool
is_new verdicts.AnsweredNew = true
is_new _ = false

is_unnumbered : Verdict → Bool
is_unnumbered verdicts.AnsweredUnnumbered = true
is_unnumbered _ = false

is_again : Verdict → Bool
is_again verdicts.AnsweredRepeat = true
is_again _ = false

-- what is answered as before is for this clock
target-is_again : (c : Clock) (s : State) (v : Message)
    → is_again (judged c s v) ≡ true
    → is_for_this_clock c v ≡ true
unfolding is_again
target-is_again c s v = judged-each (λ (w : Verdict). is_again w ≡ true → is_for_this_clock c v ≡ true) c s v
    (λ e. absurd (false≢true e)) (λ e. absurd (false≢true e)) (λ e. absurd (false≢true e)) (λ e. absurd (false≢true e))
    (λ d o a q e. grind arith)

pub target-repeat : (c : Clock) (s : State) (v : Message)
    → judged c s v ≡ verdicts.AnsweredRepeat
    → is_for_this_clock c v ≡ true
unfolding is_again
target-repeat c s v e = target-is_again c s v (ap is_again e)

-- what is carried out is a copy
is_copy-is_new : (c : Clock) (s : State) (v : Message)
    → is_new (judged c s v) ≡ true
    → is_copy c (length s.sets.ports) v ≡ true
unfolding is_new
is_copy-is_new c s v = judged-each (λ (w : Verdict). is_new w ≡ true → is_copy c (length s.sets.ports) v ≡ true) c s v
    (λ e. absurd (false≢true e)) (λ e. absurd (false≢true e)) (λ e. absurd (false≢true e)) (λ e. absurd (false≢true e))
    (λ d o a q e. grind arith)

pub is_copy-new : (c : Clock) (s : State) (v : Message)
    → judged c s v ≡ verdicts.AnsweredNew
    → is_copy c (length s.sets.ports) v ≡ true
unfolding is_new
is_copy-new c s v e = is_copy-is_new c s v (ap is_new e)

-- what is read is addressed, and a request
is_addressed-is_unnumbered : (c : Clock) (s : State) (v : Message)
    → is_unnumbered (judged c s v) ≡ true
    → (is_addressed c s.sets v ≡ true) × (is_request v ≡ true)
unfolding is_unnumbered
is_addressed-is_unnumbered c s v = judged-each (λ (w : Verdict). is_unnumbered w ≡ true → (is_addressed c s.sets v ≡ true) × (is_request v ≡ true)) c s v
    (λ e. absurd (false≢true e)) (λ e. absurd (false≢true e)) (λ e. absurd (false≢true e)) (λ e. absurd (false≢true e))
    (λ d o a q e. (a, q))

is_addressed-unnumbered : (c : Clock) (s : State) (v : Message)
    → judged c s v ≡ verdicts.AnsweredUnnumbered
    → (is_addressed c s.sets v ≡ true) × (is_request v ≡ true)
unfolding is_unnumbered
is_addressed-unnumbered c s v e = is_addressed-is_unnumbered c s v (ap is_unnumbered e)

port_of_addressed : (c : Clock) (d : DataSetsValue) (v : Message)
    → is_addressed c d v ≡ true
    → names_port (length d.ports) v.target.port ≡ true
port_of_addressed c d v a = grind arith

pub new_parts : (c : Clock) (s : State) (v : Message)
    → judged c s v ≡ verdicts.AnsweredNew
    → CopyParts c (length s.sets.ports) v
new_parts c s v e = copy_parts c (length s.sets.ports) v (is_copy-new c s v e)

-- a port that it names, and that it is a request
pub unnumbered_parts : (c : Clock) (s : State) (v : Message)
    → judged c s v ≡ verdicts.AnsweredUnnumbered
    → (names_port (length s.sets.ports) v.target.port ≡ true) × (is_request v ≡ true)
unnumbered_parts c s v e =
    let p = is_addressed-unnumbered c s v e in
    (port_of_addressed c s.sets v p.0, p.1)

-- what a request changes, as it was foreseen
pub as_foreseen : (c : Clock) (s t : State) (v : Message) (rights : Rights) (m : ChangedMembers)
    → m ≡ changed s.sets (changed_by (request_of v) rights s.sets)
    → rights ≡ c.rights v.source
    → t ≡ carried_out c s v
    → m ≡ changed s.sets t.sets
as_foreseen c s t v rights m told own is =
    told ∙ ap (λ (r : Rights). changed s.sets (changed_by (request_of v) r s.sets)) own ∙ ap (λ (u : State). changed s.sets u.sets) (sym is)

-- ---- a call, against the turn

-- the replies to a message whose verdict is w
pub turn_replies : (c : Clock) (s : State) (ingress : ℕ) (datagram : List ℕ) (v : Message) (w : Verdict)
    → reading datagram ≡ Ok v
    → w ≡ judged c s v
    → (turn c s ingress datagram).replies ≡ reply_messages c ingress (heard_of v) (reply_by w c s v)
unfolding turn
turn_replies c s ingress datagram v w e verdict =
    ap (λ (r : Result Message DecodeError). (turn_by c s ingress datagram r).replies) e
    ∙ ap (λ (u : Verdict). reply_messages c ingress (heard_of v) (reply_by u c s v)) (sym verdict)

pub turned_refused : (c : Clock) (s : State) (ingress : ℕ) (datagram : List ℕ) (cause : DecodeError)
    (out : List (ℕ × List ℕ)) (next : State)
    → reading datagram ≡ Err cause
    → out ≡ []
    → next ≡ s
    → IsTurned (turn c s ingress datagram) (verdicts.Malformed cause) out next
unfolding forwarded message_of turn
turned_refused c s ingress datagram cause out next e sent same = grind arith

-- on a message whose verdict is w
turned_at : (c : Clock) (s : State) (ingress : ℕ) (datagram : List ℕ) (v : Message) (w : Verdict)
    (out : List (ℕ × List ℕ)) (next : State)
    → reading datagram ≡ Ok v
    → w ≡ judged c s v
    → out
    ≡ forwarded c.identity ingress s.sets datagram
    ++ reply_messages c ingress (heard_of v) (reply_by w c s v)
    → next ≡ next_by w c s v
    → IsTurned (turn c s ingress datagram) w out next
unfolding turn
turned_at c s ingress datagram v w out next e verdict sent left =
    subst (λ (r : Result Message DecodeError). IsTurned (turn_by c s ingress datagram r) w out next) (sym e)
    (record {
      verdict_is = verdict;
      outbox_is = grind arith;
      sets_are = grind arith;
      entries_are = grind arith;
    })

pub turned_new : (c : Clock) (s : State) (ingress : ℕ) (datagram : List ℕ) (v : Message)
    (w : Verdict) (out : List (ℕ × List ℕ)) (next : State)
    → reading datagram ≡ Ok v
    → w ≡ judged c s v
    → w ≡ verdicts.AnsweredNew
    → out ≡ rendered c.identity (heard_of v) (new_reply c s v) ingress
    → next ≡ carried_out c s v
    → IsTurned (turn c s ingress datagram) w out next
turned_new c s ingress datagram v w out next e verdict new sent left =
    let none : forwarded c.identity ingress s.sets datagram ≡ [] = grind (arith, forwarded-copy, message_of-reading, new_parts) in
    turned_at c s ingress datagram v w out next e verdict
    (sent ∙ (sym (ap (λ (f : List (ℕ × List ℕ)). f ++ rendered c.identity (heard_of v) (new_reply c s v) ingress) none)
    ∙ sym (ap (λ (u : Verdict). forwarded c.identity ingress s.sets datagram ++ reply_messages c ingress (heard_of v) (reply_by u c s v)) new)))
    (left ∙ sym (ap (λ (u : Verdict). next_by u c s v) new))

pub turned_repeat : (c : Clock) (s : State) (ingress : ℕ) (datagram : List ℕ) (v : Message)
    (w : Verdict) (out : List (ℕ × List ℕ)) (next : State) (e : Entry)
    → reading datagram ≡ Ok v
    → w ≡ judged c s v
    → w ≡ verdicts.AnsweredRepeat
    → get s.entries v.source ≡ Some e
    → out ≡ rendered c.identity (heard_of v) e.reply ingress
    → next ≡ s
    → IsTurned (turn c s ingress datagram) w out next
turned_repeat c s ingress datagram v w out next e read verdict repeat kept sent same =
    let none : forwarded c.identity ingress s.sets datagram ≡ [] = grind (arith, forwarded-copy, message_of-reading, target-repeat) in
    turned_at c s ingress datagram v w out next read verdict
    (sent ∙ sym ((λ i. none i ++ reply_messages c ingress (heard_of v) (reply_by (repeat i) c s v))
    ∙ ap (λ (k : Option Entry). reply_messages c ingress (heard_of v) (kept_reply_of k)) kept))
    (same ∙ sym (ap (λ (u : Verdict). next_by u c s v) repeat))

next_by-not_new : (w : Verdict) (c : Clock) (s : State) (v : Message)
    → (w ≡ verdicts.AnsweredNew → ⊥)
    → next_by w c s v ≡ s
next_by-not_new verdicts.AnsweredNew c s v other = absurd (other refl)
next_by-not_new _ c s v other = refl

pub turned_other : (c : Clock) (s : State) (ingress : ℕ) (datagram : List ℕ) (v : Message)
    (w : Verdict) (out : List (ℕ × List ℕ)) (next : State)
    → reading datagram ≡ Ok v
    → w ≡ judged c s v
    → (w ≡ verdicts.AnsweredNew → ⊥)
    → out
    ≡ forwarded c.identity ingress s.sets datagram
    ++ reply_messages c ingress (heard_of v) (reply_by w c s v)
    → next ≡ s
    → IsTurned (turn c s ingress datagram) w out next
turned_other c s ingress datagram v w out next e verdict other sent same =
    turned_at c s ingress datagram v w out next e verdict sent (same ∙ sym (next_by-not_new w c s v other))

-- ---- whose entries there are

pub AreOfManagers-judged : (c : Clock) (s : State) (v : Message)
    → AreOfManagers c s.entries
    → AreOfManagers c (next_by (judged c s v) c s v).entries
AreOfManagers-judged c s v before = grind (arith, next_by-no_copy, get-insert_other, same_identity-true)

-- ---- what a turn keeps of a clock

next_by-ports : (w : Verdict) (c : Clock) (s : State) (v : Message)
    → length (next_by w c s v).sets.ports ≡ length s.sets.ports
next_by-ports verdicts.AnsweredNew c s v = changed_by-ports (request_of v) (c.rights v.source) s.sets
next_by-ports _ c s v = refl

-- it has as many ports as before
pub turn-ports : (c : Clock) (s : State) (ingress : ℕ) (datagram : List ℕ)
    → length (turn c s ingress datagram).next.sets.ports ≡ length s.sets.ports
turn-ports c s ingress datagram = turn-next (λ (t : State). length t.sets.ports ≡ length s.sets.ports) c s ingress datagram refl (λ v e. next_by-ports (judged c s v) c s v)
