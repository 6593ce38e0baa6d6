-- A session takes for the answer what holds the reply to its request by its fields, and nothing else.
use Rattle.std.proofs.Common.{arith, ◌≡◌, ◌≢◌, ℕ, ◌==◌, Bool, true, false, not, List, [], ◌∷◌, Option, Some, None, is_some, Result, Ok, Err, refl, ◌∙◌, ap}
use Rattle.std.specs.List.{AllByRecursion}
use Rattle.std.proofs.lemmas.Bool.{and_from, and_parts, cases_Bool, eq-eqb, eqb-true, not-false, or_left, or_right}
use Rattle.ptpm_codec.specs.declared.error.DecodeError.{DecodeError}
use Rattle.ptpm_codec.specs.declared.message.Message.{Message}
use Rattle.ptpm_codec.specs.declared.identity.PortIdentity.{PortIdentity}
use Rattle.ptpm_codec.specs.Identity.{every_port, same_identity}
use Rattle.ptpm_codec.specs.Message.{action_of, id_of, is_reply}
use Rattle.ptpm_codec.specs.Ordered.{first_of}
use Rattle.ptpm_codec.specs.Reading.{reading}
use Rattle.ptpm_codec.specs.SequenceNumber.{number_of}
use Rattle.ptpm_codec.proofs.MessageLaws.{same_clock-refl, same_clock-true, same_identity-true}
use Rattle.ptpm_codec.proofs.RefusalLaws.{first_of-none}
use Rattle.ptpm_data.specs.ManagementId.{is_of_port}
use Rattle.ptpm_data.specs.Request.{RequestValue}
use Rattle.ptpm_manager.specs.declared.receiving.Reason.{Reason}
use Rattle.ptpm_manager.specs.declared.receiving.Reason.TheVariants as reasons
use Rattle.ptpm_manager.specs.declared.receiving.Received.{Received}
use Rattle.ptpm_manager.specs.declared.receiving.Received.TheVariants as received
use Rattle.ptpm_manager.specs.declared.report.Report.{Report}
use Rattle.ptpm_manager.specs.Receiving.{answer_by, answer_to, is_answered_by, is_content, is_from_asked_port, is_from_target, is_in_domain, left_by, reason_of, received_of}
use Rattle.ptpm_manager.specs.Reply.{HoldsReply, IsReplyTo}
use Rattle.ptpm_manager.specs.Session.{SessionValue, is_waiting}

-- ---- the tests of a session, one by one

-- none of the reasons to ignore a message holds
pub record IsAccepted (s : SessionValue) (v : Message) : Type 0 where
  pub domain : is_in_domain s.domain v ≡ true
  pub reply : is_reply (action_of v.body) ≡ true
  pub target : same_identity v.target s.setup.me ≡ true
  pub source : is_from_target s v.source ≡ true
  pub waiting : is_waiting s ≡ true
  pub number : v.number == number_of s.setup.first s.issued ≡ true
  pub content : is_content s.unanswered (action_of v.body) (id_of v.body) ≡ true

pub no_reason : (s : SessionValue) (v : Message) → IsAccepted s v → reason_of s v ≡ None
unfolding reason_of
no_reason s v a = rw (a.domain, a.reply, a.target, a.source, a.waiting, a.number, a.content)

-- if no reason is found, each test of the list fails
none_holds : {A : Type 0} (tests : List (Bool × A)) → first_of tests ≡ None → AllByRecursion (λ (t : Bool × A). t.0 ≡ false) tests
none_holds [] e = tt
none_holds (t ∷ ts) e = let p = first_of-none t.0 t.1 ts e in (p.0, none_holds ts p.1)

pub is_accepted : (s : SessionValue) (v : Message) → reason_of s v ≡ None → IsAccepted s v
unfolding reason_of
is_accepted s v e =
    let tests : List (Bool × Reason) =
    (not (is_in_domain s.domain v), reasons.OtherDomain) ∷ (not (is_reply (action_of v.body)), reasons.NotAReply)
    ∷ (not (same_identity v.target s.setup.me), reasons.OtherTarget) ∷ (not (is_from_target s v.source), reasons.OtherSource)
    ∷ (not (is_waiting s), reasons.NothingAsked) ∷ (not (v.number == number_of s.setup.first s.issued), reasons.OtherNumber)
    ∷ (not (is_content s.unanswered (action_of v.body) (id_of v.body)), reasons.OtherContent) ∷ [] in
    let p = none_holds tests e in grind (arith, not-false)

-- ---- the tests, and the fields

same_identity-refl : (a : PortIdentity) → same_identity a a ≡ true
same_identity-refl a = and_from _ _ (same_clock-refl a.clock) (eq-eqb a.port a.port refl)

answers-reply : (asked reply : _) → is_answered_by asked reply ≡ true → is_reply reply ≡ true
answers-reply asked reply e = grind arith

port-asked : (q : RequestValue) (port : ℕ)
    → (is_of_port q.id ≡ true → q.port ≢ every_port → port ≡ q.port)
    → is_from_asked_port (Some q) port ≡ true
port-asked q port h = grind (arith, or_left, or_right, eq-eqb, cases_Bool)

asked-port : (q : RequestValue) (port : ℕ)
    → is_from_asked_port (Some q) port ≡ true → is_of_port q.id ≡ true → q.port ≢ every_port
    → port ≡ q.port
asked-port q port e of one = grind (arith, eqb-true, eq-eqb)

reply-accepted : (s : SessionValue) (q : RequestValue) (v : Message)
    → s.unanswered ≡ Some q → IsReplyTo s q v
    → IsAccepted s v
reply-accepted s q v e r = grind (arith, and_from, eq-eqb, same_clock-refl, same_identity-refl, answers-reply, port-asked)

accepted-reply : (s : SessionValue) (q : RequestValue) (v : Message)
    → s.unanswered ≡ Some q → IsAccepted s v
    → IsReplyTo s q v
accepted-reply s q v e p = grind (arith, and_parts, eqb-true, same_clock-true, same_identity-true, asked-port)

asked : (o : Option RequestValue) → is_some o ≡ true → (q : RequestValue) × (o ≡ Some q)
asked None e = absurd (cc)
asked (Some q) e = (q, refl)

-- ---- datagrams

holds_by : (s : SessionValue) (datagram : List ℕ) (v : Message) (report : Report) (o : Option Reason)
    → reason_of s v ≡ o → reading datagram ≡ Ok v → answer_by o s v ≡ received.Answered report
    → HoldsReply s datagram
holds_by s datagram v report (Some reason) h e a = absurd (cc)
holds_by s datagram v report None h e a =
    let p = is_accepted s v h in
    let q = asked s.unanswered p.waiting in
    record { request = q.0; unanswered = q.1; message = v; read = e; answers = accepted-reply s q.0 v q.1 p }

holds : (s : SessionValue) (datagram : List ℕ) (report : Report) (r : Result Message DecodeError)
    → reading datagram ≡ r → answer_to s r ≡ received.Answered report
    → HoldsReply s datagram
holds s datagram report (Err cause) e a = absurd (cc)
holds s datagram report (Ok v) e a = holds_by s datagram v report (reason_of s v) refl e a

pub only_reply : (s : SessionValue) (datagram : List ℕ) (report : Report)
    → received_of s datagram ≡ received.Answered report
    → HoldsReply s datagram
only_reply s datagram report a = holds s datagram report (reading datagram) refl a

pub reply_answered : (s : SessionValue) (datagram : List ℕ)
    → HoldsReply s datagram
    → (report : Report) × (received_of s datagram ≡ received.Answered report)
reply_answered s datagram h = (
  _,
  ap (answer_to s) h.read
      ∙ ap (λ (o : Option Reason). answer_by o s h.message) (no_reason s h.message (reply-accepted s h.request h.message h.unanswered h.answers)),
)

ignored_by : (s : SessionValue) (r : Received)
    → ((report : Report) → r ≡ received.Answered report → ⊥)
    → (reason : Reason) × ((r ≡ received.Ignored reason) × (left_by s r ≡ s))
ignored_by s (received.Answered report) none = absurd (none report refl)
ignored_by s (received.Ignored reason) none = (reason, (refl, refl))

pub other_ignored : (s : SessionValue) (datagram : List ℕ)
    → (HoldsReply s datagram → ⊥)
    → (reason : Reason) × ((received_of s datagram ≡ received.Ignored reason) × (left_by s (received_of s datagram) ≡ s))
other_ignored s datagram none =
    ignored_by s (received_of s datagram) (λ report a. none (only_reply s datagram report a))
