-- A request that may be judged, and its reply: that it can be kept and sent, and that it is kept as it was sent.
use Rattle.std.proofs.Common.{arith, ◌≡◌, ℕ, length, map, Option, Some, None, Bool, true, false, refl, ap, ◌≤◌, ◌<◌, ◌^◌, ◌∙◌, suc, List, [], ◌∷◌, ◌++◌, subst, sym}
use Rattle.std.proofs.lemmas.List.Elements.{All-map}
use Rattle.std.specs.List.{All}
use Rattle.ptpm_codec.specs.declared.error.ErrorId.{ErrorId}
use Rattle.ptpm_codec.specs.declared.message.Message.{Message}
use Rattle.ptpm_codec.specs.Message.{IsRequestAction, IsValid, Fits, reply_action}
use Rattle.ptpm_data.specs.declared.rights.Rights.{Rights}
use Rattle.ptpm_data.specs.Changes.{IsTargetPort}
use Rattle.ptpm_data.specs.ManagementId.{is_of_port}
use Rattle.ptpm_data.specs.Members.{DataSetsValue}
use Rattle.ptpm_data.specs.RequestLaws.{IsOutcomeOf, IsSized, field_limit}
use Rattle.ptpm_data.specs.Replies.{answer, named_ports, reply_of, reply_to}
use Rattle.ptpm_data.specs.Reply.{Answer, Outcome, ReplyValue}
use Rattle.ptpm_data.specs.Request.{RequestValue}
use Rattle.ptpm_table.specs.Entries.{FitsAnswer, FitsOutcome, FitsRequest, FitsCount}
use Rattle.ptpm_data.proofs.Keeping.{changed_by-ports, changed_by-sized}
use Rattle.ptpm_data.proofs.ReplyLemmas.{answers_of, reply_of-count, reply_of-outcomes}
use Rattle.ptpm_agent.specs.Addressing.{is_request, names_port, request_of}
use Rattle.std.specs.Prelude.{is_some}
use Rattle.ptpm_codec.specs.declared.identity.ClockIdentity.{ClockIdentity}
use Rattle.ptpm_codec.specs.declared.message.Action.{Action}
use Rattle.ptpm_codec.specs.Canonical.{canonical}
use Rattle.ptpm_codec.specs.Envelope.{envelope_of}
use Rattle.ptpm_table.specs.declared.heard.Heard.{Heard}
use Rattle.ptpm_table.specs.declared.rendering.Sender.{Sender}
use Rattle.ptpm_table.specs.Rendering.{rendered, reply_message}
use Rattle.ptpm_table.specs.Sending.{HasSent, IsSentReply, empty_reply, last_of_port, message_like}
use Rattle.ptpm_data.specs.Reply as reply

-- ---- that a request may be judged, and its reply kept and sent

target_port : (port : ℕ) (d : DataSetsValue)
    → names_port (length d.ports) port ≡ true
    → IsTargetPort port d
target_port port d h = grind arith

-- ---- what a reply is

outcome_fits : (q : RequestValue) (limit : ℕ) (o : Outcome)
    → field_limit (is_of_port q.id) ≡ limit
    → IsOutcomeOf q o
    → FitsOutcome q.action limit o
outcome_fits q limit (reply.Value octets) l h = grind arith
outcome_fits q limit reply.Done l h = h
outcome_fits q limit (reply.Refused error) l h = tt

-- whether an answer says a port, as those of ports do
abbrev SaysPort : Bool → Answer → Type 0
SaysPort false a = a.port ≡ None
SaysPort true a = (port : ℕ) × (a.port ≡ Some port)

answer-port : (q : RequestValue) (refusal : Option ErrorId) (d : DataSetsValue) (port : ℕ)
    → SaysPort true (answer q refusal d (Some port))
unfolding answer
answer-port q refusal d port = (port, refl)

answers-port : (b : Bool) (q : RequestValue) (refusal : Option ErrorId) (d : DataSetsValue)
    → All (SaysPort b) (answers_of b q refusal d)
unfolding answer
answers-port true q refusal d =
    let ports = named_ports q.port (length d.ports) in
    All-map (SaysPort true) (answer q refusal d) (map Some ports)
    (All-map (λ own. SaysPort true (answer q refusal d own)) (λ n. Some n) ports (λ k x below. answer-port q refusal d _))
answers-port false q refusal d = grind arith

answer_fits : (b : Bool) (q : RequestValue) (a : Answer)
    → is_of_port q.id ≡ b
    → SaysPort b a
    → IsOutcomeOf q a.outcome
    → FitsAnswer b q.action a
answer_fits true q a e port outcome = (port, outcome_fits q 26 a.outcome (ap field_limit e) outcome)
answer_fits false q a e port outcome = (port, outcome_fits q 130 a.outcome (ap field_limit e) outcome)

-- ---- the same of a request as it was read

pub may_judge_action : (q : RequestValue) (v : Message)
    → q ≡ request_of v
    → is_request v ≡ true
    → IsRequestAction q.action
may_judge_action q v e h = grind arith

pub may_judge_port : (q : RequestValue) (d : DataSetsValue) (v : Message)
    → q ≡ request_of v
    → names_port (length d.ports) v.target.port ≡ true
    → IsTargetPort q.port d
may_judge_port q d v e h = grind arith

pub fits_numbered : (q : RequestValue) (r : Rights) (d : DataSetsValue) (v : Message)
    (reply : ReplyValue)
    → q ≡ request_of v
    → IsSized d
    → is_request v ≡ true
    → names_port (length d.ports) v.target.port ≡ true
    → IsValid v
    → reply ≡ reply_to q r d
    → FitsRequest q reply
unfolding reply_of reply_to
fits_numbered q r d v reply e sized request port valid is = grind (arith, changed_by-sized, changed_by-ports, reply_of-count, answer_fits, answers-port, reply_of-outcomes)

-- ---- if a request is answered, what is sent is the reply, and it is kept as it was sent

-- a sender of the answers of this clock, action and id, as it is made
pub record IsSenderOf {O : Type 0} (shown : O → List (ℕ × List ℕ)) (s : Sender O) (me : ClockIdentity) (heard : Heard) (action : Action) (id ingress : ℕ) (held : List (ℕ × List ℕ)) : Type 0 where
  pub held_is : shown s.out.now ≡ held
  pub ingress_is : s.ingress ≡ ingress
  pub id_is : s.id ≡ id
  pub envelope_is : s.envelope ≡ envelope_of (empty_reply me heard action id ingress) action id
  pub fits : Fits (empty_reply me heard action id ingress)

pub sender_as_made : {O : Type 0} (shown : O → List (ℕ × List ℕ)) (s : Sender O) (me mine : ClockIdentity) (heard : Heard) (action : Action) (id ingress : ℕ)
    (held before : List (ℕ × List ℕ))
    → shown s.out.now ≡ before → before ≡ held
    → s.ingress ≡ ingress → s.id ≡ id
    → s.envelope ≡ envelope_of (empty_reply mine heard action id ingress) action id
    → Fits (empty_reply mine heard action id ingress)
    → mine ≡ me
    → IsSenderOf shown s me heard action id ingress held
sender_as_made shown s me mine heard action id ingress held before out same at named envelope fits own =
    subst (λ (m : ClockIdentity). IsSenderOf shown s m heard action id ingress held) own
    (record { held_is = out ∙ same; ingress_is = at; id_is = named; envelope_is = envelope; fits = fits })

messages_rendered : (me : ClockIdentity) (heard : Heard) (r : ReplyValue) (ingress : ℕ)
    → map (λ a. (ingress, canonical (message_like (empty_reply me heard r.action r.id ingress) r.action r.id ingress a))) r.answers
    ≡ rendered me heard r ingress
unfolding rendered
messages_rendered me heard r ingress = refl

sent_by : {O : Type 0} (shown : O → List (ℕ × List ℕ)) (grown : O → O → Type 0) (s t : Sender O) (me : ClockIdentity) (heard : Heard) (r : ReplyValue) (ingress : ℕ)
    (held : List (ℕ × List ℕ))
    → IsSenderOf shown s me heard r.action r.id ingress held
    → HasSent shown grown s r.answers t
    → shown t.out.now ≡ held ++ rendered me heard r ingress
sent_by shown grown s t me heard r ingress held is sent =
    let v = empty_reply me heard r.action r.id ingress in
    sent.messages v r.action is.fits (is.envelope_is ∙ ap (λ (id : ℕ). envelope_of v r.action id) (sym is.id_is))
    ∙ (λ i. is.held_is i ++ map (λ a. (is.ingress_is i, canonical (message_like v r.action (is.id_is i) (is.ingress_is i) a))) r.answers)
    ∙ ap (λ ms. held ++ ms) (messages_rendered me heard r ingress)

-- a reply of this action and id, by its answers
pub sent_rendered : {O : Type 0} (shown : O → List (ℕ × List ℕ)) (grown : O → O → Type 0) (s t : Sender O) (me : ClockIdentity) (heard : Heard) (r : ReplyValue)
    (action : Action) (id ingress : ℕ) (held : List (ℕ × List ℕ))
    → record { action = action; id = id; answers = r.answers } ≡ r
    → IsSenderOf shown s me heard action id ingress held
    → HasSent shown grown s r.answers t
    → shown t.out.now ≡ held ++ rendered me heard r ingress
sent_rendered shown grown s t me heard r action id ingress held parts is sent =
    sent_by shown grown s t me heard (record { action = action; id = id; answers = r.answers }) ingress held is sent
    ∙ ap (λ (x : ReplyValue). held ++ rendered me heard x ingress) parts

-- ---- what is kept

all_of_port : (b : Bool) (action : Action) (last : Bool) (xs : List Answer)
    → last ≡ b
    → All (FitsAnswer b action) xs
    → last_of_port last xs ≡ b
all_of_port b action last [] is fits = is
all_of_port true action last (a ∷ xs) is fits =
    all_of_port true action (is_some a.port) xs (ap is_some (fits 0 a (omega arith)).0.1) (λ k d below. fits (suc k) d (omega (arith, below)))
all_of_port false action last (a ∷ xs) is fits =
    all_of_port false action (is_some a.port) xs (ap is_some (fits 0 a (omega arith)).0) (λ k d below. fits (suc k) d (omega (arith, below)))

some_of_port : (b : Bool) (action : Action) (last : Bool) (xs : List Answer)
    → 1 ≤ length xs
    → All (FitsAnswer b action) xs
    → last_of_port last xs ≡ b
some_of_port b action last [] some fits = absurd (omega (arith, some))
some_of_port true action last (a ∷ xs) some fits =
    all_of_port true action (is_some a.port) xs (ap is_some (fits 0 a (omega arith)).0.1) (λ k d below. fits (suc k) d (omega (arith, below)))
some_of_port false action last (a ∷ xs) some fits =
    all_of_port false action (is_some a.port) xs (ap is_some (fits 0 a (omega arith)).0) (λ k d below. fits (suc k) d (omega (arith, below)))

count_some : (b : Bool) (count : ℕ) → FitsCount b count → 1 ≤ count
count_some true count fits = fits.0
count_some false count fits = omega (arith, fits)

all_fit : {O : Type 0} (shown : O → List (ℕ × List ℕ)) (grown : O → O → Type 0) (s t : Sender O) (me : ClockIdentity) (heard : Heard) (r : ReplyValue) (ingress : ℕ)
    (held : List (ℕ × List ℕ))
    → IsSenderOf shown s me heard r.action r.id ingress held
    → HasSent shown grown s r.answers t
    → All (λ a. Fits (reply_message me heard r.action r.id ingress a)) r.answers
all_fit shown grown s t me heard r ingress held is sent =
    let v = empty_reply me heard r.action r.id ingress in
    subst (λ (p : ℕ × ℕ). All (λ a. Fits (message_like v r.action p.0 p.1 a)) r.answers) (λ i. (is.id_is i, is.ingress_is i))
    (sent.fits v r.action is.fits (subst (λ (id : ℕ). id < 2 ^ 16) (sym is.id_is) is.fits.body))

-- the last answer that was sent is of a port if the id is
pub sent_of_port : {O : Type 0} (shown : O → List (ℕ × List ℕ)) (grown : O → O → Type 0) (q : RequestValue) (s t : Sender O) (r : ReplyValue)
    → FitsRequest q r
    → HasSent shown grown s r.answers t
    → t.of_port ≡ is_of_port q.id
sent_of_port shown grown q s t r fits sent =
    sent.of_port ∙ some_of_port (is_of_port q.id) q.action s.of_port r.answers (count_some (is_of_port q.id) (length r.answers) fits.count) fits.answers

pub sent_reply : {O : Type 0} (shown : O → List (ℕ × List ℕ)) (grown : O → O → Type 0) (q : RequestValue) (s t : Sender O) (me : ClockIdentity) (heard : Heard) (r : ReplyValue)
    (ingress : ℕ) (of_port : Bool) (messages : List (ℕ × List ℕ))
    → IsSenderOf shown s me heard (reply_action q.action) q.id ingress []
    → FitsRequest q r
    → HasSent shown grown s r.answers t
    → of_port ≡ t.of_port
    → messages ≡ shown t.out.now
    → IsSentReply me heard q.action q.id of_port messages r
sent_reply shown grown q s t me heard r ingress of_port messages is fits sent port held =
    let own : of_port ≡ is_of_port q.id = port ∙ sent_of_port shown grown q s t r fits sent in
    let named : IsSenderOf shown s me heard r.action r.id ingress [] = grind arith in
    record {
      ingress = ingress;
      action_is = fits.action;
      id_is = fits.id;
      port_is = own;
      count = grind arith;
      answers = grind arith;
      fits = all_fit shown grown s t me heard r ingress [] named sent;
      messages_are = held ∙ sent_by shown grown s t me heard r ingress [] named sent;
    }
