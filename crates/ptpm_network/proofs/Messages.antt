-- Requests and replies: what they say as octets, what stays of them as they are passed on, and what a request keeps of the data sets.
use Rattle.ptpm_network.proofs.Common.{by_test, arith, ◌≡◌, ℕ, ◌<◌, ◌-◌, ◌^◌, List, [], Option, Some, None, true, refl, sym, ◌∙◌, ap, subst, length, cond-true, cond-false, ltb-true, append-nil, get_or-set_other, get_or-set_same, length-set, take_all, slice_set, AllByRecursion, ErrorId, ClockIdentity, Action, Message, canonical, boundary_hops, message_length, message_octets, Fits, IsValid, error_number, action_of, is_reply, message_of, Spells, canonical_octets, canonical_spells, number_at-octets, octet-take, message_of-some, message_of-spells, message_size, spells-message_of, DataSetsValue, Answer, Outcome, ReplyValue, RequestValue, Heard, reply_action-is_reply, answer_body, reply_message, egress_ports, forwarded, forwarded_by, is_forwarded, with_less_hop, request_message, Answers, IsSendable, IsAsked, IsMessage, IsNetwork, Network, all_made, PORTS, or_cases, ⊎_elim, and_parts, names_port, every_port, eqb-true, ◌==◌, ◌&&◌, nat_le, leb-true, zero, suc, ◌+◌, ◌≤◌, Bool, false, map, length-map, filter, range_with_len, IsDataField, changed_by, is_named, data_field_at, is_of_port, refusal_of, answer, named_ports, outcome, read_refusal, read_reply_to, reply_of, reply_to, changed_by-ports, changed_by-sized, AreDataSets, HasOneAnswer, IsForOne, IsSendableOutcome, filter-few, length-range_with_len}
use Rattle.ptpm_codec.proofs.RewritingLaws.{less_hop_message, set_hops}
use Rattle.ptpm_network.proofs.Lists.{and_first, and_rest, all_of}
use Rattle.ptpm_data.specs.declared.rights.Rights.{Rights}
use Rattle.ptpm_data.specs.Observation.{observed}
use Rattle.ptpm_data.specs.ObservationBack.{Observation}
use Rattle.ptpm_data.specs.ObservationLaws.{IsSizedObservation}
use Rattle.ptpm_data.specs.RequestLaws.{IsFieldWithin, IsSized, field_limit}
use Rattle.ptpm_data.proofs.FieldSizes.{of_id}
use Rattle.ptpm_data.proofs.Observed.{observed-ports, observed-sized}
use Rattle.ptpm_data.proofs.ReplyLemmas.{answers_of, reply_of-one}
use Rattle.ptpm_manager.specs.declared.setup.TheConstants.{TARGET_PORTS}
use Rattle.ptpm_codec.specs.declared.error.ErrorId.TheVariants as errors
use Rattle.ptpm_data.specs.Reply as reply
use Rattle.ptpm_codec.specs.declared.message.Action.TheVariants as actions

-- ---- what requests and replies say as octets, and what stays of them as they are passed on

-- ---- canonical spellings

pub canonical-message : (v : Message) → IsValid v → Fits v → IsMessage (canonical v) v
canonical-message v valid fits =
    let whole : message_octets (canonical v) ≡ canonical v = subst (λ m. message_octets m ≡ canonical v) (append-nil (canonical v)) (canonical_octets v [] valid fits) in
    record {
      read = spells-message_of v (canonical v) (subst (Spells v) (sym whole) (canonical_spells v valid fits));
      whole = whole;
      fits = fits;
    }

-- ---- one hop less

pub message-hops : (v : Message) (d : List ℕ) → message_of d ≡ Some v → v.hops ≡ boundary_hops d
message-hops v d e = grind (arith, message_size, message_of-some, message_of-spells, octet-take)

pub less_hop-canonical : (v : Message)
    → IsValid v → Fits v
    → with_less_hop (canonical v) ≡ canonical (record v { hops = v.hops - 1 })
less_hop-canonical v valid fits =
    ap (λ m. slice_set m 45 (boundary_hops (canonical v) - 1)) (canonical-message v valid fits).whole
    ∙ ap (λ n. slice_set (canonical v) 45 (n - 1)) (sym (canonical_spells v valid fits).hops)
    ∙ set_hops v (v.hops - 1) fits

message_length-set : (m : List ℕ) (n : ℕ) → message_length (slice_set m 45 n) ≡ message_length m
message_length-set m n = grind (arith, get_or-set_other, number_at-octets, slice_set)

module _ (v : Message) (d : List ℕ) (e : message_of d ≡ Some v) where
  pub less_hop-message : Fits v → IsMessage (with_less_hop d) (record v { hops = v.hops - 1 })
  less_hop-message fits =
      let m = message_octets d in
      let n = boundary_hops d - 1 in
      let size : length (slice_set m 45 n) ≡ length m = length-set m 45 n in
      let number : message_length (slice_set m 45 n) ≡ length m = message_length-set m n ∙ (message_of-spells v d e).message_length in grind (arith, less_hop_message, take_all)

  pub less_hop-hops : boundary_hops (with_less_hop d) ≡ boundary_hops d - 1
  less_hop-hops =
      let low = (message_of-spells v d e).at_least in grind (arith, get_or-set_same)

-- what a clock passes on is one message with one hop less
pub record IsPassedOn (d : List ℕ) (sent : ℕ × List ℕ) : Type 0 where
  pub message : Message
  pub read : message_of d ≡ Some message
  pub hop : 0 < message.hops
  pub octets : sent.1 ≡ with_less_hop d

passed_on-by : (me : ClockIdentity) (port : ℕ) (sets : DataSetsValue) (d : List ℕ)
    (o : Option Message)
    → message_of d ≡ o
    → AllByRecursion (IsPassedOn d) (forwarded_by me port sets d o)
passed_on-by me port sets d None e = tt
passed_on-by me port sets d (Some v) e = by_test (is_forwarded me port sets v)
    (λ y. let hop = ltb-true 0 v.hops (search (and_first, and_rest)) in
    subst (AllByRecursion (IsPassedOn d)) (sym (cond-true _ _ _ y))
    (all_made (λ p. Unit {0}) (IsPassedOn d) _ (λ p is. record { message = v; read = e; hop = hop; octets = refl }) (egress_ports port sets) (all_of _ (λ p. tt) _)))
    (λ n. grind (arith, cond-false))

pub passed_on : (me : ClockIdentity) (port : ℕ) (sets : DataSetsValue) (d : List ℕ)
    → AllByRecursion (IsPassedOn d) (forwarded me port sets d)
unfolding forwarded
passed_on me port sets d = passed_on-by me port sets d (message_of d) refl

-- ---- requests

-- the message of request k of a session
abbrev pub request_at : Network → ℕ → ℕ → ℕ → ℕ → RequestValue → Message
request_at N s k domain hops q = record (request_message (N.session s).setup domain k q) { hops = hops }

module _ (N : Network) (s k domain hops ports : ℕ) (q : RequestValue) where
  pub request-valid : IsAsked ports q → IsValid (request_at N s k domain hops q)
  request-valid asked = record { sdo = omega arith; body = (asked.action, asked.octets) }

  pub request-fits : IsNetwork N
      → s < N.sessions → IsAsked ports q
      → Fits (request_at N s k domain hops q)
  request-fits n place asked =
      let session = n.are_sessions s place in
      let clock = n.are_clocks (N.session s).target session.exists in grind arith

-- ---- replies

error_number-fits : (e : ErrorId) → error_number e < 2 ^ 16
error_number-fits errors.ResponseTooBig = omega arith
error_number-fits _ = omega arith

pub action_of-answer_body : (action : Action) (id : ℕ) (o : Outcome)
    → action_of (answer_body action id o) ≡ action
action_of-answer_body action id (reply.Value octets) = refl
action_of-answer_body action id _ = refl

-- what is answered is a reply
pub answer_body-is_reply : (q : RequestValue) (r : ReplyValue) (o : Outcome)
    → Answers q r
    → is_reply (action_of (answer_body r.action r.id o)) ≡ true
answer_body-is_reply q r o answers = ap is_reply (action_of-answer_body r.action r.id o ∙ answers.action) ∙ reply_action-is_reply q.action

-- the message of one answer
abbrev pub reply_at : ClockIdentity → Heard → ReplyValue → ℕ → ℕ → Answer → Message
reply_at me heard r ingress hops a = record (reply_message me heard r.action r.id ingress a) { hops = hops }

module _ (me : ClockIdentity) (heard : Heard) (q : RequestValue) (r : ReplyValue) (ingress hops : ℕ) (a : Answer) where
  pub reply-valid : Answers q r → IsSendable a → IsValid (reply_at me heard r ingress hops a)
  reply-valid answers sendable = grind (arith, reply_action-is_reply)

  pub reply-fits : length me.0 ≡ 8
      → length heard.source.clock.0 ≡ 8 → heard.source.port < 2 ^ 16 → heard.number < 2 ^ 16
      → ingress < 2 ^ 16 → q.id < 2 ^ 16 → Answers q r → IsSendable a
      → Fits (reply_at me heard r ingress hops a)
  reply-fits identity source port number in' id answers sendable = grind (arith, error_number-fits)

-- ---- what a request keeps of the data sets, and what its reply says

-- ---- data sets of a number of ports

sized : (ports : ℕ) (d : DataSetsValue) → AreDataSets ports d → IsSized d
sized ports d s = search (arith, s)

pub kept : (q : RequestValue) (r : Rights) (ports : ℕ) (d : DataSetsValue)
    → AreDataSets ports d
    → AreDataSets ports (changed_by q r d)
kept q r ports d s = grind (arith, changed_by-sized, sized, changed_by-ports)

-- what is observed keeps them
pub observed-kept : (o : Observation) (ports : ℕ) (d : DataSetsValue)
    → IsSizedObservation o.clock → AreDataSets ports d
    → AreDataSets ports (observed o.clock o.ports d)
observed-kept o ports d fits s =
    let after = observed-sized o.clock o.ports d fits (sized ports d s) in
    let count : length (observed o.clock o.ports d).ports ≡ ports = observed-ports o.clock o.ports d ∙ s.ports_are in
    record {
      identity = after.identity;
      parent = after.parent;
      grandmaster = after.grandmaster;
      description = after.text;
      ports_are = count;
      some_port = s.some_port;
      few_ports = s.few_ports;
    }

-- ---- what an answer says

field_fits : (b : Bool) (octets : List ℕ)
    → IsFieldWithin (field_limit b) octets
    → IsDataField octets
field_fits true octets f = let small : length octets ≤ 26 = f.small in record { even = f.even; small = omega arith }
field_fits false octets f = let small : length octets ≤ 130 = f.small in record { even = f.even; small = omega arith }

shown : (id : ℕ) (port : Option ℕ) (d : DataSetsValue) → IsSized d
    → IsDataField (data_field_at id port d)
shown id port d s = field_fits (is_of_port id) (data_field_at id port d) (of_id id port d s)

outcome-sendable : (refusal : Option ErrorId) (action : Action) (octets : List ℕ)
    → IsDataField octets → IsSendableOutcome (outcome refusal action octets)
outcome-sendable (Some error) action octets fits = tt
outcome-sendable None actions.Command octets fits = tt
outcome-sendable None _ octets fits = fits

-- ---- whose it is

named-small : (port a n : ℕ)
    → a + n < 2 ^ 16
    → AllByRecursion (λ k. k < 2 ^ 16) (filter (is_named port) (range_with_len a n))
named-small port a zero below = tt
named-small port a (suc n) below =
    let first : a < 2 ^ 16 = omega arith in
    let others = named-small port (a + 1) n (omega arith) in grind (arith, cond-true, cond-false)

-- ---- the whole reply

answers-sendable : (b : Bool) (q : RequestValue) (refusal : Option ErrorId) (d : DataSetsValue)
    → IsSized d → AllByRecursion IsSendable (answers_of b q refusal d)
unfolding answer named_ports
answers-sendable true q refusal d s =
    let P : Option ℕ → Type 0 = λ own. IsSendable (answer q refusal d own) in
    let named = named_ports q.port (length d.ports) in
    all_made P IsSendable (answer q refusal d) (λ own fits. fits) (map Some named)
    (all_made (λ k. k < 2 ^ 16) P (λ k. Some k)
    (λ k small. grind (arith, outcome-sendable, shown))
    named (named-small q.port 1 (length d.ports) (omega (arith, s.few_ports))))
answers-sendable false q refusal d s = (record { port = tt; outcome = outcome-sendable refusal q.action _ (shown q.id None d s) }, tt)

reply_of-answers : (q : RequestValue) (refusal : Option ErrorId) (d : DataSetsValue)
    → IsSized d
    → Answers q (reply_of q refusal d)
unfolding reply_of
reply_of-answers q refusal d s = record { action = refl; id = refl; sendable = answers-sendable (is_of_port q.id) q refusal d s }

pub answered : (q : RequestValue) (r : Rights) (ports : ℕ) (d : DataSetsValue)
    → AreDataSets ports d
    → Answers q (reply_to q r d)
unfolding reply_to
answered q r ports d s = reply_of-answers q (refusal_of q r) (changed_by q r d) (changed_by-sized q r d (sized ports d s))

pub read_answered : (q : RequestValue) (ports : ℕ) (d : DataSetsValue)
    → AreDataSets ports d
    → Answers q (read_reply_to q d)
unfolding read_reply_to
read_answered q ports d s = reply_of-answers q (read_refusal q) d (sized ports d s)

-- ---- one answer

-- a port that a manager takes a clock to have, and that a clock has
pub for_one-there : (expected ports : ℕ) (q : RequestValue)
    → IsForOne expected q → expected ≤ TARGET_PORTS → names_port ports q.port ≡ true
    → IsForOne ports q
for_one-there expected ports q one few named = λ is. ⊎_elim
    (λ (every : q.port == every_port ≡ true). absurd (omega (arith, (one is).1, eqb-true q.port every_port every, few)))
    (λ (has : nat_le 1 q.port && nat_le q.port ports ≡ true). let parts = and_parts _ _ has in (leb-true 1 q.port parts.0, leb-true q.port ports parts.1))
    (or_cases (q.port == every_port) _ named)

pub once : (q : RequestValue) (r : Rights) (ports : ℕ) (d : DataSetsValue)
    → AreDataSets ports d → IsForOne ports q
    → HasOneAnswer q (reply_to q r d)
unfolding reply_to
once q r ports d s one =
    let after = kept q r ports d s in
    let has : is_of_port q.id ≡ true → (1 ≤ q.port) × (q.port ≤ length (changed_by q r d).ports) = grind arith in
    let one' = reply_of-one q (refusal_of q r) (changed_by q r d) has (sized ports (changed_by q r d) after).few_ports in grind arith

-- ---- at most as many as a clock has ports

pub read_few : (most : ℕ) (q : RequestValue) (d : DataSetsValue)
    → 1 ≤ most
    → length d.ports ≤ most
    → length (read_reply_to q d).answers ≤ most
unfolding named_ports read_reply_to reply_of
read_few most q d some few = grind (arith, length-map, filter-few, length-range_with_len)
