-- What holds of every reply, and of the ports that its target port means.
use Rattle.std.proofs.Common.{◌≡◌, ◌∙◌, sym, ap, refl, ℕ, zero, suc, ◌+◌, ◌-◌, ◌<◌, ◌≤◌, true, false, ◌==◌, List, [], take, drop, take_all, append-nil, ◌∷◌, ◌++◌, map, length, get_or, set, inl, inr, arith, Option, Some, Bool, if◌then◌else◌, None}
use Rattle.std.specs.List.{filter, range_with_len, enumerate_from, All}
use Rattle.std.proofs.lemmas.Bool.{cond-false, cond-true, or_from, ne_eqb, eq-eqb, cases_lt}
use Rattle.ptpm_data.specs.Changes.{is_named, IsTargetOf, changed_if, named_changed, IsTargetPort}
use Rattle.ptpm_data.specs.declared.data_sets.PortDataSet.{PortDataSet}
use Rattle.std.proofs.lemmas.List.{length-map, map-append, drop_all}
use Rattle.std.proofs.lemmas.List.FromFn.{length-range_with_len, map-range_with_len_more}
use Rattle.ptpm_codec.specs.declared.error.ErrorId.{ErrorId}
use Rattle.ptpm_data.specs.Members.{DataSetsValue, HasPort}
use Rattle.ptpm_data.specs.Request.{RequestValue}
use Rattle.ptpm_data.specs.Replies.{named_ports, answer, answerers, outcome, reply_of}
use Rattle.std.proofs.lemmas.List.Elements.{All-map}
use Rattle.ptpm_codec.specs.Message.{IsRequestAction}
use Rattle.ptpm_codec.specs.declared.message.Action.{Action}
use Rattle.ptpm_data.specs.declared.ports.TheConstants.{PORTS}
use Rattle.ptpm_data.specs.ManagementId.{is_of_port}
use Rattle.ptpm_data.specs.Reply.{Outcome, Answer}
use Rattle.ptpm_data.specs.DataField.{data_field_at}
use Rattle.ptpm_data.specs.RequestLaws.{IsSized, IsForOne, IsOneAnswer, IsOutcomeOf, answerer}
use Rattle.ptpm_data.proofs.FieldSizes.{of_id}
use Rattle.ptpm_codec.specs.declared.message.Action.TheVariants as actions

-- ---- the ports that a target port means: all of them for 0xFFFF, else the one of that number

-- ---- which numbers are named

every_named : (a n : ℕ) → filter (is_named 0xffff) (range_with_len a n) ≡ range_with_len a n
every_named a zero = refl
every_named a (suc n) = ap (λ (xs : List ℕ). a ∷ xs) (every_named (a + 1) n)

not_named : (port n : ℕ) → (port == 0xffff) ≡ false → (port ≡ n → ⊥) → is_named port n ≡ false
not_named port n one other = or_from _ _ one (ne_eqb port n other)

own_named : (port n : ℕ) → port ≡ n → is_named port n ≡ true
own_named port n e = grind (arith, eq-eqb)

none_named : (port a n : ℕ)
    → (port == 0xffff) ≡ false
    → port < a
    → filter (is_named port) (range_with_len a n) ≡ []
none_named port a zero one below = refl
none_named port a (suc n) one below =
    cond-false _ _ _ (not_named port a one (λ e. omega arith)) ∙ none_named port (a + 1) n one (omega arith)

one_named : (port a n : ℕ)
    → (port == 0xffff) ≡ false
    → a ≤ port
    → port < a + n
    → filter (is_named port) (range_with_len a n) ≡ port ∷ []
one_named port a zero one low high = absurd (omega arith)
one_named port a (suc n) one low high =
    elim (cases_lt a port) [
      | inl above ↦
          cond-false _ _ _ (not_named port a one (λ e. omega arith)) ∙ one_named port (a + 1) n one (omega arith) (omega arith)
      | inr here ↦
          let e : port ≡ a = omega arith in
          cond-true _ _ _ (own_named port a e)
          ∙ (ap (λ (xs : List ℕ). a ∷ xs) (none_named port (a + 1) n one (omega arith)) ∙ ap (λ (x : ℕ). x ∷ []) (sym e))
    ]

-- ---- as ranges

pub named_ports-every : (port n k : ℕ)
    → port ≡ 0xffff
    → k ≡ n
    → named_ports port n ≡ range_with_len 1 (k + 1 - 1)
unfolding named_ports
named_ports-every port n k e same = grind (arith, every_named)

pub named_ports-one : (port n : ℕ)
    → (port ≡ 0xffff → ⊥)
    → IsTargetOf port n
    → named_ports port n ≡ range_with_len port (port + 1 - port)
unfolding named_ports
named_ports-one port n other target = grind (arith, one_named, ne_eqb)

-- ---- the answers of N ports, one after another

pub answers-after : (q : RequestValue) (refusal : Option ErrorId) (d : DataSetsValue) (first n m port : ℕ)
    → first + n ≡ port
    → m ≡ n + 1
    → map (answer q refusal d) (map Some (range_with_len first n)) ++ answer q refusal d (Some port) ∷ []
    ≡ map (answer q refusal d) (map Some (range_with_len first m))
answers-after q refusal d first n m port here one =
    let ports : map Some (range_with_len first m) ≡ map Some (range_with_len first n) ++ Some port ∷ [] = rw one (map-range_with_len_more (λ k. Some k) first n port here) in grind (arith, map-append)

pub answers-count : (q : RequestValue) (refusal : Option ErrorId) (d : DataSetsValue) (first n : ℕ)
    → length (map (answer q refusal d) (map Some (range_with_len first n))) ≡ n
answers-count q refusal d first n = length-map (map Some (range_with_len first n)) (answer q refusal d) ∙ (length-map (range_with_len first n) (λ k. Some k) ∙ length-range_with_len first n)

-- ---- a change of the named ports

every_changed : (change : PortDataSet → PortDataSet) (k : ℕ) (ports : List PortDataSet)
    → map (λ e. changed_if (is_named 0xffff e.0) change e.1) (enumerate_from k ports)
    ≡ map change ports
every_changed change k [] = refl
every_changed change k (p ∷ ps) = ap (λ (xs : List PortDataSet). change p ∷ xs) (every_changed change (k + 1) ps)

pub named_changed-every : (port : ℕ) (change : PortDataSet → PortDataSet) (ports : List PortDataSet)
    → port ≡ 0xffff
    → named_changed port change ports ≡ map change ports
unfolding named_changed
named_changed-every port change ports e = rw e (every_changed change 1 ports)

none_changed : (port : ℕ) (change : PortDataSet → PortDataSet) (k : ℕ) (ports : List PortDataSet)
    → (port == 0xffff) ≡ false
    → port < k
    → map (λ e. changed_if (is_named port e.0) change e.1) (enumerate_from k ports) ≡ ports
none_changed port change k [] one below = refl
none_changed port change k (p ∷ ps) one below =
    rw (not_named port k one (λ e. omega arith)) (ap (λ (xs : List PortDataSet). p ∷ xs) (none_changed port change (k + 1) ps one (omega arith)))

one_changed : (port : ℕ) (change : PortDataSet → PortDataSet) (k i : ℕ) (ports : List PortDataSet)
    (p : PortDataSet)
    → (port == 0xffff) ≡ false
    → k + i ≡ port
    → i < length ports
    → map (λ e. changed_if (is_named port e.0) change e.1) (enumerate_from k ports)
    ≡ set ports i (change (get_or ports i p))
one_changed port change k i [] p one here below = absurd (omega arith)
one_changed port change k zero (q ∷ ps) p one here below = grind (arith, own_named, none_changed)
one_changed port change k (suc i) (q ∷ ps) p one here below =
    rw (not_named port k one (λ e. omega arith)) (ap (λ (xs : List PortDataSet). q ∷ xs) (one_changed port change (k + 1) i ps p one (omega arith) (omega arith)))

pub named_changed-one : (port : ℕ) (change : PortDataSet → PortDataSet) (ports : List PortDataSet)
    (p : PortDataSet)
    → (port ≡ 0xffff → ⊥)
    → IsTargetOf port (length ports)
    → named_changed port change ports ≡ set ports (port - 1) (change (get_or ports (port - 1) p))
unfolding named_changed
named_changed-one port change ports p other target = grind (arith, one_changed, ne_eqb)

-- a change in place has reached the end of the list
pub map_over_all : (change : PortDataSet → PortDataSet) (old new : List PortDataSet) (i : ℕ)
    → length old ≤ i
    → new ≡ map change (take i old) ++ drop i old
    → new ≡ map change old
map_over_all change old new i past e = e ∙ rw (take_all i old past, drop_all i old past, append-nil) refl

pub ruleset named_ports_laws = (named_ports-every, named_ports-one)

-- ---- what holds of every reply

-- ---- each answer

pub reply_of-all : (P : Answer → Type 0) (q : RequestValue) (refusal : Option ErrorId)
    (d : DataSetsValue)
    → ((port : Option ℕ) → P (answer q refusal d port)) → All P (reply_of q refusal d).answers
unfolding reply_of
reply_of-all P q refusal d h = All-map P (answer q refusal d) (answerers q d) (λ k x below. h _)

outcome_is : (q : RequestValue) (action : Action) (refusal : Option ErrorId) (port : Option ℕ)
    (d : DataSetsValue)
    → q.action ≡ action → IsRequestAction action → IsSized d
    → IsOutcomeOf q (outcome refusal action (data_field_at q.id port d))
outcome_is q action (Some error) port d is request s = tt
outcome_is q actions.Get None port d is request s = (rw is refl, of_id q.id port d s)
outcome_is q actions.Set None port d is request s = (rw is refl, of_id q.id port d s)
outcome_is q actions.Command None port d is request s = is
outcome_is q actions.Response None port d is request s = cc
outcome_is q actions.Acknowledge None port d is request s = cc

pub reply_of-outcomes : (q : RequestValue) (refusal : Option ErrorId) (d : DataSetsValue)
    → IsRequestAction q.action
    → IsSized d
    → All (λ a. IsOutcomeOf q a.outcome) (reply_of q refusal d).answers
unfolding answer
reply_of-outcomes q refusal d request s =
    reply_of-all (λ a. IsOutcomeOf q a.outcome) q refusal d (λ port. outcome_is q q.action refusal port d refl request s)

-- ---- one answer

-- the answers to a request for an id of the ports, or of the clock
abbrev pub answers_of : Bool → RequestValue → Option ErrorId → DataSetsValue → List Answer
answers_of b q refusal d = map (answer q refusal d) (if b then map Some (named_ports q.port (length d.ports)) else None ∷ [])

one_of : (b : Bool) (q : RequestValue) (refusal : Option ErrorId) (d : DataSetsValue)
    → (b ≡ true → HasPort q.port d) → length d.ports ≤ PORTS
    → (o : Outcome)
    × (answers_of b q refusal d
    ≡ record { port = if b then Some q.port else None; outcome = o } ∷ [])
unfolding answer
one_of true q refusal d has few =
    let own = has refl in
    let low = own.0 in
    let high = own.1 in
    let one : q.port + 1 - q.port ≡ 1 = omega arith in
    let named : named_ports q.port (length d.ports) ≡ q.port ∷ [] = grind (arith, named_ports-one) in
    (outcome refusal q.action (data_field_at q.id (Some q.port) d), rw named refl)
one_of false q refusal d has few = (outcome refusal q.action (data_field_at q.id None d), refl)

pub reply_of-one : (q : RequestValue) (refusal : Option ErrorId) (d : DataSetsValue)
    → IsForOne q d
    → length d.ports ≤ PORTS
    → IsOneAnswer (answerer q) (reply_of q refusal d)
unfolding reply_of
reply_of-one q refusal d has few = one_of (is_of_port q.id) q refusal d has few

-- ---- how many answers

count_of : (b : Bool) (q : RequestValue) (refusal : Option ErrorId) (d : DataSetsValue)
    → IsTargetPort q.port d → IsSized d
    → (1 ≤ length (answers_of b q refusal d)) × (length (answers_of b q refusal d) ≤ PORTS)
count_of true q refusal d target s = grind (arith, length-map, named_ports-every, length-range_with_len, named_ports-one)
count_of false q refusal d target s = (omega arith, omega arith)

pub reply_of-count : (q : RequestValue) (refusal : Option ErrorId) (d : DataSetsValue)
    → IsTargetPort q.port d
    → IsSized d
    → (1 ≤ length (reply_of q refusal d).answers) × (length (reply_of q refusal d).answers ≤ PORTS)
unfolding reply_of
reply_of-count q refusal d target s = count_of (is_of_port q.id) q refusal d target s
