-- A session that goes on for another sends and reports what that one would.
use Rattle.std.proofs.Common.{arith, ◌≡◌, ℕ, ◌+◌, ◌-◌, ◌<◌, ◌≤◌, ◌%◌, nat_le, nat_lt, not, Bool, true, false, List, [], ◌∷◌, ◌++◌, map, Option, Some, None, option_map, Result, Ok, Err, refl, sym, ◌∙◌, ap, subst, if◌then◌else◌, ⊎_elim}
use Rattle.std.specs.Prelude.{is_some}
use Rattle.std.proofs.Math.Nat.{mod-add-mod}
use Rattle.std.proofs.lemmas.Bool.{cases_Bool, cond-true, lt-ltb, false≢true}
use Rattle.std.proofs.lemmas.Bool.Decides.{nat_tests}
use Rattle.ptpm_codec.specs.Ordered.{first_of}
use Rattle.ptpm_codec.specs.Reading.{reading}
use Rattle.ptpm_codec.specs.SequenceNumber.{number_of}
use Rattle.ptpm_codec.specs.declared.error.DecodeError.{DecodeError}
use Rattle.ptpm_codec.specs.declared.message.Message.{Message}
use Rattle.ptpm_data.specs.Request.{RequestValue}
use Rattle.ptpm_manager.specs.declared.ask.Ask.{Ask}
use Rattle.ptpm_manager.specs.declared.error.BeginError.{BeginError}
use Rattle.ptpm_manager.specs.declared.error.GiveUpRefusal.{GiveUpRefusal}
use Rattle.ptpm_manager.specs.declared.receiving.Reason.{Reason}
use Rattle.ptpm_manager.specs.declared.receiving.Received.{Received}
use Rattle.ptpm_manager.specs.declared.setup.Setup.{Setup}
use Rattle.ptpm_manager.specs.Ask.{request_of}
use Rattle.ptpm_manager.specs.Receiving.{answer_by, answer_to, left_by, reason_of, received_of}
use Rattle.ptpm_manager.specs.Report.{outcome_in}
use Rattle.ptpm_manager.specs.Session.{SessionValue, begin_refusal, begun, count_limit, due_message, give_up_refusal, given_up, is_waiting, reach_limit, send_refusal}
use Rattle.ptpm_manager.specs.Setup.{request_message}
use Rattle.ptpm_saved.specs.NextSession.{CanBegin, CanBeginEach, CanGiveUp, CanGiveUpEach, IsIdle, IsOver, counted_after, message_with_hops, next_session, with_hops}
use Rattle.ptpm_saved.specs.Saving.{Came, Happening, Noted, after_one, all_messages, all_reports, messages_of, reports_of}
use Rattle.ptpm_saved.specs.SavingSession.{Begins, GivesUp, Hears, IsToSend, SessionInput, SessionNote, begun_unless, datagrams_of, given_up_unless, reports_in, session_process, session_reports}
use Rattle.ptpm_manager.specs.declared.error.GiveUpRefusal.TheVariants as give_ups
use Rattle.ptpm_manager.specs.declared.receiving.Received.TheVariants as received
use Rattle.ptpm_saved.proofs.laws.next_session_law.Goals as goal

-- ---- numbers

numbers : (first before k : ℕ) → 0 < k → number_of (number_of first (before + 1)) k ≡ number_of first (before + k)
numbers first before k positive =
    let one : (before + 1) - 1 ≡ before = omega arith in
    let sum : first + ((before + 1) - 1) + (k - 1) ≡ first + ((before + k) - 1) = omega arith in
    mod-add-mod (first + ((before + 1) - 1)) 65536 (k - 1) ∙ ap (λ n. n % 65536) sum

requests : (s : SessionValue) (hops domain k : ℕ) (q : RequestValue) → 0 < k
    → request_message (next_session s hops).setup domain k q ≡ message_with_hops hops (request_message s.setup domain (s.issued + k) q)
requests s hops domain k q positive =
    ap (λ n. message_with_hops hops (record (request_message s.setup domain (s.issued + k) q) { number = n })) (numbers s.setup.first s.issued k positive)

-- ---- two sessions, of which one has begun so many requests more

-- it has reported as many more, or, if it let requests go, no more than that
abbrev IsReported : Bool → ℕ → ℕ → Type 0
IsReported true reported other = reported ≡ other
IsReported false reported other = reported ≤ other

record IsBehind (exact : Bool) (n : ℕ) (a b : SessionValue) : Type 0 where
  pub setup : b.setup ≡ record a.setup { first = number_of a.setup.first (n + 1) }
  pub domain : b.domain ≡ a.domain
  pub issued : a.issued ≡ n + b.issued
  pub reported : IsReported exact a.reported (n + b.reported)
  pub unanswered : b.unanswered ≡ a.unanswered
  pub attempts : is_waiting b ≡ true → b.attempts_left ≡ a.attempts_left
  pub counted : is_waiting b ≡ true → 0 < b.issued

-- what is reported is counted so
abbrev shifted : ℕ → Received → Received
shifted n (received.Answered r) = received.Answered (counted_after n r)
shifted n (received.Ignored why) = received.Ignored why

module _ (exact : Bool) (n : ℕ) (a b : SessionValue) (h : IsBehind exact n a b) where
  waits : is_waiting b ≡ is_waiting a
  waits = ap is_some h.unanswered

  -- ---- what it sends

  due-of : (o : Option RequestValue) → (is_some o ≡ true → 0 < b.issued)
      → option_map (request_message b.setup b.domain b.issued) o ≡ option_map (request_message a.setup a.domain a.issued) o
  due-of None counted = refl
  due-of (Some q) counted = grind (arith, numbers, h.setup, h.domain, h.issued)

  due : due_message b ≡ due_message a
  due = due-of b.unanswered h.counted ∙ ap (λ o. option_map (request_message a.setup a.domain a.issued) o) h.unanswered

  sending : send_refusal b ≡ send_refusal a
  unfolding send_refusal
  sending = ⊎_elim
      (λ (y : is_waiting b ≡ true). grind (arith, waits, h.attempts))
      (λ (o : is_waiting b ≡ false). grind (arith, waits, cond-true))
      (cases_Bool (is_waiting b))

  reaches : (e : Bool) → IsReported e a.reported (n + b.reported) → (e ≡ false → a.issued < a.reported + reach_limit)
      → nat_le (b.reported + reach_limit) b.issued ≡ nat_le (a.reported + reach_limit) a.issued
  reaches true reported can = grind (arith, reported, h.issued, nat_tests)
  reaches false reported can =
      let first : a.issued < a.reported + reach_limit = can refl in
      let other : b.issued < b.reported + reach_limit = omega (arith, first, reported, h.issued) in
      grind (arith, first, other, nat_tests)

  giving_up : (exact ≡ false → a.issued < a.reported + reach_limit) → give_up_refusal b ≡ give_up_refusal a
  unfolding give_up_refusal
  giving_up can = (λ i. first_of ((not (waits i), give_ups.Idle) ∷ (reaches exact h.reported can i, give_ups.OutOfReach) ∷ []))

  beginning : (q : Ask) → a.issued < count_limit → begin_refusal b q ≡ begin_refusal a q
  unfolding begin_refusal
  beginning q few =
      let ports : b.setup.ports ≡ a.setup.ports = ap (λ (s : Setup). s.ports) h.setup in
      let mine : nat_lt a.issued count_limit ≡ true = lt-ltb a.issued count_limit few in
      let other : nat_lt b.issued count_limit ≡ true = lt-ltb b.issued count_limit (omega (arith, h.issued, few)) in
      grind (arith, waits)

  -- ---- what it hears

  reason : (v : Message) → reason_of b v ≡ reason_of a v
  unfolding reason_of
  reason v = ⊎_elim
      (λ (y : is_waiting b ≡ true). grind (arith, waits, numbers, h.counted))
      (λ (o : is_waiting b ≡ false). grind (arith, waits, cond-true))
      (cases_Bool (is_waiting b))

  heard-by : (o : Option Reason) (v : Message) → answer_by o a v ≡ shifted n (answer_by o b v)
  heard-by None v = ap (λ i. received.Answered (record { index = i; outcome = outcome_in v.body })) h.issued
  heard-by (Some r) v = refl

  heard-of : (x : Result Message DecodeError) → answer_to a x ≡ shifted n (answer_to b x)
  heard-of (Err cause) = refl
  heard-of (Ok v) = ap (λ o. answer_by o a v) (sym (reason v)) ∙ heard-by (reason_of b v) v

  hears : (datagram : List ℕ) → received_of a datagram ≡ shifted n (received_of b datagram)
  hears datagram = heard-of (reading datagram)

-- ---- one after another

behind-begun : (exact : Bool) (n : ℕ) (a b : SessionValue) (q : RequestValue) → IsBehind exact n a b → IsBehind exact n (begun a q) (begun b q)
behind-begun exact n a b q h = record {
  setup = h.setup;
  domain = h.domain;
  issued = omega (arith, h.issued);
  reported = h.reported;
  unanswered = refl;
  attempts = λ w. ap (λ (s : Setup). s.attempts) h.setup;
  counted = λ w. omega arith;
}

behind-given_up : (exact : Bool) (n : ℕ) (a b : SessionValue) → IsBehind exact n a b → IsBehind exact n (given_up a) (given_up b)
behind-given_up exact n a b h = record {
  setup = h.setup;
  domain = h.domain;
  issued = h.issued;
  reported = h.reported;
  unanswered = refl;
  attempts = λ w. absurd (false≢true w);
  counted = λ w. absurd (false≢true w);
}

exactly : (exact : Bool) (reported other : ℕ) → reported ≡ other → IsReported exact reported other
exactly true reported other is = is
exactly false reported other is = omega (arith, is)

behind-left : (exact : Bool) (n : ℕ) (a b : SessionValue) (x : Received) → IsBehind exact n a b → IsBehind exact n (left_by a (shifted n x)) (left_by b x)
behind-left exact n a b (received.Ignored why) h = h
behind-left exact n a b (received.Answered report) h = record {
  setup = h.setup;
  domain = h.domain;
  issued = h.issued;
  reported = exactly exact a.issued (n + b.issued) h.issued;
  unanswered = refl;
  attempts = λ w. absurd (false≢true w);
  counted = λ w. absurd (false≢true w);
}

behind-begun_unless : (exact : Bool) (n : ℕ) (a b : SessionValue) (o : Option BeginError) (q : Ask) → IsBehind exact n a b → IsBehind exact n (begun_unless o a q) (begun_unless o b q)
behind-begun_unless exact n a b None q h = behind-begun exact n a b (request_of q) h
behind-begun_unless exact n a b (Some error) q h = h

behind-given_up_unless : (exact : Bool) (n : ℕ) (a b : SessionValue) (o : Option GiveUpRefusal) → IsBehind exact n a b → IsBehind exact n (given_up_unless o a) (given_up_unless o b)
behind-given_up_unless exact n a b None h = behind-given_up exact n a b h
behind-given_up_unless exact n a b (Some error) h = h

-- what one of two sessions, of which one is behind, does, the other does
record DoTheSame (exact : Bool) (n : ℕ) (a b : SessionValue) (x : Happening SessionInput SessionNote) : Type 0 where
  pub after : IsBehind exact n (after_one session_process a x) (after_one session_process b x)
  pub messages : messages_of session_process b x ≡ messages_of session_process a x
  pub reports : reports_of session_reports a x ≡ map (counted_after n) (reports_of session_reports b x)

reports-shifted : (n : ℕ) (x : Received) → reports_in (shifted n x) ≡ map (counted_after n) (reports_in x)
reports-shifted n (received.Answered report) = refl
reports-shifted n (received.Ignored why) = refl

same : (exact : Bool) (n : ℕ) (a b : SessionValue) (x : Happening SessionInput SessionNote) → IsBehind exact n a b → CanBegin a x → (exact ≡ false → CanGiveUp a x)
    → DoTheSame exact n a b x
same exact n a b (Came (Begins q)) h few can = record {
  after = subst (λ (o : Option BeginError). IsBehind exact n (begun_unless o a q) (begun_unless (begin_refusal b q) b q)) (beginning exact n a b h q few) (behind-begun_unless exact n a b (begin_refusal b q) q h);
  messages = refl;
  reports = refl;
}
same exact n a b (Came IsToSend) h few can = record {
  after = h;
  messages = λ i. if is_some (sending exact n a b h i) then [] else datagrams_of (due exact n a b h i);
  reports = refl;
}
same exact n a b (Came GivesUp) h few can = record {
  after = subst (λ (o : Option GiveUpRefusal). IsBehind exact n (given_up_unless o a) (given_up_unless (give_up_refusal b) b)) (giving_up exact n a b h can) (behind-given_up_unless exact n a b (give_up_refusal b) h);
  messages = refl;
  reports = refl;
}
same exact n a b (Came (Hears datagram)) h few can = record {
  after = subst (λ (x : Received). IsBehind exact n (left_by a x) (left_by b (received_of b datagram))) (sym (hears exact n a b h datagram)) (behind-left exact n a b (received_of b datagram) h);
  messages = refl;
  reports = ap reports_in (hears exact n a b h datagram) ∙ reports-shifted n (received_of b datagram);
}
same exact n a b (Noted note) h few can = record {
  after = record { setup = h.setup; domain = refl; issued = h.issued; reported = h.reported; unanswered = h.unanswered; attempts = λ w. refl; counted = h.counted };
  messages = refl;
  reports = refl;
}

map-append : {A B : Type 0} (f : A → B) (xs ys : List A) → map f (xs ++ ys) ≡ map f xs ++ map f ys
map-append f [] ys = refl
map-append f (x ∷ xs) ys = ap (λ zs. f x ∷ zs) (map-append f xs ys)

all-sent : (exact : Bool) (n : ℕ) (a b : SessionValue) (hs : List (Happening SessionInput SessionNote)) → IsBehind exact n a b → CanBeginEach a hs → (exact ≡ false → CanGiveUpEach a hs)
    → all_messages session_process b hs ≡ all_messages session_process a hs
all-sent exact n a b [] h few can = refl
all-sent exact n a b (x ∷ hs) h few can =
    let one = same exact n a b x h few.0 (λ e. (can e).0) in
    let rest = all-sent exact n (after_one session_process a x) (after_one session_process b x) hs one.after few.1 (λ e. (can e).1) in
    (λ i. one.messages i ++ rest i)

all-reported : (exact : Bool) (n : ℕ) (a b : SessionValue) (hs : List (Happening SessionInput SessionNote)) → IsBehind exact n a b → CanBeginEach a hs → (exact ≡ false → CanGiveUpEach a hs)
    → all_reports session_reports session_process a hs ≡ map (counted_after n) (all_reports session_reports session_process b hs)
all-reported exact n a b [] h few can = refl
all-reported exact n a b (x ∷ hs) h few can =
    let one = same exact n a b x h few.0 (λ e. (can e).0) in
    let rest = all-reported exact n (after_one session_process a x) (after_one session_process b x) hs one.after few.1 (λ e. (can e).1) in
    (λ i. one.reports i ++ rest i) ∙ sym (map-append (counted_after n) (reports_of session_reports b x) (all_reports session_reports session_process (after_one session_process b x) hs))

-- ---- the session that goes on

starts : (exact : Bool) (s : SessionValue) (hops : ℕ) → s.unanswered ≡ None → IsReported exact s.reported (s.issued + 0)
    → IsBehind exact s.issued (with_hops hops s) (next_session s hops)
starts exact s hops nothing reported = record {
  setup = refl;
  domain = refl;
  issued = omega arith;
  reported = reported;
  unanswered = sym nothing;
  attempts = λ w. absurd (false≢true w);
  counted = λ w. absurd (false≢true w);
}

over : (s : SessionValue) (hops : ℕ) → IsOver s → IsBehind true s.issued (with_hops hops s) (next_session s hops)
over s hops is = starts true s hops is.nothing (omega (arith, is.reported))

idle : (s : SessionValue) (hops : ℕ) → IsIdle s → IsBehind false s.issued (with_hops hops s) (next_session s hops)
idle s hops is = starts false s hops is.nothing (omega (arith, is.reported))

messages-go-on : (s : SessionValue) (hops : ℕ) (hs : List (Happening SessionInput SessionNote)) → IsOver s → CanBeginEach (with_hops hops s) hs
    → all_messages session_process (next_session s hops) hs ≡ all_messages session_process (with_hops hops s) hs
messages-go-on s hops hs is few = all-sent true s.issued (with_hops hops s) (next_session s hops) hs (over s hops is) few (λ e. absurd (false≢true (sym e)))

reports-go-on : (s : SessionValue) (hops : ℕ) (hs : List (Happening SessionInput SessionNote)) → IsOver s → CanBeginEach (with_hops hops s) hs
    → all_reports session_reports session_process (with_hops hops s) hs
    ≡ map (counted_after s.issued) (all_reports session_reports session_process (next_session s hops) hs)
reports-go-on s hops hs is few = all-reported true s.issued (with_hops hops s) (next_session s hops) hs (over s hops is) few (λ e. absurd (false≢true (sym e)))

idle-messages-go-on : (s : SessionValue) (hops : ℕ) (hs : List (Happening SessionInput SessionNote)) → IsIdle s
    → CanBeginEach (with_hops hops s) hs → CanGiveUpEach (with_hops hops s) hs
    → all_messages session_process (next_session s hops) hs ≡ all_messages session_process (with_hops hops s) hs
idle-messages-go-on s hops hs is few can = all-sent false s.issued (with_hops hops s) (next_session s hops) hs (idle s hops is) few (λ e. can)

idle-reports-go-on : (s : SessionValue) (hops : ℕ) (hs : List (Happening SessionInput SessionNote)) → IsIdle s
    → CanBeginEach (with_hops hops s) hs → CanGiveUpEach (with_hops hops s) hs
    → all_reports session_reports session_process (with_hops hops s) hs
    ≡ map (counted_after s.issued) (all_reports session_reports session_process (next_session s hops) hs)
idle-reports-go-on s hops hs is few can = all-reported false s.issued (with_hops hops s) (next_session s hops) hs (idle s hops is) few (λ e. can)

pub returns-clause-requests : goal.returns-clause-requests
returns-clause-requests c = requests

pub returns-clause-messages : goal.returns-clause-messages
returns-clause-messages c = messages-go-on

pub returns-clause-reports : goal.returns-clause-reports
returns-clause-reports c = reports-go-on

pub returns-clause-messages_after_let_go : goal.returns-clause-messages_after_let_go
returns-clause-messages_after_let_go c = idle-messages-go-on

pub returns-clause-reports_after_let_go : goal.returns-clause-reports_after_let_go
returns-clause-reports_after_let_go c = idle-reports-go-on
