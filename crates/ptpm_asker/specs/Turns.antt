-- What each input makes of an asker: what it is after it, what it hands out, and the moves that its session goes through.
use Rattle.std.specs.Prelude.{◌≡◌, ℕ, ◌+◌, ◌-◌, ◌^◌, ◌%◌, ◌==◌, ◌&&◌, ◌||◌, not, nat_le, nat_lt, min, Bool, true, false, if◌then◌else◌, List, [], ◌∷◌, ◌++◌, Option, Some, None, is_some}
use Rattle.std.specs.Option.{option_or}
use Rattle.ptpm_codec.specs.Ordered.{first_of}
use Rattle.ptpm_codec.specs.SequenceNumber.{number_of}
use Rattle.ptpm_codec.specs.declared.message.Message.{Message}
use Rattle.ptpm_codec.specs.Canonical.{canonical}
use Rattle.ptpm_manager.specs.declared.ask.Ask.{Ask}
use Rattle.ptpm_manager.specs.declared.error.BeginError.{BeginError}
use Rattle.ptpm_manager.specs.declared.error.BeginError.TheVariants as begins
use Rattle.ptpm_manager.specs.declared.error.GiveUpRefusal.{GiveUpRefusal}
use Rattle.ptpm_manager.specs.declared.error.GiveUpRefusal.TheVariants as give_ups
use Rattle.ptpm_manager.specs.declared.receiving.Received.{Received}
use Rattle.ptpm_manager.specs.declared.receiving.Received.TheVariants as received
use Rattle.ptpm_manager.specs.declared.report.Outcome.{Outcome}
use Rattle.ptpm_manager.specs.Receiving.{received_of}
use Rattle.ptpm_manager.specs.Session.{SessionValue, answered, begun, due_message, fresh, give_up_refusal, given_up, is_waiting, resumed, retuned, send_refusal, sent}
use Rattle.ptpm_asker.specs.declared.earlier.Earlier.{Earlier}
use Rattle.ptpm_asker.specs.declared.earlier.Earlier.TheVariants as earlier
use Rattle.ptpm_asker.specs.declared.output.Output.{Output}
use Rattle.ptpm_asker.specs.declared.output.Output.TheVariants as outputs
use Rattle.ptpm_asker.specs.declared.stage.Stage.{Stage}
use Rattle.ptpm_asker.specs.declared.stage.Stage.TheVariants as stages
use Rattle.ptpm_asker.specs.Asker.{AskerValue, reader_setup, setup_with}
use Rattle.ptpm_asker.specs.Desk.{Move, Begins, Continues, Hears, LetsGo, Notes, IsLetGo, Resumes, Retunes, Sends, Starts, TakesBack}
use Rattle.ptpm_asker.specs.Question.{asked_refusal, asked_request, begins_refusal, question, read_of}

pub record Turn : Type 0 where
  pub asker : AskerValue
  pub output : Output
  pub moves : List Move

abbrev pub turn : AskerValue → Output → List Move → Turn
turn a output moves = record { asker = a; output = output; moves = moves }

abbrev pub idle : AskerValue → Turn
idle a = turn a outputs.Nothing []

-- these moves come before those of a turn
abbrev pub after_moves : List Move → Turn → Turn
after_moves moves t = record t { moves = moves ++ t.moves }

-- the number of the latest request, and of the next
abbrev pub latest : AskerValue → ℕ
latest a = number_of a.first a.session.issued

abbrev pub next : AskerValue → ℕ
next a = number_of a.first (a.session.issued + 1)

abbrev pub later : ℕ → ℕ → ℕ
later now time = min (now + time) (2 ^ 64 - 1)

-- what is handed out to be sent is the session's request, or the read; else what was handed out before stays
abbrev pub IsMessage : Output → AskerValue → List ℕ → List ℕ → Type 0
IsMessage outputs.Nothing a before octets = octets ≡ before
IsMessage (outputs.Begun tag number) a before octets = octets ≡ before
IsMessage outputs.Save a before octets = octets ≡ before
IsMessage (outputs.Send wake_at) a before octets = (v : Message) → due_message a.session ≡ Some v → octets ≡ canonical v
IsMessage (outputs.Read wake_at) a before octets = (v : Message) → due_message a.reader ≡ Some v → octets ≡ canonical v
IsMessage (outputs.WakeAt time) a before octets = octets ≡ before
IsMessage (outputs.Told tag number outcome) a before octets = octets ≡ before
IsMessage (outputs.Failed was_sent is_read_answered) a before octets = octets ≡ before

-- ---- parts of turns

abbrev pub fails : AskerValue → Turn
fails a = turn (record a { stage = stages.Over }) (outputs.Failed (a.has_left || a.is_out) (nat_lt 0 a.readings)) []

-- a read runs with each message of a new session's question, from the second on, and with an only one
abbrev pub reads_next : AskerValue → Bool
reads_next a = a.is_testing && (not a.is_kept && ((a.has_left || a.is_out) || a.settings.attempts == 1))

abbrev pub next_wake : AskerValue → ℕ → ℕ
next_wake a now = if reads_next a then now else later now a.settings.timeout

abbrev pub has_sent : AskerValue → ℕ → AskerValue
has_sent a now = record a {
  stage = stages.Asking;
  wake_at = next_wake a now;
  is_read_due = reads_next a;
  has_left = a.has_left || a.is_out;
  is_out = true;
}

-- the request under way is sent, while attempts are left
abbrev pub sends : AskerValue → ℕ → Turn
sends a now =
    if is_some (send_refusal a.session) then fails a
    else turn (has_sent (record a { session = sent a.session }) now) (outputs.Send (next_wake a now)) (Sends ∷ [])

-- it is sent with all attempts of this run
abbrev pub resumes : AskerValue → ℕ → Turn
resumes a now =
    if is_waiting a.session then
    after_moves (Resumes a.settings.attempts ∷ [])
    (sends (record a { session = resumed a.session a.settings.attempts; has_left = false; is_out = false }) now)
    else fails a

-- the owner is to note that what it wants is begun
abbrev pub announces : AskerValue → Turn
announces a = turn (record a { stage = stages.Noting; is_testing = false }) (outputs.Begun a.tag (next a)) []

abbrev pub saves : AskerValue → Turn
saves a = turn (record a { stage = stages.Saving }) outputs.Save []

-- ---- ask

abbrev pub is_resting : Stage → Bool
is_resting stages.Resting = true
is_resting stages.Waiting = false
is_resting stages.Noting = false
is_resting stages.Saving = false
is_resting stages.Asking = false
is_resting stages.Telling = false
is_resting stages.Over = false

-- whether a request of an earlier run is to be settled first
abbrev pub is_unsettled : Earlier → Bool
is_unsettled earlier.NoRequest = false
is_unsettled earlier.Question = false
is_unsettled earlier.Reads = true
is_unsettled (earlier.MovesTo domain) = true
is_unsettled earlier.Changes = true

abbrev pub is_left_question : Earlier → Bool
is_left_question earlier.NoRequest = false
is_left_question earlier.Question = true
is_left_question earlier.Reads = false
is_left_question (earlier.MovesTo domain) = false
is_left_question earlier.Changes = false

abbrev pub is_busy : AskerValue → Bool
is_busy a = not (is_resting a.stage) || is_unsettled a.earlier

abbrev pub asks_refusal : AskerValue → Ask → Option BeginError
asks_refusal a wanted = option_or (first_of ((is_busy a, begins.Busy) ∷ [])) (asked_refusal a.settings.ports wanted)

-- how many requests a session has begun that begins no further question and request
abbrev pub used_up : ℕ
used_up = 999999

-- whether the session has no further numbers for that, or requests of other hops
abbrev pub is_used_up : AskerValue → Bool
is_used_up a = nat_le used_up a.session.issued || not (a.hops == a.settings.hops)

-- the session goes on as a new one, with its next number and the hops of this run
abbrev pub renewed : AskerValue → AskerValue
renewed a = record a {
  session = fresh (setup_with a.settings (next a)) a.session.domain;
  first = next a;
  hops = a.settings.hops;
}

abbrev pub asked_of : AskerValue → ℕ → Ask → ℕ → AskerValue
asked_of a tag wanted domain = record a { session = retuned a.session domain; wanted = Some wanted; tag = tag }

-- whether the question is asked as a request of the session: there is a file, and it was not asked in this run
abbrev pub asks_in_session : AskerValue → Bool
asks_in_session a = not a.is_new && a.is_kept

abbrev pub with_question : AskerValue → Ask → AskerValue
with_question a wanted = record a { session = begun a.session (asked_request (question a.drawn wanted)) }

-- the same in a session that goes on as a new one
abbrev pub renewed_for : AskerValue → Ask → AskerValue
renewed_for a wanted = if asks_in_session a then with_question (renewed a) wanted else renewed a

abbrev pub waits : AskerValue → ℕ → Turn
waits a now =
    turn (record a { stage = stages.Waiting; wake_at = later now a.settings.wait })
    (outputs.WakeAt (later now a.settings.wait)) []

-- A number that was tested in this run is taken. If there is a file, the question was begun in its session. A new session waits first.
abbrev pub goes_on_begun : AskerValue → ℕ → Turn
goes_on_begun a now =
    if a.is_new then announces a
    else if a.is_kept then saves (record a { is_testing = true })
    else waits a now

abbrev pub goes_on_asking : AskerValue → ℕ → Ask → Turn
goes_on_asking a now wanted =
    if asks_in_session a then
    after_moves (Begins 0 (asked_request (question a.drawn wanted)) ∷ []) (goes_on_begun (with_question a wanted) now)
    else goes_on_begun a now

-- a question that a crash left is sent again
abbrev pub asks : AskerValue → ℕ → ℕ → Ask → ℕ → Turn
asks a now tag wanted domain =
    if is_left_question a.earlier then
    after_moves (Retunes domain ∷ []) (resumes (record (asked_of a tag wanted domain) { is_testing = true }) now)
    else if is_used_up a then
    after_moves (Continues (setup_with a.settings (next a)) ∷ Retunes domain ∷ [])
    (goes_on_asking (asked_of (renewed a) tag wanted domain) now wanted)
    else after_moves (Retunes domain ∷ []) (goes_on_asking (asked_of a tag wanted domain) now wanted)

-- ---- settle and let_go

abbrev pub settling_domain : Earlier → ℕ → ℕ → ℕ
settling_domain earlier.NoRequest own domain = own
settling_domain earlier.Question own domain = own
settling_domain earlier.Reads own domain = domain
settling_domain (earlier.MovesTo there) own domain = if there == domain then domain else own
settling_domain earlier.Changes own domain = own

abbrev pub can_settle : AskerValue → Bool
can_settle a = is_resting a.stage && is_unsettled a.earlier

abbrev pub lets_go_refusal : AskerValue → Option GiveUpRefusal
lets_go_refusal a = if can_settle a then give_up_refusal a.session else Some give_ups.Idle

abbrev pub settles : AskerValue → ℕ → ℕ → ℕ → Turn
settles a now tag domain =
    let there = settling_domain a.earlier a.session.domain domain in
    after_moves (Retunes there ∷ [])
    (resumes (record a { session = retuned a.session there; wanted = None; tag = tag; is_testing = false }) now)

-- the owner has noted that it gives the request up
abbrev pub lets_go : AskerValue → Turn
lets_go a =
    after_moves (Notes (IsLetGo (latest a)) ∷ LetsGo ∷ [])
    (saves (record a { session = given_up a.session; wanted = None; earlier = earlier.NoRequest }))

-- ---- hear

-- an answer to the question shows that the number is new; one to a request is reported
abbrev pub is_answered : AskerValue → Outcome → Turn
is_answered a outcome =
    if a.is_testing then
    (if a.is_kept then announces (record a { is_new = true }) else saves (record a { is_new = true }))
    else turn (record a { stage = stages.Telling }) (outputs.Told a.tag (latest a) outcome) []

-- nothing of an earlier run is under way
abbrev pub settled : AskerValue → AskerValue
settled a = record a { earlier = earlier.NoRequest }

-- the most answers to reads that are counted
abbrev pub most_readings : ℕ
most_readings = 255

-- an answer to a read shows that the clock is there
abbrev pub read_as : AskerValue → Received → Turn
read_as a (received.Answered report) =
    turn (record a { reader = answered a.reader; readings = min (a.readings + 1) most_readings }) outputs.Nothing []
read_as a (received.Ignored reason) = idle a

abbrev pub heard_as : AskerValue → Received → Received → Turn
heard_as a (received.Answered report) read = is_answered (settled (record a { session = answered a.session })) report.outcome
heard_as a (received.Ignored reason) read = read_as a read

abbrev pub hears_at : Stage → AskerValue → List ℕ → Turn
hears_at stages.Resting a datagram = idle a
hears_at stages.Waiting a datagram = idle a
hears_at stages.Noting a datagram = idle a
hears_at stages.Saving a datagram = idle a
hears_at stages.Asking a datagram =
    after_moves (Hears datagram ∷ []) (heard_as a (received_of a.session datagram) (received_of a.reader datagram))
hears_at stages.Telling a datagram = idle a
hears_at stages.Over a datagram = idle a

abbrev pub hears : AskerValue → List ℕ → Turn
hears a datagram = hears_at a.stage a datagram

-- ---- wake

-- a session that begins at this number asks whether it is new
abbrev pub tested : AskerValue → ℕ → ℕ → Ask → AskerValue
tested a first numbers_left wanted = record a {
  session = begun (fresh (setup_with a.settings first) a.session.domain) (asked_request (question a.drawn wanted));
  first = first;
  hops = a.settings.hops;
  numbers_left = numbers_left;
  readings = 0;
  is_testing = true;
  is_new = false;
  has_left = false;
  is_out = false;
}

abbrev pub tests_wanted : AskerValue → ℕ → ℕ → Option Ask → ℕ → Turn
tests_wanted a first numbers_left None now = idle a
tests_wanted a first numbers_left (Some wanted) now =
    after_moves (Starts (setup_with a.settings first) a.session.domain ∷ Begins 0 (asked_request (question a.drawn wanted)) ∷ [])
    (sends (tested a first numbers_left wanted) now)

-- this many answers to reads, and none to the question, show that its number is not new
abbrev pub enough : AskerValue → ℕ
enough a = min a.settings.attempts 5

-- whether a new session asks whether its number is new
abbrev pub is_new_session : AskerValue → Bool
is_new_session a = a.is_testing && not a.is_kept

abbrev pub has_enough : AskerValue → Bool
has_enough a = is_new_session a && nat_le (enough a) a.readings

-- whether it asks under another number: the clock answers, and drops this one
abbrev pub has_more_numbers : AskerValue → Bool
has_more_numbers a = is_new_session a && (nat_lt 0 a.numbers_left && nat_lt 0 a.readings)

abbrev pub is_over : AskerValue → Bool
is_over a = has_enough a || is_some (send_refusal a.session)

abbrev pub reader_of : AskerValue → Ask → SessionValue
reader_of a wanted =
    begun (fresh (reader_setup a.settings (number_of a.first (a.reads + 1))) a.session.domain) (asked_request (read_of wanted))

abbrev pub has_read : AskerValue → Ask → ℕ → AskerValue
has_read a wanted now = record a {
  reader = sent (reader_of a wanted);
  reads = (a.reads + 1) % 65536;
  is_read_due = false;
  wake_at = later now a.settings.timeout;
}

abbrev pub reads_wanted : AskerValue → Option Ask → ℕ → Turn
reads_wanted a None now = idle a
reads_wanted a (Some wanted) now = turn (has_read a wanted now) (outputs.Read (later now a.settings.timeout)) []

abbrev pub sends_or_tests : AskerValue → ℕ → Turn
sends_or_tests a now =
    if a.is_read_due then reads_wanted a a.wanted now
    else if not (is_over a) then sends a now
    else if has_more_numbers a then tests_wanted a ((a.first + 16384) % 65536) (a.numbers_left - 1) a.wanted now
    else fails a

abbrev pub wakes_at : Stage → AskerValue → ℕ → Turn
wakes_at stages.Resting a now = idle a
wakes_at stages.Waiting a now = tests_wanted a a.first a.numbers_left a.wanted now
wakes_at stages.Noting a now = idle a
wakes_at stages.Saving a now = idle a
wakes_at stages.Asking a now = sends_or_tests a now
wakes_at stages.Telling a now = idle a
wakes_at stages.Over a now = idle a

abbrev pub wakes : AskerValue → ℕ → Turn
wakes a now = if nat_lt now a.wake_at then idle a else wakes_at a.stage a now

-- whether a read by nobody, or a question under another number, is then begun
abbrev pub begins_asking : AskerValue → Bool
begins_asking a = a.is_read_due || (is_over a && has_more_numbers a)

-- whether a question or a read by nobody is then begun: memory is asked for nothing else
abbrev pub begins_at : Stage → AskerValue → Bool
begins_at stages.Resting a = false
begins_at stages.Waiting a = true
begins_at stages.Noting a = false
begins_at stages.Saving a = false
begins_at stages.Asking a = begins_asking a
begins_at stages.Telling a = false
begins_at stages.Over a = false

abbrev pub begins_waking : AskerValue → ℕ → Bool
begins_waking a now = not (nat_lt now a.wake_at) && begins_at a.stage a

-- ---- unsent

-- the request is taken back: its number is that of the next one
abbrev pub taken_back : AskerValue → AskerValue
taken_back a = record a {
  session = fresh (setup_with a.settings (latest a)) a.session.domain;
  first = latest a;
  hops = a.settings.hops;
  wanted = None;
  earlier = earlier.NoRequest;
  is_taken_back = true;
}

abbrev pub takes_back : AskerValue → Turn
takes_back a = after_moves (TakesBack (setup_with a.settings (latest a)) ∷ []) (saves (taken_back a))

-- what was not sent stays under way, until it is settled, let go or, if it is a question, sent again
abbrev pub stays : AskerValue → Earlier → Turn
stays a what = turn (record a { stage = stages.Resting; earlier = what }) (outputs.Failed false false) []

-- There is no way for the message that was handed out. If none of the request left before, a request of this run is taken back.
abbrev pub has_no_way : AskerValue → Turn
has_no_way a =
    if not a.is_out then idle a
    else if a.has_left then turn (record a { is_out = false }) outputs.Nothing []
    else if a.is_testing then stays (record a { is_out = false }) earlier.Question
    else if is_unsettled a.earlier then stays (record a { is_out = false }) a.earlier
    else takes_back (record a { is_out = false })

abbrev pub unsents_at : Stage → AskerValue → Turn
unsents_at stages.Resting a = idle a
unsents_at stages.Waiting a = idle a
unsents_at stages.Noting a = idle a
unsents_at stages.Saving a = idle a
unsents_at stages.Asking a = has_no_way a
unsents_at stages.Telling a = idle a
unsents_at stages.Over a = idle a

abbrev pub unsents : AskerValue → Turn
unsents a = unsents_at a.stage a

-- ---- saved

abbrev pub rests : AskerValue → Turn
rests a = turn (record a { stage = stages.Resting }) outputs.Nothing []

-- after it is taken back, the owner learns that it was not sent
abbrev pub rests_again : AskerValue → Turn
rests_again a =
    if a.is_taken_back then turn (record a { stage = stages.Resting; is_taken_back = false }) (outputs.Failed false false) []
    else rests a

abbrev pub goes_on : Option Ask → AskerValue → Turn
goes_on None a = rests_again a
goes_on (Some wanted) a = announces a

-- there is a file now; what is under way is sent; or what is wanted is announced
abbrev pub goes_on_saved : AskerValue → ℕ → Turn
goes_on_saved a now =
    if is_waiting a.session then resumes (record a { is_kept = true }) now else goes_on a.wanted (record a { is_kept = true })

abbrev pub saved_at : Stage → AskerValue → ℕ → Turn
saved_at stages.Resting a now = idle a
saved_at stages.Waiting a now = idle a
saved_at stages.Noting a now = idle a
saved_at stages.Saving a now = goes_on_saved a now
saved_at stages.Asking a now = idle a
saved_at stages.Telling a now = idle a
saved_at stages.Over a now = idle a

abbrev pub saved : AskerValue → ℕ → Turn
saved a now = saved_at a.stage a now

-- ---- noted

abbrev pub begins_wanted : AskerValue → Option Ask → Turn
begins_wanted a None = rests a
begins_wanted a (Some wanted) =
    after_moves (Begins a.tag (asked_request wanted) ∷ [])
    (saves (record a { session = begun a.session (asked_request wanted); wanted = None; is_testing = false }))

abbrev pub noted_at : Stage → AskerValue → Turn
noted_at stages.Resting a = idle a
noted_at stages.Waiting a = idle a
noted_at stages.Noting a = begins_wanted a a.wanted
noted_at stages.Saving a = idle a
noted_at stages.Asking a = idle a
noted_at stages.Telling a = saves a
noted_at stages.Over a = idle a

abbrev pub noted : AskerValue → Turn
noted a = noted_at a.stage a

-- why a request that was noted is not begun
abbrev pub begins_wanted_refusal : AskerValue → Option Ask → Option BeginError
begins_wanted_refusal a None = None
begins_wanted_refusal a (Some wanted) = begins_refusal a.session wanted

abbrev pub noted_refusal_at : Stage → AskerValue → Option BeginError
noted_refusal_at stages.Resting a = None
noted_refusal_at stages.Waiting a = None
noted_refusal_at stages.Noting a = begins_wanted_refusal a a.wanted
noted_refusal_at stages.Saving a = None
noted_refusal_at stages.Asking a = None
noted_refusal_at stages.Telling a = None
noted_refusal_at stages.Over a = None

abbrev pub noted_refusal : AskerValue → Option BeginError
noted_refusal a = noted_refusal_at a.stage a
