-- A session that saves before it asks. Its inputs are what it is asked, when it is to send or to give up, and the datagrams that
-- it hears. Its domain, and how often it may still send, are notes: no image needs them to be as they are. A report is reported at
-- once, before it is saved, and is none of the messages here.
use Rattle.std.specs.Prelude.{ℕ, Bool, true, false, not, if◌then◌else◌, List, [], ◌∷◌, is_some, Option, Some, None}
use Rattle.ptpm_codec.specs.declared.message.Message.{Message}
use Rattle.ptpm_codec.specs.Canonical.{canonical}
use Rattle.ptpm_manager.specs.declared.ask.Ask.{Ask}
use Rattle.ptpm_manager.specs.declared.error.BeginError.{BeginError}
use Rattle.ptpm_manager.specs.declared.error.GiveUpRefusal.{GiveUpRefusal}
use Rattle.ptpm_manager.specs.declared.receiving.Received.{Received}
use Rattle.ptpm_manager.specs.declared.receiving.Received.TheVariants as received
use Rattle.ptpm_manager.specs.declared.report.Report.{Report}
use Rattle.ptpm_manager.specs.Ask.{request_of}
use Rattle.ptpm_manager.specs.Receiving.{left_by, received_of}
use Rattle.ptpm_manager.specs.Session.{SessionValue, begin_refusal, begun, due_message, give_up_refusal, given_up, resumed, retuned, send_refusal}
use Rattle.ptpm_saved.specs.Saving.{Process}

pub data SessionInput : Type 0 where
  Begins : (ask : Ask) → SessionInput
  IsToSend : SessionInput
  GivesUp : SessionInput
  Hears : (datagram : List ℕ) → SessionInput

pub record SessionNote : Type 0 where
  pub domain : ℕ
  pub attempts : ℕ

abbrev pub begun_unless : Option BeginError → SessionValue → Ask → SessionValue
begun_unless None s a = begun s (request_of a)
begun_unless (Some error) s a = s

abbrev pub given_up_unless : Option GiveUpRefusal → SessionValue → SessionValue
given_up_unless None s = given_up s
given_up_unless (Some refusal) s = s

-- that an attempt was used is a note, and changes nothing here
abbrev pub session_after : SessionValue → SessionInput → SessionValue
session_after s (Begins a) = begun_unless (begin_refusal s a) s a
session_after s IsToSend = s
session_after s GivesUp = given_up_unless (give_up_refusal s) s
session_after s (Hears datagram) = left_by s (received_of s datagram)

abbrev pub datagrams_of : Option Message → List (List ℕ)
datagrams_of None = []
datagrams_of (Some v) = canonical v ∷ []

abbrev pub session_messages : SessionValue → SessionInput → List (List ℕ)
session_messages s (Begins a) = []
session_messages s IsToSend = if is_some (send_refusal s) then [] else datagrams_of (due_message s)
session_messages s GivesUp = []
session_messages s (Hears datagram) = []

abbrev pub reports_in : Received → List Report
reports_in (received.Answered report) = report ∷ []
reports_in (received.Ignored reason) = []

-- what its owner is reported at once
abbrev pub session_reports : SessionValue → SessionInput → List Report
session_reports s (Begins a) = []
session_reports s IsToSend = []
session_reports s GivesUp = []
session_reports s (Hears datagram) = reports_in (received_of s datagram)

abbrev pub is_answer : Received → Bool
is_answer (received.Answered report) = true
is_answer (received.Ignored reason) = false

abbrev pub session_changes : SessionValue → SessionInput → Bool
session_changes s (Begins a) = not (is_some (begin_refusal s a))
session_changes s IsToSend = false
session_changes s GivesUp = not (is_some (give_up_refusal s))
session_changes s (Hears datagram) = is_answer (received_of s datagram)

abbrev pub session_process : Process SessionValue SessionInput SessionNote (List ℕ)
session_process = record {
  after = session_after;
  messages = session_messages;
  changes = session_changes;
  noted = λ s n. resumed (retuned s n.domain) n.attempts;
  back = λ s. record { domain = s.domain; attempts = s.attempts_left };
}
