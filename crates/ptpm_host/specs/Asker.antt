-- An asker that a host keeps: what it is set up with, what is asked of it in plain numbers, and what it hands out.
use Rattle.std.specs.Prelude.{◌≡◌, ℕ, ◌==◌, ◌||◌, false, List, [], ◌∷◌, Option, None, Some, option_map, if◌then◌else◌}
use Rattle.std.specs.Option.{option_or}
use Rattle.ptpm_codec.specs.Identity.{every_port}
use Rattle.ptpm_codec.specs.Ordered.{first_of}
use Rattle.ptpm_manager.specs.declared.ask.Ask.{Ask}
use Rattle.ptpm_manager.specs.declared.report.Outcome.{Outcome}
use Rattle.ptpm_manager.specs.Restoring.{restore_refusal}
use Rattle.ptpm_asker.specs.declared.earlier.Earlier.{Earlier}
use Rattle.ptpm_asker.specs.declared.earlier.Earlier.TheVariants as earlier
use Rattle.ptpm_asker.specs.declared.output.Output.{Output}
use Rattle.ptpm_asker.specs.declared.output.Output.TheVariants as outputs
use Rattle.ptpm_asker.specs.declared.settings.Settings.{Settings}
use Rattle.ptpm_asker.specs.Asker.{AskerValue, first_in}
use Rattle.ptpm_asker.specs.Turns.{IsMessage, Turn}
use Rattle.ptpm_host.specs.declared.asker.HostedAsker.{HostedAsker}
use Rattle.ptpm_host.specs.declared.asker_settings.AskerSettings.{AskerSettings}
use Rattle.ptpm_host.specs.declared.handed.Handed.{Handed}
use Rattle.ptpm_host.specs.declared.refusal.AskerRefusal.{AskerRefusal}
use Rattle.ptpm_host.specs.declared.refusal.AskerRefusal.TheVariants as refusals
use Rattle.ptpm_host.specs.declared.refusal.ReportRefusal.{ReportRefusal}
use Rattle.ptpm_host.specs.declared.refusal.ReportRefusal.TheVariants as reports
use Rattle.ptpm_host.specs.declared.refusal.SessionRefusal.{SessionRefusal}
use Rattle.ptpm_host.specs.declared.refusal.SessionRefusal.TheVariants as sessions
use Rattle.ptpm_host.specs.ReportedOutcome.{room_refusal}
use Rattle.ptpm_host.specs.Session.{asked_action}
use Rattle.ptpm_host.specs.SessionSettings.{manager_port, session_refusal, target_clock}

-- ---- what it is set up with

abbrev pub asker_settings : AskerSettings → Settings
asker_settings s = record {
  me = manager_port s.session;
  target = target_clock s.session;
  ports = s.session.target_ports;
  hops = s.session.hops;
  nobody = s.nobody;
  attempts = s.session.attempts;
  timeout = s.timeout;
  wait = s.wait;
}

-- A question is asked by the manager, and a read by nobody: so these are two ports (this project's profile).
abbrev pub asker_refusal : AskerSettings → Option SessionRefusal
asker_refusal s =
    option_or (session_refusal s.session) (first_of ((s.nobody == s.session.port, sessions.NobodyIsManager) ∷ []))

-- why an image gives no asker: the settings first, and then the image, whose first number is its own
abbrev pub restore_asker_refusal : AskerSettings → List ℕ → Option AskerRefusal
restore_asker_refusal s image =
    option_or (option_map refusals.Settings (asker_refusal s))
    (option_map refusals.Image
    (restore_refusal (manager_port s.session) (target_clock s.session) s.session.target_ports (first_in image) image))

-- ---- what is asked

-- port 0 and every port name none
abbrev pub asked_port : ℕ → Option ℕ
asked_port port = if port == 0 || port == every_port then None else Some port

abbrev pub wanted_of : ℕ → ℕ → ℕ → List ℕ → Ask
wanted_of action id port octets =
    record { action = asked_action action; id = id; port = asked_port port; octets = octets }

-- ---- what is handed out, in plain numbers

abbrev pub handed : ℕ → ℕ → ℕ → ℕ → Handed
handed what tag number time =
    record { tag = tag; time = time; what = what; number = number; was_sent = false; is_read_answered = false }

abbrev pub handed_of : Output → Handed
handed_of outputs.Nothing = handed 0 0 0 0
handed_of (outputs.Begun tag number) = handed 1 tag number 0
handed_of outputs.Save = handed 2 0 0 0
handed_of (outputs.Send wake_at) = handed 3 0 0 wake_at
handed_of (outputs.Read wake_at) = handed 4 0 0 wake_at
handed_of (outputs.WakeAt time) = handed 5 0 0 time
handed_of (outputs.Told tag number outcome) = handed 6 tag number 0
handed_of (outputs.Failed was_sent is_read_answered) =
    record (handed 7 0 0 0) { was_sent = was_sent; is_read_answered = is_read_answered }

-- the answer that was reported last
abbrev pub told_after : Option Outcome → Output → Option Outcome
told_after before outputs.Nothing = before
told_after before (outputs.Begun tag number) = before
told_after before outputs.Save = before
told_after before (outputs.Send wake_at) = before
told_after before (outputs.Read wake_at) = before
told_after before (outputs.WakeAt time) = before
told_after before (outputs.Told tag number outcome) = Some outcome
told_after before (outputs.Failed was_sent is_read_answered) = before

-- ---- an asker as it is kept

-- of this value, with this answer reported last
abbrev pub IsAskerAt : HostedAsker → AskerValue → Option Outcome → Type 0
IsAskerAt u value told = (u.asker ≡ value) × (u.told ≡ told)

-- the asker that was kept takes this turn, and hands this out
pub record HandsTurn (s : HostedAsker) (t : Turn) (out : Handed) (u : HostedAsker) : Type 0 where
  pub asker : IsAskerAt u t.asker (told_after s.told t.output)
  pub handed : out ≡ handed_of t.output

-- the same, and what was handed out to be sent last stays
pub record HasTurned (s : HostedAsker) (t : Turn) (out : Handed) (u : HostedAsker) : Type 0 where
  pub turned : HandsTurn s t out u
  pub buffer : u.buffer ≡ s.buffer

-- the same; what is to be sent is its message, and else what was handed out before stays
pub record HasTurnedWith (s : HostedAsker) (t : Turn) (out : Handed) (u : HostedAsker) : Type 0 where
  pub turned : HandsTurn s t out u
  pub message : IsMessage t.output t.asker s.buffer.items u.buffer.items

-- ---- what an earlier run left, in plain numbers

abbrev pub earlier_number : Earlier → ℕ
earlier_number earlier.NoRequest = 0
earlier_number earlier.Question = 1
earlier_number earlier.Reads = 2
earlier_number (earlier.MovesTo domain) = 3
earlier_number earlier.Changes = 3

-- why no answer is given
abbrev pub told_refusal : ℕ → Option Outcome → Option ReportRefusal
told_refusal room None = Some reports.NoReport
told_refusal room (Some outcome) = room_refusal room outcome
