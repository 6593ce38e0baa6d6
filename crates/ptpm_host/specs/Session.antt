-- A session that a host keeps: what is asked of it in plain numbers, what it hears, and why it begins or hands out nothing.
use Rattle.std.specs.Prelude.{◌≡◌, ◌≢◌, ℕ, ◌==◌, nat_lt, List, [], ◌∷◌, Err, IfErr, OnOk, Option, None, Result, Some, option_map, if◌then◌else◌}
use Rattle.std.specs.Option.{option_or}
use Rattle.ptpm_codec.specs.declared.message.Action.{Action}
use Rattle.ptpm_codec.specs.declared.message.Action.TheVariants as actions
use Rattle.ptpm_codec.specs.Ordered.{first_of}
use Rattle.ptpm_data.specs.Request.{RequestValue}
use Rattle.ptpm_manager.specs.declared.ask.Ask.{Ask}
use Rattle.ptpm_manager.specs.declared.receiving.Received.{Received}
use Rattle.ptpm_manager.specs.declared.receiving.Received.TheVariants as received
use Rattle.ptpm_manager.specs.declared.report.Report.{Report}
use Rattle.ptpm_manager.specs.Session.{SessionValue, begun, send_refusal}
use Rattle.ptpm_host.specs.declared.refusal.ReportRefusal.{ReportRefusal}
use Rattle.ptpm_host.specs.declared.refusal.ReportRefusal.TheVariants as reports
use Rattle.ptpm_host.specs.declared.refusal.SendRefusal.{SendRefusal}
use Rattle.ptpm_host.specs.declared.refusal.SendRefusal.TheVariants as sends
use Rattle.ptpm_host.specs.declared.session.Heard.{Heard}
use Rattle.ptpm_host.specs.declared.session.Heard.TheVariants as heard
use Rattle.ptpm_host.specs.declared.session.HostedSession.{HostedSession}
use Rattle.ptpm_host.specs.ReportedOutcome.{room_refusal}

-- ---- what is asked

-- the action of an actionField (15.4.1.6); every other number counts as RESPONSE, which is no request's
abbrev pub asked_action : ℕ → Action
asked_action action =
    if action == 0 then actions.Get
    else if action == 1 then actions.Set
    else if action == 3 then actions.Command
    else actions.Response

abbrev pub ask_of : ℕ → ℕ → ℕ → List ℕ → Ask
ask_of action id port octets = record { action = asked_action action; id = id; port = Some port; octets = octets }

-- ---- a session as it is kept

-- of this value, with this answer to its latest request
abbrev pub IsAt : HostedSession → SessionValue → Option Report → Type 0
IsAt t value report = (t.session ≡ value) × (t.report ≡ report)

-- the session that was kept, with this request begun, and no answer to it yet
abbrev pub HasBegun : HostedSession → RequestValue → HostedSession → Type 0
HasBegun s q t = IsAt t (begun s.session q) None

-- ---- what a call answers that is refused for a reason, and that also asks for memory

-- `first` is the first reason to refuse it, if there is one. The call is done only if there is none. If there is one, it is
-- named. No other reason is ever named, except that memory was refused.
pub record IsJudgedBy {T E : Type 0} (first : Option E) (memory : E) (result : Result T E) : Type 0 where
  pub permitted : OnOk result (first ≡ None)
  pub refused : (e : E) → first ≡ Some e → result ≡ Err e
  pub no_other : IfErr result (λ e. e ≢ memory → first ≡ Some e)

-- ---- why nothing is handed out: too little room, and then what it is refused for

abbrev pub message_refusal : ℕ → Option SendRefusal
message_refusal room = first_of ((nat_lt room 1472, sends.NoRoom) ∷ [])

abbrev pub hand_refusal : ℕ → SessionValue → Option SendRefusal
hand_refusal room s = option_or (message_refusal room) (option_map sends.Session (send_refusal s))

-- ---- what is made of a datagram, and the answer that is kept after it

abbrev pub heard_of : Received → Heard
heard_of (received.Answered report) = heard.Answered
heard_of (received.Ignored reason) = heard.Ignored reason

abbrev pub report_after : Option Report → Received → Option Report
report_after kept (received.Answered report) = Some report
report_after kept (received.Ignored reason) = kept

-- ---- why no answer is given

abbrev pub report_refusal : ℕ → Option Report → Option ReportRefusal
report_refusal room None = Some reports.NoReport
report_refusal room (Some report) = room_refusal room report.outcome
