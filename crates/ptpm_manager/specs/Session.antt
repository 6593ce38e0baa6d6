-- A session: one manager's requests to one clock, one at a time (IEEE 1588-2019, 15.3 and 15.4). How requests are numbered
-- and how often one is sent is this project's profile.
use Rattle.std.specs.Prelude.{◌<◌, ◌≤◌, ℕ, ◌+◌, ◌-◌, ◌==◌, Bool, not, nat_le, nat_lt, [], ◌∷◌, Option, Some, None, is_some, option_map, if◌then◌else◌}
use Rattle.std.specs.Option.{option_or}
use Rattle.ptpm_codec.specs.declared.message.Message.{Message}
use Rattle.ptpm_data.specs.Request.{RequestValue}
use Rattle.ptpm_manager.specs.declared.ask.Ask.{Ask}
use Rattle.ptpm_manager.specs.declared.error.BeginError.{BeginError}
use Rattle.ptpm_manager.specs.declared.error.BeginError.TheVariants as begins
use Rattle.ptpm_manager.specs.declared.error.SendError.{SendError}
use Rattle.ptpm_manager.specs.declared.error.GiveUpRefusal.{GiveUpRefusal}
use Rattle.ptpm_manager.specs.declared.error.GiveUpRefusal.TheVariants as give_ups
use Rattle.ptpm_manager.specs.declared.error.SendError.TheVariants as sends
use Rattle.ptpm_manager.specs.declared.setup.Setup.{Setup}
use Rattle.ptpm_manager.specs.declared.session.State.{State}
use Rattle.ptpm_manager.specs.declared.session.State.TheVariants.{Idle, Waiting}
use Rattle.ptpm_manager.specs.declared.session.Session.TheInside.{Inside}
use Rattle.ptpm_manager.specs.Ask.{IsAskedOf, ask_refusal, named_ask_refusal, pending_request}
use Rattle.ptpm_codec.specs.Ordered.{first_of}
use Rattle.ptpm_manager.specs.Setup.{IsSetup, request_message}

-- how many requests a session begins at most
abbrev pub count_limit : ℕ
count_limit = 1000000

-- How many requests a session begins at most after the latest that was reported. A clock takes a number for a new one if it is at
-- most 32,767 ahead of the latest that it accepted. The latest that was reported was accepted.
abbrev pub reach_limit : ℕ
reach_limit = 32767

-- ---- what a session is

pub record SessionValue : Type 0 where
  pub setup : Setup
  pub domain : ℕ
  -- how many requests were begun
  pub issued : ℕ
  -- which of them was reported last, counted from 1; 0 before the first report
  pub reported : ℕ
  -- the last of those begun, while it is neither answered nor given up
  pub unanswered : Option RequestValue
  -- how often it may still be sent
  pub attempts_left : ℕ

abbrev pub unanswered_of : State → Option RequestValue
unanswered_of Idle = None
unanswered_of (Waiting pending) = Some (pending_request pending)

abbrev pub session_value : Inside → SessionValue
session_value s = record {
  setup = s.setup;
  domain = s.domain;
  issued = s.issued;
  reported = s.reported;
  unanswered = unanswered_of s.state;
  attempts_left = s.attempts_left;
}

-- the request that is not answered is the last of those begun
pub record IsUnanswered (ports issued : ℕ) (q : RequestValue) : Type 0 where
  pub counted : 1 ≤ issued
  pub request : IsAskedOf ports q

abbrev pub IsUnansweredAt : ℕ → ℕ → Option RequestValue → Type 0
IsUnansweredAt ports issued None = Unit {0}
IsUnansweredAt ports issued (Some q) = IsUnanswered ports issued q

-- what was reported was begun before the request under way, and a clock that accepted no later one takes that for a new one
abbrev pub IsInReach : ℕ → ℕ → Option RequestValue → Type 0
IsInReach issued reported None = (reported ≤ issued) × (issued < reported + reach_limit)
IsInReach issued reported (Some q) = (reported < issued) × (issued ≤ reported + reach_limit)

-- what holds of every session
pub record IsConsistent (s : SessionValue) : Type 0 where
  pub setup : IsSetup s.setup
  pub limit : s.issued ≤ count_limit
  pub unanswered_at : IsUnansweredAt s.setup.ports s.issued s.unanswered
  pub reach : IsInReach s.issued s.reported s.unanswered

abbrev pub IsSession : Inside → Type 0
IsSession s = IsConsistent (session_value s)

abbrev pub is_waiting : SessionValue → Bool
is_waiting s = is_some s.unanswered

-- how many of the requests that were begun are over: answered, or given up
abbrev pub over_count : SessionValue → ℕ
over_count s = if is_some s.unanswered then s.issued - 1 else s.issued

-- the unanswered request, as it is sent
abbrev pub due_message : SessionValue → Option Message
due_message s = option_map (request_message s.setup s.domain s.issued) s.unanswered

-- ---- what calls do to it

abbrev pub fresh : Setup → ℕ → SessionValue
fresh setup domain =
    record { setup = setup; domain = domain; issued = 0; reported = 0; unanswered = None; attempts_left = 0 }

abbrev pub begun : SessionValue → RequestValue → SessionValue
begun s q = record s { issued = s.issued + 1; unanswered = Some q; attempts_left = s.setup.attempts }

abbrev pub sent : SessionValue → SessionValue
sent s = record s { attempts_left = s.attempts_left - 1 }

abbrev pub resumed : SessionValue → ℕ → SessionValue
resumed s attempts = record s { attempts_left = attempts }

-- with all attempts before it
abbrev pub anew : SessionValue → SessionValue
anew s = resumed s s.setup.attempts

abbrev pub retuned : SessionValue → ℕ → SessionValue
retuned s domain = record s { domain = domain }

abbrev pub answered : SessionValue → SessionValue
answered s = record s { reported = s.issued; unanswered = None }

-- its request is let go, and nothing is reported of it
abbrev pub given_up : SessionValue → SessionValue
given_up s = record s { unanswered = None }

-- ---- refusals, in their order; want of memory is none of them

-- Busy, then what the ask by itself is refused for, then CountAtMaximum
unfoldable pub begin_refusal : SessionValue → Ask → Option BeginError
begin_refusal s a =
    option_or (first_of ((is_waiting s, begins.Busy) ∷ []))
    (option_or (ask_refusal s.setup.ports a) (first_of ((not (nat_lt s.issued count_limit), begins.CountAtMaximum) ∷ [])))

-- the same at the port that is named
unfoldable pub begin_at_refusal : SessionValue → Ask → Option BeginError
begin_at_refusal s a =
    option_or (first_of ((is_waiting s, begins.Busy) ∷ []))
    (option_or (named_ask_refusal s.setup.ports a) (first_of ((not (nat_lt s.issued count_limit), begins.CountAtMaximum) ∷ [])))

unfoldable pub send_refusal : SessionValue → Option SendError
send_refusal s = first_of (
    (not (is_waiting s), sends.Idle)
    ∷ (s.attempts_left == 0, sends.GaveUp)
    ∷ [])

unfoldable pub give_up_refusal : SessionValue → Option GiveUpRefusal
give_up_refusal s = first_of (
    (not (is_waiting s), give_ups.Idle)
    ∷ (nat_le (s.reported + reach_limit) s.issued, give_ups.OutOfReach)
    ∷ [])
