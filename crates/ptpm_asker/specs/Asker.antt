-- What an asker is, and how it begins.
use Rattle.std.specs.Prelude.{◌≡◌, ◌≤◌, ℕ, Bool, true, false, List, Option, None, Some, nat_le, length, if◌then◌else◌}
use Rattle.ptpm_codec.specs.Layout.{number_at, octet}
use Rattle.ptpm_manager.specs.declared.ask.Ask.{Ask}
use Rattle.ptpm_manager.specs.declared.setup.Setup.{Setup}
use Rattle.ptpm_manager.specs.declared.setup.TheConstants.{TARGET_PORTS}
use Rattle.ptpm_manager.specs.Session.{SessionValue, fresh}
use Rattle.ptpm_manager.specs.Setup.{AreTwoClocks}
use Rattle.ptpm_asker.specs.declared.asker.Asker.TheInside.{Inside}
use Rattle.ptpm_asker.specs.declared.earlier.Earlier.{Earlier}
use Rattle.ptpm_asker.specs.declared.earlier.Earlier.TheVariants as earlier
use Rattle.ptpm_asker.specs.declared.settings.Settings.{Settings}
use Rattle.ptpm_asker.specs.declared.stage.Stage.{Stage}
use Rattle.ptpm_asker.specs.declared.stage.Stage.TheVariants as stages
use Rattle.ptpm_asker.specs.Question.{asked_refusal, earlier_of}

pub record AskerValue : Type 0 where
  pub settings : Settings
  -- random octets for the question of this run
  pub drawn : List ℕ
  pub session : SessionValue
  -- the number of the session's first request
  pub first : ℕ
  -- the hops of its requests
  pub hops : ℕ
  pub stage : Stage
  -- what its owner asked, until it is begun; and how the owner names its request
  pub wanted : Option Ask
  pub tag : ℕ
  -- whether the request under way is the question
  pub is_testing : Bool
  -- whether the question was answered in this run
  pub is_new : Bool
  -- whether there is a file, and what it had under way
  pub is_kept : Bool
  pub earlier : Earlier
  -- how many further numbers a new session may try
  pub numbers_left : ℕ
  -- the latest read by nobody, how many there were, how many of this number were answered, and whether one is due
  pub reader : SessionValue
  pub reads : ℕ
  pub readings : ℕ
  pub is_read_due : Bool
  pub wake_at : ℕ
  -- whether a message of the request under way left in this run, before the latest; and whether the latest did
  pub has_left : Bool
  pub is_out : Bool
  -- whether the request under way was taken back, since no message of it left
  pub is_taken_back : Bool

abbrev pub asker_value : Inside → AskerValue
asker_value i = record {
  settings = i.settings;
  drawn = i.drawn;
  session = i.session;
  first = i.first;
  hops = i.hops;
  stage = i.stage;
  wanted = i.wanted;
  tag = i.tag;
  is_testing = i.is_testing;
  is_new = i.is_new;
  is_kept = i.is_kept;
  earlier = i.earlier;
  numbers_left = i.numbers_left;
  reader = i.reader;
  reads = i.reads;
  readings = i.readings;
  is_read_due = i.is_read_due;
  wake_at = i.wake_at;
  has_left = i.has_left;
  is_out = i.is_out;
  is_taken_back = i.is_taken_back;
}

-- what holds of the settings of every asker
pub record AreSettings (s : Settings) : Type 0 where
  pub clocks : AreTwoClocks s.me.clock s.target
  pub some_port : 1 ≤ s.ports
  pub few_ports : s.ports ≤ TARGET_PORTS

-- what is wanted is an ask that by itself is not refused
abbrev pub IsJudged : ℕ → Option Ask → Type 0
IsJudged ports None = Unit {0}
IsJudged ports (Some wanted) = asked_refusal ports wanted ≡ None

-- what holds of every asker
pub record IsAsker (i : Inside) : Type 0 where
  pub settings : AreSettings i.settings
  pub wanted : IsJudged i.settings.ports i.wanted

-- a session that begins at a number
abbrev pub setup_with : Settings → ℕ → Setup
setup_with s first =
    record { me = s.me; target = s.target; ports = s.ports; first = first; hops = s.hops; attempts = s.attempts }

-- that of nobody, at the manager's clock, for one message
abbrev pub reader_setup : Settings → ℕ → Setup
reader_setup s first = record {
  me = record { clock = s.me.clock; port = s.nobody };
  target = s.target;
  ports = s.ports;
  first = first;
  hops = s.hops;
  attempts = 1;
}

-- ---- how it begins

abbrev pub at_rest : Settings → List ℕ → SessionValue → ℕ → ℕ → Bool → Earlier → ℕ → AskerValue
at_rest settings drawn session first hops is_kept what numbers_left = record {
  settings = settings;
  drawn = drawn;
  session = session;
  first = first;
  hops = hops;
  stage = stages.Resting;
  wanted = None;
  tag = 0;
  is_testing = false;
  is_new = false;
  is_kept = is_kept;
  earlier = what;
  numbers_left = numbers_left;
  reader = fresh (reader_setup settings 0) 0;
  reads = 0;
  readings = 0;
  is_read_due = false;
  wake_at = 0;
  has_left = false;
  is_out = false;
  is_taken_back = false;
}

-- Without a file: a session at a number that was drawn. Of four numbers 16,384 apart one is new, so three may follow.
abbrev pub opened_new : Settings → List ℕ → ℕ → AskerValue
opened_new settings drawn number =
    at_rest settings drawn (fresh (setup_with settings number) 0) number settings.hops false earlier.NoRequest 3

-- with the session that a file has
abbrev pub opened : Settings → List ℕ → SessionValue → AskerValue
opened settings drawn s = at_rest settings drawn s s.setup.first s.setup.hops true (earlier_of s.unanswered) 0

-- the first number that an image has; 0 in octets that are too few for one
abbrev pub first_in : List ℕ → ℕ
first_in image = if nat_le 53 (length image) then number_at 31 image else 0

-- the hops that it has; 0 in octets that are too few for one
abbrev pub hops_in : List ℕ → ℕ
hops_in image = if nat_le 53 (length image) then octet 33 image else 0
