-- What a session is set up with, and its requests as messages (IEEE 1588-2019, 15.4.1). The numbering of requests is this
-- project's profile.
use Rattle.std.specs.Prelude.{◌≡◌, ◌≤◌, ℕ, Bool, false, not, ◌&&◌, ◌==◌, nat_le}
use Rattle.ptpm_codec.specs.declared.identity.ClockIdentity.{ClockIdentity}
use Rattle.ptpm_codec.specs.declared.identity.PortIdentity.{PortIdentity}
use Rattle.ptpm_codec.specs.declared.message.Message.{Message}
use Rattle.ptpm_codec.specs.declared.message.Body.TheVariants as bodies
use Rattle.ptpm_codec.specs.Identity.{every_clock, same_clock, same_identity}
use Rattle.ptpm_codec.specs.SequenceNumber.{number_of}
use Rattle.ptpm_data.specs.Request.{RequestValue}
use Rattle.ptpm_manager.specs.declared.setup.Setup.{Setup}
use Rattle.ptpm_manager.specs.declared.setup.TheConstants.{TARGET_PORTS}

-- a session and its clock are two clocks, and neither is the identity that means every clock
pub record AreTwoClocks (me target : ClockIdentity) : Type 0 where
  pub me_is_one : same_clock me every_clock ≡ false
  pub target_is_one : same_clock target every_clock ≡ false
  pub apart : same_clock me target ≡ false

-- what each session is set up with: another clock than its own, which has 1 to 255 ports
pub record IsSetup (setup : Setup) : Type 0 where
  pub clocks : AreTwoClocks setup.me.clock setup.target
  pub some_port : 1 ≤ setup.ports
  pub few_ports : setup.ports ≤ TARGET_PORTS

-- the same as a test
abbrev pub is_setup : Setup → Bool
is_setup setup =
    not (same_clock setup.me.clock every_clock) && not (same_clock setup.target every_clock)
    && not (same_clock setup.me.clock setup.target) && nat_le 1 setup.ports && nat_le setup.ports TARGET_PORTS

-- whether it is that of this manager with this clock of this many ports, whose first request has this number
abbrev pub is_setup_of : PortIdentity → ClockIdentity → ℕ → ℕ → Setup → Bool
is_setup_of me target ports first setup =
    same_identity setup.me me && same_clock setup.target target && setup.ports == ports && setup.first == first

-- the k-th request as a message, in the domain that the session has now
abbrev pub request_message : Setup → ℕ → ℕ → RequestValue → Message
request_message setup domain k q = record {
  sdo = 0;
  domain = domain;
  source = setup.me;
  number = number_of setup.first k;
  target = record { clock = setup.target; port = q.port };
  starting_hops = setup.hops;
  hops = setup.hops;
  body = bodies.Request q.action q.id q.octets;
}
