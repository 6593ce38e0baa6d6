-- What the settings of a host describe: a session that has begun nothing. And why they describe none.
use Rattle.std.specs.Prelude.{ℕ, nat_lt, List, [], ◌∷◌, Option}
use Rattle.ptpm_codec.specs.declared.identity.ClockIdentity.{ClockIdentity}
use Rattle.ptpm_codec.specs.declared.identity.PortIdentity.{PortIdentity}
use Rattle.ptpm_codec.specs.Identity.{every_clock, same_clock}
use Rattle.ptpm_codec.specs.Ordered.{first_of}
use Rattle.ptpm_manager.specs.declared.error.RestoreError.{RestoreError}
use Rattle.ptpm_manager.specs.declared.setup.Setup.{Setup}
use Rattle.ptpm_manager.specs.declared.setup.TheConstants.{TARGET_PORTS}
use Rattle.ptpm_manager.specs.Restoring.{restore_refusal}
use Rattle.ptpm_manager.specs.Session.{SessionValue, fresh}
use Rattle.ptpm_host.specs.Settings.{is_zero}
use Rattle.ptpm_host.specs.declared.refusal.SessionRefusal.{SessionRefusal}
use Rattle.ptpm_host.specs.declared.refusal.SessionRefusal.TheVariants as refusals
use Rattle.ptpm_host.specs.declared.session_settings.SessionSettings.{SessionSettings}

abbrev pub manager_port : SessionSettings → PortIdentity
manager_port s = record { clock = record { 0 = s.clock }; port = s.port }

abbrev pub target_clock : SessionSettings → ClockIdentity
target_clock s = record { 0 = s.target }

abbrev pub setup_of : SessionSettings → Setup
setup_of s = record {
  me = manager_port s;
  target = target_clock s;
  ports = s.target_ports;
  first = s.first;
  hops = s.hops;
  attempts = s.attempts;
}

abbrev pub session_start : SessionSettings → SessionValue
session_start s = fresh (setup_of s) s.domain

-- A manager and its clock are two clocks, and neither has the identity that means every clock (15.3.1). The clock has 1
-- to 255 ports, and its identity is not all zeros (this project's profile).
abbrev pub session_refusal : SessionSettings → Option SessionRefusal
session_refusal s = first_of (
    (same_clock (manager_port s).clock every_clock, refusals.ManagerIsEvery)
    ∷ (same_clock (target_clock s) every_clock, refusals.TargetIsEvery)
    ∷ (same_clock (manager_port s).clock (target_clock s), refusals.SameClock)
    ∷ (nat_lt s.target_ports 1, refusals.NoPorts)
    ∷ (nat_lt TARGET_PORTS s.target_ports, refusals.TooManyPorts)
    ∷ (is_zero (target_clock s), refusals.TargetIsZero)
    ∷ [])

-- why an image is none of the session that the settings describe
abbrev pub settings_refusal : SessionSettings → List ℕ → Option RestoreError
settings_refusal s image = restore_refusal (manager_port s) (target_clock s) s.target_ports s.first image
