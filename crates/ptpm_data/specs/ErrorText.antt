-- How the refusal of a start and that of an observation are written (this project's profile).
use Rattle.std.specs.Prelude.{ℕ, List, ◌++◌, codes}
use Rattle.ptpm_data.specs.declared.start.StartError.{StartError}
use Rattle.ptpm_data.specs.declared.start.StartError.TheVariants as faults
use Rattle.ptpm_data.specs.declared.observation.ObservationError.{ObservationError}
use Rattle.ptpm_data.specs.declared.observation.ObservationError.TheVariants as refusals
use Rattle.ptpm_data.specs.MemberNames.{member_name}

-- the name of the member comes after BadValue
abbrev pub start_error_text : StartError → List ℕ
start_error_text faults.NoPorts = codes "NoPorts"
start_error_text faults.TooManyPorts = codes "TooManyPorts"
start_error_text (faults.BadValue member) = codes "BadValue " ++ member_name member
start_error_text faults.GrandmasterDiffers = codes "GrandmasterDiffers"

abbrev pub observation_error_text : ObservationError → List ℕ
observation_error_text refusals.NoPort = codes "NoPort"
observation_error_text (refusals.BadValue member) = codes "BadValue " ++ member_name member
observation_error_text refusals.GrandmasterDiffers = codes "GrandmasterDiffers"
