-- How the refusal of an image is written (this project's profile).
use Rattle.std.specs.Prelude.{ℕ, List, codes}
use Rattle.ptpm_saved.specs.declared.error.RestoreError.{RestoreError}
use Rattle.ptpm_saved.specs.declared.error.RestoreError.TheVariants as restores

abbrev pub restore_error_text : RestoreError → List ℕ
restore_error_text restores.NotAnImage = codes "NotAnImage"
restore_error_text restores.OtherVersion = codes "OtherVersion"
restore_error_text restores.OtherKind = codes "OtherKind"
restore_error_text restores.Damaged = codes "Damaged"
restore_error_text restores.OtherClock = codes "OtherClock"
restore_error_text restores.OtherPorts = codes "OtherPorts"
