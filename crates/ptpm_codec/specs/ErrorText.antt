-- How errors are written (this project's profile).
use Rattle.std.specs.Prelude.{ℕ, List, codes}
use Rattle.ptpm_codec.specs.declared.error.DecodeError.{DecodeError}
use Rattle.ptpm_codec.specs.declared.error.DecodeError.TheVariants as refusals

abbrev pub out_of_memory_text : List ℕ
out_of_memory_text = codes "OutOfMemory"

abbrev pub refusal_text : DecodeError → List ℕ
refusal_text refusals.TooShort = codes "TooShort"
refusal_text refusals.NotManagement = codes "NotManagement"
refusal_text refusals.BadVersion = codes "BadVersion"
refusal_text refusals.BadLength = codes "BadLength"
refusal_text refusals.BadAction = codes "BadAction"
refusal_text refusals.BadTlvType = codes "BadTlvType"
refusal_text refusals.BadTlvLength = codes "BadTlvLength"
refusal_text refusals.BadText = codes "BadText"
refusal_text refusals.OutOfMemory = codes "OutOfMemory"
