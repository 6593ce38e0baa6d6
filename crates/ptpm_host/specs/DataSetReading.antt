-- Why a clock's data sets are not read by an id: it permits no GET, its port is missing, or there is too
-- little room.
use Rattle.std.specs.Prelude.{ℕ, ◌&&◌, not, nat_lt, [], ◌∷◌, Option}
use Rattle.ptpm_codec.specs.declared.message.Action.TheVariants.{Get}
use Rattle.ptpm_codec.specs.Ordered.{first_of}
use Rattle.ptpm_data.specs.DataField.{permits}
use Rattle.ptpm_data.specs.ManagementId.{is_of_port}
use Rattle.ptpm_data.specs.Members.{DataSetsValue, has_port}
use Rattle.ptpm_host.specs.declared.refusal.ReadRefusal.{ReadRefusal}
use Rattle.ptpm_host.specs.declared.refusal.ReadRefusal.TheVariants.{NotReadable, NoPort, NoRoom}

abbrev pub read_refusal : ℕ → ℕ → ℕ → DataSetsValue → Option ReadRefusal
read_refusal id port room d = first_of (
    (not (permits Get id), NotReadable)
    ∷ (is_of_port id && not (has_port port d), NoPort)
    ∷ (nat_lt room 130, NoRoom)
    ∷ [])
