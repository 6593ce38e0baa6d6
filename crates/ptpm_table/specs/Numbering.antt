-- What a numbered request is, by what is kept of its manager (this project's profile).
use Rattle.std.specs.Prelude.{ℕ, ◌==◌, ◌&&◌, Bool, bytes_eq, Option, Some, None, if◌then◌else◌}
use Rattle.ptpm_codec.specs.Message.{action_code}
use Rattle.ptpm_data.specs.Request.{RequestValue}
use Rattle.ptpm_table.specs.declared.serial.Serial.{Serial}
use Rattle.ptpm_table.specs.declared.serial.Serial.TheVariants.{Same, Newer, Older}
use Rattle.ptpm_table.specs.declared.reply_table.Look.{Look}
use Rattle.ptpm_table.specs.declared.reply_table.Look.TheVariants.{Unknown, New, Repeat, Conflict, Old}
use Rattle.ptpm_table.specs.Entries.{Entry}
use Rattle.ptpm_table.specs.Serial.{serial_of}

-- the same action, id, target portNumber and dataField
abbrev pub same_request : RequestValue → RequestValue → Bool
same_request a b = action_code a.action == action_code b.action && (a.id == b.id && (a.port == b.port && bytes_eq a.octets b.octets))

abbrev pub look_by : Serial → Bool → Look
look_by Same same = if same then Repeat else Conflict
look_by Newer same = New
look_by Older same = Old

-- a request of a configured manager, by the entry of the manager
abbrev pub look_at : Option Entry → ℕ → RequestValue → Look
look_at None number q = New
look_at (Some e) number q = look_by (serial_of e.number number) (same_request e.request q)

abbrev pub look_of : Bool → Option Entry → ℕ → RequestValue → Look
look_of known kept number q = if known then look_at kept number q else Unknown
