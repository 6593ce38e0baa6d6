-- The keys of a network file's tables, and what they may hold (this project's profile).
use Rattle.std.specs.Prelude.{ℕ, pos, negsuc, nat_le, int_le, Bool, true, false, ◌&&◌, if◌then◌else◌, List, [], ◌∷◌, bytes_eq, codes, Option, Some, None, is_some}
use Rattle.toml.specs.Data.{Data, as_str, as_integer, as_bool, as_array}
use Rattle.ptpm_script.specs.declared.rules.Kind.{Kind}
use Rattle.ptpm_script.specs.declared.rules.Kind.TheVariants as kinds
use Rattle.ptpm_script.specs.declared.rules.Rule.{Rule}
use Rattle.ptpm_script.specs.Spellings.{clock_identity, is_name, passes, port_identity}

-- ---- what a key may hold

unfoldable pub fits : Kind → Data → Bool
fits (kinds.Whole least most) d = passes (λ n. int_le least n && int_le n most) (as_integer d)
fits kinds.Flag d = is_some (as_bool d)
fits kinds.Text d = is_some (as_str d)
fits kinds.Name d = passes is_name (as_str d)
fits kinds.Clock d = passes (λ text. is_some (clock_identity text)) (as_str d)
fits (kinds.Port most) d = passes (λ text. passes (λ p. nat_le p.port most) (port_identity text)) (as_str d)
fits kinds.Array d = is_some (as_array d)

-- a key of a table
pub record KeyRule : Type 0 where
  pub key : List ℕ
  pub kind : Kind
  pub is_required : Bool

abbrev pub required : List ℕ → Kind → KeyRule
required key kind = record { key = key; kind = kind; is_required = true }

abbrev pub optional : List ℕ → Kind → KeyRule
optional key kind = record { key = key; kind = kind; is_required = false }

-- a rule of the program, as such a key
abbrev pub key_rule : Rule → KeyRule
key_rule r = record { key = r.key.now; kind = r.kind; is_required = r.is_required }

-- what the rules say of a key: the first rule of it
abbrev pub kind_of : List KeyRule → List ℕ → Option Kind
kind_of [] key = None
kind_of (r ∷ rs) key = if bytes_eq r.key key then Some r.kind else kind_of rs key

-- ---- the keys of each table

abbrev pub u8 : Kind
u8 = kinds.Whole (pos 0) (pos 255)

abbrev pub u16 : Kind
u16 = kinds.Whole (pos 0) (pos 65535)

abbrev pub i8 : Kind
i8 = kinds.Whole (negsuc 127) (pos 127)

abbrev pub i16 : Kind
i16 = kinds.Whole (negsuc 32767) (pos 32767)

abbrev pub i32 : Kind
i32 = kinds.Whole (negsuc 2147483647) (pos 2147483647)

abbrev pub i64 : Kind
i64 = kinds.Whole (negsuc 9223372036854775807) (pos 9223372036854775807)

-- the file itself
abbrev pub file_rules : List KeyRule
file_rules =
    required (codes "version") (kinds.Whole (pos 1) (pos 2))
    ∷ optional (codes "clock") kinds.Array
    ∷ optional (codes "session") kinds.Array
    ∷ optional (codes "link") kinds.Array
    ∷ []

-- a clock; its ports with members of their own are in an array
abbrev pub clock_rules : List KeyRule
clock_rules =
    required (codes "name") kinds.Name
    ∷ required (codes "identity") kinds.Clock
    ∷ required (codes "domain") u8
    ∷ required (codes "ports") u16
    ∷ optional (codes "port") kinds.Array
    ∷ optional (codes "user_description") kinds.Text
    ∷ optional (codes "two_step") kinds.Flag
    ∷ optional (codes "priority1") u8
    ∷ optional (codes "clock_class") u8
    ∷ optional (codes "clock_accuracy") u8
    ∷ optional (codes "variance") u16
    ∷ optional (codes "priority2") u8
    ∷ optional (codes "steps_removed") u16
    ∷ optional (codes "offset_from_master") i64
    ∷ optional (codes "mean_path_delay") i64
    ∷ optional (codes "parent_port") (kinds.Port 65535)
    ∷ optional (codes "parent_stats") kinds.Flag
    ∷ optional (codes "observed_variance") u16
    ∷ optional (codes "observed_rate") i32
    ∷ optional (codes "grandmaster_priority1") u8
    ∷ optional (codes "grandmaster_class") u8
    ∷ optional (codes "grandmaster_accuracy") u8
    ∷ optional (codes "grandmaster_variance") u16
    ∷ optional (codes "grandmaster_priority2") u8
    ∷ optional (codes "grandmaster") kinds.Clock
    ∷ optional (codes "utc_offset") i16
    ∷ optional (codes "leap61") kinds.Flag
    ∷ optional (codes "leap59") kinds.Flag
    ∷ optional (codes "utc_valid") kinds.Flag
    ∷ optional (codes "ptp_timescale") kinds.Flag
    ∷ optional (codes "time_traceable") kinds.Flag
    ∷ optional (codes "frequency_traceable") kinds.Flag
    ∷ optional (codes "time_source") u8
    ∷ []

-- a port of a clock
abbrev pub port_rules : List KeyRule
port_rules =
    required (codes "number") u16
    ∷ optional (codes "state") u8
    ∷ optional (codes "log_min_delay_req") i8
    ∷ optional (codes "peer_delay") i64
    ∷ optional (codes "log_announce") i8
    ∷ optional (codes "receipt_timeout") u8
    ∷ optional (codes "log_sync") i8
    ∷ optional (codes "delay_mechanism") u8
    ∷ optional (codes "log_min_pdelay") i8
    ∷ []

-- a session; its rights are judged by the version besides
abbrev pub session_rules : List KeyRule
session_rules =
    required (codes "name") kinds.Name
    ∷ required (codes "identity") (kinds.Port 65534)
    ∷ required (codes "target") kinds.Name
    ∷ required (codes "first") u16
    ∷ required (codes "hops") u8
    ∷ required (codes "attempts") u8
    ∷ optional (codes "domain") u8
    ∷ optional (codes "rights") kinds.Array
    ∷ []

-- a link
abbrev pub link_rules : List KeyRule
link_rules =
    required (codes "ends") kinds.Array
    ∷ []
