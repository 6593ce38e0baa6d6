-- What a network file gives twice: each from its second time on (this project's profile).
use Rattle.std.specs.Prelude.{ℕ, ◌+◌, ◌==◌, Bool, true, false, ◌&&◌, List, [], ◌++◌, bytes_eq, codes, length, map, Option, Some, None, option_map}
use Rattle.std.specs.List.{list_any}
use Rattle.toml.specs.Data.{Data, as_table, Members}
use Rattle.ptpm_codec.specs.Identity.{same_clock, same_identity}
use Rattle.ptpm_codec.specs.declared.identity.ClockIdentity.{ClockIdentity}
use Rattle.ptpm_codec.specs.declared.identity.PortIdentity.{PortIdentity}
use Rattle.ptpm_script.specs.Spellings.{passes}
use Rattle.ptpm_script.specs.Values.{natural_at}
use Rattle.ptpm_script.specs.declared.net_error.NetError.TheVariants.{Twice}
use Rattle.ptpm_script.specs.Heads.{ClockHeadValue, EndHeadValue, SessionHeadValue, items_at, number_in}
use Rattle.ptpm_script.specs.Marks.{Mark, Spot, at_item, each_after, in_port, mark_if, value_mark_if}

-- the value at a key, if this holds
abbrev pub twice_if : Bool → Spot → List ℕ → Members → List Mark
twice_if test spot key ms = value_mark_if test Twice spot key ms

-- ---- ports' tables

abbrev pub is_number_of : List (Option ℕ) → ℕ → Bool
is_number_of numbers n = list_any (passes (λ m. m == n)) numbers

abbrev pub port_members_repeats : Spot → List (Option ℕ) → Option Members → List Mark
port_members_repeats spot before None = []
port_members_repeats spot before (Some ms) =
    twice_if (passes (is_number_of before) (natural_at 65535 (codes "number") ms)) spot (codes "number") ms

unfoldable pub port_repeats : ℕ → List Data → Data → List Mark
port_repeats clock before d = port_members_repeats (in_port clock (length before + 1)) (map number_in before) (as_table d)

-- ---- clocks

abbrev pub is_clock_name : List ClockHeadValue → List ℕ → Bool
is_clock_name cs name = list_any (λ c. passes (λ other. bytes_eq other name) c.name) cs

abbrev pub is_clock_identity : List ClockHeadValue → ClockIdentity → Bool
is_clock_identity cs identity = list_any (λ c. passes (λ other. same_clock other identity) c.identity) cs

unfoldable pub clock_repeats : List ClockHeadValue → ClockHeadValue → List Mark
clock_repeats before c =
    each_after (port_repeats c.number) [] (items_at (codes "port") c.table)
    ++ twice_if (passes (is_clock_name before) c.name) c.spot (codes "name") c.table
    ++ twice_if (passes (is_clock_identity before) c.identity) c.spot (codes "identity") c.table

-- ---- sessions: also by what a clock has

abbrev pub is_session_name : List SessionHeadValue → List ℕ → Bool
is_session_name ss name = list_any (λ s. passes (λ other. bytes_eq other name) s.name) ss

abbrev pub is_session_identity : List SessionHeadValue → PortIdentity → Bool
is_session_identity ss identity = list_any (λ s. passes (λ other. same_identity other identity) s.identity) ss

unfoldable pub session_repeats : List ClockHeadValue → List SessionHeadValue → SessionHeadValue → List Mark
session_repeats cs before s =
    twice_if (passes (is_clock_name cs) s.name) s.spot (codes "name") s.table
    ++ twice_if (passes (is_session_name before) s.name) s.spot (codes "name") s.table
    ++ twice_if (passes (is_clock_identity cs) (option_map (λ identity. identity.clock) s.identity)) s.spot (codes "identity") s.table
    ++ twice_if (passes (is_session_identity before) s.identity) s.spot (codes "identity") s.table

-- ---- ends

abbrev pub same_port : Option ℕ → Option ℕ → Bool
same_port None None = true
same_port (Some a) (Some b) = a == b
same_port _ _ = false

abbrev pub is_same_end : EndHeadValue → EndHeadValue → Bool
is_same_end e other = bytes_eq other.name e.name && same_port other.port e.port

unfoldable pub end_repeats : List EndHeadValue → EndHeadValue → List Mark
end_repeats before e = mark_if (list_any (is_same_end e) before) Twice e.spot (at_item (codes "ends") e.number)

-- ---- the file

unfoldable pub repeat_marks : List ClockHeadValue → List SessionHeadValue → List EndHeadValue → List Mark
repeat_marks cs ss es =
    each_after clock_repeats [] cs ++ each_after (session_repeats cs) [] ss ++ each_after end_repeats [] es
