-- Targets, ends and ports that are not there (this project's profile).
use Rattle.std.specs.Prelude.{ℕ, ◌==◌, nat_lt, Bool, true, not, ◌||◌, if◌then◌else◌, List, [], ◌++◌, bytes_eq, codes, find, flat_map, Option, Some, None, option_and_then}
use Rattle.toml.specs.Data.{Data, as_table, Members}
use Rattle.ptpm_script.specs.Spellings.{is_between, passes}
use Rattle.ptpm_script.specs.Values.{natural_at}
use Rattle.ptpm_script.specs.declared.limits.TheConstants.{CLOCK_PORTS}
use Rattle.ptpm_script.specs.declared.net_error.NetError.TheVariants.{NoSuchName}
use Rattle.ptpm_script.specs.Heads.{ClockHeadValue, EndHeadValue, SessionHeadValue, items_at}
use Rattle.ptpm_script.specs.Marks.{Mark, Spot, at_item, each, in_port, mark_if, value_mark_if}
use Rattle.ptpm_script.specs.RepeatFaults.{is_clock_name, is_session_name}

-- ---- ports: of a clock that can start with its number of ports, and of no other

abbrev pub if_ports : ℕ → Option ℕ
if_ports count = if is_between 1 CLOCK_PORTS count then Some count else None

abbrev pub ports_of : ClockHeadValue → Option ℕ
ports_of c = option_and_then if_ports c.count

abbrev pub is_past : ℕ → ℕ → Bool
is_past count number = (number == 0) || nat_lt count number

abbrev pub past_members : Spot → ℕ → Option Members → List Mark
past_members spot count None = []
past_members spot count (Some ms) =
    value_mark_if (passes (is_past count) (natural_at 65535 (codes "number") ms)) NoSuchName spot (codes "number") ms

abbrev pub past_port : ℕ → ℕ → ℕ → Data → List Mark
past_port clock count n d = past_members (in_port clock n) count (as_table d)

abbrev pub past_ports : ClockHeadValue → Option ℕ → List Mark
past_ports c None = []
past_ports c (Some count) = each (past_port c.number count) 1 (items_at (codes "port") c.table)

unfoldable pub clock_past_ports : ClockHeadValue → List Mark
clock_past_ports c = past_ports c (ports_of c)

-- ---- targets

abbrev pub is_no_clock : List ClockHeadValue → List ℕ → Bool
is_no_clock cs name = not (is_clock_name cs name)

unfoldable pub target_marks : List ClockHeadValue → SessionHeadValue → List Mark
target_marks cs s = value_mark_if (passes (is_no_clock cs) s.target) NoSuchName s.spot (codes "target") s.table

-- ---- ends

-- the first clock of a name
abbrev pub clock_named : List ClockHeadValue → List ℕ → Option ClockHeadValue
clock_named cs name = find (λ c. passes (λ other. bytes_eq other name) c.name) cs

-- a clock lacks a port
abbrev pub lacks : Option ClockHeadValue → ℕ → Bool
lacks None port = true
lacks (Some c) port = passes (λ count. is_past count port) (ports_of c)

-- a session of this name, or a clock with this port, is not there
abbrev pub is_no_end : List ClockHeadValue → List SessionHeadValue → List ℕ → Option ℕ → Bool
is_no_end cs ss name None = not (is_session_name ss name)
is_no_end cs ss name (Some port) = lacks (clock_named cs name) port

unfoldable pub end_name_marks : List ClockHeadValue → List SessionHeadValue → EndHeadValue → List Mark
end_name_marks cs ss e = mark_if (is_no_end cs ss e.name e.port) NoSuchName e.spot (at_item (codes "ends") e.number)

-- ---- the file

unfoldable pub name_marks : List ClockHeadValue → List SessionHeadValue → List EndHeadValue → List Mark
name_marks cs ss es = flat_map clock_past_ports cs ++ flat_map (target_marks cs) ss ++ flat_map (end_name_marks cs ss) es
