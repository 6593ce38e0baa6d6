-- With what a clock of a network file can't start (this project's profile).
use Rattle.std.specs.Prelude.{ℕ, ◌+◌, ◌==◌, nat_le, nat_lt, Bool, true, not, ◌&&◌, if◌then◌else◌, List, [], ◌∷◌, ◌++◌, codes, flat_map, Option, Some, None}
use Rattle.std.specs.List.{range_with_len}
use Rattle.toml.specs.Data.{Data, as_table, Members}
use Rattle.ptpm_codec.specs.Identity.{same_clock}
use Rattle.ptpm_codec.specs.declared.identity.ClockIdentity.{ClockIdentity}
use Rattle.ptpm_data.specs.MemberNames.{member_name}
use Rattle.ptpm_data.specs.Start.{is_in_clock_range, is_in_port_range, judged_of_clock, judged_of_port}
use Rattle.ptpm_data.specs.declared.members.Member.{Member}
use Rattle.ptpm_data.specs.declared.start.ClockStart.{ClockStart}
use Rattle.ptpm_data.specs.declared.start.StartError.{StartError}
use Rattle.ptpm_data.specs.declared.start.StartError.TheVariants.{NoPorts, TooManyPorts, BadValue, GrandmasterDiffers}
use Rattle.ptpm_script.specs.Spellings.{passes}
use Rattle.ptpm_script.specs.Starts.{clock_start, port_start}
use Rattle.ptpm_script.specs.declared.limits.TheConstants.{CLOCK_PORTS}
use Rattle.ptpm_script.specs.declared.net_error.NetError.TheVariants.{BadClock}
use Rattle.ptpm_script.specs.Heads.{ClockHeadValue, items_at, number_in}
use Rattle.ptpm_script.specs.Marks.{Mark, Spot, each, in_port, value_mark_if}

-- of the value at a key, if a test holds
abbrev pub start_mark_if : Bool → StartError → Spot → List ℕ → Members → List Mark
start_mark_if test fault spot key ms = value_mark_if test (BadClock fault) spot key ms

abbrev pub member_mark_if : Bool → Member → Spot → Members → List Mark
member_mark_if test member spot ms = start_mark_if test (BadValue member) spot (member_name member) ms

-- of each of some members that is not in its range
abbrev pub out_marks : (Member → Bool) → Spot → Members → List Member → List Mark
out_marks is_in spot ms judged = flat_map (λ member. member_mark_if (not (is_in member)) member spot ms) judged

-- ---- the number of ports

unfoldable pub count_start_marks : ClockHeadValue → List Mark
count_start_marks c =
    start_mark_if (passes (λ n. n == 0) c.count) NoPorts c.spot (codes "ports") c.table
    ++ start_mark_if (passes (λ n. nat_lt CLOCK_PORTS n) c.count) TooManyPorts c.spot (codes "ports") c.table

-- ---- a clock's members

abbrev pub some_clock : ClockIdentity
some_clock = record { 0 = 0 ∷ 0 ∷ 0 ∷ 0 ∷ 0 ∷ 0 ∷ 0 ∷ 0 ∷ [] }

unfoldable pub member_marks : Spot → Members → List Mark
member_marks spot ms = out_marks (is_in_clock_range (clock_start some_clock 0 ms)) spot ms judged_of_clock

-- ---- a port's members

unfoldable pub port_member_marks : Spot → Members → List Mark
port_member_marks spot ms = out_marks (is_in_port_range (port_start ms)) spot ms judged_of_port

abbrev pub port_start_members : Spot → Option Members → List Mark
port_start_members spot None = []
port_start_members spot (Some ms) = port_member_marks spot ms

-- ---- the ports of a clock, in the order in which a start judges them

-- a port that a clock can have, from 1 on, or one more than each of them for a table that is of none
abbrev pub rank_of_number : Option ℕ → ℕ
rank_of_number None = CLOCK_PORTS + 1
rank_of_number (Some n) = if nat_le 1 n && nat_le n CLOCK_PORTS then n else CLOCK_PORTS + 1

abbrev pub rank : Data → ℕ
rank d = rank_of_number (number_in d)

-- of a table, if it has this rank
abbrev pub ranked : ℕ → Spot → Data → List Mark
ranked r spot d = if rank d == r then port_start_members spot (as_table d) else []

-- of the tables that have this rank
abbrev pub rank_marks : ℕ → List Data → ℕ → List Mark
rank_marks clock ds r = each (λ n d. ranked r (in_port clock n) d) 1 ds

-- of those that have a rank up to this
unfoldable pub ports_start_marks : ℕ → ℕ → List Data → List Mark
ports_start_marks most clock ds = flat_map (rank_marks clock ds) (range_with_len 1 most)

-- ---- a clock that is its own grandmaster: a member of the grandmaster that is not its own

abbrev pub own_mark_if : Bool → Spot → List ℕ → Members → List Mark
own_mark_if is_own spot key ms = start_mark_if (not is_own) GrandmasterDiffers spot key ms

abbrev pub has_octet : ℕ → Option ℕ → Bool
has_octet own shown = passes (λ n. n == own) shown

unfoldable pub own_marks : Spot → Members → ClockStart → List Mark
own_marks spot ms c =
    own_mark_if (has_octet c.priority1 c.grandmaster_priority1) spot (codes "grandmaster_priority1") ms
    ++ own_mark_if (has_octet c.clock_class c.grandmaster_class) spot (codes "grandmaster_class") ms
    ++ own_mark_if (has_octet c.clock_accuracy c.grandmaster_accuracy) spot (codes "grandmaster_accuracy") ms
    ++ own_mark_if (has_octet c.variance c.grandmaster_variance) spot (codes "grandmaster_variance") ms
    ++ own_mark_if (has_octet c.priority2 c.grandmaster_priority2) spot (codes "grandmaster_priority2") ms

-- the grandmaster is this clock, also if none is named
abbrev pub is_own_grandmaster : ClockIdentity → Option ClockIdentity → Bool
is_own_grandmaster identity None = true
is_own_grandmaster identity (Some grandmaster) = same_clock grandmaster identity

abbrev pub own_marks_if : Spot → Members → Option ClockIdentity → List Mark
own_marks_if spot ms None = []
own_marks_if spot ms (Some identity) =
    let c = clock_start identity 0 ms in
    if is_own_grandmaster identity c.grandmaster then own_marks spot ms c else []

unfoldable pub grandmaster_marks : ClockHeadValue → List Mark
grandmaster_marks c = own_marks_if c.spot c.table c.identity

-- ---- the clocks

unfoldable pub clock_start_marks : ClockHeadValue → List Mark
clock_start_marks c =
    count_start_marks c
    ++ member_marks c.spot c.table
    ++ ports_start_marks (CLOCK_PORTS + 1) c.number (items_at (codes "port") c.table)
    ++ grandmaster_marks c

unfoldable pub start_marks : List ClockHeadValue → List Mark
start_marks cs = flat_map clock_start_marks cs
