-- What the tables of a plan file ask for, member by member.
use Rattle.std.specs.Prelude.{ℕ, ◌==◌, nat_lt, Bool, true, false, not, ◌&&◌, if◌then◌else◌, List, [], ◌∷◌, ◌++◌, flat_map, is_some, map, Option, Some, None}
use Rattle.std.specs.List.{list_any, range_with_len}
use Rattle.ptpm_codec.specs.Identity.{same_clock}
use Rattle.ptpm_codec.specs.declared.identity.ClockIdentity.{ClockIdentity}
use Rattle.ptpm_plan.specs.Naming.{clock_named}
use Rattle.ptpm_plan.specs.Rows.{row_of}
use Rattle.ptpm_plan.specs.Surveyed.{clock_in}
use Rattle.ptpm_plan.specs.declared.answer.Answer.{Answer}
use Rattle.ptpm_plan.specs.declared.asking.Of.{Of}
use Rattle.ptpm_plan.specs.declared.asking.Unnamed.{Unnamed}
use Rattle.ptpm_plan.specs.declared.naming.Named.{Named}
use Rattle.ptpm_plan.specs.declared.naming.Named.TheVariants as names
use Rattle.ptpm_plan.specs.declared.rows.Row.{Row}
use Rattle.ptpm_plan.specs.declared.subject.Subject.{Subject}
use Rattle.ptpm_plan.specs.declared.surveyed.Surveyed.{Surveyed}
use Rattle.ptpm_plan.specs.declared.surveyed.SurveyedClock.{SurveyedClock}
use Rattle.ptpm_plan.specs.declared.wish.ClockWishes.{ClockWishes}
use Rattle.ptpm_plan.specs.declared.wish.EveryWishes.{EveryWishes}
use Rattle.ptpm_plan.specs.declared.wish.PlanFile.{PlanFile}
use Rattle.ptpm_plan.specs.declared.wish.PortWishes.{PortWishes}
use Rattle.ptpm_plan.specs.declared.wish.Target.{Target}
use Rattle.ptpm_plan.specs.declared.wish.Wish.{Wish}

-- ---- a table of a clock

abbrev pub subject_of : Of → ℕ → Wish → Subject
subject_of of port w = record { domain = of.domain; clock = of.clock; port = port; id = w.id }

abbrev pub row_for : List Answer → Of → ℕ → Wish → Row
row_for answers of port w = row_of answers of.place (subject_of of port w) w.wished

-- what is wished of a clock, or of one of its ports
abbrev pub rows_of_wishes : List Answer → Of → ℕ → List Wish → List Row
rows_of_wishes answers of port wishes = map (row_for answers of port) wishes

abbrev pub rows_of_port : List Answer → Of → PortWishes → List Row
rows_of_port answers of p = rows_of_wishes answers of p.number p.wishes.items

abbrev pub rows_of_ports : List Answer → Of → List PortWishes → List Row
rows_of_ports answers of ports = flat_map (rows_of_port answers of) ports

abbrev pub rows_of_clock : List Answer → Of → ClockWishes → List Row
rows_of_clock answers of c = rows_of_wishes answers of 0 c.wishes.items ++ rows_of_ports answers of c.ports.items

abbrev pub of_clock : ClockWishes → ClockIdentity → Of
of_clock c clock = record { place = c.place; domain = c.domain; clock = clock }

abbrev pub rows_if_named : List Answer → ClockWishes → Named → List Row
rows_if_named answers c (names.One clock) = rows_of_clock answers (of_clock c clock) c
rows_if_named answers c (names.Other count) = []

-- what a table asks for, if it names a clock
abbrev pub rows_of_table : List Answer → List SurveyedClock → ClockWishes → List Row
rows_of_table answers clocks c = rows_if_named answers c (clock_named clocks answers c.domain c.target)

abbrev pub rows_of_clocks : List Answer → List SurveyedClock → List ClockWishes → List Row
rows_of_clocks answers clocks tables = flat_map (rows_of_table answers clocks) tables

abbrev pub unnamed_if : ClockWishes → Named → Option Unnamed
unnamed_if c (names.One clock) = None
unnamed_if c (names.Other count) = Some (record { place = c.place; count = count })

-- a table that names no clock
abbrev pub unnamed_of : List Answer → List SurveyedClock → ClockWishes → Option Unnamed
unnamed_of answers clocks c = unnamed_if c (clock_named clocks answers c.domain c.target)

-- ---- a table of every clock

abbrev pub if_answered : List SurveyedClock → ℕ → Named → Named
if_answered clocks domain (names.One clock) = if is_some (clock_in domain clock clocks) then names.One clock else names.Other 0
if_answered clocks domain (names.Other count) = names.Other count

-- the clock that a name in `except` is of: an identity too has to be one of a clock that answered in the domain
abbrev pub clock_excepted : List Answer → List SurveyedClock → ℕ → Target → Named
clock_excepted answers clocks domain t = if_answered clocks domain (clock_named clocks answers domain t)

-- it is this clock, or may be: what is named is not one clock
abbrev pub may_be : ClockIdentity → Named → Bool
may_be clock (names.One other) = same_clock other clock
may_be clock (names.Other count) = true

-- `except` names a clock, or may name it
abbrev pub is_left_out : List Answer → List SurveyedClock → EveryWishes → ClockIdentity → Bool
is_left_out answers clocks e clock = list_any (λ t. may_be clock (clock_excepted answers clocks e.domain t)) e.except.items

-- a clock of the domain that `except` does not name
abbrev pub is_included : List Answer → List SurveyedClock → EveryWishes → SurveyedClock → Bool
is_included answers clocks e c = (c.domain == e.domain) && not (is_left_out answers clocks e c.identity)

abbrev pub of_every : EveryWishes → SurveyedClock → Of
of_every e c = record { place = e.place; domain = e.domain; clock = c.identity }

-- numberPorts of a clock, if a session can name each of these ports: it names ports 1 to 255
abbrev pub ports_known : Option ℕ → ℕ
ports_known None = 0
ports_known (Some ports) = if nat_lt 255 ports then 0 else ports

abbrev pub rows_of_every_port : List Answer → Of → EveryWishes → ℕ → List Row
rows_of_every_port answers of e port = rows_of_wishes answers of port e.port_wishes.items

abbrev pub rows_of_every_clock : List Answer → EveryWishes → SurveyedClock → List Row
rows_of_every_clock answers e c =
    rows_of_wishes answers (of_every e c) 0 e.wishes.items
    ++ flat_map (rows_of_every_port answers (of_every e c) e) (range_with_len 1 (ports_known c.number_ports))

abbrev pub rows_if : Bool → List Row → List Row
rows_if true rows = rows
rows_if false rows = []

abbrev pub rows_if_included : List Answer → List SurveyedClock → EveryWishes → SurveyedClock → List Row
rows_if_included answers clocks e c = rows_if (is_included answers clocks e c) (rows_of_every_clock answers e c)

-- what is asked of every clock, and of each of its ports
abbrev pub rows_of_every : List Answer → List SurveyedClock → EveryWishes → List Row
rows_of_every answers clocks e = flat_map (rows_if_included answers clocks e) clocks

abbrev pub rows_of_all : List Answer → List SurveyedClock → List EveryWishes → List Row
rows_of_all answers clocks es = flat_map (rows_of_every answers clocks) es

-- ---- what keeps such a table from being planned as a whole

abbrev pub is_not_one : Named → Bool
is_not_one (names.One clock) = false
is_not_one (names.Other count) = true

-- what `except` names is not one clock that answered
abbrev pub is_unclear : List Answer → List SurveyedClock → EveryWishes → Target → Bool
is_unclear answers clocks e t = is_not_one (clock_excepted answers clocks e.domain t)

abbrev pub asks_some : List Wish → Bool
asks_some [] = false
asks_some (w ∷ ws) = true

-- something is asked of the ports of a clock, and these are not known
abbrev pub lacks_ports : List Answer → List SurveyedClock → EveryWishes → SurveyedClock → Bool
lacks_ports answers clocks e c =
    asks_some e.port_wishes.items && (is_included answers clocks e c && (ports_known c.number_ports == 0))

-- ---- the file

-- what a file asks for: its clocks first
abbrev pub rows_of_file : List Answer → Surveyed → PlanFile → List Row
rows_of_file answers s f =
    rows_of_clocks answers s.clocks.items f.clocks.items ++ rows_of_all answers s.clocks.items f.every.items
