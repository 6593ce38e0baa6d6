-- In which order the changes of a plan are asked (this project's profile).
use Rattle.std.specs.Prelude.{ℕ, nat_lt, int_lt, not, ◌&&◌, List, [], find, Option, None, Some, if◌then◌else◌, Bool, true, false}
use Rattle.std.specs.Option.{option_map, option_map_or}
use Rattle.ptpm_codec.specs.Identity.{same_clock}
use Rattle.ptpm_codec.specs.Layout.{octet}
use Rattle.ptpm_codec.specs.declared.identity.ClockIdentity.{ClockIdentity}
use Rattle.ptpm_data.specs.ImageReading.{i8_at}
use Rattle.ptpm_data.specs.declared.port_state.PortState.{PortState}
use Rattle.ptpm_data.specs.declared.port_state.PortState.TheVariants as states
use Rattle.ptpm_plan.specs.BestClock.{best_in, is_better, is_of_rank, is_ranked, ranks_after, ranks_of}
use Rattle.ptpm_plan.specs.PlannedId.{concern_of}
use Rattle.ptpm_plan.specs.Surveyed.{clock_in, port_in}
use Rattle.ptpm_plan.specs.declared.best_clock.Rank.{Rank}
use Rattle.ptpm_plan.specs.declared.best_clock.RankedClock.{RankedClock}
use Rattle.ptpm_plan.specs.declared.change.Change.{Change}
use Rattle.ptpm_plan.specs.declared.change.Concern.{Concern}
use Rattle.ptpm_plan.specs.declared.change.Concern.TheVariants as concerns
use Rattle.ptpm_plan.specs.declared.order.OrderKey.{OrderKey}
use Rattle.ptpm_plan.specs.declared.order.Turn.{Turn}
use Rattle.ptpm_plan.specs.declared.order.Turn.TheVariants as turns
use Rattle.ptpm_plan.specs.declared.surveyed.Surveyed.{Surveyed}

-- ---- what the survey says

abbrev pub is_master : Option PortState → Bool
is_master (Some states.Master) = true
is_master _ = false

-- the port of a change is in MASTER, and so it sends
abbrev pub is_sender : Surveyed → Change → Bool
is_sender s c = option_map_or (λ p. is_master p.state) (port_in c.domain c.clock c.port s.ports.items) false

-- how many boundary clocks the answers of its clock passed
abbrev pub hops_of : Surveyed → Change → ℕ
hops_of s c = option_map_or (λ clock. clock.hops) (clock_in c.domain c.clock s.clocks.items) 0

-- ---- patience: how long a receiver of Announces waits

-- the octet, and the Integer8, that a dataField begins with
abbrev pub grows : Change → Bool
grows c = nat_lt (octet 0 c.before.items) (octet 0 c.after.items)

abbrev pub is_longer : Change → Bool
is_longer c = int_lt (i8_at 0 c.before.items) (i8_at 0 c.after.items)

abbrev pub patience : Bool → Turn
patience more = if more then turns.MorePatience else turns.LessPatience

-- ---- ranks

abbrev pub rank_in : ℕ → ClockIdentity → List RankedClock → Option Rank
rank_in domain clock ranks = option_map (λ r. r.rank) (find (is_ranked domain clock) ranks)

abbrev pub is_best : ℕ → ClockIdentity → List RankedClock → Bool
is_best domain clock ranks = option_map_or (λ best. same_clock best.identity clock) (best_in domain ranks) false

-- what becomes of a clock's rank, and whether the clock is the present best one
abbrev pub rank_turn : Bool → Option Rank → Option Rank → Turn
rank_turn best (Some before) (Some after) = if is_better after before then turns.Better after else turns.Worse best (record { 0 = after })
rank_turn best (Some before) None = turns.Unranked
rank_turn best None after = turns.Unranked

-- the clock of a change is the best one of its domain before and after all changes
abbrev pub stays_best : List RankedClock → List RankedClock → Change → Bool
stays_best before after c = is_best c.domain c.clock before && is_best c.domain c.clock after

-- of a rank, what makes it worse if the clock stays the best one, and else what makes it better
abbrev pub is_later : List RankedClock → List RankedClock → Change → Bool
is_later before after c = is_of_rank c.id && (if stays_best before after c then grows c else not (grows c))

-- by the ranks before and after all changes
abbrev pub turn_of_ranks : List RankedClock → List RankedClock → Change → Turn
turn_of_ranks before after c =
    rank_turn (is_best c.domain c.clock before) (rank_in c.domain c.clock before) (rank_in c.domain c.clock after)

-- ---- the six groups

-- an interval of a port
abbrev pub turn_of_interval : Surveyed → Change → Turn
turn_of_interval s c = if is_sender s c then turns.Sender else patience (is_longer c)

-- by the ranks before and after all changes
module _ (s : Surveyed) (before after : List RankedClock) where
  abbrev pub turn_by : Concern → Change → Turn
  turn_by concerns.Patience c = patience (grows c)
  turn_by concerns.Interval c = turn_of_interval s c
  turn_by concerns.Rank c = turn_of_ranks before after c
  turn_by concerns.Domain c = turns.Move (record { 0 = hops_of s c })
  turn_by concerns.Free c = turns.Free

  -- its turn, and of a rank whether it is of the later ones. Then the place in the file, the clock, the port and the id
  abbrev pub key_by : Change → OrderKey
  key_by c = record {
    turn = turn_by (concern_of c.id) c;
    is_later = is_later before after c;
    place = c.place;
    clock = c.clock;
    port = c.port;
    id = c.id;
  }

-- by what a change is sorted into a plan of these changes
abbrev pub order_key : Surveyed → List Change → Change → OrderKey
order_key s changes = let before = ranks_of s in key_by s before (ranks_after changes before)

-- the six groups, one after the other
abbrev pub group : Turn → ℕ
group turns.MorePatience = 1
group turns.Sender = 2
group turns.Free = 3
group turns.LessPatience = 4
group turns.Unranked = 5
group (turns.Better after) = 5
group (turns.Worse best after) = 5
group (turns.Move hops) = 6

-- that of a change: ranks don't count, since all changes of them are of one group
abbrev pub group_of : Surveyed → Change → ℕ
group_of s c = group (turn_by s [] [] (concern_of c.id) c)
