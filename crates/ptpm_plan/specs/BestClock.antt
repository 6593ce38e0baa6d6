-- Which clock of a domain is the best one, by what a survey says and by the changes that are done (IEEE 1588-2019, 9.3.4).
use Rattle.std.specs.Prelude.{ℕ, ◌≡◌, ◌≤◌, ◌+◌, ◌==◌, nat_lt, not, ◌&&◌, ◌||◌, zero, suc, List, [], ◌++◌, map, take, length, Option, None, Some, if◌then◌else◌, Bool, true, false}
use Rattle.std.specs.List.{All, count_by, filter_map, find, fold, list_any}
use Rattle.std.specs.Option.{option_map, option_to_list}
use Rattle.std.specs.Ordering.{is_lt, nat_cmp, ord_min, ordering_then}
use Rattle.std.specs.declared.cmp.Ordering.{Ordering}
use Rattle.std.specs.Cmp.Lexicographic.{slice_cmp}
use Rattle.ptpm_codec.specs.Identity.{same_clock}
use Rattle.ptpm_codec.specs.Layout.{octet}
use Rattle.ptpm_codec.specs.declared.identity.ClockIdentity.{ClockIdentity}
use Rattle.ptpm_data.specs.declared.data_sets.ClockPrecedence.{ClockPrecedence}
use Rattle.ptpm_data.specs.declared.port_state.PortState.{PortState}
use Rattle.ptpm_data.specs.declared.port_state.PortState.TheVariants as states
use Rattle.ptpm_plan.specs.Octets.{pair_at}
use Rattle.ptpm_plan.specs.declared.best_clock.Alteration.{Alteration}
use Rattle.ptpm_plan.specs.declared.best_clock.BestClocks.{BestClocks}
use Rattle.ptpm_plan.specs.declared.best_clock.Rank.{Rank}
use Rattle.ptpm_plan.specs.declared.best_clock.RankedClock.{RankedClock}
use Rattle.ptpm_plan.specs.declared.change.Change.{Change}
use Rattle.ptpm_plan.specs.declared.change.PlannedId.{PlannedId}
use Rattle.ptpm_plan.specs.declared.change.PlannedId.TheVariants as ids
use Rattle.ptpm_plan.specs.declared.surveyed.Surveyed.{Surveyed}
use Rattle.ptpm_plan.specs.declared.surveyed.SurveyedClock.{SurveyedClock}
use Rattle.ptpm_plan.specs.declared.surveyed.SurveyedPort.{SurveyedPort}

-- ---- ranks

-- one member after the other decides; the lesser rank is the better one
abbrev pub rank_cmp : Rank → Rank → Ordering
rank_cmp a b = ordering_then (nat_cmp a.priority1 b.priority1)
    (ordering_then (nat_cmp a.class b.class)
    (ordering_then (nat_cmp a.accuracy b.accuracy)
    (ordering_then (nat_cmp a.variance b.variance)
    (ordering_then (nat_cmp a.priority2 b.priority2)
    (slice_cmp nat_cmp a.identity.0 b.identity.0)))))

unfoldable pub is_better : Rank → Rank → Bool
is_better a b = is_lt (rank_cmp a b)

-- what a DEFAULT_DATA_SET says of the clock's rank (IEEE 1588-2019, 9.3.4 and table 69)
abbrev pub precedence_in : List ℕ → ClockPrecedence
precedence_in field = record {
  priority1 = octet 4 field;
  class = octet 5 field;
  accuracy = octet 6 field;
  variance = pair_at 7 field;
  priority2 = octet 9 field;
}

abbrev pub rank_of : ClockIdentity → ClockPrecedence → Rank
rank_of identity p = record {
  priority1 = p.priority1;
  class = p.class;
  accuracy = p.accuracy;
  variance = p.variance;
  priority2 = p.priority2;
  identity = identity;
}

-- a port in these states sends no Announce (9.2.5)
abbrev pub is_down : Option PortState → Bool
is_down (Some states.Faulty) = true
is_down (Some states.Disabled) = true
is_down _ = false

abbrev pub is_down_port : SurveyedClock → SurveyedPort → Bool
is_down_port c p = (p.domain == c.domain) && (same_clock p.clock c.identity && is_down p.state)

abbrev pub has_more : ℕ → Option ℕ → Bool
has_more count None = false
has_more count (Some ports) = nat_lt count ports

-- it is not slaveOnly (9.2.2.1), and not each of its numberPorts is down
abbrev pub can_lead : Surveyed → SurveyedClock → Bool
can_lead s c = not c.slave_only && has_more (count_by (is_down_port c) s.ports.items) c.number_ports

-- a clock has a rank if its DEFAULT_DATA_SET was answered, and it can lead
abbrev pub ranked : Surveyed → SurveyedClock → Option RankedClock
ranked s c =
    if can_lead s c then option_map (λ p. record { domain = c.domain; rank = rank_of c.identity p }) c.precedence else None

abbrev pub ranks_of : Surveyed → List RankedClock
ranks_of s = filter_map (ranked s) s.clocks.items

-- ---- changes of ranks

abbrev pub is_of_rank : PlannedId → Bool
is_of_rank ids.Priority1 = true
is_of_rank ids.Priority2 = true
is_of_rank ids.ClockAccuracy = true
is_of_rank _ = false

-- a rank with another value of an id's member
abbrev pub rank_with : PlannedId → ℕ → Rank → Rank
rank_with ids.Priority1 value r = record r { priority1 = value }
rank_with ids.Priority2 value r = record r { priority2 = value }
rank_with ids.ClockAccuracy value r = record r { accuracy = value }
rank_with _ value r = r

-- it is this clock of this domain
abbrev pub is_ranked : ℕ → ClockIdentity → RankedClock → Bool
is_ranked domain clock r = (r.domain == domain) && same_clock r.rank.identity clock

-- it is a change of this clock's rank
abbrev pub changes_rank : RankedClock → Change → Bool
changes_rank r c = is_of_rank c.id && is_ranked c.domain c.clock r

abbrev pub after_change : Change → RankedClock → RankedClock
after_change c r = if changes_rank r c then record r { rank = rank_with c.id (octet 0 c.after.items) r.rank } else r

-- the ranks of all after some changes, one after the other
abbrev pub ranks_after : List Change → List RankedClock → List RankedClock
ranks_after changes ranks = fold (λ (rs : List RankedClock) (c : Change). map (after_change c) rs) ranks changes

-- ---- moves to other domains

abbrev pub is_of_domain : PlannedId → Bool
is_of_domain ids.Domain = true
is_of_domain _ = false

-- it moves this clock of this domain
abbrev pub moves : RankedClock → Change → Bool
moves r c = is_of_domain c.id && is_ranked c.domain c.clock r

abbrev pub moved_by : RankedClock → Option Change → RankedClock
moved_by r None = r
moved_by r (Some c) = record r { domain = octet 0 c.after.items }

-- a clock in the domain in which it is after all changes
abbrev pub moved : List Change → RankedClock → RankedClock
moved changes r = moved_by r (find (moves r) changes)

-- the ranks after all changes, each in the domain of its clock then
abbrev pub ranks_at_end : List Change → List RankedClock → List RankedClock
ranks_at_end changes ranks = map (moved changes) (ranks_after changes ranks)

-- ---- the best clock

abbrev pub better_of : Option Rank → Rank → Option Rank
better_of None r = Some r
better_of (Some best) r = Some (ord_min rank_cmp best r)

-- the least rank in a domain
abbrev pub best_in : ℕ → List RankedClock → Option Rank
best_in domain ranks = fold (λ (best : Option Rank) (r : RankedClock). if r.domain == domain then better_of best r.rank else best) None ranks

-- the best clock after the first n changes
abbrev pub best_after : ℕ → List Change → List RankedClock → ℕ → Option Rank
best_after domain changes ranks n = best_in domain (ranks_after (take n changes) ranks)

-- another clock is the best one after a change
abbrev pub altered : ℕ → Option Rank → Option Rank → Option Alteration
altered number (Some was) (Some is) = if same_clock is.identity was.identity then None else Some (record { after = number; clock = is.identity })
altered number (Some was) None = None
altered number None is = None

-- among the first n changes, each that alters which clock is the best one
abbrev pub alterations : ℕ → List Change → List RankedClock → ℕ → List Alteration
alterations domain changes ranks zero = []
alterations domain changes ranks (suc n) =
    alterations domain changes ranks n ++ option_to_list (altered (n + 1) (best_after domain changes ranks n) (best_after domain changes ranks (n + 1)))

abbrev pub is_move_at : ℕ → Change → Bool
is_move_at domain c = is_of_domain c.id && ((c.domain == domain) || (octet 0 c.after.items == domain))

-- a change of a rank in a domain, or of a clock that leaves it or enters it
abbrev pub bears_on : ℕ → Change → Bool
bears_on domain c = (is_of_rank c.id && (c.domain == domain)) || is_move_at domain c

-- what is said of a domain: its best clock now and after all changes, and the alterations by changes of ranks
pub record BestOfDomain : Type 0 where
  pub domain : ℕ
  pub before : Rank
  pub after : Option Rank
  pub alterations : List Alteration

abbrev pub shown : BestClocks → BestOfDomain
shown b = record { domain = b.domain; before = b.before; after = b.after; alterations = b.alterations.items }

abbrev pub best_of_domain : ℕ → List Alteration → Option Rank → Option Rank → Option BestOfDomain
best_of_domain domain altered None after = None
best_of_domain domain altered (Some before) after =
    Some (record { domain = domain; before = before; after = after; alterations = altered })

-- it is said of a domain if a clock in it has a rank, and if a change bears on it
unfoldable pub best_clocks_in : List Change → List RankedClock → ℕ → Option BestOfDomain
best_clocks_in changes ranks domain =
    if list_any (bears_on domain) changes
    then best_of_domain domain (alterations domain changes ranks (length changes)) (best_in domain ranks) (best_in domain (ranks_at_end changes ranks))
    else None

-- of the domains below n
unfoldable pub best_clocks : List Change → List RankedClock → ℕ → List BestOfDomain
best_clocks changes ranks zero = []
best_clocks changes ranks (suc n) = best_clocks changes ranks n ++ option_to_list (best_clocks_in changes ranks n)

-- ---- what becomes of the time

-- a worse clockClass, or the same and a worse clockAccuracy (7.6.2.5, 7.6.2.6): the lesser number is the better one
abbrev pub is_worse_time : Rank → Rank → Bool
is_worse_time before after =
    nat_lt before.class after.class || ((before.class == after.class) && nat_lt before.accuracy after.accuracy)

-- ---- one change each

-- no clock is there twice: a look-up of a clock finds this one
abbrev pub AreApart : List RankedClock → Type 0
AreApart ranks = All (λ (r : RankedClock). find (is_ranked r.domain r.rank.identity) ranks ≡ Some r) ranks

-- each clock of a domain has one change of its rank at most
abbrev pub HaveOneEach : ℕ → List RankedClock → List Change → Type 0
HaveOneEach domain ranks changes = All (λ (r : RankedClock). r.domain ≡ domain → count_by (changes_rank r) changes ≤ 1) ranks
