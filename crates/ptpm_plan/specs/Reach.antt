-- Which clocks are still reached after a plan has moved clocks to other domains, and which ones stay (this project's profile). A boundary clock passes on
-- only what is of its own domain.
use Rattle.std.specs.Prelude.{ℕ, zero, suc, ◌==◌, nat_lt, Bool, true, false, not, ◌&&◌, List, Option, None, Some, count_by}
use Rattle.std.specs.List.{find, list_any}
use Rattle.std.specs.Option.{option_map_or}
use Rattle.ptpm_codec.specs.Layout.{octet}
use Rattle.ptpm_plan.specs.BestClock.{is_of_domain}
use Rattle.ptpm_plan.specs.Order.{hops_of}
use Rattle.ptpm_plan.specs.Surveyed.{clock_in, is_clock}
use Rattle.ptpm_plan.specs.declared.change.Change.{Change}
use Rattle.ptpm_plan.specs.declared.surveyed.Surveyed.{Surveyed}
use Rattle.ptpm_plan.specs.declared.surveyed.SurveyedClock.{SurveyedClock}

-- a change moves a clock to another domain
abbrev pub is_move_of : SurveyedClock → Change → Bool
is_move_of clock c = is_of_domain c.id && is_clock c.domain c.clock clock

-- the domain of a clock that is moved, or stays
abbrev pub domain_by : SurveyedClock → Option Change → ℕ
domain_by clock None = clock.domain
domain_by clock (Some c) = octet 0 c.after.items

-- the domain of a clock after all changes
abbrev pub domain_after : List Change → SurveyedClock → ℕ
domain_after changes clock = domain_by clock (find (is_move_of clock) changes)

-- more than one port, by DEFAULT_DATA_SET
abbrev pub has_several : Option ℕ → Bool
has_several None = false
has_several (Some ports) = nat_lt 1 ports

-- a clock this many hops away passes on what is of a domain, after all changes
abbrev pub passes_on : List Change → ℕ → ℕ → SurveyedClock → Bool
passes_on changes domain hops clock =
    (clock.hops == hops) && (has_several clock.number_ports && (domain_after changes clock == domain))

-- at each smaller number of hops some clock passes it on
unfoldable pub is_reached : List Change → List SurveyedClock → ℕ → ℕ → Bool
is_reached changes clocks domain zero = true
is_reached changes clocks domain (suc hops) =
    is_reached changes clocks domain hops && list_any (passes_on changes domain hops) clocks

-- a change moves its clock to where it is not reached
abbrev pub is_out_of_reach : List Change → Surveyed → Change → Bool
is_out_of_reach changes s c =
    is_of_domain c.id && not (is_reached changes s.clocks.items (octet 0 c.after.items) (hops_of s c))

-- ---- who stays

-- a clock that stays in a domain
abbrev pub stays_in : List Change → ℕ → SurveyedClock → Bool
stays_in changes domain clock = (clock.domain == domain) && (domain_after changes clock == domain)

-- one that stays, and is past more boundary clocks than these
abbrev pub is_left_past : List Change → ℕ → ℕ → SurveyedClock → Bool
is_left_past changes domain hops clock = stays_in changes domain clock && nat_lt hops clock.hops

abbrev pub is_boundary : Surveyed → Change → Bool
is_boundary s c = option_map_or (λ clock. has_several clock.number_ports) (clock_in c.domain c.clock s.clocks.items) false

-- a change moves a boundary clock, and some clock stays in its domain
abbrev pub leaves_some : List Change → Surveyed → Change → Bool
leaves_some changes s c =
    is_of_domain c.id && (is_boundary s c && list_any (stays_in changes c.domain) s.clocks.items)

-- how many that stay are past it, as far as their answers show
abbrev pub count_left_past : List Change → Surveyed → Change → ℕ
count_left_past changes s c = count_by (is_left_past changes c.domain (hops_of s c)) s.clocks.items
