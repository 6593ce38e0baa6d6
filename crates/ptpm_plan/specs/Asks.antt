-- What is asked before a plan can be made (this project's profile): a line for each GET, with the domain and the id.
use Rattle.std.specs.Prelude.{◌≡◌, ℕ, zero, suc, ◌==◌, Bool, true, false, not, ◌&&◌, ◌||◌, if◌then◌else◌, codes, decimal, flat_map, is_some, List, [], ◌∷◌, ◌++◌, Option, Some, None, option_map, option_and_then}
use Rattle.std.specs.List.{find, list_any}
use Rattle.std.specs.Io.KnownBytes.{Appends}
use Rattle.ptpm_data.specs.declared.management_id.TheConstants.{MANAGEMENT_IDS}
use Rattle.ptpm_plan.specs.BestClock.{is_of_domain, is_of_rank}
use Rattle.ptpm_plan.specs.FileText.{file_of, file_value, name_of}
use Rattle.ptpm_plan.specs.PlannedId.{number_of}
use Rattle.ptpm_plan.specs.declared.change.PlannedId.{PlannedId}
use Rattle.ptpm_plan.specs.declared.change.TheConstants.PlannedId.{ALL}
use Rattle.ptpm_plan.specs.declared.wish.ClockWishes.{ClockWishes}
use Rattle.ptpm_plan.specs.declared.wish.EveryWishes.{EveryWishes}
use Rattle.ptpm_plan.specs.declared.wish.PlanFile.{PlanFile}
use Rattle.ptpm_plan.specs.declared.wish.PortWishes.{PortWishes}
use Rattle.ptpm_plan.specs.declared.wish.Target.{Target}
use Rattle.ptpm_plan.specs.declared.wish.Target.TheVariants as targets
use Rattle.ptpm_plan.specs.declared.wish.Wish.{Wish}

-- ---- what a file names

-- one of these wishes is of this id
abbrev pub have : PlannedId → List Wish → Bool
have id wishes = list_any (λ w. number_of w.id == number_of id) wishes

abbrev pub port_names : PlannedId → PortWishes → Bool
port_names id p = have id p.wishes.items

abbrev pub clock_names : PlannedId → ClockWishes → Bool
clock_names id c = have id c.wishes.items || list_any (port_names id) c.ports.items

abbrev pub every_names : PlannedId → EveryWishes → Bool
every_names id e = have id e.wishes.items || have id e.port_wishes.items

abbrev pub names : PlanFile → PlannedId → Bool
names f id = list_any (clock_names id) f.clocks.items || list_any (every_names id) f.every.items

abbrev pub has_domain : PlanFile → ℕ → Bool
has_domain f domain = list_any (λ c. c.domain == domain) f.clocks.items || list_any (λ e. e.domain == domain) f.every.items

abbrev pub is_described : Target → Bool
is_described (targets.Identity clock) = false
is_described (targets.Description text) = true

abbrev pub describes : ℕ → ClockWishes → Bool
describes domain c = (c.domain == domain) && is_described c.target

abbrev pub says_count : ℕ → EveryWishes → Bool
says_count domain e = (e.domain == domain) && is_some e.clocks

-- How many clocks a domain has, if the file says that. A clock that is described there may be one that nobody counted.
abbrev pub clock_count : PlanFile → ℕ → Option ℕ
clock_count f domain =
    if list_any (describes domain) f.clocks.items then None else option_and_then (λ e. e.clocks) (find (says_count domain) f.every.items)

-- something is named that decides which clock is the best one of a domain
abbrev pub may_change_best : PlanFile → Bool
may_change_best f = list_any (λ id. (is_of_rank id || is_of_domain id) && names f id) ALL

-- ---- the lines

-- what is asked in a domain
unfoldable pub line : ℕ → List ℕ → List ℕ
line domain words = decimal domain ++ codes " " ++ words ++ 10 ∷ []

abbrev pub line_if : ℕ → Option (List ℕ) → List ℕ
line_if domain None = []
line_if domain (Some words) = line domain words

abbrev pub count_words : ℕ → List ℕ
count_words count = codes "clocks=" ++ decimal count

abbrev pub count_line : PlanFile → ℕ → List ℕ
count_line f domain = line_if domain (option_map count_words (clock_count f domain))

-- the data sets of a clock and of its ports, and its description, are asked whatever the file names
abbrev pub standing_lines : ℕ → List ℕ
standing_lines domain = line domain (codes "DEFAULT_DATA_SET") ++ line domain (codes "USER_DESCRIPTION") ++ line domain (codes "PORT_DATA_SET")

abbrev pub time_line : PlanFile → ℕ → List ℕ
time_line f domain = if may_change_best f then line domain (codes "TIME_PROPERTIES_DATA_SET") else []

-- an id that the file names; USER_DESCRIPTION (0002) is asked already
abbrev pub name_if : PlanFile → PlannedId → Option (List ℕ)
name_if f id = if not (number_of id == 2) && names f id then Some (name_of id) else None

abbrev pub asked_name : PlanFile → ℕ → Option (List ℕ)
asked_name f number = option_and_then (name_if f) (find (λ id. number_of id == number) ALL)

abbrev pub id_line : PlanFile → ℕ → ℕ → List ℕ
id_line f domain number = line_if domain (asked_name f number)

-- those of these ids that the file names in any domain
unfoldable pub id_lines : PlanFile → ℕ → List ℕ → List ℕ
id_lines f domain numbers = flat_map (id_line f domain) numbers

-- the lines of a domain
unfoldable pub lines_in : PlanFile → ℕ → List ℕ
lines_in f domain = count_line f domain ++ standing_lines domain ++ time_line f domain ++ id_lines f domain MANAGEMENT_IDS

abbrev pub lines_if : Bool → PlanFile → ℕ → List ℕ
lines_if true f domain = lines_in f domain
lines_if false f domain = []

-- of each domain below n that the file names
unfoldable pub lines_below : PlanFile → ℕ → List ℕ
lines_below f zero = []
lines_below f (suc n) = lines_below f n ++ lines_if (has_domain f n) f n

-- what is printed of a plan file's text: the lines of its domains
pub record AreAsked (text : List ℕ) (old new : Option (List ℕ)) : Type 0 where
  pub file : PlanFile
  pub reads : file_of text ≡ Some (file_value file)
  pub written : Appends old new (lines_below file 256)
