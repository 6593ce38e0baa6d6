-- The faults of a network file's shape: of the keys of its tables, and of what they hold (this project's profile).
use Rattle.std.specs.Prelude.{ℕ, ◌+◌, ◌==◌, Bool, true, ◌&&◌, if◌then◌else◌, List, [], ◌∷◌, ◌++◌, codes, length, Option, Some, None, is_none, is_some, option_and_then}
use Rattle.std.specs.List.{list_any}
use Rattle.toml.specs.Data.{Data, as_str, as_table, Members, get_member}
use Rattle.ptpm_script.specs.Spellings.{end_of, passes}
use Rattle.ptpm_script.specs.Rules.{clock_rules, file_rules, link_rules, port_rules, session_rules}
use Rattle.ptpm_script.specs.Rights.{right_in}
use Rattle.ptpm_script.specs.Values.{natural_at}
use Rattle.ptpm_script.specs.declared.net_error.NetError.TheVariants.{BadShape}
use Rattle.ptpm_script.specs.declared.place.Array.TheVariants as arrays
use Rattle.ptpm_script.specs.Heads.{items_at, items_in}
use Rattle.ptpm_script.specs.KeyFaults.{key_marks, shape_mark, table_marks}
use Rattle.ptpm_script.specs.Marks.{Mark, Spot, absent, at_item, at_key, each, each_after, in_file, in_port, in_table, mark_if}

-- ---- clocks

abbrev pub port_marks : ℕ → ℕ → Data → List Mark
port_marks clock n d = table_marks (in_port clock n) port_rules d

abbrev pub ports_marks : ℕ → Data → List Mark
ports_marks clock d = each (port_marks clock) 1 (items_in (codes "port") d)

unfoldable pub clock_marks : ℕ → Data → List Mark
clock_marks n d = table_marks (in_table arrays.Clock n) clock_rules d ++ ports_marks n d

-- ---- sessions

-- no rights in version 2, or some in version 1
unfoldable pub version_marks : Spot → Option ℕ → Option Data → List Mark
version_marks spot version rights =
    if passes (λ v. v == 2) version && is_none rights then shape_mark spot (absent (codes "rights")) ∷ []
    else if passes (λ v. v == 1) version && is_some rights then shape_mark spot (at_key (codes "rights")) ∷ []
    else []

-- no right, or one that was given before
abbrev pub is_bad_right : List Data → Option ℕ → Bool
is_bad_right before None = true
is_bad_right before (Some right) = list_any (λ d. passes (λ r. r == right) (right_in d)) before

unfoldable pub right_marks : Spot → List Data → Data → List Mark
right_marks spot before d =
    mark_if (is_bad_right before (right_in d)) BadShape spot (at_item (codes "rights") (length before + 1))

abbrev pub rights_marks : Spot → Option ℕ → Option Members → List Mark
rights_marks spot version None = []
rights_marks spot version (Some ms) =
    version_marks spot version (get_member (codes "rights") ms) ++ each_after (right_marks spot) [] (items_at (codes "rights") ms)

unfoldable pub session_marks : Option ℕ → ℕ → Data → List Mark
session_marks version n d =
    table_marks (in_table arrays.Session n) session_rules d ++ rights_marks (in_table arrays.Session n) version (as_table d)

-- ---- links

abbrev pub end_marks : Spot → ℕ → Data → List Mark
end_marks spot n d = mark_if (is_none (option_and_then end_of (as_str d))) BadShape spot (at_item (codes "ends") n)

unfoldable pub link_marks : ℕ → Data → List Mark
link_marks n d =
    table_marks (in_table arrays.Link n) link_rules d
    ++ each (end_marks (in_table arrays.Link n)) 1 (items_in (codes "ends") d)

-- ---- the file

unfoldable pub shape_marks : Members → List Mark
shape_marks ms =
    key_marks in_file file_rules ms
    ++ each clock_marks 1 (items_at (codes "clock") ms)
    ++ each (session_marks (natural_at 65535 (codes "version") ms)) 1 (items_at (codes "session") ms)
    ++ each link_marks 1 (items_at (codes "link") ms)
