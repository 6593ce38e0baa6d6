-- What a network file has too much of, or too little (this project's profile).
use Rattle.std.specs.Prelude.{ℕ, ◌==◌, nat_lt, Bool, ◌&&◌, ◌||◌, List, [], ◌++◌, bytes_eq, codes, count_by, length, Option, Some, None, option_and_then}
use Rattle.toml.specs.Data.{Data, Items, as_array, as_table, Members, get_member}
use Rattle.ptpm_script.specs.Spellings.{passes}
use Rattle.ptpm_script.specs.declared.net_error.NetError.TheVariants.{TooMany}
use Rattle.ptpm_script.specs.declared.place.Array.TheVariants as arrays
use Rattle.ptpm_script.specs.Heads.{SessionHeadValue, items_at, list_of}
use Rattle.ptpm_script.specs.Marks.{Mark, Spot, each, each_after, in_file, in_table, many, mark_if, value_mark_if}

-- over this many of something
abbrev pub count_marks : List ℕ → ℕ → List Data → List Mark
count_marks of most ds = mark_if (nat_lt most (length ds)) TooMany in_file (many of)

-- a link joins 2 to 16 ends
abbrev pub has_bad_size : Items → Bool
has_bad_size ds = nat_lt (length (list_of ds)) 2 || nat_lt 16 (length (list_of ds))

abbrev pub size_marks : Spot → Option Members → List Mark
size_marks spot None = []
size_marks spot (Some ms) =
    value_mark_if (passes has_bad_size (option_and_then as_array (get_member (codes "ends") ms))) TooMany spot (codes "ends") ms

unfoldable pub link_size_marks : ℕ → Data → List Mark
link_size_marks n d = size_marks (in_table arrays.Link n) (as_table d)

-- a session has this target
abbrev pub has_target : List ℕ → SessionHeadValue → Bool
has_target target s = passes (λ name. bytes_eq name target) s.target

unfoldable pub managers_of : List ℕ → List SessionHeadValue → ℕ
managers_of target ss = count_by (has_target target) ss

-- over 16 sessions have this target, and none before
abbrev pub is_crowded : List SessionHeadValue → List SessionHeadValue → List ℕ → Bool
is_crowded all before target = nat_lt 16 (managers_of target all) && (managers_of target before == 0)

unfoldable pub manager_marks : List SessionHeadValue → List SessionHeadValue → SessionHeadValue → List Mark
manager_marks all before s = value_mark_if (passes (is_crowded all before) s.target) TooMany s.spot (codes "target") s.table

unfoldable pub limit_marks : Members → List SessionHeadValue → List Mark
limit_marks ms ss =
    count_marks (codes "clocks") 64 (items_at (codes "clock") ms)
    ++ count_marks (codes "sessions") 256 (items_at (codes "session") ms)
    ++ count_marks (codes "links") 256 (items_at (codes "link") ms)
    ++ each link_size_marks 1 (items_at (codes "link") ms)
    ++ each_after (manager_marks ss) [] ss
