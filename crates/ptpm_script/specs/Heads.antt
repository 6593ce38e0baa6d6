-- What a network file's tables are known by: names, identities, targets and ends. Of more tables than a network may have, as many as
-- it may (this project's profile).
use Rattle.std.specs.Prelude.{ℕ, if◌then◌else◌, List, [], ◌∷◌, codes, take, Option, Some, None, option_map, option_and_then}
use Rattle.toml.specs.Data.{Data, as_array, as_str, as_table, Items, no_items, item, Members, get_member}
use Rattle.toml.specs.View.{table_view}
use Rattle.ptpm_codec.specs.declared.identity.ClockIdentity.{ClockIdentity}
use Rattle.ptpm_codec.specs.declared.identity.PortIdentity.{PortIdentity}
use Rattle.ptpm_script.specs.Spellings.{end_of, is_name}
use Rattle.ptpm_script.specs.Values.{clock_at, natural_at, port_at, text_at}
use Rattle.ptpm_script.specs.declared.heads.ClockHead.{ClockHead}
use Rattle.ptpm_script.specs.declared.heads.EndHead.{EndHead}
use Rattle.ptpm_script.specs.declared.heads.SessionHead.{SessionHead}
use Rattle.ptpm_script.specs.declared.place.Array.TheVariants as arrays
use Rattle.ptpm_script.specs.Marks.{Spot, each, if_any, in_table, spot_of}

-- ---- arrays

abbrev pub list_of : Items → List Data
list_of no_items = []
list_of (item d ds) = d ∷ list_of ds

abbrev pub list_or_none : Option Items → List Data
list_or_none None = []
list_or_none (Some ds) = list_of ds

-- the items of the array at a key; none if there is no array
unfoldable pub items_at : List ℕ → Members → List Data
items_at key ms = list_or_none (option_and_then as_array (get_member key ms))

abbrev pub members_items : List ℕ → Option Members → List Data
members_items key None = []
members_items key (Some ms) = items_at key ms

-- the same of a value; none if it is no table
abbrev pub items_in : List ℕ → Data → List Data
items_in key d = members_items key (as_table d)

-- ---- tables

abbrev pub if_name : List ℕ → Option (List ℕ)
if_name text = if is_name text then Some text else None

-- the name at a key, if it is one
abbrev pub name_at : List ℕ → Members → Option (List ℕ)
name_at key ms = option_and_then if_name (text_at key ms)

abbrev pub members_number : Option Members → Option ℕ
members_number None = None
members_number (Some ms) = natural_at 65535 (codes "number") ms

-- the number of a port's table
abbrev pub number_in : Data → Option ℕ
number_in d = members_number (as_table d)

pub record ClockHeadValue : Type 0 where
  pub spot : Spot
  pub number : ℕ
  pub table : Members
  pub name : Option (List ℕ)
  pub identity : Option ClockIdentity
  pub count : Option ℕ

pub record SessionHeadValue : Type 0 where
  pub spot : Spot
  pub table : Members
  pub name : Option (List ℕ)
  pub identity : Option PortIdentity
  pub target : Option (List ℕ)

pub record EndHeadValue : Type 0 where
  pub spot : Spot
  pub number : ℕ
  pub name : List ℕ
  pub port : Option ℕ

unfoldable pub clock_head : ℕ → Members → ClockHeadValue
clock_head n ms = record {
  spot = in_table arrays.Clock n;
  number = n;
  table = ms;
  name = name_at (codes "name") ms;
  identity = clock_at (codes "identity") ms;
  count = natural_at 65535 (codes "ports") ms;
}

unfoldable pub session_head : ℕ → Members → SessionHeadValue
session_head n ms = record {
  spot = in_table arrays.Session n;
  table = ms;
  name = name_at (codes "name") ms;
  identity = port_at (codes "identity") ms;
  target = name_at (codes "target") ms;
}

-- an end that is spelt as one
abbrev pub end_head : Spot → ℕ → Data → List EndHeadValue
end_head spot n d =
    if_any (option_map (λ e. record { spot = spot; number = n; name = e.0; port = e.1 }) (option_and_then end_of (as_str d)))

abbrev pub clock_in : ℕ → Data → List ClockHeadValue
clock_in n d = if_any (option_map (clock_head n) (as_table d))

abbrev pub session_in : ℕ → Data → List SessionHeadValue
session_in n d = if_any (option_map (session_head n) (as_table d))

abbrev pub ends_in : ℕ → Data → List EndHeadValue
ends_in n d = each (end_head (in_table arrays.Link n)) 1 (take 16 (items_in (codes "ends") d))

-- ---- of a whole file

unfoldable pub clocks_of : Members → List ClockHeadValue
clocks_of ms = each clock_in 1 (take 64 (items_at (codes "clock") ms))

unfoldable pub sessions_of : Members → List SessionHeadValue
sessions_of ms = each session_in 1 (take 256 (items_at (codes "session") ms))

unfoldable pub ends_of : Members → List EndHeadValue
ends_of ms = each ends_in 1 (take 256 (items_at (codes "link") ms))

-- ---- as the program has them

abbrev pub clock_value : ClockHead → ClockHeadValue
clock_value c = record {
  spot = spot_of c.at.place;
  number = c.number;
  table = table_view c.at.table.now;
  name = option_map (λ s. s.now) c.name;
  identity = c.identity;
  count = c.count;
}

abbrev pub session_value : SessionHead → SessionHeadValue
session_value s = record {
  spot = spot_of s.at.place;
  table = table_view s.at.table.now;
  name = option_map (λ n. n.now) s.name;
  identity = s.identity;
  target = option_map (λ n. n.now) s.target;
}

abbrev pub end_value : EndHead → EndHeadValue
end_value e = record { spot = spot_of e.place; number = e.number; name = e.name.now; port = e.port }
