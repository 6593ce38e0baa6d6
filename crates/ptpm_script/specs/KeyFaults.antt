-- The keys of a table that are faults by its rules.
use Rattle.std.specs.Prelude.{ℕ, Bool, true, false, ◌&&◌, if◌then◌else◌, List, [], ◌∷◌, ◌++◌, map, Option, Some, None, is_none}
use Rattle.toml.specs.Data.{Data, as_table, Members, no_members, member, get_member}
use Rattle.ptpm_script.specs.Rules.{KeyRule, fits, kind_of}
use Rattle.ptpm_script.specs.Spellings.{passes}
use Rattle.ptpm_script.specs.declared.net_error.NetError.TheVariants.{BadShape}
use Rattle.ptpm_script.specs.Marks.{Mark, Spot, Part, absent, at_key, marked, whole}

-- a key is one of the rules, and its value is of that rule's kind
abbrev pub holds : List KeyRule → List ℕ → Data → Bool
holds rules key d = passes (λ kind. fits kind d) (kind_of rules key)

-- the required keys that are not there, in the rules' order
abbrev pub missing_keys : List KeyRule → Members → List (List ℕ)
missing_keys [] ms = []
missing_keys (r ∷ rs) ms =
    if r.is_required && is_none (get_member r.key ms) then r.key ∷ missing_keys rs ms else missing_keys rs ms

-- the keys that no rule knows, or whose value is not of its kind, in the table's order
abbrev pub wrong_keys : List KeyRule → Members → List (List ℕ)
wrong_keys rules no_members = []
wrong_keys rules (member key d ms) = if holds rules key d then wrong_keys rules ms else key ∷ wrong_keys rules ms

abbrev pub has_none : List (List ℕ) → Bool
has_none [] = true
has_none (key ∷ keys) = false

-- ---- their marks

abbrev pub shape_mark : Spot → Part → Mark
shape_mark spot part = marked BadShape spot part

abbrev pub missing_marks : Spot → List KeyRule → Members → List Mark
missing_marks spot rules ms = map (λ key. shape_mark spot (absent key)) (missing_keys rules ms)

abbrev pub wrong_marks : Spot → List KeyRule → Members → List Mark
wrong_marks spot rules ms = map (λ key. shape_mark spot (at_key key)) (wrong_keys rules ms)

unfoldable pub key_marks : Spot → List KeyRule → Members → List Mark
key_marks spot rules ms = missing_marks spot rules ms ++ wrong_marks spot rules ms

-- of a value that is to be a table: of its keys, or that it is none
abbrev pub members_marks : Spot → List KeyRule → Option Members → List Mark
members_marks spot rules None = shape_mark spot whole ∷ []
members_marks spot rules (Some ms) = key_marks spot rules ms

unfoldable pub table_marks : Spot → List KeyRule → Data → List Mark
table_marks spot rules d = members_marks spot rules (as_table d)
