-- The rights that a network file gives a session (this project's profile).
use Rattle.std.specs.Prelude.{ℕ, bit_or, if◌then◌else◌, List, [], ◌∷◌, bytes_eq, codes, Option, Some, None, unwrap_or, option_map, option_and_then}
use Rattle.toml.specs.Data.{Data, Members, as_array, as_str, get_member}
use Rattle.ptpm_data.specs.Rights.{all_rights}
use Rattle.ptpm_data.specs.declared.rights.Rights.{Rights}
use Rattle.ptpm_script.specs.Heads.{list_of}

-- the right of a word: 1, 2 and 4 as in the sets of rights
abbrev pub right_of : List ℕ → Option ℕ
right_of word =
    if bytes_eq word (codes "clock-set") then Some 1
    else if bytes_eq word (codes "port-set") then Some 2
    else if bytes_eq word (codes "port-command") then Some 4
    else None

abbrev pub right_in : Data → Option ℕ
right_in d = option_and_then right_of (as_str d)

-- a set of rights, and those that the items name
abbrev pub rights_from : ℕ → List Data → ℕ
rights_from set [] = set
rights_from set (d ∷ ds) = rights_from (bit_or set (unwrap_or (right_in d) 0)) ds

-- the rights that are given; all of them if none are, as in version 1
abbrev pub rights_given : Option (List Data) → Rights
rights_given None = all_rights
rights_given (Some words) = record { 0 = rights_from 0 words }

-- the rights of a session's table
unfoldable pub rights_at : Members → Rights
rights_at ms = rights_given (option_map list_of (option_and_then as_array (get_member (codes "rights") ms)))
