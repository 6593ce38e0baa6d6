-- How a name is handed out to a host, and the number of a name.
use Rattle.std.specs.Prelude.{ℕ, ◌==◌, nat_lt, if◌then◌else◌, List, [], length, Option, Some, None}
use Rattle.std.specs.Str.{is_utf8}
use Rattle.ptpm_members.specs.declared.number_names.Enumeration.{Enumeration}
use Rattle.ptpm_members.specs.declared.number_names.Enumeration.TheVariants as enumerations
use Rattle.ptpm_members.specs.NumberNames.{number_of}

-- means no id, since an id has 16 bits
abbrev pub no_id : ℕ
no_id = 65536

-- how much of a name is left in this many octets: all of it, or nothing if there is none or too little
-- room
abbrev pub name_within : ℕ → Option (List ℕ) → List ℕ
name_within room None = []
name_within room (Some name) = if nat_lt room (length name) then [] else name

-- octets that a host passes, if they are a text
abbrev pub text_of : List ℕ → Option (List ℕ)
text_of octets = if is_utf8 octets then Some octets else None

-- ---- the number of a name

-- means that no number has the name, since a number has 8 bits
abbrev pub no_number : ℕ
no_number = 65536

-- whose names they are
abbrev pub enumeration_of : ℕ → Option Enumeration
enumeration_of n =
    if n == 1 then Some enumerations.PortState
    else if n == 2 then Some enumerations.DelayMechanism
    else if n == 3 then Some enumerations.TimeSource
    else None

abbrev pub number_among : Option Enumeration → Option (List ℕ) → Option ℕ
number_among None name = None
number_among (Some enumeration) None = None
number_among (Some enumeration) (Some name) = number_of enumeration name

abbrev pub number_named : ℕ → List ℕ → Option ℕ
number_named names name = number_among (enumeration_of names) (text_of name)
