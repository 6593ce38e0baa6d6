-- What is left of a record that was torn (this project's profile).
use Rattle.std.specs.Prelude.{ℕ, ◌+◌, ◌==◌, ◌&&◌, ◌||◌, nat_le, nat_lt, Bool, List, length, drop, if◌then◌else◌}
use Rattle.byteorder.specs.Endian.{big_number}
use Rattle.ptpm_codec.specs.Layout.{octet}
use Rattle.ptpm_journal.specs.Frames.{are_zeros, size_in}
use Rattle.ptpm_journal.specs.Octets.{first_width, members_size}

-- whether these are the first octets of a record of this kind and size; the size of a group counts once it is there
abbrev pub has_size : ℕ → ℕ → List ℕ → Bool
has_size kind size octets =
    if first_width kind == 0 then size == members_size kind
    else if nat_lt (length octets) (members_size kind + 4)
    then nat_le (members_size kind + 2) size && nat_le size (members_size kind + 4098)
    else size == members_size kind + 2 + big_number 2 (drop (members_size kind + 2) octets)

-- a head and steps are written whole
abbrev pub is_appended : ℕ → Bool
is_appended kind = nat_le 3 kind && nat_le kind 9

abbrev pub may_be_torn : List ℕ → Bool
may_be_torn octets =
    are_zeros octets || nat_lt (length octets) 3
    || (is_appended (octet 2 octets) && has_size (octet 2 octets) (size_in octets) octets)
