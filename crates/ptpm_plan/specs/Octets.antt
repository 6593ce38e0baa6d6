-- Octets of a dataField (IEEE 1588-2019, 5.2). Those that are not there are 0. And lines of a text.
use Rattle.std.specs.Prelude.{ℕ, ◌+◌, ◌*◌, ◌==◌, List, count_by}
use Rattle.ptpm_data.specs.SetField.{octet}

-- the two octets from a place, the higher first
unfoldable pub pair_at : ℕ → List ℕ → ℕ
pair_at place octets = octet place octets * 256 + octet (place + 1) octets

-- the line, from 1, that comes after these octets of a text: each line ends with a line feed
abbrev pub line_after : List ℕ → ℕ
line_after before = 1 + count_by (λ octet. octet == 10) before
