-- The sequenceIds of a manager's requests (IEEE 1588-2019, 7.3.7), by their index from 1 on, which never wraps.
use Rattle.std.specs.Prelude.{ℕ, ◌+◌, ◌-◌, ◌%◌}

-- the sequenceId of request k of a manager whose first request has this one
abbrev pub number_of : ℕ → ℕ → ℕ
number_of first k = (first + (k - 1)) % 65536
