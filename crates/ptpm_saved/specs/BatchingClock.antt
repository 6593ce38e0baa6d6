-- A clock that goes on while it is being saved. A datagram is held if it is a request that a manager of the clock addresses to it alone.
use Rattle.std.specs.Prelude.{Bool, false, Result, Ok, Err}
use Rattle.ptpm_codec.specs.declared.error.DecodeError.{DecodeError}
use Rattle.ptpm_codec.specs.declared.message.Message.{Message}
use Rattle.ptpm_codec.specs.Reading.{reading}
use Rattle.ptpm_table.specs.Managers.{Clock}
use Rattle.ptpm_agent.specs.Addressing.{is_numbered}
use Rattle.ptpm_saved.specs.SavingClock.{Datagram}

abbrev pub is_numbered_in : Clock → Result Message DecodeError → Bool
is_numbered_in c (Err cause) = false
is_numbered_in c (Ok v) = is_numbered c v

abbrev pub is_of_manager : Clock → Datagram → Bool
is_of_manager c x = is_numbered_in c (reading x.1)
