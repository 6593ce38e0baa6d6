-- What an event changed at its clock (this project's profile).
use Rattle.std.specs.Prelude.{ℕ, ◌==◌, ◌&&◌, Bool, Option, Some, None, if◌then◌else◌}
use Rattle.std.specs.List.{list_all}
use Rattle.ptpm_data.specs.Changed.{changed}
use Rattle.ptpm_data.specs.Members.{DataSetsValue}
use Rattle.ptpm_data.specs.declared.changed.ChangedMembers.{ChangedMembers}
use Rattle.ptpm_draw.specs.declared.changes.Change.{Change}
use Rattle.ptpm_draw.specs.declared.party.Party.{Party}
use Rattle.ptpm_draw.specs.declared.party.Party.TheVariants as parties
use Rattle.ptpm_network.specs.RunningNetwork.{RunningNetwork}

-- the data sets of a clock; a session has none
abbrev pub sets_of : Option Party → RunningNetwork → Option DataSetsValue
sets_of (Some (parties.Clock place)) r = Some (r.clock place).sets
sets_of (Some (parties.Session place)) r = None
sets_of None r = None

abbrev pub is_nothing : ChangedMembers → Bool
is_nothing members = members.clock.0 == 0 && list_all (λ port. port.0 == 0) members.ports

-- which members have another value than before, if any has, and the data sets since then
abbrev pub change_between : ℕ → DataSetsValue → DataSetsValue → Option Change
change_between line before after =
    if is_nothing (changed before after) then None
    else Some (record { line = line; members = changed before after; sets = after })

abbrev pub change_of : ℕ → Option DataSetsValue → Option DataSetsValue → Option Change
change_of line (Some before) (Some after) = change_between line before after
change_of line (Some before) None = None
change_of line None after = None

-- what the event of a line changed, if it is the one that leads from one network to the other
abbrev pub change_at : ℕ → Option Party → RunningNetwork → RunningNetwork → Option Change
change_at line party before after = change_of line (sets_of party before) (sets_of party after)
