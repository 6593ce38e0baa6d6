-- What data sets were, to be compared with.
use Rattle.std.specs.Prelude.{◌≤◌, length}
use Rattle.ptpm_data.specs.declared.ports.TheConstants.{PORTS}
use Rattle.ptpm_data.specs.declared.snapshot.Snapshot.TheInside.{Inside}
use Rattle.ptpm_data.specs.Members.{DataSetsValue}

abbrev pub snapshot_value : Inside → DataSetsValue
snapshot_value d = record {
  default = d.default;
  description = d.description;
  current = d.current;
  parent = d.parent;
  time = d.time;
  ports = d.ports.now;
}

-- no more ports than a clock has
pub record HasFewPorts (d : Inside) : Type 0 where
  pub few : length d.ports.now ≤ PORTS
