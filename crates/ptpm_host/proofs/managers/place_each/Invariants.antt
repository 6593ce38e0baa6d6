use Rattle.std.proofs.Common.{◌≡◌, take, length}
use Rattle.ptpm_table.specs.declared.managers.TheConstants.{MOST_MANAGERS}
use Rattle.ptpm_host.specs.Settings.{configured}
use Rattle.ptpm_host.proofs.managers.place_each.Given as goal

abbrev pub invariant-loop-place : goal.invariant-loop-place
invariant-loop-place l = record {
  placed : take l.place l.places ≡ configured (take l.place l.managers);
  size : length l.places ≡ MOST_MANAGERS;
}
