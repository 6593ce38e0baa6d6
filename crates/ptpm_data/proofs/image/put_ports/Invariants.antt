use Rattle.std.proofs.Common.{◌≡◌, ◌+◌, ◌*◌, ◌++◌, length, take}
use Rattle.ptpm_data.specs.Image.{ports_image}
use Rattle.ptpm_data.proofs.image.put_ports.Given as goal

abbrev pub invariant-loop-port : goal.invariant-loop-port
invariant-loop-port l = record {
  made : l.image.items ≡ l.initial.image.items ++ ports_image (take l.port-index l.ports);
  count : length l.image.items ≡ length l.initial.image.items + 15 * l.port-index;
}
