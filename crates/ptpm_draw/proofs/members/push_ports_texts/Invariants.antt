use Rattle.std.proofs.Common.{◌≡◌, ◌++◌, flat_map, map, string_bytes, take}
use Rattle.ptpm_draw.specs.MemberText.{port_texts}
use Rattle.ptpm_draw.proofs.members.push_ports_texts.Given as goal

abbrev pub invariant-loop-port : goal.invariant-loop-port
invariant-loop-port l =
    map string_bytes l.texts.items
    ≡ map string_bytes l.fn.texts.items ++ flat_map (port_texts l.change) (take l.port-index l.ports)
