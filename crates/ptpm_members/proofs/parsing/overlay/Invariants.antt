use Rattle.std.proofs.Common.{◌≡◌, ◌+◌, drop}
use Rattle.ptpm_members.specs.Parsed.{overlay}
use Rattle.ptpm_members.proofs.parsing.overlay.Given as goal

abbrev pub invariant-loop-octet : goal.invariant-loop-octet
invariant-loop-octet l =
    (overlay l.place (drop l.octet-index l.octets) l.field ≡ overlay l.fn.at l.octets l.initial.field)
    × (l.place ≡ l.fn.at + l.octet-index)
