use Rattle.std.proofs.Common.{◌≡◌, length, map, take}
use Rattle.ptpm_table.specs.Sending.{all_octets, messages_of}
use Rattle.ptpm_table.proofs.kept_messages.copy_each.Given as goal

abbrev pub invariant-loop-place : goal.invariant-loop-place
invariant-loop-place g l = record {
  sizes : l.kept.sizes ≡ map length (messages_of (take l.place (g.O.Outgoing.sent l.out)));
  messages : l.kept.octets ≡ all_octets (messages_of (take l.place (g.O.Outgoing.sent l.out)));
  most : l.kept.most ≡ l.initial.kept.most;
}
