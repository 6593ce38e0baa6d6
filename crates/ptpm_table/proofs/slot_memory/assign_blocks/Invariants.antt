use Rattle.std.proofs.Common.{All, ◌≡◌, ℕ, [], take, length}
use Rattle.ptpm_table.specs.Slots.{AreKeepable, HaveFew, HaveRoom, clocks, configured, used}
use Rattle.ptpm_table.proofs.slot_memory.assign_blocks.Given as goal

abbrev pub invariant-loop-manager : goal.invariant-loop-manager
invariant-loop-manager g l = record {
  configured : configured (g.M.SlotMemory.slots l.memory) ≡ take l.manager-index l.managers;
  own : All (λ c. c ≡ l.clock) (clocks (g.M.SlotMemory.slots l.memory));
  keepable : AreKeepable (g.M.SlotMemory.slots l.memory);
  few : (most : ℕ) → HaveFew most (g.M.SlotMemory.slots l.memory);
  rooms : HaveRoom l.answers (g.M.SlotMemory.slots l.memory);
  used : used (g.M.SlotMemory.slots l.memory) ≡ [];
  count : length (g.M.SlotMemory.slots l.memory) ≡ l.manager-index;
  room : g.M.SlotMemory.room l.memory ≡ g.M.SlotMemory.room l.initial.memory;
}
