use Rattle.std.proofs.Common.{ap, arith, subst, sym}
use Rattle.std.proofs.lemmas.Grind.{common_steps}
use Rattle.ptpm_table.specs.KeptOctets.{OctetsValue}
use Rattle.ptpm_table.specs.Slots.{AreKeepable, HaveFew, HaveRoom}
use Rattle.ptpm_table.proofs.LendingLaws.{few_more, keepable_more, room_more}
use Rattle.ptpm_table.proofs.Slots.{configured_more, own_more, used_more}
use Rattle.ptpm_table.proofs.slot_memory.assign_blocks.Goals as goal

pub loop-manager-preserved : goal.loop-manager-preserved
loop-manager-preserved g c = record {
  configured = grind (arith, configured_more, common_steps);
  own = grind (arith, own_more);
  keepable = subst AreKeepable (sym c.add.ensures.slots) (keepable_more _ _ c.loop-manager.invariant.keepable c.unused.ensures.empty);
  few = λ most. subst (HaveFew most) (sym c.add.ensures.slots) (few_more most _ _ (c.loop-manager.invariant.few most) c.unused.ensures.empty);
  rooms = subst (HaveRoom c.args.answers) (sym c.add.ensures.slots) (room_more c.args.answers _ _ c.loop-manager.invariant.rooms (omega (arith, c.unused.ensures.most, ap (λ (k : OctetsValue). k.most) c.in_ok-reply.ensures)));
  used = grind (arith, used_more);
  count = grind (arith, common_steps);
  room = grind arith;
}
