use Rattle.std.proofs.Common.{◌≡◌, ◌≤◌, ◌∙◌, All, List, ap, arith, length, subst, sym}
use Rattle.ptpm_codec.specs.declared.identity.ClockIdentity.{ClockIdentity}
use Rattle.ptpm_table.specs.Slots.{AreKeepable, HaveFew, HaveRoom, clocks}
use Rattle.ptpm_table.specs.declared.managers.TheConstants.{MOST_MANAGERS}
use Rattle.ptpm_table.specs.declared.slot.Slot.{Slot}
use Rattle.ptpm_table.proofs.table_over.TableOverSureTable.replace_answers.Goals as goal

pub invariant_of-self-clause-own : goal.invariant_of-self-clause-own
invariant_of-self-clause-own g c =
    let lent = c.slots_mut-slots.ensures.value in
    let size = ap length lent in
    let same = g.met.M.SlotMemory.written_slots c.args.self.now.slots c.put.new.slots (omega (arith, size, c.put.auto.slots)) in
    let own : List ClockIdentity → Type 0 = λ cs. All (λ k. k ≡ c.args.self.now.clock) cs in
    subst (λ (ss : List Slot). own (clocks ss)) (sym same)
    (subst own (sym c.put.ensures.clocks) (subst (λ (ss : List Slot). own (clocks ss)) (sym lent) c.args.self.now.own))

pub invariant_of-self-clause-few : goal.invariant_of-self-clause-few
invariant_of-self-clause-few g c =
    let lent = c.slots_mut-slots.ensures.value in
    let size = ap length lent in
    let same = g.met.M.SlotMemory.written_slots c.args.self.now.slots c.put.new.slots (omega (arith, size, c.put.auto.slots)) in
    subst (λ (ss : List Slot). length ss ≤ MOST_MANAGERS) (sym same) (omega (arith, size, c.put.auto.slots, c.args.self.now.few))

pub invariant_of-self-clause-keepable : goal.invariant_of-self-clause-keepable
invariant_of-self-clause-keepable g c =
    let lent = c.slots_mut-slots.ensures.value in
    let size = ap length lent in
    let same = g.met.M.SlotMemory.written_slots c.args.self.now.slots c.put.new.slots (omega (arith, size, c.put.auto.slots)) in
    subst AreKeepable (sym same) (c.put.ensures.keepable (subst AreKeepable (sym lent) c.args.self.now.keepable))

pub put-requires-clause-few : goal.put-requires-clause-few
put-requires-clause-few g c =
    (c.args.self.now.answers, subst (HaveRoom c.args.self.now.answers) (sym c.slots_mut-slots.ensures.value) c.args.self.now.have_room, c.requires.few)

pub invariant_of-self-clause-have_room : goal.invariant_of-self-clause-have_room
invariant_of-self-clause-have_room g c =
    let lent = c.slots_mut-slots.ensures.value in
    let size = ap length lent in
    let most = c.args.self.now.answers in
    let same = g.met.M.SlotMemory.written_slots c.args.self.now.slots c.put.new.slots (omega (arith, size, c.put.auto.slots)) in
    subst (HaveRoom most) (sym same) (c.put.ensures.rooms most (subst (HaveRoom most) (sym lent) c.args.self.now.have_room))

pub invariant_of-self-clause-have_few : goal.invariant_of-self-clause-have_few
invariant_of-self-clause-have_few g c =
    let lent = c.slots_mut-slots.ensures.value in
    let size = ap length lent in
    let most = c.args.self.now.answers in
    let same = g.met.M.SlotMemory.written_slots c.args.self.now.slots c.put.new.slots (omega (arith, size, c.put.auto.slots)) in
    subst (HaveFew most) (sym same) (c.put.ensures.few most c.requires.few (subst (HaveFew most) (sym lent) c.args.self.now.have_few))

pub invariant_of-self-clause-no_spare : goal.invariant_of-self-clause-no_spare
invariant_of-self-clause-no_spare g c =
    let lent = c.slots_mut-slots.ensures.value in
    let size = ap length lent in
    g.met.M.SlotMemory.written_spare c.args.self.now.slots c.put.new.slots (omega (arith, size, c.put.auto.slots)) ∙ c.args.self.now.no_spare
