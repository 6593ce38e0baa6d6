use Rattle.std.proofs.Common.{◌≡◌, ◌≤◌, ◌∙◌, All, List, ap, arith, length, subst, sym}
use Rattle.std.specs.FinMap.{from_entries, insert}
use Rattle.ptpm_codec.specs.Identity.{identity_cmp}
use Rattle.ptpm_codec.specs.declared.identity.ClockIdentity.{ClockIdentity}
use Rattle.ptpm_table.specs.Slots.{AreKeepable, HaveFew, HaveRoom, clocks, used}
use Rattle.ptpm_table.specs.declared.managers.TheConstants.{MOST_MANAGERS}
use Rattle.ptpm_table.specs.declared.slot.Slot.{Slot}
use Rattle.ptpm_table.proofs.table_over.TableOverSureTable.keep_sent.Goals as goal

pub returns-clause-kept : goal.returns-clause-kept
returns-clause-kept g c = λ r s.
    let lent = c.slots_mut-slots.ensures.value in
    let own = subst (λ ss. All (λ k. k ≡ c.args.self.now.clock) (clocks ss)) (sym lent) c.args.self.now.own in
    let size = ap length lent in
    let same = g.met.M.SlotMemory.written_slots c.args.self.now.slots c.put_sent.new.slots (omega (arith, size, c.put_sent.auto.slots)) in
    ap (λ (ss : List Slot). from_entries {R = identity_cmp} (used ss)) same
    ∙ (c.put_sent.ensures.entries c.args.self.now.clock r own s
    ∙ ap (λ (ss : List Slot). insert (from_entries {R = identity_cmp} (used ss)) c.args.heard.now.source (record { number = c.args.heard.now.number; request = c.args.request.now; reply = r })) lent)

pub invariant_of-self-clause-own : goal.invariant_of-self-clause-own
invariant_of-self-clause-own g c =
    let lent = c.slots_mut-slots.ensures.value in
    let size = ap length lent in
    let same = g.met.M.SlotMemory.written_slots c.args.self.now.slots c.put_sent.new.slots (omega (arith, size, c.put_sent.auto.slots)) in
    let own : List ClockIdentity → Type 0 = λ cs. All (λ k. k ≡ c.args.self.now.clock) cs in
    subst (λ (ss : List Slot). own (clocks ss)) (sym same)
    (subst own (sym c.put_sent.ensures.clocks) (subst (λ (ss : List Slot). own (clocks ss)) (sym lent) c.args.self.now.own))

pub invariant_of-self-clause-few : goal.invariant_of-self-clause-few
invariant_of-self-clause-few g c =
    let lent = c.slots_mut-slots.ensures.value in
    let size = ap length lent in
    let same = g.met.M.SlotMemory.written_slots c.args.self.now.slots c.put_sent.new.slots (omega (arith, size, c.put_sent.auto.slots)) in
    subst (λ (ss : List Slot). length ss ≤ MOST_MANAGERS) (sym same) (omega (arith, size, c.put_sent.auto.slots, c.args.self.now.few))

pub invariant_of-self-clause-keepable : goal.invariant_of-self-clause-keepable
invariant_of-self-clause-keepable g c =
    let lent = c.slots_mut-slots.ensures.value in
    let size = ap length lent in
    let same = g.met.M.SlotMemory.written_slots c.args.self.now.slots c.put_sent.new.slots (omega (arith, size, c.put_sent.auto.slots)) in
    subst AreKeepable (sym same) (c.put_sent.ensures.keepable (subst AreKeepable (sym lent) c.args.self.now.keepable))

pub invariant_of-self-clause-have_room : goal.invariant_of-self-clause-have_room
invariant_of-self-clause-have_room g c =
    let lent = c.slots_mut-slots.ensures.value in
    let size = ap length lent in
    let most = c.args.self.now.answers in
    let same = g.met.M.SlotMemory.written_slots c.args.self.now.slots c.put_sent.new.slots (omega (arith, size, c.put_sent.auto.slots)) in
    subst (HaveRoom most) (sym same) (c.put_sent.ensures.rooms most (subst (HaveRoom most) (sym lent) c.args.self.now.have_room))

pub invariant_of-self-clause-have_few : goal.invariant_of-self-clause-have_few
invariant_of-self-clause-have_few g c =
    let lent = c.slots_mut-slots.ensures.value in
    let size = ap length lent in
    let most = c.args.self.now.answers in
    let same = g.met.M.SlotMemory.written_slots c.args.self.now.slots c.put_sent.new.slots (omega (arith, size, c.put_sent.auto.slots)) in
    subst (HaveFew most) (sym same) (c.put_sent.ensures.few most c.requires.few (subst (HaveFew most) (sym lent) c.args.self.now.have_few))

pub invariant_of-self-clause-no_spare : goal.invariant_of-self-clause-no_spare
invariant_of-self-clause-no_spare g c =
    let lent = c.slots_mut-slots.ensures.value in
    let size = ap length lent in
    g.met.M.SlotMemory.written_spare c.args.self.now.slots c.put_sent.new.slots (omega (arith, size, c.put_sent.auto.slots)) ∙ c.args.self.now.no_spare
