use Rattle.std.proofs.Common.{◌≡◌, ◌≤◌, Option, length, true, subst, sym, ◌∙◌, ap}
use Rattle.std.specs.Prelude.{MatchOption, ⊤, is_some}
use Rattle.ptpm_table.specs.Slots.{entry_in, rights_at}
use Rattle.ptpm_table.specs.declared.slot.Slot.{Slot}
use Rattle.ptpm_table.proofs.Slots.{copied_Some, found_clock, found_few, found_manager, get_used, known_slot, rights_slot}
use Rattle.ptpm_table.proofs.slot_list.slot_at.Goals as goal

pub returns-clause-known : goal.returns-clause-known
returns-clause-known c = known_slot c.args.who.now c.args.slots.now ∙ ap is_some (sym c.find_slot.ensures)

pub returns-clause-rights : goal.returns-clause-rights
returns-clause-rights c = rights_slot c.args.who.now c.args.slots.now ∙ ap rights_at (sym c.find_slot.ensures)

pub returns-clause-kept : goal.returns-clause-kept
returns-clause-kept c = get_used c.args.who.now c.args.slots.now c.requires ∙ ap entry_in (sym c.find_slot.ensures)

pub returns-clause-manager : goal.returns-clause-manager
returns-clause-manager c =
    copied_Some c.find_slot.result (λ s. s.kept.manager ≡ c.args.who.now)
    (subst (λ (o : Option Slot). MatchOption o ⊤ (λ s. s.kept.manager ≡ c.args.who.now)) (sym c.find_slot.ensures)
    (found_manager c.args.who.now c.args.slots.now))

pub returns-clause-own : goal.returns-clause-own
returns-clause-own c = λ clock own.
    copied_Some c.find_slot.result (λ s. s.kept.clock ≡ clock)
    (subst (λ (o : Option Slot). MatchOption o ⊤ (λ s. s.kept.clock ≡ clock)) (sym c.find_slot.ensures)
    (found_clock c.args.who.now clock c.args.slots.now own))

pub returns-clause-few : goal.returns-clause-few
returns-clause-few c = λ most few.
    copied_Some c.find_slot.result (λ s. s.taken ≡ true → length s.kept.entry.reply.answers ≤ most)
    (subst (λ (o : Option Slot). MatchOption o ⊤ (λ s. s.taken ≡ true → length s.kept.entry.reply.answers ≤ most)) (sym c.find_slot.ensures)
    (found_few c.args.who.now most c.args.slots.now few))
