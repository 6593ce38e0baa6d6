use Rattle.ptpm_world.proofs.Common.{ap, sym, ◌∙◌, names_in, placed}
use Rattle.ptpm_network.specs.Machine.{is_late_delivery, state_after}
use Rattle.ptpm_script.specs.declared.event.Event.{Event}
use Rattle.ptpm_world.proofs.world.World.is_late_delivery.Goals as goal

pub returns-in-Deliver-clause-late_after : goal.returns-in-Deliver-clause-late_after
returns-in-Deliver-clause-late_after c = λ N past at.
    c.is_late.ensures.late_after N past at
    ∙ sym (ap (λ (e : Event). is_late_delivery (state_after N past) (placed (names_in c.args.self.now) e)) c.in-Deliver.is)
