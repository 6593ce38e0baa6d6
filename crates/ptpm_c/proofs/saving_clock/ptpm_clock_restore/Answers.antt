use Rattle.std.proofs.Common.{Bool, ℕ, List, None, Option, Some, refl, subst, sym}
use Rattle.ptpm_codec.specs.declared.identity.ClockIdentity.{ClockIdentity}
use Rattle.ptpm_saved.specs.Image.{SavedClock}
use Rattle.ptpm_saved.specs.SavingClock.{Datagram}
use Rattle.ptpm_host.specs.declared.refusal.ClockRestoreRefusal.TheVariants as refusals
use Rattle.ptpm_host.specs.declared.settings.ManagerSettings.{ManagerSettings}
use Rattle.ptpm_host.specs.Restoring.{CanRestoreWith, IsRefusedBy}
use Rattle.ptpm_host.specs.UnderWay.{has_under_way}
use Rattle.ptpm_host.proofs.RestoredWith.{nothing_there, something_there}
use Rattle.ptpm_c.proofs.saving_clock.ptpm_clock_restore.Goals as goal

-- memory may lack for a clock that can be restored
out_of_memory : (identity : ClockIdentity) (ports : ℕ) (managers : List ManagerSettings) (image : List ℕ) (c : SavedClock) (under_way : Option Datagram)
    → CanRestoreWith identity ports managers image c under_way
    → IsRefusedBy (has_under_way image) identity ports managers image refusals.OutOfMemory
out_of_memory identity ports managers image c None can =
    subst (λ (b : Bool). IsRefusedBy b identity ports managers image refusals.OutOfMemory) (sym (nothing_there c image can.image_of)) (can.managers_fit, can.not_zero)
out_of_memory identity ports managers image c (Some x) can =
    subst (λ (b : Bool). IsRefusedBy b identity ports managers image refusals.OutOfMemory) (sym (something_there ports x can.0 image can.1)) (record { managers_fit = can.2.managers_fit; not_zero = can.2.not_zero })

pub returns-then-is_err-clause-refused : goal.returns-then-is_err-clause-refused
returns-then-is_err-clause-refused c = λ refused.
    let back = c.in-Ok.ensures.restored in
    (refusals.OutOfMemory, out_of_memory _ _ _ _ back.0 back.1 back.2, refl)
