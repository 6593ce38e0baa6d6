-- The ids that a plan may set, by their numbers.
use Rattle.std.proofs.Common.{◌≡◌, ◌==◌, Some, None, refl}
use Rattle.std.specs.List.{find}
use Rattle.ptpm_data.specs.ManagementId.{row_of}
use Rattle.ptpm_plan.specs.PlannedId.{number_of}
use Rattle.ptpm_plan.specs.declared.change.PlannedId.{PlannedId}
use Rattle.ptpm_plan.specs.declared.change.PlannedId.TheVariants as ids
use Rattle.ptpm_plan.specs.declared.change.TheConstants.PlannedId.{ALL}

-- the table of ids has each
pub in_table : (id : PlannedId) → row_of (number_of id) ≡ None → ⊥
unfolding row_of
in_table ids.UserDescription e = cc
in_table _ e = cc

-- and so has ALL
pub listed : (id : PlannedId) → find (λ other. number_of other == number_of id) ALL ≡ Some id
listed ids.UserDescription = refl
listed _ = refl
