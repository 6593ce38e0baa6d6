use Rattle.ptpm_members.proofs.value_text.+push_fraction.Given as goal

abbrev pub decreases-push_fraction : goal.decreases-push_fraction
decreases-push_fraction g l = l.digits
