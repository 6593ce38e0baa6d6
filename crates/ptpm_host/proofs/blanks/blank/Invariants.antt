use Rattle.ptpm_host.specs.Blanks.{AreBlanked}
use Rattle.ptpm_host.proofs.blanks.blank.Given as goal

abbrev pub invariant-loop-place : goal.invariant-loop-place
invariant-loop-place l = record { blanked : AreBlanked l.place l.initial.room l.room }
