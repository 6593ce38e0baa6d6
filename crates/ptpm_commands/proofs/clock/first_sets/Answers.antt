-- The start of the clock that is shown has no fault.
use Rattle.std.proofs.Common.{◌≡◌, [], ◌∷◌, Result, Ok, Err, refl, ◌∙◌}
use Rattle.std.specs.Str.{is_utf8, chars}
use Rattle.ptpm_data.specs.declared.start.ClockStart.{ClockStart}
use Rattle.ptpm_data.specs.declared.start.PortStart.{PortStart}
use Rattle.ptpm_data.specs.declared.start.StartError.{StartError}
use Rattle.ptpm_data.specs.ManagementId.{set_of}
use Rattle.ptpm_data.specs.Members.{DataSetsValue}
use Rattle.ptpm_data.specs.Ranges.{is_description}
use Rattle.ptpm_data.specs.Start.{default_clock, default_port, start_of, start_within, count_fault, clock_fault, port_fault, ports_fault, grandmaster_fault}
use Rattle.ptpm_commands.specs.FreshClock.{shown, two_ports, fresh_sets}
use Rattle.ptpm_commands.proofs.clock.first_sets.Goals as goal

abbrev made : Result DataSetsValue StartError
made = Ok fresh_sets

faultless : start_of (default_clock shown 0) two_ports ≡ made
unfolding start_within count_fault clock_fault port_fault ports_fault grandmaster_fault is_description set_of is_utf8 chars
faultless = refl

-- whatever values are the defaults
starts : (c : ClockStart) (p q : PortStart)
    → c ≡ default_clock shown 0
    → p ≡ default_port
    → q ≡ default_port
    → start_of c (p ∷ q ∷ []) ≡ made
starts c p q clock first second = rw (clock, first, second) faultless

not_err : (r : Result DataSetsValue StartError) (e : StartError) → r ≡ made → r ≡ Err e → ⊥
not_err r e ok err = cc

is_made : (r : Result DataSetsValue StartError) (d : DataSetsValue)
    → r ≡ made
    → r ≡ Ok d
    → d ≡ fresh_sets
is_made r d made ok = cc

pub unreachable-requires : goal.unreachable-requires
unreachable-requires c =
    not_err _ _ (c.new-4.ensures ∙ starts _ _ _ c.new-3.ensures c.new.ensures c.new-2.ensures) c.in-Err.is

pub returns : goal.returns
returns c =
    is_made _ _ (c.new-4.ensures ∙ starts _ _ _ c.new-3.ensures c.new.ensures c.new-2.ensures) c.in-Ok.is
