use Rattle.std.proofs.Common.{◌∙◌, ap, refl}
use Rattle.ptpm_data.specs.declared.changed.ClockMembers.{ClockMembers}
use Rattle.ptpm_data.specs.Changed.{clock_changed, number_of}
use Rattle.ptpm_data.proofs.Differing.{at_values, digit, flags, naturals, texts}
use Rattle.ptpm_data.proofs.data_sets.DataSets.clock_changed_since.Goals as goal

pub returns : goal.returns
returns c = at_values clock_changed _ _ _ _ _ c.before-2.view_is c.self.view_is (ap (λ n. let m : ClockMembers = record { 0 = n } in m) (c.number_of.ensures.exact ∙ ap number_of
    (digit c.differ.ensures (digit (naturals _ _ _ c.differ-2.ensures) (digit (texts _ _ _ _ _ c.text.ensures.value c.text-2.ensures.value c.texts_differ.ensures) (digit (flags _ _ _ c.differ-3.ensures)
    (digit (naturals _ _ _ c.differ-4.ensures) (digit (naturals _ _ _ c.differ-5.ensures)
    (digit (naturals _ _ _ c.differ-6.ensures) (digit (naturals _ _ _ c.differ-7.ensures)
    (digit (naturals _ _ _ c.differ-8.ensures) (digit (naturals _ _ _ c.differ-9.ensures)
    (digit c.differ-10.ensures (digit c.differ-11.ensures (digit c.port_identities_differ.ensures (digit (flags _ _ _ c.differ-12.ensures)
    (digit (naturals _ _ _ c.differ-13.ensures) (digit c.differ-14.ensures
    (digit (naturals _ _ _ c.differ-15.ensures) (digit (naturals _ _ _ c.differ-16.ensures)
    (digit (naturals _ _ _ c.differ-17.ensures) (digit (naturals _ _ _ c.differ-18.ensures)
    (digit (naturals _ _ _ c.differ-19.ensures) (digit c.differ-20.ensures (digit c.differ-21.ensures
    (digit (flags _ _ _ c.differ-22.ensures) (digit (flags _ _ _ c.differ-23.ensures)
    (digit (flags _ _ _ c.differ-24.ensures) (digit (flags _ _ _ c.differ-25.ensures)
    (digit (flags _ _ _ c.differ-26.ensures) (digit (flags _ _ _ c.differ-27.ensures)
    (digit (naturals _ _ _ c.differ-28.ensures) refl))))))))))))))))))))))))))))))))
