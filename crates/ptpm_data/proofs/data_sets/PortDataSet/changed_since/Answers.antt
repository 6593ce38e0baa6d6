use Rattle.std.proofs.Common.{◌∙◌, ap, refl}
use Rattle.ptpm_data.specs.declared.changed.PortMembers.{PortMembers}
use Rattle.ptpm_data.specs.Changed.{number_of}
use Rattle.ptpm_data.proofs.Differing.{digit, numbers_of}
use Rattle.ptpm_data.proofs.data_sets.PortDataSet.changed_since.Goals as goal

pub returns : goal.returns
returns c =
    ap (λ n. let m : PortMembers = record { 0 = n } in m)
    (c.number_of.ensures.exact
    ∙ ap number_of (digit (numbers_of _ _ _ _ _ c.number.ensures c.number-2.ensures c.differ.ensures) (digit c.differ-2.ensures (digit c.differ-3.ensures
    (digit c.differs.ensures (digit c.differs-2.ensures (digit c.differs-3.ensures (digit c.differs-4.ensures (digit c.differs-5.ensures refl)))))))))
