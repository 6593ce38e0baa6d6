use Rattle.std.proofs.Common.{◌<◌, ◌∙◌, List, Some, ap, arith, length, slice_get, subst, sym}
use Rattle.ptpm_codec.specs.declared.identity.PortIdentity.{PortIdentity}
use Rattle.ptpm_table.specs.Entries.{Entry}
use Rattle.ptpm_table.specs.Lending.{IsKeepable, ManagerEntry}
use Rattle.ptpm_table.proofs.InOrderLaws.{count_at, place_within, read_slot}
use Rattle.ptpm_table.proofs.in_order.LentEntries.entry.Goals as goal

pub bounds-as_slice-place : goal.bounds-as_slice-place
bounds-as_slice-place c =
    let k = c.self.inside in
    omega (arith, c.requires, ap length c.self.view_is, count_at k.slots.now k.places.items c.self.invariant, ap length c.as_slice.ensures.value)

pub bounds-self-inside-slot : goal.bounds-self-inside-slot
bounds-self-inside-slot c =
    let k = c.self.inside in
    let within : c.args.place < length k.places.items =
    omega (arith, c.requires, ap length c.self.view_is, count_at k.slots.now k.places.items c.self.invariant) in
    place_within k.slots.now k.places.items c.as_slice.result.now c.args.place c.self.invariant within c.as_slice.ensures.value

pub returns-clause-entry : goal.returns-clause-entry
returns-clause-entry c =
    let k = c.self.inside in
    let within : c.args.place < length k.places.items =
    omega (arith, c.requires, ap length c.self.view_is, count_at k.slots.now k.places.items c.self.invariant) in
    let read = read_slot k.slots.now k.places.items c.as_slice.result.now c.args.place c.index-self-slot.result c.self.invariant within
    c.as_slice.ensures.value in
    ap (λ (es : List (PortIdentity × Entry)). slice_get es c.args.place) (sym c.self.view_is)
    ∙ (read.entry_is ∙ ap (λ (e : ManagerEntry). Some (e.manager, e.entry)) (sym c.entry.ensures.entry))

pub returns-clause-keepable : goal.returns-clause-keepable
returns-clause-keepable c =
    let k = c.self.inside in
    let within : c.args.place < length k.places.items =
    omega (arith, c.requires, ap length c.self.view_is, count_at k.slots.now k.places.items c.self.invariant) in
    let read = read_slot k.slots.now k.places.items c.as_slice.result.now c.args.place c.index-self-slot.result c.self.invariant within
    c.as_slice.ensures.value in
    subst (λ (e : ManagerEntry). IsKeepable e.entry) (sym c.entry.ensures.entry) read.keepable

pub returns-clause-fits : goal.returns-clause-fits
returns-clause-fits c =
    let k = c.self.inside in
    let within : c.args.place < length k.places.items =
    omega (arith, c.requires, ap length c.self.view_is, count_at k.slots.now k.places.items c.self.invariant) in
    let read = read_slot k.slots.now k.places.items c.as_slice.result.now c.args.place c.index-self-slot.result c.self.invariant within
    c.as_slice.ensures.value in
    c.entry.ensures.fits read.keepable
