use Rattle.std.proofs.Common.{◌∙◌, ap, arith, length, max, subst, sym}
use Rattle.ptpm_data.specs.declared.ports.TheConstants.{INLINE_PORTS}
use Rattle.ptpm_data.specs.Members.{DataSetsValue}
use Rattle.ptpm_saved.specs.AnswerRoom.{RoomValue}
use Rattle.ptpm_saved.specs.Image.{AreEntries}
use Rattle.ptpm_saved.proofs.restoring.put_back_judged.Goals as goal

pub unreachable-requires : goal.unreachable-requires
unreachable-requires g c = c.in_default.ensures.found c.requires.judged.0 c.requires.judged.1

pub keep_entries-requires-clause-entries : goal.keep_entries-requires-clause-entries
keep_entries-requires-clause-entries g c =
    let k = c.requires.judged.0 in
    let is = c.requires.judged.1 in
    let o = c.in-Some.ensures.found k is in
    let ports = c.requires.judged.2 ∙ ap (λ (d : DataSetsValue). length d.ports) (sym c.sets.ensures) ∙ sym c.port_count.ensures.count in
    let room = ap (max INLINE_PORTS) ports ∙ sym (ap (λ (r : RoomValue). r.most) c.in_ok-fit.ensures) in
    (k.entries, subst (λ n. AreEntries n k.entries) room is.saved.entries, sym o.count_is, o.octets_are)

pub keep_entries-requires-clause-room : goal.keep_entries-requires-clause-room
keep_entries-requires-clause-room g c =
    let ports = ap (λ (d : DataSetsValue). length d.ports) (sym c.sets.ensures) ∙ sym c.port_count.ensures.count in
    let room = ap (max INLINE_PORTS) ports ∙ sym (ap (λ (r : RoomValue). r.most) c.in_ok-fit.ensures) in
    omega (arith, room, c.requires.room)

pub returns-clause-kept : goal.returns-clause-kept
returns-clause-kept g c = λ k is same.
    let o = c.in-Some.ensures.found k is in
    let ports = same ∙ ap (λ (d : DataSetsValue). length d.ports) (sym c.sets.ensures) ∙ sym c.port_count.ensures.count in
    let room = ap (max INLINE_PORTS) ports ∙ sym (ap (λ (r : RoomValue). r.most) c.in_ok-fit.ensures) in
    c.keep_entries.ensures.kept k.entries (subst (λ n. AreEntries n k.entries) room is.saved.entries) (sym o.count_is) o.octets_are
