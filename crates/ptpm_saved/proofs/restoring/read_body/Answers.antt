use Rattle.std.proofs.Common.{◌∙◌, ap, length, max, subst, sym}
use Rattle.ptpm_data.specs.declared.ports.TheConstants.{INLINE_PORTS}
use Rattle.ptpm_data.specs.Members.{DataSetsValue}
use Rattle.ptpm_saved.specs.Image.{AreEntries}
use Rattle.ptpm_saved.proofs.BodyLemmas.{whole_body}
use Rattle.ptpm_saved.proofs.restoring.read_body.Goals as goal

pub returns-clause-sound : goal.returns-clause-sound
returns-clause-sound c = λ yes.
    let e = c.in_ok-is_whole.ensures.sound yes in
    let begun = c.in_ok-is_begun.ensures in
    let room = ap (max INLINE_PORTS) c.port_count.ensures.count in
    whole_body c.args.image.now c.in-Some.entries.octets.now c.in-Some.entries.count c.read_sets.new.sets e.0
    (begun.begun c.if-not-is_begun.false) (begun.consistent c.if-not-is_begun.false) (begun.fits c.if-not-is_begun.false) c.in-Some.ensures.opened
    (subst (λ n. AreEntries n e.0) room e.1) e.2 e.3

pub returns-clause-found : goal.returns-clause-found
returns-clause-found c = λ k is.
    let o = c.in-Some.ensures.found k is in
    let begun = c.in_ok-is_begun.ensures.found k is in
    let room = ap (max INLINE_PORTS) (c.port_count.ensures.count ∙ ap (λ (d : DataSetsValue). length d.ports) begun.1) in
    (c.in_ok-is_whole.ensures.found k.entries (subst (λ n. AreEntries n k.entries) (sym room) is.saved.entries) (sym o.count_is) o.octets_are, begun.1)
