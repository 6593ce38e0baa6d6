use Rattle.std.proofs.Common.{ℕ, ◌∙◌, ◌+◌, ap, drop, sym}
use Rattle.std.proofs.lemmas.List.{at_drop_all, at_drop_more}
use Rattle.ptpm_seal.specs.Crc.{after}
use Rattle.ptpm_seal.proofs.crc.after.Goals as goal

pub loop-octet-preserved : goal.loop-octet-preserved
unfolding after
loop-octet-preserved c =
    let rest = drop (c.loop-octet.octet-index + 1) c.args.octets.now in
    ap (λ (r : ℕ). after r rest) c.after_octet-remainder.ensures
    ∙ sym (at_drop_more (after c.loop-octet.remainder) c.args.octets.now c.loop-octet.octet-index 0 c.loop-octet-test.true)
    ∙ c.loop-octet.invariant

pub returns : goal.returns
unfolding after
returns c =
    sym (at_drop_all (after c.loop-octet.remainder) c.args.octets.now c.loop-octet.octet-index c.loop-octet-test.false) ∙ c.loop-octet.invariant
