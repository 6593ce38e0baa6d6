use Rattle.std.proofs.KnownBytes.{Appends-trans}
use Rattle.std.proofs.lemmas.Result.{on_ok_weaker}
use Rattle.ptpm_commands.specs.Show.{header_lines}
use Rattle.ptpm_commands.proofs.show.show_header.Goals as goal

pub returns : goal.returns
unfolding header_lines
returns g c =
    let W = g.O.Write.contents in
    let first = W c.args.out.now in
    let second = W c.writeln.new.self in
    let third = W c.show_identities.new.out in
    let last = W c.show_rest.new.out in
    let two = Appends-trans first (W c.show_sdo.new.out) second _ _
    (rw c.sdo.ensures at c.in_ok-show_sdo.ensures) (rw c.domain.ensures at c.in_ok-writeln.ensures.bytes) in
    let three = Appends-trans first second third _ _ two c.in_ok-show_identities.ensures in
    on_ok_weaker c.show_rest.result (λ rest. Appends-trans first third last _ _ three rest) c.show_rest.ensures
