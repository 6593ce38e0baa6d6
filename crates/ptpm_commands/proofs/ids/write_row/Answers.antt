use Rattle.std.proofs.Common.{◌∙◌, ap, codes, subst}
use Rattle.std.proofs.lemmas.Result.{on_ok_weaker}
use Rattle.std.specs.Io.KnownBytes.{Appends}
use Rattle.ptpm_data.specs.ManagementId.{row_value}
use Rattle.ptpm_commands.specs.Ids.{letter}
use Rattle.ptpm_commands.proofs.Telling.{row-line}
use Rattle.ptpm_commands.proofs.ids.write_row.Goals as goal

pub returns : goal.returns
returns g c =
    let line = row-line (row_value c.args.row.now) c.to_be_bytes.result c.scope_text-scope.result.now c.letter-get.result.now c.letter-set.result.now
    c.letter-command.result.now c.to_be_bytes.ensures c.scope_text-scope.ensures
    (c.letter-get.ensures ∙ ap (λ b. letter b (codes "G")) (c.contains.ensures tt))
    (c.letter-set.ensures ∙ ap (λ b. letter b (codes "S")) (c.contains-2.ensures tt))
    (c.letter-command.ensures ∙ ap (λ b. letter b (codes "C")) (c.contains-3.ensures tt)) in
    on_ok_weaker c.writeln.result
    (λ wrote. subst (Appends (g.O.Write.contents c.args.out.now) (g.O.Write.contents c.writeln.new.self)) line wrote) c.writeln.ensures.bytes
