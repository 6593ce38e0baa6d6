use Rattle.std.proofs.Common.{◌<◌, ◌∙◌, [], ap, arith, flat_map, length, subst, sym, take}
use Rattle.std.proofs.KnownBytes.{Appends-nil, Appends-trans}
use Rattle.std.proofs.lemmas.List.{flat_map_more, take_all, take_more}
use Rattle.std.specs.Io.KnownBytes.{Appends}
use Rattle.ptpm_commands.specs.Ids.{id_line}
use Rattle.ptpm_commands.proofs.Telling.{all-rows, table_ids}
use Rattle.ptpm_commands.proofs.ids.ids.Goals as goal

pub loop-id-init : goal.loop-id-init
loop-id-init g c = Appends-nil (g.O.Write.contents c.args.out.now)

pub loop-id-preserved : goal.loop-id-preserved
loop-id-preserved g c =
    let W = g.O.Write.contents in
    let i = c.loop-id.id-index in
    let inside : i < length table_ids = omega (arith, c.loop-id-test.true) in
    subst (Appends (W c.args.out.now) (W c.write_id.new.out))
    (flat_map_more id_line [] (take i table_ids) _ ∙ ap (flat_map id_line) (sym (take_more table_ids i 0 inside)))
    (Appends-trans (W c.args.out.now) (W c.loop-id.out) (W c.write_id.new.out) _ _ c.loop-id.invariant c.in_ok-write_id.ensures)

pub returns-clause-printed : goal.returns-clause-printed
returns-clause-printed g c =
    subst (Appends (g.O.Write.contents c.args.out.now) (g.O.Write.contents c.loop-id.out))
    (ap (flat_map id_line) (take_all c.loop-id.id-index table_ids (omega (arith, c.loop-id-test.false))) ∙ all-rows)
    c.loop-id.invariant
