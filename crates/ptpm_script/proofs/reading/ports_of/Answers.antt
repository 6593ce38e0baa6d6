use Rattle.std.proofs.Common.{◌+◌, arith, map}
use Rattle.std.proofs.lemmas.Grind.{common_steps}
use Rattle.std.proofs.lemmas.List.FromFn.{map-range_with_len_more}
use Rattle.toml.specs.View.{view}
use Rattle.ptpm_script.specs.NetworkText.{start_of_port}
use Rattle.ptpm_script.proofs.reading.ports_of.Goals as goal

pub loop-place-preserved : goal.loop-place-preserved
loop-place-preserved c =
    let more = map-range_with_len_more (start_of_port (map view c.items_at-tables.result.now)) 1 c.loop-place.place (c.loop-place.place + 1) (omega arith) in
    grind (arith, common_steps)
