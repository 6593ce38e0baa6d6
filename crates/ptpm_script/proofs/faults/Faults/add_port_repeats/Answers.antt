use Rattle.std.proofs.Common.{map, ap, ◌∙◌, take}
use Rattle.std.proofs.lemmas.List.{take-map}
use Rattle.toml.specs.View.{view}
use Rattle.ptpm_script.specs.Heads.{number_in}
use Rattle.ptpm_script.proofs.faults.Faults.add_port_repeats.Goals as goal

pub add_port_repeat-requires : goal.add_port_repeat-requires
add_port_repeat-requires c =
    let index = c.loop-index.index in
    ap (take index) (c.deref.ensures.value ∙ c.in_ok-numbers.ensures)
    ∙ take-map number_in index (map view c.args.ports.now)
    ∙ ap (map number_in) (take-map view index c.args.ports.now)
