use Rattle.ptpm_world.proofs.Common.{◌+◌, ap, ◌∙◌, option_map, result_err, string_bytes, network_of, left_in}
use Rattle.ptpm_world.specs.Lines.{line_count}
use Rattle.ptpm_world.proofs.ScriptLemmas.{script-first}
use Rattle.ptpm_world.proofs.findings.check_lines.Goals as goal
use Rattle.ptpm_world.specs.declared.script_error.ScriptError.TheVariants.{BadNetwork}

pub returns-in_ok-check_events-in-Ok-clause-first : goal.returns-in_ok-check_events-in-Ok-clause-first
returns-in_ok-check_events-in-Ok-clause-first g c =
    let R = g.R.Read.remaining in
    script-first (left_in R c.args.script.now) (left_in R c.read_text.new.script) (line_count c.args.script.now + 1)
    (line_count c.read_text.new.script + 1) (string_bytes c.in-Ok.text) c.check_network.new.findings.first c.check_events.new.findings.first
    c.in-Ok.ensures.text
    (c.in_ok-check_network-in-Ok.ensures.first ∙ ap (λ t. option_map BadNetwork (result_err (network_of t))) c.as_str.ensures.value)
    c.in_ok-check_events-in-Ok.ensures.first
