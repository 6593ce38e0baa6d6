use Rattle.ptpm_world.proofs.Common.{◌+◌, refl, ap, sym, ◌∙◌, string_bytes, network_of, network_value, left_in, whole_lines, in_network, network_text}
use Rattle.ptpm_world.specs.declared.whole_script.Script.{Script}
use Rattle.ptpm_world.proofs.FaultLemmas.{outside}
use Rattle.ptpm_world.proofs.Playing.{some-is}
use Rattle.ptpm_world.proofs.Reading.{event-fault, fault-read, from-first, script-read}
use Rattle.ptpm_world.proofs.ScriptLemmas.{file-bad}
use Rattle.ptpm_world.proofs.whole_script.read_script.Goals as goal

pub returns-clause-read : goal.returns-clause-read
returns-clause-read g c =
    let R = g.R.Read.remaining in
    let s : Script = record { text = c.in_ok-text.text; network = c.in_ok-network.network; lines = c.in_ok-lines.lines } in
    script-read (R c.args.reader) (left_in R c.in_ok-script.script) (left_in R c.read_text.new.script) c.in_ok-script.script.count
    (c.read_text.new.script.count + 1) (string_bytes c.in_ok-text.text) s c.in_ok-script.ensures.count c.in_ok-script.ensures.octets c.in_ok-text.ensures.text
    (ap network_of (sym c.as_str.ensures.value) ∙ c.in_ok-network.ensures.network) refl c.in_ok-lines.ensures.events

pub returns-in_err-script-clause-read : goal.returns-in_err-script-clause-read
returns-in_err-script-clause-read g c =
    fault-read c.from_residual.result c.in_err-script.field-0.0 (g.R.Read.remaining c.args.reader) c.from_residual.ensures.1
    (λ inside. outside c.in_err-script.field-0.0 c.in_err-script.ensures.fault inside)

pub returns-in_err-text-clause-read : goal.returns-in_err-text-clause-read
returns-in_err-text-clause-read g c =
    let R = g.R.Read.remaining in
    let first = left_in R c.in_ok-script.script in
    let e = c.in_err-text.field-0.0 in
    fault-read c.from_residual-in_err-text.result e (R c.args.reader) c.from_residual-in_err-text.ensures.1
    (λ inside. from-first (R c.args.reader) first c.in_ok-script.script.count e c.in_ok-script.ensures.count c.in_ok-script.ensures.octets
    (some-is first (λ xs h. ap (λ p. p.end) (h (in_network (network_of (network_text (whole_lines xs)))))) (c.in_err-text.ensures.fault inside)))

pub returns-in_err-network-clause-read : goal.returns-in_err-network-clause-read
returns-in_err-network-clause-read g c =
    let R = g.R.Read.remaining in
    let first = left_in R c.in_ok-script.script in
    let k = c.read_text.new.script.count + 1 in
    let e = c.in_err-network.field-0.0 in
    fault-read c.from_residual-in_err-network.result e (R c.args.reader) c.from_residual-in_err-network.ensures.1
    (λ inside. from-first (R c.args.reader) first c.in_ok-script.script.count e c.in_ok-script.ensures.count c.in_ok-script.ensures.octets
    (some-is first (λ xs h. ap (λ p. p.end) h)
    (file-bad first (left_in R c.read_text.new.script) (c.in_ok-script.script.count + 1) k (string_bytes c.in_ok-text.text) e c.in_ok-text.ensures.text
    (λ lines. ap (λ t. in_network (network_of t) k lines) (sym c.as_str.ensures.value) ∙ c.in_err-network.ensures.fault inside k lines))))

pub returns-in_err-lines-clause-read : goal.returns-in_err-lines-clause-read
returns-in_err-lines-clause-read g c =
    let R = g.R.Read.remaining in
    let first = left_in R c.in_ok-script.script in
    let e = c.in_err-lines.field-0.0 in
    fault-read c.from_residual-in_err-lines.result e (R c.args.reader) c.from_residual-in_err-lines.ensures.1
    (λ inside. from-first (R c.args.reader) first c.in_ok-script.script.count e c.in_ok-script.ensures.count c.in_ok-script.ensures.octets
    (event-fault first (left_in R c.read_text.new.script) (c.in_ok-script.script.count + 1) (c.read_text.new.script.count + 1) (string_bytes c.in_ok-text.text)
    (network_value c.in_ok-network.network) e c.in_ok-text.ensures.text
    (ap network_of (sym c.as_str.ensures.value) ∙ c.in_ok-network.ensures.network) (c.in_err-lines.ensures.fault inside)))
