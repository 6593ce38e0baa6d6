use Rattle.std.proofs.Common.{arith, ◌∙◌, ◌∷◌, ◌++◌, length}
use Rattle.ptpm_data.specs.Image.{ports_image}
use Rattle.ptpm_data.proofs.ImageLemmas.{behind_clock, ports_length}
use Rattle.ptpm_data.proofs.restoring.split_image.Goals as goal

pub returns-then-octets-lt-CLOCK_OCTETS-clause-parts : goal.returns-then-octets-lt-CLOCK_OCTETS-clause-parts
returns-then-octets-lt-CLOCK_OCTETS-clause-parts c =
    λ d rest fits is. let long = (behind_clock d c.args.octets.now rest fits is).long in omega arith

pub returns-in_err-text-clause-parts : goal.returns-in_err-text-clause-parts
returns-in_err-text-clause-parts c =
    λ d rest fits is. let behind = behind_clock d c.args.octets.now rest fits is in
    absurd (c.in_err-text.ensures.parts (length d.description) d.description (length d.ports ∷ (ports_image d.ports ++ rest)) (omega arith) (c.split_at.ensures.back ∙ behind.text))

pub returns-in_err-ports-clause-parts : goal.returns-in_err-ports-clause-parts
returns-in_err-ports-clause-parts c =
    λ d rest fits is. let behind = behind_clock d c.args.octets.now rest fits is in
    let text = c.in_ok-text.ensures.parts (length d.description) d.description (length d.ports ∷ (ports_image d.ports ++ rest)) (omega arith) (c.split_at.ensures.back ∙ behind.text) in
    absurd (c.in_err-ports.ensures.parts (length d.ports) (ports_image d.ports) rest (ports_length d.ports) text.1)

pub returns-clause-parts : goal.returns-clause-parts
returns-clause-parts c =
    λ d rest fits is. let behind = behind_clock d c.args.octets.now rest fits is in
    let text = c.in_ok-text.ensures.parts (length d.description) d.description (length d.ports ∷ (ports_image d.ports ++ rest)) (omega arith) (c.split_at.ensures.back ∙ behind.text) in
    let ports = c.in_ok-ports.ensures.parts (length d.ports) (ports_image d.ports) rest (ports_length d.ports) text.1 in
    record { clock = c.split_at.ensures.front ∙ behind.front; description = text.0; by_port = ports.0 }
