use Rattle.std.proofs.Common.{◌∙◌}
use Rattle.ptpm_saved.proofs.ReadingLemmas.{clock_found, identity_joined, identity_split}
use Rattle.ptpm_saved.proofs.entry_reading.read_identity.Goals as goal

pub returns-in_err-port-clause-found : goal.returns-in_err-port-clause-found
returns-in_err-port-clause-found c = λ who rest fits is.
    let s = identity_split who rest c.args.octets.now fits is in
    absurd (c.in_err-port.ensures.found who.port rest fits.port (c.in_ok-clock.ensures.cases.2 ∙ s.1))

pub returns-clause-sound : goal.returns-clause-sound
returns-clause-sound c =
    identity_joined c.args.octets.now c.in_ok-clock.clock.now c.in_ok-clock.octets.now c.in_ok-port.octets.now c.clock_identity_at-clock.result c.in_ok-port.port
    c.in_ok-clock.ensures.cases.1 c.in_ok-clock.ensures.cases.2 c.in_ok-clock.ensures.cases.3 c.clock_identity_at-clock.ensures c.in_ok-port.ensures.sound

pub returns-clause-found : goal.returns-clause-found
returns-clause-found c = λ who rest fits is.
    let s = identity_split who rest c.args.octets.now fits is in
    let port = c.in_ok-port.ensures.found who.port rest fits.port (c.in_ok-clock.ensures.cases.2 ∙ s.1) in
    (λ i. record { clock = clock_found who c.in_ok-clock.clock.now c.clock_identity_at-clock.result (c.in_ok-clock.ensures.cases.1 ∙ s.0) c.in_ok-clock.ensures.cases.3 c.clock_identity_at-clock.ensures i; port = port.0 i }, port.1)
