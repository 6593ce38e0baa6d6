use Rattle.std.proofs.Common.{◌≡◌, ℕ, refl}
use Rattle.std.proofs.lemmas.List.Elements.{All-replicate}
use Rattle.ptpm_host.proofs.sent.Sent.empty.Goals as goal

pub returns-clause-blank : goal.returns-clause-blank
returns-clause-blank c = record { port = refl; size = refl; octets = All-replicate (λ (o : ℕ). o ≡ 0) 1472 0 refl }
