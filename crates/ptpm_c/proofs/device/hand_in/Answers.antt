use Rattle.std.proofs.Common.{◌∙◌, ap}
use Rattle.ptpm_host.specs.Numbers.{verdict_number}
use Rattle.ptpm_c.specs.declared.device.Taken.{Taken}
use Rattle.ptpm_c.proofs.HandedOut.{placed}
use Rattle.ptpm_c.proofs.device.hand_in.Goals as goal

pub returns-in-Ok-clause-changed : goal.returns-in-Ok-clause-changed
returns-in-Ok-clause-changed c = λ none. (c.in-Ok.ensures.members, ap (λ (t : Taken). t.waiting) c.requires.nothing)

pub returns-in-Ok-clause-new_alone : goal.returns-in-Ok-clause-new_alone
returns-in-Ok-clause-new_alone c = λ other.
    c.in-Ok.ensures.members_alone (λ new. other (c.verdict_number.ensures ∙ ap verdict_number new))

pub returns-in-Ok-clause-places : goal.returns-in-Ok-clause-places
returns-in-Ok-clause-places c =
    placed _ _ _ (ap (λ (t : Taken). t.waiting) c.requires.nothing) c.in-Ok.ensures.count c.in-Ok.ensures.whole c.in-Ok.ensures.places
    c.take.ensures.behind
