use Rattle.std.proofs.Common.{◌≡◌, ◌∙◌, ◌≤◌, ap, length, rules, subst, sym}
use Rattle.ptpm_data.specs.Members.{DataSetsValue}
use Rattle.ptpm_saved.specs.Image.{answers_kept}
use Rattle.ptpm_host.specs.declared.clock.HostedClock.{HostedClock}
use Rattle.ptpm_host.proofs.clock.HostedClock.restored_alone.Goals as goal

pub put_back_judged-requires-clause-judged : goal.put_back_judged-requires-clause-judged
put_back_judged-requires-clause-judged c =
    let r = c.in_ok-clock.ensures.made in
    let here : c.deref_mut.result.now ≡ c.in_ok-clock.clock.value = first_of (search rules, cc) in
    (r.0, r.1.image_of, ap (λ (d : DataSetsValue). length d.ports) (sym r.2.sets_are ∙ ap (λ (d : HostedClock). d.agent.sets) (sym here)))

pub put_back_judged-requires-clause-room : goal.put_back_judged-requires-clause-room
put_back_judged-requires-clause-room c =
    let r = c.in_ok-clock.ensures.made in
    let here : c.deref_mut.result.now ≡ c.in_ok-clock.clock.value = first_of (search rules, cc) in
    subst (λ (d : HostedClock). answers_kept d.agent.sets ≤ d.agent.table.answers) (sym here)
    (subst (λ (d : DataSetsValue). answers_kept d ≤ c.in_ok-clock.clock.value.agent.table.answers) (sym r.2.sets_are) r.2.room)

pub returns-in-Ok-clause-found : goal.returns-in-Ok-clause-found
returns-in-Ok-clause-found c = search rules
