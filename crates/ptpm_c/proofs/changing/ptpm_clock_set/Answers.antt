use Rattle.std.proofs.Common.{rules, ◌≡◌, ℕ, Err, None, Ok, Option, Result, Some, subst}
use Rattle.std.specs.Prelude.{IfOk, MatchResult, OnOk}
use Rattle.ptpm_data.specs.Changed.{no_members}
use Rattle.ptpm_data.specs.declared.changed.ChangedMembers.{ChangedMembers}
use Rattle.ptpm_host.specs.declared.clock.HostedClock.{HostedClock}
use Rattle.ptpm_host.specs.declared.refusal.ChangeRefusal.{ChangeRefusal}
use Rattle.ptpm_host.specs.declared.saving_clock.SavingClock.{SavingClock}
use Rattle.ptpm_host.specs.Changing.{request_here}
use Rattle.ptpm_host.specs.Numbers.{change_number}
use Rattle.ptpm_c.specs.Changing.{ChangesHere, ChangesUnsaved, error_in}
use Rattle.ptpm_c.proofs.changing.ptpm_clock_set.Goals as goal

-- what is told of a change that nothing refuses
told : {P : Type 0} (outcome : Result ChangedMembers ChangeRefusal) (refusal : Option ChangeRefusal) (between members : ChangedMembers)
    (number error : ℕ)
    → MatchResult outcome
    (λ changed. (number ≡ 0) × ((error ≡ 0) × (members ≡ changed)))
    (λ e. (number ≡ change_number e) × ((error ≡ error_in e) × (members ≡ no_members)))
    → OnOk outcome P
    → IfOk outcome (λ changed. changed ≡ between)
    → MatchResult outcome (λ _. refusal ≡ None) (λ e. refusal ≡ Some e)
    → refusal ≡ None
    → (number ≡ 0) × ((error ≡ 0) × (P × (members ≡ between)))
told (Ok changed) refusal between members number error tells holds are refuses none =
    let same : members ≡ between = cc in (tells.0, (tells.1.0, (holds, same)))
told (Err e) refusal between members number error tells holds are refuses none = absurd cc

all_ok : {A E : Type 0} (P Q R : Type 0) (outcome : Result A E) → OnOk outcome P → OnOk outcome Q → OnOk outcome R → OnOk outcome (P × (Q × R))
all_ok P Q R (Ok a) p q r = (p, (q, r))
all_ok P Q R (Err e) p q r = p

pub returns-in-Clock-clause-changed : goal.returns-in-Clock-clause-changed
returns-in-Clock-clause-changed c = λ d is.
    let lent : c.deref_mut.result.now ≡ d = search rules in
    let q = request_here c.args.action c.args.id c.args.port c.args.octets.now in
    subst (λ (x : HostedClock). ChangesHere x q c.tell.result c.tell.new.error c.tell.new.members (Some c.change_here.new.self)) lent
    (told c.change_here.result _ _ _ _ _ c.tell.ensures c.change_here.ensures.changed c.change_here.ensures.members c.change_here.ensures.refusal)

pub returns-in-SavingClock-clause-saving : goal.returns-in-SavingClock-clause-saving
returns-in-SavingClock-clause-saving c = λ w is.
    let lent : c.deref_mut-in-SavingClock.result.now ≡ w = search rules in
    let q = request_here c.args.action c.args.id c.args.port c.args.octets.now in
    let tell = c.tell-in-SavingClock in
    let here = c.change_here-in-SavingClock in
    subst (λ (x : SavingClock). ChangesUnsaved x q tell.result tell.new.error tell.new.members (Some here.new.self)) lent
    (told here.result _ _ _ _ _ tell.ensures (all_ok _ _ _ here.result here.ensures.called here.ensures.changed here.ensures.waits)
    here.ensures.members here.ensures.refusal)
