use Rattle.std.proofs.Common.{arith, ◌≡◌, ◌∙◌, Err, None, Ok, Option, Result, Some, ap, refl, subst}
use Rattle.std.specs.Prelude.{MatchResult, OnErr, OnOk}
use Rattle.ptpm_host.specs.declared.refusal.RelayRefusal.{RelayRefusal}
use Rattle.ptpm_host.specs.declared.refusal.RelayRefusal.TheVariants as refusals
use Rattle.ptpm_host.specs.Numbers.{relay_number}
use Rattle.ptpm_host.specs.Relay.{IsRelayRefusal, relay_refusal}
use Rattle.ptpm_c.proofs.relay.relay.Goals as goal

on_ok : {A E : Type 0} {P : Type 0} (outcome : Result A E) (a : A) → outcome ≡ Ok a → OnOk outcome P → P
on_ok (Ok x) a is holds = holds
on_ok (Err e) a is holds = absurd cc

on_err : {A E : Type 0} {P : Type 0} (outcome : Result A E) (e : E) → outcome ≡ Err e → OnErr outcome P → P
on_err (Ok x) e is holds = absurd cc
on_err (Err r) e is holds = holds

match_ok : {A : Type 0} {P : Type 0} (Q : RelayRefusal → Type 0) (outcome : Result A RelayRefusal) (a : A)
    → outcome ≡ Ok a
    → MatchResult outcome (λ x. P) Q
    → P
match_ok Q (Ok x) a is holds = holds
match_ok Q (Err e) a is holds = absurd cc

match_err : {A : Type 0} (P : Type 0) (o : Option RelayRefusal) (outcome : Result A RelayRefusal) (e : RelayRefusal)
    → outcome ≡ Err e
    → MatchResult outcome (λ x. P) (IsRelayRefusal o)
    → IsRelayRefusal o e
match_err P o (Ok x) e is holds = absurd cc
match_err P o (Err r) e is holds = let same : r ≡ e = cc in subst (IsRelayRefusal o) same holds

only_memory : (o : Option RelayRefusal) (e : RelayRefusal) → IsRelayRefusal o e → o ≡ None → e ≡ refusals.OutOfMemory
only_memory o e is none = subst (λ (x : Option RelayRefusal). IsRelayRefusal x e) none is

same_refusal : (o : Option RelayRefusal) (e r : RelayRefusal) → IsRelayRefusal o r → o ≡ Some e → r ≡ e
same_refusal o e r is some = subst (λ (x : Option RelayRefusal). IsRelayRefusal x r) some is

pub returns-in-Ok-clause-relayed : goal.returns-in-Ok-clause-relayed
returns-in-Ok-clause-relayed c = λ none. (
  λ other. (
    refl,
    record {
      relayed_is = on_ok c.relay.result _ c.in-Ok.is c.relay.ensures.relayed;
      agent_is = c.relay.ensures.agent;
      under_way_is = c.relay.ensures.under_way;
    },
  ),
  λ memory. absurd (omega arith),
)

pub returns-in-Ok-clause-refused : goal.returns-in-Ok-clause-refused
returns-in-Ok-clause-refused c = λ e is.
    let none : relay_refusal c.args.ids.now ≡ None = match_ok _ c.relay.result _ c.in-Ok.is c.relay.ensures.refusal in
    absurd cc

pub returns-in-Err-clause-relayed : goal.returns-in-Err-clause-relayed
returns-in-Err-clause-relayed c = λ none.
    let only = only_memory _ c.in-Err.refusal (match_err _ _ c.relay.result c.in-Err.refusal c.in-Err.is c.relay.ensures.refusal) none in (
      λ other. absurd (other (c.relay_number.ensures.number ∙ ap relay_number only)),
      λ memory. ap (λ x. Some x) (on_err c.relay.result c.in-Err.refusal c.in-Err.is c.relay.ensures.unchanged),
    )

pub returns-in-Err-clause-refused : goal.returns-in-Err-clause-refused
returns-in-Err-clause-refused c = λ e is.
    let same = same_refusal _ e c.in-Err.refusal (match_err _ _ c.relay.result c.in-Err.refusal c.in-Err.is c.relay.ensures.refusal) is in (
      c.relay_number.ensures.number ∙ ap relay_number same,
      ap (λ x. Some x) (on_err c.relay.result c.in-Err.refusal c.in-Err.is c.relay.ensures.unchanged),
    )
