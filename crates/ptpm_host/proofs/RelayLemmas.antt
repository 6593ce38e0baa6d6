-- The table of a device's own ids, judged id by id.
use Rattle.std.proofs.Common.{◌≡◌, ℕ, ◌+◌, ◌<◌, ◌≤◌, List, Option, Some, None, Result, Ok, Err, drop, length, get_or, drop-cons, add-one, refl, ap, sym, subst, IsErrAnd, MatchResult, ◌∙◌}
use Rattle.std.proofs.Math.ListN.{drop_of_length-le}
use Rattle.std.specs.Option.{option_or}
use Rattle.ptpm_data.specs.Start.{unless}
use Rattle.ptpm_data.proofs.StartLemmas.{unless_ok}
use Rattle.ptpm_host.specs.declared.refusal.RelayRefusal.{RelayRefusal}
use Rattle.ptpm_host.specs.declared.refusal.RelayRefusal.TheVariants as refusals
use Rattle.ptpm_host.specs.declared.relay.RelayedSettings.{RelayedSettings}
use Rattle.ptpm_host.specs.Relay.{IsRelayRefusal, id_refusal, ids_refusal}

ids_refusal_step : (all ids : List RelayedSettings) (i : ℕ) (x : RelayedSettings) → i < length ids
    → ids_refusal all (drop i ids)
    ≡ option_or (id_refusal (get_or ids i x) all) (ids_refusal all (drop (i + 1) ids))
unfolding ids_refusal
ids_refusal_step all ids i x h = rw (drop-cons ids i x h, add-one i) refl

-- an id that may stand there
pub goes_on : (all ids : List RelayedSettings) (i : ℕ) (x : RelayedSettings)
    → i < length ids
    → ids_refusal all ids ≡ ids_refusal all (drop i ids)
    → id_refusal (get_or ids i x) all ≡ None
    → ids_refusal all ids ≡ ids_refusal all (drop (i + 1) ids)
goes_on all ids i x below here none =
    here ∙ ids_refusal_step all ids i x below ∙ ap (λ o. option_or o (ids_refusal all (drop (i + 1) ids))) none

-- one that may not
pub stops : (all ids : List RelayedSettings) (i : ℕ) (x : RelayedSettings) (e : RelayRefusal)
    → i < length ids
    → ids_refusal all ids ≡ ids_refusal all (drop i ids)
    → id_refusal (get_or ids i x) all ≡ Some e
    → ids_refusal all ids ≡ Some e
stops all ids i x e below here fault =
    here ∙ ids_refusal_step all ids i x below ∙ ap (λ o. option_or o (ids_refusal all (drop (i + 1) ids))) fault

pub no_more : (all ids : List RelayedSettings) (i : ℕ)
    → length ids ≤ i
    → ids_refusal all ids ≡ ids_refusal all (drop i ids)
    → ids_refusal all ids ≡ None
unfolding ids_refusal
no_more all ids i past here = here ∙ ap (ids_refusal all) (drop_of_length-le ids past)

-- ---- what the clock answers

named : {A : Type 0} (o : Option RelayRefusal) (a : A) (e x : RelayRefusal)
    → x ≡ e
    → unless o a ≡ Err e
    → IsRelayRefusal o x
named None a e x is was = absurd cc
named (Some r) a e x is was = cc

pub handed_refusal : {A B : Type 0} (o : Option RelayRefusal) (a : A) (e : RelayRefusal) (r : Result B RelayRefusal)
    → IsErrAnd r (λ x. x ≡ e)
    → unless o a ≡ Err e
    → MatchResult r (λ b. o ≡ None) (λ x. IsRelayRefusal o x)
handed_refusal o a e (Ok b) handed was = absurd handed
handed_refusal o a e (Err x) handed was = named o a e x handed was

pub judged_none : {A : Type 0} (o : Option RelayRefusal) (a b : A) → unless o a ≡ Ok b → o ≡ None
judged_none o a b ok = (unless_ok o a b ok).0

pub lacks_memory : {A : Type 0} (o : Option RelayRefusal) (a b : A)
    → unless o a ≡ Ok b
    → IsRelayRefusal o refusals.OutOfMemory
lacks_memory o a b ok =
    subst (λ (x : Option RelayRefusal). IsRelayRefusal x refusals.OutOfMemory) (sym (judged_none o a b ok)) refl
