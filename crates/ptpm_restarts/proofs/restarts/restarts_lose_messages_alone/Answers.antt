-- What follows if a network is as one that never crashed: the headline, and that a report that is made again is the same.
use Rattle.ptpm_network.proofs.Common.{◌≡◌, ℕ, ◌<◌, List, [], ◌∷◌, sym, ◌∙◌, ap, subst, Contains, Accepted, Report, answer_body, outcome_in, Headline, IsWorth, entries_of, Network, manager, NetworkState, accepted_at_target, initial_state, run}
use Rattle.ptpm_network.proofs.Promise.{stands-headline}
use Rattle.ptpm_restarts.specs.AsIfNever.{IsAsIfNever, never_crashed}
use Rattle.ptpm_restarts.specs.Incidents.{Incident}
use Rattle.ptpm_restarts.specs.Restarting.{RestartingNetwork, running}
use Rattle.ptpm_restarts.proofs.Sent.{all_contains}
use Rattle.ptpm_restarts.proofs.Runs.{as_if_never}
use Rattle.ptpm_restarts.proofs.restarts.restarts_lose_messages_alone.Goals as goal

as-promised : (N : Network) (is : List Incident) (k : RestartingNetwork) (a : IsAsIfNever N is k)
    → Headline N (run N (initial_state N) a.events) (record (running k) { frames = (never_crashed N a.events).frames })
as-promised N is k a =
    subst (Headline N (run N (initial_state N) a.events)) (sym a.same) (stands-headline N a.events (never_crashed N a.events) a.stands)

worth-same : (N : Network) (w : NetworkState) (s : ℕ) (x y : Report)
    → IsWorth N w s x → IsWorth N w s y → x.index ≡ y.index
    → x ≡ y
worth-same N w s x y a b same =
    let entries : a.entry ∷ [] ≡ b.entry ∷ [] = sym a.once ∙ ap (λ k. entries_of (manager N s) k (accepted_at_target N w s)) same ∙ b.once in
    let entry : a.entry ≡ b.entry = cc in
    let answers : a.answer ∷ [] ≡ b.answer ∷ [] = sym a.one ∙ ap (λ (e : Accepted). e.reply.answers) entry ∙ b.one in
    let answer : a.answer ≡ b.answer = cc in
    let outcome : x.outcome ≡ y.outcome = a.outcome ∙ (λ i. outcome_in (answer_body (entry i).reply.action (entry i).reply.id (answer i).outcome)) ∙ sym b.outcome in
    (λ i. record { index = same i; outcome = outcome i })

told-same : (N : Network) (is : List Incident) (k : RestartingNetwork) (s : ℕ) (x y : Report)
    → IsAsIfNever N is k → s < N.sessions → Contains (k.told s) x → Contains (k.told s) y → x.index ≡ y.index
    → x ≡ y
told-same N is k s x y a place has had same =
    let w : NetworkState = run N (initial_state N) a.events in
    worth-same N w s x y (all_contains (IsWorth N w s) (k.told s) x (a.worth s place) has) (all_contains (IsWorth N w s) (k.told s) y (a.worth s place) had) same

pub returns-clause-as_if_never : goal.returns-clause-as_if_never
returns-clause-as_if_never c = as_if_never

pub returns-clause-headline : goal.returns-clause-headline
returns-clause-headline c = as-promised

pub returns-clause-told_again : goal.returns-clause-told_again
returns-clause-told_again c = told-same
