-- A copy of the latest request is due the reply that was kept when it was accepted, whatever has happened since.
use Rattle.std.proofs.Common.{arith, ◌≡◌, ℕ, ◌<◌, ◌≤◌, List, [], ◌∷◌, Option, Some, None, true, false, refl, sym, subst, ⊎_elim}
use Rattle.std.proofs.lemmas.Bool.{cases_Bool, cond-true}
use Rattle.ptpm_codec.specs.declared.identity.PortIdentity.{PortIdentity}
use Rattle.ptpm_codec.specs.Identity.{same_identity}
use Rattle.ptpm_data.specs.Replies.{reply_to}
use Rattle.ptpm_codec.proofs.MessageLaws.{same_identity-true}
use Rattle.ptpm_table.proofs.Identities.{same_identity-refl}
use Rattle.ptpm_agent.specs.Turn.{Clock}
use Rattle.ptpm_agent.specs.Once.{Accepted, History, RequestCopy, accepted_from, after_copy, copy_of, due_reply, greatest, joined, joins, kept_reply}
use Rattle.ptpm_agent.specs.Observing.{AreOfOneRequest, Delivered, Happening, Observed, after_arrival, applied_in_place, history_after}
use Rattle.ptpm_agent.proofs.Deliveries as law
use Rattle.ptpm_agent.proofs.laws.at_most_once_observed.Goals as goal

-- request k of a manager was accepted, and what is kept of it is a
record Keeps (m : PortIdentity) (k : ℕ) (a : Accepted) (h : History) : Type 0 where
  pub kept : kept_reply m k h.accepted ≡ Some a
  pub accepted : k ≤ greatest m h.accepted

greatest_more : (m : PortIdentity) (k : ℕ) (a : Accepted) (rest : List Accepted)
    → same_identity m a.manager ≡ true
    → k ≤ greatest m rest
    → k ≤ greatest m (a ∷ rest)
greatest_more m k a rest same below = subst (λ n. k ≤ n) (sym (cond-true _ _ _ same)) (omega (arith, below))

kept_above : (m : PortIdentity) (k : ℕ) (a : Accepted) (rest : List Accepted)
    → k < a.index
    → kept_reply m k (a ∷ rest) ≡ kept_reply m k rest
kept_above m k a rest above = grind arith

keeps-joined : (c : Clock) (m : PortIdentity) (k : ℕ) (a : Accepted) (h : History) (x : RequestCopy)
    → greatest x.heard.source h.accepted < x.index
    → Keeps m k a h
    → Keeps m k a (joined c h x)
keeps-joined c m k a h x above keeps = ⊎_elim
    (λ (same : same_identity m x.heard.source ≡ true).
    let past : greatest m h.accepted < x.index =
    subst (λ (p : PortIdentity). greatest p h.accepted < x.index) (sym (same_identity-true m x.heard.source same)) above in
    record {
      kept = grind arith;
      accepted = grind arith;
    })
    (λ (other : same_identity m x.heard.source ≡ false). grind arith)
    (cases_Bool (same_identity m x.heard.source))

keeps-copy : (c : Clock) (m : PortIdentity) (k : ℕ) (a : Accepted) (h : History) (x : RequestCopy)
    → Keeps m k a h
    → Keeps m k a (after_copy c h x)
keeps-copy c m k a h x keeps = grind (arith, keeps-joined)

keeps-arrival : (c : Clock) (m : PortIdentity) (k : ℕ) (a : Accepted) (h : History)
    (o : Option RequestCopy)
    → Keeps m k a h
    → Keeps m k a (after_arrival c h o)
keeps-arrival c m k a h None keeps = keeps
keeps-arrival c m k a h (Some x) keeps = keeps-copy c m k a h x keeps

keeps-happening : (c : Clock) (ports : ℕ) (m : PortIdentity) (k : ℕ) (a : Accepted) (h : History)
    (x : Happening)
    → Keeps m k a h
    → Keeps m k a (history_after c ports h x)
keeps-happening c ports m k a h (Delivered x) keeps = keeps-arrival c m k a h (copy_of c ports x) keeps
keeps-happening c ports m k a h (Observed o seen) keeps = record { kept = keeps.kept; accepted = keeps.accepted }

-- it is kept through all that happens
keeps-happenings : (c : Clock) (ports : ℕ) (m : PortIdentity) (k : ℕ) (a : Accepted) (h : History)
    (xs : List Happening)
    → Keeps m k a h
    → Keeps m k a (applied_in_place c ports h xs)
keeps-happenings c ports m k a h [] keeps = keeps
keeps-happenings c ports m k a h (x ∷ xs) keeps =
    keeps-happenings c ports m k a (history_after c ports h x) xs (keeps-happening c ports m k a h x keeps)

keeps-first : (c : Clock) (h : History) (k : RequestCopy)
    → joins h k ≡ true
    → Keeps k.heard.source k.index (accepted_from c h k) (after_copy c h k)
keeps-first c h k y = grind (arith, same_identity-refl)

-- the reply that is due to another copy of the latest request
due_reply-latest : (c : Clock) (h : History) (k j : RequestCopy) (a : Accepted)
    → AreOfOneRequest k j
    → a.request ≡ k.request
    → kept_reply k.heard.source k.index h.accepted ≡ Some a
    → greatest k.heard.source h.accepted ≡ k.index
    → due_reply c h j ≡ Some a.reply
due_reply-latest c h k j a one asked kept latest = grind arith

due_reply-kept_since : (c : Clock) (ports : ℕ) (h : History) (k j : RequestCopy)
    (xs : List Happening)
    → joins h k ≡ true
    → AreOfOneRequest k j
    → greatest k.heard.source (applied_in_place c ports (after_copy c h k) xs).accepted ≡ k.index
    → due_reply c (applied_in_place c ports (after_copy c h k) xs) j
    ≡ Some (reply_to k.request (c.rights k.heard.source) h.sets)
due_reply-kept_since c ports h k j xs y one latest =
    due_reply-latest c (applied_in_place c ports (after_copy c h k) xs) k j (accepted_from c h k) one refl
    (keeps-happenings c ports k.heard.source k.index (accepted_from c h k) (after_copy c h k) xs (keeps-first c h k y)).kept latest

pub returns-clause-sets : goal.returns-clause-sets
returns-clause-sets c = law.sets_in_place

pub returns-clause-outbox : goal.returns-clause-outbox
returns-clause-outbox c = law.outbox_in_place

pub returns-clause-repeats : goal.returns-clause-repeats
returns-clause-repeats c = law.repeat_in_place

pub returns-clause-kept : goal.returns-clause-kept
returns-clause-kept c = due_reply-kept_since

pub returns-clause-stands : goal.returns-clause-stands
returns-clause-stands c = λ clock first s h xs at time. law.stands_happenings first clock _ s h xs refl at time

pub returns-clause-turns_alone : goal.returns-clause-turns_alone
returns-clause-turns_alone c = law.turns-alone

pub returns-clause-applied_alone : goal.returns-clause-applied_alone
returns-clause-applied_alone c = law.applied_once-alone

pub returns-clause-time_alone : goal.returns-clause-time_alone
returns-clause-time_alone c = law.time-alone
