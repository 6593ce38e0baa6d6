-- Entries and history after a request is carried out.
use Rattle.std.proofs.Common.{arith, ◌≡◌, ℕ, ◌<◌, List, ◌∷◌, Option, Some, None, true, false, refl, sym, ◌∙◌, ap, subst, ⊎_elim, [], ◌++◌}
use Rattle.std.proofs.lemmas.Bool.{cases_Bool, and_from, and_left, eq-eqb, cond-true, cond-false}
use Rattle.std.specs.FinMap.{get, insert, get-insert}
use Rattle.ptpm_codec.specs.declared.identity.PortIdentity.{PortIdentity}
use Rattle.ptpm_codec.specs.declared.message.Message.{Message}
use Rattle.ptpm_codec.specs.Identity.{same_identity}
use Rattle.ptpm_table.specs.Entries.{Entries, Entry}
use Rattle.ptpm_agent.specs.Addressing.{request_of}
use Rattle.ptpm_agent.specs.Turn.{Clock, State, carried_out, new_reply, NumberedRequest, after_request, entry_of, turn}
use Rattle.ptpm_agent.specs.Once.{Accepted, Delivery, History, RequestCopy, accepted_from, copy_from, greatest, joined, kept_reply}
use Rattle.ptpm_codec.specs.SequenceNumber.{number_of}
use Rattle.ptpm_agent.specs.Window.{IsNumbered}
use Rattle.ptpm_agent.specs.Laws.{IsKept, IsLatest, StandsAt, after_each}
use Rattle.ptpm_codec.proofs.MessageLaws.{same_identity-true}
use Rattle.ptpm_table.proofs.Identities.{identities_total, same_identity-refl, tied_identities}
use Rattle.ptpm_agent.specs.CarriedOut.{AreOfOthers, after_requests, carried_in, carried_in_turns}

-- ---- entries

pub get-insert_same : (entries : Entries) (m : PortIdentity) (e : Entry)
    → get (insert entries m e) m ≡ Some e
get-insert_same entries m e =
    get-insert identities_total entries m e m ∙ cond-true _ _ _ (tied_identities m m ∙ same_identity-refl m)

pub get-insert_other : (entries : Entries) (m : PortIdentity) (e : Entry) (q : PortIdentity)
    → same_identity q m ≡ false
    → get (insert entries m e) q ≡ get entries q
get-insert_other entries m e q other =
    get-insert identities_total entries m e q ∙ cond-false _ _ _ (tied_identities q m ∙ other)

-- ---- what was accepted

abbrev pub accepted_at : PortIdentity → ℕ → Entry → Accepted
accepted_at m k e = record { manager = m; index = k; request = e.request; reply = e.reply }

-- if the greatest index is k, what is said of it is said of k
latest_at : (first : PortIdentity → ℕ) (h : History) (m : PortIdentity) (e : Entry) (k : ℕ)
    → greatest m h.accepted ≡ k
    → 0 < k
    → kept_reply m k h.accepted ≡ Some (accepted_at m k e)
    → e.number ≡ number_of (first m) k
    → IsLatest first h m e
latest_at first h m e k g some kept number = record {
  some = subst (λ i. 0 < i) (sym g) some;
  kept = grind arith;
  number = grind arith;
}

pub greatest_other : (m : PortIdentity) (a : Accepted) (rest : List Accepted)
    → same_identity m a.manager ≡ false
    → greatest m (a ∷ rest) ≡ greatest m rest
greatest_other m a rest other = cond-false _ _ _ other

pub kept_same : (m : PortIdentity) (a : Accepted) (rest : List Accepted)
    → same_identity m a.manager ≡ true
    → kept_reply m a.index (a ∷ rest) ≡ Some a
kept_same m a rest same = cond-true _ _ _ (and_from _ _ same (eq-eqb a.index a.index refl))

pub kept_other : (m : PortIdentity) (k : ℕ) (a : Accepted) (rest : List Accepted)
    → same_identity m a.manager ≡ false
    → kept_reply m k (a ∷ rest) ≡ kept_reply m k rest
kept_other m k a rest other = cond-false _ _ _ (and_left _ _ other)

-- ---- both, after a copy joins

-- what is kept of other managers stays
IsKept-other : (first : PortIdentity → ℕ) (c : Clock) (h : History) (x : RequestCopy)
    (m : PortIdentity) (o : Option Entry)
    → same_identity m x.heard.source ≡ false
    → IsKept first h m o
    → IsKept first (joined c h x) m o
IsKept-other first c h x m None other k = greatest_other m (accepted_from c h x) h.accepted other ∙ k
IsKept-other first c h x m (Some e) other k = grind arith

abbrev pub accepted_entry : Clock → State → Message → Entry
accepted_entry c s v = record { number = v.number; request = request_of v; reply = new_reply c s v }

-- what is kept of its manager once a request is carried out
pub accepted_kept : (c : Clock) (s t : State) (v : Message)
    → t ≡ carried_out c s v
    → get t.entries v.source ≡ Some (accepted_entry c s v)
accepted_kept c s t v e = ap (λ (u : State). get u.entries v.source) e ∙ get-insert_same s.entries v.source (accepted_entry c s v)

-- the entry that is put in is the latest of its manager
IsLatest-joined : (first : PortIdentity → ℕ) (c : Clock) (s : State) (h : History) (x : Delivery)
    (v : Message)
    → StandsAt first s h
    → IsNumbered first (copy_from x v)
    → greatest v.source h.accepted < x.index
    → IsLatest first (joined c h (copy_from x v)) v.source (accepted_entry c s v)
IsLatest-joined first c s h x v stands n above = grind (arith, same_identity-refl)

-- a clock that carries a copy out is at the history that the copy joins
pub StandsAt-joined : (first : PortIdentity → ℕ) (c : Clock) (s : State) (h : History)
    (x : Delivery) (v : Message)
    → StandsAt first s h
    → IsNumbered first (copy_from x v)
    → greatest v.source h.accepted < x.index
    → StandsAt first (carried_out c s v) (joined c h (copy_from x v))
StandsAt-joined first c s h x v stands n above = record {
  sets = grind arith;
  entries = λ m.
      let new : History = joined c h (copy_from x v) in
      let e : Entry = accepted_entry c s v in
      ⊎_elim
      (λ (same : same_identity m v.source ≡ true).
      subst (λ (q : PortIdentity). IsKept first new q (get (insert s.entries v.source e) q)) (sym (same_identity-true m v.source same))
      (subst (IsKept first new v.source) (sym (get-insert_same s.entries v.source e)) (IsLatest-joined first c s h x v stands n above)))
      (λ (other : same_identity m v.source ≡ false). grind (arith, get-insert_other))
      (cases_Bool (same_identity m v.source));
}

-- ---- what a clock has after its turns is what the requests that it carried out leave

-- one turn
pub turn-carried : (c : Clock) (s : State) (ingress : ℕ) (datagram : List ℕ)
    → (turn c s ingress datagram).next ≡ after_requests c s (carried_in c s datagram)
unfolding turn
turn-carried c s ingress datagram = grind arith

-- these requests and then those
pub after_requests-append : (c : Clock) (s : State) (rs qs : List NumberedRequest)
    → after_requests c s (rs ++ qs) ≡ after_requests c (after_requests c s rs) qs
after_requests-append c s [] qs = refl
after_requests-append c s (r ∷ rs) qs = after_requests-append c (after_request c s r) rs qs

-- any number of turns
pub turns-carried : (c : Clock) (s : State) (xs : List (ℕ × List ℕ))
    → after_each c s xs ≡ after_requests c s (carried_in_turns c s xs)
turns-carried c s [] = refl
turns-carried c s (x ∷ xs) =
    turns-carried c (turn c s x.0 x.1).next xs
    ∙ ap (λ (t : State). after_requests c t (carried_in_turns c (turn c s x.0 x.1).next xs)) (turn-carried c s x.0 x.1)
    ∙ sym (after_requests-append c s (carried_in c s x.1) (carried_in_turns c (turn c s x.0 x.1).next xs))

-- ---- what is kept of a manager

pub kept-others : (c : Clock) (s : State) (m : PortIdentity) (rs : List NumberedRequest)
    → AreOfOthers m rs
    → get (after_requests c s rs).entries m ≡ get s.entries m
kept-others c s m [] others = refl
kept-others c s m (r ∷ rs) others =
    kept-others c (after_request c s r) m rs others.1
    ∙ get-insert_other s.entries r.manager (entry_of c s r) m others.0

pub kept-latest : (c : Clock) (s : State) (front rest : List NumberedRequest) (r : NumberedRequest)
    → AreOfOthers r.manager rest
    → get (after_requests c s (front ++ r ∷ rest)).entries r.manager ≡ Some (entry_of c (after_requests c s front) r)
kept-latest c s front rest r others = grind (arith, after_requests-append, kept-others, get-insert_same)
