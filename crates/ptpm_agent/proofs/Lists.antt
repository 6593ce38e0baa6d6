-- What a clock does with a list of datagrams, one after another.
use Rattle.std.proofs.Common.{◌≡◌, ℕ, List, [], ◌∷◌, ◌++◌, refl, ap}
use Rattle.ptpm_agent.specs.declared.verdict.Verdict.{Verdict}
use Rattle.ptpm_agent.specs.Agent.{IsTurned}
use Rattle.ptpm_agent.specs.Laws.{after_each, datagrams_of, last_sent, turns}
use Rattle.ptpm_agent.specs.Once.{Delivery}
use Rattle.ptpm_agent.specs.Turn.{Clock, State, Turned, outbox_of, turn}

-- a call that did what a turn says leaves the state that the turn leaves
pub state_after : (t : Turned) (verdict : Verdict) (out : List (ℕ × List ℕ)) (next : State)
    → IsTurned t verdict out next → next ≡ t.next
state_after t verdict out next is = λ i. record { sets = is.sets_are i; entries = is.entries_are i }

-- it reads no index
pub after_each-datagrams : (c : Clock) (s : State) (xs : List Delivery)
    → after_each c s (datagrams_of xs) ≡ turns c s xs
after_each-datagrams c s [] = refl
after_each-datagrams c s (x ∷ xs) = after_each-datagrams c (turn c s x.ingress x.datagram).next xs

pub after_each-append : (c : Clock) (s : State) (xs : List (ℕ × List ℕ)) (x : ℕ × List ℕ)
    → after_each c s (xs ++ x ∷ []) ≡ (turn c (after_each c s xs) x.0 x.1).next
after_each-append c s [] x = refl
after_each-append c s (y ∷ ys) x = after_each-append c (turn c s y.0 y.1).next ys x

pub last_sent-append : (c : Clock) (s : State) (before : List (ℕ × List ℕ)) (xs : List (ℕ × List ℕ))
    (x : ℕ × List ℕ)
    → last_sent c s before (xs ++ x ∷ []) ≡ outbox_of (turn c (after_each c s xs) x.0 x.1)
last_sent-append c s before [] x = refl
last_sent-append c s before (y ∷ ys) x =
    last_sent-append c (turn c s y.0 y.1).next (outbox_of (turn c s y.0 y.1)) ys x

pub datagrams_of-append : (xs : List Delivery) (x : Delivery)
    → datagrams_of (xs ++ x ∷ []) ≡ datagrams_of xs ++ (x.ingress, x.datagram) ∷ []
datagrams_of-append [] x = refl
datagrams_of-append (y ∷ ys) x = ap (λ (rest : List (ℕ × List ℕ)). (y.ingress, y.datagram) ∷ rest) (datagrams_of-append ys x)
