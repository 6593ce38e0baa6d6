-- What was not saved when a crash came has not happened, and nobody has seen it.
use Rattle.ptpm_network.proofs.Common.{nat_lt, Bool, true, false, if◌then◌else◌, Option, None, arith, ◌≡◌, ℕ, List, [], ◌∷◌, ◌++◌, map, Some, sym, ◌∙◌, ap, eqb-true, eq-eqb, State, Verdict, turn, Ask, begun, Begin, Deliver, frame_at, with_place, AtPort, Network, Held, held, seen, turn_frames}
use Rattle.ptpm_manager.specs.declared.error.GiveUpRefusal.{GiveUpRefusal}
use Rattle.ptpm_manager.specs.Ask.{request_of}
use Rattle.ptpm_manager.specs.Session.{give_up_refusal, given_up}
use Rattle.ptpm_restarts.specs.Incidents.{CrashClock, CrashSession, GivesUp, Happens, after_incidents, comes_in, crashes_clock, delivered, happens, incident, lets_go, refused}
use Rattle.ptpm_restarts.specs.Restarting.{RestartingNetwork, after_verdict, log_with, turned, waiting_elsewhere}
use Rattle.ptpm_restarts.specs.Storage.{Stored, changed, restored, saved_as}
use Rattle.ptpm_restarts.proofs.AtOnce.{elsewhere-own}
use Rattle.ptpm_restarts.proofs.Shapes.{unless-each}
use Rattle.ptpm_agent.specs.declared.verdict.Verdict.TheVariants as verdicts
use Rattle.ptpm_restarts.proofs.going_on.undone_before_the_save.Goals as goal

-- a place that changed, or did not, and was restored is as it was saved
back : {A : Type 0} (f : ℕ → Stored A) (i : ℕ) (a : A) (j : ℕ)
    → f i ≡ saved_as (f i).live
    → with_place (with_place f i (changed (f i) a)) i (restored (with_place f i (changed (f i) a) i)) j ≡ f j
back f i a j e = grind (arith, eqb-true, eq-eqb)

stays : {A : Type 0} (f : ℕ → Stored A) (i j : ℕ)
    → f i ≡ saved_as (f i).live
    → with_place f i (restored (f i)) j ≡ f j
stays f i j e = grind (arith, eqb-true, eq-eqb)

module _ (k : RestartingNetwork) (c : ℕ) (calm : k.waiting ≡ []) (is : k.clock c ≡ saved_as (k.clock c).live) where
  crash-leaves : crashes_clock k c ≡ k
  crash-leaves = (λ i. record k { clock = λ d. stays k.clock c d is i; waiting = (ap (waiting_elsewhere c) calm ∙ sym calm) i })

  crash-undoes : (next : State) (made : List Held) → crashes_clock (turned k c (changed (k.clock c) next) made) c ≡ k
  crash-undoes next made =
      let none : waiting_elsewhere c (k.waiting ++ map (λ m. (c, m)) made) ≡ k.waiting =
      ap (λ (ws : List (ℕ × Held)). waiting_elsewhere c (ws ++ map (λ m. (c, m)) made)) calm ∙ elsewhere-own c made ∙ sym calm in
      (λ i. record k { clock = λ d. back k.clock c next d is i; waiting = none i })

clock-undone : (N : Network) (k : RestartingNetwork) (n c port : ℕ) (h : Held)
    → frame_at k.frames n ≡ Some h → h.end ≡ AtPort c port
    → (turn (N.clock c) (k.clock c).live port h.octets).verdict ≡ verdicts.AnsweredNew
    → k.waiting ≡ [] → k.clock c ≡ saved_as (k.clock c).live
    → after_incidents N k (Happens (Deliver n) ∷ CrashClock c ∷ []) ≡ k
clock-undone N k n c port h at end new calm is =
    let next : State = (turn (N.clock c) (k.clock c).live port h.octets).next in
    let made : List Held = map held (turn_frames N (k.clock c).live c port (seen h)) in
    let turns : happens N k (Deliver n) ≡ turned k c (changed (k.clock c) next) made =
    ap (delivered N k) at ∙ ap (comes_in N k h) end ∙ ap (λ (v : Verdict). turned k c (after_verdict v (k.clock c) next) made) new in
    unless-each (λ (j : RestartingNetwork). crashes_clock j c ≡ k) (refused N k (Deliver n)) k (happens N k (Deliver n)) (crash-leaves k c calm is)
    (λ none. ap (λ (j : RestartingNetwork). crashes_clock j c) turns ∙ crash-undoes k c calm is next made)

session-undone : (N : Network) (k : RestartingNetwork) (s : ℕ) (a : Ask)
    → k.session s ≡ saved_as (k.session s).live
    → after_incidents N k (Happens (Begin s a) ∷ CrashSession s ∷ []) ≡ k
session-undone N k s a is =
    unless-each (λ (j : RestartingNetwork). incident N j (CrashSession s) ≡ k) (refused N k (Begin s a)) k (happens N k (Begin s a))
    (λ i. record k { session = λ t. stays k.session s t is i })
    (λ none i. record k { session = λ t. back k.session s (log_with k s (begun (k.session s).live.session (request_of a))) t is i })

module _ (N : Network) (k : RestartingNetwork) (s : ℕ) (is : k.session s ≡ saved_as (k.session s).live) where
  let-go-undone : (o : Option GiveUpRefusal) → incident N (lets_go o k s) (CrashSession s) ≡ k
  let-go-undone None = (λ i. record k { session = λ t. back k.session s (log_with k s (given_up (k.session s).live.session)) t is i })
  let-go-undone (Some reason) = (λ i. record k { session = λ t. stays k.session s t is i })

  gives-up-undone : (b : Bool)
      → incident N (if b then lets_go (give_up_refusal (k.session s).live.session) k s else k) (CrashSession s) ≡ k
  gives-up-undone true = let-go-undone (give_up_refusal (k.session s).live.session)
  gives-up-undone false = (λ i. record k { session = λ t. stays k.session s t is i })

  pub given-up-undone : after_incidents N k (GivesUp s ∷ CrashSession s ∷ []) ≡ k
  given-up-undone = gives-up-undone (nat_lt s N.sessions)

pub returns-clause-clock : goal.returns-clause-clock
returns-clause-clock c = clock-undone

pub returns-clause-session : goal.returns-clause-session
returns-clause-session c = session-undone

pub returns-clause-given_up : goal.returns-clause-given_up
returns-clause-given_up c = given-up-undone
