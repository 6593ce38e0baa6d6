-- A step whose request the session's file has is under way again once the program is opened again, and is answered along a way.
use Rattle.ptpm_network.proofs.Common.{arith, ◌≡◌, ℕ, ◌<◌, true, List, [], ◌∷◌, ◌++◌, Option, Some, None, is_some, refl, sym, ◌∙◌, ap, subst, all_append, AllByRecursion, RequestValue, SessionValue, is_waiting, number_of, resumed, retuned, append-nil, append_assoc, Resume, Retune, Send, Network}
use Rattle.ptpm_manager.specs.Session.{anew}
use Rattle.ptpm_asker.specs.Desk.{Crashes, Desk, Retunes, Sends, latest_number, moved, reopened}
use Rattle.ptpm_restarts.specs.AsIfNever.{AreTimely, IsAsIfNever, IsPossible, IsPromisedRestarting}
use Rattle.ptpm_restarts.specs.DeskIncidents.{CanBeginIt, Mirrors, Moves, begins_first, desk_incidents, unbegun, with_unbegun}
use Rattle.ptpm_restarts.specs.Incidents.{CrashSession, Happens, Incident, SaveSession, after_incidents, incident}
use Rattle.ptpm_restarts.specs.Restarting.{RestartingNetwork, SessionLog, initial_restarting}
use Rattle.ptpm_restarts.specs.Storage.{Stored, restored, saved_as}
use Rattle.ptpm_restarts.proofs.Again.{after-append, answered-again, timely-append}
use Rattle.ptpm_restarts.proofs.Beside.{here}
use Rattle.ptpm_restarts.proofs.DeskMoves.{all-done, ready, ready-request}
use Rattle.ptpm_restarts.proofs.Runs.{as_if_never}
use Rattle.ptpm_changes.specs.Resume.{CanBeAnswered, opened_again}
use Rattle.ptpm_changes.proofs.resuming.resume_can_end.Goals as goal

module _ (N : Network) (s : ℕ) (place : s < N.sessions) (d : Desk) (k : RestartingNetwork) (f : SessionValue) (q : RequestValue) (domain : ℕ)
    (h : Mirrors N s d k) (has : d.file ≡ Some f) (under : f.unanswered ≡ Some q) where
  abbrev crashed : RestartingNetwork
  crashed = incident N k (CrashSession s)

  -- the desk of the program that is opened again, in this domain
  abbrev again : Desk
  again = moved (moved d Crashes) (Retunes domain)

  mirrors-again : Mirrors N s again crashed
  mirrors-again =
      (all-done N s place (Moves Crashes ∷ Moves (Retunes domain) ∷ []) d k h (tt, (tt, tt)) (ap (λ (o : Option SessionValue). is_some o) has, (tt, tt))).mirrors

  live-again : again.live ≡ retuned (anew f) domain
  live-again = ap (λ (o : Option SessionValue). retuned (reopened o d.live) domain) has

  waits-again : is_waiting again.live ≡ true
  waits-again = ap (λ (v : SessionValue). is_waiting v) live-again ∙ ap (λ (o : Option RequestValue). is_some o) under

  stored-again : (crashed.session s).live.session ≡ (k.session s).stored.session
  stored-again = ap (λ (y : Stored SessionLog). y.live.session) (here k.session s (restored (k.session s)))

  abbrev tail : List Incident
  tail = SaveSession s ∷ Happens (Retune s domain) ∷ Happens (Resume s 1) ∷ []

  abbrev begins : Option RequestValue
  begins = unbegun again.live (crashed.session s).live.session

  same-incidents : begins_first s begins ++ tail ≡ begins_first s (unbegun f (k.session s).stored.session) ++ tail
  same-incidents = (λ i. begins_first s (unbegun (live-again i) (stored-again i)) ++ tail)

  abbrev end : RestartingNetwork
  end = after_incidents N crashed (begins_first s begins ++ tail)

  same-end : end ≡ after_incidents N k (opened_again s f k domain)
  same-end = ap (after_incidents N crashed) same-incidents

  at-end : (end.session s) ≡ saved_as (record ((crashed.session s).live) { session = resumed (retuned (with_unbegun (crashed.session s).live.session begins) domain) 1 })
  at-end = ready N s place again crashed mirrors-again waits-again

  possible-begins : (o : Option RequestValue) → CanBeginIt (crashed.session s).live.session o → AllByRecursion IsPossible (begins_first s o ++ tail)
  possible-begins None can = (tt, (tt, (tt, tt)))
  possible-begins (Some p) can = (can.id, (tt, (tt, (tt, tt))))

  pub possible-again : AllByRecursion IsPossible (opened_again s f k domain)
  possible-again = (tt, subst (AllByRecursion IsPossible) same-incidents (possible-begins begins mirrors-again.live.can_begin))

  timely-begins : (o : Option RequestValue) (j : RestartingNetwork) → AreTimely N j (begins_first s o ++ tail)
  timely-begins None j = (tt, ((λ none. refl), ((λ none. refl), tt)))
  timely-begins (Some p) j = ((λ none. refl), (tt, ((λ none. refl), ((λ none. refl), tt))))

  pub timely-again : AreTimely N k (opened_again s f k domain)
  timely-again = (tt, timely-begins (unbegun f (k.session s).stored.session) crashed)

  answered-by : (js : List Incident) → IsAsIfNever N js end → CanBeAnswered N s js end q (latest_number f)
  answered-by js never =
      let value = ready-request N s place again crashed mirrors-again waits-again in
      record {
        under_way = ap (λ (y : Stored SessionLog). y.live.session.unanswered) at-end ∙ value.0 ∙ ap (λ (v : SessionValue). v.unanswered) live-again ∙ under;
        of_number = ap (λ (y : Stored SessionLog). number_of (N.session s).setup.first y.live.session.issued) at-end ∙ value.1 ∙ ap latest_number live-again;
        as_if_never = never;
        answered = λ hops port ends way all room. answered-again N js end s hops port ends never place
            (ap (λ (y : Stored SessionLog). is_waiting y.live.session) at-end ∙ value.2)
            (subst (λ (y : Stored SessionLog). 0 < y.live.session.attempts_left) (sym at-end) (omega arith)) way all room;
      }

  pub answered-along : (js : List Incident) → IsAsIfNever N js (after_incidents N k (opened_again s f k domain))
      → CanBeAnswered N s js (after_incidents N k (opened_again s f k domain)) q (latest_number f)
  answered-along js never =
      subst (λ (j : RestartingNetwork). CanBeAnswered N s js j q (latest_number f)) same-end
      (answered-by js (subst (λ (j : RestartingNetwork). IsAsIfNever N js j) (sym same-end) never))

can-be-answered : (N : Network) (s : ℕ) (is : List Incident) (d : Desk) (f : SessionValue) (q : RequestValue) (domain : ℕ)
    → s < N.sessions → IsPromisedRestarting N is → Mirrors N s d (after_incidents N (initial_restarting N) is) → d.file ≡ Some f → f.unanswered ≡ Some q
    → CanBeAnswered N s (is ++ opened_again s f (after_incidents N (initial_restarting N) is) domain)
    (after_incidents N (after_incidents N (initial_restarting N) is) (opened_again s f (after_incidents N (initial_restarting N) is) domain)) q (latest_number f)
can-be-answered N s is d f q domain place p h has under =
    let k : RestartingNetwork = after_incidents N (initial_restarting N) is in
    let more : List Incident = opened_again s f k domain in
    let never : IsAsIfNever N (is ++ more) (after_incidents N (initial_restarting N) (is ++ more)) =
    as_if_never N (is ++ more) (record {
      network = p.network;
      possible = all_append IsPossible is more p.possible (possible-again N s place d k f q domain h has under);
      timely = timely-append N (initial_restarting N) is more p.timely (timely-again N s place d k f q domain h has under);
    }) in
    answered-along N s place d k f q domain h has under (is ++ more)
    (subst (λ (j : RestartingNetwork). IsAsIfNever N (is ++ more) j) (after-append N (initial_restarting N) is more) never)

-- up to the message these are the incidents of the desk's moves
of-desk : (N : Network) (s : ℕ) (k : RestartingNetwork) (d : Desk) (f : SessionValue) (domain : ℕ) → d.file ≡ Some f
    → desk_incidents N s d k (Moves Crashes ∷ Moves (Retunes domain) ∷ Moves Sends ∷ []) ≡ opened_again s f k domain ++ Happens (Send s) ∷ []
of-desk N s k d f domain has =
    let before : List Incident = SaveSession s ∷ Happens (Retune s domain) ∷ Happens (Resume s 1) ∷ [] in
    let all : List Incident = SaveSession s ∷ Happens (Retune s domain) ∷ Happens (Resume s 1) ∷ Happens (Send s) ∷ [] in
    let stored : ((incident N k (CrashSession s)).session s).live.session ≡ (k.session s).stored.session =
    ap (λ (y : Stored SessionLog). y.live.session) (here k.session s (restored (k.session s))) in
    (λ i. CrashSession s ∷ append-nil (begins_first s (unbegun (retuned (reopened (has i) d.live) domain) (stored i)) ++ all) i)
    ∙ ap (λ (is : List Incident). CrashSession s ∷ is) (sym (append_assoc (begins_first s (unbegun f (k.session s).stored.session)) before (Happens (Send s) ∷ [])))

pub returns : goal.returns
returns c = record { moves = of-desk; answered = can-be-answered }
