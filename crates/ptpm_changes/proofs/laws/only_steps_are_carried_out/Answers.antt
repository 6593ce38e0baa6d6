-- Nothing is carried out for a session of the change but questions and steps that are noted as begun.
use Rattle.ptpm_network.proofs.Common.{arith, ◌≡◌, ◌⊎◌, inl, inr, ℕ, ◌+◌, ◌-◌, ◌<◌, true, List, [], ◌∷◌, Option, Some, None, refl, sym, subst, Accepted, RequestValue, SessionValue, kept_reply, number_of, Network, manager}
use Rattle.std.specs.List.{Contains}
use Rattle.std.proofs.lemmas.List.Elements.{Contains-append_right}
use Rattle.ptpm_manager.specs.declared.receiving.Received.{Received}
use Rattle.ptpm_manager.specs.Receiving.{left_by, received_of}
use Rattle.ptpm_asker.specs.Desk.{AreAllowed, Begins, Continues, Crashes, Desk, Hears, IsAllowed, IsBegun, IsFree, IsFreeOf, IsKnownNew, IsLetGo, IsTold, LetsGo, Move, Note, Notes, Resumes, Retunes, Returns, Saves, SaysBegun, Sends, Starts, TakesBack, latest_number, moved, moved_by, next_number, reopened}
use Rattle.ptpm_asker.specs.Question.{is_question}
use Rattle.ptpm_apply.specs.Steps.{IsNoted}
use Rattle.ptpm_apply.specs.Watching.{Sent, Watch, nothing_seen, watched, watched_by}
use Rattle.ptpm_restarts.specs.ActsAsIfNever.{ActsAsIfNever}
use Rattle.ptpm_restarts.specs.Asked.{BeginsAt, Sometime}
use Rattle.ptpm_restarts.specs.DeskIncidents.{AreStepsOf, DeskStep, Mirrors, desk_incidents, desk_moves, incidents_at, moves_at}
use Rattle.ptpm_restarts.specs.Incidents.{Incident, after_incidents}
use Rattle.ptpm_restarts.specs.Restarting.{RestartingNetwork, initial_restarting}
use Rattle.ptpm_restarts.proofs.ActRuns.{served-among-acts}
use Rattle.ptpm_restarts.proofs.Asking.{sometime-cases}
use Rattle.ptpm_restarts.proofs.DeskMoves.{allowed-parts, begins-of, moved-append, one-done}
use Rattle.ptpm_changes.specs.Lane.{AreNotedSo, IsLane, IsNotedSo, Lane, first_of, notes_of}
use Rattle.ptpm_changes.proofs.Carried.{not-first}
use Rattle.ptpm_changes.proofs.Told.{noted-parts}
use Rattle.ptpm_manager.specs.declared.receiving.Received.TheVariants as received
use Rattle.ptpm_changes.proofs.laws.only_steps_are_carried_out.Goals as goal

abbrev message : ℕ → RequestValue → Sent
message number q = record { number = number; request = q }

-- what a session has under way is noted
abbrev HasNoted : (ℕ → RequestValue) → List Note → SessionValue → Type 0
HasNoted steps notes s = (q : RequestValue) → s.unanswered ≡ Some q → IsNoted steps notes (message (latest_number s) q)

record AreNoted (steps : ℕ → RequestValue) (d : Desk) : Type 0 where
  pub live : HasNoted steps d.notes d.live
  pub file : (f : SessionValue) → d.file ≡ Some f → HasNoted steps d.notes f

-- ---- notes

later-note : (note : Note) (steps : ℕ → RequestValue) (notes : List Note) (m : Sent) → IsNoted steps notes m → IsNoted steps (note ∷ notes) m
later-note note steps notes m (inl asks) = inl asks
later-note note steps notes m (inr it) =
    inr (record { tag = it.tag; is_step = it.is_step; noted = Contains-append_right (note ∷ []) notes (IsBegun it.tag m.number) it.noted })

stays-noted : (m : Move) (d : Desk) (steps : ℕ → RequestValue) (x : Sent) → IsNoted steps d.notes x → IsNoted steps (moved d m).notes x
stays-noted (Notes note) d steps x h = later-note note steps d.notes x h
stays-noted (Begins tag request) d steps x h = h
stays-noted Saves d steps x h = h
stays-noted Sends d steps x h = h
stays-noted (Hears datagram) d steps x h = h
stays-noted (Resumes attempts) d steps x h = h
stays-noted (Retunes domain) d steps x h = h
stays-noted LetsGo d steps x h = h
stays-noted Returns d steps x h = h
stays-noted (Starts setup domain) d steps x h = h
stays-noted (Continues setup) d steps x h = h
stays-noted (TakesBack setup) d steps x h = h
stays-noted Crashes d steps x h = h

stay-noted : (ms : List Move) (d : Desk) (steps : ℕ → RequestValue) (x : Sent) → IsNoted steps d.notes x → IsNoted steps (moved_by d ms).notes x
stay-noted [] d steps x h = h
stay-noted (m ∷ ms) d steps x h = stay-noted ms (moved d m) steps x (stays-noted m d steps x h)

-- ---- moves

none-some : {A P : Type 0} (a : A) → None ≡ Some a → P
none-some a e = absurd (cc)

same-some : {A : Type 0} (a b : A) → Some a ≡ Some b → a ≡ b
same-some a b e = cc

said-begun : (notes : List Note) (tag number : ℕ) → SaysBegun notes tag number → Contains notes (IsBegun tag number)
said-begun [] tag number h = absurd h
said-begun (IsBegun t n ∷ further) tag number h =
    let there : Contains (IsBegun t n ∷ further) (IsBegun t n) = (0, omega arith, refl) in
    subst (λ (k : ℕ). Contains (IsBegun t n ∷ further) (IsBegun tag k)) h.1
    (subst (λ (k : ℕ). Contains (IsBegun t n ∷ further) (IsBegun k n)) h.0 there)
said-begun (IsTold t n outcome ∷ further) tag number h = absurd h
said-begun (IsLetGo n ∷ further) tag number h = absurd h

begins-noted : (d : Desk) (tag : ℕ) (request : RequestValue) (steps : ℕ → RequestValue)
    → (is_question request ≡ true) ⊎ IsKnownNew d tag → (is_question request ≡ true) ⊎ (request ≡ steps tag)
    → IsNoted steps d.notes (message (next_number d.live) request)
begins-noted d tag request steps (inl asks) asked = inl asks
begins-noted d tag request steps (inr known) (inl asks) = inl asks
begins-noted d tag request steps (inr known) (inr step) =
    inr (record { tag = tag; is_step = step; noted = said-begun d.notes tag (next_number d.live) known.0 })

hears-noted : (y : Received) (s : SessionValue) (notes : List Note) (steps : ℕ → RequestValue) → HasNoted steps notes s → HasNoted steps notes (left_by s y)
hears-noted (received.Answered report) s notes steps h q e = none-some q e
hears-noted (received.Ignored reason) s notes steps h q e = h q e

opened-noted : (file : Option SessionValue) (s : SessionValue) (notes : List Note) (steps : ℕ → RequestValue)
    → ((f : SessionValue) → file ≡ Some f → HasNoted steps notes f)
    → HasNoted steps notes (reopened file s)
opened-noted None s notes steps h q e = none-some q e
opened-noted (Some f) s notes steps h q e = h f refl q e

live-noted : (m : Move) (d : Desk) (w : Watch) (steps : ℕ → RequestValue) → AreNoted steps d → IsAllowed d m → IsNotedSo steps d w m
    → HasNoted steps (moved d m).notes (moved d m).live
live-noted (Begins tag request) d w steps h may so =
    λ q e. subst (λ (p : RequestValue). IsNoted steps d.notes (message (next_number d.live) p)) (same-some request q e) (begins-noted d tag request steps may.2 so)
live-noted Saves d w steps h may so = h.live
live-noted Sends d w steps h may so = h.live
live-noted (Hears datagram) d w steps h may so = hears-noted (received_of d.live datagram) d.live d.notes steps h.live
live-noted (Notes note) d w steps h may so = λ q e. later-note note steps d.notes (message (latest_number d.live) q) (h.live q e)
live-noted (Resumes attempts) d w steps h may so = h.live
live-noted (Retunes domain) d w steps h may so = h.live
live-noted LetsGo d w steps h may so = λ q e. none-some q e
live-noted Returns d w steps h may so = h.live
live-noted (Starts setup domain) d w steps h may so = λ q e. none-some q e
live-noted (Continues setup) d w steps h may so = λ q e. none-some q e
live-noted (TakesBack setup) d w steps h may so = λ q e. none-some q e
live-noted Crashes d w steps h may so = opened-noted d.file d.live d.notes steps h.file

file-noted : (m : Move) (d : Desk) (steps : ℕ → RequestValue) → AreNoted steps d → (f : SessionValue) → (moved d m).file ≡ Some f → HasNoted steps (moved d m).notes f
file-noted Saves d steps h f e = subst (HasNoted steps d.notes) (same-some d.live f e) h.live
file-noted (Notes note) d steps h f e = λ q is. later-note note steps d.notes (message (latest_number f) q) (h.file f e q is)
file-noted (Begins tag request) d steps h f e = h.file f e
file-noted Sends d steps h f e = h.file f e
file-noted (Hears datagram) d steps h f e = h.file f e
file-noted (Resumes attempts) d steps h f e = h.file f e
file-noted (Retunes domain) d steps h f e = h.file f e
file-noted LetsGo d steps h f e = h.file f e
file-noted Returns d steps h f e = h.file f e
file-noted (Starts setup domain) d steps h f e = h.file f e
file-noted (Continues setup) d steps h f e = h.file f e
file-noted (TakesBack setup) d steps h f e = h.file f e
file-noted Crashes d steps h f e = h.file f e

noted-after : (ms : List Move) (d : Desk) (w : Watch) (steps : ℕ → RequestValue) → AreNoted steps d → AreAllowed d ms → AreNotedSo steps d w ms → AreNoted steps (moved_by d ms)
noted-after [] d w steps h may so = h
noted-after (m ∷ ms) d w steps h may so =
    noted-after ms (moved d m) (watched d w m) steps (record { live = live-noted m d w steps h may.0 so.0; file = file-noted m d steps h }) may.1 so.1

-- ---- along all that happens

module _ (N : Network) (s : ℕ) (place : s < N.sessions) (steps : ℕ → RequestValue) where
  abbrev NotedAs : Desk → RequestValue → ℕ → Type 0
  NotedAs d q index = IsNoted steps d.notes (message (number_of (N.session s).setup.first index) q)

  begun-noted : (xs : List DeskStep) (d : Desk) (k : RestartingNetwork) (w : Watch) → Mirrors N s d k → AreNoted steps d
      → AreAllowed d (desk_moves xs) → AreStepsOf N s d k xs → AreNotedSo steps d w (desk_moves xs)
      → (q : RequestValue) (index : ℕ) → Sometime N (BeginsAt N s q index) k (desk_incidents N s d k xs)
      → NotedAs (moved_by d (desk_moves xs)) q index
  begun-noted [] d k w h noted may steps_of so q index z = absurd z
  begun-noted (x ∷ xs) d k w h noted may steps_of so q index z =
      let now = allowed-parts d (moves_at x) (desk_moves xs) may in
      let parts = noted-parts steps d w (moves_at x) (desk_moves xs) so in
      let next : Desk = moved_by d (moves_at x) in
      let after : RestartingNetwork = after_incidents N k (incidents_at s d k x) in
      let step = one-done N s place d k h x now.0 steps_of.0 in
      subst (λ (e : Desk). NotedAs e q index) (sym (moved-append d (moves_at x) (desk_moves xs)))
      (elim (sometime-cases N (BeginsAt N s q index) k (incidents_at s d k x) (desk_incidents N s next after xs) z) [
        | inl here ↦
            let begun = begins-of N s place d k h x q index steps_of.0 here in
            stay-noted (desk_moves xs) next steps (message (number_of (N.session s).setup.first index) q)
            (stay-noted (moves_at x) d steps (message (number_of (N.session s).setup.first index) q)
            (subst (λ (n : ℕ). IsNoted steps d.notes (message n q)) (sym begun.1) (noted.live q begun.0)))
        | inr later ↦ begun-noted xs next after (watched_by d w (moves_at x)) step.mirrors (noted-after (moves_at x) d w steps noted now.0 parts.0) now.1 steps_of.1 parts.1 q index later
      ])

-- ---- from the start

first-free : (file : Option SessionValue) (f : SessionValue) (q : RequestValue) → IsFree file → file ≡ Some f → f.unanswered ≡ Some q → is_question q ≡ true
first-free file f q free is e = subst IsFreeOf e (subst IsFree is free)

first-noted : (steps : ℕ → RequestValue) (l : Lane) → IsFree l.file → AreNoted steps (first_of l)
first-noted steps l free =
    let file : (f : SessionValue) → l.file ≡ Some f → HasNoted steps [] f = λ f is q e. inl (first-free l.file f q free is e) in
    record { live = opened-noted l.file l.value [] steps file; file = file }

only-noted : (N : Network) (s : ℕ) (steps : ℕ → RequestValue) (is : List Incident) (l : Lane) (k : RestartingNetwork) (a : ActsAsIfNever N is k)
    (index : ℕ) (entry : Accepted)
    → IsLane N s steps is l → kept_reply (manager N s) index (a.account s).accepted ≡ Some entry
    → IsNoted steps (notes_of l) (record { number = number_of (N.session s).setup.first index; request = entry.request })
only-noted N s steps is l k a index entry h kept =
    let served = served-among-acts N is k s a h.exists in
    let positive = not-first (manager N s) index (a.account s).accepted entry served.rising kept in
    let here = a.begun s (index - 1) entry.request h.exists (served.accepted index entry positive kept) in
    let same : index - 1 + 1 ≡ index = omega arith in
    begun-noted N s h.exists steps l.happened (first_of l) (initial_restarting N) nothing_seen h.mirrors (first-noted steps l h.free) h.allowed h.happens h.noted entry.request index
    (subst (λ (js : List Incident). Sometime N (BeginsAt N s entry.request index) (initial_restarting N) js) (sym h.incidents)
    (subst (λ (i : ℕ). Sometime N (BeginsAt N s entry.request i) (initial_restarting N) is) same here))

pub returns : goal.returns
returns c = only-noted
