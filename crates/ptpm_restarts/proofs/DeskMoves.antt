-- What an asker's desk does, its session does in the network: move by move, and one after another.
use Rattle.ptpm_network.proofs.Common.{arith, lt-ltb, by_test, nat_lt, ◌≡◌, ℕ, ◌+◌, ◌<◌, ◌≤◌, ◌==◌, ◌^◌, ◌||◌, ◌&&◌, not, Bool, true, false, if◌then◌else◌, List, [], ◌∷◌, ◌++◌, map, length-append, Option, Some, None, is_some, option_map, option_or, Result, result_err, refl, sym, ◌∙◌, ap, subst, eqb-true, eq-eqb, true≢false, cond-true, cond-false, or_left, or_right, le-leb, leb-true, false_from_ne_true, nat_le, first_of, all_append, all_weaker, AllByRecursion, inl, inr, Contains, Ask, Report, RequestValue, SessionValue, ask_refusal, begin_refusal, begun, count_limit, due_message, is_waiting, number_of, received_of, resumed, retuned, send_refusal, sent, target_port, is_of_port, IsDataField, every_port, Begin, BeginRefused, Deliver, Refusal, Resume, Retune, Send, SendRefused, no_room, no_session, with_place, AtSession, Network, manager, peers, Held, Happened, network_event, nothing_to_resume, sent_posted}
use Rattle.ptpm_codec.specs.Message.{is_data_field}
use Rattle.std.proofs.lemmas.List.Elements.{Contains-append_left, Contains-push}
use Rattle.ptpm_manager.specs.declared.error.BeginError.TheVariants as begin_errors
use Rattle.ptpm_manager.specs.declared.error.GiveUpRefusal.{GiveUpRefusal}
use Rattle.ptpm_manager.specs.declared.error.GiveUpRefusal.TheVariants as give_ups
use Rattle.ptpm_manager.specs.declared.error.SendError.TheVariants as send_errors
use Rattle.ptpm_manager.specs.declared.receiving.Received.{Received}
use Rattle.ptpm_manager.specs.declared.receiving.Received.TheVariants as received
use Rattle.ptpm_manager.specs.declared.report.Outcome.{Outcome}
use Rattle.ptpm_manager.specs.declared.setup.Setup.{Setup}
use Rattle.ptpm_manager.specs.Ask.{IsRequestTo, ask_of, names_port, request_of}
use Rattle.ptpm_manager.specs.Session.{fresh, give_up_refusal, given_up, reach_limit}
use Rattle.ptpm_network.specs.GivingUp.{IsKeptReport}
use Rattle.ptpm_network.proofs.Worth.{session-named}
use Rattle.ptpm_restarts.specs.ActsAsIfNever.{ActsAsIfNever, IsPossibleAct}
use Rattle.ptpm_restarts.specs.Asked.{BeginsAt, Sometime, TellsAt}
use Rattle.ptpm_restarts.specs.DeskIncidents.{AreStepsOf, CanBegin, CanBeginIt, Comes, DeskStep, Elsewhere, IsUnsent, IsFrameFor, IsHeardReported, IsIgnored, IsKeptReply, IsMirrored, IsMirroredBut, IsNoteReported, IsOfDesk, IsReported, IsSetUpFor, IsStepOf, IsStored, LeavesSaved, Mirrors, Moves, SaveInTime, desk_moves, begins_first, desk_incidents, heard_incidents, incidents_at, moves_at, unbegun, with_unbegun}
use Rattle.ptpm_restarts.specs.Incidents.{CrashSession, GivesUp, Happens, Incident, SaveSession, after_incidents, comes_in, delivered, incident, lets_go, refused}
use Rattle.ptpm_restarts.specs.Restarting as restarting
use Rattle.ptpm_restarts.specs.Restarting.{RestartingNetwork, SessionLog, hears, held_frames, initial_restarting, log_told, running, sends, with_log}
use Rattle.ptpm_restarts.specs.Storage.{Stored, changed, noted, restored, saved, saved_as}
use Rattle.ptpm_restarts.proofs.Again.{after-append}
use Rattle.ptpm_restarts.proofs.AtOnce.{no-more, not-refused, unless-none}
use Rattle.ptpm_restarts.proofs.Beside.{here}
use Rattle.ptpm_restarts.proofs.Sent.{all_contains}
use Rattle.ptpm_restarts.proofs.Steps.{fewer}
use Rattle.ptpm_restarts.proofs.Worth.{delivers-to}
use Rattle.ptpm_restarts.proofs.DeskSessions.{answered-like, begins-like, due-like, fresh-like, given_up-like, latest-like, next-mirrored, next-taken, none-unbegun, received-like, rests-like, rests-too, sent-like, setup-of, stored-like, tuned, tuned-there, waits-for, waits-too}
use Rattle.ptpm_asker.proofs.Allowed.{is_allowed}
use Rattle.ptpm_asker.specs.Allowed.{Input, Opening, all_moves, begins_driven, desk_of}
use Rattle.ptpm_asker.specs.Desk.{AreAllowed, Begins, Continues, Crashes, Desk, HasIt, Heard, Hears, IsBegun, IsHeard, IsLetGo, IsTold, LetsGo, Move, Note, Notes, Resumes, Retunes, Returns, Run, Saves, Sends, Starts, TakesBack, heard_after, known_after, latest_number, moved, moved_by, new_run, reopened}
use Rattle.ptpm_manager.specs.Receiving.{left_by}

-- ---- one session of a network

put-again : {A : Type 0} (f : ℕ → A) (i : ℕ) (a b : A) (j : ℕ) → with_place (with_place f i a) i b j ≡ with_place f i b j
put-again f i a b j = grind (arith, eqb-true, eq-eqb)

put-own : {A : Type 0} (f : ℕ → A) (i j : ℕ) → with_place f i (f i) j ≡ f j
put-own f i j = grind (arith, eqb-true)

-- ---- the session in the network, once what is unbegun is begun

abbrev unsaved_with : Bool → Option RequestValue → Bool
unsaved_with b None = b
unsaved_with b (Some q) = true

abbrev with_begun : Stored SessionLog → Option RequestValue → Stored SessionLog
with_begun x o = record {
  live = record (x.live) { session = with_unbegun x.live.session o };
  stored = x.stored;
  is_unsaved = unsaved_with x.is_unsaved o;
}

abbrev session_with : Stored SessionLog → SessionValue → SessionLog
session_with x v = record (x.live) { session = v }

abbrev tuned_to : ℕ → Stored SessionLog → Stored SessionLog
tuned_to domain x = noted x (session_with x (retuned x.live.session domain))

abbrev tried : Stored SessionLog → Stored SessionLog
tried x = noted x (session_with x (resumed x.live.session 1))

-- what is asked makes this request again
asked-again : (ports : ℕ) (q : RequestValue) → IsRequestTo ports q → request_of (ask_of q.action q.id (Some q.port) q.octets) ≡ q
unfolding target_port
asked-again ports q r = (λ i. record q { port = port (is_of_port q.id) refl i })
  where
    port : (b : Bool) → is_of_port q.id ≡ b → (if b then q.port else every_port) ≡ q.port
    port true e = refl
    port false e = sym (r.every e)

named : (ports port : ℕ) → (1 ≤ port) × (port ≤ ports) → names_port ports (Some port) ≡ true
named ports port h = grind (arith, le-leb)

a-field : (octets : List ℕ) → IsDataField octets → is_data_field octets ≡ true
a-field octets h = grind (arith, eq-eqb, le-leb)

needs-none : (ports : ℕ) (q : RequestValue) → IsRequestTo ports q → (b : Bool) → is_of_port q.id ≡ b → b && not (names_port ports (Some q.port)) ≡ false
needs-none ports q r true e = ap not (named ports q.port (r.port e))
needs-none ports q r false e = refl

may-ask : (ports : ℕ) (q : RequestValue) → IsRequestTo ports q → ask_refusal ports (ask_of q.action q.id (Some q.port) q.octets) ≡ None
unfolding ask_refusal
may-ask ports q r = (λ i. first_of ((needs-none ports q r (is_of_port q.id) refl i, begin_errors.NeedsPort) ∷ (r.action i, begin_errors.NotPermitted) ∷ (not (a-field q.octets r.octets i), begin_errors.BadValue) ∷ []))

may-begin : (v : SessionValue) (q : RequestValue) → CanBegin v q → begin_refusal v (ask_of q.action q.id (Some q.port) q.octets) ≡ None
unfolding begin_refusal
may-begin v q can = (λ i. option_or (first_of ((can.idle i, begin_errors.Busy) ∷ []))
    (option_or (may-ask v.setup.ports q can.request i) (first_of ((not (lt-ltb v.issued count_limit can.count i), begin_errors.CountAtMaximum) ∷ []))))

may-send : (v : SessionValue) → is_waiting v ≡ true → v.attempts_left ≡ 1 → send_refusal v ≡ None
unfolding send_refusal
may-send v waits left = (λ i. first_of ((not (waits i), send_errors.Idle) ∷ (left i == 0, send_errors.GaveUp) ∷ []))

in-reach : (v : SessionValue) → is_waiting v ≡ true → v.issued < v.reported + reach_limit → give_up_refusal v ≡ None
unfolding give_up_refusal
in-reach v waits near = (λ i. first_of ((not (waits i), give_ups.Idle) ∷ (far i, give_ups.OutOfReach) ∷ []))
  where
    far : nat_le (v.reported + reach_limit) v.issued ≡ false
    far = grind (arith, leb-true, false_from_ne_true)

no-request : (v : SessionValue) → is_waiting v ≡ false → give_up_refusal v ≡ Some give_ups.Idle
unfolding give_up_refusal
no-request v rests = (λ i. first_of ((not (rests i), give_ups.Idle) ∷ (nat_le (v.reported + reach_limit) v.issued, give_ups.OutOfReach) ∷ []))

-- ---- one incident of it

module _ (N : Network) (s : ℕ) (place : s < N.sessions) (k : RestartingNetwork) where
  abbrev at : Stored SessionLog → RestartingNetwork
  at x = with_log k s x

  at-again : (x y : Stored SessionLog) → with_log (at x) s y ≡ at y
  at-again x y = (λ i. record k { session = λ t. put-again k.session s x y t i })

  at-own : at (k.session s) ≡ k
  at-own = (λ i. record k { session = λ t. put-own k.session s t i })

  at-here : (x : Stored SessionLog) → (at x).session s ≡ x
  at-here x = here k.session s x

  becomes : (F : Stored SessionLog → Stored SessionLog) (x : Stored SessionLog) → with_log (at x) s (F ((at x).session s)) ≡ at (F x)
  becomes F x = ap (λ (y : Stored SessionLog). with_log (at x) s (F y)) (at-here x) ∙ at-again x (F x)

  tunes : (domain : ℕ) (x : Stored SessionLog) → incident N (at x) (Happens (Retune s domain)) ≡ at (tuned_to domain x)
  unfolding network_event
  tunes domain x =
      let none : refused N (at x) (Retune s domain) ≡ None = no-more (result_err (network_event N (running (at x)) (Retune s domain))) ∙ not-refused (no_session N s) _ (session-named N s place) in
      unless-none (refused N (at x) (Retune s domain)) (at x) _ none ∙ becomes (tuned_to domain) x

  tries : (x : Stored SessionLog) → is_waiting x.live.session ≡ true → incident N (at x) (Happens (Resume s 1)) ≡ at (tried x)
  unfolding network_event
  tries x waits =
      let due : nothing_to_resume ((at x).session s).live.session ≡ None =
      ap (λ (y : Stored SessionLog). nothing_to_resume y.live.session) (at-here x) ∙ ap (λ (b : Bool). first_of ((not b, SendRefused send_errors.Idle) ∷ [])) waits in
      let none : refused N (at x) (Resume s 1) ≡ None = no-more (result_err (network_event N (running (at x)) (Resume s 1)))
      ∙ not-refused (no_session N s) _ (session-named N s place) ∙ not-refused (nothing_to_resume ((at x).session s).live.session) _ due in
      unless-none (refused N (at x) (Resume s 1)) (at x) _ none ∙ becomes tried x

  -- what it begins first, and then the rest
  begins-on : (x : Stored SessionLog) (q : RequestValue) → CanBegin x.live.session q
      → incident N (at x) (Happens (Begin s (ask_of q.action q.id (Some q.port) q.octets))) ≡ at (with_begun x (Some q))
  unfolding network_event
  begins-on x q can =
      let a : Ask = ask_of q.action q.id (Some q.port) q.octets in
      let fine : begin_refusal ((at x).session s).live.session a ≡ None =
      ap (λ (y : Stored SessionLog). begin_refusal y.live.session a) (at-here x) ∙ may-begin x.live.session q can in
      let none : refused N (at x) (Begin s a) ≡ None = no-more (result_err (network_event N (running (at x)) (Begin s a)))
      ∙ not-refused (no_session N s) _ (session-named N s place)
      ∙ not-refused (option_map BeginRefused (begin_refusal ((at x).session s).live.session a)) _ (ap (option_map BeginRefused) fine) in
      unless-none (refused N (at x) (Begin s a)) (at x) _ none
      ∙ becomes (λ (y : Stored SessionLog). changed y (session_with y (begun y.live.session (request_of a)))) x
      ∙ ap (λ (p : RequestValue). at (changed x (session_with x (begun x.live.session p)))) (asked-again x.live.session.setup.ports q can.request)

  first-on : (x : Stored SessionLog) (o : Option RequestValue) (rest : List Incident) → CanBeginIt x.live.session o
      → after_incidents N (at x) (begins_first s o ++ rest) ≡ after_incidents N (at (with_begun x o)) rest
  first-on x None rest can = refl
  first-on x (Some q) rest can = ap (λ (j : RestartingNetwork). after_incidents N j rest) (begins-on x q can)

  sent-room : no_room (held_frames k) ≡ None → no_room k.frames ≡ None
  sent-room room = fewer k.frames (held_frames k) (omega (arith, length-append k.frames (map (λ (w : ℕ × Held). w.1) k.waiting))) room

  abbrev with_sent : SessionLog → List Held
  with_sent l = k.frames ++ sent_posted (peers N.links (AtSession s)) s l.session.issued (due_message l.session)

  sends-on : (l : SessionLog) → is_waiting l.session ≡ true → l.session.attempts_left ≡ 1 → no_room (held_frames k) ≡ None
      → incident N (at (saved_as l)) (Happens (Send s))
      ≡ record (at (saved_as (record l { session = sent l.session }))) { frames = with_sent l }
  unfolding network_event
  sends-on l waits left room =
      let j : RestartingNetwork = at (saved_as l) in
      let is : j.session s ≡ saved_as l = at-here (saved_as l) in
      let can : send_refusal (j.session s).live.session ≡ None = ap (λ (y : Stored SessionLog). send_refusal y.live.session) is ∙ may-send l.session waits left in
      let none : refused N j (Send s) ≡ None =
      ap (λ (o : Option Refusal). option_or o (no_room (held_frames k))) (not-refused (no_session N s) _ (session-named N s place)
      ∙ not-refused (no_room k.frames) _ (sent-room room)
      ∙ not-refused (option_map SendRefused (send_refusal (j.session s).live.session)) _ (ap (option_map SendRefused) can)) ∙ room in
      unless-none (refused N j (Send s)) j _ none
      ∙ ap (λ (b : Bool). sends b N j s) (ap (λ (y : Stored SessionLog). y.is_unsaved) is)
      ∙ ap (λ (y : Stored SessionLog). record (with_log j s (noted y (session_with y (sent y.live.session)))) { frames = with_sent y.live }) is
      ∙ (λ i. record (at-again (saved_as l) (saved_as (record l { session = sent l.session })) i) { frames = with_sent l })

  abbrev with_told : List Report → Stored SessionLog → RestartingNetwork
  with_told reports x = record (at x) { told = with_place k.told s reports }

  delivers-on : (x : Stored SessionLog) (n : ℕ) (datagram : List ℕ) (report : Report)
      → IsFrameFor s k n datagram → received_of x.live.session datagram ≡ received.Answered report
      → incident N (at x) (Happens (Deliver n)) ≡ with_told (k.told s ++ report ∷ []) (changed x (log_told x.live report))
  delivers-on x n datagram report f is =
      let j : RestartingNetwork = at x in
      let none : refused N j (Deliver n) ≡ None =
      ap (λ (y : Result Happened Refusal). option_or (result_err y) (no_room (held_frames k))) (delivers-to N (running j) n f.held (AtSession s) f.at f.end (sent-room f.room)) ∙ f.room in
      let heard : received_of (j.session s).live.session f.held.octets ≡ received.Answered report =
      ap (λ (y : Stored SessionLog). received_of y.live.session f.held.octets) (at-here x) ∙ ap (received_of x.live.session) f.octets ∙ is in
      unless-none (refused N j (Deliver n)) j _ none
      ∙ ap (delivered N j) f.at ∙ ap (comes_in N j f.held) f.end ∙ ap (hears j s) heard
      ∙ ap (λ (y : Stored SessionLog). record (with_log j s (changed y (log_told y.live report))) { told = with_place k.told s (k.told s ++ report ∷ []) }) (at-here x)
      ∙ (λ i. record (at-again x (changed x (log_told x.live report)) i) { told = with_place k.told s (k.told s ++ report ∷ []) })

  first-sometime : (P : RestartingNetwork → Incident → Type 0) (x : Stored SessionLog) (o : Option RequestValue) (rest : List Incident)
      → CanBeginIt x.live.session o → Sometime N P (at (with_begun x o)) rest
      → Sometime N P (at x) (begins_first s o ++ rest)
  first-sometime P x None rest can later = later
  first-sometime P x (Some q) rest can later = inr (subst (λ (j : RestartingNetwork). Sometime N P j rest) (sym (begins-on x q can)) later)

  told-on : (x : Stored SessionLog) (domain n : ℕ) (datagram : List ℕ) (report : Report) (q : RequestValue)
      → IsFrameFor s k n datagram → received_of (retuned x.live.session domain) datagram ≡ received.Answered report
      → x.live.session.unanswered ≡ Some q → report.index ≡ x.live.session.issued
      → Sometime N (TellsAt N s q report) (at x) (Happens (Retune s domain) ∷ Happens (Deliver n) ∷ [])
  told-on x domain n datagram report q f is under index =
      let z : Stored SessionLog = tuned_to domain x in
      let live : ((at z).session s).live.session ≡ retuned x.live.session domain = ap (λ (y : Stored SessionLog). y.live.session) (at-here z) in
      inr (inl (subst (λ (j : RestartingNetwork). TellsAt N s q report j (Happens (Deliver n))) (sym (tunes domain x)) (record {
        under_way = ap (λ (v : SessionValue). v.unanswered) live ∙ under;
        index_is = index ∙ sym (ap (λ (v : SessionValue). v.issued) live);
        told = ap (λ (j : RestartingNetwork). j.told s) (delivers-on z n datagram report f is) ∙ here k.told s (k.told s ++ report ∷ []);
      })))

  gives-up-on : (x : Stored SessionLog) → give_up_refusal x.live.session ≡ None
      → incident N (at x) (GivesUp s) ≡ at (changed x (session_with x (given_up x.live.session)))
  gives-up-on x none =
      cond-true (nat_lt s N.sessions) _ _ (lt-ltb s N.sessions place)
      ∙ ap (λ (o : Option GiveUpRefusal). lets_go o (at x) s) (ap (λ (y : Stored SessionLog). give_up_refusal y.live.session) (at-here x) ∙ none)
      ∙ becomes (λ (y : Stored SessionLog). changed y (session_with y (given_up y.live.session))) x

  keeps-on : (x : Stored SessionLog) (reason : GiveUpRefusal) → give_up_refusal x.live.session ≡ Some reason
      → incident N (at x) (GivesUp s) ≡ at x
  keeps-on x reason none =
      cond-true (nat_lt s N.sessions) _ _ (lt-ltb s N.sessions place)
      ∙ ap (λ (o : Option GiveUpRefusal). lets_go o (at x) s) (ap (λ (y : Stored SessionLog). give_up_refusal y.live.session) (at-here x) ∙ none)

  -- ---- a list of them, from the network as it is

  from-own : (is : List Incident) → after_incidents N k is ≡ after_incidents N (at (k.session s)) is
  from-own is = ap (λ (j : RestartingNetwork). after_incidents N j is) (sym at-own)

  pub is-of-desk : (own : Setup) (d : Desk) (is : List Incident) (x : Stored SessionLog)
      → after_incidents N k is ≡ at x → IsOfDesk own d x (k.told s)
      → IsOfDesk own d ((after_incidents N k is).session s) ((after_incidents N k is).told s)
  is-of-desk own d is x e h =
      subst (λ (j : RestartingNetwork). IsOfDesk own d (j.session s) (j.told s)) (sym e) (subst (λ (y : Stored SessionLog). IsOfDesk own d y (k.told s)) (sym (at-here x)) h)

-- ---- a desk and its session, move by move

module _ (own : Setup) (told : List Report) where
  more : (report : Report) (number : ℕ) (outcome : Outcome) → IsReported own told number outcome → IsReported own (told ++ report ∷ []) number outcome
  more report number outcome h = record { report = h.report; is_told = Contains-append_left told (report ∷ []) h.report h.is_told; says = h.says; of_number = h.of_number }

  more-noted : (report : Report) (note : Note) → IsNoteReported own told note → IsNoteReported own (told ++ report ∷ []) note
  more-noted report (IsBegun tag number) h = tt
  more-noted report (IsTold tag number outcome) h = more report number outcome h
  more-noted report (IsLetGo number) h = tt

  by-heard : (note : Note) (heard : Option Heard) → IsHeard note heard → IsHeardReported own told heard → IsNoteReported own told note
  by-heard (IsBegun tag number) heard is h = tt
  by-heard (IsTold tag number outcome) heard is h = subst (IsHeardReported own told) is h
  by-heard (IsLetGo number) heard is h = tt

  crashed : (file : Option SessionValue) (r w : SessionValue) → is_some file ≡ true → IsStored own file w → IsMirrored own (reopened file r) w
  crashed None r w e h = absurd (true≢false (sym e))
  crashed (Some f) r w e h = tuned own f w f.domain f.setup.attempts h

  stored-sent : (file : Option SessionValue) (r v w : SessionValue) (domain : ℕ) → IsMirrored own r v → IsStored own file w
      → is_waiting r ≡ true → HasIt file r
      → IsStored own file (sent (resumed (retuned (with_unbegun v (unbegun r v)) domain) 1))
  stored-sent None r v w domain m h y has = tt
  stored-sent (Some f) r v w domain m h y has = stored-like own r v (unbegun r v) domain m f w (unbegun f w) h y has.0 has.1

  file-tuned : (file : Option SessionValue) (w : SessionValue) (domain : ℕ) → IsStored own file w → IsStored own file (retuned w domain)
  file-tuned None w domain h = tt
  file-tuned (Some f) w domain h = tuned-there own f w domain h

  stored-tuned : (file : Option SessionValue) (x : Stored SessionLog) (o : Option RequestValue) (domain : ℕ)
      → (x.is_unsaved ≡ false → x.stored ≡ x.live) → IsStored own file x.stored.session
      → IsStored own file (tuned_to domain (with_begun x o)).stored.session
  stored-tuned file x (Some q) domain saved h = h
  stored-tuned file x None domain saved h =
      let P : SessionLog → Type 0 = λ z. IsStored own file z.session in
      by_test x.is_unsaved
      (λ y. subst P (sym (cond-true _ _ _ y)) h)
      (λ n. subst P (sym (cond-false _ _ _ n)) (file-tuned file x.live.session domain (subst P (saved n) h)))

  module _ (d : Desk) (x : Stored SessionLog) (h : IsOfDesk own d x told) where
    abbrev begins : Option RequestValue
    begins = unbegun d.live x.live.session

    abbrev value : SessionValue
    value = with_unbegun x.live.session begins

    begins-desk : (tag : ℕ) (q : RequestValue) → is_waiting d.live ≡ false → IsRequestTo own.ports q → q.id < 2 ^ 16 → x.live.session.issued < count_limit
        → IsOfDesk own (moved d (Begins tag q)) x told
    begins-desk tag q n request id count = record {
      live = begins-like own d.live x.live.session q h.live n request id count;
      stored = h.stored;
      saved = h.saved;
      left = λ y. absurd (true≢false (sym y ∙ rests-too own d.live x.live.session begins h.live n));
      heard = tt;
      noted = h.noted;
    }

    saves-desk : IsOfDesk own (moved d Saves) (saved x) told
    saves-desk = record { live = h.live; stored = h.live; saved = λ _. refl; left = h.left; heard = h.heard; noted = h.noted }

    sends-desk : is_waiting d.live ≡ true → HasIt d.file d.live
        → IsOfDesk own (moved d Sends) (saved_as (session_with x (sent (resumed (retuned value d.live.domain) 1)))) told
    sends-desk y has = record {
      live = sent-like own d.live x.live.session begins d.live.domain h.live;
      stored = stored-sent d.file d.live x.live.session x.stored.session d.live.domain h.live h.stored y has;
      saved = λ _. refl;
      left = λ _. or_right (d.run.has_left || d.run.is_out) true refl;
      heard = h.heard;
      noted = h.noted;
    }

    unsent-desk : IsOfDesk own (moved d Sends) x told
    unsent-desk = record {
      live = tuned own d.live x.live.session d.live.domain (sent d.live).attempts_left h.live;
      stored = h.stored;
      saved = h.saved;
      left = λ _. or_right (d.run.has_left || d.run.is_out) true refl;
      heard = h.heard;
      noted = h.noted;
    }

    returns-desk : (is_waiting x.live.session ≡ true → d.run.has_left ≡ true) → IsOfDesk own (moved d Returns) x told
    returns-desk before = record {
      live = h.live;
      stored = h.stored;
      saved = h.saved;
      left = λ y. or_left d.run.has_left false (before y);
      heard = h.heard;
      noted = h.noted;
    }

    notes-desk : (note : Note) → IsHeard note d.run.heard → IsOfDesk own (moved d (Notes note)) x told
    notes-desk note is = record { live = h.live; stored = h.stored; saved = h.saved; left = h.left; heard = h.heard; noted = (by-heard note d.run.heard is h.heard, h.noted) }

    tunes-desk : (domain attempts : ℕ) → IsOfDesk own (record d { live = record (d.live) { domain = domain; attempts_left = attempts } }) x told
    tunes-desk domain attempts = record { live = tuned own d.live x.live.session domain attempts h.live; stored = h.stored; saved = h.saved; left = h.left; heard = h.heard; noted = h.noted }

    gives-up-desk : IsOfDesk own (moved d LetsGo) (changed (with_begun x begins) (session_with x (given_up value))) told
    gives-up-desk = record {
      live = given_up-like own d.live x.live.session begins d.live.domain h.live;
      stored = h.stored;
      saved = λ e. absurd (true≢false e);
      left = λ y. absurd (true≢false (sym y));
      heard = h.heard;
      noted = h.noted;
    }

    lets-nothing-go-desk : is_waiting d.live ≡ false → IsOfDesk own (moved d LetsGo) x told
    lets-nothing-go-desk n = record { live = rests-like own d.live x.live.session h.live n; stored = h.stored; saved = h.saved; left = h.left; heard = h.heard; noted = h.noted }

    anew-desk : (live : SessionValue) (run : Run) → IsMirrored own live x.live.session → is_waiting x.live.session ≡ false → IsHeardReported own told run.heard
        → IsOfDesk own (record d { live = live; run = run }) x told
    anew-desk live run m n heard = record {
      live = m;
      stored = h.stored;
      saved = h.saved;
      left = λ y. absurd (true≢false (sym y ∙ n));
      heard = heard;
      noted = h.noted;
    }

    rests : is_waiting d.live ≡ false → is_waiting x.live.session ≡ false
    rests n = rests-too own d.live x.live.session begins h.live n

    none-begun : d.run.has_left ≡ false → d.run.is_out ≡ false → is_waiting x.live.session ≡ false
    none-begun left out = by_test (is_waiting x.live.session)
        (λ y. absurd (true≢false (sym (h.left y) ∙ (λ i. left i || out i))))
        (λ n. n)

    crashes-desk : is_some d.file ≡ true → IsOfDesk own (moved d Crashes) (restored x) told
    crashes-desk e = record { live = crashed d.file d.live x.stored.session e h.stored; stored = h.stored; saved = λ _. refl; left = λ _. refl; heard = tt; noted = h.noted }

    abbrev hearing : Received → Desk
    hearing y = record d {
      live = left_by d.live y;
      run = record d.run { heard = heard_after d.live d.run.heard y; is_known = known_after d.run.is_known y };
    }

    ignores-desk : (y : Received) → IsIgnored y → IsOfDesk own (hearing y) x told
    ignores-desk (received.Ignored reason) p = h
    ignores-desk (received.Answered report) p = absurd p

    abbrev tuned_log : Stored SessionLog
    tuned_log = tuned_to d.live.domain (with_begun x begins)

    hears-desk : (datagram : List ℕ) (report answer : Report) → received_of d.live datagram ≡ received.Answered report
        → answer ≡ record { index = value.issued; outcome = report.outcome }
        → IsOfDesk own (hearing (received.Answered report)) (changed tuned_log (log_told tuned_log.live answer)) (told ++ answer ∷ [])
    hears-desk datagram report answer e is = record {
      live = answered-like own d.live x.live.session begins d.live.domain h.live;
      stored = stored-tuned d.file x begins d.live.domain h.saved h.stored;
      saved = λ u. absurd (true≢false u);
      left = λ y. absurd (true≢false (sym y));
      heard = record {
        report = answer;
        is_told = Contains-push told answer;
        says = ap (λ (r : Report). r.outcome) is;
        of_number = ap (λ (r : Report). number_of own.first r.index) is
            ∙ ap (λ (setup : Setup). number_of setup.first value.issued) (sym (setup-of x.live.session begins ∙ h.live.set_up))
            ∙ sym (latest-like own d.live x.live.session begins d.live.domain h.live (waits-for own d.live x.live.session begins d.live.domain h.live datagram report e));
      };
      noted = all_weaker (IsNoteReported own told) (IsNoteReported own (told ++ answer ∷ [])) (more-noted answer) d.notes h.noted;
    }

-- ---- one step

-- the request that this outcome is reported of, under this number
pub record Tells (N : Network) (s : ℕ) (k : RestartingNetwork) (is : List Incident) (q : RequestValue) (number : ℕ) (outcome : Outcome) : Type 0 where
  pub report : Report
  pub told : Sometime N (TellsAt N s q report) k is
  pub says : report.outcome ≡ outcome
  pub of_number : number_of (N.session s).setup.first report.index ≡ number

pub record Done (N : Network) (s : ℕ) (d : Desk) (k : RestartingNetwork) (x : DeskStep) : Type 0 where
  pub mirrors : Mirrors N s (moved_by d (moves_at x)) (after_incidents N k (incidents_at s d k x))
  pub saved : LeavesSaved N s d k x (after_incidents N k (incidents_at s d k x))
  pub possible : AllByRecursion IsPossibleAct (incidents_at s d k x)

possible-first : (s : ℕ) (v : SessionValue) (o : Option RequestValue) (rest : List Incident) → CanBeginIt v o → AllByRecursion IsPossibleAct rest
    → AllByRecursion IsPossibleAct (begins_first s o ++ rest)
possible-first s v None rest can all = all
possible-first s v (Some q) rest can all = (can.id, all)

module _ (N : Network) (s : ℕ) (place : s < N.sessions) (d : Desk) (k : RestartingNetwork) (h : Mirrors N s d k) where
  abbrev own : Setup
  own = (N.session s).setup

  abbrev x : Stored SessionLog
  x = k.session s

  abbrev o : Option RequestValue
  o = unbegun d.live x.live.session

  abbrev pub value_of : SessionValue
  value_of = with_unbegun x.live.session o

  sends-done : is_waiting d.live ≡ true → HasIt d.file d.live → no_room (held_frames k) ≡ None → Done N s d k (Moves Sends)
  sends-done waits has room =
      let X : Stored SessionLog = with_begun x o in
      let l : SessionLog = session_with x (resumed (retuned value_of d.live.domain) 1) in
      let y : Stored SessionLog = saved_as (session_with x (sent l.session)) in
      let waiting : is_waiting value_of ≡ true = waits-too own d.live x.live.session o h.live waits in
      let tail : List Incident = Happens (Resume s 1) ∷ Happens (Send s) ∷ [] in
      let is : after_incidents N k (incidents_at s d k (Moves Sends)) ≡ record (with_log k s y) { frames = with_sent N s place k l } =
      from-own N s place k (incidents_at s d k (Moves Sends))
      ∙ first-on N s place k x o (SaveSession s ∷ Happens (Retune s d.live.domain) ∷ tail) h.live.can_begin
      ∙ ap (λ (j : RestartingNetwork). after_incidents N j (Happens (Retune s d.live.domain) ∷ tail)) (becomes N s place k saved X)
      ∙ ap (λ (j : RestartingNetwork). after_incidents N j tail) (tunes N s place k d.live.domain (saved X))
      ∙ ap (λ (j : RestartingNetwork). after_incidents N j (Happens (Send s) ∷ [])) (tries N s place k (tuned_to d.live.domain (saved X)) waiting)
      ∙ sends-on N s place k l waiting refl room in
      let there : (after_incidents N k (incidents_at s d k (Moves Sends))).session s ≡ y = ap (λ (j : RestartingNetwork). j.session s) is ∙ at-here N s place k y in
      record {
        mirrors = subst (λ (j : RestartingNetwork). IsOfDesk own (moved d Sends) (j.session s) (j.told s)) (sym is)
            (subst (λ (z : Stored SessionLog). IsOfDesk own (moved d Sends) z (k.told s)) (sym (at-here N s place k y)) (sends-desk own (k.told s) d x h waits has));
        saved = record {
          frames = ap (λ (j : RestartingNetwork). j.frames) is
              ∙ (λ i. k.frames ++ sent_posted (peers N.links (AtSession s)) s (sym (ap (λ (z : Stored SessionLog). z.live.session.issued) there) i)
              (sym (due-like own d.live x.live.session o d.live.domain h.live waits) i));
          stored = subst (λ (z : Stored SessionLog). z.stored ≡ z.live) (sym there) refl;
        };
        possible = possible-first s x.live.session o (SaveSession s ∷ Happens (Retune s d.live.domain) ∷ tail) h.live.can_begin (tt, (tt, (tt, (tt, tt))));
      }

  -- before its first message leaves
  pub ready : is_waiting d.live ≡ true
      → (after_incidents N k (begins_first s o ++ SaveSession s ∷ Happens (Retune s d.live.domain) ∷ Happens (Resume s 1) ∷ [])).session s
      ≡ saved_as (session_with x (resumed (retuned value_of d.live.domain) 1))
  ready waits =
      let X : Stored SessionLog = with_begun x o in
      let y : Stored SessionLog = saved_as (session_with x (resumed (retuned value_of d.live.domain) 1)) in
      let waiting : is_waiting value_of ≡ true = waits-too own d.live x.live.session o h.live waits in
      let tail : List Incident = Happens (Resume s 1) ∷ [] in
      let is : after_incidents N k (begins_first s o ++ SaveSession s ∷ Happens (Retune s d.live.domain) ∷ tail) ≡ with_log k s y =
      from-own N s place k (begins_first s o ++ SaveSession s ∷ Happens (Retune s d.live.domain) ∷ tail)
      ∙ first-on N s place k x o (SaveSession s ∷ Happens (Retune s d.live.domain) ∷ tail) h.live.can_begin
      ∙ ap (λ (j : RestartingNetwork). after_incidents N j (Happens (Retune s d.live.domain) ∷ tail)) (becomes N s place k saved X)
      ∙ ap (λ (j : RestartingNetwork). after_incidents N j tail) (tunes N s place k d.live.domain (saved X))
      ∙ tries N s place k (tuned_to d.live.domain (saved X)) waiting in
      ap (λ (j : RestartingNetwork). j.session s) is ∙ at-here N s place k y

  pub ready-request : is_waiting d.live ≡ true → (value_of.unanswered ≡ d.live.unanswered)
      × (number_of own.first value_of.issued ≡ latest_number d.live) × (is_waiting value_of ≡ true)
  ready-request waits = (
    sym h.live.like.request,
    ap (λ (setup : Setup). number_of setup.first value_of.issued) (sym (setup-of x.live.session o ∙ h.live.set_up))
        ∙ sym (latest-like own d.live x.live.session o d.live.domain h.live waits),
    waits-too own d.live x.live.session o h.live waits,
  )

  lets-go-done : x.live.session.issued + 1 < x.live.session.reported + reach_limit → Done N s d k (Moves LetsGo)
  lets-go-done near = record {
    mirrors = by_test (is_waiting d.live)
        (λ y. is-of-desk N s place k own (moved d LetsGo) (incidents_at s d k (Moves LetsGo)) (changed (with_begun x o) (session_with x (given_up value_of)))
        (begun-first ∙ gives-up-on N s place k (with_begun x o) (in-reach value_of (waits-too own d.live x.live.session o h.live y) (near-with o)))
        (gives-up-desk own (k.told s) d x h))
        (λ n. is-of-desk N s place k own (moved d LetsGo) (incidents_at s d k (Moves LetsGo)) (with_begun x o)
        (begun-first ∙ keeps-on N s place k (with_begun x o) give_ups.Idle (no-request value_of (ap (λ (q : Option RequestValue). is_some q) (sym h.live.like.request) ∙ n)))
        (subst (λ (p : Option RequestValue). IsOfDesk own (moved d LetsGo) (with_begun x p) (k.told s)) (sym (none-unbegun own d.live x.live.session h.live n))
        (lets-nothing-go-desk own (k.told s) d x h n)));
    saved = tt;
    possible = possible-first s x.live.session o (GivesUp s ∷ []) h.live.can_begin (tt, tt);
  }
    where
      begun-first : after_incidents N k (incidents_at s d k (Moves LetsGo)) ≡ incident N (with_log k s (with_begun x o)) (GivesUp s)
      begun-first = from-own N s place k (incidents_at s d k (Moves LetsGo)) ∙ first-on N s place k x o (GivesUp s ∷ []) h.live.can_begin

      near-with : (p : Option RequestValue) → (with_unbegun x.live.session p).issued < (with_unbegun x.live.session p).reported + reach_limit
      near-with None = omega arith
      near-with (Some q) = near

  comes-done : (n : ℕ) (datagram : List ℕ) (y : Received) → received_of d.live datagram ≡ y → IsFrameFor s k n datagram
      → IsOfDesk own (hearing own (k.told s) d x h y) ((after_incidents N k (heard_incidents s d x.live.session n y)).session s) ((after_incidents N k (heard_incidents s d x.live.session n y)).told s)
  comes-done n datagram (received.Ignored reason) e f = h
  comes-done n datagram (received.Answered report) e f =
      let z : Stored SessionLog = tuned_to d.live.domain (with_begun x o) in
      let answer : Report = record { index = value_of.issued; outcome = report.outcome } in
      let y : Stored SessionLog = changed z (log_told z.live answer) in
      let is : after_incidents N k (heard_incidents s d x.live.session n (received.Answered report)) ≡ with_told N s place k (k.told s ++ answer ∷ []) y =
      from-own N s place k (heard_incidents s d x.live.session n (received.Answered report))
      ∙ first-on N s place k x o (Happens (Retune s d.live.domain) ∷ Happens (Deliver n) ∷ []) h.live.can_begin
      ∙ ap (λ (j : RestartingNetwork). after_incidents N j (Happens (Deliver n) ∷ [])) (tunes N s place k d.live.domain (with_begun x o))
      ∙ delivers-on N s place k z n datagram answer f (received-like own d.live x.live.session o d.live.domain h.live datagram report e) in
      subst (λ (j : RestartingNetwork). IsOfDesk own (hearing own (k.told s) d x h (received.Answered report)) (j.session s) (j.told s)) (sym is)
      (subst (λ (w : Stored SessionLog). IsOfDesk own (hearing own (k.told s) d x h (received.Answered report)) w (with_place k.told s (k.told s ++ answer ∷ []) s)) (sym (at-here N s place k y))
      (subst (IsOfDesk own (hearing own (k.told s) d x h (received.Answered report)) y) (sym (here k.told s (k.told s ++ answer ∷ [])))
      (hears-desk own (k.told s) d x h datagram report answer e refl)))

  pub comes-told : (n : ℕ) (datagram : List ℕ) (report : Report) (q : RequestValue) → received_of d.live datagram ≡ received.Answered report
      → IsFrameFor s k n datagram → d.live.unanswered ≡ Some q
      → Tells N s k (incidents_at s d k (Comes n datagram)) q (latest_number d.live) report.outcome
  comes-told n datagram report q e f under =
      let answer : Report = record { index = value_of.issued; outcome = report.outcome } in
      let P : RestartingNetwork → Incident → Type 0 = TellsAt N s q answer in
      record {
        report = answer;
        told = subst (λ (y : Received). Sometime N P k (heard_incidents s d x.live.session n y)) (sym e)
            (subst (λ (j : RestartingNetwork). Sometime N P j (heard_incidents s d x.live.session n (received.Answered report))) (at-own N s place k)
            (first-sometime N s place k P x o (Happens (Retune s d.live.domain) ∷ Happens (Deliver n) ∷ []) h.live.can_begin
            (told-on N s place k (with_begun x o) d.live.domain n datagram answer q f
            (received-like own d.live x.live.session o d.live.domain h.live datagram report e) (sym h.live.like.request ∙ under) refl)));
        says = refl;
        of_number = ap (λ (setup : Setup). number_of setup.first value_of.issued) (sym (setup-of x.live.session o ∙ h.live.set_up))
            ∙ sym (latest-like own d.live x.live.session o d.live.domain h.live (waits-for own d.live x.live.session o d.live.domain h.live datagram report e));
      }

  -- ---- what is begun

  abbrev Begun : RequestValue → ℕ → Type 0
  Begun q index = (d.live.unanswered ≡ Some q) × (number_of own.first index ≡ latest_number d.live)

  abbrev BeginsIt : RequestValue → ℕ → RestartingNetwork → Incident → Type 0
  BeginsIt q index = BeginsAt N s q index

  -- no request is begun by these
  abbrev BeginsNone : List Incident → Type 0
  BeginsNone is = (q : RequestValue) (index : ℕ) (j : RestartingNetwork) → Sometime N (BeginsIt q index) j is → ⊥

  begins-it : (p q : RequestValue) (index : ℕ) → IsMirroredBut own d.live x.live.session (Some p)
      → BeginsAt N s q index k (Happens (Begin s (ask_of p.action p.id (Some p.port) p.octets)))
      → Begun q index
  begins-it p q index m at =
      let asks : ask_of p.action p.id (Some p.port) p.octets ≡ at.ask = (let e = at.is in cc) in
      let same : p ≡ q = sym (asked-again x.live.session.setup.ports p m.can_begin.request) ∙ ap request_of asks ∙ at.request_is in (
        m.like.request ∙ ap (λ (r : RequestValue). Some r) same,
        ap (λ (i : ℕ). number_of own.first i) at.index_is
            ∙ ap (λ (setup : Setup). number_of setup.first (x.live.session.issued + 1)) (sym m.set_up)
            ∙ sym (latest-like own d.live x.live.session (Some p) d.live.domain m (ap (λ (r : Option RequestValue). is_some r) m.like.request)),
      )

  begins-first : (p : Option RequestValue) (rest : List Incident) (q : RequestValue) (index : ℕ) → IsMirroredBut own d.live x.live.session p
      → BeginsNone rest → Sometime N (BeginsIt q index) k (begins_first s p ++ rest)
      → Begun q index
  begins-first None rest q index m none z = absurd (none q index k z)
  begins-first (Some p) rest q index m none (inl at) = begins-it p q index m at
  begins-first (Some p) rest q index m none (inr later) = absurd (none q index _ later)

  not-begin : (i : Incident) → ((ask : Ask) → i ≡ Happens (Begin s ask) → ⊥) → (is : List Incident) → BeginsNone is → BeginsNone (i ∷ is)
  not-begin i not is none q index j (inl at) = not at.ask at.is
  not-begin i not is none q index j (inr later) = none q index (incident N j i) later

  begins-nothing : BeginsNone []
  begins-nothing q index j z = z

  elsewhere-begins : (i : Incident) (q : RequestValue) (index : ℕ) → (incident N k i).session s ≡ k.session s → BeginsAt N s q index k i → ⊥
  elsewhere-begins i q index stays at =
      let next : RestartingNetwork = restarting.begins k s (begun x.live.session (request_of at.ask)) in
      let is : incident N k i ≡ next = ap (incident N k) at.is ∙ unless-none (refused N k (Begin s at.ask)) k next at.taken in
      let more : (next.session s).live.session.issued ≡ x.live.session.issued + 1 =
      ap (λ (y : Stored SessionLog). y.live.session.issued) (here k.session s (changed x (session_with x (begun x.live.session (request_of at.ask))))) in
      let same : (next.session s).live.session.issued ≡ x.live.session.issued =
      ap (λ (j : RestartingNetwork). (j.session s).live.session.issued) (sym is) ∙ ap (λ (y : Stored SessionLog). y.live.session.issued) stays in
      omega arith

  begins-heard : (n : ℕ) (y : Received) (q : RequestValue) (index : ℕ) → Sometime N (BeginsIt q index) k (heard_incidents s d x.live.session n y) → Begun q index
  begins-heard n (received.Ignored reason) q index z = absurd z
  begins-heard n (received.Answered report) q index z =
      begins-first o (Happens (Retune s d.live.domain) ∷ Happens (Deliver n) ∷ []) q index h.live
      (not-begin (Happens (Retune s d.live.domain)) (λ ask e. cc) (Happens (Deliver n) ∷ []) (not-begin (Happens (Deliver n)) (λ ask e. cc) [] begins-nothing)) z

  -- what its session begins by a step of the desk is what the desk has under way, under the same number
  pub begins-of : (w : DeskStep) (q : RequestValue) (index : ℕ) → IsStepOf N s d k w → Sometime N (BeginsAt N s q index) k (incidents_at s d k w)
      → (d.live.unanswered ≡ Some q) × (number_of own.first index ≡ latest_number d.live)
  begins-of (Moves Sends) q index step z =
      begins-first o (SaveSession s ∷ Happens (Retune s d.live.domain) ∷ Happens (Resume s 1) ∷ Happens (Send s) ∷ []) q index h.live
      (not-begin (SaveSession s) (λ ask e. cc) (Happens (Retune s d.live.domain) ∷ Happens (Resume s 1) ∷ Happens (Send s) ∷ [])
      (not-begin (Happens (Retune s d.live.domain)) (λ ask e. cc) (Happens (Resume s 1) ∷ Happens (Send s) ∷ [])
      (not-begin (Happens (Resume s 1)) (λ ask e. cc) (Happens (Send s) ∷ []) (not-begin (Happens (Send s)) (λ ask e. cc) [] begins-nothing)))) z
  begins-of (Moves LetsGo) q index step z =
      begins-first o (GivesUp s ∷ []) q index h.live (not-begin (GivesUp s) (λ ask e. cc) [] begins-nothing) z
  begins-of (Moves Saves) q index step z = absurd (not-begin (SaveSession s) (λ ask e. cc) [] begins-nothing q index k z)
  begins-of (Moves Crashes) q index step z = absurd (not-begin (CrashSession s) (λ ask e. cc) [] begins-nothing q index k z)
  begins-of (Moves (Begins tag request)) q index step z = absurd z
  begins-of (Moves (Hears datagram)) q index step z = absurd z
  begins-of (Moves (Notes note)) q index step z = absurd z
  begins-of (Moves (Resumes attempts)) q index step z = absurd z
  begins-of (Moves (Retunes domain)) q index step z = absurd z
  begins-of (Moves Returns) q index step z = absurd z
  begins-of (Moves (Starts setup domain)) q index step z = absurd z
  begins-of (Moves (Continues setup)) q index step z = absurd z
  begins-of (Moves (TakesBack setup)) q index step z = absurd z
  begins-of (Comes n datagram) q index step z = begins-heard n (received_of d.live datagram) q index z
  begins-of IsUnsent q index step z = absurd z
  begins-of (Elsewhere i) q index step (inl at) = absurd (elsewhere-begins i q index step.session at)
  begins-of (Elsewhere i) q index step (inr later) = absurd later

  possible-comes : (n : ℕ) (y : Received) → AllByRecursion IsPossibleAct (heard_incidents s d x.live.session n y)
  possible-comes n (received.Ignored reason) = tt
  possible-comes n (received.Answered report) =
      possible-first s x.live.session o (Happens (Retune s d.live.domain) ∷ Happens (Deliver n) ∷ []) h.live.can_begin (tt, (tt, tt))

  pub one-done : (w : DeskStep) → AreAllowed d (moves_at w) → IsStepOf N s d k w → Done N s d k w
  one-done (Moves (Begins tag q)) a p = record { mirrors = begins-desk own (k.told s) d x h tag q a.0.0 p.0 p.1 p.2; saved = tt; possible = tt }
  one-done (Moves Saves) a p = record {
    mirrors = is-of-desk N s place k own (moved d Saves) (SaveSession s ∷ []) (saved x) refl (saves-desk own (k.told s) d x h);
    saved = tt;
    possible = (tt, tt);
  }
  one-done (Moves Sends) a p = sends-done a.0.0 a.0.1 p
  one-done (Moves (Hears datagram)) a p = record { mirrors = ignores-desk own (k.told s) d x h (received_of d.live datagram) p; saved = tt; possible = tt }
  one-done (Moves (Notes note)) a p = record { mirrors = notes-desk own (k.told s) d x h note a.0; saved = tt; possible = tt }
  one-done (Moves (Resumes attempts)) a p = record { mirrors = tunes-desk own (k.told s) d x h d.live.domain attempts; saved = tt; possible = tt }
  one-done (Moves (Retunes domain)) a p = record { mirrors = tunes-desk own (k.told s) d x h domain d.live.attempts_left; saved = tt; possible = tt }
  one-done (Moves LetsGo) a p = lets-go-done p
  one-done (Moves Returns) a p = record { mirrors = returns-desk own (k.told s) d x h p; saved = tt; possible = tt }
  one-done (Moves (Starts setup domain)) a p = record {
    mirrors = anew-desk own (k.told s) d x h (fresh setup domain) new_run (fresh-like own setup domain x.live.session h.live.set_up p.0 p.1 p.2) p.1 tt;
    saved = tt;
    possible = tt;
  }
  one-done (Moves (Continues setup)) a p =
      let rest : is_waiting x.live.session ≡ false = rests own (k.told s) d x h a.0.0 in
      record {
        mirrors = anew-desk own (k.told s) d x h (fresh setup d.live.domain) d.run
            (fresh-like own setup d.live.domain x.live.session h.live.set_up p rest (a.0.1 ∙ next-mirrored own d.live x.live.session h.live a.0.0)) rest h.heard;
        saved = tt;
        possible = tt;
      }
  one-done (Moves (TakesBack setup)) a p =
      let rest : is_waiting x.live.session ≡ false = none-begun own (k.told s) d x h a.0.0.none_left a.0.0.none_out in
      record {
        mirrors = anew-desk own (k.told s) d x h (fresh setup d.live.domain) d.run
            (fresh-like own setup d.live.domain x.live.session h.live.set_up p rest (next-taken own d.live x.live.session setup.first h.live a.0.1 rest a.0.2)) rest h.heard;
        saved = tt;
        possible = tt;
      }
  one-done (Moves Crashes) a p = record {
    mirrors = is-of-desk N s place k own (moved d Crashes) (CrashSession s ∷ []) (restored x) refl (crashes-desk own (k.told s) d x h p);
    saved = tt;
    possible = (tt, tt);
  }
  one-done (Comes n datagram) a p = record {
    mirrors = comes-done n datagram (received_of d.live datagram) refl p;
    saved = tt;
    possible = possible-comes n (received_of d.live datagram);
  }
  one-done IsUnsent a p = record { mirrors = unsent-desk own (k.told s) d x h; saved = tt; possible = tt }
  one-done (Elsewhere i) a p = record {
    mirrors = subst (λ (y : Stored SessionLog). IsOfDesk own d y ((incident N k i).told s)) (sym p.session) (subst (IsOfDesk own d x) (sym p.told) h);
    saved = tt;
    possible = (p.possible, tt);
  }

-- ---- one after another

pub moved-append : (d : Desk) (ms ns : List Move) → moved_by d (ms ++ ns) ≡ moved_by (moved_by d ms) ns
moved-append d [] ns = refl
moved-append d (m ∷ ms) ns = moved-append (moved d m) ms ns

pub allowed-parts : (d : Desk) (ms ns : List Move) → AreAllowed d (ms ++ ns) → AreAllowed d ms × AreAllowed (moved_by d ms) ns
allowed-parts d [] ns a = (tt, a)
allowed-parts d (m ∷ ms) ns a = let parts = allowed-parts (moved d m) ms ns a.1 in ((a.0, parts.0), parts.1)

pub all-done : (N : Network) (s : ℕ) → s < N.sessions → (xs : List DeskStep) (d : Desk) (k : RestartingNetwork)
    → Mirrors N s d k → AreAllowed d (desk_moves xs) → AreStepsOf N s d k xs
    → SaveInTime N s d k xs
all-done N s place [] d k h a p = record { mirrors = h; saved = tt; possible = tt }
all-done N s place (w ∷ ws) d k h a p =
    let parts = allowed-parts d (moves_at w) (desk_moves ws) a in
    let one = one-done N s place d k h w parts.0 p.0 in
    let next : RestartingNetwork = after_incidents N k (incidents_at s d k w) in
    let rest = all-done N s place ws (moved_by d (moves_at w)) next one.mirrors parts.1 p.1 in
    let further : List Incident = desk_incidents N s (moved_by d (moves_at w)) next ws in
    record {
      mirrors = subst (λ (e : Desk). Mirrors N s e (after_incidents N k (incidents_at s d k w ++ further))) (sym (moved-append d (moves_at w) (desk_moves ws)))
          (subst (Mirrors N s (moved_by (moved_by d (moves_at w)) (desk_moves ws))) (sym (after-append N k (incidents_at s d k w) further)) rest.mirrors);
      saved = (one.saved, rest.saved);
      possible = all_append IsPossibleAct (incidents_at s d k w) further one.possible rest.possible;
    }

-- and of an asker
pub asker-done : (N : Network) (s : ℕ) (k : RestartingNetwork) (o : Opening) (file : Option SessionValue) (notes : List Note) (inputs : List Input)
    (xs : List DeskStep)
    → s < N.sessions → Mirrors N s (desk_of (begins_driven o file notes)) k → desk_moves xs ≡ all_moves (begins_driven o file notes) inputs
    → AreStepsOf N s (desk_of (begins_driven o file notes)) k xs
    → SaveInTime N s (desk_of (begins_driven o file notes)) k xs
asker-done N s k o file notes inputs xs place h same steps =
    let d : Desk = desk_of (begins_driven o file notes) in
    all-done N s place xs d k h (subst (AreAllowed d) (sym same) (is_allowed o file notes inputs)) steps

-- ---- the first desk, and what is noted

pub mirrors-first : (N : Network) (s : ℕ) (setup : Setup) (domain : ℕ)
    → IsSetUpFor (N.session s).setup setup → setup.first ≡ (N.session s).setup.first
    → Mirrors N s (record { live = fresh setup domain; file = None; notes = []; run = new_run }) (initial_restarting N)
mirrors-first N s setup domain set_up first = record {
  live = record {
    set_up = refl;
    can_begin = tt;
    like = record { set_up = set_up; request = refl; counted = λ y. absurd (true≢false (sym y)); next = ap (λ n. number_of n (0 + 1)) first };
  };
  stored = tt;
  saved = λ _. refl;
  left = λ y. absurd (true≢false (sym y));
  heard = tt;
  noted = tt;
}

pub kept-reply : (N : Network) (is : List Incident) (k : RestartingNetwork) (s : ℕ) (d : Desk) (tag number : ℕ) (outcome : Outcome)
    (a : ActsAsIfNever N is k)
    → s < N.sessions → Mirrors N s d k → Contains d.notes (IsTold tag number outcome)
    → IsKeptReply N s (a.account s).accepted number outcome
kept-reply N is k s d tag number outcome a place h has =
    let noted : IsReported (N.session s).setup (k.told s) number outcome = all_contains (IsNoteReported (N.session s).setup (k.told s)) d.notes (IsTold tag number outcome) h.noted has in
    record {
      report = noted.report;
      kept = all_contains (IsKeptReport (manager N s) (a.account s).accepted) (k.told s) noted.report (a.kept s place) noted.is_told;
      says = noted.says;
      of_number = noted.of_number;
    }
