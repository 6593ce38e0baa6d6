-- The few things that an event comes to here, and what each keeps.
use Rattle.ptpm_network.proofs.Common.{arith, ◌≡◌, ◌<◌, ◌≤◌, ap, is_some, Bool, true, false, List, [], ◌∷◌, ◌++◌, refl, sym, ◌∙◌, true≢false, AllByRecursion, Contains, Report, RequestValue, SessionValue, begun, is_waiting, nat_lt, if◌then◌else◌, ℕ, Option, Some, None, option_or-none, no_room, State, received_of, Event, Begin, Send, Resume, Retune, Deliver, Replay, Stranger, Refusal, frame_at, with_place, AtPort, AtSession, End, Network, Held, at_place, at_places}
use Rattle.ptpm_manager.specs.Session.{given_up, give_up_refusal}
use Rattle.ptpm_manager.specs.declared.setup.Setup.{Setup}
use Rattle.ptpm_restarts.specs.Restarting.{SessionLog, log_told, RestartingNetwork, held_frames, sent_or_waiting, with_log}
use Rattle.ptpm_restarts.specs.Storage.{Stored, changed, noted, restored, saved}
use Rattle.ptpm_restarts.proofs.Sent.{all-longer, all-push}
use Rattle.ptpm_agent.specs.Observing.{moved_state}
use Rattle.ptpm_manager.specs.declared.error.GiveUpRefusal.{GiveUpRefusal}
use Rattle.ptpm_manager.specs.declared.receiving.Received.{Received}
use Rattle.ptpm_restarts.specs.AsIfNever.{IsTimely, is_late_event, is_late_held, is_late_in}
use Rattle.ptpm_restarts.specs.Incidents.{CrashClock, CrashSession, GivesUp, Happens, Observes, lets_go, Incident, SaveClock, SaveSession, replayed, comes_in, delivered, happens, incident, no_room_for, refused, unless}
use Rattle.ptpm_restarts.proofs.Steps.{Stay, stay-append}
use Rattle.ptpm_manager.specs.Ask as ask
use Rattle.ptpm_manager.specs.declared.receiving.Received.TheVariants as received
use Rattle.ptpm_restarts.specs.Restarting as restarting

-- ---- what is stored of a session is never ahead of what is live. It is older if a request is under way that is not saved. All its
-- reports were made.

pub record IsSound (setup : Setup) (told : List Report) (x : Stored SessionLog) : Type 0 where
  pub live : x.live.session.setup ≡ setup
  pub stored : x.stored.session.setup ≡ setup
  pub issued : x.stored.session.issued ≤ x.live.session.issued
  pub behind : x.is_unsaved ≡ true → is_waiting x.live.session ≡ true → x.stored.session.issued < x.live.session.issued
  pub told_live : AllByRecursion (Contains told) x.live.reports
  pub told_stored : AllByRecursion (Contains told) x.stored.reports

module _ (setup : Setup) (told : List Report) where
  -- a note changes neither the number of requests nor what is under way
  noted-by : (unsaved : Bool) (live stored : SessionLog) (v : SessionValue)
      → IsSound setup told (record { live = live; stored = stored; is_unsaved = unsaved })
      → v.setup ≡ live.session.setup → v.issued ≡ live.session.issued → v.unanswered ≡ live.session.unanswered
      → IsSound setup told (noted (record { live = live; stored = stored; is_unsaved = unsaved }) (record live { session = v }))
  noted-by true live stored v h a b c = record {
    live = a ∙ h.live;
    stored = h.stored;
    issued = omega (arith, b, h.issued);
    behind = λ u w. omega (arith, b, h.behind refl (sym (ap is_some c) ∙ w));
    told_live = h.told_live;
    told_stored = h.told_stored;
  }
  noted-by false live stored v h a b c = record {
    live = a ∙ h.live;
    stored = a ∙ h.live;
    issued = omega arith;
    behind = λ u. absurd (true≢false (sym u));
    told_live = h.told_live;
    told_stored = h.told_live;
  }

  module _ (x : Stored SessionLog) (h : IsSound setup told x) where
    pub sound-saved : IsSound setup told (saved x)
    sound-saved = record { live = h.live; stored = h.live; issued = omega arith; behind = λ u. absurd (true≢false (sym u)); told_live = h.told_live; told_stored = h.told_live }

    pub sound-restored : IsSound setup told (restored x)
    sound-restored = record { live = h.stored; stored = h.stored; issued = omega arith; behind = λ u. absurd (true≢false (sym u)); told_live = h.told_stored; told_stored = h.told_stored }

    pub sound-begun : (q : RequestValue) → IsSound setup told (changed x (record (x.live) { session = begun x.live.session q }))
    sound-begun q = record { live = h.live; stored = h.stored; issued = omega (arith, h.issued); behind = λ u w. omega (arith, h.issued); told_live = h.told_live; told_stored = h.told_stored }

    pub sound-given_up : IsSound setup told (changed x (record (x.live) { session = given_up x.live.session }))
    sound-given_up = record {
      live = h.live;
      stored = h.stored;
      issued = h.issued;
      behind = λ u w. absurd (true≢false (sym w));
      told_live = h.told_live;
      told_stored = h.told_stored;
    }

    pub sound-noted : (v : SessionValue)
        → v.setup ≡ x.live.session.setup → v.issued ≡ x.live.session.issued → v.unanswered ≡ x.live.session.unanswered
        → IsSound setup told (noted x (record (x.live) { session = v }))
    sound-noted v a b c = noted-by x.is_unsaved x.live x.stored v h a b c

    pub sound-told : (report : Report) → IsSound setup (told ++ report ∷ []) (changed x (log_told x.live report))
    sound-told report = record {
      live = h.live;
      stored = h.stored;
      issued = h.issued;
      behind = λ u w. absurd (true≢false (sym w));
      told_live = all-push x.live.reports told report h.told_live;
      told_stored = all-longer told (report ∷ []) x.stored.reports h.told_stored;
    }

pub record ByShape (N : Network) (k : RestartingNetwork) (P : RestartingNetwork → Type 0) : Type 0 where
  pub same : P k
  pub turns : (c : ℕ) (x : Stored State) (made : List Held) (b : Bool) → P (sent_or_waiting b (record k { clock = with_place k.clock c x }) c made)
  pub begins : (s : ℕ) (q : RequestValue) → P (restarting.begins k s (begun (k.session s).live.session q))
  pub notes : (s : ℕ) (v : SessionValue) → v.setup ≡ (k.session s).live.session.setup → v.issued ≡ (k.session s).live.session.issued
      → v.unanswered ≡ (k.session s).live.session.unanswered → P (restarting.notes k s v)
  pub sends : (s : ℕ) → P (restarting.sends false N k s)
  pub replays : (n : ℕ) (end : End) (x : Held) → frame_at k.frames n ≡ Some x → P (record k { frames = k.frames ++ record x { end = end } ∷ [] })
  pub hears : (n s : ℕ) (x : Held) (report : Report) → frame_at k.frames n ≡ Some x → x.end ≡ AtSession s → is_late_in k x.origin ≡ false
      → no_room (held_frames k) ≡ None → received_of (k.session s).live.session x.octets ≡ received.Answered report → P (restarting.hears k s (received.Answered report))

pub unless-each : (P : RestartingNetwork → Type 0) (o : Option Refusal) (k next : RestartingNetwork)
    → P k → (o ≡ None → P next)
    → P (unless o k next)
unless-each P None k next a b = b refl
unless-each P (Some reason) k next a b = a

module _ (N : Network) (k : RestartingNetwork) (P : RestartingNetwork → Type 0) (h : ByShape N k P) where
  heard-as : (n s : ℕ) (x : Held) (y : Received)
      → frame_at k.frames n ≡ Some x → x.end ≡ AtSession s → is_late_in k x.origin ≡ false → no_room (held_frames k) ≡ None
      → received_of (k.session s).live.session x.octets ≡ y
      → P (restarting.hears k s y)
  heard-as n s x (received.Ignored reason) is end timely room e = h.same
  heard-as n s x (received.Answered report) is end timely room e = h.hears n s x report is end timely room e

  comes-as : (n : ℕ) (x : Held) (e : End)
      → frame_at k.frames n ≡ Some x → x.end ≡ e → is_late_in k x.origin ≡ false → no_room (held_frames k) ≡ None
      → P (comes_in N k x e)
  comes-as n x (AtPort c port) is end timely room = h.turns c _ _ _
  comes-as n x (AtSession s) is end timely room = heard-as n s x _ is end timely room refl

  sends-as : (s : ℕ) (b : Bool) → P (restarting.sends b N k s)
  sends-as s true = h.same
  sends-as s false = h.sends s

  delivered-as : (n : ℕ) (q : Option Held)
      → frame_at k.frames n ≡ q → is_late_held k q ≡ false → no_room (held_frames k) ≡ None
      → P (delivered N k q)
  delivered-as n None is timely room = h.same
  delivered-as n (Some x) is timely room = comes-as n x x.end is refl timely room

  replayed-as : (n : ℕ) (end : End) (q : Option Held) → frame_at k.frames n ≡ q → P (replayed k q end)
  replayed-as n end None is = h.same
  replayed-as n end (Some x) is = h.replays n end x is

  happens-as : (e : Event) → is_late_event k e ≡ false → no_room_for k e ≡ None → P (happens N k e)
  happens-as (Begin s a) timely room = h.begins s (ask.request_of a)
  happens-as (Send s) timely room = sends-as s (k.session s).is_unsaved
  happens-as (Resume s attempts) timely room = h.notes s _ refl refl refl
  happens-as (Retune s domain) timely room = h.notes s _ refl refl refl
  happens-as (Deliver n) timely room = delivered-as n (frame_at k.frames n) refl timely room
  happens-as (Replay n end) timely room = replayed-as n end (frame_at k.frames n) refl
  happens-as (Stranger c port datagram) timely room = h.turns c _ _ _

  -- what each shape keeps an event keeps
  pub by-shape : (e : Event) → IsTimely N k (Happens e) → P (incident N k (Happens e))
  by-shape e timely = unless-each P (refused N k e) k (happens N k e) h.same (λ none. happens-as e (timely none) (option_or-none _ (no_room_for k e) none).1)

-- ---- sessions stay sound

abbrev pub AreSound : Network → RestartingNetwork → Type 0
AreSound N k = (s : ℕ) → IsSound (N.session s).setup (k.told s) (k.session s)

module _ (N : Network) (k : RestartingNetwork) (h : AreSound N k) where
  logged-sound : (s : ℕ) (x : Stored SessionLog) → IsSound (N.session s).setup (k.told s) x → AreSound N (with_log k s x)
  logged-sound s x new t = at_place (λ i z. IsSound (N.session i).setup (k.told i) z) k.session s x t new (h t)

  turns-sound : (c : ℕ) (x : Stored State) (made : List Held) (b : Bool) → AreSound N (sent_or_waiting b (record k { clock = with_place k.clock c x }) c made)
  turns-sound c x made true = h
  turns-sound c x made false = h

  sound-shapes : ByShape N k (AreSound N)
  sound-shapes = record {
    same = h;
    turns = turns-sound;
    begins = λ s q. logged-sound s _ (sound-begun (N.session s).setup (k.told s) (k.session s) (h s) q);
    notes = λ s v a b c. logged-sound s _ (sound-noted (N.session s).setup (k.told s) (k.session s) (h s) v a b c);
    replays = λ n end x is. h;
    sends = λ s. logged-sound s _ (sound-noted (N.session s).setup (k.told s) (k.session s) (h s) _ refl refl refl);
    hears = λ n s x report is end timely room e t.
        at_places (λ i told z. IsSound (N.session i).setup told z) k.told k.session s (k.told s ++ report ∷ []) _ t (sound-told (N.session s).setup (k.told s) (k.session s) (h s) report) (h t);
  }

  given_up-sound : (s : ℕ) (o : Option GiveUpRefusal) → AreSound N (lets_go o k s)
  given_up-sound s None = logged-sound s _ (sound-given_up (N.session s).setup (k.told s) (k.session s) (h s))
  given_up-sound s (Some reason) = h

  gives_up-sound : (s : ℕ) (b : Bool) → AreSound N (if b then lets_go (give_up_refusal (k.session s).live.session) k s else k)
  gives_up-sound s true = given_up-sound s (give_up_refusal (k.session s).live.session)
  gives_up-sound s false = h

  observes-sound : (b : Bool) (clock : ℕ → Stored State) → AreSound N (if b then record k { clock = clock } else k)
  observes-sound true clock = h
  observes-sound false clock = h

  pub incident-sound : (i : Incident) → IsTimely N k i → AreSound N (incident N k i)
  incident-sound (Happens e) timely = by-shape N k (AreSound N) sound-shapes e timely
  incident-sound (SaveClock c) timely = h
  incident-sound (SaveSession s) timely = logged-sound s _ (sound-saved (N.session s).setup (k.told s) (k.session s) (h s))
  incident-sound (CrashClock c) timely = h
  incident-sound (CrashSession s) timely = logged-sound s _ (sound-restored (N.session s).setup (k.told s) (k.session s) (h s))
  incident-sound (GivesUp s) timely = gives_up-sound s (nat_lt s N.sessions)
  incident-sound (Observes c o) timely = observes-sound (nat_lt c N.clocks) (with_place k.clock c (noted (k.clock c) (moved_state o.clock o.ports (k.clock c).live)))

-- ---- frames stay where they are

module _ (N : Network) (k : RestartingNetwork) where
  abbrev StaysIn : RestartingNetwork → Type 0
  StaysIn next = Stay k.frames next.frames

  turns-stay : (c : ℕ) (x : Stored State) (made : List Held) (b : Bool) → StaysIn (sent_or_waiting b (record k { clock = with_place k.clock c x }) c made)
  turns-stay c x made true = λ n y is. is
  turns-stay c x made false = stay-append k.frames made

  stay-shapes : ByShape N k StaysIn
  stay-shapes = record {
    same = λ n y is. is;
    turns = turns-stay;
    begins = λ s q n y is. is;
    notes = λ s v a b c n y is. is;
    sends = λ s. stay-append k.frames _;
    replays = λ n end x is. stay-append k.frames _;
    hears = λ m s x report at end timely room e n y is. is;
  }

  given_up-stay : (s : ℕ) (o : Option GiveUpRefusal) → StaysIn (lets_go o k s)
  given_up-stay s None = λ n y is. is
  given_up-stay s (Some reason) = λ n y is. is

  gives_up-stay : (s : ℕ) (b : Bool) → StaysIn (if b then lets_go (give_up_refusal (k.session s).live.session) k s else k)
  gives_up-stay s true = given_up-stay s (give_up_refusal (k.session s).live.session)
  gives_up-stay s false = λ n y is. is

  observes-stay : (b : Bool) (clock : ℕ → Stored State) → StaysIn (if b then record k { clock = clock } else k)
  observes-stay true clock = λ n y is. is
  observes-stay false clock = λ n y is. is

  pub incident-stay : (i : Incident) → IsTimely N k i → StaysIn (incident N k i)
  incident-stay (Happens e) timely = by-shape N k StaysIn stay-shapes e timely
  incident-stay (SaveClock c) timely = stay-append k.frames _
  incident-stay (GivesUp s) timely = gives_up-stay s (nat_lt s N.sessions)
  incident-stay (Observes c o) timely = observes-stay (nat_lt c N.clocks) (with_place k.clock c (noted (k.clock c) (moved_state o.clock o.ports (k.clock c).live)))
  incident-stay _ timely = λ n y is. is
