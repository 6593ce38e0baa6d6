-- One incident after another, among which sessions give up and hosts observe: what a network that never crashes does meanwhile, and the
-- state that it comes to.
use Rattle.ptpm_network.proofs.Common.{nat_lt, ◌≡◌, ℕ, ◌+◌, ◌-◌, ◌<◌, ◌⊎◌, inl, inr, slice_get, RequestValue, Bool, true, false, if◌then◌else◌, List, [], ◌∷◌, Option, Some, None, refl, sym, ◌∙◌, ap, subst, all_weaker, AllByRecursion, Contains, kept_reply, Report, with_place, IsNetwork, Network, manager, Held, RunningNetwork, initial_network}
use Rattle.std.specs.Prelude.{option_and_then}
use Rattle.std.proofs.lemmas.List.Elements.{Contains-push}
use Rattle.ptpm_manager.specs.declared.error.GiveUpRefusal.{GiveUpRefusal}
use Rattle.ptpm_manager.specs.Session.{give_up_refusal}
use Rattle.ptpm_network.specs.ByManager.{Account}
use Rattle.ptpm_network.specs.GivingUp as acts
use Rattle.ptpm_network.specs.GivingUp.{Act, After, AtStart, HasHistory, IsKeptReport, IsServedInOrder, account_after, network_act, nothing_yet}
use Rattle.ptpm_network.specs.State.{reports_of}
use Rattle.ptpm_network.proofs.GivingUp.{Works, honest-act, served-in-order, works-by}
use Rattle.ptpm_network.proofs.Honest.{IsHonest, first-honest}
use Rattle.ptpm_network.proofs.Promise.{first_of_sessions, firsts, stands-first}
use Rattle.ptpm_restarts.specs.ActsAsIfNever.{ActsAsIfNever, AreSomeActsOf, Ended, IsPossibleAct, IsPromisedActing, IsSameAct, Skip, Take, after_acts}
use Rattle.ptpm_restarts.specs.AsIfNever.{AreTimely, IsTimely}
use Rattle.ptpm_restarts.specs.Incidents.{CrashClock, CrashSession, GivesUp, Happens, Incident, Observes, SaveClock, SaveSession, after_incidents, incident, lets_go, refused}
use Rattle.ptpm_restarts.specs.Restarting.{RestartingNetwork, SessionLog, initial_restarting, log_of}
use Rattle.ptpm_restarts.specs.Storage.{Stored, noted}
use Rattle.ptpm_agent.specs.Observing.{moved_state}
use Rattle.ptpm_agent.specs.Turn.{State}
use Rattle.ptpm_restarts.proofs.Acting.{ActStep, AreKept, InTimeForAll, Moves, Remains, acting, event-act, gives-up-step, kept-event, kept-later, observes-step}
use Rattle.ptpm_restarts.specs.Asked.{BeginsAt, Sometime, TellsAt}
use Rattle.ptpm_restarts.proofs.Asking.{AreAskedAt, act-stays, begun-act, event-asked, gives_up-asked, nothing-told, observes-asked}
use Rattle.ptpm_restarts.proofs.Beside.{IsBeside, clock-crashed, clock-saved, session-crashed, session-saved}
use Rattle.ptpm_restarts.proofs.Runs.{clocks_lost, same-later, sessions_lost, sound-first, starts, step-unless}
use Rattle.ptpm_restarts.proofs.Sent.{all-held, all_contains}
use Rattle.ptpm_restarts.proofs.Shapes.{AreSound, incident-sound, incident-stay}
use Rattle.ptpm_restarts.proofs.Steps.{Stay, event-step}

-- ---- the accounts

-- all sessions' accounts after an act
abbrev accounts_after : Network → RunningNetwork → Act → (ℕ → Account) → ℕ → Account
accounts_after N r x a s = account_after N s r x (a s)

record Known (N : Network) (r : RunningNetwork) (a : ℕ → Account) : Type 0 where
  pub network : IsNetwork N
  pub honest : IsHonest N r
  pub history : (s : ℕ) → s < N.sessions → HasHistory N s r (a s)

known-works : (N : Network) (r : RunningNetwork) (a : ℕ → Account) → Known N r a → (s : ℕ) → s < N.sessions → Works N s r (a s)
known-works N r a known s place = works-by N s r (a s) (known.history s place)

known-after : (N : Network) (r next : RunningNetwork) (a : ℕ → Account) (x : Act)
    → Known N r a → network_act N r x ≡ Some next → acts.IsPossible x → ((s : ℕ) → s < N.sessions → acts.is_late_act N s r x ≡ false)
    → Known N next (accounts_after N r x a)
known-after N r next a x known happens' possible late = record {
  network = known.network;
  honest = honest-act N r known.network known.honest next x possible happens';
  history = λ s place. After r next (a s) x (known.history s place) (record { possible = possible; happens = happens'; in_time = late s place });
}

kept-after : (N : Network) (r next : RunningNetwork) (a : ℕ → Account) (x : Act) (k : RestartingNetwork)
    → Known N next (accounts_after N r x a) → AreKept N a k
    → AreKept N (accounts_after N r x a) k
kept-after N r next a x k known kept = λ s place.
    all_weaker (IsKeptReport (manager N s) (a s).accepted) (IsKeptReport (manager N s) (account_after N s r x (a s)).accepted)
    (λ report is. kept-later N s r (a s) x report (known-works N next (accounts_after N r x a) known s place).work.rising is) (k.told s) (kept s place)

-- ---- all incidents

-- this network has gone on by these acts while that one came to its end
record WentOn (N : Network) (r : RunningNetwork) (a : ℕ → Account) (k : RestartingNetwork) (is : List Incident) (xs : List Act) (network : RunningNetwork) (b : ℕ → Account) : Type 0 where
  pub led : after_acts N r xs ≡ Some network
  pub some : AreSomeActsOf (after_incidents N k is).frames network.frames xs is
  pub here : Stay k.frames (after_incidents N k is).frames
  pub there : Stay r.frames network.frames
  pub beside : IsBeside (λ c. false) (λ s. false) (after_incidents N k is) network
  pub sound : AreSound N (after_incidents N k is)
  pub known : Known N network b
  pub kept : AreKept N b (after_incidents N k is)
  pub stays : (s j : ℕ) (q : RequestValue) → slice_get (a s).begun j ≡ Some q → slice_get (b s).begun j ≡ Some q
  pub begun : (s j : ℕ) (q : RequestValue) → s < N.sessions → slice_get (b s).begun j ≡ Some q
      → (slice_get (a s).begun j ≡ Some q) ⊎ Sometime N (BeginsAt N s q (j + 1)) k is
  pub told : (s : ℕ) (report : Report) → Contains (k.told s) report → Contains ((after_incidents N k is).told s) report
  pub asked : (s : ℕ) (q : RequestValue) (report : Report) → s < N.sessions → Sometime N (TellsAt N s q report) k is
      → Contains ((after_incidents N k is).told s) report × (slice_get (b s).begun (report.index - 1) ≡ Some q)

record Went (N : Network) (r : RunningNetwork) (a : ℕ → Account) (k : RestartingNetwork) (is : List Incident) : Type 0 where
  pub xs : List Act
  pub network : RunningNetwork
  pub account : ℕ → Account
  pub on : WentOn N r a k is xs network account

-- what is reported by one incident, or by those after it
asked-next : (N : Network) (r : RunningNetwork) (a b : ℕ → Account) (k : RestartingNetwork) (i : Incident) (is : List Incident)
    → AreAskedAt N a k i → ((s j : ℕ) (q : RequestValue) → slice_get (a s).begun j ≡ Some q → slice_get (b s).begun j ≡ Some q)
    → (w : Went N r b (incident N k i) is)
    → (s : ℕ) (q : RequestValue) (report : Report) → s < N.sessions → Sometime N (TellsAt N s q report) k (i ∷ is)
    → Contains ((after_incidents N (incident N k i) is).told s) report × (slice_get (w.account s).begun (report.index - 1) ≡ Some q)
asked-next N r a b k i is now more w s q report place (inl at) = (
  w.on.told s report (subst (λ (told : List Report). Contains told report) (sym at.told) (Contains-push (k.told s) report)),
  w.on.stays s (report.index - 1) q (more s (report.index - 1) q ((now s).asked q report place at.under_way at.index_is at.told)),
)
asked-next N r a b k i is now more w s q report place (inr later) = w.on.asked s q report place later

same-act-later : (xs ys us vs : List Held) (i : Incident) (x : Act) → Stay xs us → Stay ys vs → IsSameAct xs ys i x → IsSameAct us vs i x
same-act-later xs ys us vs (Happens e) (acts.Happens f) a b is = same-later xs ys us vs e f a b is
same-act-later xs ys us vs (Happens e) (acts.GivesUp s) a b is = absurd is
same-act-later xs ys us vs (Happens e) (acts.Observes c o) a b is = absurd is
same-act-later xs ys us vs (GivesUp s) x a b is = is
same-act-later xs ys us vs (Observes c o) x a b is = is
same-act-later xs ys us vs (SaveClock c) x a b is = absurd is
same-act-later xs ys us vs (SaveSession s) x a b is = absurd is
same-act-later xs ys us vs (CrashClock c) x a b is = absurd is
same-act-later xs ys us vs (CrashSession s) x a b is = absurd is

went-nothing : (N : Network) (r : RunningNetwork) (a : ℕ → Account) (k : RestartingNetwork) (i : Incident) (is : List Incident) → IsTimely N k i
    → AreAskedAt N a k i
    → Went N r a (incident N k i) is
    → Went N r a k (i ∷ is)
went-nothing N r a k i is timely now w = record {
  xs = w.xs;
  network = w.network;
  account = w.account;
  on = record {
    led = w.on.led;
    some = Skip i w.xs is w.on.some;
    here = λ n x e. w.on.here n x (incident-stay N k i timely n x e);
    there = w.on.there;
    beside = w.on.beside;
    sound = w.on.sound;
    known = w.on.known;
    kept = w.on.kept;
    stays = w.on.stays;
    begun = λ s j q place at. elim (w.on.begun s j q place at) [ inl before ↦ inl before | inr later ↦ inr (inr later) ];
    told = λ s report has. w.on.told s report ((now s).stays report has);
    asked = asked-next N r a a k i is now (λ s j q at. at) w;
  };
}

went-act : (N : Network) (r next : RunningNetwork) (a : ℕ → Account) (k : RestartingNetwork) (i : Incident) (x : Act) (is : List Incident) → IsTimely N k i
    → AreAskedAt N a k i
    → ((s j : ℕ) (q : RequestValue) → s < N.sessions → slice_get (accounts_after N r x a s).begun j ≡ Some q
    → (slice_get (a s).begun j ≡ Some q) ⊎ BeginsAt N s q (j + 1) k i)
    → network_act N r x ≡ Some next → IsSameAct k.frames r.frames i x → Stay r.frames next.frames
    → Went N next (accounts_after N r x a) (incident N k i) is
    → Went N r a k (i ∷ is)
went-act N r next a k i x is timely now fresh happens' same stay w = record {
  xs = x ∷ w.xs;
  network = w.network;
  account = w.account;
  on = record {
    led = ap (λ (o : Option RunningNetwork). option_and_then (λ y. after_acts N y w.xs) o) happens' ∙ w.on.led;
    some = Take i x w.xs is
        (same-act-later k.frames r.frames (after_incidents N (incident N k i) is).frames w.network.frames i x
        (λ n y p. w.on.here n y (incident-stay N k i timely n y p)) (λ n y p. w.on.there n y (stay n y p)) same) w.on.some;
    here = λ n y p. w.on.here n y (incident-stay N k i timely n y p);
    there = λ n y p. w.on.there n y (stay n y p);
    beside = w.on.beside;
    sound = w.on.sound;
    known = w.on.known;
    kept = w.on.kept;
    stays = λ s j q at. w.on.stays s j q (act-stays N s r x (a s) j q at);
    begun = λ s j q place at. elim (w.on.begun s j q place at) [
      | inl there ↦ elim (fresh s j q place there) [ inl before ↦ inl before | inr here ↦ inr (inl here) ]
      | inr later ↦ inr (inr later)
    ];
    told = λ s report has. w.on.told s report ((now s).stays report has);
    asked = asked-next N next a (accounts_after N r x a) k i is now (λ s j q at. act-stays N s r x (a s) j q at) w;
  };
}

-- by one incident, and whatever comes after it
went-by : (N : Network) (r : RunningNetwork) (a : ℕ → Account) (k : RestartingNetwork) (i : Incident) (is : List Incident) → IsTimely N k i
    → Known N r a → AreKept N a (incident N k i) → IsBeside (clocks_lost is) (sessions_lost is) k r → AreAskedAt N a k i
    → ((x : RunningNetwork) (b : ℕ → Account) → IsBeside (clocks_lost is) (sessions_lost is) (incident N k i) x → Known N x b → AreKept N b (incident N k i)
    → Went N x b (incident N k i) is)
    → ActStep N r k.frames (clocks_lost is) (sessions_lost is) i (incident N k i)
    → Went N r a k (i ∷ is)
went-by N r a k i is timely known kept beside now behind (Remains h) = went-nothing N r a k i is timely now (behind r a h known kept)
went-by N r a k i is timely known kept beside now behind (Moves x next happens' possible late same stay h) =
    let later = known-after N r next a x known happens' possible late in
    went-act N r next a k i x is timely now
    (λ s j q place. begun-act N (clocks_lost is) (sessions_lost is) k r next s (a s) beside (known-works N r a known s place).work.issued i x j q same h
    (known-works N next (accounts_after N r x a) later s place).work.issued)
    happens' same stay (behind next (accounts_after N r x a) h later (kept-after N r next a x (incident N k i) later kept))

-- what no session is told by
kept-given_up : (N : Network) (a : ℕ → Account) (k : RestartingNetwork) (s : ℕ) (o : Option GiveUpRefusal) → AreKept N a k → AreKept N a (lets_go o k s)
kept-given_up N a k s None kept = kept
kept-given_up N a k s (Some reason) kept = kept

kept-gives_up : (N : Network) (a : ℕ → Account) (k : RestartingNetwork) (s : ℕ) (b : Bool) → AreKept N a k
    → AreKept N a (if b then lets_go (give_up_refusal (k.session s).live.session) k s else k)
kept-gives_up N a k s true kept = kept-given_up N a k s (give_up_refusal (k.session s).live.session) kept
kept-gives_up N a k s false kept = kept

kept-observes : (N : Network) (a : ℕ → Account) (k : RestartingNetwork) (b : Bool) (clock : ℕ → Stored State) → AreKept N a k
    → AreKept N a (if b then record k { clock = clock } else k)
kept-observes N a k true clock kept = kept
kept-observes N a k false clock kept = kept

went : (N : Network) (r : RunningNetwork) (a : ℕ → Account) (k : RestartingNetwork) (is : List Incident)
    → IsBeside (clocks_lost is) (sessions_lost is) k r → AreSound N k → Known N r a → AreKept N a k
    → AllByRecursion IsPossibleAct is → AreTimely N k is
    → Went N r a k is
went N r a k [] h sound known kept possible timely = record {
  xs = [];
  network = r;
  account = a;
  on = record { led = refl; some = Ended; here = λ n x e. e; there = λ n x e. e; beside = h; sound = sound; known = known; kept = kept; stays = λ s j q at. at; begun = λ s j q place at. inl at; told = λ s report has. has; asked = λ s q report place at. absurd at };
}
went N r a k (Happens e ∷ is) h sound known kept possible timely =
    let lc = clocks_lost is in let ls = sessions_lost is in
    let works = known-works N r a known in
    let facts = acting lc ls N a k r h sound known.network known.honest works in
    went-by N r a k (Happens e) is timely.0 known (kept-event lc ls N a k r h sound known.network known.honest works e timely.0 kept) h (event-asked N a k lc ls r h facts works e timely.0)
    (λ x b beside later kept'. went N x b (incident N k (Happens e)) is beside (incident-sound N k sound (Happens e) timely.0) later kept' possible.1 timely.1)
    (event-act N r k.frames lc ls e (incident N k (Happens e))
    (step-unless lc ls N (InTimeForAll N r) k r e (refused N k e) h refl (λ none. event-step lc ls N (InTimeForAll N r) k r h facts e possible.0 (timely.0 none) none)))
went N r a k (GivesUp s ∷ is) h sound known kept possible timely =
    let lc = clocks_lost is in let ls = sessions_lost is in
    let facts = acting lc ls N a k r h sound known.network known.honest (known-works N r a known) in
    went-by N r a k (GivesUp s) is tt known (kept-gives_up N a k s (nat_lt s N.sessions) kept) h (gives_up-asked N a k s (nat_lt s N.sessions))
    (λ x b beside later kept'. went N x b (incident N k (GivesUp s)) is beside (incident-sound N k sound (GivesUp s) tt) later kept' possible.1 timely.1)
    (gives-up-step lc ls N a k r h facts s (nat_lt s N.sessions) refl)
went N r a k (Observes c o ∷ is) h sound known kept possible timely =
    let lc = clocks_lost is in let ls = sessions_lost is in
    let facts = acting lc ls N a k r h sound known.network known.honest (known-works N r a known) in
    went-by N r a k (Observes c o) is tt known (kept-observes N a k (nat_lt c N.clocks) (with_place k.clock c (noted (k.clock c) (moved_state o.clock o.ports (k.clock c).live))) kept)
    h (observes-asked N a k (nat_lt c N.clocks) (with_place k.clock c (noted (k.clock c) (moved_state o.clock o.ports (k.clock c).live))))
    (λ x b beside later kept'. went N x b (incident N k (Observes c o)) is beside (incident-sound N k sound (Observes c o) tt) later kept' possible.1 timely.1)
    (observes-step lc ls N a k r h facts c o (nat_lt c N.clocks) refl possible.0)
went N r a k (SaveClock c ∷ is) h sound known kept possible timely =
    went-nothing N r a k (SaveClock c) is tt (nothing-told N a k)
    (went N r a (incident N k (SaveClock c)) is (clock-saved (clocks_lost is) (sessions_lost is) k r c h) (incident-sound N k sound (SaveClock c) tt) known kept possible.1 timely.1)
went N r a k (SaveSession s ∷ is) h sound known kept possible timely =
    went-nothing N r a k (SaveSession s) is tt (nothing-told N a k)
    (went N r a (incident N k (SaveSession s)) is (session-saved (clocks_lost is) (sessions_lost is) k r s h) (incident-sound N k sound (SaveSession s) tt) known kept possible.1 timely.1)
went N r a k (CrashClock c ∷ is) h sound known kept possible timely =
    went-nothing N r a k (CrashClock c) is tt (nothing-told N a k)
    (went N r a (incident N k (CrashClock c)) is (clock-crashed (clocks_lost is) (sessions_lost is) k r c h) (incident-sound N k sound (CrashClock c) tt) known kept possible.1 timely.1)
went N r a k (CrashSession s ∷ is) h sound known kept possible timely =
    went-nothing N r a k (CrashSession s) is tt (nothing-told N a k)
    (went N r a (incident N k (CrashSession s)) is (session-crashed (clocks_lost is) (sessions_lost is) k r s h) (incident-sound N k sound (CrashSession s) tt) known kept possible.1 timely.1)

-- ---- from the start

first-known : (N : Network) → IsNetwork N → Known N (initial_network N) (λ s. nothing_yet)
first-known N n =
    let start = stands-first N n in
    record {
      network = n;
      honest = first-honest N (first_of_sessions N N.sessions) (initial_network N) n (start.stands (first_of_sessions N N.sessions) (firsts N n));
      history = λ s place. AtStart (initial_network N) place start;
    }

pub acts_as_if_never : (N : Network) (is : List Incident) → IsPromisedActing N is → ActsAsIfNever N is (after_incidents N (initial_restarting N) is)
acts_as_if_never N is p =
    let k : RestartingNetwork = after_incidents N (initial_restarting N) is in
    let w = went N (initial_network N) (λ s. nothing_yet) (initial_restarting N) is (starts N (clocks_lost is) (sessions_lost is)) (sound-first N)
    (first-known N p.network) (λ s place. tt) p.possible p.timely in
    let network : RunningNetwork = w.network in
    let same : (s : ℕ) → (k.session s).live ≡ log_of network s = λ s. sym (w.on.beside.sessions s).at in
    record {
      through = w.xs;
      network = network;
      led = w.on.led;
      some = w.on.some;
      same = (λ i. record { clock = λ c. sym (w.on.beside.clocks c).at i; session = λ s. (same s i).session; reports = λ s. (same s i).reports; frames = network.frames });
      frames = all-held k.frames k.waiting network.frames w.on.beside.frames;
      account = w.account;
      history = w.on.known.history;
      reported = λ s. subst (λ (l : SessionLog). AllByRecursion (Contains (k.told s)) l.reports) (same s) (w.on.sound s).told_live;
      kept = w.on.kept;
      begun = λ s j q place at. elim (w.on.begun s j q place at) [ inl before ↦ absurd (cc) | inr here ↦ here ];
      asked = w.on.asked;
    }

-- ---- what follows

pub served-among-acts : (N : Network) (is : List Incident) (k : RestartingNetwork) (s : ℕ) (a : ActsAsIfNever N is k)
    → s < N.sessions
    → IsServedInOrder N s a.network (a.account s)
served-among-acts N is k s a place = served-in-order N s a.network (a.account s) (a.history s place)

pub told-same-report : (N : Network) (is : List Incident) (k : RestartingNetwork) (s : ℕ) (x y : Report)
    → ActsAsIfNever N is k → s < N.sessions → Contains (k.told s) x → Contains (k.told s) y → x.index ≡ y.index
    → x ≡ y
told-same-report N is k s x y a place has had same =
    let m = manager N s in
    let es = (a.account s).accepted in
    let one : reports_of x.index (kept_reply m x.index es) ≡ x ∷ [] = all_contains (IsKeptReport m es) (k.told s) x (a.kept s place) has in
    let two : reports_of y.index (kept_reply m y.index es) ≡ y ∷ [] = all_contains (IsKeptReport m es) (k.told s) y (a.kept s place) had in
    let both : x ∷ [] ≡ y ∷ [] = sym one ∙ ap (λ j. reports_of j (kept_reply m j es)) same ∙ two in
    cc
