-- What a session asked here, it asked where the network never crashes: the requests that it began, and those that its reports are to.
use Rattle.ptpm_network.proofs.Common.{by_test, arith, ◌≡◌, ℕ, ◌+◌, ◌-◌, ◌<◌, ◌==◌, ◌⊎◌, inl, inr, zero, suc, Bool, true, false, if◌then◌else◌, List, [], ◌∷◌, ◌++◌, length, length-append, Option, Some, None, refl, sym, ◌∙◌, ap, subst, cond-true, cond-false, eqb-true, slice_get, Contains, Ask, Report, RequestValue, SessionValue, State, begun, received_of, Event, Begin, Send, Resume, Retune, Deliver, Replay, Stranger, Refusal, frame_at, with_place, Network, Held, RunningNetwork, at_place}
use Rattle.std.proofs.lemmas.List.Elements.{Contains-append_left}
use Rattle.ptpm_manager.specs.declared.error.GiveUpRefusal.{GiveUpRefusal}
use Rattle.ptpm_manager.specs.declared.receiving.Received.TheVariants as received
use Rattle.ptpm_manager.specs.Ask.{request_of}
use Rattle.ptpm_manager.specs.Session.{give_up_refusal}
use Rattle.ptpm_network.specs.ByManager.{Account, with_begun}
use Rattle.ptpm_network.specs.GivingUp as acts
use Rattle.ptpm_network.specs.GivingUp.{Act, account_after}
use Rattle.ptpm_network.proofs.GivingUp.{Works}
use Rattle.ptpm_network.proofs.Lists.{get_append}
use Rattle.ptpm_restarts.specs.ActsAsIfNever.{IsSameAct}
use Rattle.ptpm_restarts.specs.AsIfNever.{IsSame, IsTimely, is_late_in}
use Rattle.ptpm_restarts.specs.Asked.{BeginsAt, Sometime}
use Rattle.ptpm_restarts.specs.Incidents.{CrashClock, CrashSession, GivesUp, Happens, Incident, Observes, SaveClock, SaveSession, after_incidents, incident, lets_go, refused, unless}
use Rattle.ptpm_restarts.specs.Restarting.{RestartingNetwork, SessionLog, begins, log_of, log_with, sent_or_waiting}
use Rattle.ptpm_restarts.specs.Storage.{Stored, changed}
use Rattle.ptpm_restarts.proofs.Acting.{InTimeForAll}
use Rattle.ptpm_restarts.proofs.Beside.{IsBeside, here, IsSettled}
use Rattle.ptpm_restarts.proofs.Sent.{all_contains}
use Rattle.ptpm_restarts.proofs.Shapes.{ByShape, by-shape}
use Rattle.ptpm_restarts.proofs.Steps.{Facts, among, numbered}

-- ---- reports

not-more : (told : List Report) (report : Report) → told ≡ told ++ report ∷ [] → ⊥
not-more told report e =
    let lengths : length told ≡ length (told ++ report ∷ []) = ap (λ (x : List Report). length x) e in
    omega (arith, lengths, length-append told (report ∷ []))

-- What was told before is told then. What is told beyond it is to the request that was begun as the one of its index.
pub record IsAskedIn (N : Network) (a : ℕ → Account) (k : RestartingNetwork) (t : ℕ) (told : List Report) : Type 0 where
  pub stays : (report : Report) → Contains (k.told t) report → Contains told report
  pub asked : (q : RequestValue) (report : Report) → t < N.sessions → (k.session t).live.session.unanswered ≡ Some q
      → report.index ≡ (k.session t).live.session.issued → told ≡ k.told t ++ report ∷ []
      → slice_get (a t).begun (report.index - 1) ≡ Some q

abbrev pub AreAskedAt : Network → (ℕ → Account) → RestartingNetwork → Incident → Type 0
AreAskedAt N a k i = (t : ℕ) → IsAskedIn N a k t ((incident N k i).told t)

module _ (N : Network) (a : ℕ → Account) (k : RestartingNetwork) where
  pub nothing-told : (t : ℕ) → IsAskedIn N a k t (k.told t)
  nothing-told t = record { stays = λ report has. has; asked = λ q report place under index e. absurd (not-more (k.told t) report e) }

  given_up-asked : (s : ℕ) (o : Option GiveUpRefusal) (t : ℕ) → IsAskedIn N a k t ((lets_go o k s).told t)
  given_up-asked s None t = nothing-told t
  given_up-asked s (Some reason) t = nothing-told t

  pub gives_up-asked : (s : ℕ) (b : Bool) (t : ℕ) → IsAskedIn N a k t ((if b then lets_go (give_up_refusal (k.session s).live.session) k s else k).told t)
  gives_up-asked s true t = given_up-asked s (give_up_refusal (k.session s).live.session) t
  gives_up-asked s false t = nothing-told t

  pub observes-asked : (b : Bool) (clock : ℕ → Stored State) (t : ℕ) → IsAskedIn N a k t ((if b then record k { clock = clock } else k).told t)
  observes-asked true clock t = nothing-told t
  observes-asked false clock t = nothing-told t

  turns-asked : (c : ℕ) (x : Stored State) (made : List Held) (b : Bool) (t : ℕ)
      → IsAskedIn N a k t ((sent_or_waiting b (record k { clock = with_place k.clock c x }) c made).told t)
  turns-asked c x made true t = nothing-told t
  turns-asked c x made false t = nothing-told t

  module _ (lc ls : ℕ → Bool) (r : RunningNetwork) (h : IsBeside lc ls k r) (facts : Facts N (InTimeForAll N r) k r) (works : (s : ℕ) → s < N.sessions → Works N s r (a s)) where
    asked-there : (s m : ℕ) (x : Held) (report : Report)
        → frame_at r.frames m ≡ Some x → is_late_in k x.origin ≡ false
        → received_of (k.session s).live.session x.octets ≡ received.Answered report
        → (q : RequestValue) (other : Report) → s < N.sessions → (k.session s).live.session.unanswered ≡ Some q
        → other.index ≡ (k.session s).live.session.issued
        → slice_get (a s).begun (other.index - 1) ≡ Some q
    asked-there s m x report is timely hears q other place under index =
        let same : r.session s ≡ (k.session s).live.session = ap (λ (l : SessionLog). l.session) (facts.heard s m x report place is timely hears) in
        let issued : (r.session s).issued ≡ other.index = ap (λ (v : SessionValue). v.issued) same ∙ sym index in
        subst (λ n. slice_get (a s).begun (n - 1) ≡ Some q) issued ((works s place).work.last_begun q (ap (λ (v : SessionValue). v.unanswered) same ∙ under))

    asked-shapes : ByShape N k (λ j. (t : ℕ) → IsAskedIn N a k t (j.told t))
    asked-shapes = record {
      same = nothing-told;
      turns = turns-asked;
      begins = λ s q. nothing-told;
      notes = λ s v x y z. nothing-told;
      sends = λ s. nothing-told;
      replays = λ m end x is. nothing-told;
      hears = λ m s x report is end timely room e t.
          let there = numbered r.frames x (all_contains (Contains r.frames) k.frames x h.frames.sent (among k.frames m x is)) in
          at_place (IsAskedIn N a k) k.told s (k.told s ++ report ∷ []) t
          (record {
            stays = λ other has. Contains-append_left (k.told s) (report ∷ []) other has;
            asked = λ q other place under index more. asked-there s there.0 x report there.1 timely e q other place under index;
          }) (nothing-told t);
    }

    pub event-asked : (e : Event) → IsTimely N k (Happens e) → AreAskedAt N a k (Happens e)
    event-asked e timely = by-shape N k (λ j. (t : ℕ) → IsAskedIn N a k t (j.told t)) asked-shapes e timely

-- ---- requests

pub begun-stays : (s : ℕ) (e : Event) (before : List RequestValue) (j : ℕ) (q : RequestValue)
    → slice_get before j ≡ Some q
    → slice_get (with_begun s e before) j ≡ Some q
begun-stays s (Begin t ask) before j q is = by_test (t == s)
    (λ y. ap (λ (l : List RequestValue). slice_get l j) (cond-true (t == s) (before ++ request_of ask ∷ []) before y) ∙ get_append before (request_of ask ∷ []) j q is)
    (λ n. ap (λ (l : List RequestValue). slice_get l j) (cond-false (t == s) (before ++ request_of ask ∷ []) before n) ∙ is)
begun-stays s _ before j q is = is

pub act-stays : (N : Network) (s : ℕ) (r : RunningNetwork) (x : Act) (a : Account) (j : ℕ) (q : RequestValue)
    → slice_get a.begun j ≡ Some q
    → slice_get (account_after N s r x a).begun j ≡ Some q
act-stays N s r (acts.Happens e) a j q is = begun-stays s e a.begun j q is
act-stays N s r _ a j q is = is

-- the last of these, or one of those before
last-or : (xs : List RequestValue) (y : RequestValue) (j : ℕ) (q : RequestValue)
    → slice_get (xs ++ y ∷ []) j ≡ Some q
    → (slice_get xs j ≡ Some q) ⊎ ((j ≡ length xs) × (y ≡ q))
last-or [] y zero q is = inr (refl, cc)
last-or [] y (suc j) q is = absurd (cc)
last-or (x ∷ xs) y zero q is = inl is
last-or (x ∷ xs) y (suc j) q is = elim (last-or xs y j q is) [ inl before ↦ inl before | inr last ↦ inr (let at = last.0 in omega arith, last.1) ]

pub same-begin : (xs ys : List Held) (e : Event) (t : ℕ) (ask : Ask) → IsSame xs ys e (Begin t ask) → e ≡ Begin t ask
same-begin xs ys (Begin s other) t ask is = is
same-begin xs ys (Send s) t ask is = is
same-begin xs ys (Resume s attempts) t ask is = is
same-begin xs ys (Retune s domain) t ask is = is
same-begin xs ys (Deliver n) t ask is = is
same-begin xs ys (Replay n end) t ask is = is
same-begin xs ys (Stranger c port datagram) t ask is = is

-- the request that is begun there is begun here, as the one of the same index
record Counts (N : Network) (k : RestartingNetwork) (r : RunningNetwork) (s : ℕ) (ask : Ask) : Type 0 where
  taken : refused N k (Begin s ask) ≡ None
  same : (r.session s).issued ≡ (k.session s).live.session.issued

settled-counts : (lost : Bool) (x : Stored SessionLog) (before after next : SessionLog)
    → IsSettled lost x before → IsSettled lost (changed x next) after
    → after.session.issued ≡ before.session.issued + 1
    → before.session.issued ≡ x.live.session.issued
settled-counts true x before after next h g more =
    absurd (let one : after.session.issued ≡ before.session.issued = ap (λ (l : SessionLog). l.session.issued) (g.at ∙ sym h.at) in omega arith)
settled-counts false x before after next h g more = ap (λ (l : SessionLog). l.session.issued) h.at

counts-by : (N : Network) (lc ls : ℕ → Bool) (k : RestartingNetwork) (r next : RunningNetwork) (s : ℕ) (ask : Ask) (o : Option Refusal)
    → refused N k (Begin s ask) ≡ o
    → IsBeside lc ls k r → IsBeside lc ls (unless o k (begins k s (begun (k.session s).live.session (request_of ask)))) next
    → (next.session s).issued ≡ (r.session s).issued + 1
    → Counts N k r s ask
counts-by N lc ls k r next s ask None is h g more =
    let after : Stored SessionLog = changed (k.session s) (log_with k s (begun (k.session s).live.session (request_of ask))) in
    record {
      taken = is;
      same = settled-counts (ls s) (k.session s) (log_of r s) (log_of next s) (log_with k s (begun (k.session s).live.session (request_of ask))) (h.sessions s)
          (subst (λ (x : Stored SessionLog). IsSettled (ls s) x (log_of next s)) (here k.session s after) (g.sessions s)) more;
    }
counts-by N lc ls k r next s ask (Some reason) is h g more =
    absurd (let one : (next.session s).issued ≡ (r.session s).issued = ap (λ (l : SessionLog). l.session.issued) ((g.sessions s).at ∙ sym (h.sessions s).at) in omega arith)

-- what is new among the requests begun there
module _ (N : Network) (lc ls : ℕ → Bool) (k : RestartingNetwork) (r next : RunningNetwork) (s : ℕ) (a : Account) (h : IsBeside lc ls k r)
    (issued : (r.session s).issued ≡ length a.begun) where
  begun-event : (e f : Event) (j : ℕ) (q : RequestValue)
      → IsSame k.frames r.frames e f
      → IsBeside lc ls (incident N k (Happens e)) next
      → (next.session s).issued ≡ length (with_begun s f a.begun)
      → slice_get (with_begun s f a.begun) j ≡ Some q
      → (slice_get a.begun j ≡ Some q) ⊎ BeginsAt N s q (j + 1) k (Happens e)
  begun-event e (Begin t ask) j q same g counted is = by_test (t == s)
      (λ y.
      let at : t ≡ s = eqb-true t s y in
      let with_it : with_begun s (Begin t ask) a.begun ≡ a.begun ++ request_of ask ∷ [] = cond-true (t == s) (a.begun ++ request_of ask ∷ []) a.begun y in
      let event : e ≡ Begin s ask = same-begin k.frames r.frames e t ask same ∙ ap (λ u. Begin u ask) at in
      let more : (next.session s).issued ≡ (r.session s).issued + 1 =
      counted ∙ ap (λ (l : List RequestValue). length l) with_it ∙ length-append a.begun (request_of ask ∷ []) ∙ ap (λ n. n + 1) (sym issued) in
      let counts = counts-by N lc ls k r next s ask (refused N k (Begin s ask)) refl h
      (subst (λ (d : Event). IsBeside lc ls (incident N k (Happens d)) next) event g) more in
      elim (last-or a.begun (request_of ask) j q (ap (λ (l : List RequestValue). slice_get l j) (sym with_it) ∙ is)) [
        | inl before ↦ inl before
        | inr last ↦ inr (record {
          ask = ask;
          is = ap (λ (d : Event). Happens d) event;
          taken = counts.taken;
          request_is = last.1;
          index_is = ap (λ n. n + 1) (last.0 ∙ sym issued ∙ counts.same);
        })
      ])
      (λ n. inl (ap (λ (l : List RequestValue). slice_get l j) (sym (cond-false (t == s) (a.begun ++ request_of ask ∷ []) a.begun n)) ∙ is))
  begun-event e _ j q same g counted is = inl is

  pub begun-act : (i : Incident) (x : Act) (j : ℕ) (q : RequestValue)
      → IsSameAct k.frames r.frames i x
      → IsBeside lc ls (incident N k i) next
      → (next.session s).issued ≡ length (account_after N s r x a).begun
      → slice_get (account_after N s r x a).begun j ≡ Some q
      → (slice_get a.begun j ≡ Some q) ⊎ BeginsAt N s q (j + 1) k i
  begun-act (Happens e) (acts.Happens f) j q same g counted is = begun-event e f j q same g counted is
  begun-act (GivesUp t) (acts.Happens f) j q same g counted is = absurd (cc)
  begun-act (Observes c o) (acts.Happens f) j q same g counted is = absurd (cc)
  begun-act (SaveClock c) (acts.Happens f) j q same g counted is = absurd same
  begun-act (SaveSession t) (acts.Happens f) j q same g counted is = absurd same
  begun-act (CrashClock c) (acts.Happens f) j q same g counted is = absurd same
  begun-act (CrashSession t) (acts.Happens f) j q same g counted is = absurd same
  begun-act i _ j q same g counted is = inl is

-- ---- what happens sometime

pub sometime-first : (N : Network) (P : RestartingNetwork → Incident → Type 0) (k : RestartingNetwork) (is js : List Incident)
    → Sometime N P k is
    → Sometime N P k (is ++ js)
sometime-first N P k [] js h = absurd h
sometime-first N P k (i ∷ is) js (inl here) = inl here
sometime-first N P k (i ∷ is) js (inr later) = inr (sometime-first N P (incident N k i) is js later)

pub sometime-later : (N : Network) (P : RestartingNetwork → Incident → Type 0) (k : RestartingNetwork) (is js : List Incident)
    → Sometime N P (after_incidents N k is) js
    → Sometime N P k (is ++ js)
sometime-later N P k [] js h = h
sometime-later N P k (i ∷ is) js h = inr (sometime-later N P (incident N k i) is js h)

-- it happens in the first of these, or in the others
pub sometime-cases : (N : Network) (P : RestartingNetwork → Incident → Type 0) (k : RestartingNetwork) (is js : List Incident)
    → Sometime N P k (is ++ js)
    → Sometime N P k is ⊎ Sometime N P (after_incidents N k is) js
sometime-cases N P k [] js h = inr h
sometime-cases N P k (i ∷ is) js (inl here) = inl (inl here)
sometime-cases N P k (i ∷ is) js (inr later) =
    elim (sometime-cases N P (incident N k i) is js later) [ inl first ↦ inl (inr first) | inr second ↦ inr second ]
