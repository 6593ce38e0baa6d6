-- Which events leave a way: all but those of the session's own and requests for DOMAIN and DISABLE_PORT at its clocks.
use Rattle.ptpm_network.proofs.Common.{length, LastIsForOne, subst, Replay, by_test, suc, zero, arith, ◌≡◌, ℕ, ◌<◌, ◌≤◌, ◌+◌, ◌-◌, ◌==◌, ◌||◌, ◌⊎◌, not, Bool, true, false, List, [], ◌∷◌, Option, Some, None, refl, sym, ◌∙◌, ap, map, slice_get, find, and_parts, cond-true, cond-false, eq-eqb, eqb-true, not-true, or_cases, true≢false, AllByRecursion, DataSetsValue, is_forwarding_port, may_forward, is_named, set_members, row_of, changed_by, RequestValue, after_arrival, History, RequestCopy, Clock, Begin, Deliver, Event, IsInRange, Resume, Retune, Send, Stranger, refusal, IsReached, arrives, delivery, happens, strange_frame, with_place, IsNetwork, Network, Frame, NetworkState, greatest_accepted, history, issued, Hop, at_place, with_place-other, with_place-same, run, initial_state, step}
use Rattle.std.specs.List.{enumerate_from, list_all}
use Rattle.ptpm_data.specs.declared.rights.Rights.{Rights}
use Rattle.ptpm_data.specs.declared.data_sets.PortDataSet.{PortDataSet}
use Rattle.ptpm_data.specs.declared.management_id.Layout.{Layout}
use Rattle.ptpm_data.specs.declared.port_state.PortState.{PortState}
use Rattle.ptpm_data.specs.Changes.{changed_at, changed_if}
use Rattle.ptpm_data.specs.ManagementId.{RowValue}
use Rattle.ptpm_data.specs.PortChange.{enabled}
use Rattle.ptpm_data.specs.PortState.{is_forwarding}
use Rattle.ptpm_network.specs.Way.{IsWayIn}
use Rattle.ptpm_network.specs.Meanwhile.{StaysOpen, concerns, is_closing, may_close}
use Rattle.ptpm_network.proofs.Accepting.{greatest-grows}
use Rattle.ptpm_network.proofs.Arriving.{history-elsewhere, history-here}
use Rattle.std.proofs.Common.{rules, le_refl}
use Rattle.ptpm_network.proofs.Reaching.{after-delivery, step-reached, after-step, reached}
use Rattle.ptpm_network.proofs.Standing.{strange-happens}
use Rattle.ptpm_network.proofs.Lists.{flipped}
use Rattle.ptpm_network.proofs.Answerable.{leaves-nothing}
use Rattle.ptpm_data.specs.declared.management_id.Layout.TheVariants as layouts
use Rattle.ptpm_data.specs.declared.port_state.PortState.TheVariants as states
use Rattle.ptpm_network.proofs.meanwhile_laws.ways_stay_open.Goals as goal
unfoldable use Rattle.ptpm_data.specs.Changes.{commanded, named_changed}

-- ---- a request for another id

-- the same domain, and the same ports forward
record SameOpen (d e : DataSetsValue) : Type 0 where
  pub domain : e.default.domain ≡ d.default.domain
  pub ports : (port : ℕ) → may_forward port e ≡ may_forward port d

open-same : (d : DataSetsValue) → SameOpen d d
open-same d = record { domain = refl; ports = λ port. refl }

-- a change at ports that moves none into or out of a state in which it forwards
abbrev Forwards : (PortDataSet → PortDataSet) → Type 0
Forwards change = (p : PortDataSet) → is_forwarding (change p).state ≡ is_forwarding p.state

forwards-at : (port : ℕ) (change : PortDataSet → PortDataSet) (k : ℕ) (ps : List PortDataSet) (i : ℕ)
    → Forwards change
    → is_forwarding_port (slice_get (map (λ e. changed_if (is_named port e.0) change e.1) (enumerate_from k ps)) i)
    ≡ is_forwarding_port (slice_get ps i)
forwards-at port change k [] i same = refl
forwards-at port change k (p ∷ ps) zero same = grind arith
forwards-at port change k (p ∷ ps) (suc i) same = forwards-at port change (k + 1) ps i same

ports-open : (port : ℕ) (d : DataSetsValue) (change : PortDataSet → PortDataSet)
    → Forwards change
    → SameOpen d (record d { ports = named_changed port change d.ports })
unfolding named_changed
ports-open port d change same = grind (arith, cond-true, cond-false, forwards-at)

enabled-forwards : (s : PortState) → is_forwarding (enabled s) ≡ is_forwarding s
enabled-forwards states.Disabled = refl
enabled-forwards _ = refl

-- only of these two layouts
abbrev closes : Layout → Bool
closes layouts.Domain = true
closes layouts.DisablePort = true
closes _ = false

set-open : (layout : Layout) (port : ℕ) (octets : List ℕ) (d : DataSetsValue)
    → closes layout ≡ false
    → SameOpen d (set_members layout port octets d)
unfolding set_members
set-open layouts.Domain port octets d n = absurd (true≢false n)
set-open (layouts.Setting s) port octets d n = ports-open port d _ (λ p. refl)
set-open _ port octets d n = record { domain = refl; ports = λ port. refl }

command-open : (layout : Layout) (port : ℕ) (d : DataSetsValue)
    → closes layout ≡ false
    → SameOpen d (commanded layout port d)
unfolding commanded
command-open layouts.EnablePort port d n = ports-open port d _ (λ p. enabled-forwards p.state)
command-open layouts.DisablePort port d n = absurd (true≢false n)
command-open _ port d n = open-same d

-- ---- the rows of the table

-- a row of another id has another layout
abbrev says_so : RowValue → Bool
says_so row = not (closes row.layout) || (row.id == 0x2007 || row.id == 0x200e)

found-says : (test : RowValue → Bool) (rows : List RowValue) (row : RowValue)
    → list_all says_so rows ≡ true → find test rows ≡ Some row
    → (says_so row ≡ true) × (test row ≡ true)
found-says test [] row all e = absurd (cc)
found-says test (r ∷ rows) row all e =
    let parts = and_parts (says_so r) (list_all says_so rows) all in
    by_test (test r)
    (λ y. grind (arith, cond-true))
    (λ n. found-says test rows row parts.1 (sym (cond-false _ _ _ n) ∙ e))

row-open : (id : ℕ) (row : RowValue)
    → row_of id ≡ Some row → (id == 0x2007 || id == 0x200e) ≡ false
    → closes row.layout ≡ false
unfolding row_of
row-open id row e n = grind (arith, found-says, eqb-true, not-true, true≢false, or_cases)

changed_at-open : (o : Option RowValue) (q : RequestValue) (rights : Rights) (d : DataSetsValue)
    → row_of q.id ≡ o → (q.id == 0x2007 || q.id == 0x200e) ≡ false
    → SameOpen d (changed_at o q rights d)
changed_at-open None q rights d e n = open-same d
changed_at-open (Some row) q rights d e n = grind (arith, row-open, set-open, command-open, open-same)

-- ---- what comes in at a clock

arrival-open : (c : Clock) (h : History) (o : Option RequestCopy)
    → is_closing o ≡ false
    → SameOpen h.sets (after_arrival c h o).sets
unfolding changed_by
arrival-open c h None n = open-same h.sets
arrival-open c h (Some copy) n = grind (arith, changed_at-open, open-same)

as-was : (N : Network) (w u : NetworkState) (c : ℕ)
    → history N u c ≡ history N w c
    → StaysOpen N w u c
as-was N w u c e = search (rules, λ (port : ℕ). ap (λ (h : History). may_forward port h.sets) e)

module _ (N : Network) (w : NetworkState) where
  arrives-grows : (c s : ℕ) (port : ℕ) (f : Frame)
      → greatest_accepted N w s ≤ greatest_accepted N (arrives w c (delivery port f)) s
  arrives-grows c s port f = grind (arith, eqb-true, history-here, history-elsewhere, greatest-grows)

  pub happens-grows : (s : ℕ) (e : Event) → greatest_accepted N w s ≤ greatest_accepted N (happens N w e) s
  unfolding happens
  happens-grows s (Deliver n) = grind (arith, after-delivery, arrives-grows)
  happens-grows s (Stranger c port datagram) = arrives-grows c s port (strange_frame c port datagram)
  happens-grows s _ = omega arith

-- ---- an event

happens-open : (N : Network) (w : NetworkState) (e : Event) (c : ℕ)
    → IsNetwork N → IsReached N w → IsInRange e → may_close N w c e ≡ false → refusal N w e ≡ None
    → StaysOpen N w (happens N w e) c
unfolding happens
happens-open N w (Deliver k) c n r i free none = grind (arith, after-delivery, as-was, history-here, arrival-open, eqb-true, history-elsewhere, flipped)
happens-open N w (Stranger d port datagram) c n r i free none = grind (arith, as-was, strange-happens)
happens-open N w e c n r i free none = as-was N w (happens N w e) c refl

-- what a session has said and heard is as it was
pub record SameTalk (w u : NetworkState) (s : ℕ) : Type 0 where
  pub begun : (u.session s).begun ≡ (w.session s).begun
  pub reports : (u.session s).reports ≡ (w.session s).reports
  pub domain : (u.session s).domain ≡ (w.session s).domain

same-session : (w u : NetworkState) (s : ℕ) → u.session s ≡ w.session s → SameTalk w u s
same-session w u s e = search

-- a session that may send more often, or less, is as it was
attempts-same : (w u : NetworkState) (t s attempts : ℕ)
    → u.session ≡ with_place w.session t (record (w.session t) { attempts_left = attempts })
    → SameTalk w u s
attempts-same w u t s attempts e = grind (arith, at_place)

module _ (N : Network) (w : NetworkState) (s : ℕ) where
  pub happens-same : (e : Event) → concerns w s e ≡ false → SameTalk w (happens N w e) s
  unfolding happens
  happens-same (Begin t a) n = same-session w (happens N w (Begin t a)) s (with_place-other w.session t _ s (flipped t s n))
  happens-same (Send t) n = attempts-same w (happens N w (Send t)) t s ((w.session t).attempts_left - 1) refl
  happens-same (Resume t attempts) n = attempts-same w (happens N w (Resume t attempts)) t s attempts refl
  happens-same (Retune t domain) n = same-session w (happens N w (Retune t domain)) s (with_place-other w.session t _ s (flipped t s n))
  happens-same (Deliver k) n = grind (arith, after-delivery, same-session, eqb-true, with_place-same, eq-eqb, cond-false, with_place-other, flipped)
  happens-same (Replay k end) n = same-session w (happens N w (Replay k end)) s refl
  happens-same (Stranger c port datagram) n = same-session w (happens N w (Stranger c port datagram)) s refl

-- ---- the way

all_both : {X : Type 0} (P Q R : X → Type 0)
    → ((x : X) → P x → Q x → R x) → (xs : List X) → AllByRecursion P xs → AllByRecursion Q xs
    → AllByRecursion R xs
all_both P Q R f [] p q = tt
all_both P Q R f (x ∷ xs) p q = (f x p.0 q.0, all_both P Q R f xs p.1 q.1)

-- the clocks stay open, and the target does or has accepted the last request by now
way-left : (N : Network) (w u : NetworkState) (s domain port : ℕ) (hops : List Hop)
    → s < N.sessions → IsReached N u → (u.session s).begun ≡ (w.session s).begun
    → greatest_accepted N w s ≤ greatest_accepted N u s
    → AllByRecursion (λ h. StaysOpen N w u h.clock) hops
    → StaysOpen N w u (N.session s).target ⊎ (greatest_accepted N u s ≡ issued u s)
    → IsWayIn N w s domain hops port
    → IsWayIn N u s domain hops port
way-left N w u s domain port hops place r begun grows clear target way =
    let for_one : LastIsForOne N s (u.session s).begun = subst (LastIsForOne N s) (sym begun) way.for_one in
    let counted : issued u s ≡ issued w s = ap length begun in grind (arith, all_both)

pub returns-clause-nothing : goal.returns-clause-nothing
returns-clause-nothing c = leaves-nothing

pub returns-clause-both : goal.returns-clause-both
returns-clause-both c = λ N w u v s hops port frames a b. search (a.way, b.way, a.room, b.room)

pub returns-clause-event : goal.returns-clause-event
returns-clause-event c = λ N es e s hops port frames n range i place free clear target room.
    let w : NetworkState = run N (initial_state N) es in
    let u : NetworkState = step N w e in
    let same : SameTalk w u s = after-step (λ (x : NetworkState). SameTalk w x s) N w e (same-session w w s refl) (λ none. happens-same N w s e free) in
    record {
      begun = same.begun;
      reports = same.reports;
      domain = same.domain;
      way = λ way. subst (λ d. IsWayIn N u s d hops port) (sym same.domain)
          (way-left N w u s (w.session s).domain port hops place (step-reached N w e n i (reached N es n range)) same.begun (after-step (λ (x : NetworkState). greatest_accepted N w s ≤ greatest_accepted N x s) N w e (le_refl _) (λ none. happens-grows N w s e)) clear target way);
      room = λ before. room;
    }

pub returns-clause-open_clock : goal.returns-clause-open_clock
returns-clause-open_clock c = λ N es e c n range i free.
    let w : NetworkState = run N (initial_state N) es in
    after-step (λ (u : NetworkState). StaysOpen N w u c) N w e (as-was N w w c refl) (happens-open N w e c n (reached N es n range) i free)
