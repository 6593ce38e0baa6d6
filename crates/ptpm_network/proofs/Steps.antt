-- What sessions do keeps the invariant.
use Rattle.ptpm_network.proofs.Common.{expected_ports, by_test, arith, ◌≡◌, ℕ, ◌<◌, ◌-◌, List, [], ◌∷◌, Option, Some, None, Bool, refl, length, eqb-true, cond-true, cond-false, slice_get_within, option_map, slice_get, AllByRecursion, filter, list_any, canonical, RequestValue, Accepted, kept_reply, request_message, IsFrame, IsInStep, IsOfOrigin, IsReached, sends, sent_frames, with_frames, with_session, End, AtSession, HasEnd, IsLink, IsNetwork, Network, SessionStart, manager, peers, same_end, Frame, NetworkState, Origin, RequestOf, ReplyTo, Neither, SessionState, accepted_at_target, new_frames, unanswered, all_append, all_made, all_weaker, at_place}
use Rattle.ptpm_manager.specs.declared.setup.Setup.{Setup}
use Rattle.ptpm_network.specs.Invariant.{IsReplyFrame, IsRequestFrame}
use Rattle.ptpm_network.proofs.Accepting.{in_step-set}

-- ---- ends

all_filter : {X : Type 0} (P : X → Type 0) (test : X → Bool) (xs : List X)
    → AllByRecursion P xs
    → AllByRecursion P (filter test xs)
all_filter P test [] a = tt
all_filter P test (x ∷ xs) a = by_test (test x)
    (λ y. rw y (a.0, all_filter P test xs a.1))
    (λ n. rw n (all_filter P test xs a.1))

-- the ends that a message goes to exist
peers_exist : (N : Network) (links : List (List End)) (e : End)
    → AllByRecursion (IsLink N) links
    → AllByRecursion (HasEnd N) (peers links e)
peers_exist N [] e a = tt
peers_exist N (link ∷ links) e a = by_test (list_any (same_end e) link)
    (λ y. rw y (all_filter (HasEnd N) _ link a.0.ends))
    (λ n. rw n (peers_exist N links e a.1))

pub has_peers : (N : Network) (e : End) → IsNetwork N → AllByRecursion (HasEnd N) (peers N.links e)
has_peers N e n = peers_exist N N.links e n.are_links

-- ---- what stays from state to state

-- nothing that was begun is lost
abbrev pub BegunStays : NetworkState → NetworkState → Type 0
BegunStays w u = (s i : ℕ) (q : RequestValue) → slice_get (w.session s).begun i ≡ Some q → slice_get (u.session s).begun i ≡ Some q

-- nor is any reply that is kept
abbrev pub KeptStays : Network → NetworkState → NetworkState → Type 0
KeptStays N w u = (s k : ℕ) (e : Accepted) → s < N.sessions → kept_reply (manager N s) k (accepted_at_target N w s) ≡ Some e → kept_reply (manager N s) k (accepted_at_target N u s) ≡ Some e

-- so what a frame of a session says is still said
pub request-stays : (setup : Setup) (begun more : List RequestValue) (k : ℕ) (octets : List ℕ)
    → ((i : ℕ) (q : RequestValue) → slice_get begun i ≡ Some q → slice_get more i ≡ Some q)
    → IsRequestFrame setup begun k octets
    → IsRequestFrame setup more k octets
request-stays setup begun more k octets stays r = search stays

pub reply-stays : (setup : Setup) (accepted more : List Accepted) (k : ℕ) (octets : List ℕ)
    → ((e : Accepted) → kept_reply setup.me k accepted ≡ Some e → kept_reply setup.me k more ≡ Some e)
    → IsReplyFrame setup accepted k octets
    → IsReplyFrame setup more k octets
reply-stays setup accepted more k octets stays r = search stays

module _ (N : Network) (w u : NetworkState) (begun : BegunStays w u) (kept : KeptStays N w u) where
  pub origin-stays : (octets : List ℕ) (o : Origin)
      → IsOfOrigin N w octets o
      → IsOfOrigin N u octets o
  origin-stays octets (RequestOf s k) (place, r) = (place, request-stays (N.session s).setup (w.session s).begun (u.session s).begun k octets (begun s) r)
  origin-stays octets (ReplyTo s k) (place, r) = grind (arith, reply-stays)
  origin-stays octets Neither r = r

  pub frames-stay : (fs : List Frame)
      → AllByRecursion (IsFrame N w) fs
      → AllByRecursion (IsFrame N u) fs
  frames-stay fs a = all_weaker (IsFrame N w) (IsFrame N u) (λ f i. search (origin-stays f.octets f.origin i.origin)) fs a

-- ---- one session changes

begun-stays : (w : NetworkState) (s : ℕ) (v : SessionState)
    → ((i : ℕ) (q : RequestValue) → slice_get (w.session s).begun i ≡ Some q → slice_get v.begun i ≡ Some q)
    → BegunStays w (with_session w s v)
begun-stays w s v g t i q e = grind (arith, slice_get, eqb-true)

abbrev pub InStep : Network → NetworkState → ℕ → SessionState → Type 0
InStep N w s v = IsInStep (manager N s) (expected_ports N s) (accepted_at_target N w s) v

pub session-changes : (N : Network) (w : NetworkState) (s : ℕ) (v : SessionState)
    → ((i : ℕ) (q : RequestValue) → slice_get (w.session s).begun i ≡ Some q → slice_get v.begun i ≡ Some q)
    → InStep N w s v → IsReached N w
    → IsReached N (with_session w s v)
session-changes N w s v g at r = record {
  sessions = λ t place. at_place (InStep N w) w.session s v t at (r.sessions t place);
  clocks = r.clocks;
  frames = frames-stay N w (with_session w s v) (begun-stays w s v g) (λ t k e place h. h) w.frames r.frames;
}

-- only its domain and attempts
pub session-set : (N : Network) (w : NetworkState) (s domain attempts : ℕ)
    → s < N.sessions → IsReached N w
    → IsReached N
    (with_session w s (record { domain = domain; attempts_left = attempts; begun = (w.session s).begun; reports = (w.session s).reports }))
session-set N w s domain attempts place r =
    session-changes N w s _ (λ i q e. e)
    (in_step-set (manager N s) (expected_ports N s) (accepted_at_target N w s) (w.session s) domain attempts (r.sessions s place)) r

-- ---- more frames

pub more-frames : (N : Network) (w : NetworkState) (fs : List Frame)
    → AllByRecursion (IsFrame N w) fs → IsReached N w
    → IsReached N (with_frames w fs)
more-frames N w fs a r = grind (arith, frames-stay, all_append)

-- the frames of a message that is sent for the first time
pub new_frames-are : (N : Network) (w : NetworkState) (ends : List End) (octets : List ℕ)
    (o : Origin)
    → AllByRecursion (HasEnd N) ends → IsOfOrigin N w octets o
    → AllByRecursion (IsFrame N w) (new_frames ends octets o)
new_frames-are N w ends octets o a i = all_made (HasEnd N) (IsFrame N w) _ (λ e h. record { end = h; origin = i; hops = omega arith }) ends a

-- what is not answered yet was begun last
pub unanswered-last : (s : SessionState) (q : RequestValue)
    → unanswered s ≡ Some q
    → slice_get s.begun (length s.begun - 1) ≡ Some q
unanswered-last s q e = grind (arith, cond-true, cond-false)

-- it is sent in its canonical spelling
pub request-sent : (start : SessionStart) (s : SessionState) (q : RequestValue)
    → unanswered s ≡ Some q
    → IsRequestFrame start.setup s.begun (length s.begun) (canonical (request_message start.setup s.domain (length s.begun) q))
request-sent start s q e =
    let last = unanswered-last s q e in
    record {
      positive = omega (arith, slice_get_within s.begun (length s.begun - 1) q last);
      request = q;
      begun_as = last;
      domain = s.domain;
      hops = start.setup.hops;
      is = refl;
    }

module _ (N : Network) (w : NetworkState) (s : ℕ) where
  sent_frames-are : (o : Option RequestValue)
      → s < N.sessions → AllByRecursion (HasEnd N) (peers N.links (AtSession s))
      → unanswered (w.session s) ≡ o
      → AllByRecursion (IsFrame N w)
      (sent_frames (peers N.links (AtSession s)) s (length (w.session s).begun) (option_map (request_message (N.session s).setup (w.session s).domain (length (w.session s).begun)) o))
  sent_frames-are None place ends e = tt
  sent_frames-are (Some q) place ends e =
      new_frames-are N w (peers N.links (AtSession s)) _ (RequestOf s (length (w.session s).begun)) ends
      (place, request-sent (N.session s) (w.session s) q e)

  pub sends-reached : IsNetwork N → s < N.sessions → IsReached N w → IsReached N (sends N w s)
  sends-reached n place r =
      let v : SessionState = record (w.session s) { attempts_left = (w.session s).attempts_left - 1 } in
      more-frames N (with_session w s v) _
      (frames-stay N w (with_session w s v) (begun-stays w s v (λ i q e. e)) (λ t k e p h. h) _
      (sent_frames-are (unanswered (w.session s)) place (has_peers N (AtSession s) n) refl))
      (session-set N w s (w.session s).domain ((w.session s).attempts_left - 1) place r)
