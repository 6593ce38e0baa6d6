-- What a frame of each origin says, and that what a clock passes on keeps its origin.
use Rattle.ptpm_network.proofs.Common.{expected_ports, arith, ◌≡◌, ℕ, ◌<◌, ◌≤◌, ◌+◌, ◌-◌, ◌^◌, List, [], ◌∷◌, Some, sym, ◌∙◌, ap, subst, length, same_Some, slice_get_within, slice_get, AllByRecursion, Message, canonical, boundary_hops, Fits, message_of, Answer, RequestValue, Heard, with_less_hop, Accepted, kept_reply, number_of, Answers, HasOneAnswer, IsSendable, IsAsked, IsForeign, IsFrame, IsMessage, IsOfOrigin, IsReached, forwarded_frames, AtPort, HasEnd, IsNetwork, Network, manager, peers, Frame, NetworkState, Origin, RequestOf, ReplyTo, Neither, accepted_at_target, all_flat, all_made, le_trans, true, false, refl, same_clock-true, not-true, true≢false, action_of, is_reply, copy_parts, is_copy}
use Rattle.ptpm_network.specs.Invariant.{IsReplyFrame, IsRequestFrame}
use Rattle.ptpm_network.proofs.Accepting.{Keeps, in_step-keeps, kept-le}
use Rattle.ptpm_network.proofs.Messages.{IsPassedOn, canonical-message, less_hop-canonical, less_hop-hops, less_hop-message, message-hops, reply_at, reply-fits, reply-valid, request_at, request-fits, request-valid, answer_body-is_reply}
use Rattle.ptpm_network.proofs.Steps.{has_peers}

-- ---- what a frame of a session says, if the session and its target are in step

pub record SaysRequest (N : Network) (s k : ℕ) (begun : List RequestValue) (octets : List ℕ) : Type 0 where
  pub place : s < N.sessions
  pub positive : 0 < k
  pub within : k ≤ length begun
  pub request : RequestValue
  pub begun_as : slice_get begun (k - 1) ≡ Some request
  pub asked : IsAsked (expected_ports N s) request
  pub domain : ℕ
  pub hops : ℕ
  pub is : octets ≡ canonical (request_at N s k domain hops request)
  pub message : IsMessage octets (request_at N s k domain hops request)

-- what was accepted as request k, with the one answer to it
pub record SaysKept (N : Network) (s k : ℕ) (begun : List RequestValue) (e : Accepted) : Type 0 where
  pub begun_as : slice_get begun (k - 1) ≡ Some e.request
  pub asked : IsAsked (expected_ports N s) e.request
  pub answers : Answers e.request e.reply
  pub one : HasOneAnswer e.request e.reply
  pub within : k ≤ length begun

pub record SaysReply (N : Network) (s k : ℕ) (begun : List RequestValue) (accepted : List Accepted) (octets : List ℕ) : Type 0 where
  pub place : s < N.sessions
  pub positive : 0 < k
  pub entry : Accepted
  pub kept : kept_reply (manager N s) k accepted ≡ Some entry
  pub says : SaysKept N s k begun entry
  pub answer : Answer
  pub one : entry.reply.answers ≡ answer ∷ []
  pub heard : Heard
  pub source : heard.source ≡ manager N s
  pub number : heard.number ≡ number_of (N.session s).setup.first k
  pub ingress : ℕ
  pub port : ingress < 2 ^ 16
  pub hops : ℕ
  pub is : octets
      ≡ canonical (reply_at (N.session s).setup.target heard entry.reply ingress hops answer)
  pub message : IsMessage octets
      (reply_at (N.session s).setup.target heard entry.reply ingress hops answer)

pub sendable-one : (q : RequestValue) (e : Accepted) (a : Answer)
    → e.reply.answers ≡ a ∷ [] → Answers q e.reply
    → IsSendable a
sendable-one q e a one answers = (subst (AllByRecursion IsSendable) one answers.sendable).0

pub kept_says : (N : Network) (s k : ℕ) (accepted : List Accepted) (begun : List RequestValue) (e : Accepted)
    → Keeps (manager N s) (expected_ports N s) begun accepted → 0 < k → kept_reply (manager N s) k accepted ≡ Some e
    → SaysKept N s k begun e
kept_says N s k accepted begun e keeps positive kept =
    let le = kept-le (manager N s) k accepted e kept in
    let was = keeps.was k e positive kept in
    let same : was.entry ≡ e = same_Some was.entry e (sym was.is ∙ kept) in
    subst (SaysKept N s k begun) same (search (keeps.asked (k - 1) was.entry.request was.begun_as, le_trans le keeps.begun_before))

module _ (N : Network) (s k : ℕ) (accepted : List Accepted) (begun : List RequestValue) (n : IsNetwork N) (place : s < N.sessions) (keeps : Keeps (manager N s) (expected_ports N s) begun accepted) where
  pub request_says : (octets : List ℕ)
      → IsRequestFrame (N.session s).setup begun k octets
      → SaysRequest N s k begun octets
  request_says octets i =
      let asked = keeps.asked (k - 1) i.request i.begun_as in
      let v : Message = request_at N s k i.domain i.hops i.request in
      let within : k ≤ length begun = omega (arith, i.positive, slice_get_within begun (k - 1) i.request i.begun_as) in
      let message : IsMessage octets v = subst (λ m. IsMessage m v) (sym i.is)
      (canonical-message v (request-valid N s k i.domain i.hops (expected_ports N s) i.request asked)
      (request-fits N s k i.domain i.hops (expected_ports N s) i.request n place asked)) in
      search (asked, message, within)

  pub reply_says : (octets : List ℕ)
      → IsReplyFrame (N.session s).setup accepted k octets
      → SaysReply N s k begun accepted octets
  reply_says octets i =
      let session = n.are_sessions s place in
      let clock = n.are_clocks (N.session s).target session.exists in
      let says = kept_says N s k accepted begun i.entry keeps i.positive i.kept in
      let sendable = sendable-one i.entry.request i.entry i.answer i.one says.answers in
      let identity : length (N.session s).setup.target.0 ≡ 8 = grind arith in
      let source : length i.heard.source.clock.0 ≡ 8 = grind arith in
      let port : i.heard.source.port < 2 ^ 16 = grind arith in
      let v : Message = reply_at (N.session s).setup.target i.heard i.entry.reply i.ingress i.hops i.answer in
      let message : IsMessage octets v = subst (λ m. IsMessage m v) (sym i.is)
      (canonical-message v (reply-valid (N.session s).setup.target i.heard i.entry.request i.entry.reply i.ingress i.hops i.answer says.answers sendable)
      (reply-fits (N.session s).setup.target i.heard i.entry.request i.entry.reply i.ingress i.hops i.answer identity source port (omega (arith, i.number)) i.port says.asked.id says.answers sendable)) in
      search (says, message)

  -- ---- with one hop less

  pub request_passed : (octets : List ℕ)
      → IsRequestFrame (N.session s).setup begun k octets
      → IsRequestFrame (N.session s).setup begun k (with_less_hop octets)
  request_passed octets i =
      let says = request_says octets i in
      search (ap with_less_hop says.is ∙ less_hop-canonical (request_at N s k says.domain says.hops says.request)
      (request-valid N s k says.domain says.hops (expected_ports N s) says.request says.asked) says.message.fits)

  pub reply_passed : (octets : List ℕ)
      → IsReplyFrame (N.session s).setup accepted k octets
      → IsReplyFrame (N.session s).setup accepted k (with_less_hop octets)
  reply_passed octets i =
      let says = reply_says octets i in
      search (ap with_less_hop says.is ∙ less_hop-canonical (reply_at (N.session s).setup.target says.heard says.entry.reply says.ingress says.hops says.answer)
      (reply-valid (N.session s).setup.target says.heard says.entry.request says.entry.reply says.ingress says.hops says.answer says.says.answers (sendable-one says.entry.request says.entry says.answer says.one says.says.answers)) says.message.fits)

-- ---- in the machine, with all sessions

reached-keeps : (N : Network) (w : NetworkState) (s : ℕ)
    → IsReached N w → s < N.sessions
    → Keeps (manager N s) (expected_ports N s) (w.session s).begun (accepted_at_target N w s)
reached-keeps N w s r place = in_step-keeps (manager N s) (expected_ports N s) (accepted_at_target N w s) (w.session s) (r.sessions s place)

module _ (N : Network) (w : NetworkState) (s k : ℕ) where
  pub says_request : (octets : List ℕ)
      → IsNetwork N → IsReached N w → IsOfOrigin N w octets (RequestOf s k)
      → SaysRequest N s k (w.session s).begun octets
  says_request octets n r (place, i) =
      request_says N s k (accepted_at_target N w s) (w.session s).begun n place (reached-keeps N w s r place) octets i

  pub says_kept : (e : Accepted)
      → IsReached N w → s < N.sessions → 0 < k
      → kept_reply (manager N s) k (accepted_at_target N w s) ≡ Some e
      → SaysKept N s k (w.session s).begun e
  says_kept e r place positive kept =
      kept_says N s k (accepted_at_target N w s) (w.session s).begun e (reached-keeps N w s r place) positive kept

  pub says_reply : (octets : List ℕ)
      → IsNetwork N → IsReached N w → IsOfOrigin N w octets (ReplyTo s k)
      → SaysReply N s k (w.session s).begun (accepted_at_target N w s) octets
  says_reply octets n r (place, i) =
      reply_says N s k (accepted_at_target N w s) (w.session s).begun n place (reached-keeps N w s r place) octets i

-- ---- a frame that comes in

-- a stranger's datagram may be no message, and longer than its message
abbrev pub IsHeard : Network → NetworkState → List ℕ → Origin → Type 0
IsHeard N w octets (RequestOf s k) = IsOfOrigin N w octets (RequestOf s k)
IsHeard N w octets (ReplyTo s k) = IsOfOrigin N w octets (ReplyTo s k)
IsHeard N w octets Neither = (v : Message) → message_of octets ≡ Some v → Fits v × IsForeign N v

pub heard-frame : (N : Network) (w : NetworkState) (octets : List ℕ) (o : Origin)
    → IsOfOrigin N w octets o
    → IsHeard N w octets o
heard-frame N w octets Neither i = grind (arith, same_Some)
heard-frame N w octets _ i = i

-- the message that a request's frame, or a reply's, is of
pub same_read : (octets : List ℕ) (v u : Message)
    → IsMessage octets u → message_of octets ≡ Some v
    → v ≡ u
same_read octets v u m e = same_Some v u (sym e ∙ m.read)

-- ---- what is passed on

pub passed_on-origin : (N : Network) (w : NetworkState) (octets : List ℕ) (o : Origin) (v : Message)
    → IsNetwork N → IsReached N w → IsHeard N w octets o → message_of octets ≡ Some v
    → IsOfOrigin N w (with_less_hop octets) o
passed_on-origin N w octets (RequestOf s k) v n r (place, i) e =
    (place, request_passed N s k (accepted_at_target N w s) (w.session s).begun n place (reached-keeps N w s r place) octets i)
passed_on-origin N w octets (ReplyTo s k) v n r (place, i) e =
    (place, reply_passed N s k (accepted_at_target N w s) (w.session s).begun n place (reached-keeps N w s r place) octets i)
passed_on-origin N w octets Neither v n r i e =
    let p = i v e in
    record { message = record v { hops = v.hops - 1 }; is = less_hop-message v octets e p.0; foreign = grind arith }

-- what a clock passes on of a frame is of the frame's origin, with a hop less and a forwarding more
pub forwarded_frames-are : (N : Network) (w : NetworkState) (c port : ℕ) (f : Frame)
    (sent : List (ℕ × List ℕ))
    → AllByRecursion (IsPassedOn f.octets) sent → IsNetwork N → IsReached N w
    → IsHeard N w f.octets f.origin → boundary_hops f.octets + f.forwardings ≡ f.first_hops
    → AllByRecursion (IsFrame N w) (forwarded_frames N c f sent)
forwarded_frames-are N w c port f sent a n r i hops =
    all_flat (IsPassedOn f.octets) (IsFrame N w) _
    (λ m p. all_made (HasEnd N) (IsFrame N w) _
    (λ e h. grind (arith, passed_on-origin, message-hops, less_hop-hops))
    (peers N.links (AtPort c m.0)) (has_peers N (AtPort c m.0) n))
    sent a

-- ---- what a message of each origin is. One with a session's identity is its own request, and one that comes to a session is a reply
-- to it. That holds of what comes in in the machine, and of every frame of a running network, in time or late.

-- ---- what a message of each origin is

pub record IsRequestBy (N : Network) (t : ℕ) (v : Message) : Type 0 where
  pub place : t < N.sessions
  pub source : v.source ≡ manager N t
  pub target : v.target.clock ≡ (N.session t).setup.target
  pub request : is_reply (action_of v.body) ≡ false

pub record IsReplyFor (N : Network) (t : ℕ) (v : Message) : Type 0 where
  pub place : t < N.sessions
  pub source : v.source.clock ≡ (N.session t).setup.target
  pub target : v.target ≡ manager N t
  pub reply : is_reply (action_of v.body) ≡ true

abbrev pub IsTrueTo : Network → Message → Origin → Type 0
IsTrueTo N v (RequestOf t k) = IsRequestBy N t v
IsTrueTo N v (ReplyTo t k) = IsReplyFor N t v
IsTrueTo N v Neither = IsForeign N v

-- what the octets of a frame say, if they are a message
abbrev pub IsTrue : Network → List ℕ → Origin → Type 0
IsTrue N octets o = (v : Message) → message_of octets ≡ Some v → Fits v × IsTrueTo N v o

pub message-true : (N : Network) (octets : List ℕ) (u : Message) (o : Origin)
    → IsMessage octets u → IsTrueTo N u o
    → IsTrue N octets o
message-true N octets u o m t v e = grind (arith, same_Some)

-- what comes in in the machine is true to its origin
pub heard-true : (N : Network) (w : NetworkState) (octets : List ℕ) (o : Origin)
    → IsNetwork N → IsReached N w → IsHeard N w octets o
    → IsTrue N octets o
heard-true N w octets (RequestOf t k) n r i =
    let says = says_request N w t k octets n r i in grind (arith, message-true, request_at)
heard-true N w octets (ReplyTo t k) n r i =
    let says = says_reply N w t k octets n r i in grind (arith, message-true, reply_at, answer_body-is_reply)
heard-true N w octets Neither n r i = i

-- ---- the session that a numbered copy is of

pub record IsCopyBy (N : Network) (c : ℕ) (o : Origin) (v : Message) : Type 0 where
  pub session : ℕ
  pub k : ℕ
  pub place : session < N.sessions
  pub origin : o ≡ RequestOf session k
  pub target : (N.session session).target ≡ c
  pub source : v.source ≡ manager N session

pub is_copy_by : (N : Network) (c p : ℕ) (o : Origin) (v : Message)
    → IsNetwork N → c < N.clocks → IsTrueTo N v o → is_copy (N.clock c) p v ≡ true
    → IsCopyBy N c o v
is_copy_by N c p (RequestOf t k) v n place i y =
    let own = n.are_sessions t i.place in
    let here : v.target.clock ≡ (N.clock c).identity = same_clock-true _ _ (copy_parts (N.clock c) p v y).target in
    record {
      session = t;
      k = k;
      place = i.place;
      origin = refl;
      target = n.clocks_apart (N.session t).target c own.exists place (sym own.target ∙ sym i.target ∙ here);
      source = i.source;
    }
is_copy_by N c p (ReplyTo t k) v n place i y = absurd (true≢false (sym i.reply ∙ not-true _ (copy_parts (N.clock c) p v y).request))
is_copy_by N c p Neither v n place i y = grind (arith, copy_parts)
