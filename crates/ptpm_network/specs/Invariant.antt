-- What holds for the network machine in every state that it reaches. It says how far a session and its target can be apart,
-- and what each frame says.
use Rattle.std.specs.Prelude.{◌≡◌, ◌≢◌, ℕ, ◌+◌, ◌-◌, ◌<◌, ◌≤◌, ◌^◌, false, List, [], ◌∷◌, length, slice_get, Some, None}
use Rattle.std.specs.List.{AllByRecursion}
use Rattle.ptpm_codec.specs.declared.identity.PortIdentity.{PortIdentity}
use Rattle.ptpm_codec.specs.declared.message.Message.{Message}
use Rattle.ptpm_codec.specs.Canonical.{canonical}
use Rattle.ptpm_codec.specs.Identity.{every_port}
use Rattle.ptpm_codec.specs.Layout.{boundary_hops, message_octets}
use Rattle.ptpm_codec.specs.Message.{Fits, IsDataField, IsRequestAction}
use Rattle.ptpm_codec.specs.Reading.{message_of}
use Rattle.ptpm_data.specs.ManagementId.{is_of_port}
use Rattle.ptpm_data.specs.Reply.{Answer}
use Rattle.ptpm_data.specs.Request.{RequestValue}
use Rattle.ptpm_table.specs.declared.heard.Heard.{Heard}
use Rattle.ptpm_table.specs.Rendering.{reply_message}
use Rattle.ptpm_agent.specs.Once.{Accepted, greatest, kept_reply}
use Rattle.ptpm_manager.specs.declared.setup.Setup.{Setup}
use Rattle.ptpm_codec.specs.SequenceNumber.{number_of}
use Rattle.ptpm_manager.specs.Setup.{request_message}
use Rattle.ptpm_network.specs.DataSets.{Answers, AreDataSets, HasOneAnswer, IsForOne}
use Rattle.ptpm_network.specs.Network.{HasEnd, Network, expected_ports, manager, ports}
use Rattle.ptpm_network.specs.State.{Frame, NetworkState, Origin, RequestOf, ReplyTo, Neither, SessionState, accepted_at_target, history, outcomes_kept}

-- ---- a session and what its target accepted of it

-- A request that a session begins at a clock that it takes to have this many ports. It can be sent. For an id of a port it names
-- one port.
pub record IsAsked (ports : ℕ) (q : RequestValue) : Type 0 where
  pub action : IsRequestAction q.action
  pub id : q.id < 2 ^ 16
  pub octets : IsDataField q.octets
  pub port : q.port < 2 ^ 16
  pub one : IsForOne ports q
  pub every : is_of_port q.id ≡ false → q.port ≡ every_port

-- request k of a manager was accepted: what is kept is that request, with one answer
pub record WasAccepted (m : PortIdentity) (begun : List RequestValue) (accepted : List Accepted)
    (k : ℕ) : Type 0 where
  pub entry : Accepted
  pub is : kept_reply m k accepted ≡ Some entry
  pub begun_as : slice_get begun (k - 1) ≡ Some entry.request
  pub answers : Answers entry.request entry.reply
  pub one : HasOneAnswer entry.request entry.reply

-- the manager m, which takes its target to have this many ports, in this state; the target accepted this of it
pub record IsInStep (m : PortIdentity) (ports : ℕ) (accepted : List Accepted)
    (s : SessionState) : Type 0 where
  pub asked : (i : ℕ) (q : RequestValue) → slice_get s.begun i ≡ Some q → IsAsked ports q
  -- at most the last request is not reported
  pub one_at_a_time : length s.begun ≤ length s.reports + 1
  -- a request is accepted after it was begun, and reported after it was accepted
  pub begun_before : greatest m accepted ≤ length s.begun
  pub accepted_before : length s.reports ≤ greatest m accepted
  -- what was accepted is 1 to the greatest
  pub from_one : kept_reply m 0 accepted ≡ None
  pub without_gap : (k : ℕ) → 0 < k → k ≤ greatest m accepted → WasAccepted m s.begun accepted k
  -- the reports are the outcomes that are kept
  pub reports : s.reports ≡ outcomes_kept m accepted (length s.reports)

-- ---- what a frame says

-- it is exactly one message
pub record IsMessage (octets : List ℕ) (v : Message) : Type 0 where
  pub read : message_of octets ≡ Some v
  pub whole : message_octets octets ≡ octets
  pub fits : Fits v

-- the canonical spelling of request k, except domainNumber and boundaryHops
pub record IsRequestFrame (setup : Setup) (begun : List RequestValue) (k : ℕ)
    (octets : List ℕ) : Type 0 where
  pub positive : 0 < k
  pub request : RequestValue
  pub begun_as : slice_get begun (k - 1) ≡ Some request
  pub domain : ℕ
  pub hops : ℕ
  pub is : octets ≡ canonical (record (request_message setup domain k request) { hops = hops })

-- The canonical spelling of the one answer that is kept for request k, except domainNumber and the hops. If the answer is
-- of the clock, the source's portNumber is excepted too.
pub record IsReplyFrame (setup : Setup) (accepted : List Accepted) (k : ℕ)
    (octets : List ℕ) : Type 0 where
  pub positive : 0 < k
  pub entry : Accepted
  pub kept : kept_reply setup.me k accepted ≡ Some entry
  pub answer : Answer
  pub one : entry.reply.answers ≡ answer ∷ []
  -- the copy that it answers
  pub heard : Heard
  pub source : heard.source ≡ setup.me
  pub number : heard.number ≡ number_of setup.first k
  pub ingress : ℕ
  pub port : ingress < 2 ^ 16
  pub hops : ℕ
  pub is : octets
      ≡ canonical (record
      (reply_message setup.target heard entry.reply.action entry.reply.id ingress answer)
      { hops = hops })

-- a message of no session, and of no clock to a session
pub record IsForeign (N : Network) (v : Message) : Type 0 where
  pub no_request : (s : ℕ) → s < N.sessions → v.source ≢ manager N s
  pub no_reply : (c s : ℕ) → c < N.clocks → s < N.sessions → v.source.clock ≡ (N.clock c).identity
      → v.target ≢ manager N s

pub record IsForeignFrame (N : Network) (octets : List ℕ) : Type 0 where
  pub message : Message
  pub is : IsMessage octets message
  pub foreign : IsForeign N message

abbrev pub IsOfOrigin : Network → NetworkState → List ℕ → Origin → Type 0
IsOfOrigin N w octets (RequestOf s k) = (s < N.sessions)
    × IsRequestFrame (N.session s).setup (w.session s).begun k octets
IsOfOrigin N w octets (ReplyTo s k) = (s < N.sessions)
    × IsReplyFrame (N.session s).setup (accepted_at_target N w s) k octets
IsOfOrigin N w octets Neither = IsForeignFrame N octets

pub record IsFrame (N : Network) (w : NetworkState) (f : Frame) : Type 0 where
  pub end : HasEnd N f.end
  pub origin : IsOfOrigin N w f.octets f.origin
  -- a hop is lost with each forwarding, and nowhere else
  pub hops : boundary_hops f.octets + f.forwardings ≡ f.first_hops

-- ---- the whole

pub record IsReached (N : Network) (w : NetworkState) : Type 0 where
  pub sessions : (s : ℕ) → s < N.sessions
      → IsInStep (manager N s) (expected_ports N s) (accepted_at_target N w s)
      (w.session s)
  pub clocks : (c : ℕ) → c < N.clocks → AreDataSets (ports N c) (history N w c).sets
  pub frames : AllByRecursion (IsFrame N w) w.frames
