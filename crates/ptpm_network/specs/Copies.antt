-- Copies of requests among the frames of a network.
use Rattle.std.specs.Prelude.{◌≡◌, ℕ, Some}
use Rattle.std.specs.List.{Contains}
use Rattle.ptpm_codec.specs.declared.error.ErrorId.{ErrorId}
use Rattle.ptpm_data.specs.Reply.{Answer, Refused, ReplyValue}
use Rattle.ptpm_agent.specs.Once.{Accepted, Delivery, History, RequestCopy, copy_of, due_reply, kept_reply}
use Rattle.ptpm_agent.specs.Turn.{Clock}
use Rattle.ptpm_network.specs.Events.{frame_at}
use Rattle.ptpm_network.specs.Machine.{delivery}
use Rattle.ptpm_network.specs.Network.{AtPort, Network, ports}
use Rattle.ptpm_network.specs.State.{Frame, NetworkState, history}

-- frame n is on its way to a port of a clock, and is a copy of a request by a manager of that clock
pub record IsCopyAt (N : Network) (w : NetworkState) (n c port : ℕ) (f : Frame)
    (copy : RequestCopy) : Type 0 where
  pub frame : frame_at w.frames n ≡ Some f
  pub end : f.end ≡ AtPort c port
  pub heard : copy_of (N.clock c) (ports N c) (delivery port f) ≡ Some copy

-- a reply is kept for the request that this is a copy of, and is due to it
abbrev pub IsKeptFor : Clock → History → RequestCopy → Type 0
IsKeptFor c h copy = (kept : Accepted)
    × (kept_reply copy.heard.source copy.index h.accepted ≡ Some kept)
    × (due_reply c h copy ≡ Some kept.reply)

-- what comes in at a clock is a copy, and an answer of the reply that is due to it is an error
pub record IsRefusedAt (N : Network) (w : NetworkState) (c : ℕ) (x : Delivery) : Type 0 where
  pub copy : RequestCopy
  pub heard : copy_of (N.clock c) (ports N c) x ≡ Some copy
  pub reply : ReplyValue
  pub due : due_reply (N.clock c) (history N w c) copy ≡ Some reply
  pub answer : Answer
  pub among : Contains reply.answers answer
  pub error : ErrorId
  pub is_error : answer.outcome ≡ Refused error
