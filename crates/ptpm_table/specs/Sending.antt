-- What a sender has sent, which is no promise: each answer is one message more in their place.
use Rattle.std.specs.Prelude.{All, ◌≤◌, ◌<◌, ◌^◌, ◌≡◌, ℕ, ◌+◌, Bool, List, [], ◌∷◌, ◌++◌, None, is_some, length, map, unwrap_or}
use Rattle.ptpm_codec.specs.declared.identity.ClockIdentity.{ClockIdentity}
use Rattle.ptpm_codec.specs.declared.message.Action.{Action}
use Rattle.ptpm_codec.specs.declared.message.Message.{Message}
use Rattle.ptpm_codec.specs.Canonical.{canonical}
use Rattle.ptpm_codec.specs.Envelope.{envelope_of, sent_with}
use Rattle.ptpm_codec.specs.Message.{Fits, reply_action}
use Rattle.ptpm_data.specs.ManagementId.{is_of_port}
use Rattle.ptpm_data.specs.Reply as reply
use Rattle.ptpm_data.specs.Reply.{Answer, ReplyValue}
use Rattle.ptpm_table.specs.Rendering.{answer_body, rendered, reply_message}
use Rattle.ptpm_table.specs.Entries.{FitsAnswer, FitsCount}
use Rattle.ptpm_table.specs.declared.heard.Heard.{Heard}
use Rattle.ptpm_table.specs.declared.rendering.Sender.{Sender}

-- the message of an answer without octets
abbrev pub empty_reply : ClockIdentity → Heard → Action → ℕ → ℕ → Message
empty_reply me heard action id ingress = reply_message me heard action id ingress (record { port = None; outcome = reply.Value [] })

-- the message of an answer, like v
abbrev pub message_like : Message → Action → ℕ → ℕ → Answer → Message
message_like v action id ingress a = sent_with v (unwrap_or a.port ingress) (answer_body action id a.outcome)

-- the last of these answers is of a port
abbrev pub last_of_port : Bool → List Answer → Bool
last_of_port b [] = b
last_of_port b (a ∷ xs) = last_of_port (is_some a.port) xs

pub record HasSent {O : Type 0} (sent : O → List (ℕ × List ℕ)) (grown : O → O → Type 0) (s : Sender O) (xs : List Answer) (t : Sender O) : Type 0 where
  pub grown_is : grown s.out.now t.out.now
  pub same_reference : t.out.ghost_name ≡ s.out.ghost_name
  pub envelope : t.envelope ≡ s.envelope
  pub id : t.id ≡ s.id
  pub ingress : t.ingress ≡ s.ingress
  pub of_port : t.of_port ≡ last_of_port s.of_port xs
  pub count : length (sent t.out.now) ≡ length (sent s.out.now) + length xs
  pub fits : (v : Message) (action : Action) → Fits v → s.id < 2 ^ 16
      → All (λ a. Fits (message_like v action s.id s.ingress a)) xs
  pub messages : (v : Message) (action : Action) → Fits v
      → s.envelope ≡ envelope_of v action s.id
      → sent t.out.now ≡ sent s.out.now ++ map (λ a. (s.ingress, canonical (message_like v action s.id s.ingress a))) xs

-- The messages are those of this reply to a request of this action and id, as it was sent for the copy that was heard.
pub record IsSentReply (me : ClockIdentity) (heard : Heard) (action : Action) (id : ℕ) (of_port : Bool) (messages : List (ℕ × List ℕ))
    (r : ReplyValue) : Type 0 where
  pub ingress : ℕ
  pub action_is : r.action ≡ reply_action action
  pub id_is : r.id ≡ id
  pub port_is : of_port ≡ is_of_port id
  pub count : FitsCount of_port (length r.answers)
  pub answers : All (FitsAnswer of_port action) r.answers
  pub fits : All (λ a. Fits (reply_message me heard r.action r.id ingress a)) r.answers
  pub messages_are : messages ≡ rendered me heard r ingress

-- the messages without their ports
abbrev pub messages_of : List (ℕ × List ℕ) → List (List ℕ)
messages_of [] = []
messages_of (e ∷ es) = e.1 ∷ messages_of es

-- the octets of messages, one after the other
abbrev pub all_octets : List (List ℕ) → List ℕ
all_octets [] = []
all_octets (m ∷ ms) = m ++ all_octets ms

-- messages of at most as many octets as those of a reply
abbrev pub AreSmall : List (List ℕ) → Type 0
AreSmall [] = Unit {0}
AreSmall (m ∷ ms) = (length m ≤ 184) × AreSmall ms
