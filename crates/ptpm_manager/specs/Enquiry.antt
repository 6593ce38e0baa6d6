-- What a survey asks: one GET of every port of every clock (IEEE 1588-2019, 15.3.1), or of one clock, and which messages answer it.
use Rattle.std.specs.Prelude.{◌==◌, ◌&&◌, ◌||◌, Bool, not, [], ◌∷◌, ◌++◌, Option}
use Rattle.ptpm_codec.specs.declared.identity.PortIdentity.{PortIdentity}
use Rattle.ptpm_codec.specs.declared.message.Action.TheVariants as actions
use Rattle.ptpm_codec.specs.declared.message.Message.{Message}
use Rattle.ptpm_codec.specs.declared.message.Body.TheVariants as bodies
use Rattle.ptpm_codec.specs.Identity.{every_clock, every_port, same_clock}
use Rattle.ptpm_codec.specs.Message.{action_of, id_of}
use Rattle.ptpm_manager.specs.declared.enquiry.Enquiry.{Enquiry}
use Rattle.ptpm_manager.specs.declared.receiving.Reason.{Reason}
use Rattle.ptpm_manager.specs.declared.receiving.Reason.TheVariants as reasons
use Rattle.ptpm_codec.specs.Ordered.{first_of}
use Rattle.ptpm_manager.specs.Receiving.{is_response, no_reply_to}

-- an empty GET to every port of the clock that is asked; the identity that means every clock asks every clock
abbrev pub survey_message : Enquiry → Message
survey_message e = record {
  sdo = 0;
  domain = e.domain;
  source = e.me;
  number = e.number;
  target = record { clock = e.target; port = every_port };
  starting_hops = e.hops;
  hops = e.hops;
  body = bodies.Request actions.Get e.id [];
}

-- whether an answer may come from a port
abbrev pub is_asked : Enquiry → PortIdentity → Bool
is_asked e source = same_clock e.target every_clock || same_clock source.clock e.target

-- the reasons to ignore a message that was read, in their order
unfoldable pub ignored_for : Enquiry → Message → Option Reason
ignored_for e v = first_of (no_reply_to e.me e.domain v
    ++ (not (is_asked e v.source), reasons.OtherSource)
    ∷ (not (v.number == e.number), reasons.OtherNumber)
    ∷ (not (is_response (action_of v.body) && id_of v.body == e.id), reasons.OtherContent)
    ∷ [])
