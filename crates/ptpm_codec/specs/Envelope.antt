-- The messages of one reply: they differ only in the source's portNumber and the body.
use Rattle.std.specs.Prelude.{ℕ, ◌+◌, List, [], ◌++◌, drop, length, take}
use Rattle.ptpm_codec.specs.declared.message.Action.{Action}
use Rattle.ptpm_codec.specs.declared.message.Body.{Body}
use Rattle.ptpm_codec.specs.declared.message.Body.TheVariants as bodies
use Rattle.ptpm_codec.specs.declared.message.Message.{Message}
use Rattle.ptpm_codec.specs.Canonical.{canonical}

-- a message of v's from this port, with this body
abbrev pub sent_with : Message → ℕ → Body → Message
sent_with v port body = record v {
  source = record { clock = v.source.clock; port = port };
  body = body;
}

-- the octets of v as the answer of this action and id that has no octets
abbrev pub envelope_of : Message → Action → ℕ → List ℕ
envelope_of v action id = canonical (record v { body = bodies.Answer action id [] })

-- octets written over those from a place on
abbrev pub written : ℕ → List ℕ → List ℕ → List ℕ
written place octets m = take place m ++ octets ++ drop (place + length octets) m
