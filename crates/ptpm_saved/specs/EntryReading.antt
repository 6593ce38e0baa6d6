-- What is read of an entry's image, part by part.
use Rattle.std.specs.Prelude.{◌≡◌, ◌<◌, ◌≤◌, ◌^◌, Bool, List, is_some, length}
use Rattle.ptpm_data.specs.Reply.{Answer}
use Rattle.ptpm_saved.specs.declared.entry_reading.SavedRequest.{SavedRequest}
use Rattle.ptpm_data.specs.Request.{RequestValue}
use Rattle.ptpm_saved.specs.Image.{outcome_image}
use Rattle.ptpm_table.specs.Entries.{Entry, reply_with}
use Rattle.ptpm_codec.specs.declared.identity.PortIdentity.{PortIdentity}

-- a request that was read, with the answers of the reply to it
abbrev pub entry_read : SavedRequest → List Answer → PortIdentity × Entry
entry_read s answers = (s.manager, record { number = s.number; request = s.request; reply = reply_with s.request answers })

-- the answer is of a port exactly if the id is of the ports
abbrev pub IsOfPort : Bool → Answer → Type 0
IsOfPort of_port a = is_some a.port ≡ of_port

-- numbers that are within their types
pub record RequestFits (q : RequestValue) : Type 0 where
  pub id : q.id < 2 ^ 16
  pub port : q.port < 2 ^ 16
  pub octets : length q.octets < 2 ^ 16

-- an outcome of at most as many octets as a clock's answer
abbrev pub IsSmall : Answer → Type 0
IsSmall a = length (outcome_image a.outcome) ≤ 132
