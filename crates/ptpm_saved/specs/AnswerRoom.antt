-- The places of the answers of an entry that is read, which is no promise.
use Rattle.std.specs.Prelude.{ℕ, List, map}
use Rattle.std.specs.Vec.{vec_capacity}
use Rattle.ptpm_data.specs.declared.ports.TheConstants.{INLINE_PORTS}
use Rattle.ptpm_data.specs.declared.reply.PortAnswer.{PortAnswer}
use Rattle.ptpm_data.specs.Reply.{Answer, answer_of}
use Rattle.ptpm_saved.specs.declared.answer_room.AnswerRoom.TheInside.{Inside}
use Rattle.ptpm_saved.specs.declared.answer_room.Places.{Places}
use Rattle.ptpm_saved.specs.declared.answer_room.Places.TheVariants as places

-- the answers, and how many have room
pub record RoomValue : Type 0 where
  pub answers : List Answer
  pub most : ℕ

abbrev pub items_in : Places → List PortAnswer
items_in (places.Few answers) = answers.items
items_in (places.Many answers) = answers.items

abbrev pub most_in : Places → ℕ
most_in (places.Few answers) = INLINE_PORTS
most_in (places.Many answers) = vec_capacity answers

abbrev pub room_value : Inside → RoomValue
room_value r = record { answers = map answer_of (items_in r.places); most = most_in r.places }
