-- Messages that wait.
use Rattle.std.specs.Prelude.{ℕ, List, drop, length, take}
use Rattle.ptpm_host.specs.declared.queue.Queue.{Queue}
use Rattle.ptpm_host.specs.Clock.{messages_in}

-- the messages that were not taken out, in the order in which they came
unfoldable pub queued : Queue → List (ℕ × List ℕ)
queued q = drop q.taken (messages_in (take q.end q.places.items))

-- how many messages there are places for
unfoldable pub room_of : Queue → ℕ
room_of q = length q.places.items
