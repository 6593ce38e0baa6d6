use Rattle.std.proofs.Common.{◌≡◌, ◌++◌, take}
use Rattle.ptpm_host.specs.Clock.{messages_in}
use Rattle.ptpm_host.specs.Queue.{queued, room_of}
use Rattle.ptpm_host.proofs.queue.Queue.take_over.Given as goal

abbrev pub invariant-loop-place : goal.invariant-loop-place
invariant-loop-place l = record {
  messages : queued l.self ≡ queued l.initial.self ++ messages_in (take l.place l.room);
  places : room_of l.self ≡ room_of l.initial.self;
  closed : l.self.taken ≡ 0;
}
