use Rattle.std.proofs.Common.{◌≤◌, [], ap, arith, get_or-take, length, length-append, length-take-le, subst, take}
use Rattle.ptpm_host.specs.declared.sent.Sent.{Sent}
use Rattle.ptpm_host.specs.Clock.{IsWhole, messages_in}
use Rattle.ptpm_host.specs.Queue.{queued}
use Rattle.ptpm_host.proofs.Places.{as_many}
use Rattle.ptpm_host.proofs.queue.Queue.take_over.Goals as goal

pub add-requires-clause-closed : goal.add-requires-clause-closed
add-requires-clause-closed c = c.loop-place.invariant.closed

pub add-requires-clause-free : goal.add-requires-clause-free
add-requires-clause-free c =
    let inside : c.loop-place.place ≤ length c.args.room.now = omega (arith, c.requires.count, c.loop-place-test.true) in
    omega (
      arith,
      ap (λ q. length q) c.loop-place.invariant.messages,
      length-append (queued c.close_up.new.self) (messages_in (take c.loop-place.place c.args.room.now)),
      as_many c.loop-place.place c.args.room.now inside,
      c.loop-place.invariant.places,
      c.close_up.ensures.room,
      ap (λ q. length q) c.close_up.ensures.queued,
      c.requires.free,
      c.loop-place-test.true,
    )

pub add-requires-clause-whole : goal.add-requires-clause-whole
add-requires-clause-whole c =
    let d : Sent = record { port = 0; size = 0; octets = [] } in
    subst IsWhole (get_or-take c.args.count c.args.room.now c.loop-place.place d c.loop-place-test.true)
    (c.requires.whole c.loop-place.place d (omega (arith, length-take-le c.args.count c.args.room.now c.requires.count, c.loop-place-test.true)))
