use Rattle.std.proofs.Common.{◌+◌, [], arith, get_or, length, take, ap}
use Rattle.std.proofs.lemmas.List.{length-append, length-map, length-take-le}
use Rattle.ptpm_table.specs.Sending.{all_octets, messages_of}
use Rattle.ptpm_table.proofs.SentLaws.{count_of, octets_more, octets_within, sizes_more, small_at}
use Rattle.ptpm_table.proofs.kept_messages.copy_each.Goals as goal

pub push-requires-clause-small : goal.push-requires-clause-small
push-requires-clause-small g c = grind (arith, small_at)

pub push-requires-clause-count : goal.push-requires-clause-count
push-requires-clause-count g c = grind (arith, length-map, count_of, length-take-le)

pub push-requires-clause-room : goal.push-requires-clause-room
push-requires-clause-room g c =
    let all = g.O.Outgoing.sent c.args.out.now in
    let more = ap length (octets_more all c.loop-place.place (omega (arith, c.loop-place-test.true, c.count-place-end.ensures))) in
    omega (
      arith,
      more,
      ap length c.loop-place.invariant.messages,
      ap length c.message.ensures,
      length-append (all_octets (messages_of (take c.loop-place.place all))) (get_or all c.loop-place.place (0, [])).1,
      octets_within all (c.loop-place.place + 1),
      c.requires.room,
      c.loop-place.invariant.most,
    )

pub loop-place-preserved : goal.loop-place-preserved
loop-place-preserved g c = grind (arith, sizes_more, octets_more)
