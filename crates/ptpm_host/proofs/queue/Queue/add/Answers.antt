use Rattle.std.proofs.Common.{◌≤◌, ◌<◌, All, arith, length, rules, take}
use Rattle.ptpm_host.specs.Clock.{IsWhole}
use Rattle.ptpm_host.specs.Queue.{queued, room_of}
use Rattle.ptpm_host.proofs.Places.{count_at, whole_at_write}
use Rattle.ptpm_host.proofs.queue.Queue.add.Goals as goal

pub invariant_of-self : goal.invariant_of-self
unfolding queued room_of
invariant_of-self c =
    let inside : c.args.self.now.end ≤ length c.args.self.now.places.items = search rules in
    let ordered : c.args.self.now.taken ≤ c.args.self.now.end = search rules in
    let whole : All IsWhole (take c.args.self.now.end c.args.self.now.places.items) = search rules in
    let free : c.args.self.now.end < length c.args.self.now.places.items =
    omega (arith, c.requires.free, c.requires.closed, count_at c.args.self.now.taken c.args.self.now.end c.args.self.now.places.items inside) in
    record {
      ordered = omega (arith, ordered);
      inside = search rules;
      whole = whole_at_write c.args.self.now.places.items c.args.self.now.end c.put.new.self free whole c.put.ensures.whole;
    }
