use Rattle.std.proofs.Common.{◌≤◌, length, rules, sym}
use Rattle.ptpm_host.specs.Queue.{queued}
use Rattle.ptpm_host.proofs.Places.{count_at}
use Rattle.ptpm_host.proofs.queue.Queue.count.Goals as goal

pub returns : goal.returns
unfolding queued
returns c =
    let inside : c.args.self.now.end ≤ length c.args.self.now.places.items = search rules in
    sym (count_at c.args.self.now.taken c.args.self.now.end c.args.self.now.places.items inside)
