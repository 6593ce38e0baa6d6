use Rattle.std.proofs.Common.{◌≤◌, ◌-◌, ◌∙◌, ap, length, rules, take}
use Rattle.ptpm_host.specs.Clock.{messages_in}
use Rattle.ptpm_host.specs.Queue.{queued}
use Rattle.ptpm_host.proofs.Places.{closed_at}
use Rattle.ptpm_host.proofs.queue.Queue.close_up.Goals as goal

pub returns-then-self-gt0-clause-queued : goal.returns-then-self-gt0-clause-queued
unfolding queued
returns-then-self-gt0-clause-queued c =
    let inside : c.args.self.now.end ≤ length c.args.self.now.places.items = search rules in
    let ordered : c.args.self.now.taken ≤ c.args.self.now.end = search rules in
    ap (λ xs. messages_in (take (c.args.self.now.end - c.args.self.now.taken) xs)) c.copy_within.ensures.items
    ∙ closed_at c.args.self.now.taken c.args.self.now.end c.args.self.now.places.items ordered inside
