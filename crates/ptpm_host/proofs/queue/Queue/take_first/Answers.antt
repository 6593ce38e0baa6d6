use Rattle.std.proofs.Common.{◌≤◌, ◌<◌, ◌+◌, ◌∷◌, ◌∙◌, ap, arith, drop, length, rules, sym, take}
use Rattle.ptpm_host.specs.Clock.{message_in, messages_in}
use Rattle.ptpm_host.specs.Queue.{queued}
use Rattle.ptpm_host.proofs.Places.{count_at, first_at}
use Rattle.ptpm_host.proofs.queue.Queue.take_first.Goals as goal

pub returns-clause-queued : goal.returns-clause-queued
unfolding queued
returns-clause-queued c =
    let taken = c.args.self.now.taken in
    let end = c.args.self.now.end in
    let places = c.args.self.now.places.items in
    let inside : c.args.self.now.end ≤ length c.args.self.now.places.items = search rules in
    let some : c.args.self.now.taken < c.args.self.now.end = omega (arith, c.requires, count_at taken end places inside) in
    first_at taken end places c.index.result.now some inside
    ∙ ap (λ m. m ∷ drop (taken + 1) (messages_in (take end places))) (ap message_in (sym c.index.ensures) ∙ sym c.put.ensures.message)
