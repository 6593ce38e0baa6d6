use Rattle.std.proofs.Common.{◌∙◌, ◌++◌, ap, length, List, ℕ}
use Rattle.ptpm_host.specs.UnderWay.{under_way_front}
use Rattle.ptpm_host.proofs.restoring.write_front.Goals as goal

pub returns : goal.returns
returns c =
    let message = c.message-message.ensures.message in
    (λ i. (c.copy_from_slice.ensures.after ∙ c.front_of.ensures
    ∙ ap (λ (l : List ℕ). under_way_front c.args.behind c.args.under_way.now.port (length l)) message) i
    ++ (c.copy_from_slice-2.ensures.after ∙ message) i)
