use Rattle.ptpm_world.proofs.Common.{ℕ, List, ◌++◌, ◌∙◌, ap, subst, Writes}
use Rattle.std.proofs.Output.{if_some_weaken}
use Rattle.std.proofs.lemmas.Fmt.{contents_after_writes}
use Rattle.ptpm_world.proofs.writing.write_shown.Goals as goal

pub returns-in-Ok : goal.returns-in-Ok
returns-in-Ok g c =
    let W = g.W.Write.contents in
    if_some_weaken (g.D.Display.output c.args.value.now) _ _ (λ octets wrote.
    subst (λ (text : List ℕ). Writes text (W c.args.out.now) (W c.write_whole.new.out) c.write_whole.result)
    (c.as_bytes.ensures.value ∙ c.as_str.ensures.value ∙ contents_after_writes _ (λ s. s.bytes) (λ w l v t. t) _ octets _ wrote
    ∙ ap (λ l. l ++ octets) c.new-text.ensures) c.write_whole.ensures) c.in-Ok.ensures.writes
