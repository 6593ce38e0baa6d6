use Rattle.std.proofs.Common.{flat_map, sym, ap, ◌∙◌, map-id, rules}
use Rattle.std.proofs.Output.{has_written_of_eq}
use Rattle.std.proofs.lemmas.Iterator.{YieldsList-from_chars}
use Rattle.std.proofs.lemmas.Iterator.Consumers.{YieldsList-end}
use Rattle.std.specs.Str.{IsUtf8}
use Rattle.ptpm_text.specs.Escaped.{escaped, escaped_character}
use Rattle.ptpm_text.proofs.escaped.EscapedDisplay.fmt.Goals as goal

pub returns-clause-writes : goal.returns-clause-writes
unfolding escaped
returns-clause-writes g c = λ plain ok.
    let text = c.args.self.now.0.now in
    let utf8 : IsUtf8 text = search rules in
    let end = YieldsList-end (YieldsList-from_chars text utf8 cc) c.loop-character.yielded _ c.loop-character.yielded_by _ _ c.in-None.is c.next.ensures.steps in
    has_written_of_eq _ _ _ _ _ (ap (flat_map escaped_character) (sym (map-id c.loop-character.yielded) ∙ end.0)) (c.loop-character.invariant plain)
