-- Octets as text, if there are none and if there are some.
use Rattle.std.proofs.Common.{arith, ◌≡◌, ◌<◌, ℕ, List, [], ◌∷◌, length, refl, rules, false, ◌+◌, ◌++◌, get_or, take, sym, ap, ◌∙◌}
use Rattle.std.specs.Prelude.{codes, flat_map}
use Rattle.std.proofs.Output.{has_written_append, has_written_of_eq}
use Rattle.std.proofs.lemmas.Fmt.{hex_byte}
use Rattle.std.proofs.lemmas.List.{flat_map_more, take_all, take_more}
use Rattle.ptpm_codec.specs.Identity.{octet_text}
use Rattle.ptpm_text.specs.OctetText.{text_of_octets}
use Rattle.ptpm_text.proofs.hexadecimal.HexadecimalDisplay.fmt.Goals as goal

text_of_none : (octets : List ℕ) → length octets ≡ 0 → codes "-" ≡ text_of_octets octets
unfolding text_of_octets
text_of_none [] h = refl
text_of_none (x ∷ xs) h = absurd (omega arith)

text_of_some : (octets : List ℕ)
    → 0 < length octets
    → flat_map octet_text octets ≡ text_of_octets octets
unfolding text_of_octets
text_of_some [] h = absurd (omega arith)
text_of_some (x ∷ xs) h = refl

pub returns-then-is_empty-clause-writes : goal.returns-then-is_empty-clause-writes
returns-then-is_empty-clause-writes g c = grind (arith, has_written_of_eq, text_of_none)

pub loop-octet-preserved : goal.loop-octet-preserved
loop-octet-preserved g c = λ plain.
    let octets : List ℕ = c.args.self.now.0.now in
    let i = c.loop-octet.octet-index in
    let octet = get_or octets i 0 in
    let more : flat_map octet_text (take i octets) ++ octet_text octet ≡ flat_map octet_text (take (i + 1) octets) =
    flat_map_more octet_text [] (take i octets) octet ∙ ap (flat_map octet_text) (sym (take_more octets i 0 (omega arith))) in
    has_written_of_eq _ _ _ _ _ more (has_written_append _ _ _ _ _ _ (c.loop-octet.invariant plain) (has_written_of_eq _ _ _ _ _ (hex_byte false octet (search rules)) (search rules)))

pub returns-clause-writes : goal.returns-clause-writes
returns-clause-writes g c = grind (arith, take_all, text_of_some, has_written_of_eq)
