use Rattle.std.proofs.Common.{◌≡◌, ◌++◌, ℕ, List, ap, append_assoc, codes, subst, sym}
use Rattle.ptpm_members.specs.FieldText.{octets_line}
use Rattle.ptpm_members.specs.ValueText.{octets_text}
use Rattle.ptpm_members.proofs.field_text.push_octets.Goals as goal

name : (lead octets : List ℕ) → lead ++ codes "value " ++ octets_text octets ++ codes "\n" ≡ octets_line lead octets
unfolding octets_line
name lead octets =
    ap (λ t. t ++ octets_text octets ++ codes "\n") (sym (append_assoc lead (codes "value") (codes " ")))

pub returns : goal.returns
returns g c =
    subst (λ (t : List ℕ). g.T.TextSink.pushed c.args.sink.now t c.push_str-3.new.self) (name c.args.lead.now c.args.octets.now)
    (g.met.T.TextSink.pushed_twice _ _ _ _ _
    (g.met.T.TextSink.pushed_twice _ _ _ _ _
    (g.met.T.TextSink.pushed_twice _ _ _ _ _ c.push_str.ensures c.push_str-2.ensures) c.push_octets_text.ensures) c.push_str-3.ensures)
