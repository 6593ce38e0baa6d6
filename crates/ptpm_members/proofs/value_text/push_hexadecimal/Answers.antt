use Rattle.std.proofs.Common.{List, arith, rules, subst, ℕ}
use Rattle.ptpm_codec.specs.Identity.{octet_text}
use Rattle.ptpm_members.proofs.LineLemmas.{one_octet_more}
use Rattle.ptpm_members.proofs.value_text.push_hexadecimal.Goals as goal

pub loop-octet-preserved : goal.loop-octet-preserved
loop-octet-preserved g c =
    subst (λ (t : List ℕ). g.T.TextSink.pushed c.args.sink.now t c.push_digits.new.sink)
    (one_octet_more octet_text c.args.octets.now c.loop-octet.octet-index (omega arith))
    (g.met.T.TextSink.pushed_twice _ _ _ _ _ c.loop-octet.invariant (search rules))
