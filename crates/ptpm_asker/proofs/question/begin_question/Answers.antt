use Rattle.std.proofs.Common.{◌≡◌, ◌∙◌, arith, true, List, ℕ, length, refl, take, sym}
use Rattle.std.proofs.lemmas.List.{length-take-le}
use Rattle.ptpm_codec.specs.Message.{is_data_field}
use Rattle.ptpm_asker.proofs.Permitted.{begins-also, of-clock, memory-alone}
use Rattle.ptpm_asker.proofs.question.begin_question.Goals as goal

is-field : (octets : List ℕ) → length octets ≡ 26 → is_data_field octets ≡ true
is-field octets size = rw size refl

is-part : (octets : List ℕ) → length octets ≡ 26 → is_data_field (take 20 octets) ≡ true
is-part octets size =
    let e : length (take 20 octets) ≡ 20 = length-take-le 20 octets (omega (arith, size)) in
    rw e refl

pub returns-then-is_of_port-clause-memory : goal.returns-then-is_of_port-clause-memory
returns-then-is_of_port-clause-memory c h =
    memory-alone _ _ c.begin_asked.ensures.no_other
    (begins-also _ _ 0x2004 c.args.drawn.now (λ port. sym c.is_of_port.ensures ∙ c.if-is_of_port.true) (is-field _ c.told-drawn) h)

pub returns-else-is_of_port-clause-memory : goal.returns-else-is_of_port-clause-memory
returns-else-is_of_port-clause-memory c h =
    memory-alone _ _ c.begin_asked-else-is_of_port.ensures.no_other
    (begins-also _ _ 0x2000 (take 20 c.args.drawn.now) (of-clock _) (is-part _ c.told-drawn) h)
