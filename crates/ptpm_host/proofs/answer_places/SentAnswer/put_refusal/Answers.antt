use Rattle.std.proofs.Common.{◌≡◌, ◌∙◌, ap, arith, drop, length}
use Rattle.std.proofs.lemmas.List.{take-append-le, take_all}
use Rattle.ptpm_host.proofs.answer_places.SentAnswer.put_refusal.Goals as goal

pub returns-clause-message : goal.returns-clause-message
returns-clause-message c = λ v action answered fits is.
    let size : length c.refuse_in.new.place ≡ 60 = omega (arith, c.refuse_in.auto.place) in
    let whole = take-append-le 60 c.refuse_in.new.place (drop 60 c.args.self.now.octets) (omega (arith, size)) ∙ take_all 60 c.refuse_in.new.place (omega (arith, size)) in
    ap (λ m. (c.args.port, m)) (whole ∙ c.refuse_in.ensures v action answered fits is)
