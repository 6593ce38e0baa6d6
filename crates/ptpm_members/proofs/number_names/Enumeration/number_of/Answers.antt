use Rattle.std.proofs.Common.{arith, ◌∙◌, ap, refl, sym, ℕ, ◌+◌, List, drop}
use Rattle.ptpm_members.specs.NumberNames.{is_name, named_in, number_of}
use Rattle.ptpm_members.proofs.IdNames.{goes_on, is_found, is_nowhere}
use Rattle.ptpm_members.proofs.number_names.Enumeration.number_of.Goals as goal

pub loop-number-init : goal.loop-number-init
unfolding number_of
loop-number-init c = refl

pub loop-number-preserved : goal.loop-number-preserved
loop-number-preserved c =
    let i = c.loop-number.number-index in
    let rest = λ (k : ℕ) (numbers : List ℕ). named_in c.args.self c.args.name.now (drop k numbers) in
    let same = c.named_numbers-number-items.ensures in
    ap (rest (i + 1)) (sym same)
    ∙ goes_on c.args.self c.args.name.now c.named_numbers-number-items.result.now i (omega arith)
    (ap (is_name c.args.name.now) (sym c.name_of.ensures) ∙ sym c.is_name.ensures ∙ c.if-is_name.false)
    ∙ ap (rest i) same ∙ c.loop-number.invariant

pub returns-then-is_name : goal.returns-then-is_name
returns-then-is_name c =
    let i = c.loop-number.number-index in
    sym (is_found c.args.self c.args.name.now c.named_numbers-number-items.result.now i (omega arith)
    (ap (is_name c.args.name.now) (sym c.name_of.ensures) ∙ sym c.is_name.ensures ∙ c.if-is_name.true))
    ∙ ap (λ (numbers : List ℕ). named_in c.args.self c.args.name.now (drop i numbers)) c.named_numbers-number-items.ensures
    ∙ c.loop-number.invariant

pub returns : goal.returns
returns c =
    let i = c.loop-number.number-index in
    sym (is_nowhere c.args.self c.args.name.now c.named_numbers-number-items.result.now i (omega arith))
    ∙ ap (λ (numbers : List ℕ). named_in c.args.self c.args.name.now (drop i numbers)) c.named_numbers-number-items.ensures
    ∙ c.loop-number.invariant
