use Rattle.std.proofs.Common.{◌≡◌, ◌∙◌, ap, refl, Ok, Err}
use Rattle.ptpm_host.specs.declared.refusal.ParseRefusal.TheVariants.{NotWords}
use Rattle.ptpm_host.specs.Numbers.{parse_number}
use Rattle.ptpm_host.specs.Parsing.{fault_place}
use Rattle.ptpm_c.proofs.fields.ptpm_field_parse.Goals as goal

pub returns-in-Ok-clause-parsed : goal.returns-in-Ok-clause-parsed
returns-in-Ok-clause-parsed c = λ ws are few. (Ok c.in-Ok.size, c.in-Ok.ensures.parsed ws are few, (refl, refl, refl))

pub returns-in-Ok-clause-no_words : goal.returns-in-Ok-clause-no_words
returns-in-Ok-clause-no_words c = λ none. let never = c.in-Ok.ensures.no_words none in absurd cc

pub returns-in-Err-clause-parsed : goal.returns-in-Err-clause-parsed
returns-in-Err-clause-parsed c =
    λ ws are few.
    (Err c.in-Err.refusal, c.in-Err.ensures.parsed ws are few, (c.parse_number.ensures.number, refl, c.place.ensures))

pub returns-in-Err-clause-no_words : goal.returns-in-Err-clause-no_words
returns-in-Err-clause-no_words c =
    λ none.
    let same = c.in-Err.ensures.no_words none in
    let is : c.in-Err.refusal ≡ NotWords = cc in
    (c.parse_number.ensures.number ∙ ap parse_number is, refl, c.place.ensures ∙ ap fault_place is)
