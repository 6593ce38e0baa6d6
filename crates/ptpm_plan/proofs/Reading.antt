-- The answers of the lines so far, and of one line more.
use Rattle.std.proofs.Common.{◌≡◌, ℕ, ◌+◌, ◌-◌, ◌^◌, ◌≤◌, List, [], ◌++◌, true, false, Option, Some, None, Result, Ok, Err, IfSome, refl, sym, ap, subst, ◌∙◌, append-nil}
use Rattle.std.specs.List.{cons_option, filter_map}
use Rattle.std.specs.Option.{option_to_list}
use Rattle.std.proofs.lemmas.List.Elements.{filter_map-append}
use Rattle.ptpm_text.specs.Lines.{ReadsNext}
use Rattle.ptpm_commands.specs.Lines.{datagram_in}
use Rattle.ptpm_commands.specs.Taken.{HasNumbers, line_datagram}
use Rattle.ptpm_commands.specs.declared.faults.Fault.{Fault}
use Rattle.ptpm_commands.proofs.TakenLemmas.{Reaches, next-has, next-last, reaches-first, reaches-last, reaches-next, reaches-out, values_of}
use Rattle.ptpm_plan.specs.Answers.{answer_in}
use Rattle.ptpm_plan.specs.Printed.{AreAnswersOf, TakesLine, answers_in}
use Rattle.ptpm_plan.specs.declared.answer.Answer.{Answer}

-- the answers so far are those of the lines that were read; the next has this number
pub record HasRead (number : ℕ) (known left : Option (List ℕ)) (answers : List Answer) : Type 0 where
  pub datagrams : List (List ℕ)
  pub reaches : Reaches line_datagram datagrams number known left
  pub are : answers ≡ filter_map answer_in datagrams

pub nothing_read : (known : Option (List ℕ)) (answers : List Answer) → answers ≡ [] → HasRead 1 known known answers
nothing_read known answers e = record { datagrams = []; reaches = reaches-first line_datagram known; are = e }

single : (o : Option Answer) → option_to_list o ≡ cons_option o []
single None = refl
single (Some a) = refl

one_more : (ds : List (List ℕ)) (d : List ℕ) → filter_map answer_in ds ++ option_to_list (answer_in d) ≡ filter_map answer_in (ds ++ option_to_list (Some d))
one_more ds d = ap (λ xs. filter_map answer_in ds ++ xs) (single (answer_in d)) ∙ sym (filter_map-append answer_in ds (option_to_list (Some d)))

line_read : (n : ℕ) (known left next : Option (List ℕ)) (line : List ℕ) (old new : List Answer) (r : Result (Option (List ℕ)) Fault)
    → datagram_in n line ≡ r → ReadsNext left true line next → TakesLine r old new
    → HasRead n known left old → HasRead (n + 1) known next new
line_read n known left next line old new (Ok None) e read takes h = record {
  datagrams = h.datagrams ++ [];
  reaches = reaches-next line_datagram h.datagrams n known left next None h.reaches (next-has datagram_in n left next line (Ok None) read e);
  are = takes ∙ h.are ∙ ap (filter_map answer_in) (sym (append-nil h.datagrams));
}
line_read n known left next line old new (Ok (Some d)) e read takes h = record {
  datagrams = h.datagrams ++ option_to_list (Some d);
  reaches = reaches-next line_datagram h.datagrams n known left next (Some d) h.reaches (next-has datagram_in n left next line (Ok (Some d)) read e);
  are = takes ∙ ap (λ xs. xs ++ option_to_list (answer_in d)) h.are ∙ one_more h.datagrams d;
}
line_read n known left next line old new (Err f) e read takes h = absurd takes

pub next_line : (n : ℕ) (known left next : Option (List ℕ)) (line : List ℕ) (old new : List Answer)
    → ReadsNext left true line next → TakesLine (datagram_in n line) old new
    → HasRead n known left old → HasRead (n + 1) known next new
next_line n known left next line old new read takes h = line_read n known left next line old new (datagram_in n line) refl read takes h

pub no_more_lines : (n : ℕ) (known left next : Option (List ℕ)) (line : List ℕ) (answers : List Answer)
    → ReadsNext left false line next → HasRead n known left answers → AreAnswersOf known answers
unfolding answers_in
no_more_lines n None left next line answers read h = tt
no_more_lines n (Some xs) left next line answers read h = λ few.
    h.are ∙ ap (filter_map answer_in) (sym (ap values_of (reaches-last line_datagram h.datagrams n xs left next h.reaches (next-last left next line read))))

pub no_more_numbers : (n : ℕ) (known left : Option (List ℕ)) (answers : List Answer)
    → 2 ^ 64 - 1 ≤ n → HasRead n known left answers → AreAnswersOf known answers
unfolding answers_in
no_more_numbers n None left answers over h = tt
no_more_numbers n (Some xs) left answers over h = λ few.
    h.are ∙ ap (filter_map answer_in) (sym (ap values_of (reaches-out line_datagram h.datagrams n xs left h.reaches few over)))

-- what is known of a reader is what its lines have left
from_lines : (xs : List ℕ) (lines : Option (List ℕ)) (answers : List Answer)
    → lines ≡ Some xs → AreAnswersOf lines answers → HasNumbers xs → answers ≡ answers_in xs
from_lines xs lines answers same h = subst (λ o. AreAnswersOf o answers) same h

pub of_reader : (reader lines : Option (List ℕ)) (answers : List Answer)
    → IfSome reader (λ octets. lines ≡ Some octets) → AreAnswersOf lines answers → AreAnswersOf reader answers
of_reader None lines answers same h = tt
of_reader (Some xs) lines answers same h = from_lines xs lines answers same h
