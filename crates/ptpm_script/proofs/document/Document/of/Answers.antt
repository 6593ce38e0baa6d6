use Rattle.std.proofs.Common.{◌≡◌, ℕ, List, Result, Ok, Err, ap, ◌∙◌}
use Rattle.std.specs.Prelude.{IfOk}
use Rattle.std.specs.Result.{result_err}
use Rattle.ptpm_script.specs.Faults.{document_marks, first_refusal, text_marks}
use Rattle.ptpm_script.specs.NetworkText.{network_of}
use Rattle.ptpm_script.specs.declared.document.Document.{Document}
use Rattle.ptpm_script.proofs.NetworkLaw.{faults-found}
use Rattle.ptpm_script.proofs.document.Document.of.Goals as goal

refused : {E : Type 0} (read : Result Document E) (text : List ℕ)
    → IfOk read (λ d. document_marks d ≡ text_marks text)
    → IfOk read (λ d. first_refusal (document_marks d) ≡ result_err (network_of text))
refused (Ok d) text found = ap first_refusal found ∙ faults-found text
refused (Err e) text found = tt

pub returns-clause-refusal : goal.returns-clause-refusal
returns-clause-refusal c = refused c.document_of.result c.args.text.now c.document_of.ensures.found
