-- The faults of a network file, and the refusal that the first of them is of.
use Rattle.std.specs.Prelude.{ℕ, nat_lt, if◌then◌else◌, List, [], ◌∷◌, ◌++◌, length, Option, Some, None}
use Rattle.toml.specs.Data.{Members}
use Rattle.toml.specs.Parse.{parse_document}
use Rattle.toml.specs.View.{table_view}
use Rattle.ptpm_script.specs.declared.fault.Fault.{Fault}
use Rattle.ptpm_script.specs.declared.document.Document.{Document}
use Rattle.ptpm_script.specs.declared.document.Document.TheVariants as documents
use Rattle.ptpm_script.specs.declared.net_error.NetError.{NetError}
use Rattle.ptpm_script.specs.declared.net_error.NetError.TheVariants.{TooLong, NotToml}
use Rattle.ptpm_script.specs.Heads.{clocks_of, ends_of, sessions_of}
use Rattle.ptpm_script.specs.LimitFaults.{limit_marks}
use Rattle.ptpm_script.specs.Marks.{Mark, in_file, in_line, marked, whole}
use Rattle.ptpm_script.specs.NameFaults.{name_marks}
use Rattle.ptpm_script.specs.RepeatFaults.{repeat_marks}
use Rattle.ptpm_script.specs.ShapeFaults.{shape_marks}
use Rattle.ptpm_script.specs.StartFaults.{start_marks}

-- the refusal that the first of some marks is of
abbrev pub first_refusal : List Mark → Option NetError
first_refusal [] = None
first_refusal (m ∷ ms) = Some m.class

-- the same of faults
abbrev pub first_class : List Fault → Option NetError
first_class [] = None
first_class (fault ∷ faults) = Some fault.class

-- ---- what is to be found, in the order of the refusals

-- of a document: each part is of one refusal, or of clocks that can't start
unfoldable pub file_marks : Members → List Mark
file_marks ms =
    shape_marks ms
    ++ limit_marks ms (sessions_of ms)
    ++ repeat_marks (clocks_of ms) (sessions_of ms) (ends_of ms)
    ++ name_marks (clocks_of ms) (sessions_of ms) (ends_of ms)
    ++ start_marks (clocks_of ms)

abbrev pub long_marks : List Mark
long_marks = marked TooLong in_file whole ∷ []

abbrev pub broken_marks : List Mark
broken_marks = marked NotToml in_line whole ∷ []

abbrev pub marks_of_document : Option Members → List Mark
marks_of_document None = broken_marks
marks_of_document (Some ms) = file_marks ms

unfoldable pub text_marks : List ℕ → List Mark
text_marks text = if nat_lt 262144 (length text) then long_marks else marks_of_document (parse_document text)

-- ---- as the program has it

abbrev pub document_marks : Document → List Mark
document_marks documents.Long = long_marks
document_marks (documents.Broken line error) = broken_marks
document_marks (documents.Table t) = file_marks (table_view t)
