-- How the refusal of a table is written (this project's profile).
use Rattle.std.specs.Prelude.{ℕ, List, codes}
use Rattle.ptpm_table.specs.declared.error.TableError.{TableError}
use Rattle.ptpm_table.specs.declared.error.TableError.TheVariants as refusals

abbrev pub table_error_text : TableError → List ℕ
table_error_text refusals.TooMany = codes "TooMany"
table_error_text refusals.Twice = codes "Twice"
table_error_text refusals.OutOfMemory = codes "OutOfMemory"
