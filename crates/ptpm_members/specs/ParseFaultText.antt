-- Why words are no dataField, as a text (this project's profile).
use Rattle.std.specs.Prelude.{ℕ, List, ◌++◌, codes}
use Rattle.ptpm_members.specs.declared.parsing.ParseFault.{ParseFault}
use Rattle.ptpm_members.specs.declared.parsing.ParseFault.TheVariants as faults
use Rattle.ptpm_members.specs.Names.{member_name}

-- its name, and that of the member that it names
abbrev pub fault_text : ParseFault → List ℕ
fault_text faults.NoSuchId = codes "NoSuchId"
fault_text faults.WordCount = codes "WordCount"
fault_text (faults.OtherName member) = codes "OtherName " ++ member_name member
fault_text (faults.NoValue member) = codes "NoValue " ++ member_name member
