-- The rights of a manager (this project's profile): a set of three, each a bit, which Refusals names if one is needed.
use Rattle.ptpm_data.specs.declared.rights.Rights.{Rights}

-- none of them
abbrev pub no_rights : Rights
no_rights = record { 0 = 0 }

-- all three
abbrev pub all_rights : Rights
all_rights = record { 0 = 7 }
