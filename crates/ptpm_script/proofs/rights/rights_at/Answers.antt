use Rattle.std.proofs.Common.{◌≡◌, ◌∙◌, ap, map}
use Rattle.bitflags.specs.Sets.{known_from}
use Rattle.toml.specs.View.{view}
use Rattle.ptpm_data.specs.Rights.{all_rights}
use Rattle.ptpm_data.specs.declared.rights.Rights.{Rights}
use Rattle.ptpm_script.specs.Rights.{rights_at, rights_from, rights_given}
use Rattle.ptpm_script.proofs.rights.rights_at.Goals as goal

same-set : (a b : Rights) → a.0 ≡ b.0 → a ≡ b
same-set a b e = λ i. record { 0 = e i }

pub returns-in-Some : goal.returns-in-Some
unfolding rights_at
returns-in-Some c =
    same-set c.rights_of.result (record { 0 = rights_from 0 (map view c.in-Some.words.now) }) c.rights_of.ensures
    ∙ ap rights_given c.in-Some.ensures

pub returns-in-None : goal.returns-in-None
unfolding known_from rights_at
returns-in-None c =
    let set : c.all.result.0 ≡ 7 = c.all.ensures tt in
    same-set c.all.result all_rights set ∙ ap rights_given c.in-None.ensures
