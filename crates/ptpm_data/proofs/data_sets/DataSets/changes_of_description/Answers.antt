use Rattle.std.proofs.Common.{◌≡◌, ◌∙◌, refl, subst}
use Rattle.ptpm_data.specs.Changed.{changed}
use Rattle.ptpm_data.specs.Members.{DataSetsValue, data_sets_value}
use Rattle.ptpm_data.proofs.Differing.{texts}
use Rattle.ptpm_data.proofs.ForeseenMembers.{description_told, of_clock_told}
use Rattle.ptpm_data.proofs.data_sets.DataSets.changes_of_description.Goals as goal

pub returns : goal.returns
returns c =
    let d = data_sets_value c.self.inside in
    let text = c.args.text.now in
    subst (λ (e : DataSetsValue). c.of_clock.result ≡ changed e (record e { description = text })) c.self.view_is
    (c.of_clock.ensures ∙ of_clock_told d (record d { description = text }) c.if_differ.result refl
    (description_told d text c.texts_differ-differ.result c.if_differ.result
    (texts _ _ _ _ _ c.text.ensures.value refl c.texts_differ-differ.ensures) c.if_differ.ensures))
