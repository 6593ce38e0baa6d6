use Rattle.std.proofs.Common.{◌≡◌, ◌∙◌, ◌*◌, ℕ, ap, refl, subst}
use Rattle.ptpm_data.specs.Changed.{changed, number_of}
use Rattle.ptpm_data.specs.Changes.{with_utc_properties}
use Rattle.ptpm_data.specs.Members.{DataSetsValue, data_sets_value}
use Rattle.ptpm_data.proofs.Differing.{digit, flags}
use Rattle.ptpm_data.proofs.ForeseenMembers.{of_clock_told, utc_told}
use Rattle.ptpm_data.proofs.data_sets.DataSets.changes_of_utc.Goals as goal

pub returns : goal.returns
returns c =
    let d = data_sets_value c.self.inside in
    let octets = c.args.octets.now in
    subst (λ (e : DataSetsValue). c.of_clock.result ≡ changed e (record e { time = with_utc_properties e.time octets })) c.self.view_is
    (c.of_clock.ensures
    ∙ of_clock_told d (record d { time = with_utc_properties d.time octets }) (record { 0 = c.number_of.result * 4194304 }) refl
    (utc_told d octets c.set_utc_properties.new.time (record { 0 = c.number_of.result * 4194304 }) c.set_utc_properties.ensures
    (ap (λ (n : ℕ). n * 4194304) (c.number_of.ensures.exact
    ∙ ap number_of (digit c.differ.ensures (digit (flags _ _ _ c.differ-2.ensures) (digit (flags _ _ _ c.differ-3.ensures) (digit (flags _ _ _ c.differ-4.ensures) refl))))))))
