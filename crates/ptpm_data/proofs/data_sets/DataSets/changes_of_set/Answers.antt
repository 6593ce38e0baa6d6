use Rattle.std.proofs.Common.{arith, ◌≡◌, ◌∙◌, List, ap, sym, ℕ}
use Rattle.ptpm_data.specs.declared.management_id.Layout.{Layout}
use Rattle.ptpm_data.specs.Changed.{changed}
use Rattle.ptpm_data.specs.Changes.{set_members}
use Rattle.ptpm_data.specs.Members.{DataSetsValue}
use Rattle.ptpm_data.proofs.Differing.{nothing_changed}
use Rattle.ptpm_data.proofs.data_sets.DataSets.changes_of_set.Goals as goal

pub returns-in-UserDescription : goal.returns-in-UserDescription
unfolding set_members
returns-in-UserDescription c =
    let d = c.args.self.now in
    c.changes_of_description.ensures
    ∙ ap (λ (text : List ℕ). changed d (record d { description = text })) c.text_of_ptp_text.ensures
    ∙ ap (λ (l : Layout). changed d (set_members l c.args.port c.args.octets.now d)) (sym c.in-UserDescription.is)

pub returns-in-Priority1 : goal.returns-in-Priority1
unfolding set_members
returns-in-Priority1 c =
    c.changes_of_precedence.ensures
    ∙ ap (λ (l : Layout). changed c.args.self.now (set_members l c.args.port c.args.octets.now c.args.self.now)) (sym c.in-Priority1.is)

pub returns-in-Priority2 : goal.returns-in-Priority2
unfolding set_members
returns-in-Priority2 c =
    c.changes_of_precedence-in-Priority2.ensures
    ∙ ap (λ (l : Layout). changed c.args.self.now (set_members l c.args.port c.args.octets.now c.args.self.now)) (sym c.in-Priority2.is)

pub returns-in-ClockAccuracy : goal.returns-in-ClockAccuracy
unfolding set_members
returns-in-ClockAccuracy c =
    c.changes_of_precedence-in-ClockAccuracy.ensures
    ∙ ap (λ (l : Layout). changed c.args.self.now (set_members l c.args.port c.args.octets.now c.args.self.now)) (sym c.in-ClockAccuracy.is)

pub returns-in-Domain : goal.returns-in-Domain
unfolding set_members
returns-in-Domain c =
    c.changes_of_domain.ensures
    ∙ ap (λ (l : Layout). changed c.args.self.now (set_members l c.args.port c.args.octets.now c.args.self.now)) (sym c.in-Domain.is)

pub returns-in-UtcProperties : goal.returns-in-UtcProperties
unfolding set_members
returns-in-UtcProperties c =
    c.changes_of_utc.ensures
    ∙ ap (λ (l : Layout). changed c.args.self.now (set_members l c.args.port c.args.octets.now c.args.self.now)) (sym c.in-UtcProperties.is)

pub returns-in-Setting : goal.returns-in-Setting
unfolding set_members
returns-in-Setting c =
    c.changes_of_ports.ensures
    ∙ ap (λ (l : Layout). changed c.args.self.now (set_members l c.args.port c.args.octets.now c.args.self.now)) (sym c.in-Setting.is)

pub returns-in_default : goal.returns-in_default
unfolding set_members
returns-in_default c =
    let d = c.args.self.now in
    let same : d ≡ set_members c.args.layout c.args.port c.args.octets.now d = grind arith in
    nothing_changed d ∙ ap (λ (e : DataSetsValue). changed d e) same
