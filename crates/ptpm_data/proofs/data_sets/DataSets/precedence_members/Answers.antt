use Rattle.std.proofs.Common.{ℕ, ◌∙◌, ap, if◌then◌else◌}
use Rattle.ptpm_data.specs.declared.precedence_change.PrecedenceChange.TheVariants.{Priority1, Priority2, ClockAccuracy}
use Rattle.ptpm_data.specs.Members.{data_sets_value}
use Rattle.ptpm_data.proofs.Differing.{naturals}
use Rattle.ptpm_data.proofs.ForeseenMembers.{precedence_told}
use Rattle.ptpm_data.proofs.data_sets.DataSets.precedence_members.Goals as goal

pub returns-in-Priority1 : goal.returns-in-Priority1
returns-in-Priority1 c =
    precedence_told c.args.change (Priority1 c.in-Priority1.priority) c.args.self.now (data_sets_value c.self.inside) c.differ.result c.eq-is_shown.result c.if_differ.result
    c.in-Priority1.is c.self.view_is c.self.invariant c.eq-is_shown.ensures (naturals _ _ _ c.differ.ensures)
    (c.if_differ.ensures ∙ ap (λ (n : ℕ). if c.differ.result then n else 0) c.and_if.ensures)

pub returns-in-Priority2 : goal.returns-in-Priority2
returns-in-Priority2 c =
    precedence_told c.args.change (Priority2 c.in-Priority2.priority) c.args.self.now (data_sets_value c.self.inside) c.differ-in-Priority2.result c.eq-is_shown.result c.if_differ-in-Priority2.result
    c.in-Priority2.is c.self.view_is c.self.invariant c.eq-is_shown.ensures (naturals _ _ _ c.differ-in-Priority2.ensures)
    (c.if_differ-in-Priority2.ensures ∙ ap (λ (n : ℕ). if c.differ-in-Priority2.result then n else 0) c.and_if-in-Priority2.ensures)

pub returns-in-ClockAccuracy : goal.returns-in-ClockAccuracy
returns-in-ClockAccuracy c =
    precedence_told c.args.change (ClockAccuracy c.in-ClockAccuracy.accuracy) c.args.self.now (data_sets_value c.self.inside) c.differ-in-ClockAccuracy.result c.eq-is_shown.result c.if_differ-in-ClockAccuracy.result
    c.in-ClockAccuracy.is c.self.view_is c.self.invariant c.eq-is_shown.ensures (naturals _ _ _ c.differ-in-ClockAccuracy.ensures)
    (c.if_differ-in-ClockAccuracy.ensures ∙ ap (λ (n : ℕ). if c.differ-in-ClockAccuracy.result then n else 0) c.and_if-in-ClockAccuracy.ensures)
