use Rattle.std.proofs.Common.{◌≡◌, ◌∙◌, ap, rules, string_bytes}
use Rattle.serde_json.specs.Data.{Data, string}
use Rattle.serde_json.specs.View.{members_view, view}
use Rattle.serde_json.specs.declared.value.Value.{String as text_value, the_lemmas}
use Rattle.ptpm_plan.proofs.PlanObjects.{has_both}
use Rattle.ptpm_plan.proofs.report.Report.value.Goals as goal

pub returns : goal.returns
returns c =
    let id = text_value c.in_ok-id.id in
    let says : view id ≡ string (string_bytes c.in_ok-id.id) = search (rules, the_lemmas) in
    has_both c.args.self.now.plan.now.changes.items c.as_slice-changes.result.now c.put-2.new.map
    (members_view c.in_ok-map.map.entries) (members_view c.put.new.map.entries) (view id) (view c.in_ok-changes_value.field-0)
    c.as_slice-changes.ensures.value (says ∙ ap string c.in_ok-id.ensures) c.in_ok-changes_value.ensures c.in_ok-put.ensures.ok
    c.in_ok-put-2.ensures.ok
