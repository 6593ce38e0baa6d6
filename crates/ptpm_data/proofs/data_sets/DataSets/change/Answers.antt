use Rattle.std.proofs.Common.{arith, ◌≡◌, ◌∙◌, ap}
use Rattle.ptpm_data.specs.ManagementId.{row_value, row_of}
use Rattle.ptpm_data.specs.Request.{RequestValue}
use Rattle.ptpm_data.proofs.Answering.{changed_by-listed, changed_by-unlisted, entry_is, no_entry, refusal_of-listed, refusal_of-unlisted}
use Rattle.ptpm_data.proofs.data_sets.DataSets.change.Goals as goal

pub returns-in_default-clause-refusal : goal.returns-in_default-clause-refusal
returns-in_default-clause-refusal c = grind (arith, refusal_of-unlisted, no_entry)

pub returns-in_default-clause-changed : goal.returns-in_default-clause-changed
returns-in_default-clause-changed c = grind (arith, changed_by-unlisted, no_entry)

pub returns-clause-refusal : goal.returns-clause-refusal
returns-clause-refusal c =
    let id : row_of c.request.inside.id ≡ row_of c.args.request.now.id = ap (λ (q : RequestValue). row_of q.id) c.request.view_is in
    let listed = refusal_of-listed c.args.request.now c.args.rights (row_value c.in-Some.row) (entry_is (c.by_id.ensures ∙ id) c.in-Some.is) in grind arith

pub returns-clause-changed : goal.returns-clause-changed
returns-clause-changed c =
    let id : row_of c.request.inside.id ≡ row_of c.args.request.now.id = ap (λ (q : RequestValue). row_of q.id) c.request.view_is in
    let listed = changed_by-listed c.args.request.now c.args.rights c.args.self.now (row_value c.in-Some.row) (entry_is (c.by_id.ensures ∙ id) c.in-Some.is) in
    let refused = refusal_of-listed c.args.request.now c.args.rights (row_value c.in-Some.row) (entry_is (c.by_id.ensures ∙ id) c.in-Some.is) in grind arith
