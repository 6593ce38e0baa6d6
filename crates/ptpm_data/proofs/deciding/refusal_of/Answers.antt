use Rattle.std.proofs.Common.{arith, ◌≡◌, ◌∙◌, ap}
use Rattle.ptpm_data.specs.ManagementId.{row_value, row_of}
use Rattle.ptpm_data.specs.Request.{RequestValue}
use Rattle.ptpm_data.proofs.Answering.{entry_is, no_entry, refusal_of-listed, refusal_of-unlisted}
use Rattle.ptpm_data.proofs.deciding.refusal_of.Goals as goal

pub returns-in-Some : goal.returns-in-Some
returns-in-Some c =
    let id : row_of c.request.inside.id ≡ row_of c.args.request.now.id = ap (λ (q : RequestValue). row_of q.id) c.request.view_is in
    let listed = refusal_of-listed c.args.request.now c.args.rights (row_value c.in-Some.row) (entry_is (c.by_id.ensures ∙ id) c.in-Some.is) in grind arith

pub returns-in-None : goal.returns-in-None
returns-in-None c = grind (arith, refusal_of-unlisted, no_entry)
