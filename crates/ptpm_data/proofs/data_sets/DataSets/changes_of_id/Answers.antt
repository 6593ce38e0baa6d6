use Rattle.std.proofs.Common.{arith, ◌≡◌, ◌∙◌, ap, sym}
use Rattle.ptpm_data.specs.Changed.{changed}
use Rattle.ptpm_data.specs.Changes.{applied, changed_by}
use Rattle.ptpm_data.specs.ManagementId.{row_value, row_of}
use Rattle.ptpm_data.specs.Members.{DataSetsValue}
use Rattle.ptpm_data.specs.Request.{RequestValue}
use Rattle.ptpm_data.proofs.Answering.{changed_by-listed, changed_by-unlisted, entry_is, no_entry}
use Rattle.ptpm_data.proofs.Differing.{nothing_changed}
use Rattle.ptpm_data.proofs.Keeping.{suits_from}
use Rattle.ptpm_data.proofs.data_sets.DataSets.changes_of_id.Goals as goal

pub returns-in_default : goal.returns-in_default
returns-in_default c =
    let d = c.args.self.now in
    let same : d ≡ changed_by c.args.request.now c.args.rights d = grind (arith, changed_by-unlisted, no_entry) in
    nothing_changed d ∙ ap (λ (e : DataSetsValue). changed d e) same

pub changes_at-requires-clause-length : goal.changes_at-requires-clause-length
changes_at-requires-clause-length c =
    let suits = suits_from (row_value c.in-Some.row) c.args.request.now c.args.rights (sym c.refusal.ensures ∙ c.in-None.is) in suits.size

pub returns-in-None : goal.returns-in-None
returns-in-None c =
    let d = c.args.self.now in
    let id : row_of c.request.inside.id ≡ row_of c.args.request.now.id = ap (λ (q : RequestValue). row_of q.id) c.request.view_is in
    let listed = changed_by-listed c.args.request.now c.args.rights d (row_value c.in-Some.row) (entry_is (c.by_id.ensures ∙ id) c.in-Some.is) in
    let same : applied c.in-Some.row.layout c.args.request.now c.args.request.now.action d ≡ changed_by c.args.request.now c.args.rights d = grind arith in
    c.changes_at.ensures ∙ ap (λ (e : DataSetsValue). changed d e) same

pub returns-in-Some-refusal : goal.returns-in-Some-refusal
returns-in-Some-refusal c =
    let d = c.args.self.now in
    let id : row_of c.request.inside.id ≡ row_of c.args.request.now.id = ap (λ (q : RequestValue). row_of q.id) c.request.view_is in
    let listed = changed_by-listed c.args.request.now c.args.rights d (row_value c.in-Some.row) (entry_is (c.by_id.ensures ∙ id) c.in-Some.is) in
    let same : d ≡ changed_by c.args.request.now c.args.rights d = grind arith in
    nothing_changed d ∙ ap (λ (e : DataSetsValue). changed d e) same
