use Rattle.std.proofs.Common.{◌≡◌, ◌∙◌, ap, sym}
use Rattle.ptpm_codec.specs.declared.message.Action.TheVariants as actions
use Rattle.ptpm_data.specs.Changed.{changed}
use Rattle.ptpm_data.specs.Members.{DataSetsValue}
use Rattle.ptpm_data.specs.Request.{RequestValue}
use Rattle.ptpm_data.proofs.Differing.{nothing_changed}
use Rattle.ptpm_data.proofs.Keeping.{changed_by-get}
use Rattle.ptpm_data.proofs.data_sets.DataSets.changes_of.Goals as goal

pub returns-in-Get : goal.returns-in-Get
returns-in-Get c =
    let d = c.args.self.now in
    let get : c.args.request.now.action ≡ actions.Get = ap (λ (q : RequestValue). q.action) (sym c.request.view_is) ∙ c.in-Get.is in
    nothing_changed d ∙ ap (λ (e : DataSetsValue). changed d e) (sym (changed_by-get c.args.request.now c.args.rights d get))
