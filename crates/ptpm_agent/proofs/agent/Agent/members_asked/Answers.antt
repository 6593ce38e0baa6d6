use Rattle.std.proofs.Common.{◌≡◌, ◌∙◌, ap, sym}
use Rattle.ptpm_codec.specs.declared.message.Action.TheVariants as actions
use Rattle.ptpm_data.specs.Changed.{changed}
use Rattle.ptpm_data.specs.Changes.{changed_by}
use Rattle.ptpm_data.specs.Members.{DataSetsValue}
use Rattle.ptpm_data.specs.Request.{RequestValue}
use Rattle.ptpm_data.proofs.Differing.{nothing_changed}
use Rattle.ptpm_data.proofs.Keeping.{changed_by-get}
use Rattle.ptpm_agent.specs.Addressing.{request_of}
use Rattle.ptpm_agent.proofs.agent.Agent.members_asked.Goals as goal

pub returns-in-Get : goal.returns-in-Get
returns-in-Get g c = λ asks.
    let d = c.args.self.now.sets in
    let get : (request_of c.args.message.now).action ≡ actions.Get = sym c.action.ensures ∙ c.in-Get.is in
    nothing_changed d ∙ ap (λ (e : DataSetsValue). changed d e) (sym (changed_by-get (request_of c.args.message.now) c.args.rights d get))

pub returns-in_default : goal.returns-in_default
returns-in_default g c = λ asks.
    c.changes_of.ensures
    ∙ ap (λ (q : RequestValue). changed c.args.self.now.sets (changed_by q c.args.rights c.args.self.now.sets)) c.request_of.ensures
