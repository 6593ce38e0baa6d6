use Rattle.std.proofs.Common.{◌≡◌, Some, ◌∙◌, sym}
use Rattle.ptpm_data.specs.Refusals.{refusal_of}
use Rattle.ptpm_data.specs.Rights.{all_rights}
use Rattle.ptpm_data.proofs.Keeping.{changed_by-refused}
use Rattle.ptpm_agent.proofs.Alike.{alike}
use Rattle.ptpm_device.proofs.changing.change_here.Goals as goal

pub returns-in-Some-clause-unchanged : goal.returns-in-Some-clause-unchanged
returns-in-Some-clause-unchanged g c =
    let refused : refusal_of c.args.request.now all_rights ≡ Some c.in-Some.error = sym c.carry_out_here.ensures.refusal ∙ c.in-Some.is in
    let sets : c.carry_out_here.new.self.sets ≡ c.args.agent.now.sets =
    c.carry_out_here.ensures.changed ∙ changed_by-refused c.args.request.now all_rights c.args.agent.now.sets c.in-Some.error refused in
    alike _ _ sets c.carry_out_here.ensures.table
