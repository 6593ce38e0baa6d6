use Rattle.std.proofs.Common.{arith, ◌≡◌, ◌∙◌, None, Some, true, false, sym, ap, Bool, if◌then◌else◌}
use Rattle.std.specs.FinMap.{get}
use Rattle.ptpm_codec.specs.Message.{action_of}
use Rattle.ptpm_data.specs.declared.rights.Rights.{Rights}
use Rattle.ptpm_table.specs.declared.reply_table.Look.TheVariants as looks
use Rattle.ptpm_table.specs.Entries.{is_known}
use Rattle.ptpm_table.specs.Numbering.{look_of}
use Rattle.ptpm_agent.specs.Addressing.{request_of}
use Rattle.ptpm_agent.specs.Agent.{clock_of, state_of}
use Rattle.ptpm_device.specs.Asking.{is_here, rights_of_change}
use Rattle.ptpm_device.specs.Relayed.{is_change}
use Rattle.ptpm_device.proofs.WhenAsked.{is_new_look-other, rights_of_change-away, rights_of_change-here, rights_of_change-unchanging}
use Rattle.ptpm_device.proofs.asking.rights_of_change.Goals as goal

pub returns-then-not-is_change : goal.returns-then-not-is_change
returns-then-not-is_change g c =
    let e : is_change (action_of c.args.message.now.body) ≡ false = grind arith in
    sym (rights_of_change-unchanging (clock_of g.T.ReplyTable.owner c.args.agent.now) (state_of g.T.ReplyTable.entries c.args.agent.now) c.args.message.now e)

pub returns-then-not-is_here : goal.returns-then-not-is_here
returns-then-not-is_here g c =
    let clock = clock_of g.T.ReplyTable.owner c.args.agent.now in
    let state = state_of g.T.ReplyTable.entries c.args.agent.now in
    let e : is_here clock state c.args.message.now ≡ false = cc in
    sym (rights_of_change-away clock state c.args.message.now e)

pub returns-in-New : goal.returns-in-New
returns-in-New g c =
    let clock = clock_of g.T.ReplyTable.owner c.args.agent.now in
    let state = state_of g.T.ReplyTable.entries c.args.agent.now in
    let v = c.args.message.now in
    let here : is_here clock state v ≡ true = cc in
    let change : is_change (action_of v.body) ≡ true = grind arith in
    let look : looks.New ≡ look_of (is_known v.source clock.managers) (get state.entries v.source) v.number (request_of v) = grind arith in
    let e : rights_of_change clock state v ≡ Some (clock.rights v.source) = rights_of_change-here clock state v looks.New here change look in
    let own : c.look_with_rights-look.result.1 ≡ clock.rights v.source = grind arith in
    ap (λ (r : Rights). Some r) own ∙ sym e

pub returns-in_default : goal.returns-in_default
returns-in_default g c =
    let clock = clock_of g.T.ReplyTable.owner c.args.agent.now in
    let state = state_of g.T.ReplyTable.entries c.args.agent.now in
    let v = c.args.message.now in
    let l = c.look_with_rights-look.result.0 in
    let here : is_here clock state v ≡ true = cc in
    let change : is_change (action_of v.body) ≡ true = grind arith in
    let look : l ≡ look_of (is_known v.source clock.managers) (get state.entries v.source) v.number (request_of v) = grind arith in
    sym (rights_of_change-here clock state v l here change look
    ∙ ap (λ (b : Bool). if b then Some (clock.rights v.source) else None) (is_new_look-other l c.in_default.not-New))
