use Rattle.std.proofs.Common.{◌≡◌, Some, arith}
use Rattle.ptpm_manager.specs.Ask.{ask_of}
use Rattle.ptpm_asker.specs.Question.{begins_refusal}
use Rattle.ptpm_asker.proofs.asker.Asker.begin_wanted.Goals as goal

pub returns-in_err-begin_asked-clause-refused : goal.returns-in_err-begin_asked-clause-refused
returns-in_err-begin_asked-clause-refused c e is =
    let wanted = c.in-Some.wanted in
    let told : begins_refusal c.self.inside.session (ask_of wanted.action wanted.id wanted.port c.as_slice.result.now) ≡ Some e =
    grind (arith, is, c.in-Some.is, c.self.view_is, c.as_slice.ensures) in
    let refused = c.in_err-begin_asked.ensures.refused e told in
    grind (arith, refused)
