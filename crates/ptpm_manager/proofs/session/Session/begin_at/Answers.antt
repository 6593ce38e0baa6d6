use Rattle.std.proofs.Common.{Some, subst}
use Rattle.std.proofs.lemmas.Result.{on_ok_weaker}
use Rattle.ptpm_manager.specs.Ask.{IsAskedOf, ask_of, request_at_port}
use Rattle.ptpm_manager.specs.Session.{SessionValue}
use Rattle.ptpm_manager.proofs.AskLaws.{request_at_port-permitted}
use Rattle.ptpm_manager.proofs.session.Session.begin_at.Goals as goal

pub make-requires-clause-asked : goal.make-requires-clause-asked
make-requires-clause-asked c =
    let ask = ask_of c.args.action c.args.id (Some c.args.port) c.args.octets.now in
    subst (λ (s : SessionValue). IsAskedOf s.setup.ports (request_at_port ask)) c.self.view_is
    (request_at_port-permitted c.self.inside.setup.ports ask c.in_ok-judge_at.ensures.refusal)

pub returns-clause-request : goal.returns-clause-request
returns-clause-request c =
    let ask = ask_of c.args.action c.args.id (Some c.args.port) c.args.octets.now in
    let made = subst (λ (s : SessionValue). IsAskedOf s.setup.ports (request_at_port ask)) c.self.view_is
    (request_at_port-permitted c.self.inside.setup.ports ask c.in_ok-judge_at.ensures.refusal) in
    on_ok_weaker c.make.result (λ begun. made) c.make.ensures.begun
