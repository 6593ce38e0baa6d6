use Rattle.std.proofs.Common.{ℕ, sym, subst}
use Rattle.std.proofs.lemmas.Result.{on_ok_weaker}
use Rattle.ptpm_manager.specs.Ask.{IsAskedOf, IsRequestTo, ask_of, request_of}
use Rattle.ptpm_manager.specs.Session.{SessionValue}
use Rattle.ptpm_manager.proofs.AskLaws.{asked_of, request_of-permitted}
use Rattle.ptpm_manager.proofs.session.Session.begin_with.Goals as goal

pub make-requires-clause-asked : goal.make-requires-clause-asked
make-requires-clause-asked c =
    let ask = ask_of c.args.action c.args.id c.args.port c.args.octets.now in
    let made = request_of-permitted c.self.inside.setup.ports ask c.in_ok-judge.ensures.refusal in
    subst (λ (port : ℕ). IsAskedOf c.args.self.now.setup.ports (record { action = c.args.action; id = c.args.id; port = port; octets = c.args.octets.now }))
    (sym c.target_port.ensures)
    (subst (λ (s : SessionValue). IsAskedOf s.setup.ports (request_of ask)) c.self.view_is
    (asked_of c.self.inside.setup.ports (request_of ask) made))

pub returns-clause-request : goal.returns-clause-request
returns-clause-request c =
    let ask = ask_of c.args.action c.args.id c.args.port c.args.octets.now in
    let made = subst (λ (s : SessionValue). IsRequestTo s.setup.ports (request_of ask)) c.self.view_is
    (request_of-permitted c.self.inside.setup.ports ask c.in_ok-judge.ensures.refusal) in
    on_ok_weaker c.make.result (λ begun. made) c.make.ensures.begun
