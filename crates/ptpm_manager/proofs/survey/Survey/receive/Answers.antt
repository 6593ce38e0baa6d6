use Rattle.std.proofs.Common.{◌≡◌, ◌++◌, ◌∷◌, [], Err, OnOk, refl, sym, subst}
use Rattle.std.proofs.lemmas.Result.{on_ok_weaker}
use Rattle.ptpm_manager.specs.Answers.{first_of_each_source, heard}
use Rattle.ptpm_manager.specs.Survey.{SurveyValue}
use Rattle.ptpm_manager.proofs.AnswerLaws.{first_of_each_source-left}
use Rattle.ptpm_manager.proofs.survey.Survey.receive.Goals as goal

pub returns-in-Ok-clause-first : goal.returns-in-Ok-clause-first
returns-in-Ok-clause-first c datagrams h =
    let before = c.self.inside.answers.entries in
    let enquiry = c.self.inside.enquiry in
    let was : before ≡ first_of_each_source enquiry datagrams =
    subst (λ (v : SurveyValue). v.answers ≡ first_of_each_source v.enquiry datagrams) (sym c.self.view_is) h in
    subst (λ (v : SurveyValue). OnOk c.keep.result (c.keep.new.answers.entries ≡ first_of_each_source v.enquiry (datagrams ++ c.args.datagram.now ∷ [])))
    c.self.view_is
    (on_ok_weaker c.keep.result
    (λ kept. first_of_each_source-left enquiry datagrams c.args.datagram.now _ before c.keep.new.answers.entries c.in-Ok.ensures kept was)
    c.keep.ensures.kept)

pub returns-in-Err-clause-first : goal.returns-in-Err-clause-first
returns-in-Err-clause-first c datagrams h =
    let heard_now : heard c.args.self.now.enquiry c.args.datagram.now ≡ Err c.in-Err.reason =
    subst (λ (v : SurveyValue). heard v.enquiry c.args.datagram.now ≡ Err c.in-Err.reason) c.self.view_is c.in-Err.ensures in
    first_of_each_source-left c.args.self.now.enquiry datagrams c.args.datagram.now (Err c.in-Err.reason) c.args.self.now.answers
    c.args.self.now.answers heard_now refl h
