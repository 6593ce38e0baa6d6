use Rattle.std.proofs.Common.{◌<◌, arith, length, refl}
use Rattle.std.proofs.lemmas.Grind.{common_steps}
use Rattle.std.proofs.lemmas.List.{length-set}
use Rattle.ptpm_host.proofs.Sharing.{answers_more}
use Rattle.ptpm_host.proofs.answer_places.AnswerPlacesOutgoing.push_refusal.Goals as goal

pub returns-clause-grown : goal.returns-clause-grown
returns-clause-grown c = record { same_reference = refl; as_many = length-set c.args.self.now.room.now c.args.self.now.count c.put_refusal.new.self }

pub returns-clause-messages : goal.returns-clause-messages
returns-clause-messages c = λ v action answered fits is.
    let inside : c.args.self.now.count < length c.args.self.now.room.now = grind (arith, common_steps) in
    answers_more c.args.self.now.room.now c.args.self.now.count c.put_refusal.new.self _ inside (c.put_refusal.ensures.message v action answered fits is)
