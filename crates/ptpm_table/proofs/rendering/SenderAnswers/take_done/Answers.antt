use Rattle.std.proofs.Common.{[], arith}
use Rattle.std.proofs.lemmas.List.Elements.{All-cons}
use Rattle.ptpm_codec.specs.Message.{Fits}
use Rattle.ptpm_data.specs.Reply.{Answer, Done}
use Rattle.ptpm_table.specs.Sending.{message_like}
use Rattle.ptpm_table.proofs.rendering.SenderAnswers.take_done.Goals as goal

-- the message of no octets
pub returns : goal.returns
returns g c =
    let sent = c.take_value.ensures in
    record {
      grown_is = sent.grown_is;
      same_reference = sent.same_reference;
      envelope = sent.envelope;
      id = sent.id;
      ingress = sent.ingress;
      of_port = sent.of_port;
      count = sent.count;
      fits = λ v action fits low.
          let done : Answer = record { port = c.args.port; outcome = Done } in
          All-cons (λ x. Fits (message_like v action c.args.self.now.id c.args.self.now.ingress x)) done []
          (sent.fits v action fits low 0 done (omega arith)) (λ k x below. absurd (omega arith));
      messages = sent.messages;
    }
