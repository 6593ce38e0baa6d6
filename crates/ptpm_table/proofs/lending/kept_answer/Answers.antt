use Rattle.std.proofs.Common.{◌≡◌, ◌∙◌, Bool, Some, ap, sym}
use Rattle.ptpm_codec.specs.Reading.{message_at}
use Rattle.ptpm_table.specs.KeptMessages.{port_in}
use Rattle.ptpm_table.proofs.KeptMessageLaws.{answer_read, source_port_at}
use Rattle.ptpm_table.proofs.lending.kept_answer.Goals.{then-of_port, else-of_port}
use Rattle.ptpm_table.proofs.lending.kept_answer.Goals as goal

pub returns : goal.returns
returns c =
    let m = c.args.message.now in
    let port : c.if-of_port.result ≡ port_in c.args.of_port (Some (message_at m)) =
    elim c.if-of_port.branch [
      | then-of_port w ↦
          w.result-is ∙ ap Some (w.u16_at.ensures ∙ sym (source_port_at m)) ∙ sym (ap (λ (b : Bool). port_in b (Some (message_at m))) w.if-of_port.true)
      | else-of_port w ↦ w.result-is ∙ sym (ap (λ (b : Bool). port_in b (Some (message_at m))) w.if-of_port.false)
    ] in
    answer_read c.args.of_port m c.if-of_port.result _ c.requires.read port c.kept_what.ensures
