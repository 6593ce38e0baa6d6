use Rattle.std.proofs.Common.{arith, ◌∙◌, List, None, Some, ap, length, map}
use Rattle.std.proofs.lemmas.List.{length-map}
use Rattle.ptpm_data.specs.DataField.{data_field_of}
use Rattle.ptpm_data.specs.ManagementId.{row_value}
use Rattle.ptpm_data.specs.Replies.{answer, named_ports, outcome}
use Rattle.ptpm_data.specs.Reply.{Answer}
use Rattle.ptpm_data.specs.Request.{RequestValue}
use Rattle.ptpm_data.proofs.Answering.{answer_by_row, reply_of-clock, reply_of-ports}
use Rattle.ptpm_data.proofs.data_sets.DataSets.put_reply.Goals as goal

pub returns-in-Clock : goal.returns-in-Clock
returns-in-Clock g c =
    let row = row_value c.args.row.now in
    let made = ap (λ (q : RequestValue). record { port = None; outcome = outcome c.args.refusal q.action (data_field_of c.args.row.now.layout None c.args.self.now) }) c.request.view_is
    ∙ answer_by_row c.args.request.now c.args.refusal c.args.self.now None row c.requires.row in grind (arith, reply_of-clock)

pub returns-in-Port : goal.returns-in-Port
returns-in-Port g c = grind (arith, reply_of-ports)

pub put_answer-requires : goal.put_answer-requires
put_answer-requires g c =
    let one = ap (λ (xs : List Answer). length xs) (reply_of-clock c.args.request.now c.args.refusal c.args.self.now (row_value c.args.row.now) c.requires.row c.in-Clock.is) in
    omega (arith, one, c.requires.room)

pub put_answers-requires-clause-room : goal.put_answers-requires-clause-room
put_answers-requires-clause-room g c =
    let ports = named_ports c.args.request.now.port (length c.args.self.now.ports) in
    let all = ap (λ (xs : List Answer). length xs) (reply_of-ports c.args.request.now c.args.refusal c.args.self.now (row_value c.args.row.now) c.requires.row c.in-Port.is) in
    omega (
      arith,
      all,
      length-map (map Some ports) (answer c.args.request.now c.args.refusal c.args.self.now),
      length-map ports (λ k. Some k),
      c.requires.room,
    )
