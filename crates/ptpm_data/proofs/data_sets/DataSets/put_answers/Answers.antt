use Rattle.std.proofs.Common.{◌≡◌, ◌∙◌, [], ◌∷◌, ◌+◌, ◌-◌, ℕ, List, Option, Some, ap, arith, length, map, subst, sym}
use Rattle.std.proofs.lemmas.List.FromFn.{length-range_with_len}
use Rattle.std.specs.List.{range_with_len}
use Rattle.ptpm_data.specs.DataField.{data_field_of}
use Rattle.ptpm_data.specs.ManagementId.{row_value}
use Rattle.ptpm_data.specs.Replies.{answer, named_ports, outcome}
use Rattle.ptpm_data.specs.Reply.{Answer}
use Rattle.ptpm_data.specs.Request.{RequestValue}
use Rattle.ptpm_data.proofs.Answering.{answer_by_row}
use Rattle.ptpm_data.proofs.ReplyLemmas.{answers-after, answers-count}
use Rattle.ptpm_data.proofs.data_sets.DataSets.put_answers.Goals as goal

pub loop-port-init : goal.loop-port-init
loop-port-init g c =
    let first = c.named_ports-first.result.0 in
    let nothing : 0 ≡ first - first = omega arith in grind arith

pub loop-port-preserved : goal.loop-port-preserved
loop-port-preserved g c =
    let first = c.named_ports-first.result.0 in
    let here = c.loop-port.port in
    let port : Option ℕ = Some here in
    let made = ap (λ (q : RequestValue). record { port = port; outcome = outcome c.args.refusal q.action (data_field_of c.args.row.now.layout port c.args.self.now) }) c.request.view_is
    ∙ answer_by_row c.args.request.now c.args.refusal c.args.self.now port (row_value c.args.row.now) c.requires.row in
    let one = subst (λ (a : Answer). g.A.Answers.taken c.loop-port.answers (a ∷ []) c.put_answer.new.answers) made c.put_answer.ensures in
    subst (λ (xs : List Answer). g.A.Answers.taken c.args.answers.now xs c.put_answer.new.answers)
    (answers-after c.args.request.now c.args.refusal c.args.self.now first (here - first) (here + 1 - first) here (omega (arith, c.loop-port.auto.port)) (omega (arith, c.loop-port.auto.port)))
    (g.met.A.Answers.taken_after c.args.answers.now c.loop-port.answers c.put_answer.new.answers _ _ c.loop-port.invariant one)

pub put_answer-requires : goal.put_answer-requires
put_answer-requires g c =
    let first = c.named_ports-first.result.0 in
    let here = c.loop-port.port in
    let so_far = map (answer c.args.request.now c.args.refusal c.args.self.now) (map Some (range_with_len first (here - first))) in
    let counted = g.met.A.Answers.counted c.args.answers.now c.loop-port.answers so_far c.loop-port.invariant in
    let as_many = g.met.A.Answers.as_many c.args.answers.now c.loop-port.answers so_far c.loop-port.invariant in
    let named : named_ports c.args.request.now.port (length c.args.self.now.ports) ≡ range_with_len first (c.named_ports-first.result.1 - first) =
    sym (ap (λ (q : RequestValue). named_ports q.port (length c.args.self.now.ports)) c.request.view_is) ∙ c.named_ports-first.ensures.numbers in
    let all = ap (λ (xs : List ℕ). length xs) named ∙ length-range_with_len first (c.named_ports-first.result.1 - first) in
    omega (
      arith,
      counted,
      as_many,
      all,
      answers-count c.args.request.now c.args.refusal c.args.self.now first (here - first),
      c.requires.room,
      c.loop-port-test.true,
      c.loop-port.auto.port,
      c.loop-port.auto.port-end c.named_ports-first.ensures.ordered,
    )

pub returns : goal.returns
returns g c =
    let first = c.named_ports-first.result.0 in
    let here = c.loop-port.port in
    let last : here - first ≡ c.named_ports-first.result.1 - first =
    omega (arith, c.loop-port-test.false, c.loop-port.auto.port, c.loop-port.auto.port-end c.named_ports-first.ensures.ordered) in
    let ports = ap (range_with_len first) last ∙ sym c.named_ports-first.ensures.numbers
    ∙ ap (λ (q : RequestValue). named_ports q.port (length c.args.self.now.ports)) c.request.view_is in grind arith
