use Rattle.std.proofs.Common.{arith, ◌≡◌, ◌∙◌, ap, length}
use Rattle.ptpm_data.specs.ManagementId.{row_of}
use Rattle.ptpm_data.specs.Reply.{ReplyValue}
use Rattle.ptpm_data.specs.Request.{RequestValue}
use Rattle.ptpm_data.specs.Replies.{is_get, read_reply_to, reply_of}
use Rattle.ptpm_data.proofs.Answering.{no_entry, entry_is, refused_by_clock, reply_of-unlisted, read-unlisted, read-listed, read-other}
use Rattle.ptpm_data.proofs.data_sets.DataSets.read_into.Goals as goal
use Rattle.ptpm_data.proofs.data_sets.DataSets.read_into.Goals.{then-get, else-get, then-get-2, else-get-2}

pub take_refusal-requires : goal.take_refusal-requires
take_refusal-requires g c =
    let id : row_of c.request.inside.id ≡ row_of c.args.request.now.id = ap (λ (q : RequestValue). row_of q.id) c.request.view_is in
    let get : is_get c.args.request.now.action ≡ c.is_get-get.result = grind arith in
    let gone = no_entry (c.by_id.ensures ∙ id) c.in_default.is in
    let reply : refused_by_clock c.args.request.now c.if-get.error ≡ read_reply_to c.args.request.now c.args.self.now =
    elim c.if-get.branch [
      | then-get w ↦ rw w.error-is (read-unlisted c.args.request.now c.args.self.now gone (get ∙ w.if-get.true))
      | else-get w ↦
          rw w.error-is
          (reply_of-unlisted c.args.request.now _ c.args.self.now gone ∙ read-other c.args.request.now c.args.self.now (get ∙ w.if-get.false))
    ] in omega (arith, ap (λ (r : ReplyValue). length r.answers) reply, c.requires.room)

pub put_reply-requires-clause-room : goal.put_reply-requires-clause-room
put_reply-requires-clause-room g c =
    let reply : reply_of c.args.request.now c.if-get-2.refusal c.args.self.now ≡ read_reply_to c.args.request.now c.args.self.now =
    grind (arith, entry_is, then-get-2, read-listed, else-get-2, read-other) in
    omega (arith, ap (λ (r : ReplyValue). length r.answers) reply, c.requires.room)

pub returns-in_default : goal.returns-in_default
returns-in_default g c =
    let id : row_of c.request.inside.id ≡ row_of c.args.request.now.id = ap (λ (q : RequestValue). row_of q.id) c.request.view_is in
    let get : is_get c.args.request.now.action ≡ c.is_get-get.result = grind arith in
    let gone = no_entry (c.by_id.ensures ∙ id) c.in_default.is in
    let reply : refused_by_clock c.args.request.now c.if-get.error ≡ read_reply_to c.args.request.now c.args.self.now =
    elim c.if-get.branch [
      | then-get w ↦ rw w.error-is (read-unlisted c.args.request.now c.args.self.now gone (get ∙ w.if-get.true))
      | else-get w ↦
          rw w.error-is
          (reply_of-unlisted c.args.request.now _ c.args.self.now gone ∙ read-other c.args.request.now c.args.self.now (get ∙ w.if-get.false))
    ] in grind arith

pub returns : goal.returns
returns g c = grind (arith, entry_is, then-get-2, read-listed, else-get-2, read-other)
