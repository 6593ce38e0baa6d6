use Rattle.std.proofs.Common.{arith, ◌≡◌, ◌∙◌, ap, length}
use Rattle.ptpm_data.specs.ManagementId.{row_value, row_of}
use Rattle.ptpm_data.specs.Reply.{ReplyValue}
use Rattle.ptpm_data.specs.Request.{RequestValue}
use Rattle.ptpm_data.specs.Changes.{changed_by}
use Rattle.ptpm_data.specs.Replies.{reply_of, reply_to}
use Rattle.ptpm_data.proofs.Answering.{no_entry, entry_is, reply_to-unlisted, changed_by-unlisted, reply_to-listed, changed_by-listed}
use Rattle.ptpm_data.proofs.data_sets.DataSets.decide_into.Goals as goal

pub returns-in_default-clause-reply : goal.returns-in_default-clause-reply
returns-in_default-clause-reply g c = grind (arith, reply_to-unlisted, no_entry)

pub returns-in_default-clause-changed : goal.returns-in_default-clause-changed
returns-in_default-clause-changed g c = grind (arith, changed_by-unlisted, no_entry)

pub returns-clause-changed : goal.returns-clause-changed
returns-clause-changed g c =
    let id : row_of c.request.inside.id ≡ row_of c.args.request.now.id = ap (λ (q : RequestValue). row_of q.id) c.request.view_is in
    let listed = changed_by-listed c.args.request.now c.args.rights c.args.self.now (row_value c.in-Some.row) (entry_is (c.by_id.ensures ∙ id) c.in-Some.is) in grind arith

pub returns-clause-reply : goal.returns-clause-reply
returns-clause-reply g c =
    let id : row_of c.request.inside.id ≡ row_of c.args.request.now.id = ap (λ (q : RequestValue). row_of q.id) c.request.view_is in
    let entry = entry_is (c.by_id.ensures ∙ id) c.in-Some.is in
    let listed = changed_by-listed c.args.request.now c.args.rights c.args.self.now (row_value c.in-Some.row) entry in
    let changed : c.carry_out-refusal.new.self ≡ changed_by c.args.request.now c.args.rights c.args.self.now = grind arith in
    let reply : reply_of c.args.request.now c.carry_out-refusal.result c.carry_out-refusal.new.self
    ≡ reply_to c.args.request.now c.args.rights c.args.self.now = grind (arith, reply_to-listed) in grind arith

pub take_refusal-requires : goal.take_refusal-requires
take_refusal-requires g c =
    let id : row_of c.request.inside.id ≡ row_of c.args.request.now.id = ap (λ (q : RequestValue). row_of q.id) c.request.view_is in
    let one = ap (λ (r : ReplyValue). length r.answers) (reply_to-unlisted c.args.request.now c.args.rights c.args.self.now (no_entry (c.by_id.ensures ∙ id) c.in_default.is)) in
    omega (arith, one, c.requires.room)

pub put_reply-requires-clause-room : goal.put_reply-requires-clause-room
put_reply-requires-clause-room g c =
    let id : row_of c.request.inside.id ≡ row_of c.args.request.now.id = ap (λ (q : RequestValue). row_of q.id) c.request.view_is in
    let entry = entry_is (c.by_id.ensures ∙ id) c.in-Some.is in
    let listed = changed_by-listed c.args.request.now c.args.rights c.args.self.now (row_value c.in-Some.row) entry in
    let changed : c.carry_out-refusal.new.self ≡ changed_by c.args.request.now c.args.rights c.args.self.now = grind arith in
    let reply : reply_of c.args.request.now c.carry_out-refusal.result c.carry_out-refusal.new.self
    ≡ reply_to c.args.request.now c.args.rights c.args.self.now = grind (arith, reply_to-listed) in
    omega (arith, ap (λ (r : ReplyValue). length r.answers) reply, c.requires.room)
