-- The reply to a refused request, answer by answer.
use Rattle.std.proofs.Common.{arith, ◌≡◌, ℕ, ◌≤◌, map, List, [], ◌∷◌, Option, Some, None, Bool, true, false, length, refl, sym, ◌∙◌, ap, subst, rules}
use Rattle.std.proofs.lemmas.List.{length-map}
use Rattle.std.proofs.lemmas.List.Elements.{All-cons, All-map, All-nil}
use Rattle.std.specs.List.{All}
use Rattle.ptpm_codec.specs.declared.error.ErrorId.{ErrorId}
use Rattle.ptpm_codec.specs.Message.{reply_action}
use Rattle.ptpm_data.specs.declared.ports.TheConstants.{PORTS}
use Rattle.ptpm_data.specs.Changes.{IsTargetPort}
use Rattle.ptpm_data.specs.ManagementId.{is_of_port}
use Rattle.ptpm_data.specs.Members.{DataSetsValue}
use Rattle.ptpm_data.specs.Replies.{answer, answerers, named_ports, read_refusal, read_reply_to, reply_of}
use Rattle.ptpm_data.specs.Reply.{Answer, ReplyValue}
use Rattle.ptpm_data.specs.Request.{RequestValue}
use Rattle.ptpm_data.specs.RequestLaws.{IsSized}
use Rattle.ptpm_data.proofs.ReplyLemmas.{answers_of, reply_of-count}
use Rattle.ptpm_table.specs.Entries.{FitsAnswer, FitsCount, FitsRequest}
use Rattle.ptpm_table.specs.declared.rendering.Sender.{Sender}
use Rattle.ptpm_table.specs.Sending.{HasSent}
use Rattle.ptpm_device.specs.Refusing.{TakesAsRefused, refused_answer}
use Rattle.std.specs.FinMap.{insert}
use Rattle.ptpm_data.proofs.Answering.{reply_few}
use Rattle.ptpm_table.specs.Rendering.{rendered}
use Rattle.ptpm_agent.specs.Addressing.{heard_of, names_port, request_of}
use Rattle.ptpm_agent.proofs.SentReplies.{may_judge_port, IsSenderOf, sender_as_made, sent_rendered, sent_reply}
use Rattle.ptpm_agent.proofs.MostSent.{rendered_count}
use Rattle.ptpm_agent.proofs.Turns.{new_parts}
use Rattle.ptpm_device.proofs.saying.refuse.Goals as goal

-- ---- its answers, made of those of another reply

refused_each : (q : RequestValue) (refusal : Option ErrorId) (error : ErrorId) (d : DataSetsValue) (ports : List (Option ℕ))
    → map (refused_answer error) (map (answer q refusal d) ports) ≡ map (answer q (Some error) d) ports
unfolding answer
refused_each q refusal error d [] = refl
refused_each q refusal error d (port ∷ ports) =
    ap (λ (rest : List Answer). answer q (Some error) d port ∷ rest) (refused_each q refusal error d ports)

refused_answers : (q : RequestValue) (error : ErrorId) (d : DataSetsValue)
    → map (refused_answer error) (read_reply_to q d).answers ≡ (reply_of q (Some error) d).answers
unfolding read_reply_to reply_of
refused_answers q error d = refused_each q (read_refusal q) error d (answerers q d)

refused_count : (q : RequestValue) (error : ErrorId) (d : DataSetsValue)
    → length (read_reply_to q d).answers ≡ length (reply_of q (Some error) d).answers
refused_count q error d =
    sym (length-map (read_reply_to q d).answers (refused_answer error)) ∙ ap (λ (xs : List Answer). length xs) (refused_answers q error d)

-- as code sends them
refused_sent : {O : Type 0} (sent : O → List (ℕ × List ℕ)) (grown : O → O → Type 0) (q : RequestValue) (error : ErrorId) (d : DataSetsValue)
    (s t : Sender O) (after : ErrorId)
    → TakesAsRefused sent grown error s (read_reply_to q d).answers after t
    → HasSent sent grown s (reply_of q (Some error) d).answers t
refused_sent sent grown q error d s t after taken =
    subst (λ (xs : List Answer). HasSent sent grown s xs t) (refused_answers q error d) taken.sent_is

refusal_parts : (q : RequestValue) (error : ErrorId) (d : DataSetsValue)
    → record { action = reply_action q.action; id = q.id; answers = (reply_of q (Some error) d).answers } ≡ reply_of q (Some error) d
unfolding reply_of
refusal_parts q error d = refl

-- ---- it may be kept

answer_fits : (q : RequestValue) (error : ErrorId) (d : DataSetsValue) (port : ℕ)
    → FitsAnswer true q.action (answer q (Some error) d (Some port))
unfolding answer
answer_fits q error d port = ((port, refl), tt)

answers_fit : (b : Bool) (q : RequestValue) (error : ErrorId) (d : DataSetsValue)
    → All (FitsAnswer b q.action) (answers_of b q (Some error) d)
unfolding answer
answers_fit true q error d =
    let ports = named_ports q.port (length d.ports) in
    All-map (FitsAnswer true q.action) (answer q (Some error) d) (map Some ports)
    (All-map (λ own. FitsAnswer true q.action (answer q (Some error) d own)) (λ n. Some n) ports (λ k x below. answer_fits q error d _))
answers_fit false q error d =
    All-cons (FitsAnswer false q.action) (answer q (Some error) d None) [] (refl, tt) (All-nil (FitsAnswer false q.action))

count_fits : (b : Bool) (q : RequestValue) (error : ErrorId) (d : DataSetsValue)
    → (1 ≤ length (answers_of b q (Some error) d)) × (length (answers_of b q (Some error) d) ≤ PORTS)
    → FitsCount b (length (answers_of b q (Some error) d))
count_fits true q error d count = count
count_fits false q error d count = refl

refusal_fits : (q : RequestValue) (error : ErrorId) (d : DataSetsValue) (reply : ReplyValue)
    → IsTargetPort q.port d
    → IsSized d
    → reply ≡ reply_of q (Some error) d
    → FitsRequest q reply
unfolding reply_of
refusal_fits q error d reply port sized is =
    subst (λ (r : ReplyValue). FitsRequest q r) (sym is)
    (record {
      action = refl;
      id = refl;
      count = count_fits (is_of_port q.id) q error d (reply_of-count q (Some error) d port sized);
      answers = answers_fit (is_of_port q.id) q error d;
    })

pub read_into-requires-clause-action : goal.read_into-requires-clause-action
read_into-requires-clause-action g c = grind (arith, new_parts)

pub read_into-requires-clause-port : goal.read_into-requires-clause-port
read_into-requires-clause-port g c = grind (arith, new_parts)

pub read_into-requires-clause-room : goal.read_into-requires-clause-room
read_into-requires-clause-room g c =
    let q = c.request_of-request.result in
    let d = c.sets-2.result.now in
    let error = Some c.args.error in
    omega (
      arith,
      refused_count q c.args.error d,
      ap (λ (x : RequestValue). length (reply_of x error d).answers) c.request_of-request.ensures,
      ap (λ (e : DataSetsValue). length (reply_of (request_of c.args.message.now) error e).answers) c.sets-2.ensures,
      ap (λ (xs : List (ℕ × List ℕ)). length xs) c.requires.empty,
      ap (λ r. length (g.O.Outgoing.sent r.now)) c.address.ensures.place,
      ap (λ o. length (g.O.Outgoing.sent o)) c.new-sender.ensures.held,
      ap (λ r. g.O.Outgoing.most r.now) c.address.ensures.place,
      ap g.O.Outgoing.most c.new-sender.ensures.held,
      c.requires.room,
    )

pub keep_sent-requires-clause-known : goal.keep_sent-requires-clause-known
keep_sent-requires-clause-known g c = grind (arith, new_parts)

pub keep_sent-requires-clause-action : goal.keep_sent-requires-clause-action
keep_sent-requires-clause-action g c = grind (arith, new_parts)

pub keep_sent-requires-clause-sent : goal.keep_sent-requires-clause-sent
keep_sent-requires-clause-sent g c =
    let clock = g.T.ReplyTable.owner c.args.agent.now.table in
    let q = c.request_of-request.result in
    let heard = c.heard_of-heard.result in
    let d = c.sets-2.result.now in
    let reply = reply_of q (Some c.args.error) d in
    let own : c.clock.result ≡ clock.identity = c.clock.ensures ∙ ap (λ t. (g.T.ReplyTable.owner t).identity) c.table.ensures in
    let made : IsSenderOf g.O.Outgoing.sent c.address.new.self clock.identity heard (reply_action q.action) q.id c.args.ingress [] =
    sender_as_made g.O.Outgoing.sent c.address.new.self clock.identity c.clock.result heard _ _ _ [] _ (ap (λ r. g.O.Outgoing.sent r.now) c.address.ensures.place ∙ ap g.O.Outgoing.sent c.new-sender.ensures.held)
    c.requires.empty c.address.ensures.ingress c.address.ensures.id c.address.ensures.envelope c.address.ensures.fits own in
    let has = refused_sent g.O.Outgoing.sent g.O.Outgoing.grown q c.args.error d c.address.new.self c.read_into.new.answers.sender _ c.read_into.ensures in
    let sets : c.args.agent.now.sets ≡ d = sym c.sets-2.ensures in
    let sized : IsSized d = subst IsSized (c.sets.ensures ∙ sets) c.data_sets_law.ensures.sized in
    let named : names_port (length d.ports) c.args.message.now.target.port ≡ true =
    subst (λ (e : DataSetsValue). names_port (length e.ports) c.args.message.now.target.port ≡ true) sets (new_parts _ _ _ c.requires.new).port in
    let fits = refusal_fits q c.args.error d reply (may_judge_port q d c.args.message.now c.request_of-request.ensures named) sized refl in
    let sent = sent_reply g.O.Outgoing.sent g.O.Outgoing.grown q c.address.new.self c.read_into.new.answers.sender clock.identity heard reply c.args.ingress c.of_port-of_port.result _
    made fits has c.of_port-of_port.ensures (search rules) in
    (reply, sent)

pub keep_sent-requires-clause-few : goal.keep_sent-requires-clause-few
keep_sent-requires-clause-few g c =
    let clock = g.T.ReplyTable.owner c.args.agent.now.table in
    let q = c.request_of-request.result in
    let heard = c.heard_of-heard.result in
    let d = c.sets-2.result.now in
    let reply = reply_of q (Some c.args.error) d in
    let own : c.clock.result ≡ clock.identity = c.clock.ensures ∙ ap (λ t. (g.T.ReplyTable.owner t).identity) c.table.ensures in
    let made : IsSenderOf g.O.Outgoing.sent c.address.new.self clock.identity heard (reply_action q.action) q.id c.args.ingress [] =
    sender_as_made g.O.Outgoing.sent c.address.new.self clock.identity c.clock.result heard _ _ _ [] _ (ap (λ r. g.O.Outgoing.sent r.now) c.address.ensures.place ∙ ap g.O.Outgoing.sent c.new-sender.ensures.held)
    c.requires.empty c.address.ensures.ingress c.address.ensures.id c.address.ensures.envelope c.address.ensures.fits own in
    let has = refused_sent g.O.Outgoing.sent g.O.Outgoing.grown q c.args.error d c.address.new.self c.read_into.new.answers.sender _ c.read_into.ensures in
    let sets : c.args.agent.now.sets ≡ d = sym c.sets-2.ensures in
    let sized : IsSized d = subst IsSized (c.sets.ensures ∙ sets) c.data_sets_law.ensures.sized in
    let sent : g.O.Outgoing.sent c.read_into.new.answers.sender.out.now ≡ rendered clock.identity heard reply c.args.ingress =
    sent_rendered g.O.Outgoing.sent g.O.Outgoing.grown c.address.new.self c.read_into.new.answers.sender clock.identity heard reply (reply_action q.action) q.id c.args.ingress []
    (refusal_parts q c.args.error d) made has in
    let count : length (g.O.Outgoing.sent c.read_into.new.answers.sender.out.now) ≤ g.T.ReplyTable.most c.args.agent.now.table =
    omega (
      arith,
      ap (λ (xs : List (ℕ × List ℕ)). length xs) sent,
      rendered_count clock.identity heard reply c.args.ingress,
      reply_few q (Some c.args.error) d sized,
      ap (λ (e : DataSetsValue). length e.ports) sets,
      c.args.agent.now.room,
    ) in
    search (rules, count)

pub returns-clause-kept : goal.returns-clause-kept
returns-clause-kept g c =
    let clock = g.T.ReplyTable.owner c.args.agent.now.table in
    let q = c.request_of-request.result in
    let heard = c.heard_of-heard.result in
    let d = c.sets-2.result.now in
    let reply = reply_of q (Some c.args.error) d in
    let own : c.clock.result ≡ clock.identity = c.clock.ensures ∙ ap (λ t. (g.T.ReplyTable.owner t).identity) c.table.ensures in
    let made : IsSenderOf g.O.Outgoing.sent c.address.new.self clock.identity heard (reply_action q.action) q.id c.args.ingress [] =
    sender_as_made g.O.Outgoing.sent c.address.new.self clock.identity c.clock.result heard _ _ _ [] _ (ap (λ r. g.O.Outgoing.sent r.now) c.address.ensures.place ∙ ap g.O.Outgoing.sent c.new-sender.ensures.held)
    c.requires.empty c.address.ensures.ingress c.address.ensures.id c.address.ensures.envelope c.address.ensures.fits own in
    let has = refused_sent g.O.Outgoing.sent g.O.Outgoing.grown q c.args.error d c.address.new.self c.read_into.new.answers.sender _ c.read_into.ensures in
    let sets : c.args.agent.now.sets ≡ d = sym c.sets-2.ensures in
    let sized : IsSized d = subst IsSized (c.sets.ensures ∙ sets) c.data_sets_law.ensures.sized in
    let named : names_port (length d.ports) c.args.message.now.target.port ≡ true =
    subst (λ (e : DataSetsValue). names_port (length e.ports) c.args.message.now.target.port ≡ true) sets (new_parts _ _ _ c.requires.new).port in
    let fits = refusal_fits q c.args.error d reply (may_judge_port q d c.args.message.now c.request_of-request.ensures named) sized refl in
    let sent = sent_reply g.O.Outgoing.sent g.O.Outgoing.grown q c.address.new.self c.read_into.new.answers.sender clock.identity heard reply c.args.ingress c.of_port-of_port.result _
    made fits has c.of_port-of_port.ensures (search rules) in
    let entries = g.T.ReplyTable.entries c.args.agent.now.table in
    λ i. record {
      sets = c.keep_sent.ensures.sets i;
      entries = (c.keep_sent.ensures.entries reply sent ∙ (λ j. insert entries (c.heard_of-heard.ensures j).source (record {
        number = (c.heard_of-heard.ensures j).number;
        request = c.request_of-request.ensures j;
        reply = reply_of (c.request_of-request.ensures j) (Some c.args.error) (c.sets-2.ensures j);
      }))) i;
    }

pub returns-clause-sent : goal.returns-clause-sent
returns-clause-sent g c =
    let clock = g.T.ReplyTable.owner c.args.agent.now.table in
    let q = c.request_of-request.result in
    let heard = c.heard_of-heard.result in
    let d = c.sets-2.result.now in
    let reply = reply_of q (Some c.args.error) d in
    let own : c.clock.result ≡ clock.identity = c.clock.ensures ∙ ap (λ t. (g.T.ReplyTable.owner t).identity) c.table.ensures in
    let made : IsSenderOf g.O.Outgoing.sent c.address.new.self clock.identity heard (reply_action q.action) q.id c.args.ingress [] =
    sender_as_made g.O.Outgoing.sent c.address.new.self clock.identity c.clock.result heard _ _ _ [] _ (ap (λ r. g.O.Outgoing.sent r.now) c.address.ensures.place ∙ ap g.O.Outgoing.sent c.new-sender.ensures.held)
    c.requires.empty c.address.ensures.ingress c.address.ensures.id c.address.ensures.envelope c.address.ensures.fits own in
    let has = refused_sent g.O.Outgoing.sent g.O.Outgoing.grown q c.args.error d c.address.new.self c.read_into.new.answers.sender _ c.read_into.ensures in
    let sent : g.O.Outgoing.sent c.read_into.new.answers.sender.out.now ≡ rendered clock.identity heard reply c.args.ingress =
    sent_rendered g.O.Outgoing.sent g.O.Outgoing.grown c.address.new.self c.read_into.new.answers.sender clock.identity heard reply (reply_action q.action) q.id c.args.ingress []
    (refusal_parts q c.args.error d) made has in
    let all : g.O.Outgoing.sent c.read_into.new.answers.sender.out.now
    ≡ rendered clock.identity (heard_of c.args.message.now) (reply_of (request_of c.args.message.now) (Some c.args.error) c.args.agent.now.sets) c.args.ingress =
    sent ∙ (λ i. rendered clock.identity (c.heard_of-heard.ensures i) (reply_of (c.request_of-request.ensures i) (Some c.args.error) (c.sets-2.ensures i)) c.args.ingress) in
    search (rules, all)
