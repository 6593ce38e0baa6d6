use Rattle.std.proofs.Common.{◌≡◌, ℕ, [], ◌∷◌, ◌++◌, ◌<◌, ◌≤◌, ◌+◌, arith, length, take, refl, sym, ◌∙◌, ap, subst}
use Rattle.std.proofs.lemmas.List.{take_all, take_more}
use Rattle.ptpm_codec.specs.declared.identity.PortIdentity.{PortIdentity}
use Rattle.ptpm_data.specs.Members.{DataSetsValue, HasPort}
use Rattle.ptpm_agent.specs.Laws.{StandsAt, after_each, datagrams_of, last_sent}
use Rattle.ptpm_agent.specs.Once.{History, applied_once, copies}
use Rattle.ptpm_agent.specs.Turn.{State, outbox_of, turn}
use Rattle.ptpm_agent.proofs.Deliveries.{outbox_due-at, stands_turns}
use Rattle.ptpm_agent.proofs.Lists.{after_each-append, after_each-datagrams, datagrams_of-append, last_sent-append}
use Rattle.ptpm_agent.proofs.Turns.{turn-ports}
use Rattle.ptpm_agent.proofs.agent.Agent.handle_each.Goals as goal

pub loop-place-init : goal.loop-place-init
loop-place-init g c = record { clock = refl; most = refl; ports = refl; turned = refl; sent = refl }

pub handle-requires-clause-small : goal.handle-requires-clause-small
handle-requires-clause-small g c = omega (arith, c.loop-place.invariant.most, c.requires.small)

pub handle-requires-clause-port : goal.handle-requires-clause-port
handle-requires-clause-port g c =
    let item = c.index-datagrams-place.result in
    let within : c.loop-place.place < length c.args.datagrams.now = omega arith in
    let port : HasPort item.0 c.args.self.now.sets = grind arith in grind arith

pub loop-place-preserved : goal.loop-place-preserved
loop-place-preserved g c =
    let item = c.index-datagrams-place.result in
    let clock = g.T.ReplyTable.owner c.args.self.now.table in
    let here = g.T.ReplyTable.owner c.loop-place.self.table in
    let old : State = record { sets = c.args.self.now.sets; entries = g.T.ReplyTable.entries c.args.self.now.table } in
    let now : State = record { sets = c.loop-place.self.sets; entries = g.T.ReplyTable.entries c.loop-place.self.table } in
    let within : c.loop-place.place < length c.args.datagrams.now = omega arith in
    let front = take c.loop-place.place c.args.datagrams.now in
    let more : take (c.loop-place.place + 1) c.args.datagrams.now ≡ front ++ item ∷ [] = grind (arith, take_more) in
    let octets : turn here now item.0 c.as_slice.result.now ≡ turn here now item.0 item.1 = grind arith in
    let same : turn here now item.0 item.1 ≡ turn clock (after_each clock old front) item.0 item.1 = grind arith in grind (arith, turn-ports, after_each-append, last_sent-append)

-- a clock has as many ports as the history that it is at
as_many : (first : PortIdentity → ℕ) (s : State) (h : History)
    → StandsAt first s h
    → length h.sets.ports ≡ length s.sets.ports
as_many first s h at = ap (λ (d : DataSetsValue). length d.ports) (sym at.sets)

pub returns-clause-turned : goal.returns-clause-turned
returns-clause-turned g c = grind (arith, take_all)

pub returns-clause-sent : goal.returns-clause-sent
returns-clause-sent g c = grind (arith, take_all)

pub returns-clause-once : goal.returns-clause-once
returns-clause-once g c = λ first h xs is at numbered window.
    let clock = g.T.ReplyTable.owner c.args.self.now.table in
    let old : State = record { sets = c.args.self.now.sets; entries = g.T.ReplyTable.entries c.args.self.now.table } in
    let past : length c.args.datagrams.now ≤ c.loop-place.place = omega arith in
    let whole = take_all c.loop-place.place c.args.datagrams.now past in
    let ports = length old.sets.ports in
    subst (λ (s : State). StandsAt first s (applied_once clock h (copies clock ports xs)))
    (sym (c.loop-place.invariant.turned ∙ ap (λ ds. after_each clock old ds) (whole ∙ is) ∙ after_each-datagrams clock old xs))
    (stands_turns first clock ports old h xs (as_many first old h at) at numbered window)

pub returns-clause-due : goal.returns-clause-due
returns-clause-due g c = λ first h xs x k is at copy numbered window.
    let clock = g.T.ReplyTable.owner c.args.self.now.table in
    let old : State = record { sets = c.args.self.now.sets; entries = g.T.ReplyTable.entries c.args.self.now.table } in
    let past : length c.args.datagrams.now ≤ c.loop-place.place = omega arith in
    let whole = take_all c.loop-place.place c.args.datagrams.now past in
    c.loop-place.invariant.sent
    ∙ ap (λ ds. last_sent clock old c.args.out.now ds) (whole ∙ is ∙ datagrams_of-append xs x)
    ∙ last_sent-append clock old c.args.out.now (datagrams_of xs) (x.ingress, x.datagram)
    ∙ ap (λ (s : State). outbox_of (turn clock s x.ingress x.datagram)) (after_each-datagrams clock old xs)
    ∙ outbox_due-at clock first (length old.sets.ports) old h xs x k (as_many first old h at) at copy numbered window

pub returns-clause-clock : goal.returns-clause-clock
returns-clause-clock g c = c.loop-place.invariant.clock
