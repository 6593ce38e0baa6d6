-- What is left of a turn of the owner's clock is the turn of the owner. Nothing is kept there, so a message is new, or is as that of
-- nobody.
use Rattle.std.proofs.Common.{◌≡◌, ◌∙◌, ◌++◌, Ok, ◌&&◌, ◌||◌, ℕ, Bool, true, false, List, [], Option, Some, None, ap, length, refl, subst, sym, arith, rules, take}
use Rattle.std.specs.Prelude.{◌==◌, not, if◌then◌else◌}
use Rattle.std.specs.FinMap.{empty, get, get-empty}
use Rattle.ptpm_codec.specs.declared.identity.ClockIdentity.{ClockIdentity}
use Rattle.ptpm_codec.specs.declared.message.Message.{Message}
use Rattle.ptpm_codec.specs.Identity.{identity_cmp, same_clock}
use Rattle.ptpm_codec.specs.Reading.{message_of}
use Rattle.ptpm_data.specs.declared.rights.Rights.{Rights}
use Rattle.ptpm_data.specs.Replies.{reply_to}
use Rattle.ptpm_data.specs.Reply.{ReplyValue}
use Rattle.ptpm_data.specs.Rights.{all_rights, no_rights}
use Rattle.ptpm_table.specs.declared.reply_table.Look.{Look}
use Rattle.ptpm_table.specs.Entries.{Entry, is_known}
use Rattle.ptpm_table.specs.Numbering.{look_of}
use Rattle.ptpm_table.specs.Rendering.{rendered}
use Rattle.ptpm_table.proofs.Identities.{same_identity-refl}
use Rattle.ptpm_agent.specs.declared.verdict.Verdict.{Verdict}
use Rattle.ptpm_agent.specs.Addressing.{heard_of, is_addressed, is_own, is_request, names_port, request_of}
use Rattle.ptpm_agent.specs.Agent.{IsTurned}
use Rattle.ptpm_agent.specs.Forwarding.{forwarded}
use Rattle.ptpm_agent.specs.Turn.{Clock, State, Turned, carried_out, is_repeat, judged, look, next_by, reply_by, reply_messages, turn, turn_by, verdict_at}
use Rattle.ptpm_agent.proofs.Turns.{forwarded-copy, reading-message_of, turn-message, turned_new, turned_other, message_of-reading}
use Rattle.ptpm_host.specs.Changing.{owned_at, owner_by, owner_clock, owner_turn, owner_verdict}
use Rattle.std.proofs.lemmas.Grind.{common_steps}
use Rattle.ptpm_data.specs.Changes.{IsTargetPort, changed_by}
use Rattle.ptpm_data.specs.Members.{DataSetsValue}
use Rattle.ptpm_data.proofs.Answering.{new_few}
use Rattle.ptpm_data.proofs.Differing.{nothing_changed}
use Rattle.ptpm_table.specs.Tables.{entries_of_block, owner_of_block}
use Rattle.ptpm_host.specs.Clock.{clock_in, messages_in, state_in}
use Rattle.ptpm_host.specs.OutboxLaws.{kept_by_none}
use Rattle.ptpm_host.proofs.ComingLaws.{owner_unread}
use Rattle.ptpm_host.proofs.MostSent.{sends_no_more_alone}
use Rattle.ptpm_table.specs.declared.reply_table.Look.TheVariants as looks
use Rattle.ptpm_agent.specs.declared.verdict.Verdict.TheVariants as verdicts
use Rattle.ptpm_host.proofs.clock.HostedClock.take_owner_turn.Goals as goal

owner_turned_is : (c k : Clock) (s t next after : State) (port : ℕ) (datagram : List ℕ) (v : Message) (w verdict : Verdict) (out : List (ℕ × List ℕ))
    → message_of datagram ≡ Some v
    → k ≡ owner_clock c.identity v.source
    → t ≡ record { sets = s.sets; entries = empty }
    → IsTurned (turn k t port datagram) w out next
    → verdict ≡ owner_verdict v w
    → after.sets ≡ next.sets
    → after.entries ≡ s.entries
    → IsTurned (owner_turn c s port datagram) verdict out after
unfolding owner_turn
owner_turned_is c k s t next after port datagram v w verdict out read own begun turned is sets entries =
    let here : IsTurned (turn (owner_clock c.identity v.source) (record { sets = s.sets; entries = empty }) port datagram) w out next =
    subst (λ (u : State). IsTurned (turn (owner_clock c.identity v.source) u port datagram) w out next) begun
    (subst (λ (e : Clock). IsTurned (turn e t port datagram) w out next) own turned) in
    subst (λ (o : Option Message). IsTurned (owner_by c s port datagram o) verdict out after) (sym read) (record {
      verdict_is = is ∙ ap (owner_verdict v) here.verdict_is;
      outbox_is = here.outbox_is;
      sets_are = sets ∙ here.sets_are;
      entries_are = entries;
    })

-- ---- the verdict

-- the same data sets, with nothing kept
abbrev nothing_kept : State → State
nothing_kept s = record { sets = s.sets; entries = empty }

next_by-not_new : (w : Verdict) (c : Clock) (s : State) (v : Message)
    → (w ≡ verdicts.AnsweredNew → ⊥)
    → next_by w c s v ≡ s
next_by-not_new verdicts.AnsweredNew c s v other = absurd (other refl)
next_by-not_new _ c s v other = refl

-- the verdict on a message, if this is what the clock keeps of its manager
abbrev judged_at : Look → Clock → State → Message → Verdict
judged_at l c s v =
    if not (v.sdo == 0 && (v.domain == s.sets.default.domain || (not (is_own c v) && (is_addressed c s.sets v && (is_request v && is_repeat l))))) then verdicts.OtherDomain
    else if is_own c v then verdicts.OwnMessage
    else if not (is_addressed c s.sets v) then verdicts.NotAddressed
    else if not (is_request v) then verdicts.NotARequest
    else verdict_at l

none_repeated : (own addressed request : Bool) → (not own && (addressed && (request && false))) ≡ false
none_repeated true addressed request = refl
none_repeated false true true = refl
none_repeated false true false = refl
none_repeated false false request = refl

or_none : (b : Bool) → (b || false) ≡ b
or_none true = refl
or_none false = refl

and_none : (b : Bool) → (b && false) ≡ false
and_none true = refl
and_none false = refl

-- a message that is no repeat
not_repeated : (l : Look) (c : Clock) (s : State) (v : Message)
    → is_repeat l ≡ false
    → judged_at l c s v
    ≡ (if not (v.sdo == 0 && v.domain == s.sets.default.domain) then verdicts.OtherDomain
    else if is_own c v then verdicts.OwnMessage
    else if not (is_addressed c s.sets v) then verdicts.NotAddressed
    else if not (is_request v) then verdicts.NotARequest
    else verdict_at l)
not_repeated l c s v once =
    ap (λ (b : Bool). if not (v.sdo == 0 && (v.domain == s.sets.default.domain || b)) then verdicts.OtherDomain
    else if is_own c v then verdicts.OwnMessage
    else if not (is_addressed c s.sets v) then verdicts.NotAddressed
    else if not (is_request v) then verdicts.NotARequest
    else verdict_at l)
    (ap (λ (b : Bool). not (is_own c v) && (is_addressed c s.sets v && (is_request v && b))) once
    ∙ none_repeated (is_own c v) (is_addressed c s.sets v) (is_request v))
    ∙ ap (λ (b : Bool). if not (v.sdo == 0 && b) then verdicts.OtherDomain
    else if is_own c v then verdicts.OwnMessage
    else if not (is_addressed c s.sets v) then verdicts.NotAddressed
    else if not (is_request v) then verdicts.NotARequest
    else verdict_at l)
    (or_none (v.domain == s.sets.default.domain))

-- the verdict on this message of the owner, which is for exactly this clock or not
abbrev owned_here : Clock → State → Message → Bool → Verdict
owned_here c s v here =
    owned_at (v.sdo == 0 && v.domain == s.sets.default.domain) (is_own c v) (is_addressed c s.sets v) (is_request v) here

owned_look : (me : ClockIdentity) (s : State) (v : Message)
    → look (owner_clock me v.source) (nothing_kept s) v ≡ (if same_clock v.target.clock me then looks.New else looks.Unknown)
owned_look me s v =
    ap (λ (b : Bool). look_of ((b || false) && same_clock v.target.clock me) (get {X = Entry} {R = identity_cmp} empty v.source) v.number (request_of v))
    (same_identity-refl v.source)
    ∙ ap (λ (o : Option Entry). look_of (same_clock v.target.clock me) o v.number (request_of v)) (get-empty identity_cmp v.source)

owned_judged : (c : Clock) (s : State) (v : Message)
    → judged (owner_clock c.identity v.source) (nothing_kept s) v ≡ owned_here c s v (same_clock v.target.clock c.identity)
unfolding judged
owned_judged c s v =
    ap (λ (l : Look). judged_at l (owner_clock c.identity v.source) (nothing_kept s) v) (owned_look c.identity s v)
    ∙ by_here (same_clock v.target.clock c.identity)
  where
    by_here : (here : Bool)
        → judged_at (if here then looks.New else looks.Unknown) (owner_clock c.identity v.source) (nothing_kept s) v ≡ owned_here c s v here
    by_here true = not_repeated looks.New (owner_clock c.identity v.source) (nothing_kept s) v refl
    by_here false = not_repeated looks.Unknown (owner_clock c.identity v.source) (nothing_kept s) v refl

judged_elsewhere : (c : Clock) (s : State) (v : Message)
    → same_clock v.target.clock c.identity ≡ false
    → judged c s v ≡ owned_here c s v false
unfolding judged
judged_elsewhere c s v elsewhere =
    ap (λ (l : Look). judged_at l c s v)
    (ap (λ (b : Bool). look_of (is_known v.source c.managers && b) (get s.entries v.source) v.number (request_of v)) elsewhere
    ∙ ap (λ (b : Bool). look_of b (get s.entries v.source) v.number (request_of v)) (and_none (is_known v.source c.managers)))
    ∙ not_repeated looks.Unknown c s v refl

-- a new request of the owner is addressed to the clock, and asks something
new_asks : (domain own addressed request here : Bool) → owned_at domain own addressed request here ≡ verdicts.AnsweredNew
    → (addressed ≡ true) × (request ≡ true)
new_asks false own addressed request here is = absurd (cc)
new_asks true true addressed request here is = absurd (cc)
new_asks true false false request here is = absurd (cc)
new_asks true false true false here is = absurd (cc)
new_asks true false true true here is = (refl, refl)

target_port : (port : ℕ) (d : DataSetsValue) → names_port (length d.ports) port ≡ true → IsTargetPort port d
target_port port d here = grind arith

second_of : (a b : Bool) → (a && b) ≡ true → b ≡ true
second_of true b is = is
second_of false b is = absurd (cc)

not_true : (b : Bool) → not b ≡ true → b ≡ false
not_true true is = absurd (cc)
not_true false is = refl

-- ---- what is sent

elsewhere_not_new : (domain own addressed request : Bool) → owned_at domain own addressed request false ≡ verdicts.AnsweredNew → ⊥
elsewhere_not_new false own addressed request is = cc
elsewhere_not_new true true addressed request is = cc
elsewhere_not_new true false false request is = cc
elsewhere_not_new true false true false is = cc
elsewhere_not_new true false true true is = cc

same_reply : (domain own addressed request : Bool) (c k : Clock) (s : State) (v : Message)
    → reply_by (owned_at domain own addressed request false) c s v ≡ reply_by (owned_at domain own addressed request false) k (nothing_kept s) v
same_reply false own addressed request c k s v = refl
same_reply true true addressed request c k s v = refl
same_reply true false false request c k s v = refl
same_reply true false true false c k s v = refl
same_reply true false true true c k s v = refl

no_reply : (domain own addressed request : Bool) (k : Clock) (s : State) (v : Message)
    → (owned_at domain own addressed request true ≡ verdicts.AnsweredNew → ⊥)
    → reply_by (owned_at domain own addressed request true) k s v ≡ None
no_reply false own addressed request k s v other = refl
no_reply true true addressed request k s v other = refl
no_reply true false false request k s v other = refl
no_reply true false true false k s v other = refl
no_reply true false true true k s v other = absurd (other refl)

not_new_same : (v : Message) (w : Verdict) → (w ≡ verdicts.AnsweredNew → ⊥) → w ≡ owner_verdict v w
not_new_same v verdicts.AnsweredNew other = absurd (other refl)
not_new_same v _ other = refl

-- ---- the turns

-- of a message that is not for exactly this clock it is the clock's own
owner_elsewhere : (c : Clock) (s next : State) (port : ℕ) (datagram : List ℕ) (v : Message) (w : Verdict) (out : List (ℕ × List ℕ))
    → message_of datagram ≡ Some v
    → same_clock v.target.clock c.identity ≡ false
    → IsTurned (turn c s port datagram) w out next
    → IsTurned (owner_turn c s port datagram) w out next
owner_elsewhere c s next port datagram v w out read elsewhere turned =
    owner_turned_is c k s (nothing_kept s) (nothing_kept s) next port datagram v w w out read refl refl
    (turned_other k (nothing_kept s) port datagram v w out (nothing_kept s) (reading-message_of datagram v read)
    (is ∙ sym own) not_new sent refl)
    (not_new_same v w not_new) (here.sets_are ∙ ap (λ (t : State). t.sets) same) (here.entries_are ∙ ap (λ (t : State). t.entries) same)
  where
    k : Clock
    k = owner_clock c.identity v.source

    here : IsTurned (turn_by c s port datagram (Ok v)) w out next
    here = subst (λ (t : Turned). IsTurned t w out next) (turn-message c s port datagram v read) turned

    verdict : judged c s v ≡ owned_here c s v false
    verdict = judged_elsewhere c s v elsewhere

    own : judged k (nothing_kept s) v ≡ owned_here c s v false
    own = owned_judged c s v ∙ ap (owned_here c s v) elsewhere

    is : w ≡ owned_here c s v false
    is = here.verdict_is ∙ verdict

    not_new : w ≡ verdicts.AnsweredNew → ⊥
    not_new new = elsewhere_not_new (v.sdo == 0 && v.domain == s.sets.default.domain) (is_own c v) (is_addressed c s.sets v) (is_request v) (sym is ∙ new)

    same : next_by (judged c s v) c s v ≡ s
    same = next_by-not_new (judged c s v) c s v (λ new. not_new (here.verdict_is ∙ new))

    sent : out ≡ forwarded k.identity port s.sets datagram ++ reply_messages k port (heard_of v) (reply_by w k (nothing_kept s) v)
    sent =
        here.outbox_is
        ∙ ap (λ (u : Verdict). forwarded c.identity port s.sets datagram ++ reply_messages c port (heard_of v) (reply_by u c s v)) verdict
        ∙ ap (λ (r : Option ReplyValue). forwarded c.identity port s.sets datagram ++ reply_messages c port (heard_of v) r)
        (same_reply (v.sdo == 0 && v.domain == s.sets.default.domain) (is_own c v) (is_addressed c s.sets v) (is_request v) c k s v)
        ∙ ap (λ (u : Verdict). forwarded c.identity port s.sets datagram ++ reply_messages c port (heard_of v) (reply_by u k (nothing_kept s) v)) (sym is)

-- one for exactly this clock that is not carried out is sent nothing
owner_silent : (c : Clock) (s : State) (port : ℕ) (datagram : List ℕ) (v : Message) (w : Verdict)
    → message_of datagram ≡ Some v
    → same_clock v.target.clock c.identity ≡ true
    → w ≡ owned_here c s v (same_clock v.target.clock c.identity)
    → (w ≡ verdicts.AnsweredNew → ⊥)
    → IsTurned (owner_turn c s port datagram) w [] s
owner_silent c s port datagram v w read here verdict other =
    owner_turned_is c k s (nothing_kept s) (nothing_kept s) s port datagram v w w [] read refl refl
    (turned_other k (nothing_kept s) port datagram v w [] (nothing_kept s) (reading-message_of datagram v read)
    (verdict ∙ sym (owned_judged c s v)) other
    (sym ((λ i. none i ++ reply_messages k port (heard_of v) (silent i)))) refl)
    (not_new_same v w other) refl refl
  where
    k : Clock
    k = owner_clock c.identity v.source

    is : w ≡ owned_here c s v true
    is = verdict ∙ ap (owned_here c s v) here

    none : forwarded k.identity port s.sets datagram ≡ []
    none = forwarded-copy k port s.sets datagram v read here

    silent : reply_by w k (nothing_kept s) v ≡ None
    silent =
        ap (λ (u : Verdict). reply_by u k (nothing_kept s) v) is
        ∙ no_reply (v.sdo == 0 && v.domain == s.sets.default.domain) (is_own c v) (is_addressed c s.sets v) (is_request v) k (nothing_kept s) v
        (λ new. other (is ∙ new))

owner_rights : (me : ClockIdentity) (v : Message) → (owner_clock me v.source).rights v.source ≡ all_rights
owner_rights me v = ap (λ (b : Bool). if b then all_rights else no_rights) (same_identity-refl v.source)

-- a request for exactly this clock is carried out with every right
owner_new : (c : Clock) (s next : State) (port : ℕ) (datagram : List ℕ) (v : Message) (w : Verdict) (out : List (ℕ × List ℕ))
    → message_of datagram ≡ Some v
    → verdicts.AnsweredNew ≡ owned_here c s v (same_clock v.target.clock c.identity)
    → w ≡ owner_verdict v verdicts.AnsweredNew
    → out ≡ rendered c.identity (heard_of v) (reply_to (request_of v) all_rights s.sets) port
    → next.sets ≡ changed_by (request_of v) all_rights s.sets
    → next.entries ≡ s.entries
    → IsTurned (owner_turn c s port datagram) w out next
owner_new c s next port datagram v w out read new verdict sent sets entries =
    let k = owner_clock c.identity v.source in
    let rights = owner_rights c.identity v in
    owner_turned_is c k s (nothing_kept s) (carried_out k (nothing_kept s) v) next port datagram v verdicts.AnsweredNew w out read refl refl
    (turned_new k (nothing_kept s) port datagram v verdicts.AnsweredNew out (carried_out k (nothing_kept s) v) (reading-message_of datagram v read)
    (new ∙ sym (owned_judged c s v)) refl
    (sent ∙ ap (λ (r : Rights). rendered c.identity (heard_of v) (reply_to (request_of v) r s.sets) port) (sym rights)) refl)
    verdict (sets ∙ ap (λ (r : Rights). changed_by (request_of v) r s.sets) (sym rights)) entries

pub take_turn-requires-clause-room : goal.take_turn-requires-clause-room
take_turn-requires-clause-room c =
    omega (arith, sends_no_more_alone (clock_in c.args.self.now).clock (state_in c.args.self.now) c.args.port c.args.datagram.now c.sent_law.ensures.sized c.requires.port, c.requires.room)

pub take_turn-requires-2-clause-room : goal.take_turn-requires-2-clause-room
take_turn-requires-2-clause-room c =
    omega (arith, sends_no_more_alone (clock_in c.args.self.now).clock (state_in c.args.self.now) c.args.port c.args.datagram.now c.sent_law.ensures.sized c.requires.port, c.requires.room)

pub returns-in_default-clause-turned : goal.returns-in_default-clause-turned
returns-in_default-clause-turned c =
    subst (λ (t : Turned). IsTurned t c.take_turn.result.verdict (messages_in (take c.take_turn.result.count c.take_turn.new.room)) (state_in c.take_turn.new.self))
    (sym (owner_unread (clock_in c.args.self.now).clock (state_in c.args.self.now) c.args.port c.args.datagram.now _
    (sym c.view.ensures.exact ∙ c.in_default.is))) c.take_turn.ensures.turned

pub carry_out_owned-requires-clause-action : goal.carry_out_owned-requires-clause-action
carry_out_owned-requires-clause-action c =
    let new : c.judge_owned-verdict.result ≡ verdicts.AnsweredNew = first_of (search rules, grind (arith, common_steps)) in
    not_true _ (new_asks _ _ _ _ _ (sym c.judge_owned-verdict.ensures ∙ new)).1

pub carry_out_owned-requires-clause-port : goal.carry_out_owned-requires-clause-port
carry_out_owned-requires-clause-port c =
    let new : c.judge_owned-verdict.result ≡ verdicts.AnsweredNew = first_of (search rules, grind (arith, common_steps)) in
    target_port c.in-Ok.message.target.port c.args.self.now.agent.sets
    (second_of _ _ (new_asks _ _ _ _ _ (sym c.judge_owned-verdict.ensures ∙ new)).0)

pub carry_out_owned-requires-clause-room : goal.carry_out_owned-requires-clause-room
carry_out_owned-requires-clause-room c =
    omega (arith, new_few (request_of c.in-Ok.message) all_rights c.args.self.now.agent.sets c.sent_law.ensures.sized, c.sent_law.ensures.sized.some_port, c.requires.room)

pub returns-then-eq-clause-turned : goal.returns-then-eq-clause-turned
returns-then-eq-clause-turned c =
    let read : message_of c.args.datagram.now ≡ Some c.in-Ok.message =
    message_of-reading c.args.datagram.now c.in-Ok.message (sym c.view.ensures.exact ∙ c.in-Ok.is) in
    let new : c.judge_owned-verdict.result ≡ verdicts.AnsweredNew = first_of (search rules, grind (arith, common_steps)) in
    owner_new (clock_in c.args.self.now).clock (state_in c.args.self.now) (state_in c.carry_out_owned.new.self) c.args.port c.args.datagram.now c.in-Ok.message
    c.carry_out_owned.result.verdict (messages_in (take c.carry_out_owned.result.count c.carry_out_owned.new.room)) read
    (sym new ∙ c.judge_owned-verdict.ensures) c.carry_out_owned.ensures.verdict c.carry_out_owned.ensures.sent c.carry_out_owned.ensures.sets
    (ap entries_of_block c.carry_out_owned.ensures.table)

pub returns-then-eq-clause-clock : goal.returns-then-eq-clause-clock
returns-then-eq-clause-clock c = λ i. record {
  clock = owner_of_block (c.carry_out_owned.ensures.table i);
  rows = (c.carry_out_owned.ensures.relayed i).items;
}

pub returns-then-eq-2-clause-turned : goal.returns-then-eq-2-clause-turned
returns-then-eq-2-clause-turned c =
    let read : message_of c.args.datagram.now ≡ Some c.in-Ok.message =
    message_of-reading c.args.datagram.now c.in-Ok.message (sym c.view.ensures.exact ∙ c.in-Ok.is) in
    let here : same_clock c.in-Ok.message.target.clock (clock_in c.args.self.now).clock.identity ≡ true = first_of (search rules, grind (arith, common_steps)) in
    let other : c.judge_owned-verdict.result ≡ verdicts.AnsweredNew → ⊥ = first_of (search rules, grind (arith, common_steps)) in
    owner_silent (clock_in c.args.self.now).clock (state_in c.args.self.now) c.args.port c.args.datagram.now c.in-Ok.message c.judge_owned-verdict.result read here
    c.judge_owned-verdict.ensures other

pub returns-then-eq-2-clause-behind : goal.returns-then-eq-2-clause-behind
returns-then-eq-2-clause-behind c = kept_by_none c.args.room.now

pub returns-then-eq-2-clause-members : goal.returns-then-eq-2-clause-members
returns-then-eq-2-clause-members c = nothing_changed c.args.self.now.agent.sets

pub returns-clause-turned : goal.returns-clause-turned
returns-clause-turned c =
    let read : message_of c.args.datagram.now ≡ Some c.in-Ok.message =
    message_of-reading c.args.datagram.now c.in-Ok.message (sym c.view.ensures.exact ∙ c.in-Ok.is) in
    let elsewhere : same_clock c.in-Ok.message.target.clock (clock_in c.args.self.now).clock.identity ≡ false = first_of (search rules, grind (arith, common_steps)) in
    owner_elsewhere (clock_in c.args.self.now).clock (state_in c.args.self.now) (state_in c.take_turn-2.new.self) c.args.port c.args.datagram.now c.in-Ok.message
    c.take_turn-2.result.verdict (messages_in (take c.take_turn-2.result.count c.take_turn-2.new.room)) read elsewhere c.take_turn-2.ensures.turned
