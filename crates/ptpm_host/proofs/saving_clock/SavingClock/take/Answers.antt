use Rattle.std.proofs.Common.{◌≡◌, ◌+◌, ◌∙◌, ℕ, Bool, false, true, List, [], Ok, ap, arith, drop, rules, subst, sym, take, if◌then◌else◌}
use Rattle.std.proofs.lemmas.Grind.{common_steps}
use Rattle.std.specs.List.{AllZip}
use Rattle.ptpm_data.specs.Changed.{changed}
use Rattle.ptpm_data.proofs.Differing.{nothing_changed}
use Rattle.ptpm_device.specs.Saying as says
use Rattle.ptpm_saved.specs.Batching.{Handles}
use Rattle.ptpm_host.specs.declared.saving_clock.SavingClock.{SavingClock}
use Rattle.ptpm_host.specs.Clock.{KeepsBehind, clock_in, messages_in, state_in}
use Rattle.ptpm_host.specs.Coming.{Coming, datagram_in, turn_of}
use Rattle.ptpm_device.specs.Saying.{said_value}
use Rattle.ptpm_host.specs.Device.{say_in}
use Rattle.ptpm_host.specs.OutboxLaws.{kept_by_none}
use Rattle.ptpm_host.specs.SavingClock.{LeadsTo, called_at, is_for_live, shown_state, state_asked}
use Rattle.ptpm_host.proofs.saving_clock.SavingClock.take.Goals as goal

pub returns-then-not-is_for_live-clause-called : goal.returns-then-not-is_for_live-clause-called
returns-then-not-is_for_live-clause-called c = λ o is b count as_batch.
    let said : say_in c.args.say.now ≡ Ok (said_value c.in-Ok.said) = c.in-Ok.ensures.said in
    let same : said_value c.in-Ok.said ≡ o = cc in
    let other : false ≡ c.args.of_owner = first_of (search rules, grind (arith, common_steps)) in
    subst (λ (e : Coming). LeadsTo (messages_in (take c.take_shown.result.count c.take_shown.new.room)) c.take_shown.new.self
    (called_at c.args.self.now b (Handles e)) count) (λ i. datagram_in c.args.port c.args.datagram.now (same i) (other i))
    (c.take_shown.ensures.called b count as_batch)

pub returns-then-not-is_for_live-clause-members : goal.returns-then-not-is_for_live-clause-members
returns-then-not-is_for_live-clause-members c =
    c.take_shown.ensures.changed ∙ nothing_changed c.args.self.now.clock.value.agent.sets
    ∙ ap (λ d. changed c.args.self.now.clock.value.agent.sets d) (sym c.take_shown.ensures.sets)

pub returns-then-self-clause-called : goal.returns-then-self-clause-called
returns-then-self-clause-called c = λ o is b count as_batch.
    let said : say_in c.args.say.now ≡ Ok (said_value c.in-Ok.said) = c.in-Ok.ensures.said in
    let same : said_value c.in-Ok.said ≡ o = cc in
    let none : messages_in (take c.take_more.result.count c.take_more.new.room) ≡ [] =
    ap (λ n. messages_in (take n c.take_more.new.room)) c.take_more.ensures.count in
    subst (λ (p : says.Say). LeadsTo (messages_in (take c.take_more.result.count c.take_more.new.room)) c.take_more.new.self
    (called_at c.args.self.now b (Handles (datagram_in c.args.port c.args.datagram.now p c.args.of_owner))) count) same
    (subst (λ (given : List (ℕ × List ℕ)). LeadsTo given c.take_more.new.self
    (called_at c.args.self.now b (Handles (datagram_in c.args.port c.args.datagram.now (said_value c.in-Ok.said) c.args.of_owner))) count) (sym none)
    (c.take_more.ensures.called b count as_batch))

pub returns-then-self-clause-places : goal.returns-then-self-clause-places
returns-then-self-clause-places c =
    let waiting : c.take_more.result.count + c.take_more.result.waiting ≡ c.take_more.result.waiting = omega (arith, c.take_more.ensures.count) in
    ap (λ n. drop n c.take_more.new.room) waiting ∙ c.take_more.ensures.blanked.others ∙ sym (ap (λ n. drop n c.args.room.now) waiting)

pub returns-then-self-clause-behind : goal.returns-then-self-clause-behind
returns-then-self-clause-behind c = λ none.
    subst (λ room. AllZip KeepsBehind c.args.room.now room) (sym (c.take_more.ensures.same none)) (kept_by_none c.args.room.now)

pub returns-else-self-clause-called : goal.returns-else-self-clause-called
returns-else-self-clause-called c = λ o is b count as_batch.
    let said : say_in c.args.say.now ≡ Ok (said_value c.in-Ok.said) = c.in-Ok.ensures.said in
    let same : said_value c.in-Ok.said ≡ o = cc in
    subst (λ (p : says.Say). LeadsTo (messages_in (take c.take_first.result.count c.take_first.new.room)) c.take_first.new.self
    (called_at c.args.self.now b (Handles (datagram_in c.args.port c.args.datagram.now p c.args.of_owner))) count) same
    (c.take_first.ensures.called b count as_batch)

-- a datagram that is judged by the clock as it is
asked_live : (c : SavingClock) (port : ℕ) (datagram : List ℕ) (of_owner : Bool)
    → is_for_live c port datagram of_owner ≡ true
    → state_in c.clock.value ≡ state_asked c port datagram of_owner
asked_live c port datagram of_owner live = sym (ap (λ (b : Bool). if b then state_in c.clock.value else shown_state c) live)

pub returns-then-self-clause-verdict : goal.returns-then-self-clause-verdict
returns-then-self-clause-verdict c = λ o is.
    let said : say_in c.args.say.now ≡ Ok (said_value c.in-Ok.said) = c.in-Ok.ensures.said in
    let same : said_value c.in-Ok.said ≡ o = cc in
    let live : is_for_live c.args.self.now c.args.port c.args.datagram.now c.args.of_owner ≡ true = first_of (search rules, grind (arith, common_steps)) in
    let asked = asked_live c.args.self.now c.args.port c.args.datagram.now c.args.of_owner live in
    c.take_more.ensures.verdict
    ∙ (λ i. (turn_of (clock_in c.args.self.now.clock.value) (asked i) c.args.port c.args.datagram.now (same i) c.args.of_owner).verdict)

pub returns-else-self-clause-verdict : goal.returns-else-self-clause-verdict
returns-else-self-clause-verdict c = λ o is.
    let said : say_in c.args.say.now ≡ Ok (said_value c.in-Ok.said) = c.in-Ok.ensures.said in
    let same : said_value c.in-Ok.said ≡ o = cc in
    let live : is_for_live c.args.self.now c.args.port c.args.datagram.now c.args.of_owner ≡ true = first_of (search rules, grind (arith, common_steps)) in
    let asked = asked_live c.args.self.now c.args.port c.args.datagram.now c.args.of_owner live in
    c.take_first.ensures.verdict
    ∙ (λ i. (turn_of (clock_in c.args.self.now.clock.value) (asked i) c.args.port c.args.datagram.now (same i) c.args.of_owner).verdict)
