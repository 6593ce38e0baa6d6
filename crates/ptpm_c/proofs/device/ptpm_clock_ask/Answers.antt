use Rattle.std.proofs.Common.{rules, ◌≡◌, ◌∙◌, ℕ, Bool, Err, IsTrue, None, Ok, Option, Result, ap, false, subst, sym}
use Rattle.std.specs.Box as Box
use Rattle.std.specs.Prelude.{IfErr, IfOk, MatchResult, is_ok}
use Rattle.ptpm_data.specs.Members.{has_port}
use Rattle.ptpm_agent.specs.Turn.{NumberedRequest}
use Rattle.ptpm_device.specs.Asking.{asked, wanted}
use Rattle.ptpm_host.specs.declared.clock.HostedClock.{HostedClock}
use Rattle.ptpm_host.specs.declared.device.Asking.{Asking}
use Rattle.ptpm_host.specs.declared.device.Question.{Question}
use Rattle.ptpm_host.specs.declared.refusal.HandleRefusal.{HandleRefusal}
use Rattle.ptpm_host.specs.declared.refusal.HandleRefusal.TheVariants as handles
use Rattle.ptpm_host.specs.declared.saving_clock.SavingClock.{SavingClock}
use Rattle.ptpm_host.specs.Clock.{clock_in, state_in}
use Rattle.ptpm_host.specs.Device.{Answers, AsksNothing}
use Rattle.ptpm_host.specs.Numbers.{handle_number}
use Rattle.ptpm_host.specs.SavingClock.{state_asked}
use Rattle.ptpm_c.specs.declared.kept.Hosted.TheVariants as hosts
use Rattle.ptpm_c.specs.Said.{AsksBy, AsksIn}
use Rattle.ptpm_c.proofs.device.ptpm_clock_ask.Goals as goal

-- what is told of a datagram at a port that the clock has, and at another
told : (asking : Result Asking HandleRefusal) (change value : Option NumberedRequest) (number : ℕ) (place : Question) (here : Bool)
    → MatchResult asking
    (λ a. Answers change value a → AsksIn change value number place)
    (λ e. (number ≡ handle_number e) × AsksNothing place)
    → IfOk asking (Answers change value)
    → is_ok asking ≡ here
    → IsTrue here
    → AsksIn change value number place
told (Ok a) change value number place here tells answers is has = tells answers
told (Err e) change value number place here tells answers is has = absurd cc

not_told : (asking : Result Asking HandleRefusal) (change value : Option NumberedRequest) (number : ℕ) (place : Question) (here : Bool)
    → MatchResult asking
    (λ a. Answers change value a → AsksIn change value number place)
    (λ e. (number ≡ handle_number e) × AsksNothing place)
    → IfErr asking (λ e. e ≡ handles.NoPort)
    → is_ok asking ≡ here
    → here ≡ false
    → (number ≡ 33) × AsksNothing place
not_told (Ok a) change value number place here tells refused is lacks = absurd cc
not_told (Err e) change value number place here tells refused is lacks = (tells.0 ∙ ap handle_number refused, tells.1)

pub returns-in-Clock-clause-asks : goal.returns-in-Clock-clause-asks
returns-in-Clock-clause-asks c = λ d is has.
    let lent : c.deref.result.now ≡ d = search rules in
    subst (λ (x : HostedClock). IsTrue (has_port c.args.port x.agent.sets) → AsksBy (clock_in x) (state_in x) c.args.datagram.now c.tell.result c.tell.new.asked) lent
    (told c.ask.result _ _ _ _ _ (c.tell.ensures _ _) c.ask.ensures.asked c.ask.ensures.here) has

pub returns-in-Clock-clause-no_port : goal.returns-in-Clock-clause-no_port
returns-in-Clock-clause-no_port c = λ d is lacks.
    let lent : c.deref.result.now ≡ d = search rules in
    subst (λ (x : HostedClock). has_port c.args.port x.agent.sets ≡ false → (c.tell.result ≡ 33) × AsksNothing c.tell.new.asked) lent
    (not_told c.ask.result None None _ _ _ (c.tell.ensures None None) c.ask.ensures.refused c.ask.ensures.here) lacks

pub returns-in-SavingClock-clause-kept : goal.returns-in-SavingClock-clause-kept
returns-in-SavingClock-clause-kept c =
    let clock = c.in-SavingClock.clock in
    let same : c.ask-in-SavingClock.new.self ≡ clock.value = c.ask-in-SavingClock.ensures.unchanged ∙ c.deref_mut.ensures.value in
    ap (λ (w : SavingClock). hosts.SavingClock (Box.with_value clock w)) same ∙ sym c.in-SavingClock.is ∙ sym c.in-Some.ensures.value

pub returns-in-SavingClock-clause-saving : goal.returns-in-SavingClock-clause-saving
returns-in-SavingClock-clause-saving c = λ w is has.
    let lent : c.deref_mut.result.now ≡ w = search rules in
    subst (λ (x : SavingClock). IsTrue (has_port c.args.port x.clock.value.agent.sets)
    → AsksBy (clock_in x.clock.value) (state_asked x c.args.port c.args.datagram.now false) c.args.datagram.now c.tell-in-SavingClock.result c.tell-in-SavingClock.new.asked) lent
    (told c.ask-in-SavingClock.result _ _ _ _ _ (c.tell-in-SavingClock.ensures _ _) c.ask-in-SavingClock.ensures.asked c.ask-in-SavingClock.ensures.here) has

pub returns-in-SavingClock-clause-no_port : goal.returns-in-SavingClock-clause-no_port
returns-in-SavingClock-clause-no_port c = λ d is lacks.
    let lent : c.deref_mut.result.now.clock.value ≡ d = search rules in
    let tell = c.tell-in-SavingClock in
    let ask = c.ask-in-SavingClock in
    subst (λ (x : HostedClock). has_port c.args.port x.agent.sets ≡ false → (tell.result ≡ 33) × AsksNothing tell.new.asked) lent
    (not_told ask.result None None _ _ _ (tell.ensures None None) ask.ensures.refused ask.ensures.here) lacks
