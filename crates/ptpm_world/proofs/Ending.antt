-- How a step ends: why an event is refused, or what it did, and what its line says.
use Rattle.ptpm_world.proofs.Common.{◌≡◌, ℕ, ◌≤◌, not, List, Option, Some, None, Result, Ok, Err, refl, true, false, ◌∙◌, ap, nat_lt, length, cond-true, cond-false, le-ltb, Deliver, NoSuchName, FramesAtMaximum, Refusal, frame_at, frames_limit, no_room, Happened, Held, RunningNetwork, delivers, network_event, reaches, unless_refused, Network, arith, IsErrAnd, IsOkAnd, OnErr, OnOk, sym, subst, option_map, result_err, network_after, StepError, Took, World, IsOf, running, IsStep, answer_of, error_of, took_of, ne_eqb, true≢false, Bool, names_in, placed, verb_of, ◌==◌, after, answer, error_text, event_line, event_text, is_out_of_memory}
use Rattle.ptpm_network.specs.Events.{no_session, Event}
use Rattle.std.specs.Int.{to_be_bytes, w16}
use Rattle.ptpm_codec.specs.declared.error.ErrorId.{ErrorId}
use Rattle.ptpm_codec.specs.Message.{error_name, error_number}
use Rattle.ptpm_text.specs.OctetText.{text_of_octets}
use Rattle.ptpm_world.specs.Trace.{is_late_event}
use Rattle.ptpm_world.specs.declared.took.StepError.TheVariants as step_errors
use Rattle.ptpm_codec.specs.declared.error.ErrorId.TheVariants as errors
use Rattle.ptpm_script.specs.declared.event.Event.{Event as EventOfScript}

-- ---- the reasons to refuse an event, one by one, and the first of them

pub absent : (N : Network) (s : ℕ) → N.sessions ≤ s → no_session N s ≡ Some NoSuchName
absent N s h = cond-true _ _ _ (ap not (le-ltb s N.sessions h))

pub full : (frames : List Held)
    → nat_lt frames_limit (length frames) ≡ true
    → no_room frames ≡ Some FramesAtMaximum
full frames h = cond-true _ _ _ h

pub roomy : (frames : List Held)
    → nat_lt frames_limit (length frames) ≡ false
    → no_room frames ≡ None
roomy frames h = cond-false _ _ _ h

-- a reason that does not hold, and one that does
pub skips : (a : Option Refusal) (x y : Result Happened Refusal) → a ≡ None → x ≡ y → unless_refused a x ≡ y
skips a x y e behind = ap (λ o. unless_refused o x) e ∙ behind

pub stops : (a : Option Refusal) (x : Result Happened Refusal) (why : Refusal)
    → a ≡ Some why
    → unless_refused a x ≡ Err why
stops a x why e = ap (λ o. unless_refused o x) e

pub delivered : (N : Network) (r : RunningNetwork) (n : ℕ) (h : Held)
    → frame_at r.frames n ≡ Some h
    → nat_lt frames_limit (length r.frames) ≡ false
    → network_event N r (Deliver n) ≡ Ok (reaches N r h h.end)
unfolding network_event
delivered N r n h e room = ap (delivers N r) e ∙ skips (no_room r.frames) _ _ (roomy r.frames room) refl

-- ---- how a step ends: the event happened, was refused, or memory was

pub step_fine : (N : Network) (old new : World) (e : Event) (h : Happened) (t : Took)
    → network_event N (running old) e ≡ Ok h
    → running new ≡ h.network
    → t ≡ took_of h.deed
    → IsOf N new
    → IsStep N old new e (Ok t)
step_fine N old new e h t is goes told network = record {
  answers = λ other. ap Ok told ∙ sym (ap answer_of is);
  goes = goes ∙ sym (ap (network_after (running old)) is);
  network = network;
}

pub step_refused : (N : Network) (old new : World) (e : Event) (why : Refusal)
    → network_event N (running old) e ≡ Err why
    → IsOf N new
    → IsStep N old new e (Err (error_of why))
step_refused N old new e why is network = record { answers = λ other. sym (ap answer_of is); goes = tt; network = network }

pub step_memory : (N : Network) (old new : World) (e : Event)
    → IsOf N new
    → IsStep N old new e (Err step_errors.OutOfMemory)
step_memory N old new e network = record { answers = λ other. absurd (other refl); goes = tt; network = network }

-- the same event, said otherwise
pub step_at : (N : Network) (old new : World) (e f : Event) (result : Result Took StepError)
    → e ≡ f
    → IsStep N old new f result
    → IsStep N old new e result
step_at N old new e f result same step = subst (λ (x : Event). IsStep N old new x result) (sym same) step

-- an event at a place, which a name has
pub step_named : (N : Network) (old new : World) (event : ℕ → Event) (place named : ℕ)
    (result : Result Took StepError)
    → place ≡ named
    → IsStep N old new (event place) result
    → IsStep N old new (event named) result
step_named N old new event place named result same step = subst (λ k. IsStep N old new (event k) result) same step

-- the error of a call that is handed on
pub step_error : (N : Network) (old new : World) (e : Event) (why : StepError)
    (result : Result Took StepError)
    → IsErrAnd result (λ x. x ≡ why)
    → IsStep N old new e (Err why)
    → IsStep N old new e result
step_error N old new e why (Ok t) is_error step = absurd is_error
step_error N old new e why (Err x) is_error step = subst (λ (f : StepError). IsStep N old new e (Err f)) (sym is_error) step

-- ---- what a step says of its event

pub err_is : {T : Type 0} (a b : StepError) → ◌≡◌ {A = Result T StepError} (Err a) (Err b) → a ≡ b
err_is a b e = cc

pub step-went : (N : Network) (old new : World) (e : Event) (t : Took)
    → IsStep N old new e (Ok t)
    → IsOkAnd (network_event N (running old) e) (λ h. running new ≡ h.network)
step-went N old new e t step = grind arith

-- what an event did that led here
pub happened : (x : Result Happened Refusal) (new : RunningNetwork)
    → IsOkAnd x (λ h. new ≡ h.network)
    → (h : Happened) × (x ≡ Ok h) × (new ≡ h.network)
happened (Ok h) new went = (h, refl, went)
happened (Err why) new went = absurd went

-- it is refused for this reason
pub refused_by : (x : Result Happened Refusal) (why : StepError)
    → Err why ≡ answer_of x
    → option_map error_of (result_err x) ≡ Some why
refused_by (Ok h) why e = absurd (cc)
refused_by (Err reason) why e = let same : why ≡ error_of reason = cc in ap Some (sym same)

-- if a step is known whole: a refused one stays
pub stays_or_goes : (r new : RunningNetwork) (x : Result Happened Refusal) (result : Result Took StepError)
    → result ≡ answer_of x
    → OnOk result (new ≡ network_after r x)
    → OnErr result (new ≡ r)
    → new ≡ network_after r x
stays_or_goes r new x (Ok t) told goes stays = goes
stays_or_goes r new (Err why) (Err error) told goes stays = stays
stays_or_goes r new (Ok h) (Err error) told goes stays = absurd (cc)

-- ---- what an event did, or why it was refused, and the state to which it led, as its line says it

pub answered : (N : Network) (old new : World) (e : Event) (result : Result Took StepError)
    → is_out_of_memory result ≡ false
    → IsStep N old new e result
    → OnErr result (running new ≡ running old)
    → (result ≡ answer N (running old) e) × (running new ≡ after N (running old) e)
answered N old new e result memory step same = grind (arith, true≢false, stays_or_goes)

-- what its line says is the event's line
pub line-said : (N : Network) (old new : World) (number : ℕ) (e : EventOfScript) (took : Result Took StepError) (late : Bool)
    (before count : ℕ)
    → is_out_of_memory took ≡ false
    → IsStep N old new (placed (names_in old) e) took
    → OnErr took (running new ≡ running old)
    → late ≡ is_late_event (running old) (placed (names_in old) e)
    → before ≡ length (running old).frames
    → count ≡ length (running new).frames
    → event_text number (verb_of e) took late before count ≡ event_line N (names_in old) (running old) number e
line-said N old new number e took late before count memory step same l b c =
    let h = answered N old new (placed (names_in old) e) took memory step same in
    let made : count ≡ length (after N (running old) (placed (names_in old) e)).frames =
    c ∙ ap (λ (r : RunningNetwork). length r.frames) h.1 in
    (λ i. event_text number (verb_of e) (h.0 i) (l i) (b i) (made i))

-- ---- managementErrorIds

pub named_text : (e : ErrorId) (n : ℕ) → error_number e ≡ n → error_name e ≡ error_text n
unfolding error_text
named_text e n h = grind arith

pub unnamed_text : (n : ℕ)
    → ((e : ErrorId) → error_number e ≡ n → ⊥)
    → text_of_octets (to_be_bytes w16 n) ≡ error_text n
unfolding error_text
unnamed_text n unnamed =
    let a : (n == 0x0001) ≡ false = ne_eqb n 0x0001 (λ h. unnamed errors.ResponseTooBig (sym h)) in
    let b : (n == 0x0002) ≡ false = ne_eqb n 0x0002 (λ h. unnamed errors.NoSuchId (sym h)) in
    let c : (n == 0x0003) ≡ false = ne_eqb n 0x0003 (λ h. unnamed errors.WrongLength (sym h)) in
    let d : (n == 0x0004) ≡ false = ne_eqb n 0x0004 (λ h. unnamed errors.WrongValue (sym h)) in
    let e : (n == 0x0005) ≡ false = ne_eqb n 0x0005 (λ h. unnamed errors.NotSetable (sym h)) in
    let f : (n == 0x0006) ≡ false = ne_eqb n 0x0006 (λ h. unnamed errors.NotSupported (sym h)) in
    let g : (n == 0xfffe) ≡ false = ne_eqb n 0xfffe (λ h. unnamed errors.GeneralError (sym h)) in
    rw (a, b, c, d, e, f, g) refl
