-- What a schedule goes through, one part after another.
use Rattle.std.proofs.Common.{◌≡◌, ◌≢◌, ◌≤◌, inl, inr, ℕ, ◌+◌, Bool, true, false, List, [], ◌∷◌, ◌++◌, Option, ◌||◌, if◌then◌else◌, None, Some, Ok, Err, Result, codes, refl, sym, ap, ◌∙◌, subst, append_assoc, append-nil, get_or, is_none, length, length-append, map, take, ◌<◌, IfOk, IsErrAnd, OnErr, arith, option_map}
use Rattle.std.proofs.KnownBytes.{Appends-nil, Appends-trans}
use Rattle.std.proofs.lemmas.Bool.{cond-true}
use Rattle.std.proofs.lemmas.Grind.{flat_map-append}
use Rattle.std.proofs.lemmas.List.{map-append, take_more}
use Rattle.std.proofs.lemmas.List.Folds.{list_any-append}
use Rattle.std.specs.Io.KnownBytes.{Appends, Keeps}
use Rattle.std.specs.List.{list_any}
use Rattle.ptpm_network.proofs.Taking.{run-append, taken-append}
use Rattle.ptpm_network.specs.Events as machine
use Rattle.ptpm_network.specs.Events.{Refusal, refusal}
use Rattle.ptpm_network.specs.Stands.{StandsAfter}
use Rattle.ptpm_network.specs.Machine.{is_late_delivery, state_after, taken}
use Rattle.ptpm_network.specs.Network.{Network}
use Rattle.ptpm_network.specs.State.{NetworkState, initial_state}
use Rattle.ptpm_schedule.specs.EventText.{event_text}
use Rattle.ptpm_schedule.specs.Going.{Became, Goes, HasStopped, IsLateAfter, IsRefused, IsSame, Stayed, Took, Went, WentOn, Wrote, asked_by, asked_in}
use Rattle.ptpm_schedule.specs.Scheduled.{AreAsked, IsRefusedAfter, IsScheduled, event_lines, is_asked}
use Rattle.ptpm_codec.specs.declared.error.OutOfMemory.{OutOfMemory}
use Rattle.ptpm_schedule.specs.declared.traffic.Tried.{Tried}
use Rattle.ptpm_schedule.specs.declared.traffic.Tried.TheVariants.{Happened, Refused}
use Rattle.ptpm_script.specs.declared.event.Event.{Event}
use Rattle.ptpm_script.specs.declared.event.Event.TheVariants as events
use Rattle.ptpm_script.specs.NetworkText.{network_of}
use Rattle.ptpm_script.specs.NetworkValue.{NetworkValue}
use Rattle.ptpm_world.proofs.FaultLemmas.{outside}
use Rattle.std.proofs.KnownBytes.{Appends-kept}
use Rattle.ptpm_world.specs.Described.{described}
use Rattle.ptpm_world.specs.declared.script_error.ScriptError.{ScriptError}
use Rattle.ptpm_world.specs.declared.script_error.ScriptError.TheVariants as faults
use Rattle.ptpm_world.specs.declared.whole_script.EventLine.{EventLine}
use Rattle.ptpm_world.specs.declared.took.StepError.{StepError}
use Rattle.ptpm_world.specs.declared.took.StepError.TheVariants as errors
use Rattle.ptpm_world.specs.declared.took.Took as world
use Rattle.ptpm_world.specs.declared.world.World.{World}
use Rattle.ptpm_world.specs.Placed.{Names, names_in, names_of, placed}
use Rattle.ptpm_world.specs.Running.{IsOf, running}
use Rattle.ptpm_world.specs.ScriptError.{is_outside}
use Rattle.ptpm_world.specs.Stepping.{IsMachineStep, IsStep}
use Rattle.ptpm_world.specs.Took.{error_of}

event_lines-append : (es fs : List Event) → event_lines (es ++ fs) ≡ event_lines es ++ event_lines fs
event_lines-append es fs = flat_map-append (λ e. event_text e ++ 10 ∷ []) es fs

-- ---- events for which a session is asked

none_of_both : (es fs : List Event)
    → list_any is_asked es ≡ false
    → list_any is_asked fs ≡ false
    → list_any is_asked (es ++ fs) ≡ false
none_of_both es fs first second = list_any-append is_asked es fs ∙ ap (λ b. b || list_any is_asked fs) first ∙ second

past_both : (names : Names) (past : List machine.Event) (es fs : List Event)
    → (past ++ map (placed names) es) ++ map (placed names) fs ≡ past ++ map (placed names) (es ++ fs)
past_both names past es fs =
    append_assoc past (map (placed names) es) (map (placed names) fs)
    ∙ ap (λ l. past ++ l) (sym (map-append (placed names) es fs))

-- others after events that ask for nothing
asked_behind : (N : Network) (names : Names) (past : List machine.Event) (all asked more : List Event)
    → list_any is_asked all ≡ false
    → AreAsked N names (past ++ map (placed names) all) asked more
    → AreAsked N names past asked (all ++ more)
asked_behind N names past all [] more none h = none_of_both all more none h
asked_behind N names past all (e ∷ es) more none (front, (rest, (quiet, inl (is, next)))) = (
  all ++ front,
  (
    rest,
    (
      none_of_both all front none quiet,
      inl (
        ap (λ l. all ++ l) is ∙ sym (append_assoc all front (e ∷ rest)),
        subst (λ (p : List machine.Event). AreAsked N names p es rest)
            (past_both names past all (front ++ (e ∷ [])) ∙ ap (λ l. past ++ map (placed names) l) (sym (append_assoc all front (e ∷ [])))) next,
      ),
    ),
  ),
)
asked_behind N names past all (e ∷ es) more none (front, (rest, (quiet, inr (is, (why, next))))) = (
  all ++ front,
  (
    rest,
    (
      none_of_both all front none quiet,
      inr (
        ap (λ l. all ++ l) is ∙ sym (append_assoc all front rest),
        (
          subst (λ (p : List machine.Event). IsRefusedAfter N p (placed names e)) (past_both names past all front) why,
          subst (λ (p : List machine.Event). AreAsked N names p es rest) (past_both names past all front) next,
        ),
      ),
    ),
  ),
)

-- one part after the other
asked_both : (N : Network) (names : Names) (past : List machine.Event) (xs ys first second : List Event)
    → AreAsked N names past xs first
    → AreAsked N names (past ++ map (placed names) first) ys second
    → AreAsked N names past (xs ++ ys) (first ++ second)
asked_both N names past [] ys first second none h = asked_behind N names past first ys second none h
asked_both N names past (e ∷ es) ys first second (front, (rest, (quiet, inl (is, next)))) h = (
  front,
  (
    rest ++ second,
    (
      quiet,
      inl (
        ap (λ l. l ++ second) is ∙ append_assoc front (e ∷ rest) second,
        asked_both N names (past ++ map (placed names) (front ++ (e ∷ []))) es ys rest second next
            (subst (λ (p : List machine.Event). AreAsked N names p ys second)
            (ap (λ l. past ++ map (placed names) l) (is ∙ sym (append_assoc front (e ∷ []) rest)) ∙ sym (past_both names past (front ++ (e ∷ [])) rest)) h),
      ),
    ),
  ),
)
asked_both N names past (e ∷ es) ys first second (front, (rest, (quiet, inr (is, (why, next))))) h = (
  front,
  (
    rest ++ second,
    (
      quiet,
      inr (
        ap (λ l. l ++ second) is ∙ append_assoc front rest second,
        (
          why,
          asked_both N names (past ++ map (placed names) front) es ys rest second next
              (subst (λ (p : List machine.Event). AreAsked N names p ys second)
              (ap (λ l. past ++ map (placed names) l) is ∙ sym (past_both names past front rest)) h),
        ),
      ),
    ),
  ),
)

asked_once : (N : Network) (names : Names) (past : List machine.Event) (e : Event) (b : Bool)
    → is_asked e ≡ b
    → AreAsked N names past (if b then e ∷ [] else []) (e ∷ [])
asked_once N names past e true is = ([], ([], (refl, inl (refl, refl))))
asked_once N names past e false is = ap (λ b. b || false) is

asked_not : (N : Network) (names : Names) (past : List machine.Event) (e : Event) (b : Bool)
    → IsRefusedAfter N past (placed names e)
    → AreAsked N names past (if b then e ∷ [] else []) []
asked_not N names past e true why = (
  [],
  (
    [],
    (
      refl,
      inr (
        refl,
        (
          subst (λ (p : List machine.Event). IsRefusedAfter N p (placed names e)) (sym (append-nil past)) why,
          refl,
        ),
      ),
    ),
  ),
)
asked_not N names past e false why = refl

-- what delivers is asked of no session
late_asked : (N : Network) (names : Names) (past : List machine.Event) (e : Event)
    → IsLateAfter (placed names e) N past
    → asked_by e ≡ []
late_asked N names past (events.Begin session ask) late = absurd (cc)
late_asked N names past (events.Resume session attempts) late = absurd (cc)
late_asked N names past (events.Retune session domain) late = absurd (cc)
late_asked N names past (events.Send session) late = refl
late_asked N names past (events.Deliver frame) late = refl
late_asked N names past (events.Stranger clock port octets) late = refl

-- ---- nothing happened

pub same_self : (w : World) → IsSame w w
same_self w = record { names = refl; network = λ N is. is }

wrote_nothing : (N : Network) (names : Names) (past : List machine.Event) (told : Option (List ℕ)) (count : ℕ)
    → Wrote N names past told told count count
wrote_nothing N names past told count = record {
  events = [];
  written = Appends-nil told;
  happened = refl;
  counted = omega arith;
}

still_stands : (N : Network) (past : List machine.Event) (old new : World)
    → running new ≡ running old
    → StandsAfter N past (running old)
    → StandsAfter N (past ++ []) (running new)
still_stands N past old new still at =
    subst (λ es. StandsAfter N es (running new)) (sym (append-nil past)) (subst (StandsAfter N past) (sym still) at)

pub stays : (asked : List Event) (old new : World) (told : Option (List ℕ)) (count : ℕ) (P : Network → List machine.Event → Type 0)
    → IsSame old new
    → Stayed old new P
    → ((N : Network) (past : List machine.Event) → P N past → AreAsked N (names_in old) past asked [])
    → Goes asked old new told told count count
unfolding wrote_nothing
stays asked old new told count P same stayed asks = record {
  same = same;
  goes = λ N past is at. record {
    wrote = wrote_nothing N (names_in old) past told count;
    stands = still_stands N past old new stayed.still at;
    asks = asks N past (stayed.why N past is at);
  };
}

pub stays_refused : (old new : World) (e : Event) (told : Option (List ℕ)) (count : ℕ)
    → IsSame old new
    → Stayed old new (IsRefused (placed (names_in old) e))
    → Goes (asked_by e) old new told told count count
stays_refused old new e told count same stayed =
    stays (asked_by e) old new told count (IsRefused (placed (names_in old) e)) same stayed
    (λ N past why. asked_not N (names_in old) past e (is_asked e) why)

pub stays_late : (old new : World) (e : Event) (told : Option (List ℕ)) (count : ℕ)
    → IsSame old new
    → Stayed old new (IsLateAfter (placed (names_in old) e))
    → Goes (asked_by e) old new told told count count
stays_late old new e told count same stayed =
    stays (asked_by e) old new told count (IsLateAfter (placed (names_in old) e)) same stayed
    (λ N past late. subst (λ (es : List Event). AreAsked N (names_in old) past es []) (sym (late_asked N (names_in old) past e late)) refl)

pub stays_still : (old new : World) (told : Option (List ℕ)) (count : ℕ)
    → IsSame old new
    → running new ≡ running old
    → Goes [] old new told told count count
stays_still old new told count same still =
    stays [] old new told count (λ N past. Unit {0}) same (record { still = still; why = λ N past is at. tt }) (λ N past u. refl)

pub stands_still : (w : World) (told : Option (List ℕ)) (count : ℕ) → Goes [] w w told told count count
stands_still w told count = stays_still w w told count (same_self w) refl

-- ---- one event

pub same_step : (old new : World) (e : machine.Event) (result : Result world.Took StepError)
    → ((N : Network) → IsOf N old → IsStep N old new e result)
    → names_in new ≡ names_in old
    → IsSame old new
same_step old new e result went names = record { names = names; network = λ N is. (went N is).network }

-- it was not late, and the network took it
pub took_step : (old new : World) (e : Event) (late : Bool) (did : world.Took)
    → ((N : Network) (past : List machine.Event)
    → StandsAfter N past (running old)
    → late ≡ is_late_delivery (state_after N past) (placed (names_in old) e))
    → late ≡ false
    → ((N : Network) (past : List machine.Event)
    → IsOf N old
    → StandsAfter N past (running old)
    → IsMachineStep N past new (placed (names_in old) e) (Ok did))
    → Became old new e (Happened did)
took_step old new e late did told prompt went = λ N past is at.
    let step = went N past is at in
    let time : is_late_delivery (state_after N past) (placed (names_in old) e) ≡ false = sym (told N past at) ∙ prompt in
    record { permitted = step.taken; stands = step.stands time }

-- it would have been late
pub late_step : (w : World) (e : Event) (late : Bool)
    → ((N : Network) (past : List machine.Event)
    → StandsAfter N past (running w)
    → late ≡ is_late_delivery (state_after N past) (placed (names_in w) e))
    → late ≡ true
    → Stayed w w (IsLateAfter (placed (names_in w) e))
late_step w e late told is_late = record { still = refl; why = λ N past is at. sym (told N past at) ∙ is_late }

some_refusal : (o : Option Refusal) (why : StepError) → option_map error_of o ≡ Some why → is_none o ≡ false
some_refusal None why h = absurd (cc)
some_refusal (Some reason) why h = refl

-- it was refused
pub refused_step : (old new : World) (e : Event) (why : StepError)
    → running new ≡ running old
    → ((N : Network) (past : List machine.Event)
    → IsOf N old
    → StandsAfter N past (running old)
    → IsMachineStep N past new (placed (names_in old) e) (Err why))
    → why ≢ errors.OutOfMemory
    → Stayed old new (IsRefused (placed (names_in old) e))
refused_step old new e why still went other = record {
  still = still;
  why = λ N past is at.
      some_refusal (refusal N (state_after N past) (placed (names_in old) e)) why ((went N past is at).reason other);
}

pub refused_became : (r : Result Tried OutOfMemory) (old new : World) (e : Event) (why : StepError)
    → running new ≡ running old
    → ((N : Network) (past : List machine.Event)
    → IsOf N old
    → StandsAfter N past (running old)
    → IsMachineStep N past new (placed (names_in old) e) (Err why))
    → IfOk r (λ t. (t ≡ Refused why) × (why ≢ errors.OutOfMemory))
    → IfOk r (Became old new e)
refused_became (Ok t) old new e why still went h = subst (Became old new e) (sym h.0) (refused_step old new e why still went h.1)
refused_became (Err x) old new e why still went h = tt

pub on_err : {A E : Type 0} (r : Result A E) (P : Type 0) → P → OnErr r P
on_err (Ok a) P p = tt
on_err (Err x) P p = p

wrote_once : (N : Network) (names : Names) (past : List machine.Event) (e : Event) (new : World) (before after : Option (List ℕ)) (count : ℕ)
    → Took N past new (placed names e)
    → Appends before after (event_text e ++ 10 ∷ [])
    → Wrote N names past before after count (count + 1)
wrote_once N names past e new before after count it line = record {
  events = e ∷ [];
  written = subst (Appends before after) (sym (append-nil (event_text e ++ 10 ∷ []))) line;
  happened = cond-true _ _ _ (ap is_none it.permitted);
  counted = refl;
}

pub goes_once : (old new : World) (e : Event) (before after : Option (List ℕ)) (count : ℕ)
    → IsSame old new
    → ((N : Network) (past : List machine.Event) → IsOf N old → StandsAfter N past (running old) → Took N past new (placed (names_in old) e))
    → Appends before after (event_text e ++ 10 ∷ [])
    → Goes (asked_by e) old new before after count (count + 1)
unfolding wrote_once
goes_once old new e before after count same went line = record {
  same = same;
  goes = λ N past is at.
      let it = went N past is at in
      record {
        wrote = wrote_once N (names_in old) past e new before after count it line;
        stands = it.stands;
        asks = asked_once N (names_in old) past e (is_asked e) refl;
      };
}

-- ---- one part after another

both-taken : (N : Network) (past xs ys : List machine.Event)
    → taken N (state_after N past) xs ≡ xs
    → taken N (state_after N (past ++ xs)) ys ≡ ys
    → taken N (state_after N past) (xs ++ ys) ≡ xs ++ ys
both-taken N past xs ys first second =
    taken-append N (state_after N past) xs ys first
    ∙ ap (λ (w : NetworkState). xs ++ taken N w ys) (sym (run-append N (initial_state N) past xs))
    ∙ ap (λ (l : List machine.Event). xs ++ l) second

wrote_both : (N : Network) (names : Names) (past : List machine.Event) (x y z : Option (List ℕ)) (a b c : ℕ)
    → (first : Wrote N names past x y a b)
    → Wrote N names (past ++ map (placed names) first.events) y z b c
    → Wrote N names past x z a c
wrote_both N names past x y z a b c first second =
    let xs = map (placed names) first.events in
    let ys = map (placed names) second.events in
    let all : map (placed names) (first.events ++ second.events) ≡ xs ++ ys = map-append (placed names) first.events second.events in
    record {
      events = first.events ++ second.events;
      written = subst (Appends x z) (sym (event_lines-append first.events second.events))
          (Appends-trans x y z (event_lines first.events) (event_lines second.events) first.written second.written);
      happened = subst (λ es. taken N (state_after N past) es ≡ es) (sym all) (both-taken N past xs ys first.happened second.happened);
      counted = omega (arith, first.counted, second.counted, length-append first.events second.events);
    }

went_both : (N : Network) (names : Names) (past : List machine.Event) (xs ys : List Event) (middle last : World) (x y z : Option (List ℕ)) (a b c : ℕ)
    → (first : WentOn N names past xs middle x y a b)
    → WentOn N names (past ++ map (placed names) first.wrote.events) ys last y z b c
    → WentOn N names past (xs ++ ys) last x z a c
unfolding wrote_both
went_both N names past xs ys middle last x y z a b c first second = record {
  wrote = wrote_both N names past x y z a b c first.wrote second.wrote;
  stands = subst (λ es. StandsAfter N es (running last)) (past_both names past first.wrote.events second.wrote.events) second.stands;
  asks = asked_both N names past xs ys first.wrote.events second.wrote.events first.asks second.asks;
}

pub goes_both : (xs ys : List Event) (old middle last : World) (x y z : Option (List ℕ)) (a b c : ℕ)
    → Goes xs old middle x y a b
    → Goes ys middle last y z b c
    → Goes (xs ++ ys) old last x z a c
goes_both xs ys old middle last x y z a b c first second = record {
  same = record {
    names = second.same.names ∙ first.same.names;
    network = λ N is. second.same.network N (first.same.network N is);
  };
  goes = λ N past is at.
      let it = first.goes N past is at in
      let rest = second.goes N (past ++ map (placed (names_in old)) it.wrote.events) (first.same.network N is) it.stands in
      went_both N (names_in old) past xs ys middle last x y z a b c it
      (subst (λ n. WentOn N n (past ++ map (placed (names_in old)) it.wrote.events) ys last y z b c) first.same.names rest);
}

-- and then nothing that a session is asked for
pub goes_on : (xs : List Event) (old middle last : World) (x y z : Option (List ℕ)) (a b c : ℕ)
    → Goes xs old middle x y a b
    → Goes [] middle last y z b c
    → Goes xs old last x z a c
goes_on xs old middle last x y z a b c first second =
    subst (λ (es : List Event). Goes es old last x z a c) (append-nil xs) (goes_both xs [] old middle last x y z a b c first second)

-- ---- ends

-- an error from outside, after all that happened
pub stops : (asked : List Event) (old new : World) (before after : Option (List ℕ)) (had has : ℕ) (e : ScriptError)
    → is_outside e ≡ true
    → e ≢ faults.ReadFault
    → Goes asked old new before after had has
    → HasStopped old before after had has e
stops asked old new before after had has e out unread goes = record {
  own = λ inside. outside e out inside;
  unread = unread;
  wrote = λ other N past is at. (goes.goes N past is at).wrote;
}

pub no_memory : (asked : List Event) (old new : World) (before after : Option (List ℕ)) (had has : ℕ)
    → Goes asked old new before after had has
    → HasStopped old before after had has faults.OutOfMemory
no_memory asked old new before after had has goes = stops asked old new before after had has faults.OutOfMemory refl (λ h. cc) goes

pub too_many : (w : World) (told : Option (List ℕ)) (count : ℕ)
    → 2000000 ≤ count
    → HasStopped w told told count count faults.TooManyLines
too_many w told count full = record {
  own = λ inside. (refl, full);
  unread = λ h. cc;
  wrote = λ other N past is at. wrote_nothing N (names_in w) past told count;
}

pub no_write : (w : World) (before after : Option (List ℕ)) (had has : ℕ)
    → HasStopped w before after had has faults.WriteFault
no_write w before after had has = record {
  own = λ inside. outside faults.WriteFault refl inside;
  unread = λ h. cc;
  wrote = λ other. absurd (other refl);
}

pub stopped_then : (asked : List Event) (old middle : World) (x y z : Option (List ℕ)) (a b c : ℕ) (e : ScriptError)
    → Goes asked old middle x y a b
    → HasStopped middle y z b c e
    → HasStopped old x z a c e
stopped_then asked old middle x y z a b c e first second = record {
  own = second.own;
  unread = second.unread;
  wrote = λ other N past is at.
      let it = first.goes N past is at in
      let rest = second.wrote other N (past ++ map (placed (names_in old)) it.wrote.events) (first.same.network N is) it.stands in
      wrote_both N (names_in old) past x y z a b c it.wrote
      (subst (λ n. Wrote N n (past ++ map (placed (names_in old)) it.wrote.events) y z b c) first.same.names rest);
}

-- an error that `?` hands on
pub went_err : {A : Type 0} (r : Result A ScriptError) (e : ScriptError) (asked : List Event) (old new : World) (before after : Option (List ℕ)) (had has : ℕ)
    → IsErrAnd r (λ x. x ≡ e)
    → HasStopped old before after had has e
    → Went r asked old new before after had has
went_err (Ok done) e asked old new before after had has given h = absurd given
went_err (Err x) e asked old new before after had has given h = subst (HasStopped old before after had has) (sym given) h

pub went_then : {A : Type 0} (result : Result A ScriptError) (xs ys : List Event) (old middle last : World) (x y z : Option (List ℕ)) (a b c : ℕ)
    → Goes xs old middle x y a b
    → Went result ys middle last y z b c
    → Went result (xs ++ ys) old last x z a c
went_then (Ok done) xs ys old middle last x y z a b c first second = goes_both xs ys old middle last x y z a b c first second
went_then (Err e) xs ys old middle last x y z a b c first second = stopped_then xs old middle x y z a b c e first second

-- one line more asks for its event
pub asked_more : (lines : List EventLine) (i : ℕ) (line : EventLine)
    → line ≡ get_or lines i line
    → i < length lines
    → asked_in (take i lines) ++ asked_by line.event ≡ asked_in (take (i + 1) lines)
asked_more lines i line is below =
    sym
    (ap asked_in (take_more lines i line below ∙ ap (λ l. take i lines ++ l ∷ []) (sym is))
    ∙ flat_map-append (λ (l : EventLine). asked_by l.event) (take i lines) (line ∷ [])
    ∙ ap (λ es. asked_in (take i lines) ++ es) (append-nil (asked_by line.event)))

-- all that was asked so far is all that is asked
pub went_on : {A : Type 0} (result : Result A ScriptError) (xs all : List Event) (old middle last : World) (x y z : Option (List ℕ)) (a b c : ℕ)
    → xs ≡ all
    → Goes xs old middle x y a b
    → Went result [] middle last y z b c
    → Went result all old last x z a c
went_on result xs all old middle last x y z a b c is first second =
    subst (λ (es : List Event). Went result es old last x z a c) (append-nil xs ∙ is) (went_then result xs [] old middle last x y z a b c first second)

-- ---- the whole

pub scheduled : (text : List ℕ) (n : NetworkValue) (asked : List Event) (start last : World) (a b c d : Option (List ℕ)) (had has : ℕ)
    → network_of text ≡ Ok n
    → IsOf (described n) start
    → StandsAfter (described n) [] (running start)
    → names_in start ≡ names_of n
    → Appends a b (text ++ codes "%%" ++ 10 ∷ [])
    → Goes asked start last b c had has
    → Keeps c d
    → IsScheduled a d
scheduled text n asked start last a b c d had has of is at names head went kept =
    let N = described n in
    let it : WentOn N (names_of n) [] asked last b c had has = subst (λ m. WentOn N m [] asked last b c had has) names (went.goes N [] is at) in
    let whole = Appends-trans a b c (text ++ codes "%%" ++ 10 ∷ []) (event_lines it.wrote.events) head it.wrote.written in
    record {
      text = text;
      network = n;
      of_text = of;
      events = it.wrote.events;
      written = Appends-kept a c d ((text ++ codes "%%" ++ 10 ∷ []) ++ event_lines it.wrote.events) whole kept;
      happen = record { taken = it.wrote.happened; in_time = it.stands.promised.in_time };
    }
