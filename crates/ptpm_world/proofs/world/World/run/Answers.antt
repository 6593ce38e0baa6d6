use Rattle.ptpm_world.proofs.Common.{◌≡◌, ◌++◌, ◌<◌, ◌∙◌, ap, arith, length, map, option_map, refl, subst, sym, take, take_all, same_Some, slice_get_read, slice_get, Some, List, refusal, RunningNetwork, StandsAfter, AreInTime, run, taken, initial_state, Names, names_in, placed, running, Leads, answer, error_of}
use Rattle.ptpm_network.specs.ByManager.{StaysInTime, account_from}
use Rattle.ptpm_network.specs.Events as machine
use Rattle.ptpm_network.specs.Served.{IsServedSoFar}
use Rattle.ptpm_network.proofs.Promise.{stands-headline}
use Rattle.ptpm_script.specs.declared.event.Event.{Event}
use Rattle.ptpm_world.specs.declared.took.StepError.TheVariants as errors
use Rattle.ptpm_world.proofs.Following.{leads-carried, HasGoneOn, gone_on-more, gone_on-none, taken-stops, served-more, leads-more}
use Rattle.ptpm_world.proofs.Ending.{err_is, step-went}
use Rattle.ptpm_world.proofs.Changing.{map_more, map_split}
use Rattle.ptpm_world.proofs.world.World.run.Goals as goal
use Rattle.ptpm_world.proofs.world.World.run.Goals.{In-Err}

-- the event where it stops
stops_at : (c : In-Err) (event : Event) → slice_get c.args.events.now c.loop-place.place ≡ Some event → c.index-events-place.result ≡ event
stops_at c event at = grind (arith, same_Some, slice_get_read)

pub returns-in-Err-clause-run : goal.returns-in-Err-clause-run
returns-in-Err-clause-run c = λ N is.
    let now = c.loop-place.self in
    let h = c.loop-place.invariant in
    let step = c.in-Err.ensures.step N (h.network N is) in
    record {
      goes = subst (Leads N (running c.args.self.now) (map (placed (names_in c.args.self.now)) (take c.loop-place.place c.args.events.now))) (sym c.in-Err.ensures.unchanged) (h.leads N is);
      refuses = λ other event at.
          ap (λ (r : RunningNetwork). answer N r (placed (names_in c.args.self.now) event)) c.in-Err.ensures.unchanged
          ∙ ap (λ (e : Event). answer N (running now) (placed (names_in c.args.self.now) e)) (sym (stops_at (goal.at.returns-in-Err-clause-run c).In-Err event at))
          ∙ ap (λ (n : Names). answer N (running now) (placed n c.index-events-place.result)) (sym h.names)
          ∙ sym (step.answers (λ o. other (err_is _ errors.OutOfMemory o)));
      network = step.network;
    }

pub returns-in-Err-clause-machine : goal.returns-in-Err-clause-machine
returns-in-Err-clause-machine c = λ N past is at time.
    let first = names_in c.args.self.now in
    let item = c.index-events-place.result in
    let h = c.loop-place.invariant in
    let events = map (placed first) (take c.loop-place.place c.args.events.now) in
    let within : c.loop-place.place < length c.args.events.now = omega arith in
    let gone = h.stands N past is at time in
    let stands = subst (λ (r : RunningNetwork). StandsAfter N (past ++ events) r) (sym c.in-Err.ensures.unchanged) gone.stands in
    let step = c.in-Err.ensures.machine N (past ++ events) (h.network N is) gone.stands in
    let renamed = ap (λ (n : Names). option_map error_of (refusal N (run N (initial_state N) (past ++ events)) (placed n item))) (sym h.names) in
    record {
      stands = stands;
      headline = stands-headline N (past ++ events) _ stands;
      taken = λ other.
          ap (taken N (run N (initial_state N) past)) (map_split (placed first) c.args.events.now c.loop-place.place item within c.index-events-place.is)
          ∙ taken-stops error_of _ N past events _ (placed first item) (running c.loop-place.self) gone (renamed ∙ step.reason other);
      reason = λ other event here.
          ap (λ (e : Event). option_map error_of (refusal N (run N (initial_state N) (past ++ events)) (placed first e))) (sym (stops_at (goal.at.returns-in-Err-clause-machine c).In-Err event here))
          ∙ renamed ∙ step.reason other;
    }

pub loop-place-init : goal.loop-place-init
loop-place-init c = record {
  names = refl;
  network = λ N is. is;
  leads = λ N is. refl;
  stands = λ N past is at time. gone_on-none N past (running c.args.self.now) at;
  served = λ N s a is at time. at;
}

pub loop-place-preserved : goal.loop-place-preserved
loop-place-preserved c =
    let first = names_in c.args.self.now in
    let now = c.loop-place.self in
    let h = c.loop-place.invariant in
    let item = c.index-events-place.result in
    let events = map (placed first) (take c.loop-place.place c.args.events.now) in
    let within : c.loop-place.place < length c.args.events.now = omega arith in
    let more = map_more (placed first) c.args.events.now c.loop-place.place item within c.index-events-place.is in
    record {
      names = c.in_default.ensures.names ∙ h.names;
      network = λ N is. (c.in_default.ensures.step N (h.network N is)).network;
      stands = λ N past is at.
          subst (λ (es : List machine.Event). AreInTime N (run N (initial_state N) past) es → HasGoneOn N past es (running c.step.new.self)) (sym more)
          (gone_on-more N past events (running now) (running c.step.new.self) (placed first item) (placed (names_in now) item)
          (ap (λ (n : Names). placed n item) h.names)
          (h.stands N past is at)
          (λ gone so_far. (c.in_default.ensures.machine N gone (h.network N is) so_far).taken)
          (λ gone so_far prompt. (c.in_default.ensures.machine N gone (h.network N is) so_far).stands prompt));
      leads = λ N is.
          subst (λ (es : List machine.Event). Leads N (running c.args.self.now) es (running c.step.new.self)) (sym more)
          (leads-more N (running c.args.self.now) (running now) (running c.step.new.self) events (placed first item) (placed (names_in now) item)
          (h.leads N is) (ap (λ (n : Names). placed n item) h.names)
          (step-went N now c.step.new.self (placed (names_in now) item) _ (c.in_default.ensures.step N (h.network N is))));
      served = λ N s a is at.
          subst (λ (es : List machine.Event). StaysInTime N s (running c.args.self.now) es → IsServedSoFar N s (running c.step.new.self) (account_from N s (running c.args.self.now) a es)) (sym more)
          (served-more N s (running c.args.self.now) (running now) (running c.step.new.self) a events (placed first item) (placed (names_in now) item)
          (ap (λ (n : Names). placed n item) h.names)
          (h.leads N is)
          (step-went N now c.step.new.self (placed (names_in now) item) _ (c.in_default.ensures.step N (h.network N is)))
          (h.served N s a is at)
          (λ b so_far prompt. c.in_default.ensures.served N s b (h.network N is) so_far prompt));
    }

pub returns-clause-run : goal.returns-clause-run
returns-clause-run c = λ N is.
    let first = names_in c.args.self.now in
    let h = c.loop-place.invariant in
    let whole = take_all c.loop-place.place c.args.events.now (omega arith) in
    record {
      goes = subst (λ (es : List Event). Leads N (running c.args.self.now) (map (placed first) es) (running c.loop-place.self)) whole (h.leads N is);
      refuses = tt;
      network = h.network N is;
    }

pub returns-clause-machine : goal.returns-clause-machine
returns-clause-machine c = λ N past is at time.
    let first = names_in c.args.self.now in
    let whole = take_all c.loop-place.place c.args.events.now (omega arith) in
    let gone = subst (λ (es : List Event). AreInTime N (run N (initial_state N) past) (map (placed first) es) → HasGoneOn N past (map (placed first) es) (running c.loop-place.self)) whole
    (c.loop-place.invariant.stands N past is at) time in
    record { stands = gone.stands; headline = stands-headline N _ _ gone.stands; taken = λ other. gone.whole; reason = tt }

pub returns-clause-carried : goal.returns-clause-carried
returns-clause-carried c = λ N clock is.
    leads-carried N (running c.args.self.now) _ clock _ (returns-clause-run c N is).goes

pub returns-in-Err-clause-carried : goal.returns-in-Err-clause-carried
returns-in-Err-clause-carried c = λ N clock is.
    leads-carried N (running c.args.self.now) _ clock _ (returns-in-Err-clause-run c N is).goes

pub returns-clause-served : goal.returns-clause-served
returns-clause-served c = grind (arith, take_all)

pub returns-in-Err-clause-served : goal.returns-in-Err-clause-served
returns-in-Err-clause-served c = λ N s a is at time.
    subst (λ (r : RunningNetwork). IsServedSoFar N s r (account_from N s (running c.args.self.now) a (map (placed (names_in c.args.self.now)) (take c.loop-place.place c.args.events.now)))) (sym c.in-Err.ensures.unchanged)
    (c.loop-place.invariant.served N s a is at time)
