-- A schedule of a script that was read.
use Rattle.std.proofs.Common.{◌≡◌, ◌≢◌, ◌≤◌, Bool, inl, inr, ℕ, ◌+◌, ◌==◌, true, false, List, [], ◌∷◌, ◌++◌, Option, None, Some, Err, Result, codes, refl, sym, ap, ◌∙◌, subst, map, string_bytes, IfSome, IsErrAnd, arith, count_by, if◌then◌else◌}
use Rattle.std.proofs.KnownBytes.{Appends-trans, Appends-kept}
use Rattle.std.specs.Io.KnownBytes.{Appends, Keeps}
use Rattle.std.specs.Option.{option_or}
use Rattle.std.specs.Result.{result_err}
use Rattle.ptpm_network.specs.Stands.{StandsAfter}
use Rattle.ptpm_schedule.specs.Going.{Goes, HasStopped, WentOn, Wrote, asked_in}
use Rattle.ptpm_schedule.specs.Scheduled.{AreAsked, HasEnded, HasScheduled, IsBegun, IsScheduleOf, event_lines, fault_in, is_asked, unasked}
use Rattle.ptpm_script.specs.declared.event.Event.{Event}
use Rattle.ptpm_script.specs.NetworkValue.{NetworkValue}
use Rattle.ptpm_script.specs.NetworkView.{network_value}
use Rattle.ptpm_world.proofs.FaultLemmas.{outside}
use Rattle.ptpm_world.proofs.Playing.{err-is, some-is}
use Rattle.ptpm_world.specs.declared.script_error.ScriptError.{ScriptError}
use Rattle.ptpm_world.specs.declared.whole_script.EventLine.{EventLine}
use Rattle.ptpm_world.specs.declared.whole_script.Script.{Script}
use Rattle.ptpm_world.specs.declared.world.World.{World}
use Rattle.ptpm_world.specs.Described.{described}
use Rattle.ptpm_text.specs.Lines.{whole_lines}
use Rattle.ptpm_world.specs.Placed.{Names, names_in, names_of}
use Rattle.ptpm_world.specs.Running.{IsOf, running}
use Rattle.ptpm_world.specs.Script.{network_text, scripted}
use Rattle.ptpm_world.specs.ScriptError.{is_outside}
use Rattle.ptpm_world.specs.WholeScript.{IsRead, IsScript}
use Rattle.ptpm_schedule.proofs.Going.{scheduled}
use Rattle.ptpm_script.specs.declared.event.EventError.TheVariants as words
use Rattle.ptpm_world.specs.declared.script_error.ScriptError.TheVariants as faults
use Rattle.ptpm_schedule.proofs.scheduling.schedule.Goals as goal

keeps-same : (a : Option (List ℕ)) → Keeps a a
keeps-same None = tt
keeps-same (Some xs) = refl

-- ---- the events of a script

asked_step : (b : Bool) (e : Event) (fault : ScriptError) (rest : Option ScriptError)
    → (if b then rest else Some fault) ≡ None
    → (rest ≡ None) × ((if b then e ∷ [] else []) ≡ e ∷ [])
asked_step true e fault rest h = (h, refl)
asked_step false e fault rest h = absurd (cc)

-- a session is asked for each
all_asked : (lines : List EventLine)
    → unasked lines ≡ None
    → asked_in lines ≡ map (λ line. line.event) lines
all_asked [] h = refl
all_asked (line ∷ lines) h =
    let it = asked_step (is_asked line.event) line.event (faults.BadLine line.number words.UnknownWord) (unasked lines) h in
    ap (λ es. es ++ asked_in lines) it.1 ∙ ap (λ es. line.event ∷ es) (all_asked lines it.0)

-- ---- what is written

-- the network file, the divider, and lines of events that happened
begun : (input : List ℕ) (s : Script) (a b c d : Option (List ℕ)) (had has : ℕ)
    → IsScript input s
    → Appends a b (string_bytes s.text ++ codes "%%" ++ 10 ∷ [])
    → Wrote (described (network_value s.network)) (names_of (network_value s.network)) [] b c had has
    → Keeps c d
    → IsBegun input a d
begun input s a b c d had has is head wrote kept = record {
  network = network_value s.network;
  of_file = is.network;
  events = wrote.events;
  happen = wrote.happened;
  written = Appends-kept a c d ((network_text (whole_lines input) ++ codes "%%" ++ 10 ∷ []) ++ event_lines wrote.events)
      (Appends-trans a b c (network_text (whole_lines input) ++ codes "%%" ++ 10 ∷ []) (event_lines wrote.events)
      (subst (λ (t : List ℕ). Appends a b (t ++ codes "%%" ++ 10 ∷ [])) is.text head) wrote.written)
      kept;
}

whole : (input : List ℕ) (s : Script) (last : World) (a b c d : Option (List ℕ)) (had has : ℕ)
    → IsScript input s
    → unasked s.lines.items ≡ None
    → Appends a b (string_bytes s.text ++ codes "%%" ++ 10 ∷ [])
    → WentOn (described (network_value s.network)) (names_of (network_value s.network)) [] (asked_in s.lines.items) last b c had has
    → Keeps c d
    → IsScheduleOf input a d
unfolding begun
whole input s last a b c d had has is only head it kept = record {
  faultless = ap (λ x. option_or x (unasked (scripted input).events)) is.faultless ∙ sym (ap unasked is.events) ∙ only;
  begun = begun input s a b c d had has is head it.wrote kept;
  in_time = it.stands.promised.in_time;
  asked = subst (λ (es : List Event). AreAsked (described (network_value s.network)) (names_of (network_value s.network)) [] es it.wrote.events)
      (all_asked s.lines.items only ∙ ap (map (λ (line : EventLine). line.event)) is.events) it.asks;
}

whole-read : (all : Option (List ℕ)) (s : Script) (start last : World) (a b c d : Option (List ℕ)) (had has : ℕ)
    → IfSome all (λ input. IsScript input s)
    → unasked s.lines.items ≡ None
    → IsOf (described (network_value s.network)) start
    → StandsAfter (described (network_value s.network)) [] (running start)
    → names_in start ≡ names_of (network_value s.network)
    → Appends a b (string_bytes s.text ++ codes "%%" ++ 10 ∷ [])
    → Goes (asked_in s.lines.items) start last b c had has
    → Keeps c d
    → IfSome all (λ input. IsScheduleOf input a d)
whole-read all s start last a b c d had has h only of at names head went kept =
    let n : NetworkValue = network_value s.network in
    let asked = asked_in s.lines.items in
    some-is all
    (λ input is. whole input s last a b c d had has is only head
    (subst (λ (m : Names). WentOn (described n) m [] asked last b c had has) names (went.goes (described n) [] of at)) kept)
    h

-- ---- ends

-- an error that `?` hands on
ended : {A : Type 0} (r : Result A ScriptError) (e : ScriptError) (all before after : Option (List ℕ))
    → IsErrAnd r (λ x. x ≡ e)
    → IfSome all (λ input. HasEnded input before after e)
    → IfSome all (λ input. HasScheduled input before after r)
ended r e all before after given h = err-is r e (λ x. IfSome all (λ input. HasScheduled input before after x)) given h

-- nothing was written yet
ended_first : (input : List ℕ) (a : Option (List ℕ)) (e : ScriptError)
    → (is_outside e ≡ false → fault_in input ≡ Some e)
    → HasEnded input a a e
ended_first input a e fault = record {
  fault = λ inside. inl (fault inside, keeps-same a);
  unread = λ h. keeps-same a;
  begun = λ h. inl (keeps-same a);
}

ended_unread : (all a : Option (List ℕ)) (e : ScriptError)
    → IfSome all (λ input. IsRead input (Err e))
    → IfSome all (λ input. HasEnded input a a e)
ended_unread all a e h =
    some-is all
    (λ input fault. ended_first input a e (λ inside. ap (λ x. option_or (result_err x) (unasked (scripted input).events)) (fault inside)))
    h

ended_unasked : (all a : Option (List ℕ)) (s : Script) (e : ScriptError)
    → IfSome all (λ input. IsScript input s)
    → Some e ≡ unasked s.lines.items
    → IfSome all (λ input. HasEnded input a a e)
ended_unasked all a s e h found =
    some-is all
    (λ input is. ended_first input a e
    (λ inside. ap (λ x. option_or x (unasked (scripted input).events)) is.faultless ∙ sym (ap unasked is.events) ∙ sym found))
    h

each_known : (all : Option (List ℕ)) (P : List ℕ → Type 0) → ((input : List ℕ) → P input) → IfSome all P
each_known None P h = tt
each_known (Some input) P h = h input

ended_outside : (all a : Option (List ℕ)) (e : ScriptError)
    → is_outside e ≡ true
    → IfSome all (λ input. HasEnded input a a e)
ended_outside all a e out =
    each_known all (λ input. HasEnded input a a e) (λ input. ended_first input a e (λ inside. outside e out inside))

-- writing failed
ended_writing : (all a b : Option (List ℕ)) → IfSome all (λ input. HasEnded input a b faults.WriteFault)
ended_writing all a b =
    each_known all (λ input. HasEnded input a b faults.WriteFault)
    (λ input. record {
      fault = λ inside. outside faults.WriteFault refl inside;
      unread = λ h. absurd (cc);
      begun = λ other. absurd (other refl);
    })

going_ended : (input : List ℕ) (a b c : Option (List ℕ)) (s : Script) (start : World) (had has : ℕ) (e : ScriptError)
    → IsScript input s
    → IsOf (described (network_value s.network)) start
    → StandsAfter (described (network_value s.network)) [] (running start)
    → names_in start ≡ names_of (network_value s.network)
    → Appends a b (string_bytes s.text ++ codes "%%" ++ 10 ∷ [])
    → had ≤ count_by (λ octet. octet == 10) (string_bytes s.text) + 1
    → HasStopped start b c had has e
    → HasEnded input a c e
unfolding begun
going_ended input a b c s start had has e is of at names head few stopped =
    let n : NetworkValue = network_value s.network in
    let wrote : e ≢ faults.WriteFault → Wrote (described n) (names_of n) [] b c had has =
    λ other. subst (λ (m : Names). Wrote (described n) m [] b c had has) names (stopped.wrote other (described n) [] of at) in
    record {
      fault = λ inside.
          let own = stopped.own inside in
          let so_far = wrote (λ writing. outside e (ap is_outside writing) inside) in
          let full : 2000000 ≤ has = own.1 in
          let same : count_by (λ (octet : ℕ). octet == 10) (string_bytes s.text) ≡ count_by (λ (octet : ℕ). octet == 10) (network_text (whole_lines input)) =
          ap (count_by (λ (octet : ℕ). octet == 10)) is.text in
          inr (
            own.0,
            record {
              begun = begun input s a b c c had has is head so_far (keeps-same c);
              full = omega (arith, full, so_far.counted, few, same);
            },
          );
      unread = λ h. absurd (stopped.unread h);
      begun = λ other. inr (begun input s a b c c had has is head (wrote other) (keeps-same c));
    }

-- it ended among the events
ended_going : (all a b c : Option (List ℕ)) (s : Script) (start : World) (had has : ℕ) (e : ScriptError)
    → IfSome all (λ input. IsScript input s)
    → IsOf (described (network_value s.network)) start
    → StandsAfter (described (network_value s.network)) [] (running start)
    → names_in start ≡ names_of (network_value s.network)
    → Appends a b (string_bytes s.text ++ codes "%%" ++ 10 ∷ [])
    → had ≤ count_by (λ octet. octet == 10) (string_bytes s.text) + 1
    → HasStopped start b c had has e
    → IfSome all (λ input. HasEnded input a c e)
ended_going all a b c s start had has e h of at names head few stopped =
    some-is all (λ input is. going_ended input a b c s start had has e is of at names head few stopped) h

pub returns-clause-scheduled : goal.returns-clause-scheduled
returns-clause-scheduled g c =
    let W = g.W.Write.contents in
    let script = c.in_ok-script.script in
    scheduled (string_bytes script.text) (network_value script.network) _ c.in_ok-world.world c.play.new.world (W c.args.out.now) (W c.write_network.new.out)
    (W c.play.new.out) (W c.flush.new.self) _ _ c.in_ok-script.ensures.network c.in_ok-world.ensures.network c.in_ok-world.ensures.after c.in_ok-world.ensures.names
    (subst (λ (t : List ℕ). Appends (W c.args.out.now) (W c.write_network.new.out) (t ++ codes "%%" ++ 10 ∷ [])) c.as_str.ensures.value c.in_ok-lines.ensures.written) c.in_ok-play.ensures c.flush.ensures.bytes

pub returns-clause-read : goal.returns-clause-read
returns-clause-read g c =
    let W = g.W.Write.contents in
    let script = c.in_ok-script.script in
    whole-read (g.R.Read.remaining c.args.reader) script c.in_ok-world.world c.play.new.world (W c.args.out.now) (W c.write_network.new.out)
    (W c.play.new.out) (W c.flush.new.self) _ _ c.in_ok-script.ensures.read (sym (c.in_ok-judge.ensures ∙ ap unasked c.as_slice.ensures.value)) c.in_ok-world.ensures.network c.in_ok-world.ensures.after
    c.in_ok-world.ensures.names
    (subst (λ (t : List ℕ). Appends (W c.args.out.now) (W c.write_network.new.out) (t ++ codes "%%" ++ 10 ∷ [])) c.as_str.ensures.value c.in_ok-lines.ensures.written)
    (subst (λ (ls : List EventLine). Goes (asked_in ls) c.in_ok-world.world c.play.new.world (W c.write_network.new.out) (W c.play.new.out)
    c.new-traffic.result.lines c.play.new.traffic.lines) c.as_slice-2.ensures.value c.in_ok-play.ensures)
    c.flush.ensures.bytes

pub returns-in_err-script-clause-read : goal.returns-in_err-script-clause-read
returns-in_err-script-clause-read g c =
    let all = g.R.Read.remaining c.args.reader in
    let a = g.W.Write.contents c.args.out.now in
    let e = c.in_err-script.field-0.0 in
    ended c.from_residual.result e all a a c.from_residual.ensures.1 (ended_unread all a e c.in_err-script.ensures.read)

pub returns-in_err-judge-clause-read : goal.returns-in_err-judge-clause-read
returns-in_err-judge-clause-read g c =
    let all = g.R.Read.remaining c.args.reader in
    let a = g.W.Write.contents c.args.out.now in
    let e = c.in_err-judge.field-0.0 in
    ended c.from_residual-in_err-judge.result e all a a c.from_residual-in_err-judge.ensures.1
    (ended_unasked all a c.in_ok-script.script e c.in_ok-script.ensures.read (c.in_err-judge.ensures ∙ ap unasked c.as_slice.ensures.value))

pub returns-in_err-world-clause-read : goal.returns-in_err-world-clause-read
returns-in_err-world-clause-read g c =
    let all = g.R.Read.remaining c.args.reader in
    let a = g.W.Write.contents c.args.out.now in
    ended c.from_residual-in_err-world.result faults.OutOfMemory all a a c.from_residual-in_err-world.ensures.1 (ended_outside all a faults.OutOfMemory refl)

pub returns-in_err-lines-clause-read : goal.returns-in_err-lines-clause-read
returns-in_err-lines-clause-read g c =
    let all = g.R.Read.remaining c.args.reader in
    let W = g.W.Write.contents in
    ended c.from_residual-in_err-lines.result faults.WriteFault all (W c.args.out.now) (W c.write_network.new.out) c.from_residual-in_err-lines.ensures.1
    (ended_writing all (W c.args.out.now) (W c.write_network.new.out))

pub returns-in_err-play-clause-read : goal.returns-in_err-play-clause-read
returns-in_err-play-clause-read g c =
    let all = g.R.Read.remaining c.args.reader in
    let W = g.W.Write.contents in
    let script = c.in_ok-script.script in
    let e = c.in_err-play.field-0.0 in
    let same : count_by (λ (octet : ℕ). octet == 10) c.as_str.result.now ≡ count_by (λ (octet : ℕ). octet == 10) (string_bytes script.text) =
    ap (count_by (λ (octet : ℕ). octet == 10)) c.as_str.ensures.value in
    let few : c.new-traffic.result.lines ≤ count_by (λ (octet : ℕ). octet == 10) (string_bytes script.text) + 1 =
    omega (arith, c.new-traffic.ensures, c.in_ok-lines.ensures.counted, same) in
    ended c.from_residual-in_err-play.result e all (W c.args.out.now) (W c.play.new.out) c.from_residual-in_err-play.ensures.1
    (ended_going all (W c.args.out.now) (W c.write_network.new.out) (W c.play.new.out) script c.in_ok-world.world c.new-traffic.result.lines c.play.new.traffic.lines e
    c.in_ok-script.ensures.read c.in_ok-world.ensures.network c.in_ok-world.ensures.after c.in_ok-world.ensures.names
    (subst (λ (t : List ℕ). Appends (W c.args.out.now) (W c.write_network.new.out) (t ++ codes "%%" ++ 10 ∷ [])) c.as_str.ensures.value c.in_ok-lines.ensures.written)
    few c.in_err-play.ensures)

pub returns-in_err-flush-clause-read : goal.returns-in_err-flush-clause-read
returns-in_err-flush-clause-read g c =
    let all = g.R.Read.remaining c.args.reader in
    let W = g.W.Write.contents in
    ended c.from_residual-in_err-flush.result faults.WriteFault all (W c.args.out.now) (W c.flush.new.self) c.from_residual-in_err-flush.ensures.1
    (ended_writing all (W c.args.out.now) (W c.flush.new.self))
