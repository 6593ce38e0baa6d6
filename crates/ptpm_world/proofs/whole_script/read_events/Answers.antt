use Rattle.ptpm_world.proofs.Common.{◌≡◌, ◌+◌, List, [], ◌∷◌, arith, refl, true, false, None, Some, Ok, Err, ap, sym, ◌∙◌, append-nil, IfSome, reading, left_in, placed, is_outside, is_skipped, after, event_line, read_as}
use Rattle.ptpm_world.specs.Lines.{latest_line}
use Rattle.ptpm_world.specs.declared.script_error.ScriptError.TheVariants as faults
use Rattle.ptpm_world.specs.declared.whole_script.EventLine.{EventLine}
use Rattle.ptpm_world.specs.WholeScript.{EndsWith}
use Rattle.ptpm_world.proofs.FaultLemmas.{err-on, outside}
use Rattle.ptpm_world.proofs.Playing.{at-event, at-line, at-size, event-read, event-skip, next-is, none-is, others_played, play-guards, playing}
use Rattle.ptpm_world.proofs.Reading.{adds-none, reads-end, reads-fault, reads-first, reads-more}
use Rattle.ptpm_world.proofs.whole_script.read_events.Goals as goal

pub loop-events-init : goal.loop-events-init
loop-events-init g c = grind (arith, reads-first)

pub loop-events-preserved-then-is_skipped : goal.loop-events-preserved-then-is_skipped
loop-events-preserved-then-is_skipped g c =
    let R = g.R.Read.remaining in
    let line = latest_line c.read.new.self in
    let h = c.loop-events.invariant in
    let place = c.loop-events.number + 1 in
    let counted = c.in_ok-read.ensures.count (ap Ok c.if-branch.true) in
    let skip : is_skipped line ≡ true = ap is_skipped (sym c.in_ok-line.ensures.text) ∙ sym c.is_skipped.ensures ∙ c.if-is_skipped.true in
    let came = next-is (c.loop-events.script.count + 1) c.read.new.self.count None (left_in R c.loop-events.script) (left_in R c.read.new.self) _ line
    c.if-branch.true c.in_ok-read.ensures.whole counted c.in_ok-line.ensures.none in
    record {
      few = omega (arith, h.few, counted);
      reads = reads-more [] (Ok None) h.reads came (event-skip place line skip) (adds-none place) (sym (append-nil c.loop-events.events.items))
          (ap (λ k. k + 1) counted);
    }

pub loop-events-preserved : goal.loop-events-preserved
loop-events-preserved g c =
    let R = g.R.Read.remaining in
    let line = latest_line c.read.new.self in
    let h = c.loop-events.invariant in
    let place = c.loop-events.number + 1 in
    let event = c.in_ok-event.event in
    let added : List EventLine = record { number = place; event = event } ∷ [] in
    let counted = c.in_ok-read.ensures.count (ap Ok c.if-branch.true) in
    let take : is_skipped line ≡ false = ap is_skipped (sym c.in_ok-line.ensures.text) ∙ sym c.is_skipped.ensures ∙ c.if-is_skipped.false in
    let read = sym (ap (λ l. read_as place (reading l)) c.in_ok-line.ensures.text) ∙ c.in_ok-event.ensures.event in
    let came = next-is (c.loop-events.script.count + 1) c.read.new.self.count None (left_in R c.loop-events.script) (left_in R c.read.new.self) _ line
    c.if-branch.true c.in_ok-read.ensures.whole counted c.in_ok-line.ensures.none in
    record {
      few = omega (arith, h.few, counted);
      reads = reads-more added (Ok (Some event)) h.reads came (event-read place line (Ok (Some event)) take read)
          (λ N names now. (after N now (placed names event), (event_line N names now place event, λ others. refl)))
          c.in_ok-keep_event.ensures
          (ap (λ k. k + 1) counted);
    }

pub returns-clause-events : goal.returns-clause-events
returns-clause-events g c =
    let R = g.R.Read.remaining in
    reads-end c.loop-events.invariant.reads
    (none-is (c.loop-events.script.count + 1) (left_in R c.loop-events.script) (left_in R c.read.new.self) _ (latest_line c.read.new.self) c.if-branch.false c.in_ok-read.ensures.whole)

pub returns-in_err-read-clause-fault : goal.returns-in_err-read-clause-fault
returns-in_err-read-clause-fault g c =
    let R = g.R.Read.remaining in
    let p = c.loop-events.number + 1 in
    let e = c.in_err-read.field-0.0 in
    err-on c.from_residual.result e
    (λ e. is_outside e ≡ false → IfSome (left_in R c.args.script.now) (λ octets. EndsWith (c.args.script.now.count + 1) octets e))
    c.from_residual.ensures.1
    (λ inside. reads-fault (left_in R c.args.script.now) (left_in R c.loop-events.script) e c.loop-events.invariant.reads
    (λ N names now. at-size (playing N names now p) (others_played N names now p) (c.loop-events.script.count + 1) (left_in R c.loop-events.script) e
    (play-guards N names now p) (c.in_err-read.ensures.fault inside)))

pub returns-in_err-line-clause-fault : goal.returns-in_err-line-clause-fault
returns-in_err-line-clause-fault g c =
    let R = g.R.Read.remaining in
    let n = c.loop-events.script.count + 1 in
    let p = c.loop-events.number + 1 in
    let e = c.in_err-line.field-0.0 in
    let line = latest_line c.read.new.self in
    let had = left_in R c.loop-events.script in
    let has = left_in R c.read.new.self in
    let came = next-is n c.read.new.self.count (Some e) had has _ line c.if-branch.true c.in_ok-read.ensures.whole
    (c.in_ok-read.ensures.count (ap Ok c.if-branch.true)) c.in_err-line.ensures.fault in
    err-on c.from_residual-in_err-line.result e
    (λ e. is_outside e ≡ false → IfSome (left_in R c.args.script.now) (λ octets. EndsWith (c.args.script.now.count + 1) octets e))
    c.from_residual-in_err-line.ensures.1
    (λ inside. reads-fault (left_in R c.args.script.now) had e c.loop-events.invariant.reads
    (λ N names now. at-line (playing N names now p) (others_played N names now p) n line had has e (play-guards N names now p) came))

pub returns-in_err-event-clause-fault : goal.returns-in_err-event-clause-fault
returns-in_err-event-clause-fault g c =
    let R = g.R.Read.remaining in
    let n = c.loop-events.script.count + 1 in
    let p = c.loop-events.number + 1 in
    let e = c.in_err-event.field-0.0 in
    let line = latest_line c.read.new.self in
    let had = left_in R c.loop-events.script in
    let take : is_skipped line ≡ false = ap is_skipped (sym c.in_ok-line.ensures.text) ∙ sym c.is_skipped.ensures ∙ c.if-is_skipped.false in
    let came = next-is n c.read.new.self.count None had (left_in R c.read.new.self) _ line c.if-branch.true c.in_ok-read.ensures.whole
    (c.in_ok-read.ensures.count (ap Ok c.if-branch.true)) c.in_ok-line.ensures.none in
    err-on c.from_residual-in_err-event.result e
    (λ e. is_outside e ≡ false → IfSome (left_in R c.args.script.now) (λ octets. EndsWith (c.args.script.now.count + 1) octets e))
    c.from_residual-in_err-event.ensures.1
    (λ inside. reads-fault (left_in R c.args.script.now) had e c.loop-events.invariant.reads
    (λ N names now. at-event N names now p e came
    (event-read p line (Err e) take (ap (λ l. read_as p (reading l)) (sym c.in_ok-line.ensures.text) ∙ c.in_err-event.ensures.fault inside))))

pub returns-in_err-keep_event-clause-fault : goal.returns-in_err-keep_event-clause-fault
returns-in_err-keep_event-clause-fault g c =
    let R = g.R.Read.remaining in
    err-on c.from_residual-in_err-keep_event.result faults.OutOfMemory
    (λ e. is_outside e ≡ false → IfSome (left_in R c.args.script.now) (λ octets. EndsWith (c.args.script.now.count + 1) octets e))
    c.from_residual-in_err-keep_event.ensures.1
    (λ inside. outside faults.OutOfMemory refl inside)
