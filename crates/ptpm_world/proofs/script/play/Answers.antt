use Rattle.ptpm_world.proofs.Common.{◌≡◌, ◌+◌, List, [], ◌∷◌, arith, refl, true, false, None, Some, Ok, Err, ap, subst, sym, ◌∙◌, Appends, Appends-nil, TakesFirst, reading, left_in, names_in, placed, running, is_skipped, after, event_line, behind, read_as}
use Rattle.ptpm_world.specs.Lines.{latest_line}
use Rattle.ptpm_world.specs.declared.whole_script.EventLine.{EventLine}
use Rattle.ptpm_world.proofs.Playing.{at-event, at-line, at-size, event-read, event-skip, next-is, none-is, others_played, play-guards, playing, plays-cut, plays-end, plays-err, plays-first, plays-kept, plays-more}
use Rattle.ptpm_world.proofs.script.play.Goals as goal

pub loop-number-init : goal.loop-number-init
loop-number-init g c = grind (arith, plays-first)

pub loop-number-preserved-then-is_skipped : goal.loop-number-preserved-then-is_skipped
loop-number-preserved-then-is_skipped g c =
    let R = g.R.Read.remaining in
    let line = latest_line c.read_shown.new.self in
    let h = c.loop-number.invariant in
    let shown = g.W.Write.contents c.read_shown.new.out in
    let counted = c.in_ok-read_shown.ensures.count (ap Ok c.if-branch.true) in
    let skip : is_skipped line ≡ true = ap is_skipped (sym c.in_ok-line.ensures.text) ∙ sym c.is_skipped.ensures ∙ c.if-is_skipped.true in
    let came = next-is (c.loop-number.script.count + 1) c.read_shown.new.self.count None (left_in R c.loop-number.script) (left_in R c.read_shown.new.self) _ line
    c.if-branch.true c.in_ok-read_shown.ensures.whole counted c.in_ok-line.ensures.none in
    record {
      few = omega (arith, h.few, counted);
      names = h.names;
      network = h.network;
      plays = λ N is. plays-more [] [] (Ok None) (plays-kept shown (h.plays N is) c.read_shown.ensures.kept) came
          (event-skip (c.loop-number.number + 1) line skip) (λ others. refl) tt (Appends-nil shown) (ap (λ k. k + 1) counted);
    }

pub loop-number-preserved : goal.loop-number-preserved
loop-number-preserved g c =
    let R = g.R.Read.remaining in
    let line = latest_line c.read_shown.new.self in
    let n = c.loop-number.number + 1 in
    let h = c.loop-number.invariant in
    let called = names_in c.args.world.now in
    let now = running c.loop-number.world in
    let event = c.in_ok-event.event in
    let added : List EventLine = record { number = n; event = event } ∷ [] in
    let shown = g.W.Write.contents c.read_shown.new.out in
    let more = g.W.Write.contents c.write_event.new.out in
    let counted = c.in_ok-read_shown.ensures.count (ap Ok c.if-branch.true) in
    let take : is_skipped line ≡ false = ap is_skipped (sym c.in_ok-line.ensures.text) ∙ sym c.is_skipped.ensures ∙ c.if-is_skipped.false in
    let read = sym (ap (λ l. read_as n (reading l)) c.in_ok-line.ensures.text) ∙ c.in_ok-event.ensures.event in
    let came = next-is (c.loop-number.script.count + 1) c.read_shown.new.self.count None (left_in R c.loop-number.script) (left_in R c.read_shown.new.self) _ line
    c.if-branch.true c.in_ok-read_shown.ensures.whole counted c.in_ok-line.ensures.none in
    record {
      few = omega (arith, h.few, counted);
      names = c.in_ok-write_event.ensures.names ∙ h.names;
      network = λ N is. c.in_ok-write_event.ensures.network N (h.network N is);
      plays = λ N is.
          let went : running c.write_event.new.world ≡ after N now (placed called event) =
          subst (λ m. running c.write_event.new.world ≡ after N now (placed m event)) h.names (c.in_ok-write_event.ensures.after N (h.network N is)) in
          plays-more added (event_line N called now n event) (Ok (Some event)) (plays-kept shown (h.plays N is) c.read_shown.ensures.kept) came
          (event-read n line (Ok (Some event)) take read) (λ others. ap (λ r. behind added (event_line N called now n event) (others r)) (sym went))
          (c.placed_event.ensures called, tt)
          (subst (λ m. Appends shown more (event_line N m now n event)) h.names (c.in_ok-write_event.ensures.line N (h.network N is)))
          (ap (λ k. k + 1) counted);
    }

pub returns-clause-played : goal.returns-clause-played
returns-clause-played g c = λ N is.
    let R = g.R.Read.remaining in
    plays-end (plays-kept (g.W.Write.contents c.read_shown.new.out) (c.loop-number.invariant.plays N is) c.read_shown.ensures.kept)
    (none-is (c.loop-number.script.count + 1) (left_in R c.loop-number.script) (left_in R c.read_shown.new.self) _ (latest_line c.read_shown.new.self) c.if-branch.false c.in_ok-read_shown.ensures.whole)

-- an error before the next line is written
pub returns-in_err-read_shown-clause-played : goal.returns-in_err-read_shown-clause-played
returns-in_err-read_shown-clause-played g c = λ N is.
    let called = names_in c.args.world.now in
    let now = running c.loop-number.world in
    let p = c.loop-number.number + 1 in
    let shown = g.W.Write.contents c.read_shown.new.out in
    plays-err c.from_residual.result c.in_err-read_shown.field-0.0 _ c.from_residual.ensures.1 (plays-kept shown (c.loop-number.invariant.plays N is) c.read_shown.ensures.kept)
    (λ inside. at-size (playing N called now p) (others_played N called now p) (c.loop-number.script.count + 1) (left_in g.R.Read.remaining c.loop-number.script)
    c.in_err-read_shown.field-0.0 (play-guards N called now p) (c.in_err-read_shown.ensures.fault inside))

pub returns-in_err-line-clause-played : goal.returns-in_err-line-clause-played
returns-in_err-line-clause-played g c = λ N is.
    let R = g.R.Read.remaining in
    let called = names_in c.args.world.now in
    let now = running c.loop-number.world in
    let n = c.loop-number.script.count + 1 in
    let p = c.loop-number.number + 1 in
    let e = c.in_err-line.field-0.0 in
    let line = latest_line c.read_shown.new.self in
    let had = left_in R c.loop-number.script in
    let has = left_in R c.read_shown.new.self in
    let shown = g.W.Write.contents c.read_shown.new.out in
    let came = next-is n c.read_shown.new.self.count (Some e) had has _ line c.if-branch.true c.in_ok-read_shown.ensures.whole
    (c.in_ok-read_shown.ensures.count (ap Ok c.if-branch.true)) c.in_err-line.ensures.fault in
    plays-err c.from_residual-in_err-line.result e _ c.from_residual-in_err-line.ensures.1 (plays-kept shown (c.loop-number.invariant.plays N is) c.read_shown.ensures.kept)
    (λ inside. at-line (playing N called now p) (others_played N called now p) n line had has e (play-guards N called now p) came)

pub returns-in_err-event-clause-played : goal.returns-in_err-event-clause-played
returns-in_err-event-clause-played g c = λ N is.
    let R = g.R.Read.remaining in
    let n = c.loop-number.script.count + 1 in
    let p = c.loop-number.number + 1 in
    let e = c.in_err-event.field-0.0 in
    let line = latest_line c.read_shown.new.self in
    let shown = g.W.Write.contents c.read_shown.new.out in
    let take : is_skipped line ≡ false = ap is_skipped (sym c.in_ok-line.ensures.text) ∙ sym c.is_skipped.ensures ∙ c.if-is_skipped.false in
    let came = next-is n c.read_shown.new.self.count None (left_in R c.loop-number.script) (left_in R c.read_shown.new.self) _ line c.if-branch.true c.in_ok-read_shown.ensures.whole
    (c.in_ok-read_shown.ensures.count (ap Ok c.if-branch.true)) c.in_ok-line.ensures.none in
    plays-err c.from_residual-in_err-event.result e _ c.from_residual-in_err-event.ensures.1 (plays-kept shown (c.loop-number.invariant.plays N is) c.read_shown.ensures.kept)
    (λ inside. at-event N (names_in c.args.world.now) (running c.loop-number.world) p e came (event-read p line (Err e) take (ap (λ l. read_as p (reading l)) (sym c.in_ok-line.ensures.text) ∙ c.in_err-event.ensures.fault inside)))

-- while its line is
pub returns-in_err-write_event-clause-played : goal.returns-in_err-write_event-clause-played
returns-in_err-write_event-clause-played g c = λ N is.
    let R = g.R.Read.remaining in
    let line = latest_line c.read_shown.new.self in
    let n = c.loop-number.script.count + 1 in
    let p = c.loop-number.number + 1 in
    let h = c.loop-number.invariant in
    let event = c.in_ok-event.event in
    let shown = g.W.Write.contents c.read_shown.new.out in
    let more = g.W.Write.contents c.write_event.new.out in
    let now = running c.loop-number.world in
    let wrote = c.in_err-write_event.ensures.line N (h.network N is) in
    let take : is_skipped line ≡ false = ap is_skipped (sym c.in_ok-line.ensures.text) ∙ sym c.is_skipped.ensures ∙ c.if-is_skipped.false in
    let read = sym (ap (λ l. read_as p (reading l)) c.in_ok-line.ensures.text) ∙ c.in_ok-event.ensures.event in
    let came = next-is n c.read_shown.new.self.count None (left_in R c.loop-number.script) (left_in R c.read_shown.new.self) _ line c.if-branch.true c.in_ok-read_shown.ensures.whole
    (c.in_ok-read_shown.ensures.count (ap Ok c.if-branch.true)) c.in_ok-line.ensures.none in
    plays-cut c.from_residual-in_err-write_event.result c.in_err-write_event.field-0.0 _ more event c.from_residual-in_err-write_event.ensures.1
    (plays-kept shown (h.plays N is) c.read_shown.ensures.kept) came (event-read p line (Ok (Some event)) take read) wrote.0
    (subst (λ m. TakesFirst (event_line N m now p event) shown more) h.names wrote.1)
