use Rattle.std.proofs.Common.{◌∙◌, List, ℕ, ap, arith, length, refl, subst, sym}
use Rattle.std.proofs.lemmas.Bool.{false≢true}
use Rattle.std.specs.Prelude.{◌==◌}
use Rattle.ptpm_saved.specs.EntryReading.{entry_read}
use Rattle.ptpm_saved.specs.Image.{EntryIsSound}
use Rattle.ptpm_saved.proofs.RestoringLemmas.{cut_short, empty_of, found_whole, none_read, out_of_order, read_on, read_whole}
use Rattle.ptpm_saved.proofs.restoring.judge_entries.Goals as goal

pub loop-place-init : goal.loop-place-init
loop-place-init c = record { so_far = none_read c.args.room.now.most c.args.entries.now.octets.now c.args.entries.now.count; most = refl }

pub returns-in_default-clause-found : goal.returns-in_default-clause-found
returns-in_default-clause-found c = λ es entries size is.
    absurd (cut_short c.args.room.now.most c.args.entries.now.octets.now c.args.entries.now.count c.loop-place._place c.loop-place.octets.now c.loop-place.after
    c.loop-place.invariant.so_far c.loop-place-test.true
    (λ e rest sound front. c.in_default.ensures.found e rest (subst (λ n. EntryIsSound n e) (sym c.loop-place.invariant.most) sound) front)
    es entries size is)

pub returns-then-not-comes_after-clause-found : goal.returns-then-not-comes_after-clause-found
returns-then-not-comes_after-clause-found c = λ es entries size is.
    absurd (out_of_order c.args.room.now.most c.args.entries.now.octets.now c.args.entries.now.count c.loop-place._place c.loop-place.octets.now c.loop-place.after
    (entry_read c.in-Some.entry c.read_entry.new.room.answers) c.in-Some.rest.now
    c.loop-place.invariant.so_far c.loop-place-test.true
    (λ e rest sound front. c.in-Some.ensures.found e rest (subst (λ n. EntryIsSound n e) (sym c.loop-place.invariant.most) sound) front)
    (λ after. false≢true (sym c.if-not-comes_after.true ∙ c.comes_after.ensures.1 after)) es entries size is)

pub loop-place-preserved : goal.loop-place-preserved
loop-place-preserved c =
    let e = entry_read c.in-Some.entry c.read_entry.new.room.answers in
    record {
      so_far = read_on c.args.room.now.most c.args.entries.now.octets.now c.args.entries.now.count c.loop-place._place c.loop-place.octets.now c.in-Some.rest.now
          c.loop-place.after e c.loop-place.invariant.so_far c.loop-place-test.true c.in-Some.ensures.sound
          (subst (λ n. EntryIsSound n e) c.loop-place.invariant.most c.in-Some.ensures.keepable)
          (λ d rest sound front. c.in-Some.ensures.found d rest (subst (λ n. EntryIsSound n d) (sym c.loop-place.invariant.most) sound) front)
          (c.comes_after.ensures.0 c.if-not-comes_after.false);
      most = c.in-Some.ensures.most ∙ c.loop-place.invariant.most;
    }

pub returns-clause-sound : goal.returns-clause-sound
returns-clause-sound c = λ empty.
    let w = read_whole c.args.room.now.most c.args.entries.now.octets.now c.args.entries.now.count c.loop-place._place c.loop-place.octets.now c.loop-place.after
    c.loop-place.invariant.so_far (omega (arith, c.loop-place-test.false, c.loop-place.auto._place-end)) (omega (arith, c.if-count-gt-MOST_MANAGERS.false))
    (empty_of c.loop-place.octets.now c.is_empty.result c.is_empty.ensures empty) in
    (w.es, w.entries, w.size, w.octets_are)

pub returns-clause-found : goal.returns-clause-found
returns-clause-found c = λ es entries size is.
    c.is_empty.ensures ∙ ap (λ (l : List ℕ). length l == 0) (found_whole c.args.room.now.most c.args.entries.now.octets.now c.args.entries.now.count
    c.loop-place._place c.loop-place.octets.now c.loop-place.after
    c.loop-place.invariant.so_far (omega (arith, c.loop-place-test.false, c.loop-place.auto._place-end)) es entries size is)
