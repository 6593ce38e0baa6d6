use Rattle.std.proofs.Common.{◌<◌, ◌∙◌, List, ap, arith, length, refl, subst, sym}
use Rattle.std.proofs.lemmas.List.{length-map}
use Rattle.ptpm_data.specs.Reply.{Answer, answer_of}
use Rattle.ptpm_table.specs.Entries.{is_known}
use Rattle.ptpm_table.specs.Lending.{IsKeepable}
use Rattle.ptpm_table.specs.Managers.{Clock}
use Rattle.ptpm_saved.specs.EntryReading.{entry_read}
use Rattle.ptpm_saved.specs.Image.{EntryIsSound}
use Rattle.ptpm_saved.specs.Restoring.{kept_by}
use Rattle.ptpm_saved.proofs.EntryOrder.{Pair}
use Rattle.ptpm_saved.proofs.RestoringLemmas.{all_kept, gone_on, in_front, keep_on, none_kept, one_of, one_small}
use Rattle.ptpm_saved.proofs.restoring.keep_entries.Goals as goal

pub loop-place-init : goal.loop-place-init
loop-place-init g c = record {
  owner = refl;
  most = refl;
  sets = refl;
  room = refl;
  small = omega arith;
  so_far = λ es entries size is.
      none_kept (g.T.ReplyTable.owner c.args.agent.now.table).managers es c.args.entries.now.octets.now
      (g.T.ReplyTable.entries c.args.agent.now.table) is;
}

pub unreachable-requires : goal.unreachable-requires
unreachable-requires g c =
    let r = c.requires.entries in
    let so_far = c.loop-place.invariant.so_far r.0 r.1 r.2 r.3 in
    let inside : c.loop-place._place < length r.0 = omega (arith, c.loop-place-test.true, r.2) in
    let f = in_front c.args.room.now.most r.0 c.loop-place._place c.loop-place.octets.now r.1 inside so_far.rest_is in
    c.in_default.ensures.found f.entry _ (subst (λ n. EntryIsSound n f.entry) (sym c.loop-place.invariant.room) f.sound) f.octets_are

pub keep-lost-requires-clause-keepable : goal.keep-lost-requires-clause-keepable
keep-lost-requires-clause-keepable g c =
    subst (λ (l : List Answer). IsKeepable (entry_read c.in-Some.entry l).1) (sym c.as_slice.ensures) c.in-Some.ensures.keepable.keepable

pub keep-lost-requires-clause-room : goal.keep-lost-requires-clause-room
keep-lost-requires-clause-room g c =
    omega (
      arith,
      ap length c.as_slice.ensures,
      length-map c.as_slice.result.now answer_of,
      c.in-Some.ensures.keepable.few,
      c.loop-place.invariant.room,
      c.loop-place.invariant.most,
      c.requires.room,
    )

pub overflow_add-gone : goal.overflow_add-gone
overflow_add-gone g c =
    let small = c.loop-place.invariant.small in
    let lost = one_small (is_known c.in-Some.entry.manager (g.T.ReplyTable.owner c.loop-place.agent.table).managers) in
    omega (arith, small, lost, c.keep-lost.ensures.gone, c.loop-place-test.true)

pub loop-place-preserved : goal.loop-place-preserved
loop-place-preserved g c =
    let e : Pair = entry_read c.in-Some.entry c.read_entry.new.room.answers in
    let lost = one_small (is_known c.in-Some.entry.manager (g.T.ReplyTable.owner c.loop-place.agent.table).managers) in
    record {
      owner = c.keep-lost.ensures.owner ∙ c.loop-place.invariant.owner;
      most = c.keep-lost.ensures.most ∙ c.loop-place.invariant.most;
      sets = c.keep-lost.ensures.sets ∙ c.loop-place.invariant.sets;
      room = c.in-Some.ensures.most ∙ c.loop-place.invariant.room;
      small = omega (arith, c.loop-place.invariant.small, lost, c.keep-lost.ensures.gone);
      so_far = λ es entries size is.
          let inside : c.loop-place._place < length es = omega (arith, c.loop-place-test.true, size) in
          keep_on c.args.room.now.most (g.T.ReplyTable.owner c.args.agent.now.table).managers es c.loop-place._place c.loop-place.octets.now c.in-Some.rest.now
          (g.T.ReplyTable.entries c.args.agent.now.table) (g.T.ReplyTable.entries c.loop-place.agent.table)
          (g.T.ReplyTable.entries c.keep-lost.new.agent.table) c.loop-place.gone _ e (c.loop-place.invariant.so_far es entries size is) entries inside
          (λ d rest sound front. c.in-Some.ensures.found d rest (subst (λ n. EntryIsSound n d) (sym c.loop-place.invariant.room) sound) front)
          (c.keep-lost.ensures.entries
          ∙ ap (λ (l : List Answer). kept_by (is_known c.in-Some.entry.manager (g.T.ReplyTable.owner c.loop-place.agent.table).managers)
          (g.T.ReplyTable.entries c.loop-place.agent.table) (entry_read c.in-Some.entry l)) c.as_slice.ensures
          ∙ ap (λ (k : Clock). kept_by (is_known e.0 k.managers) (g.T.ReplyTable.entries c.loop-place.agent.table) e) c.loop-place.invariant.owner)
          (gone_on (is_known e.0 (g.T.ReplyTable.owner c.args.agent.now.table).managers) c.loop-place.gone c.keep-lost.result
          (c.keep-lost.ensures.gone ∙ ap (λ (k : Clock). one_of (is_known e.0 k.managers)) c.loop-place.invariant.owner));
    }

pub returns-clause-kept : goal.returns-clause-kept
returns-clause-kept g c = λ es entries size is.
    all_kept (g.T.ReplyTable.owner c.args.agent.now.table).managers es c.loop-place._place c.loop-place.octets.now
    (g.T.ReplyTable.entries c.args.agent.now.table) (g.T.ReplyTable.entries c.loop-place.agent.table) c.loop-place.gone
    (c.loop-place.invariant.so_far es entries size is)
    (omega (arith, c.loop-place-test.false, c.loop-place.auto._place-end, size))
