use Rattle.std.proofs.Common.{◌≡◌, ◌<◌, ◌∙◌, All, List, Option, Some, ap, arith, get_or, length, refl, subst, sym, take, true}
use Rattle.std.proofs.lemmas.List.{take_all}
use Rattle.std.proofs.lemmas.List.Elements.{All-more, All-nil}
use Rattle.std.proofs.lemmas.Option.{get_or_from_slice_get}
use Rattle.std.specs.FinMap.{entries, len-entries}
use Rattle.ptpm_codec.specs.declared.identity.PortIdentity.{PortIdentity}
use Rattle.ptpm_data.specs.declared.ports.TheConstants.{PORTS}
use Rattle.ptpm_table.specs.Entries.{is_known}
use Rattle.ptpm_table.specs.Lending.{HasNoneAfter}
use Rattle.ptpm_saved.specs.Image.{EntryIsSound}
use Rattle.ptpm_saved.proofs.EntryOrder.{Pair, none_next, sorted_entries}
use Rattle.ptpm_saved.proofs.ImageLemmas.{lent, reply_few}
use Rattle.ptpm_saved.proofs.laws.entries_law.Goals as goal

pub loop-place-init : goal.loop-place-init
loop-place-init g c = record {
  sound = All-nil (EntryIsSound PORTS);
  known = All-nil (λ (e : Pair). is_known e.0 (g.T.ReplyTable.owner c.args.table.now).managers ≡ true);
  after = refl;
}

pub unreachable-requires : goal.unreachable-requires
unreachable-requires g c =
    let m = g.T.ReplyTable.entries c.args.table.now in
    let inside : c.loop-place._place < length (entries m) = omega (arith, c.loop-place-test.true, c.entry_count-place-end.ensures.count, len-entries m) in
    none_next m c.loop-place._place inside (subst (λ (o : Option PortIdentity). HasNoneAfter m o) c.loop-place.invariant.after c.in_default.ensures.next)

pub loop-place-preserved : goal.loop-place-preserved
loop-place-preserved g c =
    let m = g.T.ReplyTable.entries c.args.table.now in
    let es = entries m in
    let i = c.loop-place._place in
    let x = c.in-Some.entry in
    let e : Pair = (x.manager, x.entry) in
    let inside : i < length es = omega (arith, c.loop-place-test.true, c.entry_count-place-end.ensures.count, len-entries m) in
    let l = lent m i c.loop-place.after x c.loop-place.invariant.after inside c.in-Some.ensures.next in
    let at : get_or es i e ≡ e = get_or_from_slice_get es i e e l.there in
    let is_one_known : Pair → Type 0 = λ p. is_known p.0 (g.T.ReplyTable.owner c.args.table.now).managers ≡ true in
    record {
      sound = All-more (EntryIsSound PORTS) es i e inside c.loop-place.invariant.sound
          (subst (EntryIsSound PORTS) (sym at) (record { keepable = c.in-Some.ensures.keepable; few = reply_few x.entry.request x.entry.reply c.in-Some.ensures.keepable.fits; fits = c.in-Some.ensures.fits }));
      known = All-more is_one_known es i e inside c.loop-place.invariant.known (subst is_one_known (sym at) c.in-Some.ensures.known);
      after = ap Some c.manager.ensures ∙ l.after;
    }

pub returns-clause-entries : goal.returns-clause-entries
returns-clause-entries g c =
    let m = g.T.ReplyTable.entries c.args.table.now in
    let end : c.loop-place._place ≡ length (entries m) = omega (arith, c.loop-place-test.false, c.loop-place.auto._place-end, c.entry_count-place-end.ensures.count, len-entries m) in
    let all : take c.loop-place._place (entries m) ≡ entries m = ap (λ n. take n (entries m)) end ∙ take_all (length (entries m)) (entries m) (omega arith) in
    record {
      few = omega (arith, c.entry_count-place-end.ensures.few, c.entry_count-place-end.ensures.count, len-entries m);
      ascending = sorted_entries m;
      sound = subst (All (EntryIsSound PORTS)) all c.loop-place.invariant.sound;
    }

pub returns-clause-known : goal.returns-clause-known
returns-clause-known g c =
    let m = g.T.ReplyTable.entries c.args.table.now in
    let end : c.loop-place._place ≡ length (entries m) = omega (arith, c.loop-place-test.false, c.loop-place.auto._place-end, c.entry_count-place-end.ensures.count, len-entries m) in
    let all : take c.loop-place._place (entries m) ≡ entries m = ap (λ n. take n (entries m)) end ∙ take_all (length (entries m)) (entries m) (omega arith) in
    subst (λ (es : List Pair). All (λ e. is_known e.0 (g.T.ReplyTable.owner c.args.table.now).managers ≡ true) es) all c.loop-place.invariant.known
