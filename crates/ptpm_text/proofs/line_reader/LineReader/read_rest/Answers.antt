use Rattle.std.proofs.Common.{◌≡◌, true, ◌≤◌, ◌∷◌, ap, length, length-append, subst, sym, ◌∙◌, arith, option_map}
use Rattle.std.proofs.lemmas.Bool.{ne_eqb}
use Rattle.std.specs.Io.KnownBytes.{IsAtEnd}
use Rattle.std.specs.Prelude.{IfNone, OnSome}
use Rattle.std.specs.Io.Buffered.{reader_remaining}
use Rattle.std.specs.Io.BufRead.{drop_through}
use Rattle.ptpm_text.specs.Lines.{LeavesLong, ReadsNext, left_of, reader_left}
use Rattle.ptpm_text.proofs.NextLine.{IsRead, NoFeed, end-on, no_feed-more, read-first, read-more, some_there, leaves-long, left-whole, next-end, next-feed}
use Rattle.ptpm_text.proofs.line_reader.LineReader.read_rest.Goals as goal

pub loop-next-init : goal.loop-next-init
loop-next-init g c = grind (arith, read-first, NoFeed, some_there)

pub loop-next-preserved : goal.loop-next-preserved
loop-next-preserved g c = grind (arith, IsRead, length-append, read-more, NoFeed, no_feed-more, ne_eqb, end-on)

pub returns-then-octet-eq10-clause-next : goal.returns-then-octet-eq10-clause-next
returns-then-octet-eq10-clause-next g c =
    let R = g.R.Read.remaining in
    let h = c.loop-next.invariant in
    let before = reader_left R c.args.self.now in
    let now = reader_left R c.loop-next.self in
    let line = c.drop_return.new.self.line.items in
    let read = subst (IsRead before now c.args.first c.loop-next.self.line.items) c.in-Some.is h.read in
    let whole = next-feed before now c.args.first c.in-Some.octet _ line read c.if-octet-eq10.true h.free c.drop_return.ensures.line h.short in
    let left : reader_left R c.drop_return.new.self ≡ now =
    ap (λ cut. left_of cut (reader_remaining R c.drop_return.new.self.reader)) c.drop_return.ensures.cut
    ∙ ap (λ r. left_of c.loop-next.self.is_cut (reader_remaining R r)) c.drop_return.ensures.reader in
    subst (λ o. ReadsNext (option_map (λ octets. c.args.first ∷ octets) before) true line o) (sym left) whole

pub returns-then-len-eq-LINE_OCTETS-clause-long : goal.returns-then-len-eq-LINE_OCTETS-clause-long
returns-then-len-eq-LINE_OCTETS-clause-long g c = λ too_long.
    let R = g.R.Read.remaining in
    let h = c.loop-next.invariant in
    let before = reader_left R c.args.self.now in
    let now = reader_left R c.loop-next.self in
    let line = c.loop-next.self.line.items in
    let long : 4096 ≤ length line = omega (arith, c.if-len-eq-LINE_OCTETS.true, c.len.ensures) in
    let read = subst (IsRead before now c.args.first line) c.in-Some.is h.read in
    let leaves = leaves-long before now c.args.first c.in-Some.octet line read (ne_eqb _ _ c.if-octet-eq10.false) h.free long in
    subst (λ known. LeavesLong (option_map (λ octets. c.args.first ∷ octets) before) (option_map (drop_through 10) known))
    (left-whole c.loop-next.self.is_cut (reader_remaining R c.loop-next.self.reader) h.whole) leaves

pub returns-clause-next : goal.returns-clause-next
returns-clause-next g c =
    let R = g.R.Read.remaining in
    let h = c.loop-next.invariant in
    let before = reader_left R c.args.self.now in
    let now = reader_left R c.loop-next.self in
    let line = c.loop-next.self.line.items in
    let read = subst (IsRead before now c.args.first line) c.in_default.is h.read in
    let end = subst (λ o. IfNone o (OnSome before (IsAtEnd now))) c.in_default.is h.at_end in
    next-end before now c.args.first line read end h.free (h.some c.in_default.is) h.short
