-- The clock has a row now, and its mark says so.
use Rattle.std.proofs.Common.{◌<◌, length, arith}
use Rattle.ptpm_site.proofs.Rows.{IsGrown-more}
use Rattle.ptpm_site.proofs.tree.builder.add_clock.Goals as goal

pub returns-clause-grown : goal.returns-clause-grown
returns-clause-grown c =
    let room : c.args.place < length c.cover.new.marks.items = omega (arith, c.cover.new.marks.ok.0, c.in_ok-cover.ensures.room) in
    IsGrown-more c.args.marks.now.items c.cover.new.marks.items c.mark.new.marks.items c.args.rows.now.items c.push.new.self.items c.args.place c.args.depth c.requires.grown
    c.in_ok-cover.ensures.same room c.requires.none c.in_ok-push.ensures.items c.mark.ensures
