use Rattle.ptpm_world.proofs.Common.{◌∙◌, ◌++◌, ap, cond-true, is_ok, length, sym, described, names_of, network_value, placed, running}
use Rattle.std.specs.Prelude.{option_to_list}
use Rattle.ptpm_world.specs.Took.{after, answer}
use Rattle.ptpm_world.specs.Trace.{is_late_event}
use Rattle.ptpm_draw.specs.Picture.{drawn_in}
use Rattle.ptpm_draw.proofs.Pictures.{change-is, event-drawn, row-is, stays}
use Rattle.ptpm_draw.proofs.picture.Picture.play.Goals as goal

pub sets_of-requires-2-clause-world : goal.sets_of-requires-2-clause-world
sets_of-requires-2-clause-world c =
    stays (network_value c.args.network.now) c.args.world.now c.play_event.new.world c.in_ok-row.ensures.network c.in_ok-row.ensures.names c.requires

pub returns-clause-world : goal.returns-clause-world
returns-clause-world c =
    stays (network_value c.args.network.now) c.args.world.now c.play_event.new.world c.in_ok-row.ensures.network c.in_ok-row.ensures.names c.requires

pub returns-clause-goes : goal.returns-clause-goes
returns-clause-goes c =
    let n = network_value c.args.network.now in
    c.in_ok-row.ensures.goes (described n) c.requires.network
    ∙ ap (λ names. after (described n) (running c.args.world.now) (placed names c.args.line.now.event)) c.requires.names

pub returns-clause-drawn : goal.returns-clause-drawn
returns-clause-drawn c =
    let n = network_value c.args.network.now in
    let r = running c.args.world.now in
    let next = running c.play_event.new.world in
    let line = c.args.line.now in
    let row = c.in_ok-row.row in
    let at = c.party_at-at.result in
    let names = c.requires.names in
    let is = c.in_ok-row.ensures in
    event-drawn n r next line at row c.change_of-change.result (drawn_in c.args.self.now) (drawn_in c.keep_change.new.self)
    c.party_at-at.ensures.exact
    (row-is (described n) (names_of n) r at line row is.line is.at is.way
    (is.answer (described n) c.requires.network ∙ ap (λ ns. answer (described n) r (placed ns line.event)) names)
    (is.late ∙ ap (λ ns. is_late_event r (placed ns line.event)) names)
    is.before
    (is.after ∙ ap (λ w. length w.frames) (is.goes (described n) c.requires.network ∙ ap (λ ns. after (described n) r (placed ns line.event)) names)))
    (change-is line.number at r next c.snapshot_of-before.result _ c.change_of-change.result (c.snapshot_of-before.ensures ∙ c.sets_of.ensures.sets) c.sets_of-2.ensures.sets c.change_of-change.ensures)
    (c.in_ok-keep_change.ensures.rows ∙ c.in_ok-keep_messages.ensures.rows ∙ c.push.ensures.items
    ∙ cond-true _ _ _ (sym c.map_err.ensures.variant ∙ ap is_ok c.in_ok-map_err.was))
    (c.in_ok-keep_change.ensures.messages ∙ c.in_ok-keep_messages.ensures.messages)
    (c.in_ok-keep_change.ensures.changes
    ∙ ap (λ cs. cs ++ option_to_list c.change_of-change.result) c.in_ok-keep_messages.ensures.changes)
