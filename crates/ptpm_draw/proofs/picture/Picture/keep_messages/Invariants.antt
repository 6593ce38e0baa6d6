use Rattle.ptpm_world.proofs.Common.{◌≡◌, ◌++◌, drop, map, running}
use Rattle.ptpm_draw.specs.Picture.{message_of}
use Rattle.ptpm_draw.proofs.picture.Picture.keep_messages.Given as goal

-- what is to be kept is what was kept, and after it the messages of the frames from here on
abbrev pub invariant-loop-count : goal.invariant-loop-count
invariant-loop-count l = record {
  messages : l.initial.self.messages.items ++ map (message_of l.row.at) (drop l.row.before (running l.world).frames)
      ≡ l.self.messages.items ++ map (message_of l.row.at) (drop l.count (running l.world).frames);
  rows : l.self.rows.items ≡ l.initial.self.rows.items;
  changes : l.self.changes.items ≡ l.initial.self.changes.items;
}
