use Rattle.ptpm_world.proofs.Common.{◌≡◌, ℕ, ◌-◌, ◌++◌, All, List, take, flat_map, posted_by, AreLinks, IsOfSession, IsStoredFrame, HasRoom, held_in, link_ends, origin_of}
use Rattle.ptpm_table.specs.declared.outbox.TheConstants.{OUTBOX_MESSAGES}
use Rattle.ptpm_table.specs.Outbox.{sent}
use Rattle.ptpm_world.proofs.stepping.post_turn.Given as goal

-- the messages so far were posted, and there is room for the others
abbrev pub invariant-loop-port : goal.invariant-loop-port
invariant-loop-port l = record {
  room : HasRoom (OUTBOX_MESSAGES - l.port-index) l.frames;
  frames : held_in l.frames ≡ held_in l.fn.frames
      ++ flat_map (posted_by (link_ends l.links) l.place l.ingress (origin_of l.origin) (origin_of l.reply)) (sent (take l.port-index l.entries));
  stored : (counts : List ℕ) (sessions : ℕ)
      → All (IsStoredFrame counts sessions) l.fn.frames.stored.items
      → AreLinks counts sessions l.links
      → IsOfSession sessions l.origin
      → All (IsStoredFrame counts sessions) l.frames.stored.items;
}
