use Rattle.std.proofs.Common.{◌≡◌, length, take}
use Rattle.ptpm_agent.specs.Agent.{state_of}
use Rattle.ptpm_agent.specs.Laws.{after_each, last_sent}
use Rattle.ptpm_agent.proofs.agent.Agent.handle_each.Given as goal

-- the datagrams so far were handled one after another, by one clock with its ports
abbrev pub invariant-loop-place : goal.invariant-loop-place
invariant-loop-place g l = record {
  clock : g.T.ReplyTable.owner l.self.table ≡ g.T.ReplyTable.owner l.fn.self.table;
  most : g.T.ReplyTable.most l.self.table ≡ g.T.ReplyTable.most l.fn.self.table;
  ports : length l.self.sets.ports ≡ length l.fn.self.sets.ports;
  turned : state_of g.T.ReplyTable.entries l.self
      ≡ after_each (g.T.ReplyTable.owner l.fn.self.table)
      (state_of g.T.ReplyTable.entries l.fn.self) (take l.place l.datagrams);
  sent : l.out
      ≡ last_sent (g.T.ReplyTable.owner l.fn.self.table)
      (state_of g.T.ReplyTable.entries l.fn.self) l.fn.out (take l.place l.datagrams);
}
