use Rattle.ptpm_world.proofs.Common.{◌≡◌, ℕ, List, map, take, StandsAfter, AreInTime, run, Network, initial_state, names_in, placed, IsOf, running, Leads}
use Rattle.ptpm_network.specs.ByManager.{Account, StaysInTime, account_from}
use Rattle.ptpm_network.specs.Events as machine
use Rattle.ptpm_network.specs.Served.{IsServedSoFar}
use Rattle.ptpm_world.proofs.Following.{HasGoneOn}
use Rattle.ptpm_world.proofs.world.World.run.Given as goal

-- the events so far happened, and led the machine the same way if none was late, and served whose messages came in time
abbrev pub invariant-loop-place : goal.invariant-loop-place
invariant-loop-place l = record {
  names : names_in l.self ≡ names_in l.fn.self;
  network : (N : Network) → IsOf N l.fn.self → IsOf N l.self;
  leads : (N : Network)
      → IsOf N l.fn.self
      → Leads N (running l.fn.self) (map (placed (names_in l.fn.self)) (take l.place l.events))
      (running l.self);
  stands : (N : Network) (past : List machine.Event)
      → IsOf N l.fn.self
      → StandsAfter N past (running l.fn.self)
      → AreInTime N (run N (initial_state N) past)
      (map (placed (names_in l.fn.self)) (take l.place l.events))
      → HasGoneOn N past (map (placed (names_in l.fn.self)) (take l.place l.events))
      (running l.self);
  served : (N : Network) (s : ℕ) (a : Account)
      → IsOf N l.fn.self
      → IsServedSoFar N s (running l.fn.self) a
      → StaysInTime N s (running l.fn.self)
      (map (placed (names_in l.fn.self)) (take l.place l.events))
      → IsServedSoFar N s (running l.self)
      (account_from N s (running l.fn.self) a
      (map (placed (names_in l.fn.self)) (take l.place l.events)));
}
