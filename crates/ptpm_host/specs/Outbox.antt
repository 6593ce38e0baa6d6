-- Outbox into which messages were written, after those that were there.
use Rattle.std.specs.Prelude.{◌≡◌, ◌≤◌, drop, take}
use Rattle.std.specs.List.{AllZip}
use Rattle.ptpm_host.specs.declared.outbox.Outbox.{Outbox}
use Rattle.ptpm_host.specs.Clock.{KeepsBehind}

-- the messages stay, the places after the last one stay, and what follows each message stays
pub record HasGrown (a b : Outbox) : Type 0 where
  pub same_reference : b.room.ghost_name ≡ a.room.ghost_name
  pub more : a.count ≤ b.count
  pub messages : take a.count b.room.now ≡ take a.count a.room.now
  pub places : drop b.count b.room.now ≡ drop b.count a.room.now
  pub behind : AllZip KeepsBehind a.room.now b.room.now
