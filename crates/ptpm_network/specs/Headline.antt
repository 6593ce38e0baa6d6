-- What a network promises, on one page. It may lose, repeat, reorder or duplicate messages in any way, and anybody may replay
-- them anywhere. Let none arrive after more than 32,768 later requests of its manager. Then each clock's data sets are those
-- after its managers' delivered requests, each applied once in order of first acceptance. Repeats of the latest request get the
-- one reply that is kept, and repeats of older ones get none. Each manager reports those replies. Strangers and refused SETs
-- change no data set.
use Rattle.std.specs.Prelude.{◌≡◌, ℕ, ◌+◌, ◌<◌, ◌≤◌, List, ◌++◌, length, map, None}
use Rattle.std.specs.List.{AllByRecursion}
use Rattle.ptpm_agent.specs.Laws.{due_messages}
use Rattle.ptpm_agent.specs.Once.{Delivery, RequestCopy, applied_once, due_reply, greatest, initial_history}
use Rattle.ptpm_manager.specs.declared.report.Report.{Report}
use Rattle.ptpm_network.specs.Copies.{IsCopyAt, IsKeptFor, IsRefusedAt}
use Rattle.ptpm_network.specs.Events.{Deliver, Event, IsInRange, Stranger}
use Rattle.ptpm_network.specs.Machine.{AreInTime, arrives, happens, reply_frames, reply_origin, step}
use Rattle.ptpm_network.specs.Network.{IsNetwork, Network, manager}
use Rattle.ptpm_network.specs.RunningNetwork.{RunningNetwork, held}
use Rattle.ptpm_network.specs.State.{Frame, NetworkState, accepted_at_target, copies_at, greatest_accepted, history, initial_state, issued, outcomes_kept}

-- The premises: the network is as `IsNetwork` says, as each is that a file describes. Each event is one that a program can hand in:
-- a managementId has 16 bits, an octet eight. And no frame is delivered late, that is, after its session has begun over 32,768
-- requests more than the one that the frame belongs to.
pub record IsPromised (N : Network) (events : List Event) : Type 0 where
  pub network : IsNetwork N
  pub in_range : AllByRecursion IsInRange events
  pub in_time : AreInTime N (initial_state N) events

-- The promise, of the running network r, while the machine is in the state w.
pub record Headline (N : Network) (w : NetworkState) (r : RunningNetwork) : Type 0 where
  -- A clock's data sets are those that it started with, after the requests that were accepted among the copies that came in at
  -- it. Each of these is applied once, in order of first acceptance.
  pub sets : (c : ℕ) → c < N.clocks → (r.clock c).sets
      ≡ (applied_once (N.clock c) (initial_history (N.start c)) (copies_at N w c)).sets
  -- Its frames are the machine's, in which the delivery of a copy makes frames of the reply that is due to it, and no others.
  pub frames : r.frames ≡ map held w.frames
  pub delivered : (n c port : ℕ) (f : Frame) (copy : RequestCopy) → IsCopyAt N w n c port f copy
      → (happens N w (Deliver n)).frames ≡ w.frames ++ reply_frames N c (reply_origin f.origin)
      (due_messages (N.clock c) copy (due_reply (N.clock c) (history N w c) copy))
  -- The reply that was kept for the latest accepted request of a manager is due to each copy of it. To a copy of an older one
  -- no reply is due.
  pub latest : (n c port : ℕ) (f : Frame) (copy : RequestCopy) → IsCopyAt N w n c port f copy
      → greatest copy.heard.source (history N w c).accepted ≡ copy.index → IsKeptFor (N.clock c) (history N w c) copy
  pub older : (c : ℕ) (copy : RequestCopy) → copy.index < greatest copy.heard.source (history N w c).accepted
      → due_reply (N.clock c) (history N w c) copy ≡ None
  -- A manager is due the outcomes of the replies kept for its requests, in order. Its reports are the first of these.
  pub reports : (s : ℕ) → s < N.sessions → (rest : List Report)
      × (outcomes_kept (manager N s) (accepted_at_target N w s) (greatest_accepted N w s) ≡ r.reports s ++ rest)
  -- No more is reported than its clock accepted, no more is accepted than it began, and at most one is begun and not reported.
  pub reported : (s : ℕ) → s < N.sessions → length (r.reports s) ≤ greatest_accepted N w s
  pub accepted : (s : ℕ) → s < N.sessions → greatest_accepted N w s ≤ issued w s
  pub begun : (s : ℕ) → s < N.sessions → issued w s ≤ length (r.reports s) + 1
  -- A stranger changes neither a data set nor what was accepted. A request that is refused, such as a SET without the right,
  -- changes no data set.
  pub strangers : (c port d : ℕ) (datagram : List ℕ) → IsInRange (Stranger c port datagram)
      → history N (step N w (Stranger c port datagram)) d ≡ history N w d
  pub refused : (c : ℕ) (x : Delivery) → IsRefusedAt N w c x → (history N (arrives w c x) c).sets ≡ (history N w c).sets
