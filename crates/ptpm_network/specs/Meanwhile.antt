-- A request that is answered along a way while other things happen: what these leave as it was, and what comes in meanwhile.
use Rattle.std.specs.Prelude.{◌≡◌, ℕ, ◌+◌, ◌*◌, ◌==◌, ◌&&◌, ◌||◌, ◌<◌, ◌≤◌, Bool, false, List, [], ◌∷◌, ◌++◌, length, Option, Some, None}
use Rattle.std.specs.List.{AllByRecursion}
use Rattle.ptpm_data.specs.Members.{may_forward}
use Rattle.ptpm_agent.specs.Once.{RequestCopy, copy_of}
use Rattle.ptpm_network.specs.Events.{Begin, Deliver, Event, IsInRange, Retune, Send, frame_at, frames_limit, refusal}
use Rattle.ptpm_network.specs.Exchange.{HasReported}
use Rattle.ptpm_network.specs.Machine.{delivery, is_answer, run}
use Rattle.ptpm_network.specs.Network.{AtPort, AtSession, End, Network, ports, same_end}
use Rattle.ptpm_network.specs.State.{Frame, NetworkState, history, is_idle}
use Rattle.ptpm_network.specs.Way.{ComesIn, Hop, IsWay, made_each_way, passed_at_most, visited}

-- Between the states w and u a way of a session is left as it was. The session has begun nothing, heard no answer and is in
-- its domain still. What was a way is one still. If there was room for this many frames, there still is.
pub record LeavesWay (N : Network) (w u : NetworkState) (s : ℕ) (hops : List Hop) (port frames : ℕ) : Type 0 where
  pub begun : (u.session s).begun ≡ (w.session s).begun
  pub reports : (u.session s).reports ≡ (w.session s).reports
  pub domain : (u.session s).domain ≡ (w.session s).domain
  pub way : IsWay N w s hops port → IsWay N u s hops port
  pub room : length w.frames + frames ≤ frames_limit → length u.frames + frames ≤ frames_limit

-- The events `past` began in the state w. After them frames come in at these ends one after another, and at last a session has
-- reported its request. Before each of these frames other events may happen, if they leave the way open. They also leave room
-- for the frames that are still to be made at the ends after it.
abbrev pub ComeInMeanwhile : Network → NetworkState → ℕ → List Hop → ℕ → ℕ → List Event → List End → Type 0
ComeInMeanwhile N w s hops port ends past [] = HasReported w (run N w past) s
ComeInMeanwhile N w s hops port ends past (e ∷ es) = (others : List Event) → AllByRecursion IsInRange others
    → LeavesWay N (run N w past) (run N w (past ++ others)) s hops port (passed_at_most ends * length es)
    → (number : ℕ) × ComesIn N (run N w (past ++ others)) number e
    × ComeInMeanwhile N w s hops port ends ((past ++ others) ++ Deliver number ∷ []) es

-- A session waits for a report and may send once more, and a way leads to its target. There is room for the frames of one copy
-- each way, if no link has more than this many ends.
pub record IsReady (N : Network) (w : NetworkState) (s : ℕ) (hops : List Hop) (port ends : ℕ) : Type 0 where
  pub busy : is_idle (w.session s) ≡ false
  pub attempts : 0 < (w.session s).attempts_left
  pub way : IsWay N w s hops port
  pub room : length w.frames + made_each_way ends hops ≤ frames_limit

-- The unanswered request of a session can be answered over these clocks, whatever else happens meanwhile. The session sends it,
-- and one copy each way comes in at the ends of the way and at last at the session. Then the request is reported.
pub record IsAnswerableMeanwhile (N : Network) (w : NetworkState) (s : ℕ) (hops : List Hop) (port ends : ℕ) : Type 0 where
  pub sent : refusal N w (Send s) ≡ None
  pub come_in : ComeInMeanwhile N w s hops port ends (Send s ∷ [])
      (visited hops (AtPort (N.session s).target port) ++ AtSession s ∷ [])

-- ---- what leaves a way

-- a clock is in its domain still, and forwards at the same ports
pub record StaysOpen (N : Network) (w u : NetworkState) (c : ℕ) : Type 0 where
  pub domain : (history N u c).sets.default.domain ≡ (history N w c).sets.default.domain
  pub ports : (port : ℕ) → may_forward port (history N u c).sets ≡ may_forward port (history N w c).sets

-- a reply to the session's last request comes in at the session
abbrev pub tells : NetworkState → ℕ → Option Frame → Bool
tells w s None = false
tells w s (Some f) = same_end f.end (AtSession s) && is_answer s (w.session s) f.origin

-- an event by which a session begins a request, is retuned or can hear its answer
abbrev pub concerns : NetworkState → ℕ → Event → Bool
concerns w s (Begin t ask) = t == s
concerns w s (Retune t domain) = t == s
concerns w s (Deliver n) = tells w s (frame_at w.frames n)
concerns w s _ = false

-- it is for DOMAIN or DISABLE_PORT, the two ids by which a clock leaves its domain or forwards no longer at a port
abbrev pub is_closing : Option RequestCopy → Bool
is_closing None = false
is_closing (Some copy) = copy.request.id == 0x2007 || copy.request.id == 0x200e

-- a copy of such a request, of one of its managers, comes in at this clock
abbrev pub closes_at : Network → ℕ → Frame → End → Bool
closes_at N c f (AtPort d port) = d == c && is_closing (copy_of (N.clock d) (ports N d) (delivery port f))
closes_at N c f (AtSession s) = false

abbrev pub closes_by : Network → ℕ → Option Frame → Bool
closes_by N c None = false
closes_by N c (Some f) = closes_at N c f f.end

-- an event by which a clock may close
abbrev pub may_close : Network → NetworkState → ℕ → Event → Bool
may_close N w c (Deliver n) = closes_by N c (frame_at w.frames n)
may_close N w c _ = false
