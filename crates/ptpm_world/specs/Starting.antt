-- A world as it starts: each clock and session as its file describes it, and nothing done yet.
use Rattle.std.specs.Prelude.{◌≡◌, ℕ, List, [], Some, length, slice_get}
use Rattle.ptpm_agent.specs.Laws.{initial_clock_state}
use Rattle.ptpm_manager.specs.Session as manager
use Rattle.ptpm_script.specs.NetworkValue.{NetworkValue, first_sets}
use Rattle.ptpm_world.specs.declared.running_clock.RunningClock.{RunningClock}
use Rattle.ptpm_world.specs.declared.world.RunningSession.{RunningSession}
use Rattle.ptpm_world.specs.Described.{clock_at, described_clock, described_session, session_at}
use Rattle.ptpm_world.specs.Running.{agent_clock, agent_state}

-- a clock with the data sets that it starts with and its configured managers, that has kept nothing
pub record IsStartedClock (n : NetworkValue) (c : ℕ) (x : RunningClock) : Type 0 where
  pub name : x.name ≡ (clock_at n c).name
  pub clock : agent_clock x.agent ≡ described_clock n c
  pub state : agent_state x.agent ≡ initial_clock_state (first_sets (clock_at n c))

pub record AreStartedClocks (n : NetworkValue) (clocks : List RunningClock) : Type 0 where
  pub count : length clocks ≡ length n.clocks
  pub each : (c : ℕ) (x : RunningClock) → slice_get clocks c ≡ Some x → IsStartedClock n c x

-- a session that has begun nothing
pub record IsStartedSession (n : NetworkValue) (s : ℕ) (x : RunningSession) : Type 0 where
  pub name : x.name ≡ (session_at n s).name
  pub identity : x.identity ≡ (session_at n s).identity
  pub session : x.session
      ≡ manager.fresh (described_session n (session_at n s)).setup (session_at n s).domain
  pub reports : x.reports.items ≡ []

pub record AreStartedSessions (n : NetworkValue) (sessions : List RunningSession) : Type 0 where
  pub count : length sessions ≡ length n.sessions
  pub each : (s : ℕ) (x : RunningSession) → slice_get sessions s ≡ Some x → IsStartedSession n s x
