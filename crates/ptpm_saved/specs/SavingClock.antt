-- A clock that saves before it answers: the process whose inputs are datagrams, and whose notes are what its host observes.
use Rattle.std.specs.Prelude.{ℕ, Bool, true, false, List, map}
use Rattle.ptpm_data.specs.ObservationBack.{Observation, clock_observation, port_observation}
use Rattle.ptpm_data.specs.Members.{DataSetsValue, IsConsistent}
use Rattle.ptpm_table.specs.Managers.{Clock}
use Rattle.ptpm_agent.specs.declared.verdict.Verdict.{Verdict}
use Rattle.ptpm_agent.specs.declared.verdict.Verdict.TheVariants as verdicts
use Rattle.ptpm_agent.specs.Observing.{moved_state}
use Rattle.ptpm_agent.specs.Turn.{State, outbox_of, turn}
use Rattle.ptpm_saved.specs.Saving.{Process}

-- a datagram, and the port that it comes in at
abbrev pub Datagram : Type 0
Datagram = ℕ × List ℕ

abbrev pub is_new : Verdict → Bool
is_new verdicts.AnsweredNew = true
is_new _ = false

-- the observation that leaves all that a host may observe as it is
abbrev pub as_observed : DataSetsValue → Observation
as_observed d = record { clock = clock_observation d; ports = map port_observation d.ports }

-- a turn has to be saved if its verdict is AnsweredNew
abbrev pub clock_process : Clock → Process State Datagram Observation (ℕ × List ℕ)
clock_process c = record {
  after = λ s x. (turn c s x.0 x.1).next;
  messages = λ s x. outbox_of (turn c s x.0 x.1);
  changes = λ s x. is_new (turn c s x.0 x.1).verdict;
  noted = λ s o. moved_state o.clock o.ports s;
  back = λ s. as_observed s.sets;
}

-- what the data sets of every agent satisfy
abbrev pub CanBe : State → Type 0
CanBe s = IsConsistent s.sets
