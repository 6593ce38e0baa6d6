-- What a report is worth: how often its request was carried out, and what the clock answered then.
use Rattle.std.specs.Prelude.{◌≡◌, ℕ, ◌-◌, ◌==◌, ◌&&◌, true, List, [], ◌∷◌, ◌++◌, slice_get, Some}
use Rattle.std.specs.List.{filter}
use Rattle.ptpm_codec.specs.declared.identity.PortIdentity.{PortIdentity}
use Rattle.ptpm_codec.specs.Identity.{same_identity}
use Rattle.ptpm_data.specs.Members.{DataSetsValue}
use Rattle.ptpm_data.specs.Reply.{Answer}
use Rattle.ptpm_table.specs.Rendering.{answer_body}
use Rattle.ptpm_agent.specs.Once.{Accepted, RequestCopy, accepted_from, applied_once, initial_history, joins}
use Rattle.ptpm_agent.specs.Turn.{Clock}
use Rattle.ptpm_manager.specs.declared.report.Report.{Report}
use Rattle.ptpm_manager.specs.Report.{outcome_in}
use Rattle.ptpm_network.specs.Network.{Network, manager}
use Rattle.ptpm_network.specs.State.{NetworkState, accepted_at_target, copies_at}

-- what was accepted as request k of a manager: one entry for each time that it was carried out
abbrev pub entries_of : PortIdentity → ℕ → List Accepted → List Accepted
entries_of m k accepted = filter (λ a. same_identity m a.manager && a.index == k) accepted

-- The moment at which a clock carried a request out. Some copies came in before; one was accepted then; and some came in
-- after it. The request is the copy's, and the reply is made from the data sets as they were then.
pub record WasCarriedOut (c : Clock) (start : DataSetsValue) (copies : List RequestCopy)
    (entry : Accepted) : Type 0 where
  pub before : List RequestCopy
  pub copy : RequestCopy
  pub later : List RequestCopy
  pub came_in : copies ≡ before ++ copy ∷ later
  pub joined : joins (applied_once c (initial_history start) before) copy ≡ true
  pub is : entry ≡ accepted_from c (applied_once c (initial_history start) before) copy

-- A report of a session is worth this. The request that the session began under the report's index was carried out exactly
-- once at the session's target. The outcome is the one answer that the clock gave to it then.
pub record IsWorth (N : Network) (w : NetworkState) (s : ℕ) (report : Report) : Type 0 where
  pub entry : Accepted
  pub once : entries_of (manager N s) report.index (accepted_at_target N w s) ≡ entry ∷ []
  pub begun_as : slice_get (w.session s).begun (report.index - 1) ≡ Some entry.request
  pub carried_out : WasCarriedOut (N.clock (N.session s).target) (N.start (N.session s).target)
      (copies_at N w (N.session s).target) entry
  pub answer : Answer
  pub one : entry.reply.answers ≡ answer ∷ []
  pub outcome : report.outcome
      ≡ outcome_in (answer_body entry.reply.action entry.reply.id answer.outcome)
