-- How a request is answered: what one copy of it does at the session's target, and one copy of the reply at the session.
use Rattle.std.specs.Prelude.{◌≡◌, ℕ, ◌-◌, ◌≤◌, true, List, [], ◌∷◌, ◌++◌, length, slice_get, Some, ◌⊎◌}
use Rattle.ptpm_codec.specs.Layout.{boundary_hops, domain_number}
use Rattle.ptpm_data.specs.Request.{RequestValue}
use Rattle.ptpm_manager.specs.declared.report.Report.{Report}
use Rattle.ptpm_network.specs.DataSets.{IsForOne}
use Rattle.ptpm_network.specs.Events.{frames_limit}
use Rattle.ptpm_network.specs.Network.{AtPort, Network, peers, ports}
use Rattle.ptpm_network.specs.State.{NetworkState, ReplyTo, greatest_accepted, history, is_idle, issued, new_frames}

-- one more event that makes frames is not refused for their number
abbrev pub HasRoom : NetworkState → Type 0
HasRoom w = length w.frames ≤ frames_limit

-- the last of a session's requests, if its id is of a port, is for a port that the session's target has
abbrev pub LastIsForOne : Network → ℕ → List RequestValue → Type 0
LastIsForOne N s begun = (q : RequestValue) → slice_get begun (length begun - 1) ≡ Some q
    → IsForOne (ports N (N.session s).target) q

-- A session's target hears a copy of the session's last request. The copy is in the clock's domain, or the clock has accepted
-- that request already, so that it is a repeat.
abbrev pub IsHeardBy : Network → NetworkState → ℕ → List ℕ → Type 0
IsHeardBy N w s octets =
    (domain_number octets ≡ (history N w (N.session s).target).sets.default.domain)
    ⊎ (greatest_accepted N w s ≡ issued w s)

-- Between the states w and u the target of a session has replied to a copy of the session's last request. The copy came in at
-- this port. One message, the reply, goes to each other end of the link there, and nothing else is sent. It is in the copy's
-- domain, and has as many hops as the copy has lost.
pub record HasReplied (N : Network) (w u : NetworkState) (s port : ℕ) (copy : List ℕ) : Type 0 where
  pub reply : List ℕ
  pub frames : u.frames ≡ w.frames
      ++ new_frames (peers N.links (AtPort (N.session s).target port)) reply
      (ReplyTo s (issued w s))
  pub domain : domain_number reply ≡ domain_number copy
  pub hops : boundary_hops reply ≡ (N.session s).setup.hops - boundary_hops copy

-- between the states w and u a session has reported its last request, and waits for nothing now
pub record HasReported (w u : NetworkState) (s : ℕ) : Type 0 where
  pub report : Report
  pub index : report.index ≡ issued w s
  pub reports : (u.session s).reports ≡ (w.session s).reports ++ report ∷ []
  pub idle : is_idle (u.session s) ≡ true
