-- What a call of C leaves of a session that a handle holds.
use Rattle.ptpm_manager.specs.declared.receiving.Received.{Received}
use Rattle.ptpm_manager.specs.Receiving.{left_by}
use Rattle.ptpm_host.specs.declared.session.HostedSession.{HostedSession}
use Rattle.ptpm_host.specs.Session.{IsAt, report_after}

-- the session that it holds, after a datagram
abbrev pub HasHeard : HostedSession → Received → HostedSession → Type 0
HasHeard s received t =
    IsAt t (left_by s.session received) (report_after s.report received)
