-- What is saved of a session is the session with all attempts before it.
use Rattle.ptpm_manager.specs.declared.saved.Saved.TheInside.{Inside}
use Rattle.ptpm_manager.specs.Session.{SessionValue}

abbrev pub saved_session : Inside → SessionValue
saved_session s = record {
  setup = s.setup;
  domain = s.domain;
  issued = s.issued;
  reported = s.reported;
  unanswered = s.unanswered;
  attempts_left = s.setup.attempts;
}
