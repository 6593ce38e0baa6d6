-- What a handle holds: a clock, a session, a survey, an asker, or nothing.
use Rattle.std.specs.Prelude.{◌≡◌, ℕ, Option, Some, None}
use Rattle.ptpm_data.specs.Members.{DataSetsValue}
use Rattle.ptpm_host.specs.declared.asker.HostedAsker.{HostedAsker}
use Rattle.ptpm_host.specs.declared.clock.HostedClock.{HostedClock}
use Rattle.ptpm_host.specs.declared.handed.Handed.{Handed}
use Rattle.ptpm_host.specs.Asker.{handed}
use Rattle.ptpm_host.specs.declared.saving_clock.SavingClock.{SavingClock}
use Rattle.ptpm_host.specs.declared.session.HostedSession.{HostedSession}
use Rattle.ptpm_host.specs.declared.survey.HostedSurvey.{HostedSurvey}
use Rattle.ptpm_host.specs.Numbers.{no_asker, no_session}
use Rattle.ptpm_c.specs.declared.keeping.Keeping.{Keeping}
use Rattle.ptpm_c.specs.declared.kept.Hosted.{Hosted}
use Rattle.ptpm_c.specs.declared.kept.Hosted.TheVariants as hosts
use Rattle.ptpm_c.specs.declared.kept.Kept.{Kept}

abbrev pub hosted_in : Option Kept → Hosted
hosted_in None = hosts.Nothing
hosted_in (Some kept) = kept.hosted.value

abbrev pub held : Keeping → Hosted
held keeping = hosted_in keeping.kept

abbrev pub clock_of : Hosted → Option HostedClock
clock_of (hosts.Clock clock) = Some clock.value
clock_of _ = None

-- of a clock that is saved while it takes datagrams
abbrev pub saving_clock_of : Hosted → Option SavingClock
saving_clock_of (hosts.SavingClock clock) = Some clock.value
saving_clock_of _ = None

-- of either kind of clock
abbrev pub any_clock_of : Hosted → Option HostedClock
any_clock_of (hosts.Clock clock) = Some clock.value
any_clock_of (hosts.SavingClock clock) = Some clock.value.clock.value
any_clock_of _ = None

-- what is shown of either: of a clock that sends at once all that it has
abbrev pub shown_of : Hosted → Option DataSetsValue
shown_of (hosts.Clock clock) = Some clock.value.agent.sets
shown_of (hosts.SavingClock clock) = Some clock.value.shown
shown_of _ = None

abbrev pub session_of : Hosted → Option HostedSession
session_of (hosts.Session session) = Some session.value
session_of _ = None

abbrev pub survey_of : Hosted → Option HostedSurvey
survey_of (hosts.Survey survey) = Some survey.value
survey_of _ = None

abbrev pub asker_of : Hosted → Option HostedAsker
asker_of (hosts.Asker asker) = Some asker.value
asker_of _ = None

-- the clock, the session, the survey, or the asker, that a handle holds, if it holds one. A clock sends at once, and a saving clock
-- shows no change before it is saved

abbrev pub clock_held : Keeping → Option HostedClock
clock_held keeping = clock_of (held keeping)

abbrev pub saving_clock_held : Keeping → Option SavingClock
saving_clock_held keeping = saving_clock_of (held keeping)

abbrev pub any_clock_held : Keeping → Option HostedClock
any_clock_held keeping = any_clock_of (held keeping)

abbrev pub shown_held : Keeping → Option DataSetsValue
shown_held keeping = shown_of (held keeping)

abbrev pub session_held : Keeping → Option HostedSession
session_held keeping = session_of (held keeping)

abbrev pub survey_held : Keeping → Option HostedSurvey
survey_held keeping = survey_of (held keeping)

abbrev pub asker_held : Keeping → Option HostedAsker
asker_held keeping = asker_of (held keeping)

-- a call that wants a session finds none: it answers so, and the handle holds what it held
abbrev pub FindsNoSession : Keeping → ℕ → Keeping → Type 0
FindsNoSession before number after =
    session_held before ≡ None → (number ≡ no_session) × (held after ≡ held before)

-- nothing is handed out
abbrev pub HandsOutNothing : Handed → Type 0
HandsOutNothing out = out ≡ handed 0 0 0 0

-- a call that wants an asker finds none
abbrev pub FindsNoAsker : Keeping → ℕ → Handed → Keeping → Type 0
FindsNoAsker before number out after =
    asker_held before ≡ None → (number ≡ no_asker) × (HandsOutNothing out × (held after ≡ held before))
