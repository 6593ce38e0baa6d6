-- The numbers that calls answer, in one table (this project's profile): 0 if the call was done. Those below 32 say what
-- became of a datagram or of a request, and those from 32 on why a call changed nothing.
use Rattle.std.specs.Prelude.{ℕ, ◌+◌}
use Rattle.ptpm_codec.specs.declared.error.DecodeError.{DecodeError}
use Rattle.ptpm_codec.specs.declared.error.DecodeError.TheVariants as causes
use Rattle.ptpm_data.specs.declared.members.Member.{Member}
use Rattle.ptpm_data.specs.MemberNames.{member_place}
use Rattle.ptpm_data.specs.declared.observation.ObservationError.{ObservationError}
use Rattle.ptpm_data.specs.declared.observation.ObservationError.TheVariants as observations
use Rattle.ptpm_data.specs.declared.start.StartError.{StartError}
use Rattle.ptpm_data.specs.declared.start.StartError.TheVariants as starts
use Rattle.ptpm_table.specs.declared.error.TableError.{TableError}
use Rattle.ptpm_table.specs.declared.error.TableError.TheVariants as tables
use Rattle.ptpm_agent.specs.declared.verdict.Verdict.{Verdict}
use Rattle.ptpm_agent.specs.declared.verdict.Verdict.TheVariants as verdicts
use Rattle.ptpm_manager.specs.declared.error.BeginError.{BeginError}
use Rattle.ptpm_manager.specs.declared.error.BeginError.TheVariants as begins
use Rattle.ptpm_manager.specs.declared.error.GiveUpRefusal.{GiveUpRefusal}
use Rattle.ptpm_manager.specs.declared.error.GiveUpRefusal.TheVariants as give_ups
use Rattle.ptpm_manager.specs.declared.error.RestoreError.{RestoreError}
use Rattle.ptpm_manager.specs.declared.error.RestoreError.TheVariants as restores
use Rattle.ptpm_manager.specs.declared.error.SendError.{SendError}
use Rattle.ptpm_manager.specs.declared.error.SendError.TheVariants as errors
use Rattle.ptpm_manager.specs.declared.receiving.Reason.{Reason}
use Rattle.ptpm_manager.specs.declared.receiving.Reason.TheVariants as reasons
use Rattle.ptpm_manager.specs.declared.receiving.Surveyed.{Surveyed}
use Rattle.ptpm_manager.specs.declared.receiving.Surveyed.TheVariants as surveyed
use Rattle.ptpm_saved.specs.declared.error.RestoreError.{RestoreError as ClockImageError}
use Rattle.ptpm_saved.specs.declared.error.RestoreError.TheVariants as images
use Rattle.ptpm_seal.specs.declared.sealing.UnsealError.{UnsealError}
use Rattle.ptpm_seal.specs.declared.sealing.UnsealError.TheVariants as unseals
use Rattle.ptpm_host.specs.declared.refusal.AskerRefusal.{AskerRefusal}
use Rattle.ptpm_host.specs.declared.refusal.AskerRefusal.TheVariants as askers
use Rattle.ptpm_host.specs.declared.refusal.ChangeRefusal.{ChangeRefusal}
use Rattle.ptpm_host.specs.declared.refusal.ChangeRefusal.TheVariants as changes
use Rattle.ptpm_host.specs.declared.refusal.ClockRestoreRefusal.{ClockRestoreRefusal}
use Rattle.ptpm_host.specs.declared.refusal.ClockRestoreRefusal.TheVariants as clock_restores
use Rattle.ptpm_host.specs.declared.refusal.DecideRefusal.{DecideRefusal}
use Rattle.ptpm_host.specs.declared.refusal.DecideRefusal.TheVariants as decides
use Rattle.ptpm_host.specs.declared.refusal.HandleRefusal.{HandleRefusal}
use Rattle.ptpm_host.specs.declared.refusal.HandleRefusal.TheVariants as handles
use Rattle.ptpm_host.specs.declared.refusal.ParseRefusal.{ParseRefusal}
use Rattle.ptpm_host.specs.declared.refusal.ParseRefusal.TheVariants as parses
use Rattle.ptpm_host.specs.declared.refusal.ReadRefusal.{ReadRefusal}
use Rattle.ptpm_host.specs.declared.refusal.ReadRefusal.TheVariants as reads
use Rattle.ptpm_host.specs.declared.refusal.StartRefusal.{StartRefusal}
use Rattle.ptpm_host.specs.declared.refusal.StartRefusal.TheVariants as refusals
use Rattle.ptpm_host.specs.declared.refusal.RelayRefusal.{RelayRefusal}
use Rattle.ptpm_host.specs.declared.refusal.RelayRefusal.TheVariants as relays
use Rattle.ptpm_host.specs.declared.refusal.ReportRefusal.{ReportRefusal}
use Rattle.ptpm_host.specs.declared.refusal.ReportRefusal.TheVariants as reports
use Rattle.ptpm_host.specs.declared.refusal.SavedRefusal.{SavedRefusal}
use Rattle.ptpm_host.specs.declared.refusal.SavedRefusal.TheVariants as saves
use Rattle.ptpm_host.specs.declared.refusal.SaidRefusal.{SaidRefusal}
use Rattle.ptpm_host.specs.declared.refusal.SaidRefusal.TheVariants as said
use Rattle.ptpm_host.specs.declared.refusal.TakeRefusal.{TakeRefusal}
use Rattle.ptpm_host.specs.declared.refusal.TakeRefusal.TheVariants as takes
use Rattle.ptpm_host.specs.declared.refusal.UndertakeRefusal.{UndertakeRefusal}
use Rattle.ptpm_host.specs.declared.refusal.UndertakeRefusal.TheVariants as undertakes
use Rattle.ptpm_host.specs.declared.refusal.SendRefusal.{SendRefusal}
use Rattle.ptpm_host.specs.declared.refusal.SendRefusal.TheVariants as sends
use Rattle.ptpm_host.specs.declared.refusal.SessionRefusal.{SessionRefusal}
use Rattle.ptpm_host.specs.declared.refusal.SessionRefusal.TheVariants as sessions
use Rattle.ptpm_host.specs.declared.session.Heard.{Heard}
use Rattle.ptpm_host.specs.declared.session.Heard.TheVariants as heard
use Rattle.ptpm_host.specs.declared.reported_outcome.ReportedOutcome.{ReportedOutcome}
use Rattle.ptpm_host.specs.declared.reported_outcome.ReportedOutcome.TheVariants as reported

-- ---- what became of a datagram or of a request

-- why it holds no management message, 16 to 24
abbrev pub cause_number : DecodeError → ℕ
cause_number causes.TooShort = 16
cause_number causes.NotManagement = 17
cause_number causes.BadVersion = 18
cause_number causes.BadLength = 19
cause_number causes.BadAction = 20
cause_number causes.BadTlvType = 21
cause_number causes.BadTlvLength = 22
cause_number causes.BadText = 23
cause_number causes.OutOfMemory = 24

-- what a clock decides, 1 to 9, or why it is malformed
abbrev pub verdict_number : Verdict → ℕ
verdict_number (verdicts.Malformed cause) = cause_number cause
verdict_number verdicts.OtherDomain = 1
verdict_number verdicts.OwnMessage = 2
verdict_number verdicts.NotAddressed = 3
verdict_number verdicts.NotARequest = 4
verdict_number verdicts.AnsweredNew = 5
verdict_number verdicts.AnsweredRepeat = 6
verdict_number verdicts.DroppedOld = 7
verdict_number verdicts.DroppedConflict = 8
verdict_number verdicts.AnsweredUnnumbered = 9

-- why a session or a survey ignores it, 1, 10 to 15 and 16 to 24
abbrev pub reason_number : Reason → ℕ
reason_number (reasons.Malformed cause) = cause_number cause
reason_number reasons.OtherDomain = 1
reason_number reasons.NotAReply = 10
reason_number reasons.OtherTarget = 11
reason_number reasons.OtherSource = 12
reason_number reasons.NothingAsked = 13
reason_number reasons.OtherNumber = 14
reason_number reasons.OtherContent = 15

abbrev pub heard_number : Heard → ℕ
heard_number heard.Answered = 0
heard_number (heard.Ignored reason) = reason_number reason

-- what a survey makes of it: 0, 27 or 28 for an answer, or why it is ignored
abbrev pub surveyed_number : Surveyed → ℕ
surveyed_number surveyed.Taken = 0
surveyed_number surveyed.Again = 27
surveyed_number surveyed.Full = 28
surveyed_number (surveyed.Ignored reason) = reason_number reason

-- what became of a request, 0, 25 or 26
abbrev pub outcome_number : ReportedOutcome → ℕ
outcome_number (reported.Value size) = 0
outcome_number reported.Done = 25
outcome_number (reported.Refused error) = 26

-- ---- why a call changed nothing

-- a handle holds no clock
abbrev pub no_clock : ℕ
no_clock = 32

-- there is too little room for what is to be left
abbrev pub no_room : ℕ
no_room = 34

-- memory was refused
abbrev pub no_memory : ℕ
no_memory = 35

-- a handle holds no session
abbrev pub no_session : ℕ
no_session = 37

-- a handle holds no survey
abbrev pub no_survey : ℕ
no_survey = 46

-- a handle holds no asker
abbrev pub no_asker : ℕ
no_asker = 120

-- a struct of the host has another size than the library's
abbrev pub other_sizes : ℕ
other_sizes = 47

-- a device is asked whether it carries out a request
abbrev pub asked_change : ℕ
asked_change = 29

-- a device is asked for the value of an id that the clock lacks
abbrev pub asked_value : ℕ
asked_value = 30

-- what is under way is saved, and now the device is asked
abbrev pub act_now : ℕ
act_now = 31

-- a change is not saved yet
abbrev pub unsaved : ℕ
unsaved = 118

-- a change is under way at the device
abbrev pub under_way : ℕ
under_way = 123

abbrev pub handle_number : HandleRefusal → ℕ
handle_number handles.NoPort = 33
handle_number handles.NoRoom = no_room

-- why a datagram is not handled with what the device says
abbrev pub said_number : SaidRefusal → ℕ
said_number (said.Handle refusal) = handle_number refusal
said_number said.BadSay = 121

-- why a clock that is saved while it goes on takes nothing
abbrev pub take_number : TakeRefusal → ℕ
take_number (takes.Said refusal) = said_number refusal
take_number takes.UnderWay = under_way
take_number takes.Unsaved = unsaved

-- why a table of a device's own ids is not taken, 35 or 133 to 138
abbrev pub relay_number : RelayRefusal → ℕ
relay_number relays.TooManyIds = 133
relay_number relays.ClockHasId = 134
relay_number relays.RelayedTwice = 135
relay_number relays.BadScope = 136
relay_number relays.BadActions = 137
relay_number relays.BadSizes = 138
relay_number relays.OutOfMemory = no_memory

-- why no change is under way after a call that would begin one
abbrev pub undertake_number : UndertakeRefusal → ℕ
undertake_number undertakes.NoPort = 33
undertake_number undertakes.Unsaved = unsaved
undertake_number undertakes.UnderWay = under_way

-- why what is under way is not decided
abbrev pub decide_number : DecideRefusal → ℕ
decide_number decides.NothingUnderWay = 124
decide_number (decides.Said refusal) = said_number refusal
decide_number decides.Unsaved = unsaved

-- why a change at the device itself is not carried out
abbrev pub change_number : ChangeRefusal → ℕ
change_number changes.NoPort = 33
change_number changes.NotPermitted = 40
change_number changes.BadValue = 41
change_number changes.UnderWay = under_way
change_number (changes.Refused error) = 26

-- why a clock or a session does not count as saved
abbrev pub saved_number : SavedRefusal → ℕ
saved_number saves.OtherImage = 119

abbrev pub read_number : ReadRefusal → ℕ
read_number reads.NoPort = 33
read_number reads.NoRoom = no_room
read_number reads.NotReadable = 36

abbrev pub begin_number : BeginError → ℕ
begin_number begins.OutOfMemory = no_memory
begin_number begins.Busy = 38
begin_number begins.NeedsPort = 39
begin_number begins.NotPermitted = 40
begin_number begins.BadValue = 41
begin_number begins.CountAtMaximum = 42

abbrev pub resume_number : SendError → ℕ
resume_number errors.Idle = 43
resume_number errors.GaveUp = 44

abbrev pub give_up_number : GiveUpRefusal → ℕ
give_up_number give_ups.Idle = 43
give_up_number give_ups.OutOfReach = 112

abbrev pub send_number : SendRefusal → ℕ
send_number sends.NoRoom = no_room
send_number (sends.Session refusal) = resume_number refusal

abbrev pub report_number : ReportRefusal → ℕ
report_number reports.NoRoom = no_room
report_number reports.NoReport = 45

-- ---- why nothing starts, or an observation is refused

-- the place of a member in the order in which a start judges them
abbrev pub member_number : Member → ℕ
member_number m = member_place m

abbrev pub observe_number : ObservationError → ℕ
observe_number observations.NoPort = 33
observe_number observations.GrandmasterDiffers = 50
observe_number (observations.BadValue member) = 64 + member_number member

abbrev pub values_number : StartError → ℕ
values_number starts.NoPorts = 48
values_number starts.TooManyPorts = 49
values_number starts.GrandmasterDiffers = 50
values_number (starts.BadValue member) = 64 + member_number member

abbrev pub managers_number : TableError → ℕ
managers_number tables.TooMany = 51
managers_number tables.Twice = 52
managers_number tables.OutOfMemory = no_memory

abbrev pub start_number : StartRefusal → ℕ
start_number (refusals.Values fault) = values_number fault
start_number (refusals.Managers fault) = managers_number fault
start_number refusals.IdentityIsZero = 56
start_number refusals.OutOfMemory = no_memory

abbrev pub session_number : SessionRefusal → ℕ
session_number sessions.NoPorts = 48
session_number sessions.TooManyPorts = 49
session_number sessions.ManagerIsEvery = 53
session_number sessions.TargetIsEvery = 54
session_number sessions.SameClock = 55
session_number sessions.TargetIsZero = 57
session_number sessions.NobodyIsManager = 52

-- why a session is not restored, 35, 104 to 107 or 110
abbrev pub restore_number : RestoreError → ℕ
restore_number restores.OutOfMemory = no_memory
restore_number restores.NotAnImage = 104
restore_number restores.OtherVersion = 105
restore_number restores.OtherKind = 106
restore_number restores.Damaged = 107
restore_number restores.OtherSession = 110

-- why an asker does not go on from an image
abbrev pub asker_number : AskerRefusal → ℕ
asker_number (askers.Settings refusal) = session_number refusal
asker_number (askers.Image refusal) = restore_number refusal

-- why octets are no image of a clock
abbrev pub image_number : ClockImageError → ℕ
image_number images.NotAnImage = 104
image_number images.OtherVersion = 105
image_number images.OtherKind = 106
image_number images.Damaged = 107
image_number images.OtherClock = 108
image_number images.OtherPorts = 109

-- why octets are no image that is whole
abbrev pub unseal_number : UnsealError → ℕ
unseal_number unseals.NotAnImage = 104
unseal_number unseals.Damaged = 107

-- why a clock is not restored
abbrev pub clock_restore_number : ClockRestoreRefusal → ℕ
clock_restore_number (clock_restores.Managers fault) = managers_number fault
clock_restore_number clock_restores.IdentityIsZero = 56
clock_restore_number (clock_restores.Image fault) = image_number fault
clock_restore_number clock_restores.OutOfMemory = no_memory

-- why words are no dataField of a SET
abbrev pub parse_number : ParseRefusal → ℕ
parse_number parses.NoRoom = no_room
parse_number parses.NotWords = 113
parse_number parses.UnknownId = 114
parse_number parses.WordCount = 115
parse_number (parses.OtherName place) = 116
parse_number (parses.NoValue place) = 117
