-- The number of each answer has its own name: case by case.
use Rattle.std.proofs.Common.{◌≡◌, ◌≢◌, ◌++◌, Some, codes, refl, ◌==◌, ◌≤◌, ℕ, List, Option, None, true, length, nat_le, map, option_map, find, subst, arith}
use Rattle.ptpm_codec.specs.declared.error.DecodeError.{DecodeError}
use Rattle.ptpm_codec.specs.declared.error.ErrorId.{ErrorId}
use Rattle.ptpm_agent.specs.declared.verdict.Verdict.{Verdict}
use Rattle.ptpm_data.specs.declared.members.Member.{Member}
use Rattle.ptpm_data.specs.declared.start.StartError.TheVariants.{BadValue}
use Rattle.ptpm_data.specs.MemberNames.{member_name}
use Rattle.ptpm_manager.specs.declared.error.BeginError.{BeginError}
use Rattle.ptpm_manager.specs.declared.error.GiveUpRefusal.{GiveUpRefusal}
use Rattle.ptpm_manager.specs.declared.error.RestoreError.{RestoreError}
use Rattle.ptpm_manager.specs.declared.error.SendError.{SendError}
use Rattle.ptpm_manager.specs.declared.receiving.Reason.{Reason}
use Rattle.ptpm_manager.specs.ErrorText.{begin_error_text, give_up_refusal_text, restore_error_text, send_error_text}
use Rattle.ptpm_host.specs.AnswerNames.{answer_name, name_in, cause_word, reason_word, verdict_word, words_in_capitals, clock_member_names, datagram_names, port_member_names, refusal_names}
use Rattle.ptpm_host.specs.ErrorNames.{error_name, error_names}
use Rattle.ptpm_members.specs.IdNames.{capitals, id_name}
use Rattle.ptpm_host.specs.Numbers.{begin_number, cause_number, give_up_number, image_number, reason_number, restore_number, resume_number, values_number, verdict_number}
use Rattle.std.specs.Option.{option_or}
use Rattle.std.proofs.lemmas.Bool.Decides.{nat_tests}
use Rattle.ptpm_data.specs.ManagementId.{RowValue, id_table, row_of}
use Rattle.ptpm_members.proofs.IdNames.{of_found}
use Rattle.ptpm_codec.specs.declared.error.DecodeError.TheVariants as causes
use Rattle.ptpm_codec.specs.declared.error.ErrorId.TheVariants as errors
use Rattle.ptpm_codec.specs.Message as codec
use Rattle.ptpm_agent.specs.declared.verdict.Verdict.TheVariants as verdicts
use Rattle.ptpm_data.specs.declared.members.Member.TheVariants as members
use Rattle.ptpm_data.specs.declared.port_setting.PortSetting.TheVariants as settings
use Rattle.ptpm_manager.specs.declared.error.BeginError.TheVariants as begins
use Rattle.ptpm_manager.specs.declared.error.GiveUpRefusal.TheVariants as give_ups
use Rattle.ptpm_manager.specs.declared.error.RestoreError.TheVariants as restores
use Rattle.ptpm_manager.specs.declared.error.SendError.TheVariants as sends
use Rattle.ptpm_manager.specs.declared.receiving.Reason.TheVariants as reasons
use Rattle.ptpm_saved.specs.declared.error.RestoreError.{RestoreError as ClockImageError}
use Rattle.ptpm_saved.specs.declared.error.RestoreError.TheVariants as images
use Rattle.ptpm_saved.specs.ErrorText.{restore_error_text as clock_image_error_text}
use Rattle.ptpm_host.proofs.laws.names_law.Goals as goal

cause_named : (c : DecodeError) → answer_name (cause_number c) ≡ cause_word c
unfolding name_in
cause_named causes.TooShort = refl
cause_named causes.NotManagement = refl
cause_named causes.BadVersion = refl
cause_named causes.BadLength = refl
cause_named causes.BadAction = refl
cause_named causes.BadTlvType = refl
cause_named causes.BadTlvLength = refl
cause_named causes.BadText = refl
cause_named causes.OutOfMemory = refl

verdict_named : (v : Verdict) → answer_name (verdict_number v) ≡ verdict_word v
unfolding name_in
verdict_named (verdicts.Malformed cause) = cause_named cause
verdict_named verdicts.OtherDomain = refl
verdict_named verdicts.OwnMessage = refl
verdict_named verdicts.NotAddressed = refl
verdict_named verdicts.NotARequest = refl
verdict_named verdicts.AnsweredNew = refl
verdict_named verdicts.AnsweredRepeat = refl
verdict_named verdicts.DroppedOld = refl
verdict_named verdicts.DroppedConflict = refl
verdict_named verdicts.AnsweredUnnumbered = refl

reason_named : (r : Reason) → answer_name (reason_number r) ≡ reason_word r
unfolding name_in
reason_named (reasons.Malformed cause) = cause_named cause
reason_named reasons.OtherDomain = refl
reason_named reasons.NotAReply = refl
reason_named reasons.OtherTarget = refl
reason_named reasons.OtherSource = refl
reason_named reasons.NothingAsked = refl
reason_named reasons.OtherNumber = refl
reason_named reasons.OtherContent = refl

begin_named : (e : BeginError) → e ≢ begins.OutOfMemory
    → answer_name (begin_number e) ≡ Some (words_in_capitals (begin_error_text e))
unfolding name_in
begin_named begins.Busy other = refl
begin_named begins.NeedsPort other = refl
begin_named begins.NotPermitted other = refl
begin_named begins.BadValue other = refl
begin_named begins.CountAtMaximum other = refl
begin_named begins.OutOfMemory other = absurd (other refl)

send_named : (e : SendError) → answer_name (resume_number e) ≡ Some (words_in_capitals (send_error_text e))
unfolding name_in
send_named sends.Idle = refl
send_named sends.GaveUp = refl

give_up_named : (e : GiveUpRefusal) → answer_name (give_up_number e) ≡ Some (words_in_capitals (give_up_refusal_text e))
unfolding name_in
give_up_named give_ups.Idle = refl
give_up_named give_ups.OutOfReach = refl

restore_named : (e : RestoreError) → e ≢ restores.OutOfMemory
    → answer_name (restore_number e) ≡ Some (words_in_capitals (restore_error_text e))
unfolding name_in
restore_named restores.NotAnImage other = refl
restore_named restores.OtherVersion other = refl
restore_named restores.OtherKind other = refl
restore_named restores.Damaged other = refl
restore_named restores.OtherSession other = refl
restore_named restores.OutOfMemory other = absurd (other refl)

image_named : (e : ClockImageError) → answer_name (image_number e) ≡ Some (words_in_capitals (clock_image_error_text e))
unfolding name_in
image_named images.NotAnImage = refl
image_named images.OtherVersion = refl
image_named images.OtherKind = refl
image_named images.Damaged = refl
image_named images.OtherClock = refl
image_named images.OtherPorts = refl

member_named : (m : Member) → answer_name (values_number (BadValue m)) ≡ Some (codes "BAD_" ++ capitals (member_name m))
unfolding name_in
member_named members.Identity = refl
member_named members.Domain = refl
member_named members.UserDescription = refl
member_named members.TwoStep = refl
member_named members.Priority1 = refl
member_named members.ClockClass = refl
member_named members.ClockAccuracy = refl
member_named members.Variance = refl
member_named members.Priority2 = refl
member_named members.StepsRemoved = refl
member_named members.OffsetFromMaster = refl
member_named members.MeanPathDelay = refl
member_named members.ParentPort = refl
member_named members.ParentStats = refl
member_named members.ObservedVariance = refl
member_named members.ObservedRate = refl
member_named members.GrandmasterPriority1 = refl
member_named members.GrandmasterClass = refl
member_named members.GrandmasterAccuracy = refl
member_named members.GrandmasterVariance = refl
member_named members.GrandmasterPriority2 = refl
member_named members.Grandmaster = refl
member_named members.UtcOffset = refl
member_named members.Leap61 = refl
member_named members.Leap59 = refl
member_named members.UtcValid = refl
member_named members.PtpTimescale = refl
member_named members.TimeTraceable = refl
member_named members.FrequencyTraceable = refl
member_named members.TimeSource = refl
member_named members.State = refl
member_named members.LogMinDelayReq = refl
member_named members.PeerDelay = refl
member_named (members.Setting settings.LogAnnounceInterval) = refl
member_named (members.Setting s) = refl

error_named : (e : ErrorId) → error_name (codec.error_number e) ≡ Some (codec.error_name e)
unfolding name_in
error_named errors.ResponseTooBig = refl
error_named errors.NoSuchId = refl
error_named errors.WrongLength = refl
error_named errors.WrongValue = refl
error_named errors.NotSetable = refl
error_named errors.NotSupported = refl
error_named errors.GeneralError = refl

-- A name of an id, of an answer or of an error has at most 27 octets: each of the tables' names has.

-- no name, or one of at most 27 octets
abbrev Fits : Option (List ℕ) → Type 0
Fits None = Unit {0}
Fits (Some name) = length name ≤ 27

size_of_fitting : (found : Option (List ℕ)) (name : List ℕ) → Fits found → found ≡ Some name → length name ≤ 27
size_of_fitting found name fits is = subst Fits is fits

row_fits : (found : Option RowValue)
    → ((e : RowValue) → found ≡ Some e → nat_le (length e.name) 27 ≡ true)
    → Fits (option_map (λ (e : RowValue). e.name) found)
row_fits None short = tt
row_fits (Some e) short = let fits : nat_le (length e.name) 27 ≡ true = short e refl in grind (arith, nat_tests)

id_size : (id : ℕ) (name : List ℕ) → id_name id ≡ Some name → length name ≤ 27
unfolding row_of
id_size id name is =
    size_of_fitting (id_name id) name
    (row_fits (row_of id)
    (λ e. of_found (λ (r : RowValue). nat_le (length r.name) 27) (λ (r : RowValue). true) (λ (r : RowValue). r.id == id) id_table e refl)) is

entry_fits : (found : Option (ℕ × List ℕ))
    → ((e : ℕ × List ℕ) → found ≡ Some e → nat_le (length e.1) 27 ≡ true)
    → Fits (option_map (λ (e : ℕ × List ℕ). e.1) found)
entry_fits None short = tt
entry_fits (Some e) short = let fits : nat_le (length e.1) 27 ≡ true = short e refl in grind (arith, nat_tests)

table_fits : (names : List (ℕ × List ℕ)) (number : ℕ)
    → map (λ (e : ℕ × List ℕ). nat_le (length e.1) 27) names ≡ map (λ (e : ℕ × List ℕ). true) names
    → Fits (name_in names number)
unfolding name_in
table_fits names number short =
    entry_fits (find (λ e. e.0 == number) names)
    (λ e. of_found (λ (r : ℕ × List ℕ). nat_le (length r.1) 27) (λ (r : ℕ × List ℕ). true) (λ (r : ℕ × List ℕ). r.0 == number) names e short)

or_fits : (first second : Option (List ℕ)) → Fits first → Fits second → Fits (option_or first second)
or_fits None second a b = b
or_fits (Some name) second a b = a

answer_size : (number : ℕ) (name : List ℕ) → answer_name number ≡ Some name → length name ≤ 27
answer_size number name is =
    size_of_fitting (answer_name number) name
    (or_fits _ _ (table_fits datagram_names number refl)
    (or_fits _ _ (table_fits refusal_names number refl)
    (or_fits _ _ (table_fits clock_member_names number refl) (table_fits port_member_names number refl)))) is

error_size : (number : ℕ) (name : List ℕ) → error_name number ≡ Some name → length name ≤ 27
error_size number name is = size_of_fitting (error_name number) name (table_fits error_names number refl) is

pub returns : goal.returns
returns c = record {
  verdict = verdict_named;
  reason = reason_named;
  begin = begin_named;
  send = send_named;
  give_up = give_up_named;
  restore = restore_named;
  image = image_named;
  member = member_named;
  error = error_named;
  id_size = id_size;
  answer_size = answer_size;
  error_size = error_size;
}
