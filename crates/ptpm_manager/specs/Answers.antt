-- What a survey keeps: the first answer of each port that answers, up to a limit (this project's profile).
use Rattle.std.specs.Prelude.{ℕ, Bool, not, nat_lt, List, [], ◌∷◌, ◌++◌, filter, filter_map, length, take, Option, Some, None, Result, Ok, Err, if◌then◌else◌}
use Rattle.std.specs.List.{list_any}
use Rattle.ptpm_codec.specs.declared.error.DecodeError.{DecodeError}
use Rattle.ptpm_codec.specs.declared.identity.PortIdentity.{PortIdentity}
use Rattle.ptpm_codec.specs.declared.message.Message.{Message}
use Rattle.ptpm_codec.specs.Identity.{same_identity}
use Rattle.ptpm_codec.specs.Reading.{reading}
use Rattle.ptpm_manager.specs.declared.receiving.Reason.{Reason}
use Rattle.ptpm_manager.specs.declared.receiving.Reason.TheVariants as reasons
use Rattle.ptpm_manager.specs.declared.receiving.Surveyed.{Surveyed}
use Rattle.ptpm_manager.specs.declared.receiving.Surveyed.TheVariants as surveyed
use Rattle.ptpm_manager.specs.declared.report.Outcome.{Outcome}
use Rattle.ptpm_manager.specs.declared.enquiry.Enquiry.{Enquiry}
use Rattle.ptpm_manager.specs.Enquiry.{ignored_for}
use Rattle.ptpm_manager.specs.Report.{outcome_in}

-- which port answers, and what
abbrev pub Answer : Type 0
Answer = PortIdentity × Outcome

abbrev pub answer_unless : Option Reason → Message → Result Answer Reason
answer_unless (Some reason) v = Err reason
answer_unless None v = Ok (v.source, outcome_in v.body)

abbrev pub answer_in : Enquiry → Result Message DecodeError → Result Answer Reason
answer_in e (Err cause) = Err (reasons.Malformed cause)
answer_in e (Ok v) = answer_unless (ignored_for e v) v

-- the answer that a datagram holds, or why it is ignored
unfoldable pub heard : Enquiry → List ℕ → Result Answer Reason
heard e datagram = answer_in e (reading datagram)

abbrev pub answer_of_heard : Result Answer Reason → Option Answer
answer_of_heard (Ok answer) = Some answer
answer_of_heard (Err reason) = None

-- the first answer of each port, in the order of these first answers
abbrev pub firsts : List Answer → List Answer
firsts [] = []
firsts (a ∷ further) = a ∷ filter (λ b. not (same_identity b.0 a.0)) (firsts further)

-- how many ports a survey keeps at most
abbrev pub answer_limit : ℕ
answer_limit = 16384

-- of the datagrams that are not ignored, the first of each source, as source and outcome, in order, and at most 16,384
unfoldable pub first_of_each_source : Enquiry → List (List ℕ) → List Answer
first_of_each_source e datagrams = take answer_limit (firsts (filter_map (λ d. answer_of_heard (heard e d)) datagrams))

-- ---- one datagram

abbrev pub has_answered : PortIdentity → List Answer → Bool
has_answered source answers = list_any (λ a. same_identity source a.0) answers

abbrev pub surveyed_by : List Answer → Result Answer Reason → Surveyed
surveyed_by answers (Err reason) = surveyed.Ignored reason
surveyed_by answers (Ok a) =
    if has_answered a.0 answers then surveyed.Again
    else if nat_lt (length answers) answer_limit then surveyed.Taken
    else surveyed.Full

abbrev pub kept_by : List Answer → Result Answer Reason → List Answer
kept_by answers (Err reason) = answers
kept_by answers (Ok a) =
    if has_answered a.0 answers then answers
    else if nat_lt (length answers) answer_limit then answers ++ a ∷ []
    else answers
