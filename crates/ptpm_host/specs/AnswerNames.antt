-- The names of the numbers that calls answer (this project's profile): in words of capitals, as the header for C has them.
-- 0 has no name: every call says by it that it was done.
use Rattle.std.specs.Prelude.{ℕ, ◌==◌, if◌then◌else◌, List, [], ◌∷◌, ◌++◌, codes, Option, Some, None, option_map, find}
use Rattle.std.specs.Char.{is_ascii_uppercase, to_ascii_uppercase}
use Rattle.std.specs.List.{flat_map}
use Rattle.std.specs.Option.{option_or}
use Rattle.ptpm_codec.specs.declared.error.DecodeError.{DecodeError}
use Rattle.ptpm_codec.specs.declared.error.DecodeError.TheVariants as causes
use Rattle.ptpm_codec.specs.ErrorText.{refusal_text}
use Rattle.ptpm_agent.specs.declared.verdict.Verdict.{Verdict}
use Rattle.ptpm_agent.specs.declared.verdict.Verdict.TheVariants as verdicts
use Rattle.ptpm_agent.specs.VerdictText.{verdict_text}
use Rattle.ptpm_manager.specs.declared.receiving.Reason.{Reason}
use Rattle.ptpm_manager.specs.declared.receiving.Reason.TheVariants as reasons
use Rattle.ptpm_manager.specs.ErrorText.{reason_text}

-- what became of a datagram or of a request
abbrev pub datagram_names : List (ℕ × List ℕ)
datagram_names =
    (1, codes "OTHER_DOMAIN") ∷ (2, codes "OWN_MESSAGE") ∷ (3, codes "NOT_ADDRESSED") ∷ (4, codes "NOT_A_REQUEST")
    ∷ (5, codes "ANSWERED_NEW") ∷ (6, codes "ANSWERED_REPEAT") ∷ (7, codes "DROPPED_OLD") ∷ (8, codes "DROPPED_CONFLICT")
    ∷ (9, codes "ANSWERED_UNNUMBERED") ∷ (10, codes "NOT_A_REPLY") ∷ (11, codes "OTHER_TARGET") ∷ (12, codes "OTHER_SOURCE")
    ∷ (13, codes "NOTHING_ASKED") ∷ (14, codes "OTHER_NUMBER") ∷ (15, codes "OTHER_CONTENT") ∷ (16, codes "TOO_SHORT")
    ∷ (17, codes "NOT_MANAGEMENT") ∷ (18, codes "BAD_VERSION") ∷ (19, codes "BAD_LENGTH") ∷ (20, codes "BAD_ACTION")
    ∷ (21, codes "BAD_TLV_TYPE") ∷ (22, codes "BAD_TLV_LENGTH") ∷ (23, codes "BAD_TEXT") ∷ (25, codes "DONE")
    ∷ (26, codes "REFUSED") ∷ (27, codes "AGAIN") ∷ (28, codes "FULL") ∷ (29, codes "ASKED_CHANGE")
    ∷ (30, codes "ASKED_VALUE") ∷ (31, codes "ACT_NOW") ∷ []

-- why a call changed nothing
abbrev pub refusal_names : List (ℕ × List ℕ)
refusal_names =
    (32, codes "NO_CLOCK") ∷ (33, codes "NO_PORT") ∷ (34, codes "NO_ROOM") ∷ (35, codes "NO_MEMORY")
    ∷ (36, codes "NOT_READABLE") ∷ (37, codes "NO_SESSION") ∷ (38, codes "BUSY") ∷ (39, codes "NEEDS_PORT")
    ∷ (40, codes "NOT_PERMITTED") ∷ (41, codes "BAD_VALUE") ∷ (42, codes "COUNT_AT_MAXIMUM") ∷ (43, codes "IDLE")
    ∷ (44, codes "GAVE_UP") ∷ (45, codes "NO_REPORT") ∷ (46, codes "NO_SURVEY") ∷ (47, codes "OTHER_SIZES")
    ∷ (48, codes "NO_PORTS") ∷ (49, codes "TOO_MANY_PORTS") ∷ (50, codes "GRANDMASTER_DIFFERS") ∷ (51, codes "TOO_MANY_MANAGERS")
    ∷ (52, codes "MANAGER_TWICE") ∷ (53, codes "MANAGER_IS_EVERY") ∷ (54, codes "TARGET_IS_EVERY") ∷ (55, codes "SAME_CLOCK")
    ∷ (56, codes "IDENTITY_IS_ZERO") ∷ (57, codes "TARGET_IS_ZERO")
    ∷ (104, codes "NOT_AN_IMAGE") ∷ (105, codes "OTHER_VERSION") ∷ (106, codes "OTHER_KIND") ∷ (107, codes "DAMAGED")
    ∷ (108, codes "OTHER_CLOCK") ∷ (109, codes "OTHER_PORTS") ∷ (110, codes "OTHER_SESSION") ∷ (112, codes "OUT_OF_REACH")
    ∷ (113, codes "NOT_WORDS") ∷ (114, codes "UNKNOWN_ID") ∷ (115, codes "WORD_COUNT") ∷ (116, codes "OTHER_NAME")
    ∷ (117, codes "NO_VALUE") ∷ (118, codes "UNSAVED") ∷ (119, codes "OTHER_IMAGE") ∷ (120, codes "NO_ASKER")
    ∷ (121, codes "BAD_SAY") ∷ (123, codes "UNDER_WAY") ∷ (124, codes "NOTHING_UNDER_WAY") ∷ (126, codes "NO_JOURNAL")
    ∷ (127, codes "NO_RECORD") ∷ (128, codes "NOT_ALLOWED") ∷ (129, codes "JOURNAL_WHOLE") ∷ (130, codes "NO_ROLLOUT")
    ∷ (131, codes "HAS_ENDED") ∷ (132, codes "OUT_OF_TURN") ∷ (133, codes "TOO_MANY_IDS") ∷ (134, codes "CLOCK_HAS_ID")
    ∷ (135, codes "RELAYED_TWICE") ∷ (136, codes "BAD_SCOPE") ∷ (137, codes "BAD_ACTIONS") ∷ (138, codes "BAD_SIZES") ∷ []

-- which member of a clock is out of its range
abbrev pub clock_member_names : List (ℕ × List ℕ)
clock_member_names =
    (64, codes "BAD_IDENTITY") ∷ (65, codes "BAD_DOMAIN") ∷ (66, codes "BAD_USER_DESCRIPTION") ∷ (67, codes "BAD_TWO_STEP")
    ∷ (68, codes "BAD_PRIORITY1") ∷ (69, codes "BAD_CLOCK_CLASS") ∷ (70, codes "BAD_CLOCK_ACCURACY") ∷ (71, codes "BAD_VARIANCE")
    ∷ (72, codes "BAD_PRIORITY2") ∷ (73, codes "BAD_STEPS_REMOVED") ∷ (74, codes "BAD_OFFSET_FROM_MASTER")
    ∷ (75, codes "BAD_MEAN_PATH_DELAY") ∷ (76, codes "BAD_PARENT_PORT") ∷ (77, codes "BAD_PARENT_STATS")
    ∷ (78, codes "BAD_OBSERVED_VARIANCE") ∷ (79, codes "BAD_OBSERVED_RATE") ∷ (80, codes "BAD_GRANDMASTER_PRIORITY1")
    ∷ (81, codes "BAD_GRANDMASTER_CLASS") ∷ (82, codes "BAD_GRANDMASTER_ACCURACY") ∷ (83, codes "BAD_GRANDMASTER_VARIANCE")
    ∷ (84, codes "BAD_GRANDMASTER_PRIORITY2") ∷ (85, codes "BAD_GRANDMASTER") ∷ (86, codes "BAD_UTC_OFFSET")
    ∷ (87, codes "BAD_LEAP61") ∷ (88, codes "BAD_LEAP59") ∷ (89, codes "BAD_UTC_VALID") ∷ (90, codes "BAD_PTP_TIMESCALE")
    ∷ (91, codes "BAD_TIME_TRACEABLE") ∷ (92, codes "BAD_FREQUENCY_TRACEABLE") ∷ (93, codes "BAD_TIME_SOURCE") ∷ []

-- which member of a port is out of its range
abbrev pub port_member_names : List (ℕ × List ℕ)
port_member_names =
    (94, codes "BAD_STATE") ∷ (95, codes "BAD_LOG_MIN_DELAY_REQ") ∷ (96, codes "BAD_PEER_DELAY") ∷ (97, codes "BAD_LOG_ANNOUNCE")
    ∷ (98, codes "BAD_RECEIPT_TIMEOUT") ∷ (99, codes "BAD_LOG_SYNC") ∷ (100, codes "BAD_DELAY_MECHANISM")
    ∷ (101, codes "BAD_LOG_MIN_PDELAY") ∷ []

unfoldable pub name_in : List (ℕ × List ℕ) → ℕ → Option (List ℕ)
name_in names number = option_map (λ e. e.1) (find (λ e. e.0 == number) names)

-- the name of an answer's number, if it has one
abbrev pub answer_name : ℕ → Option (List ℕ)
answer_name number =
    option_or (name_in datagram_names number)
    (option_or (name_in refusal_names number)
    (option_or (name_in clock_member_names number) (name_in port_member_names number)))

-- ---- the words of the enums, as names have them

-- TOO_SHORT for TooShort: a capital that is not the first begins a word
abbrev pub letters : ℕ → List ℕ
letters c = if is_ascii_uppercase c then codes "_" ++ c ∷ [] else to_ascii_uppercase c ∷ []

abbrev pub words_in_capitals : List ℕ → List ℕ
words_in_capitals [] = []
words_in_capitals (c ∷ cs) = c ∷ flat_map letters cs

-- why a datagram holds no management message; want of memory, which no call reports so, has no name
abbrev pub cause_word : DecodeError → Option (List ℕ)
cause_word causes.OutOfMemory = None
cause_word cause = Some (words_in_capitals (refusal_text cause))

abbrev pub verdict_word : Verdict → Option (List ℕ)
verdict_word (verdicts.Malformed cause) = cause_word cause
verdict_word verdict = Some (words_in_capitals (verdict_text verdict))

abbrev pub reason_word : Reason → Option (List ℕ)
reason_word (reasons.Malformed cause) = cause_word cause
reason_word reason = Some (words_in_capitals (reason_text reason))
