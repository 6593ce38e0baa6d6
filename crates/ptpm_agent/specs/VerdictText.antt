-- How a verdict is written (this project's profile).
use Rattle.std.specs.Prelude.{ℕ, List, ◌++◌, codes}
use Rattle.ptpm_codec.specs.ErrorText.{refusal_text}
use Rattle.ptpm_agent.specs.declared.verdict.Verdict.{Verdict}
use Rattle.ptpm_agent.specs.declared.verdict.Verdict.TheVariants as verdicts

-- the name of its cause comes after Malformed
abbrev pub verdict_text : Verdict → List ℕ
verdict_text (verdicts.Malformed cause) = codes "Malformed " ++ refusal_text cause
verdict_text verdicts.OtherDomain = codes "OtherDomain"
verdict_text verdicts.OwnMessage = codes "OwnMessage"
verdict_text verdicts.NotAddressed = codes "NotAddressed"
verdict_text verdicts.NotARequest = codes "NotARequest"
verdict_text verdicts.AnsweredNew = codes "AnsweredNew"
verdict_text verdicts.AnsweredRepeat = codes "AnsweredRepeat"
verdict_text verdicts.DroppedOld = codes "DroppedOld"
verdict_text verdicts.DroppedConflict = codes "DroppedConflict"
verdict_text verdicts.AnsweredUnnumbered = codes "AnsweredUnnumbered"
