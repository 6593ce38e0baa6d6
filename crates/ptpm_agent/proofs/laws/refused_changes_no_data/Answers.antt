-- What a turn leaves if its reply has an error.
use Rattle.std.proofs.Common.{◌≡◌, ℕ, List, Some, refl, sym, ◌∙◌, subst}
use Rattle.std.proofs.lemmas.Option.{same_Some}
use Rattle.std.specs.List.{Contains}
use Rattle.ptpm_codec.specs.declared.error.ErrorId.{ErrorId}
use Rattle.ptpm_codec.specs.declared.message.Message.{Message}
use Rattle.ptpm_codec.specs.Reading.{message_of}
use Rattle.ptpm_data.specs.Reply.{Answer, Refused, ReplyValue}
use Rattle.ptpm_data.proofs.Keeping.{refused_answer}
use Rattle.ptpm_agent.specs.declared.verdict.Verdict.{Verdict}
use Rattle.ptpm_agent.specs.Addressing.{request_of}
use Rattle.ptpm_agent.specs.Turn.{Clock, State, judged, new_reply, next_by, reply_by, turn}
use Rattle.ptpm_agent.proofs.Turns.{turn-next}
use Rattle.ptpm_agent.specs.declared.verdict.Verdict.TheVariants as verdicts
use Rattle.ptpm_agent.proofs.laws.refused_changes_no_data.Goals as goal

next_by-refused : (c : Clock) (s : State) (v : Message) (w : Verdict) (r : ReplyValue) (a : Answer)
    (error : ErrorId)
    → reply_by w c s v ≡ Some r
    → Contains r.answers a
    → a.outcome ≡ Refused error
    → (next_by w c s v).sets ≡ s.sets
next_by-refused c s v verdicts.AnsweredNew r a error is has refused =
    refused_answer (request_of v) (c.rights v.source) s.sets a error
    (subst (λ (x : ReplyValue). Contains x.answers a) (sym (same_Some (new_reply c s v) r is)) has) refused
next_by-refused c s v _ r a error is has refused = refl

turn-refused : (c : Clock) (s : State) (ingress : ℕ) (datagram : List ℕ) (v : Message)
    (r : ReplyValue) (a : Answer) (error : ErrorId)
    → message_of datagram ≡ Some v
    → reply_by (judged c s v) c s v ≡ Some r
    → Contains r.answers a
    → a.outcome ≡ Refused error
    → (turn c s ingress datagram).next.sets ≡ s.sets
turn-refused c s ingress datagram v r a error is reply has refused =
    turn-next (λ (n : State). n.sets ≡ s.sets) c s ingress datagram refl
    (λ (u : Message) (read : message_of datagram ≡ Some u).
    subst (λ (x : Message). (next_by (judged c s x) c s x).sets ≡ s.sets) (same_Some v u (sym is ∙ read))
    (next_by-refused c s v (judged c s v) r a error reply has refused))

pub returns : goal.returns
returns c = turn-refused
