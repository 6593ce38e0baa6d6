-- A turn sends no more messages than the clock's ports allow, or one of its kept replies.
use Rattle.std.proofs.Common.{arith, ◌≡◌, ◌≤◌, ◌+◌, ◌-◌, ◌*◌, ℕ, suc, true, false, List, [], ◌∷◌, ◌++◌, Some, None, Result, Ok, Err, length, cond, refl, subst, sym, ◌∙◌}
use Rattle.std.proofs.lemmas.List.{length-append, length-map}
use Rattle.std.specs.FinMap.{entries, find, get, get-entries}
use Rattle.std.specs.Ordering.{eq_by_cmp}
use Rattle.ptpm_codec.specs.declared.error.DecodeError.{DecodeError}
use Rattle.ptpm_codec.specs.declared.identity.ClockIdentity.{ClockIdentity}
use Rattle.ptpm_codec.specs.declared.identity.PortIdentity.{PortIdentity}
use Rattle.ptpm_codec.specs.declared.message.Message.{Message}
use Rattle.ptpm_codec.specs.Reading.{message_of, reading}
use Rattle.ptpm_data.specs.Members.{DataSetsValue, HasPort}
use Rattle.ptpm_data.specs.Replies.{read_reply_to, reply_to}
use Rattle.ptpm_data.specs.Reply.{ReplyValue}
use Rattle.ptpm_data.specs.RequestLaws.{IsSized}
use Rattle.ptpm_data.proofs.Answering.{new_few, read_few}
use Rattle.ptpm_table.specs.declared.heard.Heard.{Heard}
use Rattle.ptpm_codec.specs.Identity.{identity_cmp}
use Rattle.ptpm_table.specs.Entries.{Entry, HaveAnswers}
use Rattle.ptpm_table.specs.Rendering.{rendered}
use Rattle.ptpm_agent.specs.declared.verdict.Verdict.{Verdict}
use Rattle.ptpm_agent.specs.declared.verdict.Verdict.TheVariants as verdicts
use Rattle.ptpm_agent.specs.Addressing.{heard_of, request_of}
use Rattle.ptpm_agent.specs.Forwarding.{forwarded, is_forwarded}
use Rattle.ptpm_agent.specs.Turn.{Clock, State, judged, kept_reply_of, outbox_of, reply_by, reply_messages, turn, turn_by}
use Rattle.ptpm_agent.proofs.Egress.{copies_up_to-all, length-copies_up_to_but_one}
use Rattle.ptpm_agent.proofs.Turns.{forwarded-copy, forwarded-not, forwarded-on, message_of-reading, target-repeat}

-- one message for each answer
pub rendered_count : (me : ClockIdentity) (heard : Heard) (r : ReplyValue) (ingress : ℕ)
    → length (rendered me heard r ingress) ≡ length r.answers
unfolding rendered
rendered_count me heard r ingress = length-map r.answers _

-- a copy at each port but the one at which it came in, at most
pub passed_few : (me : ClockIdentity) (ingress : ℕ) (d : DataSetsValue) (datagram : List ℕ) (v : Message)
    → HasPort ingress d
    → reading datagram ≡ Ok v
    → length (forwarded me ingress d datagram) + 1 ≤ length d.ports
passed_few me ingress d datagram v port read =
    let Few : List (ℕ × List ℕ) → Type 0 = λ xs. length xs + 1 ≤ length d.ports in
    elim (is_forwarded me ingress d v) as (λ b. is_forwarded me ingress d v ≡ b → Few (forwarded me ingress d datagram)) [
      | true ↦ λ is. subst Few (copies_up_to-all ingress d datagram ∙ sym (forwarded-on me ingress d datagram v read is))
          (length-copies_up_to_but_one ingress d datagram (length d.ports) port.0 port.1)
      | false ↦ λ is. subst Few (sym (forwarded-not me ingress d datagram v read is)) (omega (arith, port.0, port.1))
    ] refl

found_few : (most : ℕ) (who : PortIdentity) (es : List (PortIdentity × Entry)) (e : Entry)
    → HaveAnswers most es
    → find identity_cmp who es ≡ Some e
    → length e.reply.answers ≤ most
found_few most who [] e all is = absurd (cc)
found_few most who (x ∷ es) e all is =
    let here : length x.1.reply.answers ≤ most = all 0 x (omega arith) in
    let rest : HaveAnswers most es = λ k y inside. all (suc k) y (omega (arith, inside)) in
    elim (eq_by_cmp identity_cmp who x.0) as (λ b. cond b (Some x.1) (find identity_cmp who es) ≡ Some e → length e.reply.answers ≤ most) [
      | true ↦ λ found. let same : x.1 ≡ e = cc in subst (λ (y : Entry). length y.reply.answers ≤ most) same here
      | false ↦ λ other. found_few most who es e rest other
    ] is

pub kept_few : (c : Clock) (s : State) (ingress : ℕ) (heard : Heard) (who : PortIdentity) (most : ℕ)
    → HaveAnswers most (entries s.entries)
    → length (reply_messages c ingress heard (kept_reply_of (get s.entries who))) ≤ most
kept_few c s ingress heard who most kept =
    elim (get s.entries who) as (λ o. get s.entries who ≡ o → length (reply_messages c ingress heard (kept_reply_of o)) ≤ most) [
      | None ↦ λ none. omega arith
      | Some e ↦ λ some. subst (λ n. n ≤ most) (sym (rendered_count c.identity heard e.reply ingress)) (found_few most who (entries s.entries) e kept (sym (get-entries s.entries who) ∙ some))
    ] refl

passed_none : (me : ClockIdentity) (ingress : ℕ) (d : DataSetsValue) (datagram : List ℕ) (cause : DecodeError)
    → reading datagram ≡ Err cause
    → forwarded me ingress d datagram ≡ []
unfolding forwarded message_of
passed_none me ingress d datagram cause read = grind arith

module _ (c : Clock) (s : State) (ingress : ℕ) (datagram : List ℕ) (most : ℕ) (sized : IsSized s.sets) (ports : length s.sets.ports ≤ most) (kept : HaveAnswers most (entries s.entries)) where
  answers_few : (v : Message) (r : ReplyValue)
      → length r.answers ≤ length s.sets.ports
      → length (rendered c.identity (heard_of v) r ingress) ≤ most
  answers_few v r few = omega (arith, few, ports, rendered_count c.identity (heard_of v) r ingress)

  replies_by : (v : Message) (w : Verdict) → length (reply_messages c ingress (heard_of v) (reply_by w c s v)) ≤ most
  replies_by v verdicts.AnsweredNew =
      answers_few v (reply_to (request_of v) (c.rights v.source) s.sets) (new_few (request_of v) (c.rights v.source) s.sets sized)
  replies_by v verdicts.AnsweredUnnumbered = answers_few v (read_reply_to (request_of v) s.sets) (read_few (request_of v) s.sets sized)
  replies_by v verdicts.AnsweredRepeat = kept_few c s ingress (heard_of v) v.source most kept
  replies_by v _ = omega arith

  replies_at : (r : Result Message DecodeError) → length (turn_by c s ingress datagram r).replies ≤ most
  replies_at (Err cause) = omega arith
  replies_at (Ok v) = replies_by v (judged c s v)

  -- the replies alone, without copies
  pub replies_few : length (turn c s ingress datagram).replies ≤ most
  unfolding turn
  replies_few = replies_at (reading datagram)

module _ (c : Clock) (s : State) (ingress : ℕ) (datagram : List ℕ) (most : ℕ) (sized : IsSized s.sets) (port : HasPort ingress s.sets) (ports : 2 * length s.sets.ports - 1 ≤ most) where
  -- copies, and a reply of no more answers than the clock has ports
  pub both_few : (v : Message) (r : ReplyValue)
      → reading datagram ≡ Ok v
      → length r.answers ≤ length s.sets.ports
      → length (forwarded c.identity ingress s.sets datagram ++ rendered c.identity (heard_of v) r ingress) ≤ most
  both_few v r read few =
      omega (
        arith,
        passed_few c.identity ingress s.sets datagram v port read,
        few,
        ports,
        rendered_count c.identity (heard_of v) r ingress,
        length-append (forwarded c.identity ingress s.sets datagram) (rendered c.identity (heard_of v) r ingress),
      )

  nothing_few : (v : Message)
      → reading datagram ≡ Ok v
      → length (forwarded c.identity ingress s.sets datagram ++ []) ≤ most
  nothing_few v read =
      omega (arith, passed_few c.identity ingress s.sets datagram v port read, ports, length-append (forwarded c.identity ingress s.sets datagram) [])

  -- what is sent by a verdict: if it is the kept reply, that has to be known of it
  pub verdict_few : (v : Message) (w : Verdict)
      → reading datagram ≡ Ok v
      → judged c s v ≡ w
      → (w ≡ verdicts.AnsweredRepeat → HaveAnswers most (entries s.entries))
      → length (forwarded c.identity ingress s.sets datagram ++ reply_messages c ingress (heard_of v) (reply_by w c s v)) ≤ most
  verdict_few v verdicts.AnsweredNew read is kept =
      both_few v (reply_to (request_of v) (c.rights v.source) s.sets) read (new_few (request_of v) (c.rights v.source) s.sets sized)
  verdict_few v verdicts.AnsweredUnnumbered read is kept =
      both_few v (read_reply_to (request_of v) s.sets) read (read_few (request_of v) s.sets sized)
  verdict_few v verdicts.AnsweredRepeat read is kept =
      let none = forwarded-copy c ingress s.sets datagram v (message_of-reading datagram v read) (target-repeat c s v is) in
      subst (λ (xs : List (ℕ × List ℕ)). length (xs ++ reply_messages c ingress (heard_of v) (kept_reply_of (get s.entries v.source))) ≤ most) (sym none)
      (kept_few c s ingress (heard_of v) v.source most (kept refl))
  verdict_few v _ read is kept = nothing_few v read

  turned_few : (r : Result Message DecodeError)
      → reading datagram ≡ r
      → HaveAnswers most (entries s.entries)
      → length (outbox_of (turn_by c s ingress datagram r)) ≤ most
  turned_few (Err cause) read kept =
      subst (λ (xs : List (ℕ × List ℕ)). length (xs ++ []) ≤ most) (sym (passed_none c.identity ingress s.sets datagram cause read)) (omega arith)
  turned_few (Ok v) read kept = verdict_few v (judged c s v) read refl (λ repeat. kept)

  pub turn_few : HaveAnswers most (entries s.entries) → length (outbox_of (turn c s ingress datagram)) ≤ most
  unfolding turn
  turn_few kept = turned_few (reading datagram) refl kept
