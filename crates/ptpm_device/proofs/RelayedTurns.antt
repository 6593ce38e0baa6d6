-- What a device says of a SET or COMMAND of one of its own ids: it may be kept, and is then what a repeat gets.
use Rattle.std.proofs.Common.{arith, ◌≡◌, ℕ, ◌<◌, ◌%◌, ◌&&◌, List, [], is_some, nat_le, Option, Some, None, Err, Bool, true, false, length, refl, sym, ◌∙◌, ap, subst}
use Rattle.std.proofs.lemmas.Bool.{and_parts, false≢true, true≢false}
use Rattle.std.proofs.lemmas.Option.{cond_some}
use Rattle.std.proofs.lemmas.List.Elements.{All-cons, All-nil}
use Rattle.std.specs.List.{All}
use Rattle.ptpm_codec.specs.declared.error.ErrorId.{ErrorId}
use Rattle.ptpm_codec.specs.declared.message.Action.{Action}
use Rattle.ptpm_codec.specs.declared.message.Action.TheVariants as actions
use Rattle.ptpm_codec.specs.declared.message.Message.{Message}
use Rattle.ptpm_codec.specs.Message.{IsDataField, IsRequestAction}
use Rattle.ptpm_codec.specs.declared.error.DecodeError.{DecodeError}
use Rattle.ptpm_codec.specs.Reading.{message_of, reading}
use Rattle.ptpm_data.specs.declared.rights.Rights.{Rights}
use Rattle.ptpm_data.specs.ManagementId.{is_of_port, row_of}
use Rattle.ptpm_data.specs.Reply.{ReplyValue}
use Rattle.ptpm_data.specs.Request.{RequestValue}
use Rattle.ptpm_table.specs.Entries.{FitsAnswer, FitsCount, FitsOutcome, FitsRequest, is_known}
use Rattle.ptpm_agent.specs.declared.verdict.Verdict.TheVariants as verdicts
use Rattle.ptpm_agent.specs.declared.verdict.Verdict.{Verdict}
use Rattle.ptpm_agent.specs.Addressing.{request_of}
use Rattle.ptpm_agent.specs.Agent.{IsTurned}
use Rattle.ptpm_agent.specs.Turn.{Clock, State, judged, numbered_from, turn}
use Rattle.ptpm_device.specs.declared.relayed.RelayedId.{RelayedId}
use Rattle.ptpm_device.specs.Asking.{is_new, is_relayed, is_relayed_in, rights_of_change}
use Rattle.ptpm_device.specs.Relayed.{is_change, relayed, relayed_refusal}
use Rattle.ptpm_device.specs.Saying.{Agrees, Gives, IsGiven, Objects, Say, after_reply, given, given_to, relayed_outcome, reply_at, reply_relayed, said_value, turn_said}
use Rattle.ptpm_agent.proofs.Turns.{new_parts}
use Rattle.ptpm_device.specs.declared.relaying.DeviceSay.{DeviceSay}
use Rattle.ptpm_device.specs.declared.relaying.DeviceSay.TheVariants as saids
use Rattle.ptpm_device.proofs.Judged.{relayed_parts}
use Rattle.ptpm_device.proofs.New.{is_new-true}
use Rattle.ptpm_device.proofs.Said.{moved_turn, of_no_port, turned_replied}
use Rattle.ptpm_device.proofs.Steps.{turn_said-old, turn_said-unread, turn_said-unrelayed}
use Rattle.ptpm_device.proofs.WhenAsked.{not_asked_at}

-- ---- it may be kept

pub change_request : (action : Action) → is_change action ≡ true → IsRequestAction action
change_request actions.Set e = grind arith
change_request actions.Command e = grind arith
change_request _ e = absurd (false≢true e)

-- what a device gives is a dataField
abbrev pub IsSayGiven : Say → Type 0
IsSayGiven Agrees = Unit {0}
IsSayGiven (Objects error) = Unit {0}
IsSayGiven (Gives octets) = IsDataField octets

pub say_given : (said : DeviceSay) → IsGiven said → IsSayGiven (said_value said)
say_given saids.Agrees given = given
say_given (saids.Objects error) given = given
say_given (saids.Gives octets) given = given

given_fits : (octets : List ℕ) (small : Bool)
    → length octets % 2 ≡ 0
    → nat_le (length octets) 130 ≡ small
    → FitsOutcome actions.Set 130 (given 130 octets)
given_fits octets true even small = grind arith
given_fits octets false even small = grind arith

given_to-fits : (action : Action) (octets : List ℕ)
    → is_change action ≡ true
    → length octets % 2 ≡ 0
    → FitsOutcome action 130 (given_to action octets)
given_to-fits actions.Command octets change even = refl
given_to-fits actions.Set octets change even = given_fits octets (nat_le (length octets) 130) even refl
given_to-fits _ octets change even = absurd (false≢true change)

outcome_fits : (refusal : Option ErrorId) (q : RequestValue) (say : Say)
    → is_change q.action ≡ true
    → IsDataField q.octets
    → IsSayGiven say
    → FitsOutcome q.action 130 (relayed_outcome refusal q say)
outcome_fits (Some error) q say change field given = tt
outcome_fits None q Agrees change field given = given_to-fits q.action q.octets change field.even
outcome_fits None q (Objects error) change field given = tt
outcome_fits None q (Gives octets) change field given = given_to-fits q.action octets change given.even

of_port-fits : (b : Bool) (refusal : Option ErrorId) (q : RequestValue) (say : Say)
    → b ≡ false
    → FitsOutcome q.action 130 (relayed_outcome refusal q say)
    → All (FitsAnswer b q.action) (reply_relayed refusal q say).answers
of_port-fits true refusal q say none fits = absurd (true≢false none)
of_port-fits false refusal q say none fits =
    All-cons (FitsAnswer false q.action) (record { port = None; outcome = relayed_outcome refusal q say }) []
    (refl, fits) (All-nil (FitsAnswer false q.action))

pub reply_relayed-fits : (refusal : Option ErrorId) (q : RequestValue) (say : Say) (reply : ReplyValue)
    → is_change q.action ≡ true
    → row_of q.id ≡ None
    → IsDataField q.octets
    → IsSayGiven say
    → reply ≡ reply_relayed refusal q say
    → FitsRequest q reply
reply_relayed-fits refusal q say reply change lacked field given is =
    let none : is_of_port q.id ≡ false = of_no_port q lacked in
    subst (λ (r : ReplyValue). FitsRequest q r) (sym is)
    (record {
      action = refl;
      id = refl;
      count = subst (λ (b : Bool). FitsCount b 1) (sym none) refl;
      answers = of_port-fits (is_of_port q.id) refusal q say none (outcome_fits refusal q say change field given);
    })

-- ---- and is then what the turn sends

-- a new SET or COMMAND of a manager
pub new_change : (c : Clock) (s : State) (v : Message) (rights : Rights)
    → rights_of_change c s v ≡ Some rights
    → (judged c s v ≡ verdicts.AnsweredNew) × ((is_change (request_of v).action ≡ true) × (c.rights v.source ≡ rights))
new_change c s v rights e =
    let p = cond_some (is_new (judged c s v) && is_change (request_of v).action) (c.rights v.source) rights e in
    let q = and_parts _ _ p.0 in
    (is_new-true (judged c s v) q.0, (q.1, p.1))

pub change_known : (c : Clock) (s : State) (v : Message) (rights : Rights)
    → rights_of_change c s v ≡ Some rights
    → is_known v.source c.managers ≡ true
change_known c s v rights e = (new_parts c s v (new_change c s v rights e).0).known

pub change_made : (rows : List RelayedId) (v : Message) (r : RelayedId)
    → relayed rows (request_of v) ≡ Some r
    → is_change (request_of v).action ≡ true
change_made rows v r found = (relayed_parts rows (request_of v) r found).0

pub change_lacked : (rows : List RelayedId) (v : Message) (r : RelayedId)
    → relayed rows (request_of v) ≡ Some r
    → row_of (request_of v).id ≡ None
change_lacked rows v r found = (relayed_parts rows (request_of v) r found).1

pub relayed_turned : (rows : List RelayedId) (c after : Clock) (s kept : State) (say : Say) (ingress : ℕ) (datagram : List ℕ) (v : Message)
    (r : RelayedId) (rights : Rights) (w : Verdict) (out : List (ℕ × List ℕ)) (next : State)
    → message_of datagram ≡ Some v
    → v.number < 65536
    → relayed rows (request_of v) ≡ Some r
    → rights_of_change c s v ≡ Some rights
    → after ≡ c
    → kept ≡ after_reply s (numbered_from v) (reply_relayed (relayed_refusal r (request_of v) rights) (request_of v) say)
    → IsTurned (turn after kept ingress datagram) w out next
    → IsTurned (turn_said rows c s say ingress datagram) verdicts.AnsweredNew out next
relayed_turned rows c after s kept say ingress datagram v r rights w out next read small found new clock is turned =
    let p = new_change c s v rights new in
    turned_replied rows c s say ingress datagram v (reply_relayed (relayed_refusal r (request_of v) rights) (request_of v) say) w out next
    read p.0 small
    (ap (λ (o : Option RelayedId). reply_at o c s.sets v.source (request_of v) say) found
    ∙ ap (λ (x : Rights). Some (reply_relayed (relayed_refusal r (request_of v) x) (request_of v) say)) p.1.1)
    (moved_turn c after kept _ ingress datagram w out next clock is turned)

-- ---- where no row counts

unread_message : (datagram : List ℕ) (cause : DecodeError) → reading datagram ≡ Err cause → message_of datagram ≡ None
unfolding message_of
unread_message datagram cause read = grind arith

pub unread_turn : (rows : List RelayedId) (c : Clock) (s : State) (say : Say) (ingress : ℕ) (datagram : List ℕ) (cause : DecodeError)
    → reading datagram ≡ Err cause
    → turn_said rows c s say ingress datagram ≡ turn_said [] c s say ingress datagram
unread_turn rows c s say ingress datagram cause read =
    let none = unread_message datagram cause read in
    turn_said-unread rows c s say ingress datagram none ∙ sym (turn_said-unread [] c s say ingress datagram none)

pub unrelayed_turn : (rows : List RelayedId) (c : Clock) (s : State) (say : Say) (ingress : ℕ) (datagram : List ℕ) (v : Message)
    → message_of datagram ≡ Some v
    → relayed rows (request_of v) ≡ None
    → turn_said rows c s say ingress datagram ≡ turn_said [] c s say ingress datagram
unfolding is_relayed
unrelayed_turn rows c s say ingress datagram v read none =
    turn_said-unrelayed rows c s say ingress datagram
    (ap (is_relayed_in rows) read ∙ ap (λ (o : Option RelayedId). is_some o) none)

pub old_turn : (rows : List RelayedId) (c : Clock) (s : State) (say : Say) (ingress : ℕ) (datagram : List ℕ) (v : Message) (r : RelayedId)
    → message_of datagram ≡ Some v
    → relayed rows (request_of v) ≡ Some r
    → rights_of_change c s v ≡ None
    → turn_said rows c s say ingress datagram ≡ turn_said [] c s say ingress datagram
old_turn rows c s say ingress datagram v r read found none =
    let change = (relayed_parts rows (request_of v) r found).0 in
    turn_said-old rows c s say ingress datagram v read (unchanged (is_new (judged c s v)) (is_change (request_of v).action) change
    (not_asked_at Rights (is_new (judged c s v) && is_change (request_of v).action) (c.rights v.source) none))
  where
    unchanged : (a b : Bool) → b ≡ true → (a && b) ≡ false → a ≡ false
    unchanged true b change away = absurd (true≢false (sym change ∙ away))
    unchanged false b change away = refl
