-- A request that is kept with the device's reply is a repeat by then, and is answered as one. A value that is not kept is sent
-- after the copies that are passed on.
use Rattle.std.proofs.Common.{arith, ◌≡◌, ℕ, ◌<◌, ◌%◌, ◌++◌, List, [], ◌∷◌, is_none, is_some, nat_le, if◌then◌else◌, Option, Some, None, Ok, Bool, true, false, length, refl, sym, ◌∙◌, ap, subst}
use Rattle.std.specs.Prelude.{IfSome}
use Rattle.std.proofs.lemmas.Bool.{and_from, and_parts, cond-true, false≢true, true≢false}
use Rattle.std.proofs.lemmas.Option.{cond_some}
use Rattle.std.proofs.lemmas.List.Elements.{All-cons, All-nil}
use Rattle.std.specs.List.{All}
use Rattle.std.specs.FinMap.{get}
use Rattle.ptpm_codec.specs.declared.error.ErrorId.{ErrorId}
use Rattle.ptpm_codec.specs.declared.message.Action.TheVariants as actions
use Rattle.ptpm_codec.specs.declared.message.Message.{Message}
use Rattle.ptpm_codec.specs.declared.identity.ClockIdentity.{ClockIdentity}
use Rattle.ptpm_codec.specs.declared.message.Body.TheVariants as bodies
use Rattle.ptpm_codec.specs.Canonical.{canonical}
use Rattle.ptpm_codec.specs.Envelope.{sent_with}
use Rattle.ptpm_codec.specs.Message.{IsDataField, IsRequestAction, action_of, id_of, reply_action}
use Rattle.ptpm_codec.specs.Reading.{message_of}
use Rattle.ptpm_data.specs.ManagementId.{is_of_port, row_of}
use Rattle.ptpm_data.specs.Refusals.{refusal_of}
use Rattle.ptpm_data.specs.Replies.{is_get, reply_of}
use Rattle.ptpm_data.specs.Reply.{ReplyValue, Value}
use Rattle.ptpm_data.specs.Request.{RequestValue}
use Rattle.ptpm_table.specs.declared.reply_table.Look.TheVariants as looks
use Rattle.ptpm_table.specs.Entries.{Entry, FitsAnswer, FitsCount, FitsOutcome, FitsRequest, is_known}
use Rattle.ptpm_table.specs.Numbering.{look_at}
use Rattle.ptpm_table.specs.Rendering.{rendered, reply_message}
use Rattle.ptpm_table.specs.Sending.{empty_reply}
use Rattle.ptpm_agent.specs.declared.verdict.Verdict.{Verdict}
use Rattle.ptpm_agent.specs.declared.verdict.Verdict.TheVariants as verdicts
use Rattle.ptpm_agent.specs.Addressing.{heard_of, request_of}
use Rattle.ptpm_agent.specs.Agent.{IsTurned}
use Rattle.ptpm_agent.specs.Forwarding.{forwarded}
use Rattle.ptpm_agent.specs.Turn.{Clock, NumberedRequest, State, Turned, judged, kept_reply_of, next_by, numbered_from, reply_by, reply_messages, turn, turn_by}
use Rattle.ptpm_agent.proofs.Entries.{get-insert_same}
use Rattle.ptpm_agent.proofs.Turns.{CopyParts, forwarded-copy, judged-copy, new_parts, turn-message}
use Rattle.ptpm_device.specs.declared.relayed.RelayedId.{RelayedId}
use Rattle.ptpm_device.specs.Asking.{is_asked, is_lacked, is_new, is_permitted, is_unnumbered, is_wanted_once, wanted_new, wanted_once}
use Rattle.ptpm_device.specs.Saying.{Gives, Objects, Say, after_reply, given, given_by, reply_given, reply_said, turn_said}
use Rattle.ptpm_device.proofs.WhenAsked.{WantedParts, not_wanted_new, wanted_once-read, wanted_parts}
use Rattle.ptpm_device.proofs.Judged.{asked-parts, given_told, is_get-true, lacked_row}
use Rattle.ptpm_device.proofs.New.{look_at-kept}
use Rattle.ptpm_device.proofs.Steps.{none_of, refusal_in-alone, reply_said-alone, turn_said-each, turn_said-new}

-- ---- what the device is asked about may be kept

pub value_known : (c : Clock) (s : State) (datagram : List ℕ) (r : NumberedRequest)
    → wanted_new c s datagram ≡ Some r
    → is_known r.manager c.managers ≡ true
value_known c s datagram r e =
    let p = wanted_parts c s datagram r e in
    ap (λ (q : NumberedRequest). is_known q.manager c.managers) p.same ∙ (new_parts c s p.message p.new).known

pub value_lacked : (c : Clock) (s : State) (datagram : List ℕ) (r : NumberedRequest)
    → wanted_new c s datagram ≡ Some r
    → is_lacked r.request ≡ true
value_lacked c s datagram r e =
    let p = wanted_parts c s datagram r e in
    ap (λ (q : NumberedRequest). is_lacked q.request) p.same ∙ p.lacked

-- an id that the clock lacks is of no port
pub of_no_port : (q : RequestValue) → row_of q.id ≡ None → is_of_port q.id ≡ false
of_no_port q none = grind arith

not_command : (q : RequestValue) → is_lacked q ≡ true → q.action ≡ actions.Command → ⊥
not_command q lacked command =
    false≢true (sym (ap is_get command) ∙ (and_parts _ _ lacked).0)

outcome_fits : (q : RequestValue) (octets : List ℕ) (small : Bool)
    → is_lacked q ≡ true
    → length octets % 2 ≡ 0
    → nat_le (length octets) 130 ≡ small
    → FitsOutcome q.action 130 (given 130 octets)
outcome_fits q octets true lacked even small = grind (arith, not_command)
outcome_fits q octets false lacked even small = grind arith

given_fits : (b : Bool) (q : RequestValue) (octets : List ℕ)
    → b ≡ false
    → is_lacked q ≡ true
    → length octets % 2 ≡ 0
    → All (FitsAnswer b q.action) (reply_given 130 q octets).answers
given_fits true q octets none lacked even = absurd (true≢false none)
given_fits false q octets none lacked even =
    All-cons (FitsAnswer false q.action) (record { port = None; outcome = given 130 octets }) []
    (refl, outcome_fits q octets (nat_le (length octets) 130) lacked even refl) (All-nil (FitsAnswer false q.action))

-- a reply with what is given may be kept
pub reply_given-fits : (q : RequestValue) (octets : List ℕ) (reply : ReplyValue)
    → is_lacked q ≡ true
    → IsDataField octets
    → reply ≡ reply_given 130 q octets
    → FitsRequest q reply
reply_given-fits q octets reply lacked field is =
    let none : is_of_port q.id ≡ false = of_no_port q (lacked_row q lacked) in
    subst (λ (r : ReplyValue). FitsRequest q r) (sym is)
    (record {
      action = refl;
      id = refl;
      count = subst (λ (b : Bool). FitsCount b 1) (sym none) refl;
      answers = given_fits (is_of_port q.id) q octets none lacked field.even;
    })

-- ---- and is then a repeat

abbrev replied_entry : Message → ReplyValue → Entry
replied_entry v reply = record { number = v.number; request = request_of v; reply = reply }

repeat_kept : (c : Clock) (s : State) (v : Message) (reply : ReplyValue)
    → CopyParts c (length s.sets.ports) v
    → v.number < 65536
    → judged c (after_reply s (numbered_from v) reply) v ≡ verdicts.AnsweredRepeat
repeat_kept c s v reply parts small =
    let kept = after_reply s (numbered_from v) reply in
    let look : look_at (get kept.entries v.source) v.number (request_of v) ≡ looks.Repeat =
    ap (λ (o : Option Entry). look_at o v.number (request_of v)) (get-insert_same s.entries v.source (replied_entry v reply))
    ∙ look_at-kept (replied_entry v reply) v.number (request_of v) small refl refl in
    judged-copy (λ (w : Verdict). w ≡ verdicts.AnsweredRepeat) c kept v looks.Repeat parts look
    (λ d. refl) (λ d r. absurd (true≢false r))

-- the clock's own turn on it
abbrev again : Clock → State → ℕ → Message → ReplyValue → Turned
again c s ingress v reply = record {
  verdict = verdicts.AnsweredRepeat;
  forwards = [];
  replies = rendered c.identity (heard_of v) reply ingress;
  next = after_reply s (numbered_from v) reply;
}

turn-kept : (c : Clock) (s : State) (ingress : ℕ) (datagram : List ℕ) (v : Message) (reply : ReplyValue)
    → forwarded c.identity ingress s.sets datagram ≡ []
    → judged c (after_reply s (numbered_from v) reply) v ≡ verdicts.AnsweredRepeat
    → turn_by c (after_reply s (numbered_from v) reply) ingress datagram (Ok v) ≡ again c s ingress v reply
turn-kept c s ingress datagram v reply none repeat =
    let kept : State = after_reply s (numbered_from v) reply in
    let moved : turn_by c kept ingress datagram (Ok v) ≡ record {
      verdict = verdicts.AnsweredRepeat;
      forwards = [];
      replies = reply_messages c ingress (heard_of v) (kept_reply_of (get kept.entries v.source));
      next = kept;
    } =
    λ i. record {
      verdict = repeat i;
      forwards = none i;
      replies = reply_messages c ingress (heard_of v) (reply_by (repeat i) c kept v);
      next = next_by (repeat i) c kept v;
    } in
    moved ∙ ap (λ (o : Option Entry). record {
      verdict = verdicts.AnsweredRepeat;
      forwards = [];
      replies = reply_messages c ingress (heard_of v) (kept_reply_of o);
      next = kept;
    }) (get-insert_same s.entries v.source (replied_entry v reply))

own_turn : (c : Clock) (s : State) (ingress : ℕ) (datagram : List ℕ) (v : Message) (reply : ReplyValue)
    → message_of datagram ≡ Some v
    → judged c s v ≡ verdicts.AnsweredNew
    → v.number < 65536
    → turn c (after_reply s (numbered_from v) reply) ingress datagram ≡ again c s ingress v reply
own_turn c s ingress datagram v reply read new small =
    let parts : CopyParts c (length s.sets.ports) v = new_parts c s v new in
    turn-message c (after_reply s (numbered_from v) reply) ingress datagram v read
    ∙ turn-kept c s ingress datagram v reply (forwarded-copy c ingress s.sets datagram v read parts.target) (repeat_kept c s v reply parts small)

-- a call that keeps the device's reply, and then hands the datagram to the clock, against the turn
pub turned_replied : (rows : List RelayedId) (c : Clock) (s : State) (say : Say) (ingress : ℕ) (datagram : List ℕ) (v : Message) (reply : ReplyValue)
    (w : Verdict) (out : List (ℕ × List ℕ)) (next : State)
    → message_of datagram ≡ Some v
    → judged c s v ≡ verdicts.AnsweredNew
    → v.number < 65536
    → reply_said rows c s.sets v.source (request_of v) say ≡ Some reply
    → IsTurned (turn c (after_reply s (numbered_from v) reply) ingress datagram) w out next
    → IsTurned (turn_said rows c s say ingress datagram) verdicts.AnsweredNew out next
turned_replied rows c s say ingress datagram v reply w out next read new small said turned =
    let t : IsTurned (again c s ingress v reply) w out next =
    subst (λ (u : Turned). IsTurned u w out next) (own_turn c s ingress datagram v reply read new small) turned in
    subst (λ (u : Turned). IsTurned u verdicts.AnsweredNew out next) (sym (turn_said-new rows c s say ingress datagram v (Some reply) read new said))
    (record {
      verdict_is = refl;
      outbox_is = t.outbox_is;
      sets_are = t.sets_are;
      entries_are = t.entries_are;
    })

pub moved_turn : (c after : Clock) (kept from : State) (ingress : ℕ) (datagram : List ℕ) (w : Verdict) (out : List (ℕ × List ℕ)) (next : State)
    → after ≡ c
    → kept ≡ from
    → IsTurned (turn after kept ingress datagram) w out next
    → IsTurned (turn c from ingress datagram) w out next
moved_turn c after kept from ingress datagram w out next clock is turned =
    subst (λ (u : Turned). IsTurned u w out next) (λ i. turn (clock i) (is i) ingress datagram) turned

-- ---- an objection

pub turned_objected : (c : Clock) (s : State) (error : ErrorId) (ingress : ℕ) (datagram : List ℕ) (v : Message)
    (out : List (ℕ × List ℕ)) (next : State)
    → message_of datagram ≡ Some v
    → is_asked [] c s v ≡ true
    → out ≡ rendered c.identity (heard_of v) (reply_of (request_of v) (Some error) s.sets) ingress
    → next ≡ after_reply s (numbered_from v) (reply_of (request_of v) (Some error) s.sets)
    → IsTurned (turn_said [] c s (Objects error) ingress datagram) verdicts.AnsweredNew out next
turned_objected c s error ingress datagram v out next read is sent kept =
    let p = asked-parts [] c s v is in
    let reply = reply_of (request_of v) (Some error) s.sets in
    let none : refusal_of (request_of v) (c.rights v.source) ≡ None = sym (refusal_in-alone (request_of v) (c.rights v.source)) ∙ p.1.1 in
    let permitted : is_permitted c v.source (request_of v) ≡ true = and_from _ _ p.1.0 (ap is_none none) in
    subst (λ (u : Turned). IsTurned u verdicts.AnsweredNew out next)
    (sym (turn_said-new [] c s (Objects error) ingress datagram v (Some reply) read p.0
    (reply_said-alone c s.sets v.source (request_of v) (Objects error) ∙ cond-true _ _ _ permitted)))
    (record {
      verdict_is = refl;
      outbox_is = sent;
      sets_are = ap (λ (n : State). n.sets) kept;
      entries_are = ap (λ (n : State). n.entries) kept;
    })

-- ---- a value that is kept, and then the clock's own turn

kept_at : (c : Clock) (s : State) (o : Option NumberedRequest) (octets : List ℕ) (ingress : ℕ) (datagram : List ℕ)
    (w : Verdict) (out : List (ℕ × List ℕ)) (next : State)
    → wanted_new c s datagram ≡ o
    → is_some o ≡ true
    → IfSome o (λ r. r.number < 65536)
    → IsTurned (turn c (given_by s o octets) ingress datagram) w out next
    → IsTurned (turn_said [] c s (Gives octets) ingress datagram) verdicts.AnsweredNew out next
kept_at c s None octets ingress datagram w out next e some small turned = absurd (false≢true some)
kept_at c s (Some r) octets ingress datagram w out next e some small turned =
    let p : WantedParts c s datagram r = wanted_parts c s datagram r e in
    let v : Message = p.message in
    turned_replied [] c s (Gives octets) ingress datagram v (reply_given 130 (request_of v) octets) w out next p.read p.new
    (subst (λ (x : NumberedRequest). x.number < 65536) p.same small)
    (reply_said-alone c s.sets v.source (request_of v) (Gives octets) ∙ cond-true _ _ _ p.lacked)
    (subst (λ (x : NumberedRequest). IsTurned (turn c (after_reply s x (reply_given 130 x.request octets)) ingress datagram) w out next)
    p.same turned)

pub turned_kept : (c : Clock) (s : State) (octets : List ℕ) (ingress : ℕ) (datagram : List ℕ)
    (after : Clock) (kept : State) (w : Verdict) (out : List (ℕ × List ℕ)) (next : State)
    → is_some (wanted_new c s datagram) ≡ true
    → IfSome (wanted_new c s datagram) (λ r. r.number < 65536)
    → after ≡ c
    → kept ≡ given_by s (wanted_new c s datagram) octets
    → IsTurned (turn after kept ingress datagram) w out next
    → IsTurned (turn_said [] c s (Gives octets) ingress datagram) verdicts.AnsweredNew out next
turned_kept c s octets ingress datagram after kept w out next some small clock is turned =
    kept_at c s (wanted_new c s datagram) octets ingress datagram w out next refl some small
    (moved_turn c after kept (given_by s (wanted_new c s datagram) octets) ingress datagram w out next clock is turned)

-- ---- a value for which it is not asked

lacked_if : (q : RequestValue) (most : ℕ) (octets : List ℕ) (reply : ReplyValue)
    → (if is_lacked q then Some (reply_given most q octets) else None) ≡ Some reply
    → is_lacked q ≡ true
lacked_if q most octets reply said = (cond_some (is_lacked q) (reply_given most q octets) reply said).0

-- any other turn is the clock's own
pub turned_ungiven : (c : Clock) (s : State) (octets : List ℕ) (ingress : ℕ) (datagram : List ℕ)
    (after : Clock) (kept : State) (w : Verdict) (out : List (ℕ × List ℕ)) (next : State)
    → is_some (wanted_new c s datagram) ≡ false
    → wanted_once c s datagram ≡ false
    → after ≡ c
    → kept ≡ given_by s (wanted_new c s datagram) octets
    → IsTurned (turn after kept ingress datagram) w out next
    → IsTurned (turn_said [] c s (Gives octets) ingress datagram) w out next
turned_ungiven c s octets ingress datagram after kept w out next other once clock is turned =
    let none : wanted_new c s datagram ≡ None = none_of (wanted_new c s datagram) other in
    let own : turn_said [] c s (Gives octets) ingress datagram ≡ turn c s ingress datagram =
    turn_said-each (λ (t : Turned). t ≡ turn c s ingress datagram) [] c s (Gives octets) ingress datagram refl
    (λ v reply read new said.
    let lacked : is_lacked (request_of v) ≡ true = lacked_if (request_of v) 130 octets reply
    (sym (reply_said-alone c s.sets v.source (request_of v) (Gives octets)) ∙ said) in
    absurd (true≢false (sym (and_from _ _ (ap is_new new) lacked) ∙ not_wanted_new c s datagram v read none)))
    (λ v reply read unnumbered told.
    let lacked : is_lacked (request_of v) ≡ true = lacked_if (request_of v) 1418 octets reply told in
    absurd (true≢false (sym (and_from _ _ (ap is_unnumbered unnumbered) lacked) ∙ (sym (wanted_once-read c s datagram v read) ∙ once)))) in
    subst (λ (u : Turned). IsTurned u w out next) (sym own)
    (moved_turn c after kept s ingress datagram w out next clock (is ∙ ap (λ (o : Option NumberedRequest). given_by s o octets) none) turned)

-- ---- a value that is not kept

is_unnumbered-true : (w : Verdict) → is_unnumbered w ≡ true → w ≡ verdicts.AnsweredUnnumbered
is_unnumbered-true verdicts.AnsweredUnnumbered e = refl
is_unnumbered-true _ e = absurd (false≢true e)

-- the copies that are passed on, and then the value
pub turned_once : (c : Clock) (s : State) (octets : List ℕ) (ingress : ℕ) (datagram : List ℕ) (v : Message)
    (out : List (ℕ × List ℕ))
    → message_of datagram ≡ Some v
    → is_wanted_once c s v ≡ true
    → out ≡ forwarded c.identity ingress s.sets datagram
    ++ rendered c.identity (heard_of v) (reply_given 1418 (request_of v) octets) ingress
    → IsTurned (turn_said [] c s (Gives octets) ingress datagram) verdicts.AnsweredUnnumbered out s
turned_once c s octets ingress datagram v out read wanted is =
    let p = and_parts _ _ wanted in
    subst (λ (u : Turned). IsTurned u verdicts.AnsweredUnnumbered out s)
    (sym (given_told [] c s ingress datagram octets v read (is_unnumbered-true (judged c s v) p.0) p.1))
    (record { verdict_is = refl; outbox_is = is; sets_are = refl; entries_are = refl })

-- ---- the message of a value, as code writes it

lacked_action : (q : RequestValue) → is_lacked q ≡ true → q.action ≡ actions.Get
lacked_action q lacked = is_get-true q.action (and_parts _ _ lacked).0

pub lacked_request : (q : RequestValue) → is_lacked q ≡ true → IsRequestAction q.action
lacked_request q lacked = subst IsRequestAction (sym (lacked_action q lacked)) (grind arith)

pub rendered_given : (me : ClockIdentity) (v draft : Message) (id : ℕ) (octets : List ℕ) (ingress : ℕ)
    → is_lacked (request_of v) ≡ true
    → IsDataField octets
    → id ≡ id_of v.body
    → draft ≡ empty_reply me (heard_of v) actions.Response (id_of v.body) ingress
    → (ingress, canonical (sent_with draft ingress (bodies.Answer actions.Response id octets))) ∷ []
    ≡ rendered me (heard_of v) (reply_given 1418 (request_of v) octets) ingress
unfolding rendered
rendered_given me v draft id octets ingress lacked field named same =
    let small : nat_le (length octets) 1418 ≡ true = grind arith in
    let one : given 1418 octets ≡ Value octets = cond-true _ _ _ small in
    let response : actions.Response ≡ reply_action (action_of v.body) = sym (ap reply_action (lacked_action (request_of v) lacked)) in
    (λ i. (ingress, canonical (sent_with (same i) ingress (bodies.Answer actions.Response (named i) octets))) ∷ [])
    ∙ (λ i. (ingress, canonical (reply_message me (heard_of v) (response i) (id_of v.body) ingress (record { port = None; outcome = sym one i }))) ∷ [])

pub wanted_once_lacked : (c : Clock) (s : State) (v : Message)
    → is_wanted_once c s v ≡ true
    → is_lacked (request_of v) ≡ true
wanted_once_lacked c s v wanted = (and_parts _ _ wanted).1
