-- One delivery at a clock whose device has a say.
use Rattle.std.proofs.Common.{arith, ◌≡◌, ℕ, ◌<◌, is_some, List, [], Option, Some, None, Bool, true, false, length, refl, sym, ◌∙◌, ap, subst, ⊎_elim}
use Rattle.std.proofs.lemmas.Bool.{cases_Bool, cond-true, cond-false, true≢false, false≢true}
use Rattle.std.specs.FinMap.{get, insert}
use Rattle.std.specs.Option.{option_or}
use Rattle.ptpm_codec.specs.declared.identity.PortIdentity.{PortIdentity}
use Rattle.ptpm_codec.specs.declared.message.Message.{Message}
use Rattle.ptpm_codec.specs.Identity.{same_identity}
use Rattle.ptpm_codec.specs.Reading.{message_of}
use Rattle.ptpm_codec.proofs.MessageLaws.{same_identity-true}
use Rattle.ptpm_data.specs.declared.rights.Rights.{Rights}
use Rattle.ptpm_data.specs.Members.{DataSetsValue}
use Rattle.ptpm_data.specs.Refusals.{refusal_of}
use Rattle.ptpm_data.specs.Reply.{ReplyValue}
use Rattle.ptpm_data.specs.Request.{RequestValue}
use Rattle.ptpm_table.specs.declared.serial.Serial.{Serial}
use Rattle.ptpm_table.specs.declared.serial.Serial.TheVariants.{Newer, Older, Same}
use Rattle.ptpm_table.specs.Entries.{Entry}
use Rattle.ptpm_table.specs.Numbering.{look_at, look_by, same_request}
use Rattle.ptpm_table.specs.Serial.{serial_of}
use Rattle.ptpm_table.proofs.Identities.{same_identity-refl}
use Rattle.ptpm_agent.specs.declared.verdict.Verdict.{Verdict}
use Rattle.ptpm_agent.specs.declared.verdict.Verdict.TheVariants as verdicts
use Rattle.ptpm_agent.specs.Addressing.{request_of}
use Rattle.ptpm_agent.specs.Laws.{IsKept, IsLatest, StandsAt, due_messages}
use Rattle.ptpm_agent.specs.Once.{Delivery, History, RequestCopy, after_copy, copy_from, copy_of, due_reply, greatest, is_copy, joins}
use Rattle.ptpm_agent.specs.Turn.{Clock, State, Turned, judged, next_by, numbered_from, turn, verdict_at}
use Rattle.ptpm_agent.specs.Window.{IsInTime, IsNumbered}
use Rattle.ptpm_agent.proofs.AtMostOnce.{TurnsAs, delivers_copy, no_copy, turn-no_copy, turns_as}
use Rattle.ptpm_agent.proofs.Entries.{get-insert_other, get-insert_same, greatest_other}
use Rattle.ptpm_agent.proofs.Turns.{copy_parts, is_copy-new, judged-copy, turn-message}
use Rattle.ptpm_device.specs.declared.relayed.RelayedId.{RelayedId}
use Rattle.ptpm_device.specs.Asking.{is_new, is_relayed, is_relayed_in}
use Rattle.ptpm_device.specs.Decided.{after_decision, after_reply_to, due_decided, replied_copy, reply_decided}
use Rattle.ptpm_device.specs.Saying.{Agrees, Say, after_reply, new_said, reply_at, reply_own, reply_said, reply_told, said_at, said_by, turn_said, unnumbered_said}
use Rattle.ptpm_device.specs.Relayed.{refusal_in, relayed}
use Rattle.ptpm_device.proofs.New.{is_new-joins, is_new-true}

pub none_of : {A : Type 0} (o : Option A) → is_some o ≡ false → o ≡ None
none_of None e = refl
none_of (Some a) e = absurd (true≢false e)

-- ---- a turn

pub turn_said-unread : (rows : List RelayedId) (c : Clock) (s : State) (say : Say) (ingress : ℕ) (datagram : List ℕ)
    → message_of datagram ≡ None
    → turn_said rows c s say ingress datagram ≡ turn c s ingress datagram
unfolding turn_said
turn_said-unread rows c s say ingress datagram r = ap (λ (o : Option Message). said_by rows c s ingress datagram o say) r

pub turn_said-at : (rows : List RelayedId) (c : Clock) (s : State) (say : Say) (ingress : ℕ) (datagram : List ℕ) (v : Message) (w : Verdict)
    → message_of datagram ≡ Some v
    → judged c s v ≡ w
    → turn_said rows c s say ingress datagram ≡ said_at w rows c s ingress datagram v say
unfolding turn_said
turn_said-at rows c s say ingress datagram v w r e =
    ap (λ (o : Option Message). said_by rows c s ingress datagram o say) r ∙ ap (λ (u : Verdict). said_at u rows c s ingress datagram v say) e

-- a new request is answered by the device, if the say makes a reply
pub turn_said-new : (rows : List RelayedId) (c : Clock) (s : State) (say : Say) (ingress : ℕ) (datagram : List ℕ) (v : Message) (o : Option ReplyValue)
    → message_of datagram ≡ Some v
    → judged c s v ≡ verdicts.AnsweredNew
    → reply_said rows c s.sets v.source (request_of v) say ≡ o
    → turn_said rows c s say ingress datagram ≡ new_said c s ingress datagram v o
turn_said-new rows c s say ingress datagram v o r e said =
    turn_said-at rows c s say ingress datagram v verdicts.AnsweredNew r e ∙ ap (new_said c s ingress datagram v) said

pub turn_said-unnumbered : (rows : List RelayedId) (c : Clock) (s : State) (say : Say) (ingress : ℕ) (datagram : List ℕ) (v : Message) (o : Option ReplyValue)
    → message_of datagram ≡ Some v
    → judged c s v ≡ verdicts.AnsweredUnnumbered
    → reply_told (request_of v) say ≡ o
    → turn_said rows c s say ingress datagram ≡ unnumbered_said c s ingress datagram v o
turn_said-unnumbered rows c s say ingress datagram v o r e told =
    turn_said-at rows c s say ingress datagram v verdicts.AnsweredUnnumbered r e ∙ ap (unnumbered_said c s ingress datagram v) told

said_at-other : (w : Verdict) (rows : List RelayedId) (c : Clock) (s : State) (ingress : ℕ) (datagram : List ℕ) (v : Message) (say : Say)
    → (w ≡ verdicts.AnsweredNew → ⊥)
    → (w ≡ verdicts.AnsweredUnnumbered → ⊥)
    → said_at w rows c s ingress datagram v say ≡ turn c s ingress datagram
said_at-other verdicts.AnsweredNew rows c s ingress datagram v say new unnumbered = absurd (new refl)
said_at-other verdicts.AnsweredUnnumbered rows c s ingress datagram v say new unnumbered = absurd (unnumbered refl)
said_at-other _ rows c s ingress datagram v say new unnumbered = refl

pub turn_said-other : (rows : List RelayedId) (c : Clock) (s : State) (say : Say) (ingress : ℕ) (datagram : List ℕ) (v : Message)
    → message_of datagram ≡ Some v
    → (judged c s v ≡ verdicts.AnsweredNew → ⊥)
    → (judged c s v ≡ verdicts.AnsweredUnnumbered → ⊥)
    → turn_said rows c s say ingress datagram ≡ turn c s ingress datagram
turn_said-other rows c s say ingress datagram v r new unnumbered =
    turn_said-at rows c s say ingress datagram v (judged c s v) r refl
    ∙ said_at-other (judged c s v) rows c s ingress datagram v say new unnumbered

-- ---- what holds of each turn

-- what holds of the clock's own turn, and of each that the device answers, holds of the turn
module _ (P : Turned → Type 0) (rows : List RelayedId) (c : Clock) (s : State) (say : Say) (ingress : ℕ) (datagram : List ℕ) where
  each_new : (v : Message) (o : Option ReplyValue)
      → P (turn c s ingress datagram)
      → ((reply : ReplyValue) → o ≡ Some reply → P (new_said c s ingress datagram v (Some reply)))
      → P (new_said c s ingress datagram v o)
  each_new v None own replied = own
  each_new v (Some reply) own replied = replied reply refl

  each_unnumbered : (v : Message) (o : Option ReplyValue)
      → P (turn c s ingress datagram)
      → ((reply : ReplyValue) → o ≡ Some reply → P (unnumbered_said c s ingress datagram v (Some reply)))
      → P (unnumbered_said c s ingress datagram v o)
  each_unnumbered v None own told = own
  each_unnumbered v (Some reply) own told = told reply refl

  each_at : (v : Message) (w : Verdict)
      → judged c s v ≡ w
      → P (turn c s ingress datagram)
      → ((reply : ReplyValue) → judged c s v ≡ verdicts.AnsweredNew → reply_said rows c s.sets v.source (request_of v) say ≡ Some reply
      → P (new_said c s ingress datagram v (Some reply)))
      → ((reply : ReplyValue) → judged c s v ≡ verdicts.AnsweredUnnumbered → reply_told (request_of v) say ≡ Some reply
      → P (unnumbered_said c s ingress datagram v (Some reply)))
      → P (said_at w rows c s ingress datagram v say)
  each_at v verdicts.AnsweredNew e own replied told =
      each_new v (reply_said rows c s.sets v.source (request_of v) say) own (λ reply is. replied reply e is)
  each_at v verdicts.AnsweredUnnumbered e own replied told =
      each_unnumbered v (reply_told (request_of v) say) own (λ reply is. told reply e is)
  each_at v _ e own replied told = own

  each_of : (o : Option Message)
      → message_of datagram ≡ o
      → P (turn c s ingress datagram)
      → ((v : Message) (reply : ReplyValue) → message_of datagram ≡ Some v → judged c s v ≡ verdicts.AnsweredNew
      → reply_said rows c s.sets v.source (request_of v) say ≡ Some reply
      → P (new_said c s ingress datagram v (Some reply)))
      → ((v : Message) (reply : ReplyValue) → message_of datagram ≡ Some v → judged c s v ≡ verdicts.AnsweredUnnumbered
      → reply_told (request_of v) say ≡ Some reply
      → P (unnumbered_said c s ingress datagram v (Some reply)))
      → P (said_by rows c s ingress datagram o say)
  each_of None read own replied told = own
  each_of (Some v) read own replied told =
      each_at v (judged c s v) refl own (λ reply e is. replied v reply read e is) (λ reply e is. told v reply read e is)

  pub turn_said-each : P (turn c s ingress datagram)
      → ((v : Message) (reply : ReplyValue) → message_of datagram ≡ Some v → judged c s v ≡ verdicts.AnsweredNew
      → reply_said rows c s.sets v.source (request_of v) say ≡ Some reply
      → P (new_said c s ingress datagram v (Some reply)))
      → ((v : Message) (reply : ReplyValue) → message_of datagram ≡ Some v → judged c s v ≡ verdicts.AnsweredUnnumbered
      → reply_told (request_of v) say ≡ Some reply
      → P (unnumbered_said c s ingress datagram v (Some reply)))
      → P (turn_said rows c s say ingress datagram)
  unfolding turn_said
  turn_said-each own replied told = each_of (message_of datagram) refl own replied told

-- ---- a datagram that has no row of the table

none-relayed : (q : RequestValue) → relayed [] q ≡ None
unfolding relayed
none-relayed q = refl

pub reply_said-alone : (c : Clock) (d : DataSetsValue) (who : PortIdentity) (q : RequestValue) (say : Say)
    → reply_said [] c d who q say ≡ reply_own c d who q say
unfolding relayed
reply_said-alone c d who q say = refl

pub refusal_in-alone : (q : RequestValue) (rights : Rights) → refusal_in [] q rights ≡ refusal_of q rights
unfolding relayed
refusal_in-alone q rights = refl

said_at-unrelayed : (w : Verdict) (rows : List RelayedId) (c : Clock) (s : State) (ingress : ℕ) (datagram : List ℕ) (v : Message) (say : Say)
    → relayed rows (request_of v) ≡ None
    → said_at w rows c s ingress datagram v say ≡ said_at w [] c s ingress datagram v say
said_at-unrelayed verdicts.AnsweredNew rows c s ingress datagram v say none =
    ap (λ (o : Option RelayedId). new_said c s ingress datagram v (reply_at o c s.sets v.source (request_of v) say))
    (none ∙ sym (none-relayed (request_of v)))
said_at-unrelayed _ rows c s ingress datagram v say none = refl

said_by-unrelayed : (rows : List RelayedId) (c : Clock) (s : State) (ingress : ℕ) (datagram : List ℕ) (o : Option Message) (say : Say)
    → is_relayed_in rows o ≡ false
    → said_by rows c s ingress datagram o say ≡ said_by [] c s ingress datagram o say
said_by-unrelayed rows c s ingress datagram None say away = refl
said_by-unrelayed rows c s ingress datagram (Some v) say away =
    said_at-unrelayed (judged c s v) rows c s ingress datagram v say (none_of (relayed rows (request_of v)) away)

pub turn_said-unrelayed : (rows : List RelayedId) (c : Clock) (s : State) (say : Say) (ingress : ℕ) (datagram : List ℕ)
    → is_relayed rows datagram ≡ false
    → turn_said rows c s say ingress datagram ≡ turn_said [] c s say ingress datagram
unfolding turn_said is_relayed
turn_said-unrelayed rows c s say ingress datagram away = said_by-unrelayed rows c s ingress datagram (message_of datagram) say away

-- nor does the table count for what is no new request
said_at-old : (w : Verdict) (rows : List RelayedId) (c : Clock) (s : State) (ingress : ℕ) (datagram : List ℕ) (v : Message) (say : Say)
    → is_new w ≡ false
    → said_at w rows c s ingress datagram v say ≡ said_at w [] c s ingress datagram v say
said_at-old verdicts.AnsweredNew rows c s ingress datagram v say old = absurd (true≢false old)
said_at-old _ rows c s ingress datagram v say old = refl

pub turn_said-old : (rows : List RelayedId) (c : Clock) (s : State) (say : Say) (ingress : ℕ) (datagram : List ℕ) (v : Message)
    → message_of datagram ≡ Some v
    → is_new (judged c s v) ≡ false
    → turn_said rows c s say ingress datagram ≡ turn_said [] c s say ingress datagram
turn_said-old rows c s say ingress datagram v read old =
    turn_said-at rows c s say ingress datagram v (judged c s v) read refl
    ∙ said_at-old (judged c s v) rows c s ingress datagram v say old
    ∙ sym (turn_said-at [] c s say ingress datagram v (judged c s v) read refl)

-- ---- a clock whose device says nothing

said_at-silent : (w : Verdict) (c : Clock) (s : State) (ingress : ℕ) (datagram : List ℕ) (v : Message)
    → said_at w [] c s ingress datagram v Agrees ≡ turn c s ingress datagram
unfolding relayed
said_at-silent verdicts.AnsweredNew c s ingress datagram v = refl
said_at-silent verdicts.AnsweredUnnumbered c s ingress datagram v = refl
said_at-silent _ c s ingress datagram v = refl

said_by-silent : (c : Clock) (s : State) (ingress : ℕ) (datagram : List ℕ) (o : Option Message)
    → said_by [] c s ingress datagram o Agrees ≡ turn c s ingress datagram
said_by-silent c s ingress datagram None = refl
said_by-silent c s ingress datagram (Some v) = said_at-silent (judged c s v) c s ingress datagram v

pub turn_said-silent : (rows : List RelayedId) (c : Clock) (s : State) (ingress : ℕ) (datagram : List ℕ)
    → is_relayed rows datagram ≡ false
    → turn_said rows c s Agrees ingress datagram ≡ turn c s ingress datagram
unfolding turn_said
turn_said-silent rows c s ingress datagram away =
    turn_said-unrelayed rows c s Agrees ingress datagram away ∙ said_by-silent c s ingress datagram (message_of datagram)

is_relayed_in-alone : (o : Option Message) → is_relayed_in [] o ≡ false
unfolding relayed
is_relayed_in-alone None = refl
is_relayed_in-alone (Some v) = refl

pub is_relayed-alone : (datagram : List ℕ) → is_relayed [] datagram ≡ false
unfolding is_relayed
is_relayed-alone datagram = is_relayed_in-alone (message_of datagram)

-- ---- entries and history after a reply of the device

abbrev replied_entry : Message → ReplyValue → Entry
replied_entry v reply = record { number = v.number; request = request_of v; reply = reply }

IsLatest-replied : (first : PortIdentity → ℕ) (h : History) (x : Delivery) (v : Message) (reply : ReplyValue)
    → IsNumbered first (copy_from x v)
    → greatest v.source h.accepted < x.index
    → IsLatest first (replied_copy h (copy_from x v) reply) v.source (replied_entry v reply)
IsLatest-replied first h x v reply n above = grind (arith, same_identity-refl)

IsKept-other : (first : PortIdentity → ℕ) (h : History) (k : RequestCopy) (reply : ReplyValue)
    (m : PortIdentity) (o : Option Entry)
    → same_identity m k.heard.source ≡ false
    → IsKept first h m o
    → IsKept first (replied_copy h k reply) m o
IsKept-other first h k reply m None other kept =
    greatest_other m (record { manager = k.heard.source; index = k.index; request = k.request; reply = reply }) h.accepted other ∙ kept
IsKept-other first h k reply m (Some e) other kept = grind arith

StandsAt-replied : (first : PortIdentity → ℕ) (s : State) (h : History) (x : Delivery) (v : Message) (reply : ReplyValue)
    → StandsAt first s h
    → IsNumbered first (copy_from x v)
    → greatest v.source h.accepted < x.index
    → StandsAt first (after_reply s (numbered_from v) reply) (replied_copy h (copy_from x v) reply)
StandsAt-replied first s h x v reply at n above = record {
  sets = at.sets;
  entries = λ m.
      let new : History = replied_copy h (copy_from x v) reply in
      let e : Entry = replied_entry v reply in
      ⊎_elim
      (λ (same : same_identity m v.source ≡ true).
      subst (λ (q : PortIdentity). IsKept first new q (get (insert s.entries v.source e) q)) (sym (same_identity-true m v.source same))
      (subst (IsKept first new v.source) (sym (get-insert_same s.entries v.source e)) (IsLatest-replied first h x v reply n above)))
      (λ (other : same_identity m v.source ≡ false). grind (arith, get-insert_other, IsKept-other))
      (cases_Bool (same_identity m v.source));
}

-- ---- a copy in time

-- a turn on a copy leaves this history, sends this reply, and changes nothing if the copy does not join
pub record DecidesAs (first : PortIdentity → ℕ) (rows : List RelayedId) (c : Clock) (s : State) (h : History) (x : Delivery) (say : Say) (k : RequestCopy) : Type 0 where
  pub stands : StandsAt first (turn_said rows c s say x.ingress x.datagram).next (after_decision rows c h k say)
  pub replies : (turn_said rows c s say x.ingress x.datagram).replies ≡ due_messages c k (due_decided rows c h k say)
  pub forwards : (turn_said rows c s say x.ingress x.datagram).forwards ≡ []
  pub stays : joins h k ≡ false → (turn_said rows c s say x.ingress x.datagram).next ≡ s

-- a turn that is the clock's own
decides_as_own : (first : PortIdentity → ℕ) (rows : List RelayedId) (c : Clock) (s : State) (h : History) (x : Delivery)
    (say : Say) (k : RequestCopy)
    → turn_said rows c s say x.ingress x.datagram ≡ turn c s x.ingress x.datagram
    → reply_decided rows c h k say ≡ None
    → TurnsAs first c s h x k
    → DecidesAs first rows c s h x say k
decides_as_own first rows c s h x say k t none turns =
    let due : due_decided rows c h k say ≡ due_reply c h k = ap (λ (o : Option ReplyValue). option_or o (due_reply c h k)) none in
    record {
      stands = subst (λ (u : State). StandsAt first u (after_decision rows c h k say)) (sym (ap (λ (u : Turned). u.next) t))
          (subst (λ (o : Option ReplyValue). StandsAt first (turn c s x.ingress x.datagram).next (after_reply_to c h k o)) (sym none) turns.stands);
      replies = ap (λ (u : Turned). u.replies) t
          ∙ (turns.replies ∙ sym (ap (due_messages c k) due));
      forwards = ap (λ (u : Turned). u.forwards) t ∙ turns.forwards;
      stays = λ j. ap (λ (u : Turned). u.next) t ∙ turns.stays j;
    }

-- the device makes the reply
decides_as_replied : (first : PortIdentity → ℕ) (rows : List RelayedId) (c : Clock) (s : State) (h : History) (x : Delivery)
    (say : Say) (v : Message) (reply : ReplyValue)
    → StandsAt first s h
    → IsInTime first h (copy_from x v)
    → turn_said rows c s say x.ingress x.datagram ≡ new_said c s x.ingress x.datagram v (Some reply)
    → joins h (copy_from x v) ≡ true
    → reply_decided rows c h (copy_from x v) say ≡ Some reply
    → DecidesAs first rows c s h x say (copy_from x v)
decides_as_replied first rows c s h x say v reply at time t j some =
    let k : RequestCopy = copy_from x v in
    let above : greatest v.source h.accepted < x.index = grind arith in
    let due : due_decided rows c h k say ≡ Some reply = ap (λ (o : Option ReplyValue). option_or o (due_reply c h k)) some in
    record {
      stands = subst (λ (u : State). StandsAt first u (after_decision rows c h k say)) (sym (ap (λ (u : Turned). u.next) t))
          (subst (λ (o : Option ReplyValue). StandsAt first (after_reply s (numbered_from v) reply) (after_reply_to c h k o)) (sym some)
          (StandsAt-replied first s h x v reply at time.numbered above));
      replies = ap (λ (u : Turned). u.replies) t ∙ sym (ap (due_messages c k) due);
      forwards = ap (λ (u : Turned). u.forwards) t;
      stays = λ no. absurd (true≢false (sym j ∙ no));
    }

decides_as_new : (first : PortIdentity → ℕ) (rows : List RelayedId) (c : Clock) (s : State) (h : History) (x : Delivery)
    (say : Say) (v : Message) (o : Option ReplyValue)
    → StandsAt first s h
    → IsInTime first h (copy_from x v)
    → message_of x.datagram ≡ Some v
    → TurnsAs first c s h x (copy_from x v)
    → judged c s v ≡ verdicts.AnsweredNew
    → joins h (copy_from x v) ≡ true
    → reply_said rows c h.sets v.source (request_of v) say ≡ o
    → DecidesAs first rows c s h x say (copy_from x v)
decides_as_new first rows c s h x say v None at time read turns new j said =
    decides_as_own first rows c s h x say (copy_from x v)
    (turn_said-new rows c s say x.ingress x.datagram v None read new
    (ap (λ (d : DataSetsValue). reply_said rows c d v.source (request_of v) say) at.sets ∙ said))
    (cond-true _ _ _ j ∙ said) turns
decides_as_new first rows c s h x say v (Some reply) at time read turns new j said =
    decides_as_replied first rows c s h x say v reply at time
    (turn_said-new rows c s say x.ingress x.datagram v (Some reply) read new
    (ap (λ (d : DataSetsValue). reply_said rows c d v.source (request_of v) say) at.sets ∙ said))
    j (cond-true _ _ _ j ∙ said)

-- a copy is numbered
is_unnumbered : Verdict → Bool
is_unnumbered verdicts.AnsweredUnnumbered = true
is_unnumbered _ = false

look_by-numbered : (serial : Serial) (same : Bool) → is_unnumbered (verdict_at (look_by serial same)) ≡ false
unfolding is_unnumbered
look_by-numbered Same true = refl
look_by-numbered Same false = refl
look_by-numbered Newer same = refl
look_by-numbered Older same = refl

look_at-numbered : (v : Message) (o : Option Entry) → is_unnumbered (verdict_at (look_at o v.number (request_of v))) ≡ false
unfolding is_unnumbered
look_at-numbered v None = refl
look_at-numbered v (Some e) = look_by-numbered (serial_of e.number v.number) (same_request e.request (request_of v))

copy-numbered : (c : Clock) (s : State) (v : Message)
    → is_copy c (length s.sets.ports) v ≡ true
    → judged c s v ≡ verdicts.AnsweredUnnumbered
    → ⊥
unfolding is_unnumbered
copy-numbered c s v copy e =
    let l = look_at (get s.entries v.source) v.number (request_of v) in
    let no : is_unnumbered (judged c s v) ≡ false =
    judged-copy (λ (w : Verdict). is_unnumbered w ≡ false) c s v l (copy_parts c (length s.sets.ports) v copy) refl
    (λ d. look_at-numbered v (get s.entries v.source)) (λ d r. refl) in
    true≢false (sym (ap is_unnumbered e) ∙ no)

decides_as_message : (first : PortIdentity → ℕ) (rows : List RelayedId) (c : Clock) (s : State) (h : History) (x : Delivery)
    (say : Say) (v : Message)
    → StandsAt first s h
    → IsInTime first h (copy_from x v)
    → message_of x.datagram ≡ Some v
    → is_copy c (length s.sets.ports) v ≡ true
    → TurnsAs first c s h x (copy_from x v)
    → DecidesAs first rows c s h x say (copy_from x v)
decides_as_message first rows c s h x say v at time read copy turns =
    let t : (turn c s x.ingress x.datagram).next ≡ next_by (judged c s v) c s v =
    ap (λ (u : Turned). u.next) (turn-message c s x.ingress x.datagram v read) in
    let same : is_new (judged c s v) ≡ joins h (copy_from x v) =
    is_new-joins first c s h x v at time
    (subst (λ (u : State). StandsAt first u (after_copy c h (copy_from x v))) t turns.stands)
    (λ j. sym t ∙ turns.stays j) in
    ⊎_elim
    (λ (j : joins h (copy_from x v) ≡ true).
    decides_as_new first rows c s h x say v (reply_said rows c h.sets v.source (request_of v) say) at time read turns
    (is_new-true (judged c s v) (same ∙ j)) j refl)
    (λ (j : joins h (copy_from x v) ≡ false).
    decides_as_own first rows c s h x say (copy_from x v)
    (turn_said-other rows c s say x.ingress x.datagram v read
    (λ new. false≢true (sym (same ∙ j) ∙ ap is_new new)) (copy-numbered c s v copy))
    (cond-false _ _ _ j) turns)
    (cases_Bool (joins h (copy_from x v)))

pub decides_as : (first : PortIdentity → ℕ) (rows : List RelayedId) (c : Clock) (s : State) (h : History) (x : Delivery)
    (say : Say) (k : RequestCopy)
    → StandsAt first s h
    → copy_of c (length h.sets.ports) x ≡ Some k
    → IsInTime first h k
    → DecidesAs first rows c s h x say k
decides_as first rows c s h x say k at e time =
    let copy = delivers_copy c (length h.sets.ports) x k e in
    subst (λ (j : RequestCopy). DecidesAs first rows c s h x say j) copy.copy
    (decides_as_message first rows c s h x say copy.message at
    (subst (λ (j : RequestCopy). IsInTime first h j) (sym copy.copy) time) copy.read
    (ap (λ (d : DataSetsValue). is_copy c (length d.ports) copy.message) at.sets ∙ copy.passes)
    (subst (λ (j : RequestCopy). TurnsAs first c s h x j) (sym copy.copy) (turns_as first c s h x k at e time)))

-- any other delivery changes nothing
pub turn_said-no_copy : (rows : List RelayedId) (c : Clock) (s : State) (x : Delivery) (say : Say)
    → copy_of c (length s.sets.ports) x ≡ None
    → (turn_said rows c s say x.ingress x.datagram).next ≡ s
turn_said-no_copy rows c s x say none =
    turn_said-each (λ (t : Turned). t.next ≡ s) rows c s say x.ingress x.datagram (turn-no_copy c s x none)
    (λ v reply read new is.
    absurd (true≢false (sym (is_copy-new c s v new) ∙ no_copy c (length s.sets.ports) x v none read)))
    (λ v reply read unnumbered is. refl)
