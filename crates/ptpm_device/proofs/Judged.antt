-- Where a device is asked, and that what it says moves neither the verdict nor what is passed on.
use Rattle.std.proofs.Common.{arith, ◌≡◌, ℕ, ◌==◌, is_none, find, Bool, false, [], ◌&&◌, if◌then◌else◌, List, Option, Some, None, true, refl, sym, ◌∙◌, ap}
use Rattle.std.proofs.lemmas.Bool.{and_from, and_left, and_parts, and_right, cond-false, cond-true, false≢true, true≢false}
use Rattle.std.proofs.lemmas.Option.{cond_some, none-some}
use Rattle.ptpm_codec.specs.declared.error.ErrorId.{ErrorId}
use Rattle.ptpm_codec.specs.declared.identity.PortIdentity.{PortIdentity}
use Rattle.ptpm_codec.specs.declared.message.Action.{Action}
use Rattle.ptpm_codec.specs.declared.message.Action.TheVariants as actions
use Rattle.ptpm_codec.specs.declared.message.Message.{Message}
use Rattle.ptpm_codec.specs.Reading.{message_of}
use Rattle.ptpm_data.specs.ManagementId.{row_of}
use Rattle.ptpm_data.specs.Members.{DataSetsValue}
use Rattle.ptpm_data.specs.Replies.{is_get, reply_of}
use Rattle.ptpm_data.specs.Reply.{ReplyValue}
use Rattle.ptpm_data.specs.Request.{RequestValue}
use Rattle.ptpm_data.proofs.Answering.{changed_by-unlisted}
use Rattle.ptpm_table.specs.Rendering.{rendered}
use Rattle.ptpm_agent.specs.declared.verdict.Verdict.{Verdict}
use Rattle.ptpm_agent.specs.declared.verdict.Verdict.TheVariants as verdicts
use Rattle.ptpm_agent.specs.Addressing.{heard_of, request_of}
use Rattle.ptpm_agent.specs.Turn.{Clock, State, Turned, judged, next_by, numbered_from, turn}
use Rattle.ptpm_agent.proofs.Turns.{forwarded-copy, new_parts, turn-message}
use Rattle.ptpm_device.specs.declared.relayed.RelayedId.{RelayedId}
use Rattle.ptpm_device.specs.Asking.{asked, asked_by, is_asked, is_for_device, is_lacked, is_new, is_permitted, is_read, is_relayed, is_relayed_in, is_wanted, is_wanted_new, wanted}
use Rattle.ptpm_device.specs.Relayed.{is_change, refusal_at, refusal_in, relayed, relayed_at, relayed_refusal}
use Rattle.ptpm_device.specs.Saying.{Gives, Objects, Say, after_reply, most_given, new_said, reply_at, reply_given, reply_own, reply_relayed, reply_said, turn_said, unnumbered_said}
use Rattle.ptpm_device.proofs.WhenAsked.{not_asked, not_wanted}
use Rattle.ptpm_device.proofs.New.{is_new-true}
use Rattle.ptpm_device.proofs.Steps.{none_of, refusal_in-alone, reply_said-alone, turn_said-each, turn_said-new, turn_said-unnumbered, turn_said-unrelayed}

from_is_none : {A : Type 0} (o : Option A) → is_none o ≡ true → o ≡ None
from_is_none None e = refl
from_is_none (Some x) e = absurd (false≢true e)

pub asked-parts : (rows : List RelayedId) (c : Clock) (s : State) (v : Message)
    → is_asked rows c s v ≡ true
    → (judged c s v ≡ verdicts.AnsweredNew) × ((is_change (request_of v).action ≡ true)
    × (refusal_in rows (request_of v) (c.rights v.source) ≡ None))
unfolding is_asked
asked-parts rows c s v y =
    let p = and_parts _ _ y in
    let q = and_parts _ _ p.1 in
    (is_new-true (judged c s v) p.0, (q.0, from_is_none (refusal_in rows (request_of v) (c.rights v.source)) q.1))

pub judged-asked : (rows : List RelayedId) (c : Clock) (s : State) (v : Message)
    → is_asked rows c s v ≡ true
    → judged c s v ≡ verdicts.AnsweredNew
judged-asked rows c s v y = (asked-parts rows c s v y).0

pub is_get-true : (action : Action) → is_get action ≡ true → action ≡ actions.Get
is_get-true actions.Get e = refl
is_get-true _ e = absurd (false≢true e)

pub wanted-parts : (c : Clock) (s : State) (v : Message)
    → is_wanted c s v ≡ true
    → (is_read (judged c s v) ≡ true) × (((request_of v).action ≡ actions.Get) × (row_of (request_of v).id ≡ None))
unfolding is_wanted
wanted-parts c s v y =
    let p = and_parts _ _ y in
    let q = and_parts _ _ p.1 in
    (p.0, (is_get-true (request_of v).action q.0, from_is_none (row_of (request_of v).id) q.1))

pub asked-whole : (rows : List RelayedId) (c : Clock) (s : State) (v : Message)
    → judged c s v ≡ verdicts.AnsweredNew
    → is_change (request_of v).action ≡ true
    → refusal_in rows (request_of v) (c.rights v.source) ≡ None
    → is_asked rows c s v ≡ true
unfolding is_asked
asked-whole rows c s v new change none = grind arith

pub wanted-whole : (c : Clock) (s : State) (v : Message)
    → is_read (judged c s v) ≡ true
    → (request_of v).action ≡ actions.Get
    → row_of (request_of v).id ≡ None
    → is_wanted c s v ≡ true
unfolding is_wanted
wanted-whole c s v read get lacks = grind arith

-- ---- a request of no row of the table

relayed_at-closed : (q : RequestValue) (o : Option RelayedId)
    → (is_change q.action && is_none (row_of q.id)) ≡ false
    → relayed_at q o ≡ None
relayed_at-closed q None away = refl
relayed_at-closed q (Some r) away = cond-false _ _ _ away

relayed_at-parts : (q : RequestValue) (o : Option RelayedId) (r : RelayedId)
    → relayed_at q o ≡ Some r
    → (is_change q.action ≡ true) × (row_of q.id ≡ None)
relayed_at-parts q None r found = absurd (none-some r found)
relayed_at-parts q (Some x) r found =
    let p = and_parts _ _ (cond_some (is_change q.action && is_none (row_of q.id)) x r found).0 in
    (p.0, from_is_none (row_of q.id) p.1)

-- one of the table is a SET or COMMAND of an id that the clock lacks
pub relayed_parts : (rows : List RelayedId) (q : RequestValue) (r : RelayedId)
    → relayed rows q ≡ Some r
    → (is_change q.action ≡ true) × (row_of q.id ≡ None)
unfolding relayed
relayed_parts rows q r found = relayed_at-parts q (find (λ x. x.id == q.id) rows) r found

get-unchanging : (action : Action) → is_get action ≡ true → is_change action ≡ false
get-unchanging actions.Get e = refl
get-unchanging _ e = absurd (false≢true e)

-- a GET is of no row
pub lacked-unrelayed : (rows : List RelayedId) (q : RequestValue) → is_lacked q ≡ true → relayed rows q ≡ None
unfolding relayed
lacked-unrelayed rows q lacked =
    relayed_at-closed q (find (λ x. x.id == q.id) rows) (and_left _ _ (get-unchanging q.action (and_parts _ _ lacked).0))

pub reply_unrelayed : (rows : List RelayedId) (c : Clock) (d : DataSetsValue) (who : PortIdentity) (q : RequestValue) (say : Say) (o : Option ReplyValue)
    → relayed rows q ≡ None
    → reply_own c d who q say ≡ o
    → reply_said rows c d who q say ≡ o
reply_unrelayed rows c d who q say o none own = ap (λ (x : Option RelayedId). reply_at x c d who q say) none ∙ own

-- ---- where it is not asked

is_permitted-for_device : (c : Clock) (who : PortIdentity) (q : RequestValue) → is_for_device [] c who q ≡ is_permitted c who q
is_permitted-for_device c who q =
    ap (λ (o : Option ErrorId). is_change q.action && is_none o) (refusal_in-alone q (c.rights who))

-- what makes a reply to a new request is asked about
permitted_asked : (c : Clock) (s : State) (v : Message) (error : ErrorId) (reply : ReplyValue)
    → judged c s v ≡ verdicts.AnsweredNew
    → reply_said [] c s.sets v.source (request_of v) (Objects error) ≡ Some reply
    → is_asked [] c s v ≡ true
unfolding is_asked
permitted_asked c s v error reply new said =
    ap (λ (w : Verdict). is_new w && is_for_device [] c v.source (request_of v)) new
    ∙ is_permitted-for_device c v.source (request_of v)
    ∙ (cond_some (is_permitted c v.source (request_of v)) (reply_of (request_of v) (Some error) s.sets) reply
    (sym (reply_said-alone c s.sets v.source (request_of v) (Objects error)) ∙ said)).0

lacked_wanted : (c : Clock) (s : State) (v : Message) (most : ℕ) (octets : List ℕ) (reply : ReplyValue)
    → is_read (judged c s v) ≡ true
    → (if is_lacked (request_of v) then Some (reply_given most (request_of v) octets) else None) ≡ Some reply
    → is_wanted c s v ≡ true
unfolding is_wanted
lacked_wanted c s v most octets reply read said =
    and_from _ _ read (cond_some (is_lacked (request_of v)) (reply_given most (request_of v) octets) reply said).0

pub objection_alone : (c : Clock) (s : State) (error : ErrorId) (ingress : ℕ) (datagram : List ℕ)
    → asked [] c s datagram ≡ None
    → turn_said [] c s (Objects error) ingress datagram ≡ turn c s ingress datagram
objection_alone c s error ingress datagram none =
    turn_said-each (λ (t : Turned). t ≡ turn c s ingress datagram) [] c s (Objects error) ingress datagram refl
    (λ v reply read new said.
    absurd (true≢false (sym (permitted_asked c s v error reply new said) ∙ not_asked [] c s datagram v read none)))
    (λ v reply read unnumbered told. absurd (none-some reply told))

value_alone : (c : Clock) (s : State) (octets : List ℕ) (ingress : ℕ) (datagram : List ℕ)
    → wanted c s datagram ≡ None
    → turn_said [] c s (Gives octets) ingress datagram ≡ turn c s ingress datagram
value_alone c s octets ingress datagram none =
    turn_said-each (λ (t : Turned). t ≡ turn c s ingress datagram) [] c s (Gives octets) ingress datagram refl
    (λ v reply read new said.
    absurd (true≢false (sym (lacked_wanted c s v 130 octets reply (ap is_read new)
    (sym (reply_said-alone c s.sets v.source (request_of v) (Gives octets)) ∙ said)) ∙ not_wanted c s datagram v read none)))
    (λ v reply read unnumbered told.
    absurd (true≢false (sym (lacked_wanted c s v 1418 octets reply (ap is_read unnumbered) told) ∙ not_wanted c s datagram v read none)))

is_asked-unrelayed : (rows : List RelayedId) (c : Clock) (s : State) (v : Message)
    → relayed rows (request_of v) ≡ None
    → is_asked rows c s v ≡ is_asked [] c s v
unfolding is_asked
is_asked-unrelayed rows c s v none =
    ap (λ (o : Option ErrorId). is_new (judged c s v) && (is_change (request_of v).action && is_none o))
    (ap (λ (x : Option RelayedId). refusal_at x (request_of v) (c.rights v.source)) none
    ∙ sym (refusal_in-alone (request_of v) (c.rights v.source)))

asked_by-unrelayed : (rows : List RelayedId) (c : Clock) (s : State) (o : Option Message)
    → is_relayed_in rows o ≡ false
    → asked_by rows c s o ≡ asked_by [] c s o
asked_by-unrelayed rows c s None away = refl
asked_by-unrelayed rows c s (Some v) away =
    ap (λ (b : Bool). if b then Some (numbered_from v) else None)
    (is_asked-unrelayed rows c s v (none_of (relayed rows (request_of v)) away))

pub asked-unrelayed : (rows : List RelayedId) (c : Clock) (s : State) (datagram : List ℕ)
    → is_relayed rows datagram ≡ false
    → asked rows c s datagram ≡ asked [] c s datagram
unfolding asked is_relayed
asked-unrelayed rows c s datagram away = asked_by-unrelayed rows c s (message_of datagram) away

-- an objection counts only of what the device is asked about
pub objection_not_asked : (rows : List RelayedId) (c : Clock) (s : State) (error : ErrorId) (ingress : ℕ) (datagram : List ℕ)
    → is_relayed rows datagram ≡ false
    → asked rows c s datagram ≡ None
    → turn_said rows c s (Objects error) ingress datagram ≡ turn c s ingress datagram
objection_not_asked rows c s error ingress datagram away none =
    turn_said-unrelayed rows c s (Objects error) ingress datagram away
    ∙ objection_alone c s error ingress datagram (sym (asked-unrelayed rows c s datagram away) ∙ none)

-- and a value only of what it is asked for
pub value_not_wanted : (rows : List RelayedId) (c : Clock) (s : State) (octets : List ℕ) (ingress : ℕ) (datagram : List ℕ)
    → is_relayed rows datagram ≡ false
    → wanted c s datagram ≡ None
    → turn_said rows c s (Gives octets) ingress datagram ≡ turn c s ingress datagram
value_not_wanted rows c s octets ingress datagram away none =
    turn_said-unrelayed rows c s (Gives octets) ingress datagram away ∙ value_alone c s octets ingress datagram none

-- ---- what a say leaves

pub turn_said-verdict : (rows : List RelayedId) (c : Clock) (s : State) (say : Say) (ingress : ℕ) (datagram : List ℕ)
    → (turn_said rows c s say ingress datagram).verdict ≡ (turn c s ingress datagram).verdict
turn_said-verdict rows c s say ingress datagram =
    turn_said-each (λ (t : Turned). t.verdict ≡ (turn c s ingress datagram).verdict) rows c s say ingress datagram refl
    (λ v reply read new said. sym new ∙ sym (ap (λ (t : Turned). t.verdict) (turn-message c s ingress datagram v read)))
    (λ v reply read unnumbered told. sym unnumbered ∙ sym (ap (λ (t : Turned). t.verdict) (turn-message c s ingress datagram v read)))

pub turn_said-forwards : (rows : List RelayedId) (c : Clock) (s : State) (say : Say) (ingress : ℕ) (datagram : List ℕ)
    → (turn_said rows c s say ingress datagram).forwards ≡ (turn c s ingress datagram).forwards
turn_said-forwards rows c s say ingress datagram =
    turn_said-each (λ (t : Turned). t.forwards ≡ (turn c s ingress datagram).forwards) rows c s say ingress datagram refl
    (λ v reply read new said.
    sym (forwarded-copy c ingress s.sets datagram v read (new_parts c s v new).target)
    ∙ sym (ap (λ (t : Turned). t.forwards) (turn-message c s ingress datagram v read)))
    (λ v reply read unnumbered told. sym (ap (λ (t : Turned). t.forwards) (turn-message c s ingress datagram v read)))

-- ---- what is given is the answer

pub lacked_row : (q : RequestValue) → is_lacked q ≡ true → row_of q.id ≡ None
lacked_row q lacked = from_is_none (row_of q.id) (and_parts _ _ lacked).1

pub given_kept : (rows : List RelayedId) (c : Clock) (s : State) (ingress : ℕ) (datagram octets : List ℕ) (v : Message)
    → message_of datagram ≡ Some v
    → judged c s v ≡ verdicts.AnsweredNew
    → is_lacked (request_of v) ≡ true
    → turn_said rows c s (Gives octets) ingress datagram
    ≡ new_said c s ingress datagram v (Some (reply_given 130 (request_of v) octets))
given_kept rows c s ingress datagram octets v read new lacked =
    turn_said-new rows c s (Gives octets) ingress datagram v (Some (reply_given 130 (request_of v) octets)) read new
    (reply_unrelayed rows c s.sets v.source (request_of v) (Gives octets) _ (lacked-unrelayed rows (request_of v) lacked) (cond-true _ _ _ lacked))

pub given_told : (rows : List RelayedId) (c : Clock) (s : State) (ingress : ℕ) (datagram octets : List ℕ) (v : Message)
    → message_of datagram ≡ Some v
    → judged c s v ≡ verdicts.AnsweredUnnumbered
    → is_lacked (request_of v) ≡ true
    → turn_said rows c s (Gives octets) ingress datagram
    ≡ unnumbered_said c s ingress datagram v (Some (reply_given 1418 (request_of v) octets))
given_told rows c s ingress datagram octets v read unnumbered lacked =
    turn_said-unnumbered rows c s (Gives octets) ingress datagram v (Some (reply_given 1418 (request_of v) octets)) read unnumbered (cond-true _ _ _ lacked)

-- the replies, by the verdict
abbrev HasAnswer : List RelayedId → Clock → State → ℕ → List ℕ → List ℕ → Message → Verdict → Type 0
HasAnswer rows c s ingress datagram octets v w =
    (turn_said rows c s (Gives octets) ingress datagram).replies
    ≡ rendered c.identity (heard_of v) (reply_given (most_given w) (request_of v) octets) ingress

given_answer_at : (rows : List RelayedId) (c : Clock) (s : State) (ingress : ℕ) (datagram octets : List ℕ) (v : Message) (w : Verdict)
    → message_of datagram ≡ Some v
    → judged c s v ≡ w
    → is_read w ≡ true
    → is_lacked (request_of v) ≡ true
    → HasAnswer rows c s ingress datagram octets v w
given_answer_at rows c s ingress datagram octets v verdicts.AnsweredNew message e read lacked =
    ap (λ (t : Turned). t.replies) (given_kept rows c s ingress datagram octets v message e lacked)
given_answer_at rows c s ingress datagram octets v verdicts.AnsweredUnnumbered message e read lacked =
    ap (λ (t : Turned). t.replies) (given_told rows c s ingress datagram octets v message e lacked)
given_answer_at rows c s ingress datagram octets v _ message e read lacked = absurd (false≢true read)

pub given_answer : (rows : List RelayedId) (c : Clock) (s : State) (ingress : ℕ) (datagram octets : List ℕ) (v : Message)
    → message_of datagram ≡ Some v
    → is_wanted c s v ≡ true
    → HasAnswer rows c s ingress datagram octets v (judged c s v)
unfolding is_wanted
given_answer rows c s ingress datagram octets v message wanted =
    let p = and_parts _ _ wanted in
    given_answer_at rows c s ingress datagram octets v (judged c s v) message refl p.0 p.1

-- what is given is of an id that the clock lacks
given_unlisted : (rows : List RelayedId) (c : Clock) (d : DataSetsValue) (who : PortIdentity) (q : RequestValue) (octets : List ℕ)
    (o : Option RelayedId) (reply : ReplyValue)
    → relayed rows q ≡ o
    → reply_at o c d who q (Gives octets) ≡ Some reply
    → row_of q.id ≡ None
given_unlisted rows c d who q octets None reply found said =
    lacked_row q (cond_some (is_lacked q) (reply_given 130 q octets) reply said).0
given_unlisted rows c d who q octets (Some r) reply found said = (relayed_parts rows q r found).1

pub given_stays : (rows : List RelayedId) (c : Clock) (s : State) (ingress : ℕ) (datagram octets : List ℕ)
    → (turn_said rows c s (Gives octets) ingress datagram).next.sets ≡ (turn c s ingress datagram).next.sets
given_stays rows c s ingress datagram octets =
    turn_said-each (λ (t : Turned). t.next.sets ≡ (turn c s ingress datagram).next.sets) rows c s (Gives octets) ingress datagram refl
    (λ v reply read new said.
    changed_by-unlisted (request_of v) (c.rights v.source) s.sets (given_unlisted rows c s.sets v.source (request_of v) octets (relayed rows (request_of v)) reply refl said)
    ∙ (sym (ap (λ (w : Verdict). (next_by w c s v).sets) new)
    ∙ sym (ap (λ (t : Turned). t.next.sets) (turn-message c s ingress datagram v read))))
    (λ v reply read unnumbered told.
    sym (ap (λ (w : Verdict). (next_by w c s v).sets) unnumbered)
    ∙ sym (ap (λ (t : Turned). t.next.sets) (turn-message c s ingress datagram v read)))

pub given_kept_next : (rows : List RelayedId) (c : Clock) (s : State) (ingress : ℕ) (datagram octets : List ℕ) (v : Message)
    → message_of datagram ≡ Some v
    → is_wanted_new c s v ≡ true
    → (turn_said rows c s (Gives octets) ingress datagram).next
    ≡ after_reply s (numbered_from v) (reply_given 130 (request_of v) octets)
given_kept_next rows c s ingress datagram octets v read wanted =
    let p = and_parts _ _ wanted in
    ap (λ (t : Turned). t.next) (given_kept rows c s ingress datagram octets v read (is_new-true (judged c s v) p.0) p.1)

-- ---- what is relayed is answered by the device, or refused by the table

pub relayed_turn : (rows : List RelayedId) (c : Clock) (s : State) (say : Say) (ingress : ℕ) (datagram : List ℕ) (v : Message) (r : RelayedId)
    → message_of datagram ≡ Some v
    → judged c s v ≡ verdicts.AnsweredNew
    → relayed rows (request_of v) ≡ Some r
    → turn_said rows c s say ingress datagram
    ≡ new_said c s ingress datagram v (Some (reply_relayed (relayed_refusal r (request_of v) (c.rights v.source)) (request_of v) say))
relayed_turn rows c s say ingress datagram v r read new found =
    turn_said-new rows c s say ingress datagram v _ read new
    (ap (λ (o : Option RelayedId). reply_at o c s.sets v.source (request_of v) say) found)

pub relayed_refused : (rows : List RelayedId) (c : Clock) (s : State) (v : Message) (r : RelayedId) (error : ErrorId)
    → relayed rows (request_of v) ≡ Some r
    → relayed_refusal r (request_of v) (c.rights v.source) ≡ Some error
    → is_asked rows c s v ≡ false
unfolding is_asked
relayed_refused rows c s v r error found refused =
    let e : refusal_in rows (request_of v) (c.rights v.source) ≡ Some error =
    ap (λ (o : Option RelayedId). refusal_at o (request_of v) (c.rights v.source)) found ∙ refused in
    and_right (is_new (judged c s v)) _ (and_right (is_change (request_of v).action) _ (ap is_none e))

pub relayed_asked : (rows : List RelayedId) (c : Clock) (s : State) (v : Message) (r : RelayedId)
    → judged c s v ≡ verdicts.AnsweredNew
    → relayed rows (request_of v) ≡ Some r
    → relayed_refusal r (request_of v) (c.rights v.source) ≡ None
    → is_asked rows c s v ≡ true
relayed_asked rows c s v r new found none =
    asked-whole rows c s v new (relayed_parts rows (request_of v) r found).0
    (ap (λ (o : Option RelayedId). refusal_at o (request_of v) (c.rights v.source)) found ∙ none)
