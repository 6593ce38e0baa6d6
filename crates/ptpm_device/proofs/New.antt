-- A copy in time is a new request to the clock exactly if it joins its history.
use Rattle.std.proofs.lemmas.Slice.Eq.{bytes_eq-Decides}
use Rattle.std.proofs.Common.{arith, bytes_eq, ◌≡◌, ℕ, ◌<◌, Option, Some, None, Bool, true, false, refl, sym, ◌∙◌, ap}
use Rattle.std.proofs.lemmas.Bool.{true≢false, false≢true}
use Rattle.std.specs.FinMap.{get}
use Rattle.ptpm_codec.specs.declared.identity.PortIdentity.{PortIdentity}
use Rattle.ptpm_codec.specs.declared.message.Message.{Message}
use Rattle.ptpm_data.specs.Request.{RequestValue}
use Rattle.ptpm_table.specs.declared.reply_table.Look.TheVariants as looks
use Rattle.ptpm_table.specs.declared.serial.Serial.{Serial}
use Rattle.ptpm_table.specs.declared.serial.Serial.TheVariants.{Same, Newer}
use Rattle.ptpm_table.specs.Entries.{Entry}
use Rattle.ptpm_table.specs.Numbering.{look_at, same_request}
use Rattle.ptpm_table.specs.Serial.{serial_of}
use Rattle.ptpm_table.proofs.SerialLaws.{order_of-newer}
use Rattle.ptpm_agent.specs.declared.verdict.Verdict.{Verdict}
use Rattle.ptpm_agent.specs.declared.verdict.Verdict.TheVariants as verdicts
use Rattle.ptpm_agent.specs.Addressing.{request_of}
use Rattle.ptpm_agent.specs.Laws.{IsKept, StandsAt}
use Rattle.ptpm_agent.specs.Once.{Delivery, History, RequestCopy, after_copy, copy_from, greatest, joins}
use Rattle.ptpm_agent.specs.Turn.{Clock, State, carried_out, judged, next_by}
use Rattle.ptpm_agent.specs.Window.{IsInTime}
use Rattle.ptpm_agent.proofs.Entries.{accepted_kept}
use Rattle.ptpm_agent.proofs.AtMostOnce.{serial_of-number_of}
use Rattle.ptpm_codec.specs.SequenceNumber.{number_of}
use Rattle.ptpm_table.proofs.Identities.{same_identity-refl}
use Rattle.ptpm_agent.proofs.Turns.{judged-copy, new_parts}
use Rattle.ptpm_device.specs.Asking.{is_new}

-- ---- a request that the clock has already

serial_of-self : (n : ℕ) → n < 65536 → serial_of n n ≡ Same
unfolding serial_of
serial_of-self n h = grind arith

same_request-refl : (q : RequestValue) → same_request q q ≡ true
same_request-refl q =
    let octets : bytes_eq q.octets q.octets ≡ true = (bytes_eq-Decides q.octets q.octets).1 refl in grind arith

pub look_at-kept : (e : Entry) (n : ℕ) (q : RequestValue)
    → n < 65536
    → e.number ≡ n
    → e.request ≡ q
    → look_at (Some e) n q ≡ looks.Repeat
look_at-kept e n q small number request = grind (arith, serial_of-self, same_request-refl)

-- it is not new
is_new-kept : (c : Clock) (s : State) (v : Message) (e : Entry)
    → get s.entries v.source ≡ Some e
    → e.number ≡ v.number
    → e.request ≡ request_of v
    → v.number < 65536
    → judged c s v ≡ verdicts.AnsweredNew
    → ⊥
is_new-kept c s v e g number request small new =
    let look : look_at (get s.entries v.source) v.number (request_of v) ≡ looks.Repeat =
    ap (λ (o : Option Entry). look_at o v.number (request_of v)) g ∙ look_at-kept e v.number (request_of v) small number request in
    let old : is_new (judged c s v) ≡ false = judged-copy (λ (w : Verdict). is_new w ≡ false) c s v looks.Repeat (new_parts c s v new) look
    (λ d. refl) (λ d r. refl) in
    false≢true (sym old ∙ ap is_new new)

-- ---- a copy in time

is_same : Serial → Bool
is_same Same = true
is_same _ = false

same≢newer : Same ≡ Newer → ⊥
unfolding is_same
same≢newer e = true≢false (ap is_same e)

-- a verdict that is not new changes nothing
next_by-old : (w : Verdict) (c : Clock) (s : State) (v : Message)
    → (w ≡ verdicts.AnsweredNew → ⊥)
    → next_by w c s v ≡ s
next_by-old verdicts.AnsweredNew c s v other = absurd (other refl)
next_by-old _ c s v other = refl

-- what a turn leaves does not join twice
greatest-joined : (c : Clock) (h : History) (k : RequestCopy)
    → joins h k ≡ true
    → greatest k.heard.source (after_copy c h k).accepted ≡ k.index
greatest-joined c h k j = grind (arith, same_identity-refl)

-- a clock that stands where a copy has joined has the number of that copy
number-joined : (first : PortIdentity → ℕ) (c : Clock) (h : History) (k : RequestCopy) (o : Option Entry)
    → joins h k ≡ true
    → IsInTime first h k
    → IsKept first h k.heard.source o
    → IsKept first (after_copy c h k) k.heard.source o
    → ⊥
number-joined first c h k None j time before after = grind (arith, greatest-joined)
number-joined first c h k (Some e) j time before after =
    let above : greatest k.heard.source h.accepted < k.index = grind arith in
    let there : greatest k.heard.source (after_copy c h k).accepted ≡ k.index = greatest-joined c h k j in
    let one : e.number ≡ number_of (first k.heard.source) (greatest k.heard.source h.accepted) = before.number in
    let two : e.number ≡ number_of (first k.heard.source) k.index = after.number ∙ ap (number_of (first k.heard.source)) there in
    let newer : serial_of e.number e.number ≡ Newer =
    (λ i. serial_of (one i) (two i)) ∙ (serial_of-number_of (first k.heard.source) (greatest k.heard.source h.accepted) k.index before.some time.numbered.positive (time.window before.some)
    ∙ order_of-newer _ _ above) in
    let small : e.number < 65536 = grind arith in
    same≢newer (sym (serial_of-self e.number small) ∙ newer)

-- a copy in time is a new request if it joins
new_at : (first : PortIdentity → ℕ) (c : Clock) (s : State) (h : History) (x : Delivery) (v : Message) (w : Verdict)
    → StandsAt first s h
    → IsInTime first h (copy_from x v)
    → StandsAt first (next_by w c s v) (after_copy c h (copy_from x v))
    → joins h (copy_from x v) ≡ true
    → is_new w ≡ true
new_at first c s h x v verdicts.AnsweredNew at time after j = refl
new_at first c s h x v w at time after j =
    absurd (number-joined first c h (copy_from x v) (get s.entries v.source) j time (at.entries v.source) (after.entries v.source))

-- and it isn't if it does not join
old_at : (c : Clock) (s : State) (h : History) (x : Delivery) (v : Message)
    → v.number < 65536
    → (joins h (copy_from x v) ≡ false → next_by (judged c s v) c s v ≡ s)
    → joins h (copy_from x v) ≡ false
    → judged c s v ≡ verdicts.AnsweredNew
    → ⊥
old_at c s h x v small stays j new =
    let left : s ≡ carried_out c s v = sym (stays j) ∙ ap (λ (w : Verdict). next_by w c s v) new in
    is_new-kept c s v _ (accepted_kept c s s v left) refl refl small new

pub is_new-true : (w : Verdict) → is_new w ≡ true → w ≡ verdicts.AnsweredNew
is_new-true verdicts.AnsweredNew e = refl
is_new-true _ e = absurd (false≢true e)

by_joins : (a b : Bool) → (b ≡ true → a ≡ true) → (b ≡ false → a ≡ true → ⊥) → a ≡ b
by_joins a true joined left = joined refl
by_joins true false joined left = absurd (left refl refl)
by_joins false false joined left = refl

pub is_new-joins : (first : PortIdentity → ℕ) (c : Clock) (s : State) (h : History) (x : Delivery) (v : Message)
    → StandsAt first s h
    → IsInTime first h (copy_from x v)
    → StandsAt first (next_by (judged c s v) c s v) (after_copy c h (copy_from x v))
    → (joins h (copy_from x v) ≡ false → next_by (judged c s v) c s v ≡ s)
    → is_new (judged c s v) ≡ joins h (copy_from x v)
is_new-joins first c s h x v at time after stays =
    let small : v.number < 65536 = grind arith in
    by_joins (is_new (judged c s v)) (joins h (copy_from x v))
    (λ j. new_at first c s h x v (judged c s v) at time after j)
    (λ j new. old_at c s h x v small stays j (is_new-true (judged c s v) new))
