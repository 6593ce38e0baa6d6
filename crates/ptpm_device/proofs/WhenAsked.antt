-- When a device is asked: what the code tests, against the verdict.
use Rattle.std.proofs.Common.{arith, ◌≡◌, ℕ, ◌==◌, ◌&&◌, not, is_none, if◌then◌else◌, List, Option, Some, None, Ok, Err, Bool, true, false, length, refl, sym, ◌∙◌, ap, ⊎_elim}
use Rattle.std.proofs.lemmas.Bool.{and_from, and_left, and_parts, and_right, cases_Bool, cond-false, or_cases, or_left, not-true, true≢false, false≢true}
use Rattle.std.proofs.lemmas.Option.{cond_some, none-some}
use Rattle.std.specs.FinMap.{get}
use Rattle.ptpm_codec.specs.declared.message.Message.{Message}
use Rattle.ptpm_codec.specs.declared.error.DecodeError.{DecodeError}
use Rattle.ptpm_codec.specs.Message.{action_of}
use Rattle.ptpm_codec.specs.Reading.{message_of, reading}
use Rattle.ptpm_data.specs.declared.rights.Rights.{Rights}
use Rattle.ptpm_table.specs.declared.reply_table.Look.{Look}
use Rattle.ptpm_table.specs.declared.reply_table.Look.TheVariants as looks
use Rattle.ptpm_table.specs.Entries.{is_known}
use Rattle.ptpm_table.specs.Numbering.{look_at, look_of}
use Rattle.ptpm_agent.specs.declared.verdict.Verdict.{Verdict}
use Rattle.ptpm_agent.specs.declared.verdict.Verdict.TheVariants as verdicts
use Rattle.ptpm_agent.specs.Addressing.{is_for_this_clock, is_numbered, is_own, is_request, names_port, request_of}
use Rattle.ptpm_agent.specs.Turn.{Clock, NumberedRequest, State, is_accepted_repeat, is_repeat, judged, look, numbered_from, verdict_at}
use Rattle.ptpm_agent.proofs.Turns.{judged-copy, judged-each, judged-request, message_of-reading, new_parts}
use Rattle.ptpm_device.specs.declared.relayed.RelayedId.{RelayedId}
use Rattle.ptpm_device.specs.Asking.{asked, asked_by, is_asked, is_here, is_lacked, is_new, is_reached, is_read, is_unnumbered, is_wanted, is_wanted_new, is_wanted_once, rights_of_change, wanted, wanted_by, wanted_new, wanted_new_by, wanted_once, wanted_once_by}
use Rattle.ptpm_device.specs.Relayed.{is_change, refusal_in}
use Rattle.ptpm_device.proofs.New.{is_new-true}

pub not_asked_at : (A : Type 0) (b : Bool) (a : A) → (if b then Some a else None) ≡ None → b ≡ false
not_asked_at A true a e = absurd (cc)
not_asked_at A false a e = refl

and_and-false : (a b d : Bool) → (a && b) ≡ false → (a && (b && d)) ≡ false
and_and-false true true d e = absurd (true≢false e)
and_and-false true false d e = refl
and_and-false false b d e = refl

-- a new request is here
repeat_not_new : (l : Look) → is_repeat l ≡ true → is_new (verdict_at l) ≡ false
repeat_not_new looks.Repeat e = refl
repeat_not_new _ e = grind arith

pub here-new : (c : Clock) (s : State) (v : Message)
    → judged c s v ≡ verdicts.AnsweredNew
    → is_here c s v ≡ true
unfolding is_here
here-new c s v new =
    let p = new_parts c s v new in
    let l = look_at (get s.entries v.source) v.number (request_of v) in
    let domain : is_new (judged c s v) ≡ true → v.domain == s.sets.default.domain ≡ true =
    judged-copy (λ (w : Verdict). is_new w ≡ true → v.domain == s.sets.default.domain ≡ true) c s v l p refl
    (λ numbered e. ⊎_elim (λ d. d) (λ r. absurd (false≢true (sym (repeat_not_new l r) ∙ e))) (or_cases _ _ numbered))
    (λ d r e. absurd (false≢true e)) in
    grind arith

pub rights_of_change-away : (c : Clock) (s : State) (v : Message)
    → is_here c s v ≡ false
    → rights_of_change c s v ≡ None
rights_of_change-away c s v away =
    ⊎_elim
    (λ (y : is_new (judged c s v) ≡ true). absurd (true≢false (sym (here-new c s v (is_new-true (judged c s v) y)) ∙ away)))
    (λ (n : is_new (judged c s v) ≡ false). cond-false _ _ _ (and_left _ _ n))
    (cases_Bool (is_new (judged c s v)))

pub rights_of_change-unchanging : (c : Clock) (s : State) (v : Message)
    → is_change (action_of v.body) ≡ false
    → rights_of_change c s v ≡ None
rights_of_change-unchanging c s v unchanging = cond-false _ _ _ (and_right (is_new (judged c s v)) _ unchanging)

-- a change here is asked about if the table has it as new, and the clock permits it
change-request : (v : Message) → is_change (action_of v.body) ≡ true → is_request v ≡ true
change-request v change = grind arith

abbrev pub is_new_look : Look → Bool
is_new_look looks.New = true
is_new_look _ = false

pub is_new_look-other : (l : Look) → (l ≡ looks.New → ⊥) → is_new_look l ≡ false
is_new_look-other looks.New other = absurd (other refl)
is_new_look-other _ other = refl

changing_at : (l : Look) (change : Bool) → change ≡ true → (is_new (verdict_at l) && change) ≡ is_new_look l
changing_at looks.New change e = e
changing_at _ change e = refl

-- the test of a request that is here, part by part
pub record HereParts (c : Clock) (s : State) (v : Message) : Type 0 where
  pub sdo : v.sdo == 0 ≡ true
  pub domain : v.domain == s.sets.default.domain ≡ true
  pub own : is_own c v ≡ false
  pub target : is_for_this_clock c v ≡ true
  pub port : names_port (length s.sets.ports) v.target.port ≡ true

pub here_parts : (c : Clock) (s : State) (v : Message) → is_here c s v ≡ true → HereParts c s v
unfolding is_here
here_parts c s v here = grind arith

numbered-here : (c : Clock) (v : Message)
    → is_for_this_clock c v ≡ true
    → is_numbered c v ≡ is_known v.source c.managers
numbered-here c v target = grind arith

pub here-judged : (c : Clock) (s : State) (v : Message)
    → is_here c s v ≡ true
    → is_change (action_of v.body) ≡ true
    → judged c s v ≡ verdict_at (look_of (is_known v.source c.managers) (get s.entries v.source) v.number (request_of v))
here-judged c s v here change =
    let p = here_parts c s v here in
    judged-request c s v
    (and_from _ _ p.sdo (or_left _ _ p.domain)) p.own
    (and_from _ _ (or_left _ _ p.target) p.port) (change-request v change)
    ∙ ap (λ (b : Bool). verdict_at (look_of b (get s.entries v.source) v.number (request_of v))) (numbered-here c v p.target)

-- what the table says of a change here, against the definition
pub rights_of_change-here : (c : Clock) (s : State) (v : Message) (l : Look)
    → is_here c s v ≡ true
    → is_change (action_of v.body) ≡ true
    → l ≡ look_of (is_known v.source c.managers) (get s.entries v.source) v.number (request_of v)
    → rights_of_change c s v ≡ (if is_new_look l then Some (c.rights v.source) else None)
rights_of_change-here c s v l here change look =
    ap (λ (w : Verdict). if is_new w && is_change (request_of v).action then Some (c.rights v.source) else None) (here-judged c s v here change ∙ ap verdict_at (sym look))
    ∙ ap (λ (b : Bool). if b then Some (c.rights v.source) else None) (changing_at l (is_change (request_of v).action) change)

-- the device is asked about what neither the table nor the clock refuses
pub is_asked-by : (rows : List RelayedId) (c : Clock) (s : State) (v : Message) (rights : Rights)
    → rights_of_change c s v ≡ Some rights
    → is_asked rows c s v ≡ is_none (refusal_in rows (request_of v) rights)
unfolding is_asked
is_asked-by rows c s v rights e =
    let p = cond_some (is_new (judged c s v) && is_change (request_of v).action) (c.rights v.source) rights e in
    let q = and_parts _ _ p.0 in
    ap (λ (b : Bool). b && (is_change (request_of v).action && is_none (refusal_in rows (request_of v) (c.rights v.source)))) q.0
    ∙ ap (λ (b : Bool). b && is_none (refusal_in rows (request_of v) (c.rights v.source))) q.1
    ∙ ap (λ (r : Rights). is_none (refusal_in rows (request_of v) r)) p.1

pub is_asked-none : (rows : List RelayedId) (c : Clock) (s : State) (v : Message)
    → rights_of_change c s v ≡ None
    → is_asked rows c s v ≡ false
unfolding is_asked
is_asked-none rows c s v none =
    let no : (is_new (judged c s v) && is_change (request_of v).action) ≡ false = not_asked_at Rights _ (c.rights v.source) none in
    and_and-false (is_new (judged c s v)) (is_change (request_of v).action) _ no

-- ---- a datagram

-- a message that the device is asked about, and what it asks
pub record AskedParts (rows : List RelayedId) (c : Clock) (s : State) (datagram : List ℕ) (r : NumberedRequest) : Type 0 where
  pub message : Message
  pub read : message_of datagram ≡ Some message
  pub asked : is_asked rows c s message ≡ true
  pub same : r ≡ numbered_from message

asked_from : (rows : List RelayedId) (c : Clock) (s : State) (datagram : List ℕ) (r : NumberedRequest) (o : Option Message)
    → message_of datagram ≡ o
    → asked_by rows c s o ≡ Some r
    → AskedParts rows c s datagram r
asked_from rows c s datagram r None read e = absurd (none-some r e)
asked_from rows c s datagram r (Some v) read e =
    let p = cond_some (is_asked rows c s v) (numbered_from v) r e in
    record { message = v; read = read; asked = p.0; same = sym p.1 }

pub asked_parts : (rows : List RelayedId) (c : Clock) (s : State) (datagram : List ℕ) (r : NumberedRequest)
    → asked rows c s datagram ≡ Some r
    → AskedParts rows c s datagram r
unfolding asked
asked_parts rows c s datagram r e = asked_from rows c s datagram r (message_of datagram) refl e

pub not_asked : (rows : List RelayedId) (c : Clock) (s : State) (datagram : List ℕ) (v : Message)
    → message_of datagram ≡ Some v
    → asked rows c s datagram ≡ None
    → is_asked rows c s v ≡ false
unfolding asked
not_asked rows c s datagram v read none =
    not_asked_at NumberedRequest (is_asked rows c s v) (numbered_from v) (sym (ap (asked_by rows c s) read) ∙ none)

pub not_wanted : (c : Clock) (s : State) (datagram : List ℕ) (v : Message)
    → message_of datagram ≡ Some v
    → wanted c s datagram ≡ None
    → is_wanted c s v ≡ false
unfolding wanted
not_wanted c s datagram v read none =
    not_asked_at NumberedRequest (is_wanted c s v) (numbered_from v) (sym (ap (wanted_by c s) read) ∙ none)

-- what code reads of it
pub asked-unread : (rows : List RelayedId) (c : Clock) (s : State) (datagram : List ℕ) (cause : DecodeError)
    → reading datagram ≡ Err cause
    → asked rows c s datagram ≡ None
unfolding asked message_of
asked-unread rows c s datagram cause read = grind arith

pub asked-read : (rows : List RelayedId) (c : Clock) (s : State) (datagram : List ℕ) (v : Message)
    → reading datagram ≡ Ok v
    → asked rows c s datagram ≡ (if is_asked rows c s v then Some (numbered_from v) else None)
unfolding asked
asked-read rows c s datagram v read = ap (asked_by rows c s) (message_of-reading datagram v read)

-- ---- a value that the device is asked for

-- what is answered from the data sets reaches the clock
repeat_not_read : (l : Look) → is_repeat l ≡ true → is_read (verdict_at l) ≡ false
repeat_not_read looks.Repeat e = refl
repeat_not_read _ e = grind arith

read-reached : (c : Clock) (s : State) (v : Message)
    → is_read (judged c s v) ≡ true
    → is_reached c s v ≡ true
unfolding is_reached
read-reached c s v =
    judged-each (λ (w : Verdict). is_read w ≡ true → is_reached c s v ≡ true) c s v
    (λ e. absurd (false≢true e)) (λ e. absurd (false≢true e)) (λ e. absurd (false≢true e)) (λ e. absurd (false≢true e))
    (λ d o a q e.
    let p = and_parts _ _ d in
    ⊎_elim
    (λ (domain : v.domain == s.sets.default.domain ≡ true). and_from _ _ p.0 (and_from _ _ domain (and_from _ _ (ap not o) a)))
    (λ (r : is_accepted_repeat c s v ≡ true).
    let again : is_repeat (look c s v) ≡ true = grind arith in
    absurd (false≢true (sym (repeat_not_read (look c s v) again) ∙ e)))
    (or_cases _ _ p.1))

get-request : (v : Message) → is_lacked (request_of v) ≡ true → is_request v ≡ true
get-request v lacked = grind arith

reached-judged : (c : Clock) (s : State) (v : Message)
    → is_reached c s v ≡ true
    → is_lacked (request_of v) ≡ true
    → judged c s v ≡ verdict_at (look c s v)
unfolding is_reached
reached-judged c s v reached lacked =
    let p = and_parts _ _ reached in
    let q = and_parts _ _ p.1 in
    let r = and_parts _ _ q.1 in
    judged-request c s v (and_from _ _ p.0 (or_left _ _ q.0)) (not-true (is_own c v) r.0) r.1 (get-request v lacked)

abbrev pub is_read_look : Look → Bool
is_read_look looks.Unknown = true
is_read_look looks.New = true
is_read_look _ = false

read_at : (l : Look) → is_read (verdict_at l) ≡ is_read_look l
read_at looks.Unknown = refl
read_at looks.New = refl
read_at _ = refl

new_at : (l : Look) → is_new (verdict_at l) ≡ is_new_look l
new_at looks.New = refl
new_at _ = refl

pub is_read_look-other : (l : Look) → (l ≡ looks.Unknown → ⊥) → (l ≡ looks.New → ⊥) → is_read_look l ≡ false
is_read_look-other looks.Unknown unknown new = absurd (unknown refl)
is_read_look-other looks.New unknown new = absurd (new refl)
is_read_look-other _ unknown new = refl

and_true : (a b : Bool) → b ≡ true → (a && b) ≡ a
and_true true b e = e
and_true false b e = refl

-- what the table says of a GET that reaches the clock, against the definitions
pub is_wanted-reached : (c : Clock) (s : State) (v : Message) (l : Look)
    → is_lacked (request_of v) ≡ true
    → is_reached c s v ≡ true
    → l ≡ look c s v
    → is_wanted c s v ≡ is_read_look l
unfolding is_wanted
is_wanted-reached c s v l lacked reached look =
    and_true (is_read (judged c s v)) (is_lacked (request_of v)) lacked
    ∙ (ap is_read (reached-judged c s v reached lacked ∙ ap verdict_at (sym look)) ∙ read_at l)

pub is_wanted_new-reached : (c : Clock) (s : State) (v : Message) (l : Look)
    → is_lacked (request_of v) ≡ true
    → is_reached c s v ≡ true
    → l ≡ look c s v
    → is_wanted_new c s v ≡ is_new_look l
is_wanted_new-reached c s v l lacked reached look =
    and_true (is_new (judged c s v)) (is_lacked (request_of v)) lacked
    ∙ (ap is_new (reached-judged c s v reached lacked ∙ ap verdict_at (sym look)) ∙ new_at l)

pub unlacked-not_wanted : (c : Clock) (s : State) (v : Message)
    → is_lacked (request_of v) ≡ false
    → is_wanted c s v ≡ false
unfolding is_wanted
unlacked-not_wanted c s v unlacked = and_right (is_read (judged c s v)) (is_lacked (request_of v)) unlacked

pub unlacked-not_wanted_new : (c : Clock) (s : State) (v : Message)
    → is_lacked (request_of v) ≡ false
    → is_wanted_new c s v ≡ false
unlacked-not_wanted_new c s v unlacked = and_right (is_new (judged c s v)) (is_lacked (request_of v)) unlacked

unread_away : (c : Clock) (s : State) (v : Message)
    → is_reached c s v ≡ false
    → is_read (judged c s v) ≡ false
unread_away c s v away =
    ⊎_elim
    (λ (y : is_read (judged c s v) ≡ true). absurd (true≢false (sym (read-reached c s v y) ∙ away)))
    (λ (n : is_read (judged c s v) ≡ false). n)
    (cases_Bool (is_read (judged c s v)))

pub away-not_wanted : (c : Clock) (s : State) (v : Message)
    → is_reached c s v ≡ false
    → is_wanted c s v ≡ false
unfolding is_wanted
away-not_wanted c s v away = and_left _ _ (unread_away c s v away)

new_read : (w : Verdict) → is_read w ≡ false → is_new w ≡ false
new_read verdicts.AnsweredNew e = e
new_read _ e = refl

pub away-not_wanted_new : (c : Clock) (s : State) (v : Message)
    → is_reached c s v ≡ false
    → is_wanted_new c s v ≡ false
away-not_wanted_new c s v away = and_left _ _ (new_read (judged c s v) (unread_away c s v away))

abbrev pub is_unknown_look : Look → Bool
is_unknown_look looks.Unknown = true
is_unknown_look _ = false

unnumbered_at : (l : Look) → is_unnumbered (verdict_at l) ≡ is_unknown_look l
unnumbered_at looks.Unknown = refl
unnumbered_at _ = refl

pub is_unknown_look-other : (l : Look) → (l ≡ looks.Unknown → ⊥) → is_unknown_look l ≡ false
is_unknown_look-other looks.Unknown other = absurd (other refl)
is_unknown_look-other _ other = refl

pub is_wanted_once-reached : (c : Clock) (s : State) (v : Message) (l : Look)
    → is_lacked (request_of v) ≡ true
    → is_reached c s v ≡ true
    → l ≡ look c s v
    → is_wanted_once c s v ≡ is_unknown_look l
is_wanted_once-reached c s v l lacked reached look =
    and_true (is_unnumbered (judged c s v)) (is_lacked (request_of v)) lacked
    ∙ (ap is_unnumbered (reached-judged c s v reached lacked ∙ ap verdict_at (sym look)) ∙ unnumbered_at l)

pub unlacked-not_wanted_once : (c : Clock) (s : State) (v : Message)
    → is_lacked (request_of v) ≡ false
    → is_wanted_once c s v ≡ false
unlacked-not_wanted_once c s v unlacked = and_right (is_unnumbered (judged c s v)) (is_lacked (request_of v)) unlacked

unnumbered_read : (w : Verdict) → is_read w ≡ false → is_unnumbered w ≡ false
unnumbered_read verdicts.AnsweredUnnumbered e = e
unnumbered_read _ e = refl

pub away-not_wanted_once : (c : Clock) (s : State) (v : Message)
    → is_reached c s v ≡ false
    → is_wanted_once c s v ≡ false
away-not_wanted_once c s v away = and_left _ _ (unnumbered_read (judged c s v) (unread_away c s v away))

-- ---- in a datagram

pub wanted_once-unread : (c : Clock) (s : State) (datagram : List ℕ) (cause : DecodeError)
    → reading datagram ≡ Err cause
    → wanted_once c s datagram ≡ false
unfolding wanted_once message_of
wanted_once-unread c s datagram cause read = grind arith

pub wanted_once-read : (c : Clock) (s : State) (datagram : List ℕ) (v : Message)
    → message_of datagram ≡ Some v
    → wanted_once c s datagram ≡ is_wanted_once c s v
unfolding wanted_once
wanted_once-read c s datagram v read = ap (wanted_once_by c s) read

pub wanted-unread : (c : Clock) (s : State) (datagram : List ℕ) (cause : DecodeError)
    → reading datagram ≡ Err cause
    → wanted c s datagram ≡ None
unfolding wanted message_of
wanted-unread c s datagram cause read = grind arith

pub wanted-read : (c : Clock) (s : State) (datagram : List ℕ) (v : Message)
    → reading datagram ≡ Ok v
    → wanted c s datagram ≡ (if is_wanted c s v then Some (numbered_from v) else None)
unfolding wanted
wanted-read c s datagram v read = ap (wanted_by c s) (message_of-reading datagram v read)

pub wanted_new-unread : (c : Clock) (s : State) (datagram : List ℕ) (cause : DecodeError)
    → reading datagram ≡ Err cause
    → wanted_new c s datagram ≡ None
unfolding wanted_new message_of
wanted_new-unread c s datagram cause read = grind arith

pub wanted_new-read : (c : Clock) (s : State) (datagram : List ℕ) (v : Message)
    → reading datagram ≡ Ok v
    → wanted_new c s datagram ≡ (if is_wanted_new c s v then Some (numbered_from v) else None)
unfolding wanted_new
wanted_new-read c s datagram v read = ap (wanted_new_by c s) (message_of-reading datagram v read)

-- a message whose value the device is asked for, and which the clock would keep
pub record WantedParts (c : Clock) (s : State) (datagram : List ℕ) (r : NumberedRequest) : Type 0 where
  pub message : Message
  pub read : message_of datagram ≡ Some message
  pub new : judged c s message ≡ verdicts.AnsweredNew
  pub lacked : is_lacked (request_of message) ≡ true
  pub same : r ≡ numbered_from message

wanted_from : (c : Clock) (s : State) (datagram : List ℕ) (r : NumberedRequest) (o : Option Message)
    → message_of datagram ≡ o
    → wanted_new_by c s o ≡ Some r
    → WantedParts c s datagram r
wanted_from c s datagram r None read e = absurd (none-some r e)
wanted_from c s datagram r (Some v) read e =
    let p = cond_some (is_wanted_new c s v) (numbered_from v) r e in
    let q = and_parts _ _ p.0 in
    record { message = v; read = read; new = is_new-true (judged c s v) q.0; lacked = q.1; same = sym p.1 }

pub wanted_parts : (c : Clock) (s : State) (datagram : List ℕ) (r : NumberedRequest)
    → wanted_new c s datagram ≡ Some r
    → WantedParts c s datagram r
unfolding wanted_new
wanted_parts c s datagram r e = wanted_from c s datagram r (message_of datagram) refl e

pub not_wanted_new : (c : Clock) (s : State) (datagram : List ℕ) (v : Message)
    → message_of datagram ≡ Some v
    → wanted_new c s datagram ≡ None
    → is_wanted_new c s v ≡ false
unfolding wanted_new
not_wanted_new c s datagram v read none =
    not_asked_at NumberedRequest (is_wanted_new c s v) (numbered_from v) (sym (ap (wanted_new_by c s) read) ∙ none)
