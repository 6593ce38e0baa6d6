-- What is undertaken is a new request of its manager, and its decision is kept.
use Rattle.std.proofs.Common.{◌≡◌, ◌∙◌, ◌&&◌, Bool, true, false, not, ap, refl, subst, sym, List, ℕ, Option, Some, None, if◌then◌else◌}
use Rattle.std.specs.Prelude.{IsSomeAnd, is_some}
use Rattle.std.specs.FinMap.{get, insert}
use Rattle.std.proofs.lemmas.Bool.{false≢true}
use Rattle.ptpm_codec.specs.declared.message.Message.{Message}
use Rattle.ptpm_codec.specs.Layout.{message_octets}
use Rattle.ptpm_codec.specs.Reading.{message_of}
use Rattle.ptpm_data.specs.Request.{RequestValue}
use Rattle.ptpm_data.specs.Reply.{ReplyValue}
use Rattle.ptpm_table.specs.declared.serial.Serial.{Serial}
use Rattle.ptpm_table.specs.Entries.{Entries, Entry}
use Rattle.ptpm_table.specs.Numbering.{look_by, look_of, same_request}
use Rattle.ptpm_table.specs.Serial.{serial_of}
use Rattle.ptpm_agent.specs.declared.verdict.Verdict.{Verdict}
use Rattle.ptpm_agent.specs.Addressing.{is_numbered, request_of}
use Rattle.ptpm_agent.specs.Turn.{State, entry_of, judged, next_by, numbered_from, verdict_at}
use Rattle.ptpm_agent.proofs.Entries.{get-insert_same}
use Rattle.ptpm_agent.proofs.Turns.{judged-each, turn-message}
use Rattle.ptpm_device.specs.Asking.{asked, asked_by, is_asked, is_new}
use Rattle.ptpm_device.specs.Saying.{Say, new_said, reply_said}
use Rattle.ptpm_device.proofs.Judged.{judged-asked}
use Rattle.ptpm_device.proofs.Steps.{turn_said-new}
use Rattle.ptpm_saved.specs.SavingClock.{Datagram, CanBe}
use Rattle.ptpm_host.proofs.UnderWay.{message_alone}
use Rattle.ptpm_host.specs.Coming.{ClockState, Decides, Undertakes, after_coming, decided, undertakes}
use Rattle.ptpm_host.proofs.ComingLaws.{coming_holds, coming_sound}
use Rattle.ptpm_host.proofs.UndertakingLaws.{asks_at_most_once}
use Rattle.ptpm_table.specs.declared.serial.Serial.TheVariants as serials
use Rattle.ptpm_agent.specs.declared.verdict.Verdict.TheVariants as verdicts
use Rattle.ptpm_host.proofs.laws.undertaken_at_most_once.Goals as goal
use Rattle.ptpm_host.specs.Clock.{DeviceClock}

-- ---- it is new

and_second : (x y : Bool) → (x && y) ≡ true → y ≡ true
and_second true y is = is
and_second false y is = absurd (false≢true is)

asked_message : (c : DeviceClock) (s : State) (datagram : List ℕ) (v : Message)
    → message_of datagram ≡ Some v
    → is_some (asked c.rows c.clock s datagram) ≡ true
    → is_asked c.rows c.clock s v ≡ true
unfolding asked
asked_message c s datagram v read some =
    one_asked (is_asked c.rows c.clock s v) (sym (ap (λ (o : Option Message). is_some (asked_by c.rows c.clock s o)) read) ∙ some)
  where
    one_asked : (b : Bool) → is_some (if b then Some (numbered_from v) else None) ≡ true → b ≡ true
    one_asked true is = refl
    one_asked false is = absurd (false≢true is)

newer_by : (o : Serial) (same : Bool) → is_new (verdict_at (look_by o same)) ≡ true → o ≡ serials.Newer
newer_by serials.Newer same is = refl
newer_by serials.Same true is = absurd (false≢true is)
newer_by serials.Same false is = absurd (false≢true is)
newer_by serials.Older same is = absurd (false≢true is)

newer_of : (known : Bool) (e : Entry) (number : ℕ) (q : RequestValue)
    → is_new (verdict_at (look_of known (Some e) number q)) ≡ true
    → serial_of e.number number ≡ serials.Newer
newer_of true e number q is = newer_by (serial_of e.number number) (same_request e.request q) is
newer_of false e number q is = absurd (false≢true is)

judged_newer : (c : DeviceClock) (s : State) (v : Message) (e : Entry)
    → get s.entries v.source ≡ Some e
    → is_new (judged c.clock s v) ≡ true
    → serial_of e.number v.number ≡ serials.Newer
judged_newer c s v e kept = judged-each (λ (w : Verdict). is_new w ≡ true → serial_of e.number v.number ≡ serials.Newer) c.clock s v
    (λ is. absurd (false≢true is)) (λ is. absurd (false≢true is)) (λ is. absurd (false≢true is)) (λ is. absurd (false≢true is))
    (λ d o a q is. newer_of (is_numbered c.clock v) e v.number (request_of v)
    (sym (ap (λ (k : Option Entry). is_new (verdict_at (look_of (is_numbered c.clock v) k v.number (request_of v)))) kept) ∙ is))

undertaken_newer : (c : DeviceClock) (s : ClockState) (datagram : List ℕ) (v : Message) (e : Entry)
    → undertakes c s datagram ≡ true
    → message_of datagram ≡ Some v
    → get s.state.entries v.source ≡ Some e
    → serial_of e.number v.number ≡ serials.Newer
undertaken_newer c s datagram v e is read kept =
    let said = asked_message c s.state datagram v read (and_second (not (is_some s.under_way)) (is_some (asked c.rows c.clock s.state datagram)) is) in
    judged_newer c s.state v e kept (ap is_new (judged-asked c.rows c.clock s.state v said))

-- what is under way then spells it
undertaken_same : (c : DeviceClock) (s : ClockState) (port : ℕ) (datagram : List ℕ) (v : Message)
    → undertakes c s datagram ≡ true
    → message_of datagram ≡ Some v
    → IsSomeAnd (after_coming c s (Undertakes port datagram)).under_way (λ x. message_of x.1 ≡ Some v)
undertaken_same c s port datagram v is read =
    subst (λ (b : Bool). IsSomeAnd (if b then record s { under_way = Some (port, message_octets datagram) } else s).under_way (λ x. message_of x.1 ≡ Some v))
    (sym is) (message_alone v datagram read).0

-- ---- it is kept

abbrev HasNumber : ℕ → Option Entry → Type 0
HasNumber number o = IsSomeAnd o (λ e. e.number ≡ number)

inserted : (s : Entries) (v : Message) (e : Entry) → e.number ≡ v.number → HasNumber v.number (get (insert s v.source e) v.source)
inserted s v e is = subst (HasNumber v.number) (sym (get-insert_same s v.source e)) is

said_kept : (c : DeviceClock) (s : State) (port : ℕ) (datagram : List ℕ) (v : Message) (o : Option ReplyValue)
    → message_of datagram ≡ Some v
    → judged c.clock s v ≡ verdicts.AnsweredNew
    → HasNumber v.number (get (new_said c.clock s port datagram v o).next.entries v.source)
said_kept c s port datagram v (Some reply) read new = inserted s.entries v _ refl
said_kept c s port datagram v None read new =
    subst (λ (t : State). HasNumber v.number (get t.entries v.source))
    (sym (ap (λ t. t.next) (turn-message c.clock s port datagram v read) ∙ ap (λ w. next_by w c.clock s v) new))
    (inserted s.entries v (entry_of c.clock s (numbered_from v)) refl)

decided_kept : (c : DeviceClock) (s : ClockState) (x : Datagram) (say : Say) (v : Message)
    → s.under_way ≡ Some x
    → message_of x.1 ≡ Some v
    → judged c.clock s.state v ≡ verdicts.AnsweredNew
    → HasNumber v.number (get (after_coming c s (Decides say)).state.entries v.source)
decided_kept c s x say v busy read new =
    subst (λ (o : Option Datagram). HasNumber v.number (get (decided c s.state say o).entries v.source)) (sym busy)
    (subst (λ t. HasNumber v.number (get t.next.entries v.source))
    (sym (turn_said-new c.rows c.clock s.state say x.0 x.1 v (reply_said c.rows c.clock s.state.sets v.source (request_of v) say) read new refl))
    (said_kept c s.state x.0 x.1 v (reply_said c.rows c.clock s.state.sets v.source (request_of v) say) read new))

pub returns-clause-once : goal.returns-clause-once
returns-clause-once c = λ clock s calls can. asks_at_most_once clock (λ t. CanBe t.state) (coming_sound clock) (coming_holds clock) s can calls

pub returns-clause-newer : goal.returns-clause-newer
returns-clause-newer c = undertaken_newer

pub returns-clause-same : goal.returns-clause-same
returns-clause-same c = undertaken_same

pub returns-clause-kept : goal.returns-clause-kept
returns-clause-kept c = decided_kept
