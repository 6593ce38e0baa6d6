-- A clock stays in the domain of the change that is under way.
use Rattle.std.proofs.Common.{arith, ◌≡◌, ◌≢◌, ◌∙◌, ◌&&◌, ◌||◌, ◌==◌, Bool, true, false, not, ap, refl, sym, subst, List, [], ◌∷◌, ℕ, Option, Some, None, Result, Ok, Err, if◌then◌else◌}
use Rattle.std.specs.FinMap.{empty}
use Rattle.std.specs.List.{find, list_all}
use Rattle.std.specs.Prelude.{is_none, is_some}
use Rattle.std.proofs.lemmas.Bool.{and_from, cond-false, eqb-true, false≢true, or_left}
use Rattle.ptpm_codec.specs.declared.error.DecodeError.{DecodeError}
use Rattle.ptpm_codec.specs.declared.error.ErrorId.{ErrorId}
use Rattle.ptpm_codec.specs.declared.message.Action.{Action}
use Rattle.ptpm_codec.specs.declared.message.Message.{Message}
use Rattle.ptpm_codec.specs.Layout.{message_octets}
use Rattle.ptpm_codec.specs.Reading.{message_of, reading}
use Rattle.ptpm_data.specs.declared.management_id.Layout.{Layout}
use Rattle.ptpm_data.specs.declared.rights.Rights.{Rights}
use Rattle.ptpm_data.specs.Changes.{applied, changed_at, changed_by, commanded, set_members, unless_refused}
use Rattle.ptpm_data.specs.ManagementId.{RowValue, id_table, row_of}
use Rattle.ptpm_data.specs.Members.{DataSetsValue}
use Rattle.ptpm_data.specs.ObservationBack.{Observation}
use Rattle.ptpm_data.specs.Refusals.{refusal_of, row_refusal}
use Rattle.ptpm_data.specs.Request.{RequestValue}
use Rattle.ptpm_data.specs.Rights.{all_rights}
use Rattle.ptpm_data.proofs.Answering.{changed_by-unlisted}
use Rattle.ptpm_data.proofs.FieldSizes.{found}
use Rattle.ptpm_data.proofs.Keeping.{changed_by-all, changed_by-refused}
use Rattle.ptpm_data.proofs.Observed.{observed-all}
use Rattle.ptpm_table.specs.declared.reply_table.Look.{Look}
use Rattle.ptpm_agent.specs.declared.verdict.Verdict.{Verdict}
use Rattle.ptpm_agent.specs.Addressing.{is_addressed, is_own, is_request, request_of}
use Rattle.ptpm_agent.specs.Observing.{moved_state}
use Rattle.ptpm_agent.specs.Turn.{Clock, State, is_in_domain, judged, look, next_by, numbered_from, turn, turn_by, verdict_at}
use Rattle.ptpm_agent.proofs.Turns.{turn-next}
use Rattle.ptpm_device.specs.Asking.{asked, asked_by, is_asked, is_for_device, is_new}
use Rattle.ptpm_device.specs.declared.relayed.RelayedId.{RelayedId}
use Rattle.ptpm_device.specs.Relayed.{is_change, refusal_at, relayed}
use Rattle.ptpm_device.specs.Saying.{Say, turn_said}
use Rattle.ptpm_device.proofs.Judged.{judged-asked, relayed_parts, turn_said-verdict}
use Rattle.ptpm_device.proofs.Steps.{turn_said-each}
use Rattle.ptpm_device.proofs.WhenAsked.{here-new, here_parts, not_asked}
use Rattle.ptpm_saved.specs.SavingClock.{Datagram}
use Rattle.ptpm_host.specs.Changing.{is_set, moves_domain, moves_domain_in, owner_by, owner_clock, owner_turn}
use Rattle.ptpm_host.specs.Coming.{Changed, ClockState, Coming, Decides, Heard, OfOwner, Undertakes, after_coming, undertakes}
use Rattle.ptpm_host.specs.Undertaking.{IsInItsDomain, is_taken_meanwhile}
use Rattle.ptpm_host.proofs.UnderWay.{message_alone}
use Rattle.ptpm_codec.specs.declared.message.Action.TheVariants as actions
use Rattle.ptpm_data.specs.declared.management_id.Layout.TheVariants as layouts
use Rattle.ptpm_table.specs.declared.reply_table.Look.TheVariants as looks
use Rattle.ptpm_agent.specs.declared.verdict.Verdict.TheVariants as verdicts
use Rattle.ptpm_host.proofs.laws.decided_in_its_domain.Goals as goal
use Rattle.ptpm_host.specs.Clock.{DeviceClock}

-- ---- a verdict in the clock's domain

-- two verdicts of which one is OtherDomain
is_other : Verdict → Bool
is_other verdicts.OtherDomain = true
is_other _ = false

never : (w : Verdict) → is_other w ≡ false → w ≢ verdicts.OtherDomain
unfolding is_other
never w none = λ same. false≢true (sym none ∙ ap is_other same)

looked : (l : Look) → is_other (verdict_at l) ≡ false
unfolding is_other
looked looks.Unknown = refl
looked looks.New = refl
looked looks.Repeat = refl
looked looks.Conflict = refl
looked looks.Old = refl

judged_on : (own away reply : Bool) (l : Look)
    → is_other (if own then verdicts.OwnMessage else if away then verdicts.NotAddressed else if reply then verdicts.NotARequest else verdict_at l) ≡ false
unfolding is_other
judged_on true away reply l = refl
judged_on false true reply l = refl
judged_on false false true l = refl
judged_on false false false l = looked l

judged_here : (c : DeviceClock) (s : State) (v : Message)
    → v.sdo == 0 ≡ true
    → v.domain == s.sets.default.domain ≡ true
    → is_other (judged c.clock s v) ≡ false
unfolding judged
judged_here c s v sdo domain =
    let inside : is_in_domain c.clock s v ≡ true = and_from _ _ sdo (or_left _ _ domain) in
    ap is_other (cond-false _ _ _ (ap not inside)) ∙ judged_on (is_own c.clock v) (not (is_addressed c.clock s.sets v)) (not (is_request v)) (look c.clock s v)

turned_here : (c : DeviceClock) (s : State) (port : ℕ) (datagram : List ℕ)
    → ((v : Message) → reading datagram ≡ Ok v → is_other (judged c.clock s v) ≡ false)
    → is_other (turn c.clock s port datagram).verdict ≡ false
unfolding is_other turn
turned_here c s port datagram each = by_reading (reading datagram) refl
  where
    by_reading : (r : Result Message DecodeError) → reading datagram ≡ r → is_other (turn_by c.clock s port datagram r).verdict ≡ false
    by_reading (Err cause) is = refl
    by_reading (Ok v) is = each v is

read_message : (datagram : List ℕ) (v : Message) → reading datagram ≡ Ok v → message_of datagram ≡ Some v
unfolding message_of
read_message datagram v is = grind arith

decided_here : (c : DeviceClock) (s : ClockState) (x : Datagram) (say : Say)
    → IsInItsDomain s
    → s.under_way ≡ Some x
    → (turn_said c.rows c.clock s.state say x.0 x.1).verdict ≢ verdicts.OtherDomain
decided_here c s x say here busy =
    never (turn_said c.rows c.clock s.state say x.0 x.1).verdict
    (ap is_other (turn_said-verdict c.rows c.clock s.state say x.0 x.1)
    ∙ turned_here c s.state x.0 x.1 (λ v is.
    let parts = here x v busy (read_message x.1 v is) in judged_here c s.state v parts.0 parts.1))

-- ---- a request that leaves the domain

untouched : (layout : Layout) (q : RequestValue) (action : Action) (d : DataSetsValue)
    → is_change action ≡ false
    → applied layout q action d ≡ d
untouched layout q actions.Get d none = refl
untouched layout q actions.Set d none = absurd (false≢true (sym none))
untouched layout q actions.Command d none = absurd (false≢true (sym none))
untouched layout q actions.Response d none = refl
untouched layout q actions.Acknowledge d none = refl

refused : (q : RequestValue) (rights : Rights) (d : DataSetsValue) (r : Option ErrorId)
    → refusal_of q rights ≡ r
    → is_none r ≡ false
    → changed_by q rights d ≡ d
refused q rights d None is some = absurd (false≢true (sym some))
refused q rights d (Some error) is some = changed_by-refused q rights d error is

unpermitted : (q : RequestValue) (rights : Rights) (d : DataSetsValue) (b : Bool)
    → is_change q.action ≡ b
    → (b && is_none (refusal_of q rights)) ≡ false
    → changed_by q rights d ≡ d
unpermitted q rights d true is none = refused q rights d (refusal_of q rights) refl none
unpermitted q rights d false is none = changed_by-all (λ e. e ≡ d) q rights d refl (λ e suits. untouched e.layout q q.action d is)

-- what does not reach the device, by the row of its id or by the clock, changes nothing
closed : (rows : List RelayedId) (q : RequestValue) (rights : Rights) (d : DataSetsValue) (o : Option RelayedId)
    → relayed rows q ≡ o
    → (is_change q.action && is_none (refusal_at o q rights)) ≡ false
    → changed_by q rights d ≡ d
closed rows q rights d None found none = unpermitted q rights d (is_change q.action) refl none
closed rows q rights d (Some r) found none = sym (changed_by-unlisted q rights d (relayed_parts rows q r found).1)

-- a manager's message about which the device is not asked changes nothing
unasked_at : (c : DeviceClock) (s : State) (v : Message) (w : Verdict)
    → judged c.clock s v ≡ w
    → is_asked c.rows c.clock s v ≡ false
    → (next_by w c.clock s v).sets ≡ s.sets
unfolding is_asked
unasked_at c s v verdicts.AnsweredNew is none =
    closed c.rows (request_of v) (c.clock.rights v.source) s.sets (relayed c.rows (request_of v)) refl
    (sym (ap (λ (w : Verdict). is_new w && is_for_device c.rows c.clock v.source (request_of v)) is) ∙ none)
unasked_at c s v _ is none = refl

none_of : {A : Type 0} (o : Option A) → not (is_some o) ≡ true → o ≡ None
none_of None none = refl
none_of (Some x) none = absurd (false≢true none)

heard_stays : (c : DeviceClock) (s : State) (port : ℕ) (datagram : List ℕ) (say : Say)
    → asked c.rows c.clock s datagram ≡ None
    → (turn_said c.rows c.clock s say port datagram).next.sets ≡ s.sets
heard_stays c s port datagram say none =
    turn_said-each (λ t. t.next.sets ≡ s.sets) c.rows c.clock s say port datagram
    (turn-next (λ t. t.sets ≡ s.sets) c.clock s port datagram refl
    (λ v read. unasked_at c s v (judged c.clock s v) refl (not_asked c.rows c.clock s datagram v read none)))
    (λ v reply read new said. refl) (λ v reply read other told. refl)

-- ---- a SET of another id than DOMAIN

is_domain : Layout → Bool
is_domain layouts.Domain = true
is_domain _ = false

is_domain_row : RowValue → Bool
is_domain_row e = not (is_domain e.layout) || e.id == 0x2007

table_has_it : list_all is_domain_row id_table ≡ true
unfolding is_domain is_domain_row
table_has_it = refl

-- what is found has the id that was sought
sought_first : (id : ℕ) (r e : RowValue) (rest : Option RowValue) (b : Bool)
    → (r.id == id) ≡ b
    → (if b then Some r else rest) ≡ Some e
    → (rest ≡ Some e → e.id == id ≡ true)
    → e.id == id ≡ true
sought_first id r e rest true here is others = let same : r ≡ e = cc in subst (λ (x : RowValue). x.id == id ≡ true) same here
sought_first id r e rest false here is others = others is

sought : (id : ℕ) (rows : List RowValue) (e : RowValue)
    → find (λ r. r.id == id) rows ≡ Some e
    → e.id == id ≡ true
sought id [] e is = absurd cc
sought id (r ∷ rows) e is = sought_first id r e (find (λ x. x.id == id) rows) (r.id == id) refl is (λ later. sought id rows e later)

id_of_domain : (id : ℕ) (e : RowValue)
    → row_of id ≡ Some e
    → is_domain e.layout ≡ true
    → id == 0x2007 ≡ true
unfolding row_of is_domain_row
id_of_domain id e is domain =
    let row : (not (is_domain e.layout) || e.id == 0x2007) ≡ true = found (λ x. x.id == id) is_domain_row id_table e table_has_it is in
    let same : e.id ≡ id = eqb-true e.id id (sought id id_table e is) in
    let own : e.id == 0x2007 ≡ true = sym (ap (λ (b : Bool). not b || e.id == 0x2007) domain) ∙ row in
    subst (λ (n : ℕ). n == 0x2007 ≡ true) same own

set_domain : (layout : Layout) (port : ℕ) (octets : List ℕ) (d : DataSetsValue)
    → is_domain layout ≡ false
    → (set_members layout port octets d).default.domain ≡ d.default.domain
unfolding is_domain set_members
set_domain layouts.Domain port octets d none = absurd (false≢true (sym none))
set_domain _ port octets d none = refl

command_domain : (layout : Layout) (port : ℕ) (d : DataSetsValue) → (commanded layout port d).default.domain ≡ d.default.domain
unfolding commanded
command_domain layouts.EnablePort port d = refl
command_domain _ port d = refl

applied_domain : (layout : Layout) (q : RequestValue) (action : Action) (d : DataSetsValue)
    → (is_set action && is_domain layout) ≡ false
    → (applied layout q action d).default.domain ≡ d.default.domain
applied_domain layout q actions.Set d none = set_domain layout q.port q.octets d none
applied_domain layout q actions.Command d none = command_domain layout q.port d
applied_domain layout q _ d none = refl

no_domain : (id : ℕ) (e : RowValue) (set domain : Bool)
    → row_of id ≡ Some e
    → is_domain e.layout ≡ domain
    → (set && id == 0x2007) ≡ false
    → (set && domain) ≡ false
no_domain id e false domain is of moves = refl
no_domain id e true false is of moves = refl
no_domain id e true true is of moves = absurd (false≢true (sym moves ∙ id_of_domain id e is of))

other_domain : (q : RequestValue) (rights : Rights) (d : DataSetsValue)
    → moves_domain q ≡ false
    → (changed_by q rights d).default.domain ≡ d.default.domain
unfolding changed_by
other_domain q rights d moves = by_row (row_of q.id) refl
  where
    unless : (e : RowValue) (r : Option ErrorId)
        → row_of q.id ≡ Some e
        → (unless_refused r (applied e.layout q q.action d) d).default.domain ≡ d.default.domain
    unless e None is = applied_domain e.layout q q.action d (no_domain q.id e (is_set q.action) (is_domain e.layout) is refl moves)
    unless e (Some error) is = refl

    by_row : (o : Option RowValue) → row_of q.id ≡ o → (changed_at o q rights d).default.domain ≡ d.default.domain
    by_row None is = refl
    by_row (Some e) is = unless e (row_refusal e q rights) is

-- ---- what the owner sends

owned_domain : (k : Clock) (s : State) (v : Message) (w : Verdict)
    → moves_domain (request_of v) ≡ false
    → (next_by w k s v).sets.default.domain ≡ s.sets.default.domain
owned_domain k s v verdicts.AnsweredNew moves = other_domain (request_of v) (k.rights v.source) s.sets moves
owned_domain k s v _ moves = refl

owner_stays : (c : Clock) (s : State) (port : ℕ) (datagram : List ℕ)
    → moves_domain_in (message_of datagram) ≡ false
    → (owner_turn c s port datagram).next.sets.default.domain ≡ s.sets.default.domain
unfolding owner_turn
owner_stays c s port datagram moves = by_message (message_of datagram) refl
  where
    moved : (v : Message) → message_of datagram ≡ Some v → moves_domain (request_of v) ≡ false
    moved v is = sym (ap moves_domain_in is) ∙ moves

    by_message : (o : Option Message) → message_of datagram ≡ o → (owner_by c s port datagram o).next.sets.default.domain ≡ s.sets.default.domain
    by_message None read =
        turn-next (λ t. t.sets.default.domain ≡ s.sets.default.domain) c s port datagram refl
        (λ v is. owned_domain c s v (judged c s v) (moved v is))
    by_message (Some w) read =
        let k = owner_clock c.identity w.source in
        let s0 : State = record { sets = s.sets; entries = empty } in
        turn-next (λ t. t.sets.default.domain ≡ s.sets.default.domain) k s0 port datagram refl
        (λ v is. owned_domain k s0 v (judged k s0 v) (moved v is))

-- ---- a clock in the domain of what is under way

not_true : (b : Bool) → not b ≡ true → b ≡ false
not_true true is = absurd (false≢true is)
not_true false is = refl

-- it is the same change, in the same domain
kept_domain : (s t : ClockState)
    → t.under_way ≡ s.under_way
    → t.state.sets.default.domain ≡ s.state.sets.default.domain
    → IsInItsDomain s
    → IsInItsDomain t
kept_domain s t busy same here = λ x v is read.
    let parts = here x v (sym busy ∙ is) read in
    (parts.0, subst (λ (n : ℕ). v.domain == n ≡ true) (sym same) parts.1)

unread_unasked : (c : DeviceClock) (s : State) (datagram : List ℕ)
    → message_of datagram ≡ None
    → is_some (asked c.rows c.clock s datagram) ≡ false
unfolding asked
unread_unasked c s datagram unread = ap (λ (o : Option Message). is_some (asked_by c.rows c.clock s o)) unread

unasked : (c : DeviceClock) (s : State) (datagram : List ℕ) (v : Message)
    → message_of datagram ≡ Some v
    → is_asked c.rows c.clock s v ≡ false
    → is_some (asked c.rows c.clock s datagram) ≡ false
unfolding asked
unasked c s datagram v read none =
    ap (λ (o : Option Message). is_some (asked_by c.rows c.clock s o)) read
    ∙ ap (λ (b : Bool). is_some (if b then Some (numbered_from v) else None)) none

asked_one : (c : DeviceClock) (s : State) (datagram : List ℕ) (v : Message) (b : Bool)
    → message_of datagram ≡ Some v
    → is_some (asked c.rows c.clock s datagram) ≡ true
    → is_asked c.rows c.clock s v ≡ b
    → is_asked c.rows c.clock s v ≡ true
asked_one c s datagram v true read some is = is
asked_one c s datagram v false read some is = absurd (false≢true (sym (unasked c s datagram v read is) ∙ some))

second : (a b : Bool) → (a && b) ≡ true → b ≡ true
second true b is = is
second false b is = absurd (false≢true is)

undertaken_at : (c : DeviceClock) (s : ClockState) (port : ℕ) (datagram : List ℕ) (x : Datagram) (v : Message) (o : Option Message)
    → is_some (asked c.rows c.clock s.state datagram) ≡ true
    → message_of datagram ≡ o
    → ◌≡◌ {A = Option Datagram} (Some (port, message_octets datagram)) (Some x)
    → message_of x.1 ≡ Some v
    → (v.sdo == 0 ≡ true) × (v.domain == s.state.sets.default.domain ≡ true)
undertaken_at c s port datagram x v None some unread busy read = absurd (false≢true (sym (unread_unasked c s.state datagram unread) ∙ some))
undertaken_at c s port datagram x v (Some w) some its busy read =
    let here = here_parts c.clock s.state w (here-new c.clock s.state w (judged-asked c.rows c.clock s.state w (asked_one c s.state datagram w (is_asked c.rows c.clock s.state w) its some refl))) in
    let whole : ◌≡◌ {A = Datagram} (port, message_octets datagram) x = cc in
    let spelled : Some w ≡ Some v = sym (message_alone w datagram its).0 ∙ (ap (λ (y : Datagram). message_of y.1) whole ∙ read) in
    let same : w ≡ v = cc in
    subst (λ (u : Message). (u.sdo == 0 ≡ true) × (u.domain == s.state.sets.default.domain ≡ true)) same (here.sdo, here.domain)

undertaken_here : (c : DeviceClock) (s : ClockState) (port : ℕ) (datagram : List ℕ)
    → undertakes c s datagram ≡ true
    → IsInItsDomain (after_coming c s (Undertakes port datagram))
undertaken_here c s port datagram is =
    subst (λ (b : Bool). IsInItsDomain (if b then record s { under_way = Some (port, message_octets datagram) } else s)) (sym is)
    (λ x v busy read.
    undertaken_at c s port datagram x v (message_of datagram) (second (not (is_some s.under_way)) (is_some (asked c.rows c.clock s.state datagram)) is) refl busy read)

stays_here : (c : DeviceClock) (s : ClockState) (x : Coming)
    → is_taken_meanwhile c s x ≡ true
    → IsInItsDomain s
    → IsInItsDomain (after_coming c s x)
stays_here c s (Heard port datagram say) taken here =
    kept_domain s (after_coming c s (Heard port datagram say)) refl
    (ap (λ (d : DataSetsValue). d.default.domain) (heard_stays c s.state port datagram say (none_of (asked c.rows c.clock s.state datagram) taken))) here
stays_here c s (OfOwner port datagram) taken here =
    kept_domain s (after_coming c s (OfOwner port datagram)) refl
    (owner_stays c.clock s.state port datagram (not_true (moves_domain_in (message_of datagram)) taken)) here
stays_here c s (Changed request) taken here =
    kept_domain s (after_coming c s (Changed request)) refl (other_domain request all_rights s.state.sets (not_true (moves_domain request) taken)) here
stays_here c s (Undertakes port datagram) taken here = by_taking (undertakes c s datagram) refl
  where
    by_taking : (b : Bool) → undertakes c s datagram ≡ b → IsInItsDomain (after_coming c s (Undertakes port datagram))
    by_taking true is = undertaken_here c s port datagram is
    by_taking false is =
        subst (λ (b : Bool). IsInItsDomain (if b then record s { under_way = Some (port, message_octets datagram) } else s)) (sym is) here
stays_here c s (Decides say) taken here = λ x v is read. absurd cc

observed_here : (s : ClockState) (o : Observation)
    → IsInItsDomain s
    → IsInItsDomain (record s { state = moved_state o.clock o.ports s.state })
observed_here s o here =
    kept_domain s (record s { state = moved_state o.clock o.ports s.state }) refl
    (observed-all (λ e. e.default.domain ≡ s.state.sets.default.domain) o.clock o.ports s.state.sets refl (λ accepted. refl)) here

pub returns-clause-undertaken : goal.returns-clause-undertaken
returns-clause-undertaken c = undertaken_here

pub returns-clause-stays : goal.returns-clause-stays
returns-clause-stays c = stays_here

pub returns-clause-observed : goal.returns-clause-observed
returns-clause-observed c = observed_here

pub returns-clause-decided : goal.returns-clause-decided
returns-clause-decided c = decided_here
