-- What a clock asks of its device may be under way.
use Rattle.std.proofs.Common.{arith, ◌≡◌, ◌∙◌, ◌≤◌, ◌+◌, ◌&&◌, ◌∷◌, ap, refl, subst, sym, Bool, true, false, ℕ, List, [], length, Option, Some, None, Ok, Err}
use Rattle.std.specs.Prelude.{nat_le, take, is_none, is_some, if◌then◌else◌}
use Rattle.std.proofs.lemmas.Bool.{false≢true, and_from, and_parts, eq-eqb, le-leb, leb-true, not-false}
use Rattle.std.proofs.lemmas.Bool.Decides.{nat_tests}
use Rattle.std.proofs.lemmas.List.{length-drop, length-take, take_all}
use Rattle.ptpm_codec.specs.declared.error.ErrorId.{ErrorId}
use Rattle.ptpm_codec.specs.declared.message.Action.{Action}
use Rattle.ptpm_codec.specs.declared.message.Action.TheVariants as actions
use Rattle.ptpm_codec.specs.PtpText.{is_ptp_text, ptp_text}
use Rattle.ptpm_codec.specs.Layout.{message_length, message_octets}
use Rattle.ptpm_data.specs.declared.management_id.Layout.{Layout}
use Rattle.ptpm_data.specs.declared.management_id.Layout.TheVariants as layouts
use Rattle.ptpm_data.specs.declared.port_setting.PortSetting.TheVariants as settings
use Rattle.ptpm_data.specs.declared.rights.Rights.{Rights}
use Rattle.ptpm_data.specs.ManagementId.{RowValue, row_of, set_of}
use Rattle.ptpm_data.specs.Refusals.{is_length, is_set_length, is_set_value, is_value, refusal_at, refusal_of}
use Rattle.ptpm_data.specs.Request.{RequestValue}
use Rattle.ptpm_data.specs.SetForm.{SetField, NoSet, Empty, TextUpTo, AnyOctet, from◌to◌, either◌to◌or◌, MechanismNumber, minus◌to◌, NotBothLeaps}
use Rattle.ptpm_data.proofs.Keeping.{suits_from}
use Rattle.ptpm_codec.specs.declared.message.Body.{Body}
use Rattle.ptpm_codec.specs.declared.message.Body.TheVariants as bodies
use Rattle.ptpm_codec.specs.declared.message.Message.{Message}
use Rattle.ptpm_codec.specs.Message.{action_of, is_reply, octets_of}
use Rattle.ptpm_codec.specs.declared.error.DecodeError.{DecodeError}
use Rattle.ptpm_codec.specs.Reading.{IsWellFormed, message_at, message_of, ok_unless, reading, some_unless}
use Rattle.ptpm_codec.specs.Refusal.{refusal}
use Rattle.ptpm_agent.proofs.Turns.{message_of-reading, reading-message_of}
use Rattle.ptpm_codec.specs.Spelling.{Spells, SpellsBody}
use Rattle.ptpm_codec.proofs.ReadingLaws.{message_of-spells, message_size, spells-message_of}
use Rattle.ptpm_codec.proofs.RefusalLaws.{first_of-none}
use Rattle.ptpm_agent.specs.Addressing.{request_of}
use Rattle.ptpm_agent.specs.Turn.{NumberedRequest, State, numbered_from}
use Rattle.ptpm_device.specs.declared.relayed.RelayedId.{RelayedId}
use Rattle.ptpm_device.specs.Asking.{asked, asked_by, is_asked}
use Rattle.ptpm_device.specs.Relayed as rows
use Rattle.ptpm_device.specs.Relayed.{is_change, is_relayed_length, refusal_in, relayed, relayed_refusal}
use Rattle.ptpm_host.specs.UnderWay.{is_change_in, may_be_under_way}
use Rattle.ptpm_host.specs.Clock.{DeviceClock}

-- a text is of 128 octets at most
abbrev is_small : SetField → Bool
is_small (TextUpTo limit) = nat_le limit 128
is_small _ = true

small : (layout : Layout) → is_small (set_of layout) ≡ true
unfolding set_of
small (layouts.Setting settings.LogAnnounceInterval) = refl
small (layouts.Setting settings.AnnounceReceiptTimeout) = refl
small (layouts.Setting settings.LogSyncInterval) = refl
small (layouts.Setting settings.DelayMechanism) = refl
small (layouts.Setting settings.LogMinPdelayReqInterval) = refl
small _ = refl

text_fits : (octets : List ℕ) (limit : ℕ)
    → nat_le limit 128 ≡ true
    → is_ptp_text octets ≡ true
    → nat_le (length (ptp_text octets)) limit ≡ true
    → length octets ≤ 130
text_fits [] limit few text fits = omega arith
text_fits (t ∷ xs) limit few text fits = grind (arith, nat_tests, length-take)

set_fits : (set : SetField) (octets : List ℕ)
    → is_small set ≡ true
    → is_set_length set octets ≡ true
    → is_set_value set octets ≡ true
    → length octets ≤ 130
unfolding is_set_length is_set_value
set_fits NoSet octets few size good = absurd (false≢true size)
set_fits Empty octets few size good = grind (arith, nat_tests)
set_fits (TextUpTo limit) octets few size good = text_fits octets limit few size (and_parts _ _ good).0
set_fits NotBothLeaps octets few size good = grind (arith, nat_tests)
set_fits AnyOctet octets few size good = grind (arith, nat_tests)
set_fits (from low to high) octets few size good = grind (arith, nat_tests)
set_fits (either low to high or other) octets few size good = grind (arith, nat_tests)
set_fits MechanismNumber octets few size good = grind (arith, nat_tests)
set_fits (minus low to high) octets few size good = grind (arith, nat_tests)

field_fits : (action : Action) (set : SetField) (octets : List ℕ)
    → is_change action ≡ true
    → is_small set ≡ true
    → is_length action set octets ≡ true
    → is_value action set octets ≡ true
    → length octets ≤ 130
field_fits actions.Set set octets change few size good = set_fits set octets few size good
field_fits actions.Command set octets change few size good = grind (arith, nat_tests)
field_fits actions.Get set octets change few size good = absurd (false≢true change)
field_fits actions.Response set octets change few size good = absurd (false≢true change)
field_fits actions.Acknowledge set octets change few size good = absurd (false≢true change)

accepted_at : (row : Option RowValue) (q : RequestValue) (rights : Rights)
    → is_change q.action ≡ true
    → refusal_at row q rights ≡ None
    → length q.octets ≤ 130
accepted_at None q rights change none = cc
accepted_at (Some e) q rights change none =
    let suits = suits_from e q rights none in
    field_fits q.action (set_of e.layout) q.octets change (small e.layout) suits.size suits.value

pub accepted_fits : (q : RequestValue) (rights : Rights)
    → is_change q.action ≡ true
    → refusal_of q rights ≡ None
    → length q.octets ≤ 130
accepted_fits q rights change none = accepted_at (row_of q.id) q rights change none

-- what the device is asked, by a row of its ids or by the clock
relayed_fits : (r : RelayedId) (size : ℕ) → is_relayed_length r size ≡ true → size ≤ 130
relayed_fits r size fits = leb-true _ _ (and_parts _ _ (and_parts _ _ fits).1).1

relayed_size : (r : RelayedId) (q : RequestValue) (rights : Rights)
    → relayed_refusal r q rights ≡ None
    → is_relayed_length r (length q.octets) ≡ true
unfolding relayed_refusal
relayed_size r q rights none = grind (arith, first_of-none, not-false)

open_fits : (o : Option RelayedId) (q : RequestValue) (rights : Rights)
    → is_change q.action ≡ true
    → rows.refusal_at o q rights ≡ None
    → length q.octets ≤ 130
open_fits None q rights change none = accepted_fits q rights change none
open_fits (Some r) q rights change none = relayed_fits r (length q.octets) (relayed_size r q rights none)

-- ---- a message alone

alone : (v : Message) (d : List ℕ) → Spells v (message_octets d) → message_octets (message_octets d) ≡ message_octets d
alone v d s =
    let n = message_length d in
    let long : length (take n d) ≡ message_length (take n d) = sym s.message_length in
    take_all (message_length (take n d)) (take n d) (omega (arith, long))

pub message_alone : (v : Message) (d : List ℕ)
    → message_of d ≡ Some v
    → (message_of (message_octets d) ≡ Some v) × (message_octets (message_octets d) ≡ message_octets d)
message_alone v d read =
    let s = message_of-spells v d read in
    let same = alone v d s in
    (spells-message_of v (message_octets d) (subst (Spells v) (sym same) s), same)

-- what is not read is no message
pub unread : (d : List ℕ) (e : DecodeError) → reading d ≡ Err e → message_of d ≡ None
unfolding message_of
unread d e is = unread_by (refusal d) (message_at (message_octets d)) is
  where
    unread_by : (r : Option DecodeError) (v : Message) → ok_unless r v ≡ Err e → some_unless r v ≡ None
    unread_by None v is = absurd (cc)
    unread_by (Some x) v is = refl

pub same_read : (d : List ℕ) (v w : Message) → reading d ≡ Ok v → message_of d ≡ Some w → v ≡ w
same_read d v w read is = same_some v w (sym (message_of-reading d v read) ∙ is)
  where
    same_some : (a b : Message) → ◌≡◌ {A = Option Message} (Some a) (Some b) → a ≡ b
    same_some a b same = cc

pub change_read : (d : List ℕ) → may_be_under_way d ≡ true → (v : Message) × (reading d ≡ Ok v)
unfolding may_be_under_way
change_read d may = some_read (message_of d) refl (and_parts _ _ may).0
  where
    some_read : (o : Option Message) → message_of d ≡ o → is_change_in o ≡ true → (v : Message) × (reading d ≡ Ok v)
    some_read None read is = absurd (false≢true is)
    some_read (Some v) read is = (v, reading-message_of d v read)

-- a test of all three, if two of them hold; and one of the first, if it does not
pub all_three : (x a b e : Bool) → a ≡ true → b ≡ x → e ≡ true → x ≡ (a && (b && e))
all_three x true true true first second third = sym second
all_three x true false true first second third = sym second
all_three x false b e first second third = absurd (false≢true first)
all_three x true true false first second third = absurd (false≢true third)
all_three x true false false first second third = absurd (false≢true third)

pub not_first : (x a b : Bool) → x ≡ false → a ≡ false → x ≡ (a && b)
not_first x true b none first = absurd (false≢true (sym first))
not_first x false b none first = none

-- it has 54 octets before the dataField
field_size : (b : Body) (m : List ℕ)
    → 54 ≤ length m
    → SpellsBody b m
    → is_reply (action_of b) ≡ false
    → length m ≡ 54 + length (octets_of b)
field_size (bodies.Request action id octets) m long s request = omega (arith, ap length s.1.octets_are, length-drop 54 m)
field_size (bodies.Answer action id octets) m long s request = absurd (false≢true (sym request ∙ s.0))
field_size (bodies.Fault action error id text) m long s request = absurd (false≢true (sym request ∙ s.0))

change_request : (a : Action) → is_change a ≡ true → is_reply a ≡ false
change_request actions.Set change = refl
change_request actions.Command change = refl
change_request actions.Get change = refl
change_request actions.Response change = absurd (false≢true change)
change_request actions.Acknowledge change = absurd (false≢true change)

-- ---- what is asked

module _ (c : DeviceClock) (s : State) (datagram : List ℕ) where
  asked_read : (o : Option Message)
      → is_some (asked_by c.rows c.clock s o) ≡ true
      → message_of datagram ≡ o
      → (v : Message) × (message_of datagram ≡ Some v) × (is_asked c.rows c.clock s v ≡ true)
  asked_read None is read = absurd (false≢true is)
  asked_read (Some v) is read = (v, read, asked_if (is_asked c.rows c.clock s v) (numbered_from v) is)
    where
      asked_if : (b : Bool) (r : NumberedRequest) → is_some (if b then Some r else None) ≡ true → b ≡ true
      asked_if true r is = refl
      asked_if false r is = is

  may_be : (v : Message)
      → message_of datagram ≡ Some v
      → is_asked c.rows c.clock s v ≡ true
      → may_be_under_way (message_octets datagram) ≡ true
  unfolding is_asked may_be_under_way
  may_be v read is =
      let permitted = (and_parts _ _ is).1 in
      let change : is_change (action_of v.body) ≡ true = (and_parts _ _ permitted).0 in
      let none = is_none_is (refusal_in c.rows (request_of v) (c.clock.rights v.source)) (and_parts _ _ permitted).1 in
      let fits : length (octets_of v.body) ≤ 130 = open_fits (relayed c.rows (request_of v)) (request_of v) (c.clock.rights v.source) change none in
      let spelled = message_of-spells v datagram read in
      let size = field_size v.body (message_octets datagram) spelled.at_least spelled.body (change_request (action_of v.body) change) in
      let whole = message_alone v datagram read in
      and_from _ _ (ap is_change_in whole.0 ∙ change)
      (and_from _ _ (eq-eqb _ _ (ap length whole.1)) (le-leb _ _ (omega (arith, size, fits))))
    where
      is_none_is : (o : Option ErrorId) → is_none o ≡ true → o ≡ None
      is_none_is None is = refl
      is_none_is (Some e) is = absurd (false≢true is)

  pub asked_may_be : is_some (asked c.rows c.clock s datagram) ≡ true → may_be_under_way (message_octets datagram) ≡ true
  unfolding asked
  asked_may_be is = let found = asked_read (message_of datagram) is refl in may_be found.0 found.1 found.2

-- as many octets as the message has
pub message_front : (d : List ℕ) (n : ℕ) → IsWellFormed d → n ≡ length (message_octets d) → take n d ≡ message_octets d
message_front d n well size =
    let bounds = message_size d well in
    ap (λ k. take k d) (omega (arith, size, bounds.1, length-take (message_length d) d))

pub may_be_small : (m : List ℕ) → may_be_under_way m ≡ true → length m ≤ 184
unfolding may_be_under_way
may_be_small m may = leb-true _ _ (and_parts _ _ (and_parts _ _ may).1).1
