-- No datagram has a clock send more messages than its ports allow, or one of its kept replies.
use Rattle.std.proofs.Common.{arith, ◌≡◌, ◌≤◌, ◌+◌, ◌-◌, ◌*◌, ℕ, ◌<◌, true, false, List, [], ◌∷◌, ◌++◌, Option, Some, None, Ok, ap, get_or, length, max, refl, slice_get, take, subst, sym, ◌∙◌, if◌then◌else◌}
use Rattle.std.proofs.lemmas.List.{nil_from_length, take_more}
use Rattle.std.proofs.lemmas.Option.{slice_get-get_or, slice_get_within}
use Rattle.std.proofs.lemmas.List.Recursion.{max_bounds, max_least, max_push}
use Rattle.std.specs.FinMap.{empty, entries, len-empty, len-entries}
use Rattle.ptpm_codec.specs.declared.identity.PortIdentity.{PortIdentity}
use Rattle.ptpm_codec.specs.declared.message.Message.{Message}
use Rattle.ptpm_codec.specs.Identity.{identity_cmp}
use Rattle.ptpm_codec.specs.Reading.{message_of, reading}
use Rattle.ptpm_data.specs.Members.{HasPort}
use Rattle.ptpm_data.specs.Replies.{reply_of}
use Rattle.ptpm_data.specs.Reply.{ReplyValue}
use Rattle.ptpm_data.specs.Request.{RequestValue}
use Rattle.ptpm_data.specs.RequestLaws.{IsSized}
use Rattle.ptpm_data.proofs.Answering.{reply_few}
use Rattle.ptpm_table.specs.Entries.{Entry, HaveAnswers}
use Rattle.ptpm_table.specs.Rendering.{rendered}
use Rattle.ptpm_agent.specs.declared.verdict.Verdict.{Verdict}
use Rattle.ptpm_agent.specs.declared.verdict.Verdict.TheVariants as verdicts
use Rattle.ptpm_agent.specs.Addressing.{heard_of, request_of}
use Rattle.ptpm_agent.specs.Turn.{Clock, State, judged, outbox_of, turn}
use Rattle.ptpm_agent.proofs.MostSent.{both_few, rendered_count, replies_few, turn_few}
use Rattle.ptpm_agent.proofs.Turns.{reading-message_of}
use Rattle.ptpm_device.specs.Asking.{is_lacked, is_permitted}
use Rattle.ptpm_device.specs.declared.relayed.RelayedId.{RelayedId}
use Rattle.ptpm_device.specs.Relayed.{relayed, relayed_refusal}
use Rattle.ptpm_device.specs.Saying as says
use Rattle.ptpm_device.specs.Saying.{Say, new_said, reply_at, reply_given, reply_own, reply_relayed, reply_said, reply_told, said_at, said_by, turn_said, unnumbered_said}
use Rattle.ptpm_host.specs.Answers.{most_replied}
use Rattle.ptpm_host.specs.Changing.{owner_clock}
use Rattle.ptpm_host.specs.MostSent.{SendsNoMore, SendsNoMoreAlone, SendsNoMoreHere, most_answers, most_sent}
use Rattle.ptpm_host.proofs.ComingLaws.{owner_turn-each}
use Rattle.ptpm_host.specs.Clock.{DeviceClock}

-- ---- the most answers of kept replies

answers_in : PortIdentity × Entry → ℕ
answers_in e = length e.1.reply.answers

pub most_kept : (es : List (PortIdentity × Entry)) (most : ℕ) → most_answers es ≤ most → HaveAnswers most es
unfolding answers_in
most_kept es most room = λ k e inside. omega (arith, room, max_bounds most_answers answers_in refl (λ x xs. refl) es k e inside)

pub kept_most : (es : List (PortIdentity × Entry)) (most : ℕ) → HaveAnswers most es → most_answers es ≤ most
unfolding answers_in
kept_most [] most all = omega arith
kept_most (e ∷ es) most all = max_least most_answers answers_in refl (λ x xs. refl) (e ∷ es) e most (λ k inside. all k e inside)

-- those of one entry more
pub most_more : (es : List (PortIdentity × Entry)) (e : PortIdentity × Entry)
    → most_answers (es ++ e ∷ []) ≡ max (most_answers es) (length e.1.reply.answers)
unfolding answers_in
most_more es e = max_push most_answers answers_in refl (λ x xs. refl) es e

-- those of the entries up to this place
pub most_at : (es : List (PortIdentity × Entry)) (place : ℕ) (e : PortIdentity × Entry)
    → slice_get es place ≡ Some e
    → most_answers (take (place + 1) es) ≡ max (most_answers (take place es)) (length e.1.reply.answers)
most_at es place e is =
    let inside : place < length es = slice_get_within es place e is in
    let got = slice_get-get_or es place e inside in
    let here : get_or es place e ≡ e = cc in
    ap most_answers (take_more es place e inside ∙ ap (λ (x : PortIdentity × Entry). take place es ++ x ∷ []) here) ∙ most_more (take place es) e

-- a clock none of whose kept replies has more answers than this
pub most_few : (s : State) (kept : ℕ) → HaveAnswers kept (entries s.entries) → most_sent s ≤ max (2 * length s.sets.ports - 1) kept
most_few s kept few = omega (arith, kept_most (entries s.entries) kept few)

pub replied_few : (s : State) (kept : ℕ) → HaveAnswers kept (entries s.entries) → most_replied s ≤ max (length s.sets.ports) kept
replied_few s kept few = omega (arith, kept_most (entries s.entries) kept few)

module _ (c : DeviceClock) (s : State) (ingress : ℕ) (datagram : List ℕ) (most : ℕ) (sized : IsSized s.sets) (port : HasPort ingress s.sets) (ports : 2 * length s.sets.ports - 1 ≤ most) (kept : HaveAnswers most (entries s.entries)) where
  turn_here : length (outbox_of (turn c.clock s ingress datagram)) ≤ most
  turn_here = turn_few c.clock s ingress datagram most sized port ports kept

  alone_few : (v : Message) (r : ReplyValue)
      → length r.answers ≤ length s.sets.ports
      → length (rendered c.clock.identity (heard_of v) r ingress) ≤ most
  alone_few v r few = omega (arith, few, sized.some_port, ports, rendered_count c.clock.identity (heard_of v) r ingress)

  given_few : (n : ℕ) (q : RequestValue) (octets : List ℕ) (r : ReplyValue)
      → (if is_lacked q then Some (reply_given n q octets) else None) ≡ Some r
      → length r.answers ≤ length s.sets.ports
  given_few n q octets r is =
      elim (is_lacked q) as (λ b. (if b then Some (reply_given n q octets) else None) ≡ Some r → length r.answers ≤ length s.sets.ports) [
        | true ↦ λ same. let e : reply_given n q octets ≡ r = cc in
            subst (λ (x : ReplyValue). length x.answers ≤ length s.sets.ports) e sized.some_port
        | false ↦ λ none. absurd (cc)
      ] is

  own_few : (who : PortIdentity) (q : RequestValue) (say : Say) (r : ReplyValue)
      → reply_own c.clock s.sets who q say ≡ Some r
      → length r.answers ≤ length s.sets.ports
  own_few who q says.Agrees r is = absurd (cc)
  own_few who q (says.Objects error) r is =
      elim (is_permitted c.clock who q) as (λ b. (if b then Some (reply_of q (Some error) s.sets) else None) ≡ Some r → length r.answers ≤ length s.sets.ports) [
        | true ↦ λ same. let e : reply_of q (Some error) s.sets ≡ r = cc in
            subst (λ (x : ReplyValue). length x.answers ≤ length s.sets.ports) e (reply_few q (Some error) s.sets sized)
        | false ↦ λ none. absurd (cc)
      ] is
  own_few who q (says.Gives octets) r is = given_few 130 q octets r is

  at_few : (o : Option RelayedId) (who : PortIdentity) (q : RequestValue) (say : Say) (r : ReplyValue)
      → reply_at o c.clock s.sets who q say ≡ Some r
      → length r.answers ≤ length s.sets.ports
  at_few None who q say r is = own_few who q say r is
  at_few (Some row) who q say r is =
      let e : reply_relayed (relayed_refusal row q (c.clock.rights who)) q say ≡ r = cc in
      subst (λ (x : ReplyValue). length x.answers ≤ length s.sets.ports) e sized.some_port

  said_few : (who : PortIdentity) (q : RequestValue) (say : Say) (r : ReplyValue)
      → reply_said c.rows c.clock s.sets who q say ≡ Some r
      → length r.answers ≤ length s.sets.ports
  said_few who q say r is = at_few (relayed c.rows q) who q say r is

  told_few : (q : RequestValue) (say : Say) (r : ReplyValue)
      → reply_told q say ≡ Some r
      → length r.answers ≤ length s.sets.ports
  told_few q says.Agrees r is = absurd (cc)
  told_few q (says.Objects error) r is = absurd (cc)
  told_few q (says.Gives octets) r is = given_few 1418 q octets r is

  new_said_few : (v : Message) (o : Option ReplyValue)
      → ((r : ReplyValue) → o ≡ Some r → length r.answers ≤ length s.sets.ports)
      → length (outbox_of (new_said c.clock s ingress datagram v o)) ≤ most
  new_said_few v None few = turn_here
  new_said_few v (Some r) few = alone_few v r (few r refl)

  unnumbered_said_few : (v : Message) (o : Option ReplyValue)
      → reading datagram ≡ Ok v
      → ((r : ReplyValue) → o ≡ Some r → length r.answers ≤ length s.sets.ports)
      → length (outbox_of (unnumbered_said c.clock s ingress datagram v o)) ≤ most
  unnumbered_said_few v None read few = turn_here
  unnumbered_said_few v (Some r) read few = both_few c.clock s ingress datagram most sized port ports v r read (few r refl)

  said_at_few : (v : Message) (w : Verdict) (say : Say)
      → reading datagram ≡ Ok v
      → length (outbox_of (said_at w c.rows c.clock s ingress datagram v say)) ≤ most
  said_at_few v verdicts.AnsweredNew say read =
      new_said_few v (reply_said c.rows c.clock s.sets v.source (request_of v) say) (said_few v.source (request_of v) say)
  said_at_few v verdicts.AnsweredUnnumbered say read =
      unnumbered_said_few v (reply_told (request_of v) say) read (told_few (request_of v) say)
  said_at_few v _ say read = turn_here

  said_by_few : (o : Option Message) (say : Say)
      → message_of datagram ≡ o
      → length (outbox_of (said_by c.rows c.clock s ingress datagram o say)) ≤ most
  said_by_few None say read = turn_here
  said_by_few (Some v) say read = said_at_few v (judged c.clock s v) say (reading-message_of datagram v read)

  turn_said_few : (say : Say) → length (outbox_of (turn_said c.rows c.clock s say ingress datagram)) ≤ most
  unfolding turn_said
  turn_said_few say = said_by_few (message_of datagram) say refl

-- ---- the laws

pub sends_no_more : SendsNoMore
sends_no_more c s say ingress datagram sized port =
    turn_said_few c s ingress datagram (most_sent s) sized port (omega arith) (most_kept (entries s.entries) (most_sent s) (omega arith)) say

pub sends_no_more_alone : SendsNoMoreAlone
sends_no_more_alone c s ingress datagram sized port =
    turn_few c s ingress datagram (most_sent s) sized port (omega arith) (most_kept (entries s.entries) (most_sent s) (omega arith))

nothing_kept : entries {X = Entry} {R = identity_cmp} empty ≡ []
nothing_kept = nil_from_length _ (sym (len-entries (empty {X = Entry} {R = identity_cmp})) ∙ len-empty identity_cmp Entry)

pub sends_no_more_owned : (k : Clock) (s : State) (port : ℕ) (datagram : List ℕ)
    → IsSized s.sets
    → HasPort port s.sets
    → length (outbox_of (turn k (record { sets = s.sets; entries = empty }) port datagram)) ≤ most_sent s
sends_no_more_owned k s port datagram sized has =
    omega (
      arith,
      sends_no_more_alone k (record { sets = s.sets; entries = empty }) port datagram sized has,
      ap most_answers nothing_kept,
    )

pub sends_no_more_here : SendsNoMoreHere
sends_no_more_here c s port datagram sized has =
    owner_turn-each (λ t. length (outbox_of t) ≤ most_sent s) c s port datagram (sends_no_more_alone c s port datagram sized has)
    (λ v read. sends_no_more_owned (owner_clock c.identity v.source) s port datagram sized has)

-- the replies alone
pub replies_no_more : (c : Clock) (s : State) (port : ℕ) (datagram : List ℕ)
    → IsSized s.sets
    → length (turn c s port datagram).replies ≤ most_replied s
replies_no_more c s port datagram sized =
    replies_few c s port datagram (most_replied s) sized (omega arith) (most_kept (entries s.entries) (most_replied s) (omega arith))
