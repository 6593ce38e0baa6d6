-- The messages that were sent, as they are kept.
use Rattle.std.proofs.Common.{All, Bool, true, false, ◌≡◌, ◌<◌, ◌≤◌, ℕ, zero, suc, ◌+◌, ◌-◌, ◌*◌, ◌++◌, ◌∷◌, [], List, ap, append-nil, append_assoc, arith, drop, get_or, length, map, refl, subst, sym, take, ◌∙◌}
use Rattle.std.proofs.Math.Seq.{take-suc}
use Rattle.std.proofs.lemmas.List.{drop-append-le, drop_all, length-append, map-append, take-append-drop, take-append-le, take_all}
use Rattle.ptpm_codec.specs.declared.message.Action.{Action}
use Rattle.ptpm_codec.specs.Canonical.{canonical}
use Rattle.ptpm_codec.specs.Message.{Fits, IsReplyAction, IsRequestAction, IsValid, IsValidBody, is_reply, reply_action}
use Rattle.ptpm_codec.proofs.MessageLaws.{reply_action-is_reply}
use Rattle.ptpm_data.specs.declared.ports.TheConstants.{INLINE_PORTS}
use Rattle.ptpm_data.specs.Reply as reply
use Rattle.ptpm_data.specs.Reply.{Answer, Outcome, ReplyValue}
use Rattle.ptpm_table.specs.declared.heard.Heard.{Heard}
use Rattle.ptpm_table.specs.declared.kept_messages.Exchange.{Exchange}
use Rattle.ptpm_table.specs.declared.kept_octets.TheConstants.{PORT_MESSAGE_OCTETS}
use Rattle.ptpm_table.specs.Entries.{FitsAnswer, FitsCount, FitsOutcome}
use Rattle.ptpm_table.specs.KeptMessages.{AreSizes, EachKept, Envelope, IsCopyOf, IsKeptReply, answer_in, envelope_of, pieces, sent_message}
use Rattle.ptpm_table.specs.Rendering.{answer_body, rendered, reply_message}
use Rattle.ptpm_table.specs.Sending.{AreSmall, IsSentReply, all_octets, messages_of}
use Rattle.ptpm_table.proofs.KeptMessageLaws.{IsEncoded, encoded, most_octets, most_of_all}

-- ---- one after the other

pub messages_of-append : (xs ys : List (ℕ × List ℕ)) → messages_of (xs ++ ys) ≡ messages_of xs ++ messages_of ys
messages_of-append [] ys = refl
messages_of-append (x ∷ xs) ys = ap (λ ms. x.1 ∷ ms) (messages_of-append xs ys)

pub all_octets-append : (xs ys : List (List ℕ)) → all_octets (xs ++ ys) ≡ all_octets xs ++ all_octets ys
all_octets-append [] ys = refl
all_octets-append (x ∷ xs) ys = ap (λ o. x ++ o) (all_octets-append xs ys) ∙ sym (append_assoc x (all_octets xs) (all_octets ys))

-- the messages up to a place, and the one there
pub one_more : (xs : List (ℕ × List ℕ)) (place : ℕ)
    → place < length xs
    → messages_of (take (place + 1) xs) ≡ messages_of (take place xs) ++ (get_or xs place (0, [])).1 ∷ []
one_more xs place inside =
    let next : place + 1 ≡ suc place = omega arith in
    ap (λ n. messages_of (take n xs)) next ∙ ap messages_of (take-suc xs place (0, []) inside) ∙ messages_of-append (take place xs) (get_or xs place (0, []) ∷ [])

pub octets_more : (xs : List (ℕ × List ℕ)) (place : ℕ)
    → place < length xs
    → all_octets (messages_of (take (place + 1) xs)) ≡ all_octets (messages_of (take place xs)) ++ (get_or xs place (0, [])).1
octets_more xs place inside = grind (arith, one_more, all_octets-append, get_or, append-nil)

pub sizes_more : (xs : List (ℕ × List ℕ)) (place : ℕ)
    → place < length xs
    → map length (messages_of (take (place + 1) xs)) ≡ map length (messages_of (take place xs)) ++ length (get_or xs place (0, [])).1 ∷ []
sizes_more xs place inside = grind (arith, one_more, map-append, get_or)

pub small_at : (xs : List (ℕ × List ℕ)) (place : ℕ)
    → place < length xs
    → AreSmall (messages_of xs)
    → length (get_or xs place (0, [])).1 ≤ 184
small_at [] place inside small = absurd (omega (arith, inside))
small_at (x ∷ xs) zero inside small = small.0
small_at (x ∷ xs) (suc place) inside small = small_at xs place (omega (arith, inside)) small.1

-- what the messages up to a place have together is no more than what all have
pub octets_within : (xs : List (ℕ × List ℕ)) (place : ℕ)
    → length (all_octets (messages_of (take place xs))) ≤ length (all_octets (messages_of xs))
octets_within xs place =
    let both = ap (λ ys. length (all_octets (messages_of ys))) (sym (take-append-drop place xs)) in
    let cut = ap (λ ms. length (all_octets ms)) (messages_of-append (take place xs) (drop place xs)) in
    let parts = ap length (all_octets-append (messages_of (take place xs)) (messages_of (drop place xs))) in
    omega (arith, both, cut, parts, length-append (all_octets (messages_of (take place xs))) (all_octets (messages_of (drop place xs))))

-- ---- messages that spell answers

body_valid : (request action : Action) (id most : ℕ) (o : Outcome)
    → IsReplyAction action
    → most ≤ 1418
    → FitsOutcome request most o
    → IsValidBody (answer_body action id o)
body_valid request action id most (reply.Value octets) answers least fits = (answers, record { even = fits.1; small = omega (arith, fits.2, least) })
body_valid request action id most reply.Done answers least fits = (answers, record { even = refl; small = omega arith })
body_valid request action id most (reply.Refused error) answers least fits = (answers, omega arith)

sent_valid : (of_port : Bool) (e : Envelope) (first : Heard) (at : ℕ) (request : Action) (a : Answer)
    → IsReplyAction e.action
    → FitsAnswer of_port request a
    → IsValid (sent_message e first at a)
sent_valid false e first at request a answers suits = grind (arith, body_valid)
sent_valid true e first at request a answers suits = grind (arith, body_valid)

abbrev pub message_at : Envelope → Heard → ℕ → Answer → List ℕ
message_at e first at a = canonical (sent_message e first at a)

abbrev pub EachEncoded : Bool → Envelope → Heard → ℕ → List Answer → Type 0
EachEncoded of_port e first at [] = Unit {0}
EachEncoded of_port e first at (a ∷ xs) =
    IsEncoded of_port e a (sent_message e first at a) × EachEncoded of_port e first at xs

each_encoded : (of_port : Bool) (e : Envelope) (first : Heard) (at : ℕ) (request : Action)
    (xs : List Answer)
    → e.action ≡ reply_action request
    → IsRequestAction request
    → IsCopyOf e first
    → All (FitsAnswer of_port request) xs
    → All (λ a. Fits (sent_message e first at a)) xs
    → EachEncoded of_port e first at xs
each_encoded of_port e first at request [] action asks copy suits fits = tt
each_encoded of_port e first at request (a ∷ xs) action asks copy suits fits =
    let answers : IsReplyAction e.action = ap is_reply action ∙ reply_action-is_reply request in (
      encoded of_port e first at request a (sent_message e first at a) copy refl action asks (suits 0 a (omega arith))
          (sent_valid of_port e first at request a answers (suits 0 a (omega arith))) (fits 0 a (omega arith)),
      each_encoded of_port e first at request xs action asks copy (λ k d below. suits (suc k) d (omega (arith, below)))
          (λ k d below. fits (suc k) d (omega (arith, below))),
    )

-- ---- as they are cut

pub pieces_back : (ms : List (List ℕ)) → pieces (map length ms) (all_octets ms) ≡ ms
pieces_back [] = refl
pieces_back (m ∷ ms) =
    let rest = all_octets ms in
    let first = take-append-le (length m) m rest (omega arith) ∙ take_all (length m) m (omega arith) in
    let behind = drop-append-le (length m) m rest (omega arith) ∙ ap (λ x. x ++ rest) (drop_all (length m) m (omega arith)) in
    (λ i. first i ∷ pieces (map length ms) (behind i)) ∙ ap (λ x. m ∷ x) (pieces_back ms)

pub each_cut : (of_port : Bool) (e : Envelope) (first : Heard) (at : ℕ) (xs : List Answer)
    → EachEncoded of_port e first at xs
    → AreSizes (map length (map (message_at e first at) xs)) (length (all_octets (map (message_at e first at) xs)))
each_cut of_port e first at [] each = refl
each_cut of_port e first at (a ∷ xs) each =
    let m = message_at e first at a in
    let rest = all_octets (map (message_at e first at) xs) in
    let both = length-append m rest in
    let left : length rest ≡ length (m ++ rest) - length m = omega (arith, both) in (
      (each.0.least, omega (arith, each.0.small, most_of_all of_port)),
      omega (arith, both),
      subst (λ n. AreSizes (map length (map (message_at e first at) xs)) n) left (each_cut of_port e first at xs each.1),
    )

pub each_kept : (of_port : Bool) (e : Envelope) (first : Heard) (at : ℕ) (xs : List Answer)
    → EachEncoded of_port e first at xs
    → EachKept e of_port (map (message_at e first at) xs)
each_kept of_port e first at [] each = tt
each_kept of_port e first at (a ∷ xs) each = (each.0.kept, each_kept of_port e first at xs each.1)

pub each_back : (of_port : Bool) (e : Envelope) (first : Heard) (at : ℕ) (xs : List Answer)
    → EachEncoded of_port e first at xs
    → map (answer_in of_port) (map (message_at e first at) xs) ≡ xs
each_back of_port e first at [] each = refl
each_back of_port e first at (a ∷ xs) each = (λ i. each.0.back i ∷ each_back of_port e first at xs each.1 i)

pub each_small : (of_port : Bool) (e : Envelope) (first : Heard) (at : ℕ) (xs : List Answer)
    → EachEncoded of_port e first at xs
    → AreSmall (map (message_at e first at) xs)
each_small of_port e first at [] each = tt
each_small of_port e first at (a ∷ xs) each = (omega (arith, each.0.small, most_of_all of_port), each_small of_port e first at xs each.1)

pub each_room : (of_port : Bool) (e : Envelope) (first : Heard) (at : ℕ) (xs : List Answer)
    → EachEncoded of_port e first at xs
    → length (all_octets (map (message_at e first at) xs)) ≤ length xs * most_octets of_port
each_room of_port e first at [] each = omega arith
each_room false e first at (a ∷ xs) each =
    omega (arith, each.0.small, each_room false e first at xs each.1, length-append (message_at e first at a) (all_octets (map (message_at e first at) xs)))
each_room true e first at (a ∷ xs) each =
    omega (arith, each.0.small, each_room true e first at xs each.1, length-append (message_at e first at a) (all_octets (map (message_at e first at) xs)))

pub all_room : (of_port : Bool) (most count size : ℕ)
    → FitsCount of_port count
    → INLINE_PORTS ≤ most
    → count ≤ most
    → size ≤ count * most_octets of_port
    → size ≤ PORT_MESSAGE_OCTETS * most
all_room false most count size fits least few full = omega (arith, fits, least)
all_room true most count size fits least few full = omega (arith, few)

-- ---- as they were sent

without_port : (port : ℕ) (f : Answer → List ℕ) (xs : List Answer) → messages_of (map (λ a. (port, f a)) xs) ≡ map f xs
without_port port f [] = refl
without_port port f (a ∷ xs) = ap (λ x. f a ∷ x) (without_port port f xs)

pub count_of : (ms : List (ℕ × List ℕ)) → length (messages_of ms) ≡ length ms
count_of [] = refl
count_of (m ∷ ms) = omega (arith, count_of ms)

pub sent_messages : (x : Exchange) (heard : Heard) (of_port : Bool) (messages : List (ℕ × List ℕ))
    (r : ReplyValue) (s : IsSentReply x.clock heard x.action x.id of_port messages r)
    → messages_of messages ≡ map (message_at (envelope_of x) heard s.ingress) r.answers
unfolding rendered
sent_messages x heard of_port messages r s =
    ap messages_of s.messages_are
    ∙ without_port s.ingress (λ a. canonical (reply_message x.clock heard r.action r.id s.ingress a)) r.answers
    ∙ (λ i. map (λ a. canonical (reply_message x.clock heard (s.action_is i) (s.id_is i) s.ingress a)) r.answers)

pub sent_encoded : (x : Exchange) (heard : Heard) (of_port : Bool) (messages : List (ℕ × List ℕ))
    (r : ReplyValue)
    → IsRequestAction x.action
    → IsCopyOf (envelope_of x) heard
    → (s : IsSentReply x.clock heard x.action x.id of_port messages r)
    → EachEncoded of_port (envelope_of x) heard s.ingress r.answers
sent_encoded x heard of_port messages r asks copy s =
    each_encoded of_port (envelope_of x) heard s.ingress x.action r.answers refl asks copy s.answers
    (subst (λ (p : Action × ℕ). All (λ a. Fits (reply_message x.clock heard p.0 p.1 s.ingress a)) r.answers) (λ i. (s.action_is i, s.id_is i)) s.fits)

pub sent_kept : (of_port : Bool) (e : Envelope) (first : Heard) (at : ℕ) (xs : List Answer)
    (sizes octets : List ℕ)
    → EachEncoded of_port e first at xs
    → sizes ≡ map length (map (message_at e first at) xs)
    → octets ≡ all_octets (map (message_at e first at) xs)
    → IsKeptReply e of_port sizes octets
sent_kept of_port e first at xs sizes octets each s o = grind (arith, each_cut, pieces_back, each_kept)

pub sent_back : (of_port : Bool) (e : Envelope) (first : Heard) (at : ℕ) (xs : List Answer)
    (sizes octets : List ℕ)
    → EachEncoded of_port e first at xs
    → sizes ≡ map length (map (message_at e first at) xs)
    → octets ≡ all_octets (map (message_at e first at) xs)
    → map (answer_in of_port) (pieces sizes octets) ≡ xs
sent_back of_port e first at xs sizes octets each s o = grind (arith, pieces_back, each_back)
