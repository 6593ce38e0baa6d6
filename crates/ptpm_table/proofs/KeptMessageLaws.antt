-- Kept messages: written over for another copy, and read back.
use Rattle.std.proofs.Common.{arith, List, map, subst, All, suc, ◌≡◌, ◌<◌, ◌≤◌, ◌^◌, ℕ, ◌+◌, ◌-◌, ◌*◌, Bool, true, false, refl, sym, ◌∙◌, ap, [], ◌∷◌, ◌++◌, length, get_or, take, drop, Option, Some, None, unwrap_or, slice_set}
use Rattle.std.proofs.Math.ListN.{get_or-map}
use Rattle.std.proofs.lemmas.List.{length-map, append-nil, drop-append-le, length-append, map-append, take_more, length-drop, take-append-le, take_all}
use Rattle.ptpm_codec.specs.declared.message.Action.{Action}
use Rattle.ptpm_codec.specs.declared.message.Message.{Message}
use Rattle.ptpm_codec.specs.Canonical.{canonical, port_identity_octets, text_octets, tlv_octets}
use Rattle.ptpm_codec.specs.Layout.{message_octets, number_at, port_identity_at}
use Rattle.ptpm_codec.specs.Message.{Fits, IsValid, IsRequestAction, reply_action}
use Rattle.ptpm_codec.specs.Reading.{body_at, message_at, message_of, some_unless}
use Rattle.ptpm_codec.specs.Refusal.{refusal}
use Rattle.ptpm_codec.specs.declared.error.DecodeError.{DecodeError}
use Rattle.ptpm_codec.specs.Spelling.{Spells}
use Rattle.ptpm_codec.proofs.CanonicalLaws.{by_clocks, canonical_octets, canonical_size, canonical_spells}
use Rattle.ptpm_codec.proofs.ReadingLaws.{spells-message_of}
use Rattle.ptpm_codec.proofs.RewritingLaws.{set_all, set_domain, set_hops, set_starting_hops}
use Rattle.ptpm_data.specs.Reply.{Answer, Outcome, ReplyValue, answer_of}
use Rattle.ptpm_data.specs.declared.ports.TheConstants.{INLINE_PORTS}
use Rattle.ptpm_data.specs.declared.reply.PortAnswer.{PortAnswer}
use Rattle.ptpm_table.specs.declared.heard.Heard.{Heard}
use Rattle.ptpm_table.specs.declared.kept_octets.TheConstants.{MESSAGE_OCTETS, PORT_MESSAGE_OCTETS}
use Rattle.ptpm_data.specs.ManagementId.{is_of_port}
use Rattle.ptpm_data.specs.Request.{RequestValue}
use Rattle.std.specs.Prelude.{is_some}
use Rattle.ptpm_table.specs.Entries.{FitsAnswer, FitsCount, FitsOutcome, FitsRequest}
use Rattle.ptpm_table.specs.KeptMessages.{AreSizes, EachKept, Envelope, IsCopyOf, IsKeptMessage, IsKeptReply, answer_in, first_copy, has_port, kept_message, outcome_in, outcome_of_body, pieces, port_for, port_in, renewed, sent_message, source_port}
use Rattle.ptpm_table.specs.Rendering.{answer_body, hops_passed, rendered, reply_message}
use Rattle.ptpm_codec.specs.declared.message.Action.TheVariants as actions
use Rattle.ptpm_data.specs.Reply as reply

-- ---- lists of parts

-- what holds of each part
pub All-unmap : {X Y : Type 0} (P : Y → Type 0) (f : X → Y) (xs : List X)
    → All P (map f xs)
    → All (λ x. P (f x)) xs
All-unmap {X} {Y} P f xs h = λ k d inside.
    subst P (get_or-map f xs k d) (h k (f d) (omega (arith, length-map xs f)))

-- ---- written over

renewed_of_clock : (e : Envelope) (first : Heard) (at : ℕ) (heard : Heard) (ingress : ℕ) (o : Outcome)
    → IsCopyOf e first
    → IsCopyOf e heard
    → ingress < 2 ^ 16
    → Fits (sent_message e first at (record { port = None; outcome = o }))
    → renewed heard.domain (Some ingress) (hops_passed heard)
    (canonical (sent_message e first at (record { port = None; outcome = o })))
    ≡ canonical (reply_message e.clock heard e.action e.id ingress (record { port = None; outcome = o }))
renewed_of_clock e first at heard ingress o own copy low fits =
    set_all (sent_message e first at (record { port = None; outcome = o })) heard.domain ingress (hops_passed heard) (hops_passed heard) fits low
    ∙ (λ i. canonical (record {
      sdo = 0;
      domain = heard.domain;
      source = record { clock = e.clock; port = ingress };
      number = (own.number_is ∙ sym copy.number_is) i;
      target = (own.source_is ∙ sym copy.source_is) i;
      starting_hops = hops_passed heard;
      hops = hops_passed heard;
      body = answer_body e.action e.id o;
    }))

renewed_of_port : (e : Envelope) (first : Heard) (at : ℕ) (heard : Heard) (ingress port : ℕ) (o : Outcome)
    → IsCopyOf e first
    → IsCopyOf e heard
    → Fits (sent_message e first at (record { port = Some port; outcome = o }))
    → renewed heard.domain None (hops_passed heard)
    (canonical (sent_message e first at (record { port = Some port; outcome = o })))
    ≡ canonical (reply_message e.clock heard e.action e.id ingress (record { port = Some port; outcome = o }))
renewed_of_port e first at heard ingress port o own copy fits =
    let h : ℕ = hops_passed heard in
    let v : Message = sent_message e first at (record { port = Some port; outcome = o }) in
    let v1 : Message = record v { domain = heard.domain } in
    let v2 : Message = record v1 { starting_hops = h } in
    let fits1 : Fits v1 = grind arith in
    let fits2 : Fits v2 = grind arith in
    ap (λ (m : List ℕ). slice_set (slice_set m 44 h) 45 h) (set_domain v heard.domain)
    ∙ ap (λ (m : List ℕ). slice_set m 45 h) (set_starting_hops v1 h fits1)
    ∙ set_hops v2 h fits2
    ∙ (λ i. canonical (record {
      sdo = 0;
      domain = heard.domain;
      source = record { clock = e.clock; port = port };
      number = (own.number_is ∙ sym copy.number_is) i;
      target = (own.source_is ∙ sym copy.source_is) i;
      starting_hops = h;
      hops = h;
      body = answer_body e.action e.id o;
    }))

renewed_one : (of_port : Bool) (e : Envelope) (heard : Heard) (ingress : ℕ) (m : List ℕ)
    → IsCopyOf e heard
    → ingress < 2 ^ 16
    → IsKeptMessage e of_port m
    → renewed heard.domain (port_for of_port ingress) (hops_passed heard) m
    ≡ canonical (reply_message e.clock heard e.action e.id ingress (answer_in of_port m))
renewed_one false e heard ingress m copy low kept =
    ap (renewed heard.domain (Some ingress) (hops_passed heard)) kept.spelled
    ∙ renewed_of_clock e kept.first kept.at heard ingress (outcome_in (message_of m)) kept.copy copy low kept.fits
renewed_one true e heard ingress m copy low kept =
    ap (renewed heard.domain None (hops_passed heard)) kept.spelled
    ∙ renewed_of_port e kept.first kept.at heard ingress (source_port (message_of m)) (outcome_in (message_of m)) kept.copy copy kept.fits

-- the kept messages written over are the reply, rendered for the copy
pub renewed_reply : (of_port : Bool) (e : Envelope) (heard : Heard) (ingress : ℕ)
    (ms : List (List ℕ))
    → IsCopyOf e heard
    → ingress < 2 ^ 16
    → EachKept e of_port ms
    → map (λ m. (ingress, renewed heard.domain (port_for of_port ingress) (hops_passed heard) m)) ms
    ≡ rendered e.clock heard (record { action = e.action; id = e.id; answers = map (answer_in of_port) ms }) ingress
unfolding rendered
renewed_reply of_port e heard ingress [] copy low kept = refl
renewed_reply of_port e heard ingress (m ∷ ms) copy low kept =
    (λ i. (ingress, renewed_one of_port e heard ingress m copy low kept.0 i) ∷ renewed_reply of_port e heard ingress ms copy low kept.1 i)

-- ---- read back

outcome_back : (request : Action) (id most : ℕ) (o : Outcome)
    → IsRequestAction request
    → FitsOutcome request most o
    → outcome_of_body (answer_body (reply_action request) id o) ≡ o
outcome_back actions.Get id most (reply.Value octets) asks fits = refl
outcome_back actions.Set id most (reply.Value octets) asks fits = refl
outcome_back actions.Command id most (reply.Value octets) asks fits = absurd (fits.0 refl)
outcome_back actions.Response id most (reply.Value octets) asks fits = absurd (cc)
outcome_back actions.Acknowledge id most (reply.Value octets) asks fits = absurd (cc)
outcome_back actions.Get id most reply.Done asks fits = absurd (cc)
outcome_back actions.Set id most reply.Done asks fits = absurd (cc)
outcome_back actions.Command id most reply.Done asks fits = refl
outcome_back actions.Response id most reply.Done asks fits = absurd (cc)
outcome_back actions.Acknowledge id most reply.Done asks fits = absurd (cc)
outcome_back request id most (reply.Refused error) asks fits = grind arith

message_back : (v : Message) → IsValid v → Fits v → message_of (canonical v) ≡ Some v
message_back v valid fits =
    let alone : message_octets (canonical v) ≡ canonical v =
    subst (λ (m : List ℕ). message_octets m ≡ canonical v) (append-nil (canonical v)) (canonical_octets v [] valid fits) in
    spells-message_of v (canonical v) (subst (λ (m : List ℕ). Spells v m) (sym alone) (canonical_spells v valid fits))

canonical_alone : (v : Message) → IsValid v → Fits v → message_octets (canonical v) ≡ canonical v
canonical_alone v valid fits =
    subst (λ (m : List ℕ). message_octets m ≡ canonical v) (append-nil (canonical v)) (canonical_octets v [] valid fits)

-- a kept message is read only from its places
pub kept_reads : (e : Envelope) (of_port : Bool) (m : List ℕ)
    → IsKeptMessage e of_port m
    → message_of m ≡ Some (message_at m)
unfolding message_of
kept_reads e of_port m kept =
    let v : Message = sent_message e kept.first kept.at (answer_in of_port m) in
    let alone : message_octets m ≡ m = ap message_octets kept.spelled ∙ (canonical_alone v kept.valid kept.fits ∙ sym kept.spelled) in
    read_some (refusal m) (message_at (message_octets m)) v (ap message_of kept.spelled ∙ message_back v kept.valid kept.fits)
    ∙ ap (λ (o : List ℕ). Some (message_at o)) alone
  where
    read_some : (r : Option DecodeError) (x v : Message) → some_unless r x ≡ Some v → some_unless r x ≡ Some x
    read_some None x v h = refl
    read_some (Some e) x v h = absurd (cc)

pub source_port_at : (m : List ℕ) → source_port (Some (message_at m)) ≡ number_at 28 m
unfolding port_identity_at
source_port_at m = refl

-- the answer that is read
pub answer_read : (of_port : Bool) (m : List ℕ) (port : Option ℕ) (o : Outcome)
    → message_of m ≡ Some (message_at m)
    → port ≡ port_in of_port (Some (message_at m))
    → o ≡ outcome_of_body (body_at m)
    → ◌≡◌ {A = Answer} (record { port = port; outcome = o }) (answer_in of_port m)
answer_read of_port m port o read p w =
    (λ i. record { port = p i; outcome = w i })
    ∙ sym (ap (λ (x : Option Message). record { port = port_in of_port x; outcome = outcome_in x }) read)

-- the answer of a kept message
pub answer_back : (of_port : Bool) (e : Envelope) (first : Heard) (at : ℕ) (request : Action) (a : Answer)
    → e.action ≡ reply_action request
    → IsRequestAction request
    → FitsAnswer of_port request a → IsValid (sent_message e first at a) → Fits (sent_message e first at a)
    → answer_in of_port (canonical (sent_message e first at a)) ≡ a
answer_back false e first at request a action asks suits valid fits =
    let read = message_back (sent_message e first at a) valid fits in
    let outcome : outcome_in (message_of (canonical (sent_message e first at a))) ≡ a.outcome = grind (arith, outcome_back) in
    (λ i. record { port = sym suits.0 i; outcome = outcome i })
answer_back true e first at request a action asks suits valid fits =
    let read = message_back (sent_message e first at a) valid fits in
    let outcome : outcome_in (message_of (canonical (sent_message e first at a))) ≡ a.outcome = grind (arith, outcome_back) in
    let port : port_in true (message_of (canonical (sent_message e first at a))) ≡ a.port = grind (arith, unwrap_or) in
    (λ i. record { port = port i; outcome = outcome i })

-- a message that was encoded is kept
pub kept_back : (of_port : Bool) (e : Envelope) (first : Heard) (at : ℕ) (request : Action) (a : Answer)
    → e.action ≡ reply_action request
    → IsRequestAction request
    → FitsAnswer of_port request a → IsValid (sent_message e first at a) → Fits (sent_message e first at a)
    → IsCopyOf e first
    → IsKeptMessage e of_port (canonical (sent_message e first at a))
kept_back of_port e first at request a action asks suits valid fits own =
    let back = answer_back of_port e first at request a action asks suits valid fits in grind arith

-- ---- cutting

-- one more message
pub sizes_more : (sizes : List ℕ) (n k : ℕ)
    → AreSizes sizes n
    → 54 ≤ k
    → k ≤ 184
    → AreSizes (sizes ++ k ∷ []) (n + k)
sizes_more [] n k cut least small = ((least, small), omega arith, omega (arith, cut))
sizes_more (s ∷ ss) n k cut least small =
    let room : s ≤ n = cut.1 in
    let rest : n - s + k ≡ n + k - s = omega arith in
    (cut.0, omega arith, subst (AreSizes (ss ++ k ∷ [])) rest (sizes_more ss (n - s) k cut.2 least small))

pub pieces_more : (sizes octets m : List ℕ) → AreSizes sizes (length octets)
    → pieces (sizes ++ length m ∷ []) (octets ++ m) ≡ pieces sizes octets ++ m ∷ []
pieces_more [] [] m cut = ap (λ x. x ∷ []) (take_all (length m) m (omega arith))
pieces_more [] (x ∷ octets) m cut = absurd (omega (arith, cut))
pieces_more (s ∷ ss) octets m cut =
    let room : s ≤ length octets = cut.1 in
    let rest : AreSizes ss (length (drop s octets)) = subst (AreSizes ss) (sym (length-drop s octets)) cut.2 in
    let first : take s (octets ++ m) ≡ take s octets = take-append-le s octets m room in
    let behind : drop s (octets ++ m) ≡ drop s octets ++ m = drop-append-le s octets m room in
    (λ i. first i ∷ (ap (pieces (ss ++ length m ∷ [])) behind ∙ pieces_more ss (drop s octets) m rest) i)

each_more : (e : Envelope) (of_port : Bool) (ms : List (List ℕ)) (m : List ℕ)
    → EachKept e of_port ms
    → IsKeptMessage e of_port m
    → EachKept e of_port (ms ++ m ∷ [])
each_more e of_port [] m each kept = (kept, tt)
each_more e of_port (x ∷ ms) m each kept = (each.0, each_more e of_port ms m each.1 kept)

-- ---- one after the other

-- the first message is kept
pub first_reads : (of_port : Bool) (sizes octets : List ℕ)
    → ((e : Envelope) × IsKeptReply e of_port sizes octets)
    → 1 ≤ length sizes
    → message_of (take (get_or sizes 0 0) octets) ≡ Some (message_at (take (get_or sizes 0 0) octets))
first_reads of_port [] octets kept some = absurd (omega (arith, some))
first_reads of_port (s ∷ ss) octets kept some = kept_reads kept.0 of_port (take s octets) kept.1.each.0

-- ---- sizes

pub canonical_length : (v : Message)
    → Fits v
    → length (canonical v) ≡ 48 + length (tlv_octets v.body)
unfolding port_identity_octets
canonical_length v fits =
    by_clocks (λ w. length (canonical w) ≡ 48 + length (tlv_octets w.body)) v fits
    (λ a b c d e f g h a' b' c' d' e' f' g' h'. omega arith)

body_length : (request action : Action) (id most : ℕ) (o : Outcome)
    → 6 ≤ most
    → FitsOutcome request most o
    → length (tlv_octets (answer_body action id o)) ≤ 6 + most
unfolding tlv_octets text_octets
body_length request action id most (reply.Value octets) least fits = let small : length octets ≤ most = fits.2 in omega arith
body_length request action id most reply.Done least fits = omega arith
body_length request action id most (reply.Refused error) least fits = omega arith

-- a message of an answer of the clock has at most 184 octets, one of a port at most 80
abbrev pub most_octets : Bool → ℕ
most_octets false = MESSAGE_OCTETS
most_octets true = PORT_MESSAGE_OCTETS

pub kept_length : (of_port : Bool) (e : Envelope) (first : Heard) (at : ℕ) (request : Action) (a : Answer)
    → FitsAnswer of_port request a
    → Fits (sent_message e first at a)
    → length (canonical (sent_message e first at a)) ≤ most_octets of_port
kept_length false e first at request a suits fits =
    omega (arith, canonical_length (sent_message e first at a) fits, body_length request e.action e.id 130 a.outcome (omega arith) suits.1)
kept_length true e first at request a suits fits =
    omega (arith, canonical_length (sent_message e first at a) fits, body_length request e.action e.id 26 a.outcome (omega arith) suits.1)

pub kept_least : (e : Envelope) (first : Heard) (at : ℕ) (a : Answer)
    → IsValid (sent_message e first at a)
    → Fits (sent_message e first at a)
    → 54 ≤ length (canonical (sent_message e first at a))
kept_least e first at a valid fits = (canonical_size (sent_message e first at a) valid fits).at_least

-- there is room for one more
pub has_room : (of_port : Bool) (most count done filled size : ℕ)
    → FitsCount of_port count
    → INLINE_PORTS ≤ most
    → count ≤ most
    → done < count
    → filled ≤ done * most_octets of_port
    → size ≤ most_octets of_port → filled + size ≤ PORT_MESSAGE_OCTETS * most
has_room false most count done filled size fits least few more full small = omega (arith, fits, least)
has_room true most count done filled size fits least few more full small = omega (arith, few)

pub filled_more : (of_port : Bool) (done filled size : ℕ)
    → filled ≤ done * most_octets of_port
    → size ≤ most_octets of_port
    → filled + size ≤ (done + 1) * most_octets of_port
filled_more false done filled size full small = omega arith
filled_more true done filled size full small = omega arith

pub most_of_all : (of_port : Bool) → most_octets of_port ≤ 184
most_of_all false = omega arith
most_of_all true = omega arith

-- a message that spells an answer
pub record IsEncoded (of_port : Bool) (e : Envelope) (a : Answer) (v : Message) : Type 0 where
  pub kept : IsKeptMessage e of_port (canonical v)
  pub back : answer_in of_port (canonical v) ≡ a
  pub small : length (canonical v) ≤ most_octets of_port
  pub least : 54 ≤ length (canonical v)

pub encoded : (of_port : Bool) (e : Envelope) (first : Heard) (at : ℕ) (request : Action) (a : Answer) (v : Message)
    → IsCopyOf e first
    → sent_message e first at a ≡ v
    → e.action ≡ reply_action request
    → IsRequestAction request
    → FitsAnswer of_port request a
    → IsValid v
    → Fits v
    → IsEncoded of_port e a v
encoded of_port e first at request a v own message action asks suits =
    subst (λ (w : Message). IsValid w → Fits w → IsEncoded of_port e a w) message (λ valid fits. record {
      kept = kept_back of_port e first at request a action asks suits valid fits own;
      back = grind (arith, answer_back);
      small = kept_length of_port e first at request a suits fits;
      least = kept_least e first at a valid fits;
    })

pub answers_more : (of_port : Bool) (ms : List (List ℕ)) (m : List ℕ) (xs : List PortAnswer) (i : ℕ)
    (d : PortAnswer)
    → i < length xs
    → map (answer_in of_port) ms ≡ map answer_of (take i xs)
    → answer_in of_port m ≡ answer_of (get_or xs i d)
    → map (answer_in of_port) (ms ++ m ∷ []) ≡ map answer_of (take (i + 1) xs)
answers_more of_port ms m xs i d inside before one =
    map-append (answer_in of_port) ms (m ∷ [])
    ∙ (λ j. before j ++ one j ∷ [])
    ∙ sym (map-append answer_of (take i xs) (get_or xs i d ∷ []))
    ∙ ap (map answer_of) (sym (take_more xs i d inside))

suit_at : (of_port : Bool) (request : Action) (answers : List PortAnswer) (i : ℕ)
    (item : PortAnswer)
    → item ≡ get_or answers i item
    → i < length answers
    → All (λ a. FitsAnswer of_port request (answer_of a)) answers
    → FitsAnswer of_port request (answer_of item)
suit_at of_port request answers i item is inside suit =
    subst (λ (x : PortAnswer). FitsAnswer of_port request (answer_of x)) (sym is) (suit i item inside)

-- the message of an answer has room
pub made_small : (of_port : Bool) (e : Envelope) (request action : Action)
    (answers : List PortAnswer) (i : ℕ) (item : PortAnswer) (v : Message)
    → item ≡ get_or answers i item
    → i < length answers
    → All (λ a. FitsAnswer of_port request (answer_of a)) answers
    → v ≡ reply_message e.clock (first_copy e) action e.id 0 (answer_of item)
    → 48 + length (tlv_octets v.body) ≤ most_octets of_port
made_small of_port e request action answers i item v is inside suit message = grind (arith, suit_at, body_length)

-- the message of an answer, as it is encoded
pub made : (of_port : Bool) (e : Envelope) (request action : Action) (answers : List PortAnswer)
    (i : ℕ) (item : PortAnswer) (v : Message)
    → item ≡ get_or answers i item
    → i < length answers
    → All (λ a. FitsAnswer of_port request (answer_of a)) answers
    → v ≡ reply_message e.clock (first_copy e) action e.id 0 (answer_of item)
    → action ≡ reply_action request
    → e.action ≡ reply_action request
    → IsRequestAction request → IsValid v → Fits v → IsEncoded of_port e (answer_of item) v
made of_port e request action answers i item v is inside suit message chosen own asks valid fits =
    let suits = suit_at of_port request answers i item is inside suit in
    let same : kept_message e (answer_of item) ≡ v = grind arith in
    encoded of_port e (first_copy e) 0 request (answer_of item) v (record { source_is = refl; number_is = refl }) same own asks suits valid fits

-- what is kept after one more answer
pub record IsFilled (of_port : Bool) (e : Envelope) (answers : List PortAnswer) (sizes octets : List ℕ) (i : ℕ) : Type 0 where
  pub kept : IsKeptReply e of_port sizes octets
  pub answers_are : map (answer_in of_port) (pieces sizes octets) ≡ map answer_of (take i answers)
  pub count : length sizes ≡ i
  pub room : length octets ≤ i * most_octets of_port

pub filled_after : (of_port : Bool) (e : Envelope) (answers : List PortAnswer)
    (sizes octets sizes' octets' : List ℕ) (i : ℕ) (item : PortAnswer) (v : Message)
    → IsFilled of_port e answers sizes octets i
    → item ≡ get_or answers i item
    → i < length answers
    → IsEncoded of_port e (answer_of item) v
    → sizes' ≡ sizes ++ length (canonical v) ∷ [] → octets' ≡ octets ++ canonical v
    → IsFilled of_port e answers sizes' octets' (i + 1)
filled_after of_port e answers sizes octets sizes' octets' i item v filled is inside made s o =
    let small : length (canonical v) ≤ 184 = omega (arith, made.small, most_of_all of_port) in
    grind (arith, pieces_more, answers_more, length-append, filled_more, sizes_more, each_more)

-- ---- how many messages

length_pieces : (sizes octets : List ℕ) → length (pieces sizes octets) ≡ length sizes
length_pieces [] octets = refl
length_pieces (s ∷ ss) octets = ap suc (length_pieces ss (drop s octets))

-- there are as many answers as sizes
pub length_answers : (of_port : Bool) (sizes octets : List ℕ)
    → length (map (answer_in of_port) (pieces sizes octets)) ≡ length sizes
length_answers of_port sizes octets = length-map (pieces sizes octets) (answer_in of_port) ∙ length_pieces sizes octets

-- ---- of a reply that fits

pub record SuitsReply (of_port : Bool) (request : Action) (answers : List PortAnswer) : Type 0 where
  pub count : FitsCount of_port (length answers)
  pub suits : All (λ a. FitsAnswer of_port request (answer_of a)) answers

port_told : (of_port : Bool) (request : Action) (answers : List PortAnswer)
    → SuitsReply of_port request answers
    → of_port ≡ has_port answers
port_told false request [] s = refl
port_told true request [] s = let some : 1 ≤ 0 = s.count.0 in absurd (omega arith)
port_told false request (a ∷ rest) s = ap is_some (sym (s.suits 0 a (omega arith)).0)
port_told true request (a ∷ rest) s = ap is_some (sym (s.suits 0 a (omega arith)).0.1)

pub fitting_slots : (q : RequestValue) (r : ReplyValue) (answers : List PortAnswer)
    → FitsRequest q r
    → map answer_of answers ≡ r.answers
    → SuitsReply (has_port answers) q.action answers
fitting_slots q r answers fits are =
    let s : SuitsReply (is_of_port q.id) q.action answers = record {
      count = grind (arith, length-map);
      suits = All-unmap (FitsAnswer (is_of_port q.id) q.action) answer_of answers
          (subst (λ (xs : List Answer). All (FitsAnswer (is_of_port q.id) q.action) xs) (sym are) fits.answers);
    } in grind (arith, port_told)
