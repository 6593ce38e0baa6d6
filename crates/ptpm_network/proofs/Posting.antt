-- The frames of a turn, message by message of the outbox: what a clock sends is what the machine says that it sends.
use Rattle.ptpm_network.proofs.Common.{arith, by_test, ◌≡◌, ℕ, ◌&&◌, ◌||◌, List, Option, Some, None, Result, Ok, Err, Bool, true, false, refl, sym, ◌∙◌, ap, length, and_from, and_left, and_right, and_parts, cond-true, cond-false, true≢false, DecodeError, PortIdentity, Message, message_of, reading, DataSetsValue, Verdict, forwarded, StandsAt, Delivery, History, RequestCopy, copy_of, is_copy, heard_of, is_addressed, is_own, Clock, State, judged, reply_by, reply_messages, turn, IsInTime, no_copy, turns_as, judged-foreign, judged-request, message_of-reading, reading-message_of, turn-message, answer_messages, delivery, is_read, read_messages, Frame, judged-own, judged-away, judged-reply, ◌==◌, not, ◌⊎◌, inl, [], ◌∷◌, subst, not-true, eq-eqb, map, AllByRecursion, filter, range_with_len, ClockIdentity, may_forward, ReplyValue, Heard, rendered, forwarded_by, is_forwarded, with_less_hop, copy_by, is_numbered, look, turn_by, verdict_at, is_copy-numbered, judged-each, verdict_at-unnumbered, answer_origin, Origin, origin_by, all_made, inr, ◌++◌, ⊎_elim, map-append, flat_map, boundary_hops, Turned, outbox_of, held, posted, turn_frames, forwarded_frames, reply_frames, AtPort, End, Network, peers, posted_by}
use Rattle.ptpm_agent.specs.Turn.{is_in_domain}
use Rattle.ptpm_network.proofs.Lists.{all_of}
use Rattle.std.proofs.lemmas.Grind.{flat_map-append}
use Rattle.ptpm_network.proofs.Held.{held-forwarded, held-flat}

-- ---- what a clock sends in a turn is what the machine says that it sends

-- ---- a message that is no numbered copy

-- if the verdict sends nothing, nothing is read
says_nothing : (c : Clock) (s : State) (ingress : ℕ) (v : Message) (w : Verdict)
    → judged c s v ≡ w → reply_by w c s v ≡ None → is_read c s.sets v ≡ false
    → reply_messages c ingress (heard_of v) (reply_by (judged c s v) c s v)
    ≡ read_messages c s.sets ingress (Some v)
says_nothing c s ingress v w j e n = grind (arith, cond-false)

-- its tests, and those of a copy, as one chain of bits
is_read-foreign : (a b r x : Bool) → (a && (b || r)) ≡ false → (a && (b && x)) ≡ false
is_read-foreign true true r x e = absurd (true≢false e)
is_read-foreign true false r x e = refl
is_read-foreign false b r x e = refl

in_domain : (a b r : Bool) → (a && (b || r)) ≡ true → r ≡ false → (a ≡ true) × (b ≡ true)
in_domain true true r y e = (refl, refl)
in_domain true false r y e = absurd (true≢false (sym y ∙ e))
in_domain false b r y e = absurd (true≢false (sym y))

module _ (c : Clock) (s : State) (ingress : ℕ) (v : Message) (n : is_copy c (length s.sets.ports) v ≡ false) where
  says_request_or_nothing : is_in_domain c s v ≡ true
      → is_own c v ≡ false → is_addressed c s.sets v ≡ true
      → reply_messages c ingress (heard_of v) (reply_by (judged c s v) c s v)
      ≡ read_messages c s.sets ingress (Some v)
  says_request_or_nothing d o a = grind (arith, true≢false, and_parts, says_nothing, judged-reply, and_left, and_right, cond-false, judged-request, in_domain, and_from, cond-true)

  says_as_read : reply_messages c ingress (heard_of v) (reply_by (judged c s v) c s v)
      ≡ read_messages c s.sets ingress (Some v)
  says_as_read = by_test (is_in_domain c s v)
      (λ d. by_test (is_own c v)
      (λ o. grind (arith, says_nothing, judged-own, and_left, and_right))
      (λ o. by_test (is_addressed c s.sets v)
      (λ a. says_request_or_nothing d o a)
      (λ a. grind (arith, says_nothing, judged-away, and_left, and_right))))
      (λ d. grind (arith, says_nothing, judged-foreign, is_read-foreign))

-- ---- a turn

pub turn-forwards : (c : Clock) (s : State) (ingress : ℕ) (d : List ℕ)
    → (turn c s ingress d).forwards ≡ forwarded c.identity ingress s.sets d
unfolding turn
turn-forwards c s ingress d = grind arith

pub turn-reads : (c : Clock) (s : State) (x : Delivery) (r : Result Message DecodeError)
    → reading x.datagram ≡ r → copy_of c (length s.sets.ports) x ≡ None
    → (turn c s x.ingress x.datagram).replies
    ≡ read_messages c s.sets x.ingress (message_of x.datagram)
unfolding turn
turn-reads c s x (Err cause) e none = grind (arith, reading-message_of)
turn-reads c s x (Ok v) e none =
    let m : message_of x.datagram ≡ Some v = message_of-reading x.datagram v e in grind (arith, turn-message, says_as_read, no_copy)

-- ---- both are the machine's

module _ (c : Clock) (first : PortIdentity → ℕ) (s : State) (h : History) (ingress : ℕ) (f : Frame) where
  pub turn-passes_on : StandsAt first s h
      → (turn c s ingress f.octets).forwards ≡ forwarded c.identity ingress h.sets f.octets
  turn-passes_on at = turn-forwards c s ingress f.octets ∙ ap (λ (d : DataSetsValue). forwarded c.identity ingress d f.octets) at.sets

  answers-by : (o : Option RequestCopy)
      → StandsAt first s h
      → ((k : RequestCopy) → copy_of c (length h.sets.ports) (delivery ingress f) ≡ Some k → IsInTime first h k)
      → copy_of c (length h.sets.ports) (delivery ingress f) ≡ o
      → (turn c s ingress f.octets).replies ≡ answer_messages c h ingress f.octets o
  answers-by None at time e =
      turn-reads c s (delivery ingress f) (reading f.octets) refl (ap (λ (d : DataSetsValue). copy_of c (length d.ports) (delivery ingress f)) at.sets ∙ e)
      ∙ ap (λ (d : DataSetsValue). read_messages c d ingress (message_of f.octets)) at.sets
  answers-by (Some k) at time e = (turns_as first c s h (delivery ingress f) k at e (time k e)).replies

  pub turn-answers : StandsAt first s h
      → ((k : RequestCopy) → copy_of c (length h.sets.ports) (delivery ingress f) ≡ Some k → IsInTime first h k)
      → (turn c s ingress f.octets).replies
      ≡ answer_messages c h ingress f.octets (copy_of c (length h.sets.ports) (delivery ingress f))
  turn-answers at time = answers-by (copy_of c (length h.sets.ports) (delivery ingress f)) at time refl

-- ---- the frames of a turn, message by message of the outbox

-- ---- what a clock sends in a turn: copies at other ports than the one that the datagram came in at, replies at that one. And to
-- what it replies: to a numbered copy exactly if its verdict says so.

-- ---- ports

-- a message at this port, and one at another
abbrev pub IsAt : ℕ → ℕ × List ℕ → Type 0
IsAt port m = m.0 == port ≡ true

abbrev pub IsAway : ℕ → ℕ × List ℕ → Type 0
IsAway port m = m.0 == port ≡ false

passed-away : (ingress : ℕ) (may : ℕ → Bool) (octets : List ℕ) (ports : List ℕ)
    → AllByRecursion (IsAway ingress)
    (map (λ port. (port, octets)) (filter (λ port. not (port == ingress) && may port) ports))
passed-away ingress may octets [] = tt
passed-away ingress may octets (p ∷ ps) = by_test (not (p == ingress) && may p)
    (λ y. rw y (not-true (p == ingress) (and_parts (not (p == ingress)) (may p) y).0, passed-away ingress may octets ps))
    (λ n. rw n (passed-away ingress may octets ps))

forwarded_by-away : (me : ClockIdentity) (ingress : ℕ) (d : DataSetsValue) (datagram : List ℕ)
    (o : Option Message)
    → AllByRecursion (IsAway ingress) (forwarded_by me ingress d datagram o)
forwarded_by-away me ingress d datagram None = tt
forwarded_by-away me ingress d datagram (Some v) = by_test (is_forwarded me ingress d v)
    (λ y. rw y (passed-away ingress (λ port. may_forward port d) (with_less_hop datagram) (range_with_len 1 (length d.ports))))
    (λ n. rw n tt)

-- what is passed on leaves at other ports
pub forwards-away : (c : Clock) (s : State) (ingress : ℕ) (datagram : List ℕ)
    → AllByRecursion (IsAway ingress) (turn c s ingress datagram).forwards
unfolding forwarded
forwards-away c s ingress datagram = grind (arith, turn-forwards, forwarded_by-away)

reply_messages-at : (c : Clock) (ingress : ℕ) (heard : Heard) (r : Option ReplyValue)
    → AllByRecursion (IsAt ingress) (reply_messages c ingress heard r)
unfolding rendered
reply_messages-at c ingress heard None = tt
reply_messages-at c ingress heard (Some r) = all_made (λ a. Unit {0}) (IsAt ingress) _ (λ a is. eq-eqb ingress ingress refl) r.answers (all_of _ (λ a. tt) _)

-- replies leave at the port that the datagram came in at
pub replies-at : (c : Clock) (s : State) (ingress : ℕ) (datagram : List ℕ)
    → AllByRecursion (IsAt ingress) (turn c s ingress datagram).replies
unfolding turn
replies-at c s ingress datagram = grind (arith, reply_messages-at)

-- ---- what a reply is to

-- nothing is replied, or the verdict says whether it is to a numbered copy
abbrev IsToCopy : Verdict → List (ℕ × List ℕ) → Option RequestCopy → Type 0
IsToCopy w replies copy = (replies ≡ []) ⊎ ((o : Origin) → origin_by w o ≡ answer_origin o copy)

-- what is not numbered is no copy
not_copy : (a o k t p q : Bool)
    → (k && t) ≡ false
    → (a && (not o && (k && (t && (p && q))))) ≡ false
not_copy a o true true p q e = absurd (cc)
not_copy a o true false p q e = and_right a _ (and_right (not o) _ refl)
not_copy a o false t p q e = and_right a _ (and_right (not o) _ refl)

numbered-copy : (c : Clock) (s : State) (ingress : ℕ) (v : Message) (k : RequestCopy)
    → is_numbered c v ≡ true
    → IsToCopy (verdict_at (look c s v))
    (reply_messages c ingress (heard_of v) (reply_by (verdict_at (look c s v)) c s v)) (Some k)
numbered-copy c s ingress v k n = grind (arith, cond-true)

message-copy : (c : Clock) (s : State) (x : Delivery) (v : Message)
    → IsToCopy (judged c s v)
    (reply_messages c x.ingress (heard_of v) (reply_by (judged c s v) c s v))
    (copy_by c (length s.sets.ports) x (Some v))
message-copy c s x v =
    judged-each (λ (w : Verdict). IsToCopy w (reply_messages c x.ingress (heard_of v) (reply_by w c s v)) (copy_by c (length s.sets.ports) x (Some v))) c s v
    (inl refl) (inl refl) (inl refl) (inl refl)
    (λ d o a q. by_test (is_numbered c v)
    (λ n. grind (arith, is_copy-numbered, numbered-copy))
    (λ n. grind (arith, not_copy, verdict_at-unnumbered)))

turn_by-copy : (c : Clock) (s : State) (x : Delivery) (r : Result Message DecodeError)
    → reading x.datagram ≡ r
    → IsToCopy (turn_by c s x.ingress x.datagram r).verdict
    (turn_by c s x.ingress x.datagram r).replies (copy_of c (length s.sets.ports) x)
turn_by-copy c s x (Err cause) e = inl refl
turn_by-copy c s x (Ok v) e =
    subst (λ (m : Option Message). IsToCopy (judged c s v) (reply_messages c x.ingress (heard_of v) (reply_by (judged c s v) c s v)) (copy_by c (length s.sets.ports) x m))
    (sym (message_of-reading x.datagram v e)) (message-copy c s x v)

-- if a clock replies, its verdict says whether it is to a numbered copy
pub reply-origin : (c : Clock) (s : State) (x : Delivery)
    → ((turn c s x.ingress x.datagram).replies ≡ [])
    ⊎ ((o : Origin) → origin_by (turn c s x.ingress x.datagram).verdict o ≡ answer_origin o (copy_of c (length s.sets.ports) x))
unfolding turn
reply-origin c s x = turn_by-copy c s x (reading x.datagram) refl

module _ (links : List (List End)) (c ingress : ℕ) (passed reply : Origin) where
  -- what leaves at other ports belongs to what came in
  posted-away : (sent : List (ℕ × List ℕ))
      → AllByRecursion (IsAway ingress) sent
      → flat_map (λ m. posted (peers links (AtPort c m.0)) m.1 passed) sent
      ≡ flat_map (posted_by links c ingress passed reply) sent
  posted-away [] away = refl
  posted-away (m ∷ ms) away =
      ap (λ (o : Origin). posted (peers links (AtPort c m.0)) m.1 o ++ flat_map (λ m. posted (peers links (AtPort c m.0)) m.1 passed) ms) (sym (cond-false (m.0 == ingress) reply passed away.0))
      ∙ ap (λ hs. posted_by links c ingress passed reply m ++ hs) (posted-away ms away.1)

  -- what leaves at that port is the reply
  posted-at : (sent : List (ℕ × List ℕ))
      → AllByRecursion (IsAt ingress) sent
      → flat_map (λ m. posted (peers links (AtPort c m.0)) m.1 reply) sent
      ≡ flat_map (posted_by links c ingress passed reply) sent
  posted-at [] at = refl
  posted-at (m ∷ ms) at =
      ap (λ (o : Origin). posted (peers links (AtPort c m.0)) m.1 o ++ flat_map (λ m. posted (peers links (AtPort c m.0)) m.1 reply) ms) (sym (cond-true (m.0 == ingress) reply passed at.0))
      ∙ ap (λ hs. posted_by links c ingress passed reply m ++ hs) (posted-at ms at.1)

-- replies belong to what the verdict says, or there are none
reply_origins : (N : Network) (c : ℕ) (due told : Origin) (replies : List (ℕ × List ℕ))
    → (replies ≡ []) ⊎ (told ≡ due)
    → flat_map (λ m. posted (peers N.links (AtPort c m.0)) m.1 due) replies
    ≡ flat_map (λ m. posted (peers N.links (AtPort c m.0)) m.1 told) replies
reply_origins N c due told replies cases = grind (arith, flat_map)

-- the frames of a turn are those of its outbox, each message by the port that it leaves at
pub held-turn_frames : (N : Network) (s : State) (c ingress : ℕ) (f : Frame)
    → flat_map
    (posted_by N.links c ingress f.origin (origin_by (turn (N.clock c) s ingress f.octets).verdict f.origin)) (outbox_of (turn (N.clock c) s ingress f.octets)) ≡ map held (turn_frames N s c ingress f)
held-turn_frames N s c ingress f =
    let t : Turned = turn (N.clock c) s ingress f.octets in
    let told : Origin = origin_by t.verdict f.origin in
    let due : Origin = answer_origin f.origin (copy_of (N.clock c) (length s.sets.ports) (delivery ingress f)) in
    flat_map-append (posted_by N.links c ingress f.origin told) t.forwards t.replies
    ∙ ap (λ hs. hs ++ flat_map (posted_by N.links c ingress f.origin told) t.replies)
    (sym (posted-away N.links c ingress f.origin told t.forwards (forwards-away (N.clock c) s ingress f.octets)) ∙ sym (held-forwarded N c f t.forwards))
    ∙ ap (λ hs. map held (forwarded_frames N c f t.forwards) ++ hs)
    (sym (posted-at N.links c ingress f.origin told t.replies (replies-at (N.clock c) s ingress f.octets))
    ∙ sym (reply_origins N c due told t.replies (⊎_elim (λ none. inl none) (λ both. inr (both f.origin)) (reply-origin (N.clock c) s (delivery ingress f))))
    ∙ sym (held-flat N c due (λ m. boundary_hops m.1) 0 t.replies))
    ∙ sym (map-append held (forwarded_frames N c f t.forwards) (reply_frames N c due t.replies))
