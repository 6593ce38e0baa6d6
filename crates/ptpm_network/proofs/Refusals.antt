-- What an event that is not refused shows, and that a stranger's datagram is then of no clock and of no session.
use Rattle.ptpm_network.proofs.Common.{by_test, arith, ◌≡◌, ℕ, ◌<◌, ◌≤◌, ◌-◌, ◌^◌, Option, Some, None, true, false, refl, sym, ◌∙◌, ap, length, cond-false, true≢false, nat_lt, option_map, is_some, first_of-none, option_or-none, Ask, ask_refusal, SessionValue, begin_refusal, is_waiting, IsAsked, SessionState, is_idle, session_value, SessionStart, eqb-false, suc, zero, ◌+◌, List, Bool, subst, ⊎_elim, take, drop, cases_eq, or_parts, and_cases, le-leb, drop-take, length-drop, length-take-le, take-take, nat_le, list_any, range_with_len, PortIdentity, Body, Message, same_clock, same_identity, message_length, message_octets, number_at, port_identity_at, source_port_identity, BodyFits, Fits, PortIdentityFits, message_of, Spells, SpellsBody, number_at-octets, number-take, IsOctets, message_of-some, message_of-spells, message_size, octets-take, same_identity-refl, same_clock-refl, is_forged, is_taken, IsForeign, Network, manager}
use Rattle.ptpm_data.proofs.OwnOctets.{some_at}
use Rattle.ptpm_manager.specs.declared.setup.TheConstants.{TARGET_PORTS}
use Rattle.ptpm_manager.specs.Ask.{request_of}
use Rattle.ptpm_manager.proofs.AskLaws.{request_of-permitted}
use Rattle.ptpm_codec.specs.Layout.{clock_identity_at}
use Rattle.ptpm_codec.specs.declared.message.Body.TheVariants as bodies

-- ---- what an event that is not refused shows

pub option_map-none : {A B : Type 0} (f : A → B) (o : Option A) → option_map f o ≡ None → o ≡ None
option_map-none f None e = refl
option_map-none f (Some a) e = absurd (cc)

-- ---- an ask that is not refused

pub asked-not_refused : (ports : ℕ) (a : Ask)
    → ports ≤ TARGET_PORTS → a.id < 2 ^ 16 → ask_refusal ports a ≡ None
    → IsAsked ports (request_of a)
asked-not_refused ports a few id e = grind (arith, request_of-permitted)

-- ---- a session that begins

pub begin-not_refused : (s : SessionValue) (a : Ask)
    → begin_refusal s a ≡ None
    → (is_waiting s ≡ false) × (ask_refusal s.setup.ports a ≡ None)
unfolding begin_refusal
begin-not_refused s a e = grind (arith, nat_lt, option_or-none, first_of-none)

-- a session that does not wait has each request reported
pub idle-not_waiting : (start : SessionStart) (s : SessionState)
    → length s.reports ≤ length s.begun → is_waiting (session_value start s) ≡ false
    → is_idle s ≡ true
idle-not_waiting start s le w = by_test (is_idle s)
    (λ y. y)
    (λ n. let last = some_at s.begun (length s.begun - 1) (omega (arith, le, eqb-false (length s.reports) (length s.begun) n)) in
    absurd (true≢false (sym (ap is_some (cond-false _ _ _ n ∙ last.1)) ∙ w)))

-- ---- a stranger's datagram that is not refused is of no clock and of no session

-- ---- ranges

number-fits : (place : ℕ) (m : List ℕ) → IsOctets m → number_at place m < 2 ^ 16
number-fits place m h = let high = h place in let low = h (place + 1) in omega (arith, number_at-octets place m, high, low)

identity-fits : (place : ℕ) (m : List ℕ)
    → IsOctets m → place + 10 ≤ length m
    → PortIdentityFits (port_identity_at place m)
unfolding port_identity_at clock_identity_at
identity-fits place m h long = grind (arith, length-take-le, length-drop, number-fits)

body-fits : (b : Body) (m : List ℕ) → IsOctets m → SpellsBody b m → BodyFits b
body-fits (bodies.Request action id octets) m h (asks, s) = subst (λ n. n < 2 ^ 16) (sym s.id_is) (number-fits 52 m h)
body-fits (bodies.Answer action id octets) m h (answers, s) = subst (λ n. n < 2 ^ 16) (sym s.id_is) (number-fits 52 m h)
body-fits (bodies.Fault action error id text) m h (answers, s) = grind (arith, number-fits)

spelled-fits : (v : Message) (m : List ℕ) → IsOctets m → Spells v m → Fits v
spelled-fits v m h s =
    let low = s.at_least in
    record {
      source = subst PortIdentityFits (sym s.source) (identity-fits 20 m h (omega arith));
      number = subst (λ n. n < 2 ^ 16) (sym s.number) (number-fits 30 m h);
      target = subst PortIdentityFits (sym s.target) (identity-fits 34 m h (omega arith));
      body = body-fits v.body m h s.body;
    }

-- ---- identities

none_of_range : (test : ℕ → Bool) (n a i : ℕ)
    → list_any test (range_with_len a n) ≡ false → a ≤ i → i < a + n
    → test i ≡ false
none_of_range test zero a i e le lt = absurd (omega arith)
none_of_range test (suc n) a i e le lt =
    let p = or_parts (test a) (list_any test (range_with_len (a + 1) n)) e in
    ⊎_elim
    (λ (q : a ≡ i). subst (λ j. test j ≡ false) q p.0)
    (λ (ne : a ≡ i → ⊥). none_of_range test n (a + 1) i p.1 (omega arith) (omega arith))
    (cases_eq a i)

untaken : (N : Network) (v : Message) (who : PortIdentity)
    → v.source ≡ who → is_taken N who ≡ false
    → IsForeign N v
untaken N v who e none =
    let parts = or_parts (list_any (λ c. same_clock who.clock (N.clock c).identity) (range_with_len 0 N.clocks)) (list_any (λ s. same_identity who (manager N s)) (range_with_len 0 N.sessions)) none in
    record {
      no_request = λ s exists h. true≢false (sym (same_identity-refl who) ∙ (ap (same_identity who) (sym e ∙ h)
          ∙ none_of_range (λ t. same_identity who (manager N t)) N.sessions 0 s parts.1 (omega arith) (omega (arith, exists))));
      no_reply = λ c s there exists from' h. true≢false (sym (same_clock-refl who.clock) ∙ (ap (same_clock who.clock) (ap (λ (m : PortIdentity). m.clock) (sym e) ∙ from')
          ∙ none_of_range (λ d. same_clock who.clock (N.clock d).identity) N.clocks 0 c parts.0 (omega arith) (omega (arith, there))));
    }

-- ---- the source of a message lies within it

port_identity-take : (n : ℕ) (m : List ℕ)
    → 30 ≤ n
    → port_identity_at 20 (take n m) ≡ port_identity_at 20 m
unfolding port_identity_at clock_identity_at
port_identity-take n m long =
    let size : n ≡ 20 + (n - 20) = omega arith in
    let behind : drop 20 (take n m) ≡ take (n - 20) (drop 20 m) = ap (λ k. drop 20 (take k m)) size ∙ drop-take 20 (n - 20) m in
    let clock : take 8 (drop 20 (take n m)) ≡ take 8 (drop 20 m) = ap (take 8) behind ∙ take-take 8 (n - 20) (drop 20 m) (omega arith) in
    let port : number_at 28 (take n m) ≡ number_at 28 m = number-take 28 n m (omega arith) in
    rw (clock, port) refl

message-source : (v : Message) (d : List ℕ)
    → message_of d ≡ Some v
    → v.source ≡ source_port_identity d
message-source v d e = grind (arith, message_size, message_of-some, message_of-spells, port_identity-take)

pub strange-foreign : (N : Network) (d : List ℕ) (v : Message)
    → is_forged N d ≡ false → message_of d ≡ Some v
    → IsForeign N v
strange-foreign N d v honest e =
    let size = message_size d (message_of-some d v e).0 in
    let low = size.0 in
    let inside = size.1 in
    let long : nat_le 30 (length d) ≡ true = le-leb 30 (length d) (omega arith) in
    let free : is_taken N (source_port_identity d) ≡ false = grind (arith, true≢false, and_cases) in
    untaken N v (source_port_identity d) (message-source v d e) free

pub strange-message : (N : Network) (d : List ℕ) (v : Message)
    → IsOctets d → is_forged N d ≡ false → message_of d ≡ Some v
    → Fits v × IsForeign N v
strange-message N d v octets honest e = (
  spelled-fits v (message_octets d) (octets-take (message_length d) d octets) (message_of-spells v d e),
  strange-foreign N d v honest e,
)
