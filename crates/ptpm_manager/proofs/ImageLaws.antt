-- The image of a session gives back what is saved of it.
use Rattle.std.proofs.Common.{arith, ◌≡◌, ◌∙◌, ap, refl, sym, ⊎_elim, ℕ, ◌+◌, ◌^◌, ◌<◌, ◌≤◌, ◌==◌, nat_le, not, Bool, true, false, ◌&&◌, ◌||◌, List, [], ◌∷◌, ◌++◌, length, length-append, append_assoc, take, drop, bytes_eq, Option, Some, None}
use Rattle.std.specs.Cmp.Lexicographic.{nat_list_eq_equiv}
use Rattle.std.proofs.lemmas.Bool.{and_from, and_right, or_left, or_right, eq-eqb, le-leb, le-ltb, lt-ltb}
use Rattle.std.proofs.lemmas.List.{drop-append-le, drop-drop, drop_all, take-append-le, take_all}
use Rattle.byteorder.specs.Endian.{big_bytes, big_number}
use Rattle.byteorder.specs.Numbers.{big_number-reads_back}
use Rattle.ptpm_codec.specs.declared.identity.ClockIdentity.{ClockIdentity}
use Rattle.ptpm_codec.specs.declared.identity.PortIdentity.{PortIdentity}
use Rattle.ptpm_codec.specs.declared.message.Action.{Action}
use Rattle.ptpm_codec.specs.declared.message.Action.TheVariants as actions
use Rattle.ptpm_codec.specs.Canonical.{port_identity_octets}
use Rattle.ptpm_codec.specs.Layout.{clock_identity_at, number_at, octet, port_identity_at}
use Rattle.ptpm_codec.specs.Identity.{every_port}
use Rattle.ptpm_codec.specs.Message.{IsDataField, action_code, is_data_field, is_reply}
use Rattle.ptpm_codec.proofs.CanonicalLaws.{by_eight}
use Rattle.ptpm_data.specs.ManagementId.{is_of_port}
use Rattle.ptpm_data.specs.Request.{RequestValue}
use Rattle.ptpm_manager.specs.declared.setup.Setup.{Setup}
use Rattle.ptpm_manager.specs.declared.setup.TheConstants.{TARGET_PORTS}
use Rattle.ptpm_manager.specs.Ask.{IsAskedOf, is_target_of, names_port}
use Rattle.ptpm_manager.specs.Image.{SessionFits, SetupFits, UnansweredFits, body_front, body_image, data_field_of, image_front, image_head, image_of, request_front, request_image, session_front, session_image, session_kind, setup_image, unanswered_image}
use Rattle.ptpm_manager.specs.ImageReading.{count_at, request_action, request_at, session_at, setup_at}
use Rattle.ptpm_manager.specs.Restoring.{head_refusal, is_consistent, is_image, is_in_reach, is_long, is_unanswered_at, restore_refusal}
use Rattle.ptpm_manager.specs.Session.{IsConsistent, IsInReach, IsUnansweredAt, SessionValue, anew, count_limit, reach_limit}
use Rattle.ptpm_manager.specs.Setup.{IsSetup, is_setup, is_setup_of}

-- ---- an image in its two parts

module _ (setup : Setup) (domain issued reported : ℕ) where
  body_parts : (o : Option RequestValue)
      → body_front setup domain issued reported o ++ data_field_of o ≡ body_image setup domain issued reported o
  unfolding body_front body_image unanswered_image request_image
  body_parts None = append_assoc (setup_image setup ++ domain ∷ [] ++ big_bytes 8 issued ++ big_bytes 8 reported) (0 ∷ []) []
  body_parts (Some q) =
      append_assoc (setup_image setup ++ domain ∷ [] ++ big_bytes 8 issued ++ big_bytes 8 reported) (1 ∷ request_front q) q.octets

  pub body_size : (o : Option RequestValue)
      → length (body_image setup domain issued reported o)
      ≡ length (body_front setup domain issued reported o) + length (data_field_of o)
  body_size o = sym (ap length (body_parts o)) ∙ length-append (body_front setup domain issued reported o) (data_field_of o)

  pub front_and_field : (o : Option RequestValue)
      → image_of setup domain issued reported o ≡ image_front setup domain issued reported o ++ data_field_of o
  unfolding image_of image_front
  front_and_field o =
      let head = image_head session_kind (length (body_image setup domain issued reported o)) in
      sym (append_assoc head (body_front setup domain issued reported o) (data_field_of o) ∙ ap (λ body. head ++ body) (body_parts o))

and_assoc : (a b c : Bool) → ((a && b) && c) ≡ (a && (b && c))
and_assoc true b c = refl
and_assoc false b c = refl

-- octets are two parts, one after the other, if they begin with the first and go on with the second
pub parts_short : (xs front rest : List ℕ) → length xs < length front → bytes_eq xs (front ++ rest) ≡ false
parts_short xs [] rest short = absurd (omega arith)
parts_short [] (f ∷ front) rest short = refl
parts_short (x ∷ xs) (f ∷ front) rest short =
    ap (λ b. (x == f) && b) (parts_short xs front rest (omega (arith, short))) ∙ and_right (x == f) false refl

pub parts_long : (xs front rest : List ℕ) → length front ≤ length xs
    → bytes_eq xs (front ++ rest) ≡ (bytes_eq (take (length front) xs) front && bytes_eq (drop (length front) xs) rest)
parts_long xs [] rest long = refl
parts_long [] (f ∷ front) rest long = absurd (omega arith)
parts_long (x ∷ xs) (f ∷ front) rest long =
    ap (λ b. (x == f) && b) (parts_long xs front rest (omega (arith, long)))
    ∙ sym (and_assoc (x == f) (bytes_eq (take (length front) xs) front) (bytes_eq (drop (length front) xs) rest))

-- the two parts written one after the other over the first octets of a place
pub written : (front rest place : List ℕ)
    → take (length front) (front ++ drop (length front) place) ++ rest ++ drop (length front + length rest) (front ++ drop (length front) place)
    ≡ front ++ rest ++ drop (length front + length rest) place
written front rest place =
    let first : take (length front) (front ++ drop (length front) place) ≡ front =
    take-append-le (length front) front (drop (length front) place) (omega arith) ∙ take_all (length front) front (omega arith) in
    let last : drop (length front + length rest) (front ++ drop (length front) place) ≡ drop (length front + length rest) place =
    sym (drop-drop (length rest) (length front) (front ++ drop (length front) place))
    ∙ ap (λ l. drop (length rest) l) (drop-append-le (length front) front (drop (length front) place) (omega arith)
    ∙ ap (λ l. l ++ drop (length front) place) (drop_all (length front) front (omega arith)))
    ∙ drop-drop (length rest) (length front) place in
    rw (first, last) refl

-- of a session, by the two parts
module _ (s : SessionValue) (front field : List ℕ) (front_is : front ≡ session_front s) (field_is : field ≡ data_field_of s.unanswered) where
  pub parts_of_image : front ++ field ≡ session_image s
  parts_of_image =
      ap (λ (l : List ℕ). l ++ field) front_is ∙ ap (λ (l : List ℕ). session_front s ++ l) field_is
      ∙ sym (front_and_field s.setup s.domain s.issued s.reported s.unanswered)

  pub size_of_parts : length front + length field ≡ length (session_image s)
  size_of_parts = sym (length-append front field) ∙ ap length parts_of_image

  pub written_image : (place : List ℕ)
      → front ++ field ++ drop (length front + length field) place ≡ session_image s ++ drop (length (session_image s)) place
  written_image place =
      ap (λ n. front ++ field ++ drop n place) size_of_parts
      ∙ ap (λ (l : List ℕ). l ++ drop (length (session_image s)) place) parts_of_image

-- ---- numbers and actions

u16_back : (n : ℕ) → n < 2 ^ 16 → big_number 2 (big_bytes 2 n) ≡ n
u16_back n small = big_number-reads_back 2 n [] small

u64_back : (n : ℕ) → n ≤ count_limit → big_number 8 (big_bytes 8 n) ≡ n
u64_back n small = big_number-reads_back 8 n [] (omega arith)

action_back : (a : Action) → is_reply a ≡ false → request_action (action_code a) ≡ a
action_back actions.Get request = refl
action_back actions.Set request = refl
action_back actions.Response request = cc
action_back actions.Command request = refl
action_back actions.Acknowledge request = cc

port_small : (ports : ℕ) (q : RequestValue) → ports ≤ TARGET_PORTS → IsAskedOf ports q → q.port < 2 ^ 16
port_small ports q few request = ⊎_elim
    (λ (named : (1 ≤ q.port) × (q.port ≤ ports)). let most = named.1 in omega arith)
    (λ (every : (is_of_port q.id ≡ false) × (q.port ≡ every_port)). let is = every.1 in omega arith)
    request.target

-- ---- identities, octet by octet

-- a setup with other identities
abbrev with_identities : Setup → List ℕ → List ℕ → Setup
with_identities setup me target = record setup {
  me = record { clock = record { 0 = me }; port = setup.me.port };
  target = record { 0 = target };
}

-- what holds of each setup whose identities are eight octets each holds of all that fit
by_identities : (P : Setup → Type 0) (setup : Setup)
    → SetupFits setup
    → ((a b c d e f g h k l m n o p q r : ℕ)
    → P (with_identities setup (a ∷ b ∷ c ∷ d ∷ e ∷ f ∷ g ∷ h ∷ []) (k ∷ l ∷ m ∷ n ∷ o ∷ p ∷ q ∷ r ∷ [])))
    → P setup
by_identities P setup fits each =
    by_eight (λ me. P (with_identities setup me setup.target.0))
    (λ a b c d e f g h. by_eight (λ target. P (with_identities setup (a ∷ b ∷ c ∷ d ∷ e ∷ f ∷ g ∷ h ∷ []) target))
    (λ k l m n o p q r. each a b c d e f g h k l m n o p q r)
    setup.target.0 fits.target)
    setup.me.clock.0 fits.me.clock

-- ---- the session

abbrev saved_of : Setup → ℕ → ℕ → ℕ → Option RequestValue → SessionValue
saved_of setup domain issued reported unanswered = record {
  setup = setup;
  domain = domain;
  issued = issued;
  reported = reported;
  unanswered = unanswered;
  attempts_left = setup.attempts;
}

session_back : (setup : Setup) (domain issued reported : ℕ) (unanswered : Option RequestValue)
    → SetupFits setup
    → setup.ports ≤ TARGET_PORTS
    → issued ≤ count_limit
    → reported ≤ count_limit
    → UnansweredFits unanswered
    → IsUnansweredAt setup.ports issued unanswered
    → session_at (image_of setup domain issued reported unanswered) ≡ saved_of setup domain issued reported unanswered
unfolding image_of image_head body_image setup_image unanswered_image request_image port_identity_octets setup_at request_at clock_identity_at count_at port_identity_at number_at
session_back setup domain issued reported None fits few limit before small at =
    let port = u16_back setup.me.port fits.me.port in
    let first = u16_back setup.first fits.first in
    let count = u64_back issued limit in
    let latest = u64_back reported before in
    by_identities (λ x. session_at (image_of x domain issued reported None) ≡ saved_of x domain issued reported None) setup fits
    (λ a b c d e f g h k l m n o p q r i. record {
      setup = record setup {
        me = record { clock = record { 0 = a ∷ b ∷ c ∷ d ∷ e ∷ f ∷ g ∷ h ∷ [] }; port = port i };
        target = record { 0 = k ∷ l ∷ m ∷ n ∷ o ∷ p ∷ q ∷ r ∷ [] };
        first = first i;
      };
      domain = domain;
      issued = count i;
      reported = latest i;
      unanswered = None;
      attempts_left = setup.attempts;
    })
session_back setup domain issued reported (Some asked) fits few limit before small at =
    let port = u16_back setup.me.port fits.me.port in
    let first = u16_back setup.first fits.first in
    let count = u64_back issued limit in
    let latest = u64_back reported before in
    let action = action_back asked.action at.request.action in
    let id = u16_back asked.id small in
    let target = u16_back asked.port (port_small setup.ports asked few at.request) in
    by_identities (λ x. session_at (image_of x domain issued reported (Some asked)) ≡ saved_of x domain issued reported (Some asked)) setup fits
    (λ a b c d e f g h k l m n o p q r i. record {
      setup = record setup {
        me = record { clock = record { 0 = a ∷ b ∷ c ∷ d ∷ e ∷ f ∷ g ∷ h ∷ [] }; port = port i };
        target = record { 0 = k ∷ l ∷ m ∷ n ∷ o ∷ p ∷ q ∷ r ∷ [] };
        first = first i;
      };
      domain = domain;
      issued = count i;
      reported = latest i;
      unanswered = Some (record { action = action i; id = id i; port = target i; octets = asked.octets });
      attempts_left = setup.attempts;
    })

reported_small : (issued reported : ℕ) (o : Option RequestValue)
    → issued ≤ count_limit
    → IsInReach issued reported o
    → reported ≤ count_limit
reported_small issued reported None limit reach = let before = reach.0 in omega arith
reported_small issued reported (Some q) limit reach = let before = reach.0 in omega arith

pub image_back : (s : SessionValue) → IsConsistent s → SessionFits s → session_at (session_image s) ≡ anew s
image_back s c fits =
    session_back s.setup s.domain s.issued s.reported s.unanswered fits.setup c.setup.few_ports c.limit
    (reported_small s.issued s.reported s.unanswered c.limit c.reach) fits.unanswered c.unanswered_at

pub one_image : (s t : SessionValue)
    → IsConsistent s
    → IsConsistent t
    → SessionFits s
    → SessionFits t
    → session_image s ≡ session_image t
    → anew s ≡ anew t
one_image s t left right fits fits' same =
    sym (image_back s left fits) ∙ ap (λ octets. session_at octets) same ∙ image_back t right fits'

-- ---- an image is taken for one

size_of_image : (setup : Setup) (domain issued reported : ℕ) (asked : RequestValue)
    → SetupFits setup
    → 60 ≤ length (image_of setup domain issued reported (Some asked))
unfolding image_of image_head body_image setup_image unanswered_image request_image port_identity_octets
size_of_image setup domain issued reported asked fits =
    by_identities (λ x. 60 ≤ length (image_of x domain issued reported (Some asked))) setup fits (λ a b c d e f g h k l m n o p q r. omega arith)

long : (setup : Setup) (domain issued reported : ℕ) (unanswered : Option RequestValue)
    → SetupFits setup
    → is_long (image_of setup domain issued reported unanswered) ≡ true
unfolding image_of image_head body_image setup_image unanswered_image request_image port_identity_octets
long setup domain issued reported None fits =
    by_identities (λ x. is_long (image_of x domain issued reported None) ≡ true) setup fits (λ a b c d e f g h k l m n o p q r. refl)
long setup domain issued reported (Some asked) fits =
    let image = image_of setup domain issued reported (Some asked) in
    let size = size_of_image setup domain issued reported asked fits in
    let more : nat_le 60 (length image) ≡ true = le-leb 60 (length image) size in
    let some : nat_le 53 (length image) ≡ true = le-leb 53 (length image) (omega (arith, size)) in
    and_from (nat_le 53 (length image)) (octet 52 image == 0 || nat_le 60 (length image)) some (or_right (octet 52 image == 0) _ more)

setup_true : (setup : Setup) → IsSetup setup → is_setup setup ≡ true
setup_true setup c =
    rw (c.clocks.me_is_one, c.clocks.target_is_one, c.clocks.apart, le-leb 1 setup.ports c.some_port, le-leb setup.ports TARGET_PORTS c.few_ports) refl

data_field_true : (octets : List ℕ) → IsDataField octets → is_data_field octets ≡ true
data_field_true octets d = and_from _ _ (eq-eqb _ _ d.even) (le-leb _ 1418 d.small)

target_true : (ports : ℕ) (q : RequestValue) → IsAskedOf ports q → is_target_of ports q.id q.port ≡ true
target_true ports q request = ⊎_elim
    (λ (named : (1 ≤ q.port) × (q.port ≤ ports)).
    or_left _ (not (is_of_port q.id) && q.port == every_port) (and_from _ _ (le-leb 1 q.port named.0) (le-leb q.port ports named.1)))
    (λ (every : (is_of_port q.id ≡ false) × (q.port ≡ every_port)).
    or_right (names_port ports (Some q.port)) _ (and_from _ _ (ap not every.0) (eq-eqb q.port every_port every.1)))
    request.target

unanswered_true : (ports issued : ℕ) (o : Option RequestValue)
    → IsUnansweredAt ports issued o
    → is_unanswered_at ports issued o ≡ true
unanswered_true ports issued None at = refl
unanswered_true ports issued (Some q) at =
    rw (le-leb 1 issued at.counted, at.request.action, data_field_true q.octets at.request.octets, target_true ports q at.request) refl

reach_true : (issued reported : ℕ) (o : Option RequestValue)
    → IsInReach issued reported o
    → is_in_reach issued reported o ≡ true
reach_true issued reported None reach =
    and_from _ _ (le-leb reported issued reach.0) (lt-ltb issued (reported + reach_limit) reach.1)
reach_true issued reported (Some q) reach =
    and_from _ _ (lt-ltb reported issued reach.0) (le-leb issued (reported + reach_limit) reach.1)

consistent_true : (s : SessionValue) → IsConsistent s → is_consistent s ≡ true
unfolding is_consistent
consistent_true s c =
    rw (setup_true s.setup c.setup, le-leb s.issued count_limit c.limit, unanswered_true s.setup.ports s.issued s.unanswered c.unanswered_at, reach_true s.issued s.reported s.unanswered c.reach) refl

again : (s : SessionValue) → IsConsistent s → IsConsistent (anew s)
again s c = record { setup = c.setup; limit = c.limit; unanswered_at = c.unanswered_at; reach = c.reach }

image_true : (s : SessionValue) → IsConsistent s → SessionFits s → is_image (session_image s) ≡ true
unfolding is_image
image_true s c fits =
    let back = image_back s c fits in
    let of_long = long s.setup s.domain s.issued s.reported s.unanswered fits.setup in
    let consistent = ap is_consistent back ∙ consistent_true (anew s) (again s c) in
    let same = ap (λ t. bytes_eq (session_image s) (session_image t)) back ∙ nat_list_eq_equiv.refl (session_image s) in
    rw (of_long, consistent, same) refl

head_none : (setup : Setup) (domain issued reported : ℕ) (unanswered : Option RequestValue)
    → head_refusal (image_of setup domain issued reported unanswered) ≡ None
unfolding head_refusal image_of image_head
head_none setup domain issued reported unanswered =
    let size : 12 ≤ length (image_of setup domain issued reported unanswered) = omega arith in
    rw (le-ltb (length (image_of setup domain issued reported unanswered)) 12 size) refl

pub permitted : (me : PortIdentity) (target : ClockIdentity) (ports first : ℕ) (s : SessionValue)
    → IsConsistent s
    → SessionFits s
    → is_setup_of me target ports first s.setup ≡ true
    → restore_refusal me target ports first (session_image s) ≡ None
unfolding restore_refusal
permitted me target ports first s c fits same =
    let of : is_setup_of me target ports first (setup_at (session_image s)) ≡ true =
    ap (λ (t : SessionValue). is_setup_of me target ports first t.setup) (image_back s c fits) ∙ same in
    rw (head_none s.setup s.domain s.issued s.reported s.unanswered, image_true s c fits, of) refl
