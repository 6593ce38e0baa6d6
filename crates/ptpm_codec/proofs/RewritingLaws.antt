-- Octets that are written over in a spelling: in any one boundaryHops, and in a canonical one all that differ between copies of a
-- reply.
use Rattle.std.proofs.Common.{◌≡◌, ◌≢◌, ℕ, ◌+◌, ◌-◌, ◌*◌, ◌%◌, ◌/◌, ◌<◌, ◌≤◌, ◌^◌, List, length, take, drop, Some, refl, sym, ap, subst, ◌∙◌, arith}
use Rattle.std.proofs.lemmas.List.{drop-set-add, drop-set-lt, take-set-le, get_or-set_same, get_or-set_other, length-set, length-drop, take_all}
use Rattle.std.specs.Prelude.{slice_set}
use Rattle.ptpm_codec.specs.declared.message.Body.{Body}
use Rattle.ptpm_codec.specs.declared.message.Body.TheVariants as bodies
use Rattle.ptpm_codec.specs.declared.message.Message.{Message}
use Rattle.ptpm_codec.specs.Layout as layout
use Rattle.ptpm_codec.specs.Layout.{octet, number_at, clock_identity_at, port_identity_at, message_octets}
use Rattle.ptpm_codec.specs.Message.{Fits}
use Rattle.ptpm_codec.specs.Spelling.{Spells, SpellsBody, SpellsManagement}
use Rattle.ptpm_codec.specs.Canonical.{canonical, port_identity_octets}
use Rattle.ptpm_codec.specs.Reading.{message_of}
use Rattle.ptpm_codec.proofs.OctetLaws.{octet-take, number_at-octets}
use Rattle.ptpm_codec.proofs.ReadingLaws.{message_size, message_of-some, message_of-spells, spells-message_of}
use Rattle.ptpm_codec.proofs.CanonicalLaws.{by_clocks, continues_with}

abbrev with_source_port : Message → ℕ → Message
with_source_port v port = record v { source = record { clock = v.source.clock; port = port } }

pub set_domain : (v : Message) (n : ℕ)
    → slice_set (canonical v) 4 n ≡ canonical (record v { domain = n })
set_domain v n = refl

pub set_starting_hops : (v : Message) (n : ℕ)
    → Fits v
    → slice_set (canonical v) 44 n ≡ canonical (record v { starting_hops = n })
unfolding port_identity_octets
set_starting_hops v n fits =
    by_clocks (λ w. slice_set (canonical w) 44 n ≡ canonical (record w { starting_hops = n })) v fits (λ a b c d e f g h a' b' c' d' e' f' g' h'. refl)

pub set_hops : (v : Message) (n : ℕ)
    → Fits v
    → slice_set (canonical v) 45 n ≡ canonical (record v { hops = n })
unfolding port_identity_octets
set_hops v n fits =
    by_clocks (λ w. slice_set (canonical w) 45 n ≡ canonical (record w { hops = n })) v fits (λ a b c d e f g h a' b' c' d' e' f' g' h'. refl)

-- in two octets, the higher first
set_source_port_to : (v : Message) (n high low : ℕ) → Fits v → high ≡ n / 256 % 256 → low ≡ n % 256
    → slice_set (slice_set (canonical v) 28 high) 29 low ≡ canonical (with_source_port v n)
unfolding port_identity_octets
set_source_port_to v n high low fits first second =
    by_clocks (λ w. slice_set (slice_set (canonical w) 28 high) 29 low ≡ canonical (with_source_port w n)) v fits
    (λ a b c d e f g h a' b' c' d' e' f' g' h'. rw (first, second) refl)

pub set_source_port : (v : Message) (high low : ℕ) → Fits v → high < 256 → low < 256
    → slice_set (slice_set (canonical v) 28 high) 29 low
    ≡ canonical (with_source_port v (high * 256 + low))
set_source_port v high low fits p q = set_source_port_to v (high * 256 + low) high low fits (omega arith) (omega arith)

-- the message from another port, in another domain and with other hops
abbrev pub renewed : Message → ℕ → ℕ → ℕ → ℕ → Message
renewed v domain port starting_hops hops = record v {
  domain = domain;
  source = record { clock = v.source.clock; port = port };
  starting_hops = starting_hops;
  hops = hops;
}

pub set_all : (v : Message) (domain port starting_hops hops : ℕ) → Fits v → port < 2 ^ 16
    → slice_set
    (slice_set
    (slice_set (slice_set (slice_set (canonical v) 4 domain) 28 (port / 256)) 29
    (port % 256)) 44 starting_hops) 45 hops
    ≡ canonical (renewed v domain port starting_hops hops)
unfolding port_identity_octets
set_all v domain port starting_hops hops fits low =
    let high : port / 256 % 256 ≡ port / 256 = omega arith in
    by_clocks (λ w. slice_set (slice_set (slice_set (slice_set (slice_set (canonical w) 4 domain) 28 (port / 256)) 29 (port % 256)) 44 starting_hops) 45 hops
    ≡ canonical (renewed w domain port starting_hops hops)) v fits
    (λ a b c d e f g h a' b' c' d' e' f' g' h'. rw high refl)

-- ---- boundaryHops written over in any spelling

number_at-set : (place i n : ℕ) (m : List ℕ)
    → place ≢ i
    → place + 1 ≢ i
    → number_at place (slice_set m i n) ≡ number_at place m
number_at-set place i n m p q = grind (arith, get_or-set_other, number_at-octets)

-- an octet after the identity
port_identity_at-set : (place k n : ℕ) (m : List ℕ)
    → 10 ≤ k
    → port_identity_at place (slice_set m (place + k) n) ≡ port_identity_at place m
unfolding port_identity_at clock_identity_at
port_identity_at-set place k n m behind = grind (arith, drop-set-add, take-set-le, number_at-set)

pub set_hops-source : (m : List ℕ) (n : ℕ)
    → layout.source_port_identity (slice_set m 45 n) ≡ layout.source_port_identity m
set_hops-source m n = port_identity_at-set 20 25 n m (omega arith)

pub set_hops-target : (m : List ℕ) (n : ℕ)
    → layout.target_port_identity (slice_set m 45 n) ≡ layout.target_port_identity m
set_hops-target m n = port_identity_at-set 34 11 n m (omega arith)

pub set_hops-number : (m : List ℕ) (n : ℕ)
    → layout.sequence_id (slice_set m 45 n) ≡ layout.sequence_id m
set_hops-number m n = number_at-set 30 45 n m (λ e. omega arith) (λ e. omega arith)

pub set_hops-behind : (m : List ℕ) (n : ℕ) → drop 46 (slice_set m 45 n) ≡ drop 46 m
set_hops-behind m n = drop-set-lt 46 m 45 n (omega arith)

-- lists that are the same from octet 48 on spell the same bodies
record SameTlv (m k : List ℕ) : Type 0 where
  tlv_type : layout.tlv_type k ≡ layout.tlv_type m
  first_id : layout.management_id k ≡ layout.management_id m
  second_id : layout.refused_id k ≡ layout.refused_id m
  data_field : layout.data_field k ≡ layout.data_field m
  display_data : layout.display_data k ≡ layout.display_data m
  whole : length k ≡ length m

same_tlv : (m k : List ℕ)
    → 48 ≤ length m
    → drop 48 k ≡ drop 48 m
    → length k ≡ length m
    → SameTlv m k
same_tlv m k low same whole =
    let size : length m ≡ 48 + length (drop 48 m) = omega (arith, length-drop 48 m) in
    let before = continues_with (drop 48 m) m refl size in
    let after = continues_with (drop 48 m) k same (whole ∙ size) in grind arith

management_kept : (id : ℕ) (octets m k : List ℕ)
    → SameTlv m k
    → SpellsManagement id octets m
    → SpellsManagement id octets k
management_kept id octets m k same s = record {
  type = same.tlv_type ∙ s.type;
  id_is = s.id_is ∙ sym same.first_id;
  octets_are = s.octets_are ∙ sym same.data_field;
  even = omega (arith, s.even, same.whole);
}

body_kept : (x : Body) (m k : List ℕ) → SameTlv m k → SpellsBody x m → SpellsBody x k
body_kept (bodies.Request action id octets) m k same (asks, s) = (asks, management_kept id octets m k same s)
body_kept (bodies.Answer action id octets) m k same (answers, s) = (answers, management_kept id octets m k same s)
body_kept (bodies.Fault action error id text) m k same (answers, s) = (
  answers,
  record {
    type = same.tlv_type ∙ s.type;
    error_is = s.error_is ∙ sym same.first_id;
    id_is = s.id_is ∙ sym same.second_id;
    whole = omega (arith, s.whole, same.whole);
    text_is = rw same.display_data s.text_is;
  },
)

set_hops-spelled : (v : Message) (m : List ℕ) (n : ℕ)
    → Spells v m
    → Spells (record v { hops = n }) (slice_set m 45 n)
set_hops-spelled v m n s =
    let k = slice_set m 45 n in
    let size : length k ≡ length m = length-set m 45 n in
    let kept : (i : ℕ) → i ≢ 45 → octet i k ≡ octet i m = λ i other. get_or-set_other m 45 i n 0 other in
    let length_field = number_at-set 50 45 n m (λ e. omega arith) (λ e. omega arith) in
    record {
      at_least = rw size s.at_least;
      at_most = rw size s.at_most;
      message_type = rw (kept 0 (λ e. omega arith)) s.message_type;
      version_ptp = rw (kept 1 (λ e. omega arith)) s.version_ptp;
      message_length = grind (arith, number_at-set);
      sdo = grind arith;
      domain = rw (kept 4 (λ e. omega arith)) s.domain;
      source = s.source ∙ sym (set_hops-source m n);
      number = s.number ∙ sym (set_hops-number m n);
      target = s.target ∙ sym (set_hops-target m n);
      starting_hops = rw (kept 44 (λ e. omega arith)) s.starting_hops;
      hops = grind (arith, get_or-set_same);
      action = rw (kept 46 (λ e. omega arith)) s.action;
      length_field = omega (arith, length_field, s.length_field, size);
      body = body_kept v.body m k (same_tlv m k (omega (arith, s.at_least)) (drop-set-lt 48 m 45 n (omega arith)) size) s.body;
    }

-- the octets of a message are their own message
message_octets-whole : (v : Message) (m : List ℕ) → Spells v m → message_octets m ≡ m
message_octets-whole v m s = ap (λ n. take n m) s.message_length ∙ take_all (length m) m (omega arith)

pub less_hop_message : (v : Message) (d : List ℕ) → message_of d ≡ Some v
    → message_of (slice_set (message_octets d) 45 (layout.boundary_hops d - 1))
    ≡ Some (record v { hops = v.hops - 1 })
less_hop_message v d e =
    let m = message_octets d in
    let s = message_of-spells v d e in
    let size = message_size d (message_of-some d v e).0 in
    let low = size.0 in
    let hops : v.hops ≡ layout.boundary_hops d = grind (arith, octet-take) in
    let lowered = set_hops-spelled v m (v.hops - 1) s in
    let k = slice_set m 45 (v.hops - 1) in
    let whole = message_octets-whole (record v { hops = v.hops - 1 }) k lowered in
    let read = spells-message_of (record v { hops = v.hops - 1 }) k (subst (λ x. Spells (record v { hops = v.hops - 1 }) x) (sym whole) lowered) in grind arith
