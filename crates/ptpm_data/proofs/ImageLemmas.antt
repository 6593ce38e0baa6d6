-- An image gives back the values that it is of.
use Rattle.std.proofs.Common.{arith, ◌≡◌, ◌∙◌, ap, refl, sym, ℕ, zero, suc, ◌+◌, ◌*◌, ◌^◌, ◌<◌, ◌≤◌, Bool, true, false, List, [], ◌∷◌, ◌++◌, append_assoc, length, length-append, get_or, map, take, drop, ℤ, pos, negsuc}
use Rattle.std.specs.Prelude.{FitsSigned, not, ◌==◌}
use Rattle.std.specs.Int.{cast_signed, cast_unsigned, from_bool, w8, w16, w32, w64}
use Rattle.std.specs.List.{All, flat_map}
use Rattle.std.proofs.lemmas.Int.{to_z-of_z}
use Rattle.std.proofs.lemmas.List.{append-nil, drop-drop, drop_at, map-append, take_at, take_more}
use Rattle.std.proofs.lemmas.List.Concat.{flat_map-append}
use Rattle.std.proofs.lemmas.List.Elements.{All-get_or}
use Rattle.byteorder.specs.Endian.{big_bytes, big_number}
use Rattle.byteorder.specs.Numbers.{big_number-reads_back}
use Rattle.ptpm_codec.specs.Canonical.{port_identity_octets}
use Rattle.ptpm_codec.specs.Layout.{clock_identity_at, number_at, port_identity_at}
use Rattle.ptpm_codec.proofs.CanonicalLaws.{by_eight}
use Rattle.ptpm_data.specs.declared.data_sets.CurrentDataSet.{CurrentDataSet}
use Rattle.ptpm_data.specs.declared.data_sets.DefaultDataSet.{DefaultDataSet}
use Rattle.ptpm_data.specs.declared.data_sets.ParentDataSet.{ParentDataSet}
use Rattle.ptpm_data.specs.declared.data_sets.PortDataSet.{PortDataSet}
use Rattle.ptpm_data.specs.declared.data_sets.TimePropertiesDataSet.{TimePropertiesDataSet}
use Rattle.ptpm_data.specs.declared.start.PortStart.{PortStart}
use Rattle.ptpm_data.specs.DataField.{current_data_field, i16_octets, i32_octets, i64_octets, i8_octet, precedence_octets}
use Rattle.ptpm_data.specs.Image.{CurrentFits, DefaultFits, DataSetsFit, ParentFits, PortFits, TimeFits, clock_image, data_sets_octets, default_image, parent_image, port_image, ports_image, time_image}
use Rattle.ptpm_data.specs.ImageReading.{clock_read, current_read, default_read, flag_at, i16_at, i32_at, i64_at, i8_at, parent_read, port_read, port_start, precedence_at, clock_start, time_read}
use Rattle.ptpm_data.specs.Members.{DataSetsValue}
use Rattle.ptpm_data.specs.PortSetting.{said_by, settings_octets}
use Rattle.ptpm_data.specs.PortState.{state_number}
use Rattle.ptpm_data.specs.Start.{port_start_with}
use Rattle.ptpm_data.proofs.SettingLemmas.{settings_back}

-- ---- numbers

below_16 : (z : ℤ) → FitsSigned w16 z → cast_unsigned w16 z < 2 ^ 16
below_16 (pos n) fits = omega arith
below_16 (negsuc n) fits = omega arith

below_32 : (z : ℤ) → FitsSigned w32 z → cast_unsigned w32 z < 2 ^ 32
below_32 (pos n) fits = omega arith
below_32 (negsuc n) fits = omega arith

below_64 : (z : ℤ) → FitsSigned w64 z → cast_unsigned w64 z < 2 ^ 64
below_64 (pos n) fits = omega arith
below_64 (negsuc n) fits = omega arith

u16_back : (n : ℕ) (rest : List ℕ) → n < 2 ^ 16 → big_number 2 (big_bytes 2 n ++ rest) ≡ n
u16_back n rest small = big_number-reads_back 2 n rest small

i16_back : (z : ℤ) (rest : List ℕ) → FitsSigned w16 z
    → cast_signed w16 (big_number 2 (big_bytes 2 (cast_unsigned w16 z) ++ rest)) ≡ z
i16_back z rest fits = ap (cast_signed w16) (big_number-reads_back 2 _ rest (below_16 z fits)) ∙ to_z-of_z w16 z fits

i32_back : (z : ℤ) (rest : List ℕ) → FitsSigned w32 z
    → cast_signed w32 (big_number 4 (big_bytes 4 (cast_unsigned w32 z) ++ rest)) ≡ z
i32_back z rest fits = ap (cast_signed w32) (big_number-reads_back 4 _ rest (below_32 z fits)) ∙ to_z-of_z w32 z fits

i64_back : (z : ℤ) (rest : List ℕ) → FitsSigned w64 z
    → cast_signed w64 (big_number 8 (big_bytes 8 (cast_unsigned w64 z) ++ rest)) ≡ z
i64_back z rest fits = ap (cast_signed w64) (big_number-reads_back 8 _ rest (below_64 z fits)) ∙ to_z-of_z w64 z fits

flag_back : (b : Bool) → not (from_bool b == 0) ≡ b
flag_back true = refl
flag_back false = refl

-- ---- identities, octet by octet

-- ---- a data set

default_back : (d : DefaultDataSet) → DefaultFits d → default_read (default_image d) ≡ d
unfolding default_read default_image precedence_octets clock_identity_at precedence_at number_at flag_at
default_back d fits =
    let flag = flag_back d.two_step in
    let variance = u16_back d.precedence.variance (d.precedence.priority2 ∷ []) fits.variance in
    by_eight (λ xs. let e : DefaultDataSet = record d { identity = record { 0 = xs } } in default_read (default_image e) ≡ e)
    (λ a b c x e f g h i. record {
      identity = record { 0 = a ∷ b ∷ c ∷ x ∷ e ∷ f ∷ g ∷ h ∷ [] };
      domain = d.domain;
      two_step = flag i;
      precedence = record d.precedence { variance = variance i };
    })
    d.identity.0 fits.identity

current_back : (c : CurrentDataSet) → CurrentFits c → current_read (current_data_field c) ≡ c
unfolding current_read current_data_field i64_octets number_at i64_at
current_back c fits =
    let steps = u16_back c.steps_removed (i64_octets c.offset_from_master ++ i64_octets c.mean_path_delay) fits.steps_removed in
    let offset = i64_back c.offset_from_master (i64_octets c.mean_path_delay) fits.offset_from_master in
    let delay = i64_back c.mean_path_delay [] fits.mean_path_delay in
    λ i. record { steps_removed = steps i; offset_from_master = offset i; mean_path_delay = delay i }

parent_back : (p : ParentDataSet) → ParentFits p → parent_read (parent_image p) ≡ p
unfolding parent_read parent_image i32_octets precedence_octets port_identity_octets port_identity_at clock_identity_at precedence_at number_at flag_at i32_at
parent_back p fits =
    let port = u16_back p.parent_port.port [] fits.parent_port.port in
    let flag = flag_back p.parent_stats in
    let observed = u16_back p.observed_variance [] fits.observed_variance in
    let rate = i32_back p.observed_rate [] fits.observed_rate in
    let variance = u16_back p.precedence.variance [] fits.variance in
    by_eight (λ xs. let q : ParentDataSet = record p { parent_port = record { clock = record { 0 = xs }; port = p.parent_port.port } } in parent_read (parent_image q) ≡ q)
    (λ a b c d e f g h.
    by_eight (λ xs. let q : ParentDataSet = record p {
      parent_port = record { clock = record { 0 = a ∷ b ∷ c ∷ d ∷ e ∷ f ∷ g ∷ h ∷ [] }; port = p.parent_port.port };
      grandmaster = record { 0 = xs };
    } in parent_read (parent_image q) ≡ q)
    (λ k l m n o q r s i. record {
      parent_port = record { clock = record { 0 = a ∷ b ∷ c ∷ d ∷ e ∷ f ∷ g ∷ h ∷ [] }; port = port i };
      parent_stats = flag i;
      observed_variance = observed i;
      observed_rate = rate i;
      grandmaster = record { 0 = k ∷ l ∷ m ∷ n ∷ o ∷ q ∷ r ∷ s ∷ [] };
      precedence = record p.precedence { variance = variance i };
    })
    p.grandmaster.0 fits.grandmaster)
    p.parent_port.clock.0 fits.parent_port.clock

time_back : (t : TimePropertiesDataSet) → TimeFits t → time_read (time_image t) ≡ t
unfolding time_read time_image i16_octets i16_at flag_at
time_back t fits =
    let offset = i16_back t.utc_offset [] fits in
    let leap61 = flag_back t.leap61 in
    let leap59 = flag_back t.leap59 in
    let valid = flag_back t.utc_valid in
    let scale = flag_back t.ptp_timescale in
    let time = flag_back t.time_traceable in
    let frequency = flag_back t.frequency_traceable in
    λ i. record {
      utc_offset = offset i;
      leap61 = leap61 i;
      leap59 = leap59 i;
      utc_valid = valid i;
      ptp_timescale = scale i;
      time_traceable = time i;
      frequency_traceable = frequency i;
      time_source = t.time_source;
    }

pub port_back : (p : PortDataSet) → PortFits p → port_read (port_image p) ≡ port_start p
unfolding port_read port_image i64_octets i8_octet i64_at i8_at
port_back p fits =
    let delay_req = to_z-of_z w8 p.log_min_delay_req fits.log_min_delay_req in
    let delay = i64_back p.peer_delay [] fits.peer_delay in
    let settings : said_by (settings_octets p.settings) ≡ p.settings = λ i s. settings_back p.settings fits.settings s i in
    λ i. port_start_with (state_number p.state) (delay_req i) (delay i) (settings i)

-- ---- how many octets there are

default_length : (d : DefaultDataSet) → DefaultFits d → length (default_image d) ≡ 16
unfolding default_image precedence_octets
default_length d fits = let identity = fits.identity in simp length-append (omega arith)

current_length : (c : CurrentDataSet) → length (current_data_field c) ≡ 18
unfolding current_data_field i64_octets
current_length c = refl

parent_length : (p : ParentDataSet) → ParentFits p → length (parent_image p) ≡ 31
unfolding parent_image i32_octets precedence_octets port_identity_octets
parent_length p fits =
    let port = fits.parent_port.clock in
    let grandmaster = fits.grandmaster in
    simp length-append (omega arith)

time_length : (t : TimePropertiesDataSet) → length (time_image t) ≡ 9
unfolding time_image i16_octets
time_length t = refl

pub port_length : (p : PortDataSet) → length (port_image p) ≡ 15
unfolding port_image i64_octets
port_length p = refl

pub ports_length : (ports : List PortDataSet) → length (ports_image ports) ≡ length ports * 15
unfolding ports_image
ports_length [] = refl
ports_length (p ∷ ports) = omega (arith, length-append (port_image p) (flat_map port_image ports), port_length p, ports_length ports)

pub clock_length : (d : DataSetsValue) → DataSetsFit d → length (clock_image d) ≡ 74
unfolding clock_image
clock_length d fits =
    let a = default_length d.default fits.default in
    let b = current_length d.current in
    let c = parent_length d.parent fits.parent in
    let e = time_length d.time in
    simp length-append (omega arith)

pub image_length : (d : DataSetsValue)
    → DataSetsFit d
    → length (data_sets_octets d) ≡ 74 + 1 + length d.description + 1 + 15 * length d.ports
unfolding data_sets_octets
image_length d fits =
    omega (
      arith,
      length-append (clock_image d ++ length d.description ∷ d.description) (length d.ports ∷ ports_image d.ports),
      length-append (clock_image d) (length d.description ∷ d.description),
      clock_length d fits,
      ports_length d.ports,
    )

-- ---- the clock's octets

clock_parts : (d : DataSetsValue) → clock_image d ≡ default_image d.default ++ (current_data_field d.current ++ (parent_image d.parent ++ time_image d.time))
unfolding clock_image
clock_parts d = simp append_assoc

pub clock_back : (d : DataSetsValue) (text : List ℕ)
    → DataSetsFit d
    → clock_read (clock_image d) text ≡ clock_start d.default text d.current d.parent d.time
unfolding clock_read
clock_back d text fits =
    let default = default_image d.default in
    let current = current_data_field d.current in
    let parent = parent_image d.parent in
    let time = time_image d.time in
    let a = default_length d.default fits.default in
    let b = current_length d.current in
    let c = parent_length d.parent fits.parent in
    let all = clock_parts d in
    let behind : drop 16 (clock_image d) ≡ current ++ (parent ++ time) = ap (drop 16) all ∙ drop_at default _ 16 a in
    let last : drop 18 (drop 16 (clock_image d)) ≡ parent ++ time = ap (drop 18) behind ∙ drop_at current _ 18 b in
    let of_default = ap (λ (xs : List ℕ). default_read (take 16 xs)) all ∙ ap default_read (take_at default _ 16 a) ∙ default_back d.default fits.default in
    let of_current = ap (λ (xs : List ℕ). current_read (take 18 xs)) behind ∙ ap current_read (take_at current _ 18 b) ∙ current_back d.current fits.current in
    let of_parent = ap (λ (xs : List ℕ). parent_read (take 31 xs)) last ∙ ap parent_read (take_at parent _ 31 c) ∙ parent_back d.parent fits.parent in
    let of_time = ap (λ (xs : List ℕ). time_read (drop 31 xs)) last ∙ ap time_read (drop_at parent _ 31 c) ∙ time_back d.time fits.time in
    λ i. clock_start (of_default i) text (of_current i) (of_parent i) (of_time i)

-- ---- the whole, cut at its counts

pub image_parts : (d : DataSetsValue) (rest : List ℕ)
    → data_sets_octets d ++ rest
    ≡ clock_image d ++ length d.description ∷ (d.description ++ length d.ports ∷ (ports_image d.ports ++ rest))
unfolding data_sets_octets
image_parts d rest = simp append_assoc

-- the place at which the clock's octets end, in octets that begin with an image
pub record IsBehind (d : DataSetsValue) (octets rest : List ℕ) : Type 0 where
  pub long : 74 ≤ length octets
  pub front : take 74 octets ≡ clock_image d
  pub text : drop 74 octets ≡ length d.description ∷ (d.description ++ length d.ports ∷ (ports_image d.ports ++ rest))

pub behind_clock : (d : DataSetsValue) (octets rest : List ℕ)
    → DataSetsFit d
    → octets ≡ data_sets_octets d ++ rest
    → IsBehind d octets rest
behind_clock d octets rest fits is =
    let all = is ∙ image_parts d rest in
    let size = clock_length d fits in
    let behind : List ℕ = length d.description ∷ (d.description ++ length d.ports ∷ (ports_image d.ports ++ rest)) in
    record {
      long = omega (arith, ap length all, length-append (clock_image d) behind);
      front = ap (take 74) all ∙ take_at (clock_image d) behind 74 size;
      text = ap (drop 74) all ∙ drop_at (clock_image d) behind 74 size;
    }

-- ---- ports

chunk_back : (ports : List PortDataSet) (place : ℕ) (p : PortDataSet)
    → place < length ports
    → take 15 (drop (15 * place) (ports_image ports)) ≡ port_image (get_or ports place p)
unfolding ports_image
chunk_back [] place p below = absurd (omega arith)
chunk_back (x ∷ ports) zero p below = take_at (port_image x) (flat_map port_image ports) 15 (port_length x)
chunk_back (x ∷ ports) (suc place) p below =
    let front : drop 15 (port_image x ++ flat_map port_image ports) ≡ flat_map port_image ports = drop_at (port_image x) (flat_map port_image ports) 15 (port_length x) in
    let steps : 15 * suc place ≡ 15 + 15 * place = omega arith in
    ap (λ (n : ℕ). take 15 (drop n (port_image x ++ flat_map port_image ports))) steps
    ∙ ap (take 15) (sym (drop-drop (15 * place) 15 (port_image x ++ flat_map port_image ports)) ∙ ap (drop (15 * place)) front)
    ∙ chunk_back ports place p (omega arith)

pub port_at_place : (ports : List PortDataSet) (place : ℕ) (p : PortDataSet)
    → All PortFits ports
    → place < length ports
    → port_read (take 15 (drop (15 * place) (ports_image ports))) ≡ port_start (get_or ports place p)
port_at_place ports place p fits below =
    ap port_read (chunk_back ports place p below) ∙ port_back _ (All-get_or PortFits ports place p below fits)

pub ports_more : (ports : List PortDataSet) (place : ℕ) (p : PortDataSet)
    → place < length ports
    → ports_image (take (place + 1) ports) ≡ ports_image (take place ports) ++ port_image (get_or ports place p)
unfolding ports_image
ports_more ports place p below =
    ap (flat_map port_image) (take_more ports place p below) ∙ flat_map-append port_image (take place ports) (get_or ports place p ∷ [])
    ∙ ap (λ (xs : List ℕ). flat_map port_image (take place ports) ++ xs) (append-nil (port_image (get_or ports place p)))

-- the start values of one more port
pub starts_more : (ports : List PortDataSet) (octets : List ℕ) (place : ℕ) (p : PortDataSet) (starts : List PortStart) (start : PortStart)
    → All PortFits ports
    → octets ≡ ports_image ports
    → place < length ports
    → starts ≡ map port_start (take place ports)
    → start ≡ port_read (take 15 (drop (15 * place) octets))
    → starts ++ start ∷ [] ≡ map port_start (take (place + 1) ports)
starts_more ports octets place p starts start fits is below before made =
    let here : start ≡ port_start (get_or ports place p) =
    made ∙ ap (λ (xs : List ℕ). port_read (take 15 (drop (15 * place) xs))) is ∙ port_at_place ports place p fits below in
    (λ i. before i ++ here i ∷ [])
    ∙ sym (ap (map port_start) (take_more ports place p below) ∙ map-append port_start (take place ports) (get_or ports place p ∷ []))
