-- Consistent data sets are read back from their image, and no two have the same octets.
use Rattle.std.proofs.Common.{arith, ◌≡◌, ◌∙◌, ap, refl, ℕ, ◌≤◌, nat_lt, Bool, true, false, List, [], ◌∷◌, length, map, Option, Some, None, Ok, is_some, unwrap_or, sym, ◌*◌, ◌++◌}
use Rattle.std.specs.List.{All, flat_map}
use Rattle.std.proofs.lemmas.Bool.{and_from, eq-eqb}
use Rattle.std.proofs.lemmas.Bool.Decides.{nat_tests}
use Rattle.std.proofs.lemmas.List.{length-map}
use Rattle.std.proofs.lemmas.List.Elements.{All-head, All-tail}
use Rattle.ptpm_data.specs.declared.data_sets.ClockPrecedence.{ClockPrecedence}
use Rattle.ptpm_data.specs.declared.data_sets.DefaultDataSet.{DefaultDataSet}
use Rattle.ptpm_data.specs.declared.data_sets.ParentDataSet.{ParentDataSet}
use Rattle.ptpm_data.specs.declared.data_sets.PortDataSet.{PortDataSet}
use Rattle.ptpm_data.specs.declared.members.Member.{Member}
use Rattle.ptpm_data.specs.declared.port_state.PortState.{PortState}
use Rattle.ptpm_data.specs.declared.start.ClockStart.{ClockStart}
use Rattle.ptpm_data.specs.declared.start.PortStart.{PortStart}
use Rattle.ptpm_data.specs.Image.{DataSetsFit, PortFits, clock_image, data_sets_octets, port_image, ports_image}
use Rattle.ptpm_data.specs.ImageReading.{IsSplit, clock_read, port_start, start_of_sets, port_read}
use Rattle.ptpm_data.specs.Members.{DataSetsValue, IsConsistent, IsPortInRange, is_grandmaster, is_same_precedence}
use Rattle.ptpm_data.specs.PortState.{state_number, state_of}
use Rattle.ptpm_data.specs.Ranges.{is_in_range}
use Rattle.ptpm_data.specs.Start.{clock_fault, count_fault, grandmaster_fault, is_in_port_range, judged_of_port, port_data_set, port_fault, ports_fault, start_settings, start_within}
use Rattle.ptpm_data.proofs.ImageLemmas.{clock_back, clock_length, image_parts, port_back, port_length, ports_length}
use Rattle.ptpm_data.proofs.SettingLemmas.{settings_restart}
use Rattle.ptpm_data.proofs.StartLemmas.{description_small, none_out}
use Rattle.ptpm_data.specs.declared.ports.TheConstants.{PORTS}
use Rattle.ptpm_data.proofs.PlainMap.{same_front}
use Rattle.ptpm_data.specs.declared.members.Member.TheVariants as members
use Rattle.ptpm_data.specs.declared.port_state.PortState.TheVariants as states

-- ---- the start that gives each member of consistent data sets its value has no fault, and starts with these data sets

-- ---- states by their numbers

state_back : (s : PortState) → state_of (state_number s) ≡ Some s
state_back states.Initializing = refl
state_back states.Faulty = refl
state_back states.Disabled = refl
state_back states.Listening = refl
state_back states.PreMaster = refl
state_back states.Master = refl
state_back states.Passive = refl
state_back states.Uncalibrated = refl
state_back states.Slave = refl

-- ---- ports

settings_again : (p : PortDataSet) → IsPortInRange p → start_settings (port_start p) ≡ p.settings
settings_again p range = λ i s. settings_restart (state_number p.state) p.log_min_delay_req p.peer_delay p.settings range.settings s i

port_restarts : (p : PortDataSet) → IsPortInRange p → port_data_set (port_start p) ≡ p
port_restarts p range =
    let state = ap (λ (o : Option PortState). unwrap_or o states.Initializing) (state_back p.state) in
    let settings = settings_again p range in
    λ i. record p { state = state i; settings = settings i }

pub ports_restart : (ports : List PortDataSet) → All IsPortInRange ports → map port_data_set (map port_start ports) ≡ ports
ports_restart [] ranges = refl
ports_restart (p ∷ ports) ranges =
    let here = port_restarts p (All-head IsPortInRange p ports ranges) in
    let rest = ports_restart ports (All-tail IsPortInRange p ports ranges) in
    λ i. here i ∷ rest i

port_in : (p : PortDataSet) → IsPortInRange p → (m : Member) → is_in_port_range (port_start p) m ≡ true
port_in p range members.State = ap is_some (state_back p.state)
port_in p range (members.Setting s) = ap (λ values. is_in_range s (values s)) (settings_again p range) ∙ range.settings s
port_in p range m = refl

port_faultless : (p : PortDataSet) → IsPortInRange p → port_fault (port_start p) ≡ None
unfolding port_fault
port_faultless p range = none_out (is_in_port_range (port_start p)) judged_of_port (port_in p range)

ports_faultless : (ports : List PortDataSet) → All IsPortInRange ports → ports_fault (map port_start ports) ≡ None
unfolding ports_fault
ports_faultless [] ranges = refl
ports_faultless (p ∷ ports) ranges =
    rw (port_faultless p (All-head IsPortInRange p ports ranges)) (ports_faultless ports (All-tail IsPortInRange p ports ranges))

-- ---- the clock

count_faultless : (most n : ℕ) → 1 ≤ n → n ≤ most → count_fault most n ≡ None
unfolding count_fault
count_faultless most n some few = grind (arith, nat_lt, nat_tests)

clock_faultless : (d : DataSetsValue) → IsConsistent d → clock_fault (start_of_sets d) ≡ None
unfolding clock_fault
clock_faultless d c = rw (c.identity, c.description, c.accuracy, c.leaps) refl

pub precedence_same : (p : ClockPrecedence) → is_same_precedence p p ≡ true
precedence_same p = grind (arith, and_from, eq-eqb)

grandmaster_by : (b : Bool) (default : DefaultDataSet) (parent : ParentDataSet)
    → is_grandmaster default parent ≡ b
    → (is_grandmaster default parent ≡ true → parent.precedence ≡ default.precedence)
    → grandmaster_fault default parent ≡ None
unfolding grandmaster_fault
grandmaster_by false default parent is own = rw is refl
grandmaster_by true default parent is own =
    let same : is_same_precedence parent.precedence default.precedence ≡ true =
    ap (λ (p : ClockPrecedence). is_same_precedence p default.precedence) (own is) ∙ precedence_same default.precedence in
    rw (is, same) refl

grandmaster_faultless : (default : DefaultDataSet) (parent : ParentDataSet)
    → (is_grandmaster default parent ≡ true → parent.precedence ≡ default.precedence)
    → grandmaster_fault default parent ≡ None
grandmaster_faultless default parent own = grandmaster_by (is_grandmaster default parent) default parent refl own

-- ---- the whole

pub restarts : (most : ℕ) (d : DataSetsValue) → IsConsistent d → length d.ports ≤ most
    → start_within most (start_of_sets d) (map port_start d.ports) ≡ Ok d
unfolding start_within
restarts most d c few =
    let size : length (map port_start d.ports) ≡ length d.ports = length-map d.ports port_start in
    let count : count_fault most (length (map port_start d.ports)) ≡ None = ap (count_fault most) size ∙ count_faultless most _ c.some_port few in
    let clock = clock_faultless d c in
    let ports = ports_faultless d.ports c.ports in
    let grandmaster = grandmaster_faultless d.default d.parent c.grandmaster in
    let again = ports_restart d.ports c.ports in
    rw (count, clock, ports, grandmaster) (λ i. Ok (record d { ports = again i }))

-- ---- what is read of an image

pub text_small : (d : DataSetsValue) (octets text ports : List ℕ)
    → IsConsistent d
    → IsSplit d octets text ports
    → length text ≤ 129
text_small d octets text ports c split =
    let small = description_small d.description c.description in
    let size = ap length split.description in omega arith

pub reads_back : (most : ℕ) (d : DataSetsValue) (octets text ports : List ℕ) (start : ClockStart) (starts : List PortStart)
    → IsConsistent d
    → DataSetsFit d
    → IsSplit d octets text ports
    → Some start ≡ Some (clock_read octets text)
    → starts ≡ map port_start d.ports
    → length d.ports ≤ most
    → start_within most start starts ≡ Ok d
reads_back most d octets text ports start starts c fits split made by_port few =
    let read : start ≡ clock_read octets text = cc in
    let clock : start ≡ start_of_sets d = read ∙ (λ i. clock_read (split.clock i) (split.description i)) ∙ clock_back d d.description fits in
    (λ i. start_within most (clock i) (by_port i)) ∙ restarts most d c few

-- ---- no two data sets have the same octets

same_ports : (ps qs : List PortDataSet)
    → All PortFits ps
    → All PortFits qs
    → length ps ≡ length qs
    → ports_image ps ≡ ports_image qs
    → map port_start ps ≡ map port_start qs
unfolding ports_image
same_ports [] [] left right size e = refl
same_ports [] (q ∷ qs) left right size e = absurd (omega arith)
same_ports (p ∷ ps) [] left right size e = absurd (omega arith)
same_ports (p ∷ ps) (q ∷ qs) left right size e =
    let parts = same_front (port_image p) (port_image q) (flat_map port_image ps) (flat_map port_image qs) (port_length p ∙ sym (port_length q)) e in
    let here : port_start p ≡ port_start q =
    sym (port_back p (All-head PortFits p ps left)) ∙ ap port_read parts.0 ∙ port_back q (All-head PortFits q qs right) in
    let rest = same_ports ps qs (All-tail PortFits p ps left) (All-tail PortFits q qs right) (omega arith) parts.1 in
    λ i. here i ∷ rest i

same_heads : (m n : ℕ) (xs ys : List ℕ) → m ∷ xs ≡ n ∷ ys → (m ≡ n) × (xs ≡ ys)
same_heads m n xs ys e = let first : m ≡ n = cc in let rest : xs ≡ ys = cc in (first, rest)

same_sets : (d e : DataSetsValue)
    → IsConsistent d
    → IsConsistent e
    → start_of_sets d ≡ start_of_sets e
    → map port_start d.ports ≡ map port_start e.ports
    → d ≡ e
same_sets d e left right clock ports =
    let starts : start_within PORTS (start_of_sets d) (map port_start d.ports) ≡ start_within PORTS (start_of_sets e) (map port_start e.ports) =
    λ i. start_within PORTS (clock i) (ports i) in
    let before = restarts PORTS d left left.few_ports in
    let after = restarts PORTS e right right.few_ports in
    let both : Ok d ≡ Ok e = sym before ∙ starts ∙ after in cc

module _ (d e : DataSetsValue) (left : IsConsistent d) (right : IsConsistent e) (fits : DataSetsFit d) (fits' : DataSetsFit e) where
  pub one_image : (r s : List ℕ) → data_sets_octets d ++ r ≡ data_sets_octets e ++ s → (d ≡ e) × (r ≡ s)
  one_image r s same =
      let all = sym (image_parts d r) ∙ same ∙ image_parts e s in
      let clock = same_front (clock_image d) (clock_image e) _ _ (clock_length d fits ∙ sym (clock_length e fits')) all in
      let text_size = same_heads _ _ _ _ clock.1 in
      let text = same_front d.description e.description _ _ text_size.0 text_size.1 in
      let count = same_heads _ _ _ _ text.1 in
      let octets = same_front (ports_image d.ports) (ports_image e.ports) r s
      (ports_length d.ports ∙ ap (λ (n : ℕ). n * 15) count.0 ∙ sym (ports_length e.ports)) count.1 in
      let start : start_of_sets d ≡ start_of_sets e =
      sym (clock_back d d.description fits) ∙ (λ i. clock_read (clock.0 i) (text.0 i)) ∙ clock_back e e.description fits' in
      let ports = same_ports d.ports e.ports fits.ports fits'.ports count.0 octets.0 in
      (same_sets d e left right start ports, octets.1)
