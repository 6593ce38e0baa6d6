-- What is found of the start of a clock and of its ports tells why it can't start; one of which nothing is found can.
use Rattle.std.proofs.Common.{arith, append-nil, ◌≡◌, ℕ, ◌+◌, ◌<◌, ◌≤◌, zero, suc, pos, ◌==◌, nat_le, Bool, true, false, ◌&&◌, ◌||◌, if◌then◌else◌, List, [], ◌∷◌, ◌++◌, Option, Some, None, refl, ap, sym, subst, ◌∙◌, is_some, codes, flat_map, length, map, ne_eqb, option_and_then, option_map, unwrap_or, true≢false, ◌≢◌, nat_lt, not, IsOk, append_assoc, le-leb, le_refl, eq-eqb, take}
use Rattle.std.specs.List.{AllByRecursion, list_any, range_with_len}
use Rattle.std.proofs.lemmas.Bool.{or_left, or_right}
use Rattle.std.proofs.lemmas.Bool.Decides.{nat_tests}
use Rattle.std.proofs.lemmas.List.{map-append}
use Rattle.std.proofs.lemmas.List.Folds.{list_any-append}
use Rattle.toml.specs.Data.{Data, Members, as_integer, as_table, get_member, as_bool, as_str}
use Rattle.ptpm_data.specs.PortState.{state_of}
use Rattle.ptpm_data.specs.MemberNames.{member_name}
use Rattle.ptpm_data.specs.PortSetting.{row}
use Rattle.ptpm_data.specs.Ranges.{is_in_range, is_clock_accuracy, is_description}
use Rattle.ptpm_data.specs.Start.{default_port, is_in_port_range, judged_of_port, port_fault, ports_fault, start_settings, clock_fault, count_fault, default_data_set, first_out, grandmaster_fault, is_in_clock_range, judged_of_clock, parent_data_set, start_fault, start_of, start_within, started, unless}
use Rattle.ptpm_data.specs.declared.members.Member.{Member}
use Rattle.ptpm_data.specs.declared.port_setting.PortSetting.{PortSetting}
use Rattle.ptpm_script.specs.declared.limits.TheConstants.{CLOCK_PORTS}
use Rattle.ptpm_script.specs.declared.net_error.NetError.TheVariants.{NoSuchName, Twice, BadClock}
use Rattle.ptpm_script.specs.Heads.{members_number, number_in, ClockHeadValue, clocks_of, ends_of, items_at, sessions_of}
use Rattle.ptpm_script.specs.Marks.{Mark, Spot, each, each_after, in_port, at_key, mark_if, value_mark}
use Rattle.ptpm_script.specs.NameFaults.{is_past, past_members, past_port, clock_past_ports, end_name_marks, if_ports, name_marks, past_ports, target_marks}
use Rattle.ptpm_script.specs.NetworkText.{members_start, start_of_port, clock_of, first_start_fault, number_or, ports_of_clock}
use Rattle.ptpm_script.specs.RepeatFaults.{is_number_of, port_members_repeats, port_repeats, clock_repeats, repeat_marks}
use Rattle.ptpm_script.specs.Rules.{port_rules, clock_rules, kind_of}
use Rattle.ptpm_script.specs.Spellings.{passes}
use Rattle.ptpm_script.specs.StartFaults.{port_member_marks, port_start_members, ports_start_marks, rank, rank_marks, rank_of_number, ranked, clock_start_marks, count_start_marks, grandmaster_marks, has_octet, is_own_grandmaster, member_marks, own_marks, own_marks_if, own_mark_if, some_clock, start_mark_if, start_marks}
use Rattle.ptpm_script.specs.Starts.{port_over, port_start, clock_over, clock_start}
use Rattle.ptpm_script.specs.Values.{natural_at, natural_up_to, signed_at, signed_up_to, clock_at, description_at, flag_at}
use Rattle.ptpm_script.proofs.Loops.{all-both, append-none, each-none, value-none, after-none, all-map, flat-none}
use Rattle.ptpm_script.proofs.TableLemmas.{SoundPort, Keeps, SoundClock, key-there, fitting, whole_given}
use Rattle.ptpm_script.proofs.TellLemmas.{Tells, tells-append, tells-out, fault_if, tells-value}
use Rattle.std.specs.Option.{option_or}
use Rattle.std.specs.Str.{chars, is_utf8}
use Rattle.std.proofs.lemmas.List.FromFn.{length-map-range_with_len}
use Rattle.std.proofs.lemmas.Slice.Eq.{bytes_eq-Decides}
use Rattle.ptpm_codec.specs.declared.identity.ClockIdentity.{ClockIdentity}
use Rattle.ptpm_codec.specs.Identity.{every_clock, same_clock}
use Rattle.ptpm_data.specs.ManagementId.{set_of}
use Rattle.ptpm_data.specs.Members.{is_same_precedence}
use Rattle.ptpm_data.specs.declared.start.ClockStart.{ClockStart}
use Rattle.ptpm_data.specs.declared.start.PortStart.{PortStart}
use Rattle.ptpm_data.specs.declared.start.StartError.{StartError}
use Rattle.ptpm_data.specs.declared.start.StartError.TheVariants.{GrandmasterDiffers, NoPorts, TooManyPorts}
use Rattle.ptpm_script.specs.Faults.{first_refusal}
use Rattle.ptpm_script.specs.NetworkValue.{CanStart}
use Rattle.ptpm_script.specs.ShapeFaults.{shape_marks}
use Rattle.ptpm_script.proofs.RepeatLemmas.{clock-parts, repeat-parts}
use Rattle.ptpm_script.proofs.ShapeLemmas.{shape-sound}
use Rattle.ptpm_data.specs.declared.members.Member.TheVariants as members
use Rattle.ptpm_data.specs.declared.port_setting.PortSetting.TheVariants as settings
use Rattle.ptpm_script.specs.declared.rules.Kind.TheVariants as kinds

-- ---- what is found of the start of ports' tables tells why some port can't start

-- ---- a port's table

pub natural-absent : (most : ℕ) (key : List ℕ) (ms : Members) → get_member key ms ≡ None → natural_at most key ms ≡ None
unfolding natural_at
natural-absent most key ms none = ap (λ o. option_and_then (natural_up_to most) (option_and_then as_integer o)) none

signed_absent : (half : ℕ) (key : List ℕ) (ms : Members) → get_member key ms ≡ None → signed_at half key ms ≡ None
unfolding signed_at
signed_absent half key ms none = ap (λ o. option_and_then (signed_up_to half) (option_and_then as_integer o)) none

setting_absent : (s : PortSetting) (ms : Members)
    → get_member (row s).name ms ≡ None
    → is_in_range s (start_settings (port_start ms) s) ≡ true
unfolding port_over
setting_absent settings.LogAnnounceInterval ms none =
    ap (λ o. is_in_range settings.LogAnnounceInterval (unwrap_or o (pos 1))) (signed_absent 128 (codes "log_announce") ms none)
setting_absent settings.AnnounceReceiptTimeout ms none =
    ap (λ o. is_in_range settings.AnnounceReceiptTimeout (pos (unwrap_or o 3))) (natural-absent 255 (codes "receipt_timeout") ms none)
setting_absent settings.LogSyncInterval ms none =
    ap (λ o. is_in_range settings.LogSyncInterval (unwrap_or o (pos 0))) (signed_absent 128 (codes "log_sync") ms none)
setting_absent settings.DelayMechanism ms none =
    ap (λ o. is_in_range settings.DelayMechanism (pos (unwrap_or o 1))) (natural-absent 255 (codes "delay_mechanism") ms none)
setting_absent settings.LogMinPdelayReqInterval ms none =
    ap (λ o. is_in_range settings.LogMinPdelayReqInterval (unwrap_or o (pos 0))) (signed_absent 128 (codes "log_min_pdelay") ms none)

port_absent : (ms : Members) (m : Member) → get_member (member_name m) ms ≡ None → is_in_port_range (port_start ms) m ≡ true
unfolding port_over
port_absent ms members.State none = ap (λ o. is_some (state_of (unwrap_or o 6))) (natural-absent 255 (codes "state") ms none)
port_absent ms (members.Setting s) none = setting_absent s ms none
port_absent ms m none = refl

port_tells : (spot : Spot) (ms : Members) → Tells (port_fault (port_start ms)) (port_member_marks spot ms)
unfolding port_member_marks port_fault
port_tells spot ms = tells-out (is_in_port_range (port_start ms)) spot ms judged_of_port (port_absent ms)

default_starts : port_fault default_port ≡ None
unfolding port_fault
default_starts = refl

-- ---- the ports' tables of a clock

-- a table whose number is that of a port that is there
record IsThere (count : ℕ) (d : Data) : Type 0 where
  port : SoundPort d
  shown : number_in d ≡ Some port.number
  high : port.number ≤ count
  own : rank d ≡ port.number

number_there : (d : Data) (p : SoundPort d) → is_some (get_member (codes "number") p.table) ≡ true
number_there d p = key-there port_rules p.table (codes "number") p.keeps refl

not_past : (n count : ℕ) → is_past count n ≡ false → n ≤ count
not_past n count h = grind (arith, nat_tests)

within_few : (n count : ℕ) → is_past count n ≡ false → count ≤ CLOCK_PORTS → (nat_le 1 n && nat_le n CLOCK_PORTS) ≡ true
within_few n count h few = grind (arith, nat_tests)

is_there : (clock n count : ℕ) (d : Data) (p : SoundPort d) → past_port clock count n d ≡ [] → count ≤ CLOCK_PORTS → IsThere count d
is_there clock n count d p none few =
    let shown : number_in d ≡ Some p.number = ap members_number p.is ∙ p.number_is in
    let marks : past_members (in_port clock n) count (Some p.table) ≡ [] = subst (λ o. past_members (in_port clock n) count o ≡ []) p.is none in
    let there : is_past count p.number ≡ false = sym (ap (passes (is_past count)) p.number_is)
    ∙ value-none (passes (is_past count) (natural_at 65535 (codes "number") p.table)) NoSuchName (in_port clock n) (codes "number") p.table
    (number_there d p) marks in
    record {
      port = p;
      shown = shown;
      high = not_past p.number count there;
      own = ap rank_of_number shown ∙ ap (λ b. if b then p.number else CLOCK_PORTS + 1) (within_few p.number count there few);
    }

-- ---- no number is given twice

abbrev is_taken : List Data → ℕ → Bool
is_taken ds r = is_number_of (map number_in ds) r

is_new : (clock : ℕ) (before : List Data) (d : Data) (p : SoundPort d) → port_repeats clock before d ≡ [] → is_taken before p.number ≡ false
unfolding port_repeats
is_new clock before d p none =
    let spot = in_port clock (length before + 1) in
    let numbers = map number_in before in
    let marks : port_members_repeats spot numbers (Some p.table) ≡ [] = subst (λ o. port_members_repeats spot numbers o ≡ []) p.is none in
    sym (ap (passes (is_number_of numbers)) p.number_is)
    ∙ value-none (passes (is_number_of numbers) (natural_at 65535 (codes "number") p.table)) Twice spot (codes "number") p.table
    (number_there d p) marks

taken_more : (before : List Data) (d : Data) (r : ℕ)
    → is_taken (before ++ d ∷ []) r ≡ (is_taken before r || (passes (λ m. m == r) (number_in d) || false))
taken_more before d r =
    ap (list_any (passes (λ m. m == r))) (map-append number_in before (d ∷ []))
    ∙ list_any-append (passes (λ m. m == r)) (map number_in before) (number_in d ∷ [])

apart : (before : List Data) (n r : ℕ) → is_taken before n ≡ false → is_taken before r ≡ true → (n == r) ≡ false
apart before n r new taken = ne_eqb n r (λ same. true≢false (sym taken ∙ sym (ap (is_taken before) same) ∙ new))

-- ---- the tables of a rank

ranked_by : (r k : ℕ) (b : Bool) (spot : Spot) (d : Data) → rank d ≡ k → (k == r) ≡ b
    → ranked r spot d ≡ (if b then port_start_members spot (as_table d) else [])
ranked_by r k b spot d is same =
    ap (λ t. if t == r then port_start_members spot (as_table d) else []) is
    ∙ ap (λ t. if t then port_start_members spot (as_table d) else []) same

-- of the tables from one on that have a rank
abbrev ranked_from : ℕ → ℕ → ℕ → List Data → List Mark
ranked_from clock r n ds = each (λ k d. ranked r (in_port clock k) d) n ds

-- none has the number of one before it
none_ranked : (clock r n count : ℕ) (before ds : List Data) → AllByRecursion (IsThere count) ds
    → each_after (port_repeats clock) before ds ≡ []
    → is_taken before r ≡ true
    → ranked_from clock r n ds ≡ []
none_ranked clock r n count before [] there once taken = refl
none_ranked clock r n count before (d ∷ ds) there once taken =
    let parts = append-none (port_repeats clock before d) (each_after (port_repeats clock) (before ++ d ∷ []) ds) once in
    let p = there.0.port in
    ap (λ xs. xs ++ ranked_from clock r (n + 1) ds)
    (ranked_by r p.number false (in_port clock n) d there.0.own (apart before p.number r (is_new clock before d p parts.0) taken))
    ∙ none_ranked clock r (n + 1) count (before ++ d ∷ []) ds there.1 parts.1
    (taken_more before d r ∙ or_left (is_taken before r) (passes (λ m. m == r) (number_in d) || false) taken)

table_tells : (spot : Spot) (d : Data) (p : SoundPort d) → Tells (port_fault (members_start (as_table d))) (port_start_members spot (as_table d))
table_tells spot d p =
    subst (λ o. Tells (port_fault (members_start o)) (port_start_members spot o)) (sym p.is) (port_tells spot p.table)

-- by whether the first table is of the port's number
port_case : (clock r n count : ℕ) (before : List Data) (d : Data) (ds : List Data) (i : IsThere count d) (b : Bool)
    → (i.port.number == r) ≡ b
    → AllByRecursion (IsThere count) ds
    → each_after (port_repeats clock) (before ++ d ∷ []) ds ≡ []
    → Tells (port_fault (start_of_port ds r)) (ranked_from clock r (n + 1) ds)
    → Tells (port_fault (if b then members_start (as_table d) else start_of_port ds r))
    (ranked r (in_port clock n) d ++ ranked_from clock r (n + 1) ds)
port_case clock r n count before d ds i true same there once later =
    let spot = in_port clock n in
    let fault = port_fault (members_start (as_table d)) in
    let here : passes (λ m. m == r) (number_in d) ≡ true = ap (passes (λ m. m == r)) i.shown ∙ same in
    let taken : is_taken (before ++ d ∷ []) r ≡ true = taken_more before d r
    ∙ or_right (is_taken before r) (passes (λ m. m == r) (number_in d) || false) (or_left (passes (λ m. m == r) (number_in d)) false here) in
    subst (Tells fault)
    (sym (append-nil (port_start_members spot (as_table d)))
    ∙ ap (λ xs. port_start_members spot (as_table d) ++ xs) (sym (none_ranked clock r (n + 1) count (before ++ d ∷ []) ds there once taken))
    ∙ ap (λ xs. xs ++ ranked_from clock r (n + 1) ds) (sym (ranked_by r i.port.number true spot d i.own same)))
    (table_tells spot d i.port)
port_case clock r n count before d ds i false same there once later =
    subst (λ xs. Tells (port_fault (start_of_port ds r)) (xs ++ ranked_from clock r (n + 1) ds))
    (sym (ranked_by r i.port.number false (in_port clock n) d i.own same)) later

port_tells_at : (clock r n count : ℕ) (before ds : List Data) → AllByRecursion (IsThere count) ds
    → each_after (port_repeats clock) before ds ≡ []
    → Tells (port_fault (start_of_port ds r)) (ranked_from clock r n ds)
port_tells_at clock r n count before [] there once = ap (option_map _) (sym default_starts)
port_tells_at clock r n count before (d ∷ ds) there once =
    let parts = append-none (port_repeats clock before d) (each_after (port_repeats clock) (before ++ d ∷ []) ds) once in
    let later = port_tells_at clock r (n + 1) count (before ++ d ∷ []) ds there.1 parts.1 in
    let start = λ (o : Option ℕ). if passes (λ m. m == r) o then members_start (as_table d) else start_of_port ds r in
    subst (λ o. Tells (port_fault (start o)) (ranked_from clock r n (d ∷ ds)))
    (sym there.0.shown)
    (port_case clock r n count before d ds there.0 (there.0.port.number == r) refl there.1 parts.1 later)

-- ---- the ports of a clock

past_apart : (n count r : ℕ) → n ≤ count → count < r → (n == r) ≡ false
past_apart n count r high past = ne_eqb n r (λ same. absurd (omega arith))

-- past the ports that are there
start_past : (count r : ℕ) (ds : List Data) → AllByRecursion (IsThere count) ds → count < r → start_of_port ds r ≡ default_port
start_past count r [] there past = refl
start_past count r (d ∷ ds) there past =
    ap (λ o. if passes (λ m. m == r) o then members_start (as_table d) else start_of_port ds r) there.0.shown
    ∙ ap (λ b. if b then members_start (as_table d) else start_of_port ds r) (past_apart there.0.port.number count r there.0.high past)
    ∙ start_past count r ds there.1 past

-- of the ports from one on, and of all ranks from there on
ports_tell_from : (clock first len most count : ℕ) (ds : List Data) → AllByRecursion (IsThere count) ds
    → each_after (port_repeats clock) [] ds ≡ []
    → len ≤ most
    → count < first + len
    → Tells (ports_fault (map (start_of_port ds) (range_with_len first len))) (flat_map (rank_marks clock ds) (range_with_len first most))
unfolding ports_fault
ports_tell_from clock first zero zero count ds there once few past = refl
ports_tell_from clock first (suc len) zero count ds there once few past = absurd (omega arith)
ports_tell_from clock first zero (suc most) count ds there once few past =
    let later = ports_tell_from clock (first + 1) zero most count ds there once (omega arith) (omega arith) in
    let none : port_fault (start_of_port ds first) ≡ None = ap port_fault (start_past count first ds there (omega arith)) ∙ default_starts in
    tells-append None None (rank_marks clock ds first) (flat_map (rank_marks clock ds) (range_with_len (first + 1) most))
    (port_tells_at clock first 1 count [] ds there once ∙ ap (option_map _) none) (λ i. later)
ports_tell_from clock first (suc len) (suc most) count ds there once few past =
    tells-append (port_fault (start_of_port ds first)) (ports_fault (map (start_of_port ds) (range_with_len (first + 1) len)))
    (rank_marks clock ds first) (flat_map (rank_marks clock ds) (range_with_len (first + 1) most))
    (port_tells_at clock first 1 count [] ds there once)
    (λ i. ports_tell_from clock (first + 1) len most count ds there once (omega arith) (omega arith))

pub ports-tell : (clock count : ℕ) (ds : List Data) → AllByRecursion SoundPort ds
    → each_after (port_repeats clock) [] ds ≡ []
    → each (past_port clock count) 1 ds ≡ []
    → count ≤ CLOCK_PORTS
    → Tells (ports_fault (map (start_of_port ds) (range_with_len 1 count))) (ports_start_marks (CLOCK_PORTS + 1) clock ds)
unfolding ports_start_marks
ports-tell clock count ds sound once none few =
    let there = all-both SoundPort (λ d. (k : ℕ) × (past_port clock count k d ≡ [])) (IsThere count)
    (λ d p past. is_there clock past.0 count d p past.1 few) ds sound (each-none (past_port clock count) 1 ds none) in
    ports_tell_from clock 1 count (CLOCK_PORTS + 1) count ds there once (omega arith) (omega arith)

-- ---- what is found of the start of a clock tells why the clock can't start; a clock of which nothing is found can

-- ---- the number of ports

never_absent : (test : Bool) (o : Option Data) → is_some o ≡ true → o ≡ None → test ≡ false
never_absent test o there none = absurd (true≢false (sym there ∙ ap is_some none))

tells_else : (a : Bool) (x : StartError) (o : Option StartError) (xs ys : List Mark)
    → Tells (fault_if a x) xs
    → Tells o ys
    → Tells (if a then Some x else o) (xs ++ ys)
tells_else true x o xs ys h k = tells-append (Some x) None xs ys h (λ i. cc)
tells_else false x o xs ys h k = tells-append None o xs ys h (λ i. k)

count_tells_at : (n : ℕ) (spot : Spot) (ms : Members) → is_some (get_member (codes "ports") ms) ≡ true
    → Tells (count_fault CLOCK_PORTS n)
    (start_mark_if (n == 0) NoPorts spot (codes "ports") ms ++ start_mark_if (nat_lt CLOCK_PORTS n) TooManyPorts spot (codes "ports") ms)
unfolding count_fault
count_tells_at n spot ms there =
    let key = codes "ports" in
    tells_else (n == 0) NoPorts (fault_if (nat_lt CLOCK_PORTS n) TooManyPorts)
    (start_mark_if (n == 0) NoPorts spot key ms) (start_mark_if (nat_lt CLOCK_PORTS n) TooManyPorts spot key ms)
    (tells-value (n == 0) NoPorts spot key ms (never_absent (n == 0) (get_member key ms) there))
    (tells-value (nat_lt CLOCK_PORTS n) TooManyPorts spot key ms (never_absent (nat_lt CLOCK_PORTS n) (get_member key ms) there))

count_tells : (c : ClockHeadValue) (k : SoundClock c) → Tells (count_fault CLOCK_PORTS k.count) (count_start_marks c)
unfolding count_start_marks
count_tells c k =
    let key = codes "ports" in
    subst (λ o. Tells (count_fault CLOCK_PORTS k.count) (start_mark_if (passes (λ n. n == 0) o) NoPorts c.spot key c.table
    ++ start_mark_if (passes (λ n. nat_lt CLOCK_PORTS n) o) TooManyPorts c.spot key c.table)) (sym k.count_is)
    (count_tells_at k.count c.spot c.table (key-there clock_rules c.table key k.keeps refl))

-- ---- a clock's members

and_never : (a : Bool) → (a && false) ≡ false
and_never true = refl
and_never false = refl

leaps_absent : (ms : Members) (a : Bool) → get_member (codes "leap59") ms ≡ None → (a && unwrap_or (flag_at (codes "leap59") ms) false) ≡ false
leaps_absent ms a none = ap (λ o. a && unwrap_or (option_and_then as_bool o) false) none ∙ and_never a

clock_absent : (ms : Members) (m : Member) → get_member (member_name m) ms ≡ None → is_in_clock_range (clock_start some_clock 0 ms) m ≡ true
unfolding clock_over description_at is_description set_of is_utf8 chars
clock_absent ms members.Identity none = refl
clock_absent ms members.UserDescription none = ap (λ o. is_description (take 129 (unwrap_or (option_and_then as_str o) []))) none
clock_absent ms members.ClockAccuracy none = ap (λ o. is_clock_accuracy (unwrap_or o 0xfe)) (natural-absent 255 (codes "clock_accuracy") ms none)
clock_absent ms members.Leap59 none = ap not (leaps_absent ms (unwrap_or (flag_at (codes "leap61") ms) false) none)
clock_absent ms m none = refl

-- of one identity and another no member but the identity says more
same_range : (identity : ClockIdentity) (domain : ℕ) (ms : Members) → same_clock identity every_clock ≡ false
    → (m : Member) → is_in_clock_range (clock_start some_clock 0 ms) m ≡ is_in_clock_range (clock_start identity domain ms) m
unfolding clock_over
same_range identity domain ms one members.Identity = sym (ap not one)
same_range identity domain ms one m = refl

members_tell : (spot : Spot) (identity : ClockIdentity) (domain : ℕ) (ms : Members) → same_clock identity every_clock ≡ false
    → Tells (clock_fault (clock_start identity domain ms)) (member_marks spot ms)
unfolding member_marks clock_fault
members_tell spot identity domain ms one =
    subst (λ is_in. Tells (first_out is_in judged_of_clock) (member_marks spot ms)) (λ i m. same_range identity domain ms one m i)
    (tells-out (is_in_clock_range (clock_start some_clock 0 ms)) spot ms judged_of_clock (clock_absent ms))

-- ---- a clock that is its own grandmaster

own_tells : (own : ℕ) (shown : Option ℕ) (spot : Spot) (key : List ℕ) (ms : Members)
    → is_some (get_member key ms) ≡ is_some shown
    → Tells (fault_if (not (unwrap_or shown own == own)) GrandmasterDiffers) (own_mark_if (has_octet own shown) spot key ms)
unfolding value_mark
own_tells own None spot key ms same =
    subst (λ b. Tells (fault_if (not b) GrandmasterDiffers) (own_mark_if false spot key ms)) (sym (eq-eqb own own refl))
    (ap (λ b. first_refusal (mark_if b (BadClock GrandmasterDiffers) spot (at_key key))) same)
own_tells own (Some n) spot key ms same =
    tells-value (not (n == own)) GrandmasterDiffers spot key ms (never_absent (not (n == own)) (get_member key ms) same)

shown_case : (most : ℕ) (key : List ℕ) (ms : Members) (o : Option Data)
    → Keeps clock_rules ms
    → kind_of clock_rules key ≡ Some (kinds.Whole (pos 0) (pos most))
    → get_member key ms ≡ o
    → is_some o ≡ is_some (natural_at most key ms)
shown_case most key ms None keeps kind at = sym (ap is_some (natural-absent most key ms at))
shown_case most key ms (Some d) keeps kind at =
    let fits = fitting clock_rules ms key (kinds.Whole (pos 0) (pos most)) d keeps kind at in
    sym (ap is_some (whole_given 0 most most key ms d (le-leb most most (le_refl most)) at fits).3)

own_at : (own most : ℕ) (spot : Spot) (key : List ℕ) (ms : Members)
    → Keeps clock_rules ms
    → kind_of clock_rules key ≡ Some (kinds.Whole (pos 0) (pos most))
    → Tells (fault_if (not (unwrap_or (natural_at most key ms) own == own)) GrandmasterDiffers)
    (own_mark_if (has_octet own (natural_at most key ms)) spot key ms)
own_at own most spot key ms keeps kind =
    own_tells own (natural_at most key ms) spot key ms (shown_case most key ms (get_member key ms) keeps kind refl)

tells_and : (a b : Bool) (x : StartError) (xs ys : List Mark)
    → Tells (fault_if (not a) x) xs
    → Tells (fault_if (not b) x) ys
    → Tells (fault_if (not (a && b)) x) (xs ++ ys)
tells_and true b x xs ys h k = tells-append None (fault_if (not b) x) xs ys h (λ i. k)
tells_and false b x xs ys h k = tells-append (Some x) None xs ys h (λ i. cc)

five : (a b c d e : List Mark) → a ++ (b ++ (c ++ (d ++ e))) ≡ a ++ b ++ c ++ d ++ e
five a b c d e = simp append_assoc

-- what a clock shows of its grandmaster is its own
abbrev is_own : ClockStart → Bool
is_own c = is_same_precedence (parent_data_set c).precedence (default_data_set c).precedence

own_marks_tell : (spot : Spot) (identity : ClockIdentity) (domain : ℕ) (ms : Members) → Keeps clock_rules ms
    → Tells (fault_if (not (is_own (clock_start identity domain ms))) GrandmasterDiffers) (own_marks spot ms (clock_start identity 0 ms))
unfolding own_marks clock_over
own_marks_tell spot identity domain ms keeps =
    let p1 = unwrap_or (natural_at 255 (codes "priority1") ms) 128 in
    let class = unwrap_or (natural_at 255 (codes "clock_class") ms) 248 in
    let accuracy = unwrap_or (natural_at 255 (codes "clock_accuracy") ms) 0xfe in
    let variance = unwrap_or (natural_at 65535 (codes "variance") ms) 65535 in
    let p2 = unwrap_or (natural_at 255 (codes "priority2") ms) 128 in
    let of = λ (own most : ℕ) (key : List ℕ). own_mark_if (has_octet own (natural_at most key ms)) spot key ms in
    subst (Tells (fault_if (not (is_own (clock_start identity domain ms))) GrandmasterDiffers))
    (five (of p1 255 (codes "grandmaster_priority1")) (of class 255 (codes "grandmaster_class")) (of accuracy 255 (codes "grandmaster_accuracy"))
    (of variance 65535 (codes "grandmaster_variance")) (of p2 255 (codes "grandmaster_priority2")))
    (tells_and _ _ _ _ _ (own_at p1 255 spot (codes "grandmaster_priority1") ms keeps refl)
    (tells_and _ _ _ _ _ (own_at class 255 spot (codes "grandmaster_class") ms keeps refl)
    (tells_and _ _ _ _ _ (own_at accuracy 255 spot (codes "grandmaster_accuracy") ms keeps refl)
    (tells_and _ _ _ _ _ (own_at variance 65535 spot (codes "grandmaster_variance") ms keeps refl)
    (own_at p2 255 spot (codes "grandmaster_priority2") ms keeps refl)))))

own_if : (same is : Bool) (marks : List Mark) → Tells (fault_if (not same) GrandmasterDiffers) marks
    → Tells (fault_if (is && not same) GrandmasterDiffers) (if is then marks else [])
own_if same true marks h = h
own_if same false marks h = refl

own_identity : (identity : ClockIdentity) (g : Option ClockIdentity) → is_own_grandmaster identity g ≡ same_clock (unwrap_or g identity) identity
own_identity identity None = sym ((bytes_eq-Decides identity.0 identity.0).1 refl)
own_identity identity (Some g) = refl

abbrev fault_of_grandmaster : ClockStart → Option StartError
fault_of_grandmaster s = grandmaster_fault (default_data_set s) (parent_data_set s)

grandmaster_tells : (spot : Spot) (identity : ClockIdentity) (domain : ℕ) (ms : Members) → Keeps clock_rules ms
    → Tells (fault_of_grandmaster (clock_start identity domain ms)) (own_marks_if spot ms (Some identity))
unfolding grandmaster_fault clock_over
grandmaster_tells spot identity domain ms keeps =
    let s = clock_start identity domain ms in
    let g = clock_at (codes "grandmaster") ms in
    let marks = own_marks spot ms (clock_start identity 0 ms) in
    subst (λ b. Tells (fault_if (b && not (is_own s)) GrandmasterDiffers) (if is_own_grandmaster identity g then marks else []))
    (own_identity identity g)
    (own_if (is_own s) (is_own_grandmaster identity g) marks (own_marks_tell spot identity domain ms keeps))

-- ---- a clock

passes_none : (b : Bool) (e : StartError) (o : Option StartError) → (if b then Some e else o) ≡ None → (b ≡ false) × (o ≡ None)
passes_none true e o h = cc
passes_none false e o h = (refl, h)

count_within : (n : ℕ) → count_fault CLOCK_PORTS n ≡ None → (nat_le 1 n && nat_le n CLOCK_PORTS) ≡ true
unfolding count_fault
count_within n h = grind (arith, nat_tests, passes_none)

within : (n : ℕ) → (nat_le 1 n && nat_le n CLOCK_PORTS) ≡ true → (1 ≤ n) × (n ≤ CLOCK_PORTS)
within n h = (grind (arith, nat_tests), grind (arith, nat_tests))

none_past : (c : ClockHeadValue) (k : SoundClock c) → clock_past_ports c ≡ [] → (nat_le 1 k.count && nat_le k.count CLOCK_PORTS) ≡ true
    → each (past_port c.number k.count) 1 (items_at (codes "port") c.table) ≡ []
unfolding clock_past_ports
none_past c k none few =
    subst (λ o. past_ports c o ≡ []) (ap (option_and_then if_ports) k.count_is ∙ ap (λ b. if b then Some k.count else None) few) none

four : (a b c d : List Mark) → a ++ (b ++ (c ++ d)) ≡ a ++ b ++ c ++ d
four a b c d = simp append_assoc

-- as many ports as it says
abbrev ports_up_to : ClockHeadValue → ℕ → List PortStart
ports_up_to c count = map (start_of_port (items_at (codes "port") c.table)) (range_with_len 1 count)

tells_of : (c : ClockHeadValue) (k : SoundClock c) (domain : ℕ)
    → each_after (port_repeats c.number) [] (items_at (codes "port") c.table) ≡ []
    → clock_past_ports c ≡ []
    → Tells (start_fault CLOCK_PORTS (clock_start k.identity domain c.table) (ports_up_to c k.count)) (clock_start_marks c)
unfolding clock_start_marks grandmaster_marks
tells_of c k domain once past =
    let s = clock_start k.identity domain c.table in
    let ports = ports_up_to c k.count in
    let long : length ports ≡ k.count = length-map-range_with_len (start_of_port (items_at (codes "port") c.table)) 1 k.count in
    let count = subst (λ n. Tells (count_fault CLOCK_PORTS n) (count_start_marks c)) (sym long) (count_tells c k) in
    let own : Tells (fault_of_grandmaster s) (grandmaster_marks c) =
    subst (λ o. Tells (fault_of_grandmaster s) (own_marks_if c.spot c.table o)) (sym k.identity_is)
    (grandmaster_tells c.spot k.identity domain c.table k.keeps) in
    let found = ports_start_marks (CLOCK_PORTS + 1) c.number (items_at (codes "port") c.table) in
    let of_ports = λ (none : count_fault CLOCK_PORTS (length ports) ≡ None).
    let few = count_within k.count (sym (ap (count_fault CLOCK_PORTS) long) ∙ none) in
    ports-tell c.number k.count (items_at (codes "port") c.table) k.ports once (none_past c k past few) (within k.count few).1 in
    subst (Tells (start_fault CLOCK_PORTS s ports)) (four (count_start_marks c) (member_marks c.spot c.table) found (grandmaster_marks c))
    (tells-append (count_fault CLOCK_PORTS (length ports)) (option_or (clock_fault s) (option_or (ports_fault ports) (fault_of_grandmaster s)))
    (count_start_marks c) (member_marks c.spot c.table ++ (found ++ grandmaster_marks c)) count
    (λ none. tells-append (clock_fault s) (option_or (ports_fault ports) (fault_of_grandmaster s))
    (member_marks c.spot c.table) (found ++ grandmaster_marks c) (members_tell c.spot k.identity domain c.table k.is_one)
    (λ i. tells-append (ports_fault ports) (fault_of_grandmaster s) found (grandmaster_marks c) (of_ports none) (λ j. own))))

pub start-tells : (c : ClockHeadValue) → SoundClock c
    → each_after (port_repeats c.number) [] (items_at (codes "port") c.table) ≡ []
    → clock_past_ports c ≡ []
    → first_refusal (clock_start_marks c) ≡ option_map (λ e. BadClock e) (start_fault CLOCK_PORTS (clock_of c).start (clock_of c).ports)
unfolding clock_of ports_of_clock
start-tells c k once past =
    let domain = number_or 255 (codes "domain") c.table in
    let fault = λ (identity : Option ClockIdentity) (count : Option ℕ).
    start_fault CLOCK_PORTS (clock_start (unwrap_or identity some_clock) domain c.table) (ports_up_to c (unwrap_or count 0)) in
    subst (λ o. Tells (fault o c.count) (clock_start_marks c)) (sym k.identity_is)
    (subst (λ o. Tells (fault (Some k.identity) o) (clock_start_marks c)) (sym k.count_is)
    (tells_of c k domain once past))

-- ---- clocks that can start

no_fault : (o : Option StartError) → None ≡ option_map (λ e. BadClock e) o → o ≡ None
no_fault None h = refl
no_fault (Some e) h = cc

or_none : (o p : Option StartError) → option_or o p ≡ None → o ≡ None
or_none None p h = refl
or_none (Some e) p h = cc

starts : (s : ClockStart) (ports : List PortStart) → start_fault CLOCK_PORTS s ports ≡ None → IsOk (start_of s ports)
unfolding start_within
starts s ports none = subst (λ o. IsOk (unless o (started s ports))) (sym none) refl

not_every : (c : ClockHeadValue) → SoundClock c → (clock_of c).start.identity ≢ every_clock
unfolding clock_of clock_over
not_every c k every =
    let same : k.identity ≡ every_clock = sym (ap (λ o. unwrap_or o some_clock) k.identity_is) ∙ every in
    true≢false (sym (ap (λ i. same_clock i every_clock) same) ∙ k.is_one)

pub can-start : (c : ClockHeadValue) → SoundClock c
    → each_after (port_repeats c.number) [] (items_at (codes "port") c.table) ≡ []
    → clock_past_ports c ≡ []
    → clock_start_marks c ≡ []
    → CanStart (clock_of c)
can-start c k once past none =
    let s = (clock_of c).start in
    let ports = (clock_of c).ports in
    let fault = no_fault (start_fault CLOCK_PORTS s ports) (sym (ap first_refusal none) ∙ start-tells c k once past) in
    let few = within (length ports) (count_within (length ports)
    (or_none (count_fault CLOCK_PORTS (length ports)) (option_or (clock_fault s) (option_or (ports_fault ports) (fault_of_grandmaster s))) fault)) in
    record { starts = starts s ports fault; some_port = few.0; few_ports = few.1; is_one = not_every c k }

-- a sound clock whose ports' numbers are there, each once
pub record Numbered (c : ClockHeadValue) : Type 0 where
  pub sound : SoundClock c
  pub once : each_after (port_repeats c.number) [] (items_at (codes "port") c.table) ≡ []
  pub there : clock_past_ports c ≡ []

numbered : (cs : List ClockHeadValue) → AllByRecursion SoundClock cs
    → each_after clock_repeats [] cs ≡ []
    → flat_map clock_past_ports cs ≡ []
    → AllByRecursion Numbered cs
numbered cs sound once past =
    all-both (λ c. (done : List ClockHeadValue) × (clock_repeats done c ≡ [])) (λ c. SoundClock c × (clock_past_ports c ≡ [])) Numbered
    (λ c o s. record { sound = s.0; once = (clock-parts o.0 c o.1).0; there = s.1 }) cs (after-none clock_repeats [] cs once)
    (all-both SoundClock (λ c. clock_past_ports c ≡ []) (λ c. SoundClock c × (clock_past_ports c ≡ [])) (λ c s p. (s, p)) cs sound
    (flat-none clock_past_ports cs past))

pub clocks-can-start : (cs : List ClockHeadValue) → AllByRecursion SoundClock cs
    → each_after clock_repeats [] cs ≡ []
    → flat_map clock_past_ports cs ≡ []
    → start_marks cs ≡ []
    → AllByRecursion CanStart (map clock_of cs)
unfolding start_marks
clocks-can-start cs sound once past none =
    all-map clock_of (λ c. CanStart (clock_of c)) CanStart (λ c can. can) cs
    (all-both Numbered (λ c. clock_start_marks c ≡ []) (λ c. CanStart (clock_of c)) (λ c n m. can-start c n.sound n.once n.there m) cs
    (numbered cs sound once past) (flat-none clock_start_marks cs none))

-- ---- why the first clock that can't start can't

starts_tell : (cs : List ClockHeadValue) → AllByRecursion Numbered cs → Tells (first_start_fault (map clock_of cs)) (flat_map clock_start_marks cs)
starts_tell [] all = refl
starts_tell (c ∷ cs) all =
    tells-append (start_fault CLOCK_PORTS (clock_of c).start (clock_of c).ports) (first_start_fault (map clock_of cs))
    (clock_start_marks c) (flat_map clock_start_marks cs) (start-tells c all.0.sound all.0.once all.0.there) (λ i. starts_tell cs all.1)

pub first-start-fault : (ms : Members)
    → shape_marks ms ≡ []
    → repeat_marks (clocks_of ms) (sessions_of ms) (ends_of ms) ≡ []
    → name_marks (clocks_of ms) (sessions_of ms) (ends_of ms) ≡ []
    → first_refusal (start_marks (clocks_of ms)) ≡ option_map (λ e. BadClock e) (first_start_fault (map clock_of (clocks_of ms)))
unfolding name_marks start_marks
first-start-fault ms shape repeats names =
    let cs = clocks_of ms in
    let ss = sessions_of ms in
    let ports = flat_map clock_past_ports cs in
    let targets = flat_map (target_marks cs) ss in
    let ends = flat_map (end_name_marks cs ss) (ends_of ms) in
    let past = append-none ports targets (append-none (ports ++ targets) ends names).0 in
    starts_tell cs (numbered cs (shape-sound ms shape).clocks (repeat-parts cs ss (ends_of ms) repeats).0 past.0)

pub ruleset clock_start_faults_laws = (first-start-fault)
