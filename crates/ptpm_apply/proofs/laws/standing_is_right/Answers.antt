-- Where the table says that a step is, and what is so.
use Rattle.std.proofs.Common.{◌≡◌, ℕ, ◌==◌, true, List, bytes_eq, refl, arith, ◌∙◌, Bool, false, [], ◌∷◌, Option, Some, None, inl, inr, sym, ap, subst, if◌then◌else◌}
use Rattle.std.proofs.lemmas.Bool.{and_parts, eqb-true}
use Rattle.std.proofs.lemmas.Slice.Eq.{bytes_eq-Decides}
use Rattle.ptpm_codec.specs.declared.message.Action.{Action}
use Rattle.ptpm_codec.specs.Message.{action_code}
use Rattle.ptpm_data.specs.Request.{RequestValue}
use Rattle.ptpm_table.specs.Numbering.{same_request}
use Rattle.std.specs.Option.{option_map}
use Rattle.ptpm_manager.specs.declared.report.Outcome.{Outcome}
use Rattle.ptpm_manager.specs.Session.{SessionValue}
use Rattle.ptpm_asker.specs.Desk.{AreAllowed, HasRequest, IsBegun, IsTold, Move, Note, SaysTold, latest_number}
use Rattle.ptpm_asker.specs.Question.{is_question}
use Rattle.ptpm_apply.specs.declared.noted.Begun.{Begun}
use Rattle.ptpm_apply.specs.declared.standing.Standing.{Standing}
use Rattle.ptpm_apply.specs.InFile.{in_file_of, left_of}
use Rattle.ptpm_apply.specs.Resuming.{HasNotLeft, desk_after, noted_begun, noted_told, opened_desk, standing_at, watch_after}
use Rattle.ptpm_apply.specs.Standing.{begun_by, left_by, standing_of}
use Rattle.ptpm_apply.specs.Watching.{Sent, nothing_seen}
use Rattle.ptpm_apply.proofs.Watches.{AreKept, Holds, IsKept, FreeOr, both_ways, free_has, hold_along, holds_at_first, some_same, told_number}
use Rattle.ptpm_codec.specs.declared.message.Action.TheVariants as actions
use Rattle.ptpm_apply.specs.declared.standing.Standing.TheVariants as standings
use Rattle.ptpm_apply.proofs.laws.standing_is_right.Goals as goal

-- ---- requests that are the same by their test are equal

same_request-refl : (q : RequestValue) → same_request q q ≡ true
same_request-refl q =
    let octets : bytes_eq q.octets q.octets ≡ true = (bytes_eq-Decides q.octets q.octets).1 refl in grind arith

same_action : (x y : Action) → action_code x ≡ action_code y → x ≡ y
same_action actions.Get actions.Get h = refl
same_action actions.Get _ h = absurd (omega arith)
same_action actions.Set actions.Set h = refl
same_action actions.Set _ h = absurd (omega arith)
same_action actions.Response actions.Response h = refl
same_action actions.Response _ h = absurd (omega arith)
same_action actions.Command actions.Command h = refl
same_action actions.Command _ h = absurd (omega arith)
same_action actions.Acknowledge actions.Acknowledge h = refl
same_action actions.Acknowledge _ h = absurd (omega arith)

abbrev ap_request : Action → ℕ → ℕ → List ℕ → RequestValue
ap_request action id port octets = record { action = action; id = id; port = port; octets = octets }

same_parts : (x y : Action) (i j p r : ℕ) (a b : List ℕ)
    → x ≡ y → i ≡ j → p ≡ r → a ≡ b
    → ap_request x i p a ≡ ap_request y j r b
same_parts x y i j p r a b e f g h = cc

same_request-eq : (q p : RequestValue) → same_request q p ≡ true → q ≡ p
same_request-eq q p h =
    let first = and_parts (action_code q.action == action_code p.action) _ h in
    let second = and_parts (q.id == p.id) _ first.1 in
    let third = and_parts (q.port == p.port) _ second.1 in
    same_parts q.action p.action q.id p.id q.port p.port q.octets p.octets
    (same_action q.action p.action (eqb-true (action_code q.action) (action_code p.action) first.0))
    (eqb-true q.id p.id second.0) (eqb-true q.port p.port third.0) ((bytes_eq-Decides q.octets p.octets).0 third.1)

-- ---- what the table reads

abbrev begun : ℕ → RequestValue → Begun
begun number q = record { number = number; request = q }

-- what the table says by its tests
abbrev with_request : Bool → Bool → Standing
with_request latest same = if latest then if same then standings.UnderWay else standings.NumberTaken else standings.Unknown

abbrev with_none : Bool → Standing
with_none next = if next then standings.NeverBegun else standings.Unknown

-- by whether a request is a question
abbrev with_left : Bool → Bool → Bool → Bool → Standing
with_left asks latest same next = if asks then with_none next else with_request latest same

read_so : (c : Bool) (number : ℕ) (q p : RequestValue) (f : SessionValue)
    → begun_by (begun number q) (in_file_of f) (if c then None else Some p)
    ≡ with_left c (latest_number f == number) (same_request q p) ((in_file_of f).next == number)
read_so true number q p f = refl
read_so false number q p f = refl

under_way_only : (a b c d : Bool) → with_left a b c d ≡ standings.UnderWay → (a ≡ false) × (b ≡ true) × (c ≡ true)
under_way_only false true true d e = (refl, refl, refl)
under_way_only false true false d e = cc
under_way_only false false c d e = cc
under_way_only true b c true e = cc
under_way_only true b c false e = cc

never_only : (a b c d : Bool) → with_left a b c d ≡ standings.NeverBegun → a ≡ true
never_only true b c d e = refl
never_only false true true d e = cc
never_only false true false d e = cc
never_only false false c d e = cc

taken_only : (a b c d : Bool) → with_left a b c d ≡ standings.NumberTaken → c ≡ false
taken_only false true false d e = refl
taken_only false true true d e = cc
taken_only false false c d e = cc
taken_only true b c true e = cc
taken_only true b c false e = cc

none_only : (b : Bool) → with_none b ≡ standings.UnderWay → ⊥
none_only true e = cc
none_only false e = cc

-- ---- a file with a request

-- what the table says of a file with this under way
abbrev said : ℕ → RequestValue → SessionValue → Option RequestValue → Standing
said number q f o = begun_by (begun number q) (in_file_of f) (left_of o)

under_way_by : (o : Option RequestValue) (number : ℕ) (q : RequestValue) (f : SessionValue)
    → f.unanswered ≡ o
    → said number q f o ≡ standings.UnderWay
    → HasRequest (Some f) (Some q) number
under_way_by None number q f is e = absurd (none_only ((in_file_of f).next == number) e)
under_way_by (Some p) number q f is e =
    let parts = under_way_only (is_question p) (latest_number f == number) (same_request q p) ((in_file_of f).next == number)
    (sym (read_so (is_question p) number q p f) ∙ e) in
    (is ∙ ap (λ (r : RequestValue). Some r) (sym (same_request-eq q p parts.2)), eqb-true (latest_number f) number parts.1)

under_way_in : (file : Option SessionValue) (number : ℕ) (q : RequestValue) (told : Option ℕ)
    → standing_of (noted_begun number q told) (option_map in_file_of file) ≡ standings.UnderWay
    → HasRequest file (Some q) number
under_way_in None number q told e = cc
under_way_in (Some f) number q told e = under_way_by f.unanswered number q f refl e

under_way-right : (file : Option SessionValue) (s : SessionValue) (moves : List Move) (number : ℕ) (q : RequestValue) (told : Option ℕ)
    → standing_at (noted_begun number q told) (desk_after file s moves) ≡ standings.UnderWay
    → HasRequest (desk_after file s moves).file (Some q) number
under_way-right file s moves number q told e = under_way_in (desk_after file s moves).file number q told e

-- a request in the file is a question, if no step was begun
never_by : (o : Option RequestValue) (number : ℕ) (q p : RequestValue) (f : SessionValue)
    → o ≡ Some p
    → said number q f o ≡ standings.NeverBegun
    → is_question p ≡ true
never_by None number q p f is e = cc
never_by (Some r) number q p f is e =
    let asks = never_only (is_question r) (latest_number f == number) (same_request q r) ((in_file_of f).next == number)
    (sym (read_so (is_question r) number q r f) ∙ e) in
    subst (λ (x : RequestValue). is_question x ≡ true) (some_same r p is) asks

never_in : (file : Option SessionValue) (number n : ℕ) (q p : RequestValue) (told : Option ℕ)
    → standing_of (noted_begun number q told) (option_map in_file_of file) ≡ standings.NeverBegun
    → HasRequest file (Some p) n
    → is_question p ≡ true
never_in None number n q p told e has = cc
never_in (Some f) number n q p told e has = never_by f.unanswered number q p f has.0 e

-- it is another than the step, if its number is taken
taken_by : (o : Option RequestValue) (number : ℕ) (q p : RequestValue) (f : SessionValue)
    → o ≡ Some p
    → said number q f o ≡ standings.NumberTaken
    → same_request q p ≡ false
taken_by None number q p f is e = cc
taken_by (Some r) number q p f is e =
    let other = taken_only (is_question r) (latest_number f == number) (same_request q r) ((in_file_of f).next == number)
    (sym (read_so (is_question r) number q r f) ∙ e) in
    subst (λ (x : RequestValue). same_request q x ≡ false) (some_same r p is) other

taken_in : (file : Option SessionValue) (number n : ℕ) (q p : RequestValue) (told : Option ℕ)
    → standing_of (noted_begun number q told) (option_map in_file_of file) ≡ standings.NumberTaken
    → HasRequest file (Some p) n
    → same_request q p ≡ false
taken_in None number n q p told e has = cc
taken_in (Some f) number n q p told e has = taken_by f.unanswered number q p f has.0 e

-- ---- what did not leave

not_it : (q p : RequestValue) → is_question q ≡ false → is_question p ≡ true → p ≡ q → ⊥
not_it q p step asks same = both_ways (is_question q) (subst (λ (r : RequestValue). is_question r ≡ true) same asks) step

other : (q p : RequestValue) → same_request q p ≡ false → p ≡ q → ⊥
other q p apart same =
    both_ways (same_request q q) (same_request-refl q) (subst (λ (r : RequestValue). same_request q r ≡ false) same apart)

not_one : (m : Sent) (notes : List Note) (file : Option SessionValue) (q : RequestValue)
    → is_question q ≡ false
    → ((n : ℕ) → SaysTold notes n → ⊥)
    → ((p : RequestValue) (n : ℕ) → HasRequest file (Some p) n → p ≡ q → ⊥)
    → IsKept notes file m
    → m.request ≡ q
    → ⊥
not_one m notes file q step untold apart (inl asks) same = not_it q m.request step asks same
not_one m notes file q step untold apart (inr (inl has)) same = apart m.request m.number has same
not_one m notes file q step untold apart (inr (inr told)) same = untold m.number told

not_among : (left : List Sent) (notes : List Note) (file : Option SessionValue) (q : RequestValue)
    → is_question q ≡ false
    → ((n : ℕ) → SaysTold notes n → ⊥)
    → ((p : RequestValue) (n : ℕ) → HasRequest file (Some p) n → p ≡ q → ⊥)
    → AreKept notes file left
    → HasNotLeft q left
not_among [] notes file q step untold apart h = tt
not_among (m ∷ ms) notes file q step untold apart h =
    (not_one m notes file q step untold apart h.0, not_among ms notes file q step untold apart h.1)

untold : (notes further : List Note) (tag number n : ℕ) → notes ≡ IsBegun tag number ∷ further → SaysTold notes n → ⊥
untold notes further tag number n is says = subst (λ (ns : List Note). SaysTold ns n) is says

abbrev so : (file : Option SessionValue) (s : SessionValue) (moves : List Move) → AreAllowed (opened_desk file s) moves
    → Holds (desk_after file s moves) (watch_after file s moves)
so file s moves may = hold_along moves (opened_desk file s) nothing_seen (holds_at_first file s) may

never_begun-right : (file : Option SessionValue) (s : SessionValue) (moves : List Move) (tag number : ℕ) (q : RequestValue)
    (told : Option ℕ) (further : List Note)
    → AreAllowed (opened_desk file s) moves
    → (desk_after file s moves).notes ≡ IsBegun tag number ∷ further
    → is_question q ≡ false
    → standing_at (noted_begun number q told) (desk_after file s moves) ≡ standings.NeverBegun
    → HasNotLeft q (watch_after file s moves).left
never_begun-right file s moves tag number q told further may is step e =
    let d = desk_after file s moves in
    not_among (watch_after file s moves).left d.notes d.file q step (λ n says. untold d.notes further tag number n is says)
    (λ p n has same. not_it q p step (never_in d.file number n q p told e has) same) (so file s moves may).kept

number_taken-right : (file : Option SessionValue) (s : SessionValue) (moves : List Move) (tag number : ℕ) (q : RequestValue)
    (told : Option ℕ) (further : List Note)
    → AreAllowed (opened_desk file s) moves
    → (desk_after file s moves).notes ≡ IsBegun tag number ∷ further
    → is_question q ≡ false
    → standing_at (noted_begun number q told) (desk_after file s moves) ≡ standings.NumberTaken
    → HasNotLeft q (watch_after file s moves).left
number_taken-right file s moves tag number q told further may is step e =
    let d = desk_after file s moves in
    not_among (watch_after file s moves).left d.notes d.file q step (λ n says. untold d.notes further tag number n is says)
    (λ p n has same. other q p (taken_in d.file number n q p told e has) same) (so file s moves may).kept

-- ---- an answer that is noted

told_question : (b : Bool) (p : RequestValue) (number : ℕ) (f : SessionValue)
    → is_question p ≡ b
    → left_by (Some number) (in_file_of f) (if b then None else Some p) ≡ standings.Told
    → is_question p ≡ false
told_question true p number f is e = cc
told_question false p number f is e = is

-- no question is said to be told
told_by : (o : Option RequestValue) (number : ℕ) (f : SessionValue)
    → left_by (Some number) (in_file_of f) (left_of o) ≡ standings.Told
    → (p : RequestValue) × (o ≡ Some p) × (is_question p ≡ false)
told_by None number f e = cc
told_by (Some p) number f e = (p, refl, told_question (is_question p) p number f refl e)

told_in : (file : Option SessionValue) (asked : Option RequestValue) (number : ℕ)
    → standing_of (noted_told number) (option_map in_file_of file) ≡ standings.Told
    → FreeOr file asked number
    → HasRequest file asked number
told_in None asked number e h = cc
told_in (Some f) asked number e (inr has) = has
told_in (Some f) asked number e (inl free) =
    let p = told_by f.unanswered number f e in
    absurd (both_ways (is_question p.0) (free_has (Some f) p.0 (latest_number f) free (p.1, refl)) p.2)

told-right : (file : Option SessionValue) (s : SessionValue) (moves : List Move) (tag number : ℕ) (outcome : Outcome) (further : List Note)
    → AreAllowed (opened_desk file s) moves
    → (desk_after file s moves).notes ≡ IsTold tag number outcome ∷ further
    → standing_at (noted_told number) (desk_after file s moves) ≡ standings.Told
    → HasRequest (desk_after file s moves).file (watch_after file s moves).told number
told-right file s moves tag number outcome further may is e =
    told_in (desk_after file s moves).file (watch_after file s moves).told number e
    ((so file s moves may).tells number (ap told_number is))

pub returns : goal.returns
returns c = record {
  under_way = under_way-right;
  never_begun = never_begun-right;
  number_taken = number_taken-right;
  told = told-right;
}
