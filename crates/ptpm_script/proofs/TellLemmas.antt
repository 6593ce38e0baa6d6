-- What marks tell: the first of them says what is refused, and where there are none nothing is.
use Rattle.std.proofs.Common.{◌≡◌, List, [], ◌∷◌, Option, Some, None, Result, Ok, Err, refl, ℕ, Bool, true, false, not, if◌then◌else◌, ◌++◌, find, ap, subst, ◌∙◌, is_some, option_map}
use Rattle.ptpm_script.specs.Faults.{first_refusal}
use Rattle.ptpm_script.specs.Marks.{Mark, Spot, at_key, mark_if, value_mark, value_mark_if}
use Rattle.ptpm_script.specs.NetworkText.{judged}
use Rattle.ptpm_script.specs.NetworkValue.{NetworkValue}
use Rattle.ptpm_script.specs.declared.net_error.NetError.{NetError}
use Rattle.std.specs.Option.{option_or}
use Rattle.toml.specs.Data.{Data, Members, get_member}
use Rattle.ptpm_data.specs.MemberNames.{member_name}
use Rattle.ptpm_data.specs.Start.{first_out}
use Rattle.ptpm_data.specs.declared.members.Member.{Member}
use Rattle.ptpm_data.specs.declared.start.StartError.{StartError}
use Rattle.ptpm_data.specs.declared.start.StartError.TheVariants.{BadValue}
use Rattle.ptpm_script.specs.declared.net_error.NetError.TheVariants.{BadClock}
use Rattle.ptpm_script.specs.StartFaults.{out_marks}

-- ---- what is judged by marks is refused as the first of them is, and is what it was if there is none

abbrev pub refused_by : Option NetError → NetworkValue → Result NetworkValue NetError
refused_by None network = Ok network
refused_by (Some class) network = Err class

pub judged_by_first : (marks : List Mark) (network : NetworkValue) → judged marks network ≡ refused_by (first_refusal marks) network
judged_by_first [] network = refl
judged_by_first (m ∷ marks) network = refl

-- ---- which fault of a start some marks tell of: the first is of it, and there are none if there is none

abbrev pub Tells : Option StartError → List Mark → Type 0
Tells o marks = first_refusal marks ≡ option_map (λ e. BadClock e) o

first_append : (xs ys : List Mark) → first_refusal (xs ++ ys) ≡ option_or (first_refusal xs) (first_refusal ys)
first_append [] ys = refl
first_append (x ∷ xs) ys = refl

abbrev pub fault_if : Bool → StartError → Option StartError
fault_if test fault = if test then Some fault else None

-- one fault after another: of the second only if there is not the first
pub tells-append : (o p : Option StartError) (xs ys : List Mark)
    → Tells o xs
    → (o ≡ None → Tells p ys)
    → Tells (option_or o p) (xs ++ ys)
tells-append None p xs ys h k = first_append xs ys ∙ ap (λ t. option_or t (first_refusal ys)) h ∙ k refl
tells-append (Some e) p xs ys h k = first_append xs ys ∙ ap (λ t. option_or t (first_refusal ys)) h

tells_there : (fault : StartError) (spot : Spot) (key : List ℕ) (o : Option Data)
    → (o ≡ None → true ≡ false)
    → Tells (Some fault) (mark_if (is_some o) (BadClock fault) spot (at_key key))
tells_there fault spot key None never = cc (never refl)
tells_there fault spot key (Some d) never = refl

-- the value at a key, if a test holds, which it doesn't if the key is not there
pub tells-value : (test : Bool) (fault : StartError) (spot : Spot) (key : List ℕ) (ms : Members)
    → (get_member key ms ≡ None → test ≡ false)
    → Tells (fault_if test fault) (value_mark_if test (BadClock fault) spot key ms)
unfolding value_mark
tells-value true fault spot key ms never = tells_there fault spot key (get_member key ms) never
tells-value false fault spot key ms never = refl

-- ---- members that are out of their ranges

out_or : (b : Bool) (m : Member) (o : Option Member)
    → option_or (fault_if b (BadValue m)) (option_map BadValue o) ≡ option_map BadValue (if b then Some m else o)
out_or true m o = refl
out_or false m o = refl

-- of the first member that is out of its range; none is whose key is not there
pub tells-out : (is_in : Member → Bool) (spot : Spot) (ms : Members) (judged : List Member)
    → ((m : Member) → get_member (member_name m) ms ≡ None → is_in m ≡ true)
    → Tells (first_out is_in judged) (out_marks is_in spot ms judged)
tells-out is_in spot ms [] absent = refl
tells-out is_in spot ms (m ∷ judged) absent =
    let out = not (is_in m) in
    subst (λ o. Tells o (out_marks is_in spot ms (m ∷ judged))) (out_or out m (find (λ n. not (is_in n)) judged))
    (tells-append _ (first_out is_in judged) _ (out_marks is_in spot ms judged)
    (tells-value out (BadValue m) spot (member_name m) ms (λ none. ap not (absent m none)))
    (λ only. tells-out is_in spot ms judged absent))
