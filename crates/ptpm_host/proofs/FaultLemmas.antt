-- A fault of words is of one of the members that they are for.
use Rattle.std.proofs.Common.{arith, ◌≡◌, ◌≢◌, refl, sym, subst, ℕ, suc, ◌*◌, ◌<◌, ◌==◌, List, [], ◌∷◌, length, get_or, drop, replicate, Bool, true, false, Option, Some, None, Result, Ok, Err, inl, inr, ◌⊎◌}
use Rattle.std.specs.Prelude.{Any, if◌then◌else◌}
use Rattle.std.specs.Str.{str_eq_ignore_ascii_case}
use Rattle.ptpm_data.specs.ManagementId.{RowValue, row_of}
use Rattle.ptpm_members.specs.declared.forms.Field.{Field}
use Rattle.ptpm_members.specs.declared.names.Member.{Member}
use Rattle.ptpm_members.specs.declared.parsing.ParseFault.{ParseFault}
use Rattle.ptpm_members.specs.declared.parsing.ParseFault.TheVariants as faults
use Rattle.ptpm_members.specs.Names.{member_name}
use Rattle.ptpm_members.specs.Parsed.{each_named, laid, or_no_value, parsed, parsed_row, then_with, with_all, with_named, with_value, with_words, word}
use Rattle.ptpm_members.specs.Tables.{field_size, fields_of, fields_of_id, fields_of_row}
use Rattle.ptpm_host.specs.Parsing.{IsOfMember}

abbrev IsOf : Field → ParseFault → Type 0
IsOf f fault = (fault ≡ faults.OtherName f.0) ⊎ (fault ≡ faults.NoValue f.0)

of_first : (f : Field) (fs : List Field) (fault : ParseFault) → IsOf f fault → IsOfMember (f ∷ fs) fault
of_first f fs fault (inl e) = subst (IsOfMember (f ∷ fs)) (sym e) (0, f, omega arith, refl, refl)
of_first f fs fault (inr e) = subst (IsOfMember (f ∷ fs)) (sym e) (0, f, omega arith, refl, refl)

of_later : (f : Field) (fs : List Field) (fault : ParseFault) → IsOfMember fs fault → IsOfMember (f ∷ fs) fault
of_later f fs faults.NoSuchId of = tt
of_later f fs faults.WordCount of = tt
of_later f fs (faults.OtherName m) of = (suc of.0, of.1, omega (arith, of.2), of.3, of.4)
of_later f fs (faults.NoValue m) of = (suc of.0, of.1, omega (arith, of.2), of.3, of.4)

of_value : (f : Field) (text field : List ℕ) (fault : ParseFault) → with_value f text field ≡ Err fault → fault ≡ faults.NoValue f.0
unfolding with_value
of_value f text field fault = by (laid f.2 f.1 text field)
  where
    by : (o : Option (List ℕ)) → or_no_value f.0 o ≡ Err fault → fault ≡ faults.NoValue f.0
    by None e = cc
    by (Some laid) e = cc

of_named : (f : Field) (name text field : List ℕ) (fault : ParseFault) → with_named f name text field ≡ Err fault → IsOf f fault
unfolding with_named
of_named f name text field fault = by (str_eq_ignore_ascii_case name (member_name f.0))
  where
    by : (same : Bool) → (if same then with_value f text field else Err (faults.OtherName f.0)) ≡ Err fault → IsOf f fault
    by true e = inr (of_value f text field fault e)
    by false e = let is : fault ≡ faults.OtherName f.0 = cc in inl is

of_each : (fs : List Field) (words : List (List ℕ)) (field : List ℕ) (fault : ParseFault) → each_named fs words field ≡ Err fault → IsOfMember fs fault
unfolding each_named
of_each [] words field fault e = absurd cc
of_each (f ∷ fs) words field fault e =
    by (with_named f (word 0 words) (word 1 words) field) (of_named f (word 0 words) (word 1 words) field fault)
    (λ next. of_each fs (drop 2 words) next fault) e
  where
    by : (r : Result (List ℕ) ParseFault) → (r ≡ Err fault → IsOf f fault)
        → ((next : List ℕ) → each_named fs (drop 2 words) next ≡ Err fault → IsOfMember fs fault)
        → then_with r (each_named fs (drop 2 words)) ≡ Err fault → IsOfMember (f ∷ fs) fault
    by (Err x) here later e = of_first f fs fault (here e)
    by (Ok next) here later e = of_later f fs fault (later next e)

of_all : (fs : List Field) (words : List (List ℕ)) (field : List ℕ) (fault : ParseFault) → with_all fs words field ≡ Err fault → IsOfMember fs fault
unfolding with_all
of_all fs words field fault = by (length words == 2 * length fs)
  where
    by : (b : Bool) → (if b then each_named fs words field else Err faults.WordCount) ≡ Err fault → IsOfMember fs fault
    by true e = of_each fs words field fault e
    by false e = let is : faults.WordCount ≡ fault = cc in subst (IsOfMember fs) is tt

of_words : (fs : List Field) (words : List (List ℕ)) (field : List ℕ) (fault : ParseFault) → with_words fs words field ≡ Err fault → IsOfMember fs fault
unfolding with_words
of_words [] words field fault e = of_all [] words field fault e
of_words (f ∷ g ∷ fs) words field fault e = of_all (f ∷ g ∷ fs) words field fault e
of_words (f ∷ []) words field fault e = by (length words == 1) e
  where
    by : (b : Bool) → (if b then with_value f (word 0 words) field else with_all (f ∷ []) words field) ≡ Err fault → IsOfMember (f ∷ []) fault
    by true e = of_first f [] fault (inr (of_value f (word 0 words) field fault e))
    by false e = of_all (f ∷ []) words field fault e

pub fault_of_member : (id : ℕ) (words : List (List ℕ)) (fault : ParseFault) → parsed id words ≡ Err fault → IsOfMember (fields_of_id id) fault
unfolding parsed
fault_of_member id words fault = by (row_of id)
  where
    by : (row : Option RowValue) → parsed_row row words ≡ Err fault → IsOfMember (fields_of_row row) fault
    by None e = let is : faults.NoSuchId ≡ fault = cc in subst (IsOfMember []) is tt
    by (Some row) e = of_words (fields_of row.layout) words (replicate (field_size row.layout) 0) fault e

-- ---- the place of a member

pub never_met : (member : Member) (fields all : List Field) → fields ≡ all → Any (λ f. f.0 ≡ member) all
    → ((k : ℕ) (d : Field) → k < length fields → (get_or fields k d).0 ≢ member) → ⊥
never_met member fields all is any none =
    none any.0 any.1 (rw is any.2) (rw (is, any.3) any.4)
