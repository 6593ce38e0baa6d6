-- Looking a name up by way of the ids.
use Rattle.std.proofs.Common.{arith, ◌≡◌, ℕ, ◌+◌, ◌<◌, ◌≤◌, List, [], ◌∷◌, Option, Some, None, if◌then◌else◌, bytes_eq, drop, length, get_or, drop-cons, add-one, refl, ap, ◌∙◌}
use Rattle.std.proofs.Math.ListN.{drop_of_length-le}
use Rattle.ptpm_data.specs.ManagementId.{RowValue, row_of, row_named, if_named}

-- the entry if it has the name, else what comes after
abbrev pub named_or : List ℕ → Option RowValue → Option RowValue → Option RowValue
named_or name None o = o
named_or name (Some e) o = if bytes_eq e.name name then Some e else o

-- the first of the ids that has the name
unfoldable pub named_among : List ℕ → List ℕ → Option RowValue
named_among name [] = None
named_among name (id ∷ ids) = named_or name (row_of id) (named_among name ids)

abbrev pub management_ids : List ℕ
management_ids =
    0x0000 ∷ 0x0002 ∷ 0x2000 ∷ 0x2001 ∷ 0x2002 ∷ 0x2003 ∷ 0x2004 ∷ 0x2005 ∷ 0x2006 ∷ 0x2007 ∷ 0x2008 ∷ 0x2009 ∷ 0x200a
    ∷ 0x200b ∷ 0x200c ∷ 0x200d ∷ 0x200e ∷ 0x2010 ∷ 0x2011 ∷ 0x6000 ∷ 0x6001 ∷ []

-- these are all that the table has
pub named_among_all : (name : List ℕ) → row_named name ≡ named_among name management_ids
unfolding row_named row_of named_among
named_among_all name = refl

pub named_among_step : (name ids : List ℕ) (i : ℕ) → i < length ids
    → named_among name (drop i ids)
    ≡ named_or name (row_of (get_or ids i 0)) (named_among name (drop (i + 1) ids))
unfolding named_among
named_among_step name ids i h = rw (drop-cons ids i 0 h, add-one i) refl

-- at one id: another name
pub passes : (name : List ℕ) (r o : Option RowValue) → if_named name r ≡ None → named_or name r o ≡ o
passes name None o h = refl
passes name (Some e) o h = grind (arith, bytes_eq)

-- at one id: this name
pub stops : (name : List ℕ) (r o : Option RowValue) (e : RowValue)
    → if_named name r ≡ Some e
    → named_or name r o ≡ Some e
stops name None o e h = cc
stops name (Some d) o e h = grind (arith, bytes_eq)

pub goes_on : (name ids : List ℕ) (i : ℕ)
    → i < length ids
    → row_named name ≡ named_among name (drop i ids)
    → if_named name (row_of (get_or ids i 0)) ≡ None
    → row_named name ≡ named_among name (drop (i + 1) ids)
goes_on name ids i below here other = here ∙ named_among_step name ids i below ∙ passes name _ _ other

pub is_found : (name ids : List ℕ) (i : ℕ) (e : RowValue)
    → i < length ids
    → row_named name ≡ named_among name (drop i ids)
    → if_named name (row_of (get_or ids i 0)) ≡ Some e → row_named name ≡ Some e
is_found name ids i e below here this = here ∙ named_among_step name ids i below ∙ stops name _ _ e this

pub is_nowhere : (name ids : List ℕ) (i : ℕ)
    → length ids ≤ i
    → row_named name ≡ named_among name (drop i ids)
    → row_named name ≡ None
unfolding named_among
is_nowhere name ids i past here = here ∙ ap (named_among name) (drop_of_length-le ids past)
