-- The dataField of a SET from the words of a host, and why there is none (this project's profile).
use Rattle.std.specs.Prelude.{◌≡◌, ℕ, ◌<◌, List, length, slice_get, Any, IsErrAnd, IsSomeAnd, MatchResult, Result, Ok, Err, ⊤}
use Rattle.ptpm_members.specs.declared.forms.Field.{Field}
use Rattle.ptpm_members.specs.declared.names.Member.{Member}
use Rattle.ptpm_members.specs.declared.parsing.ParseFault.{ParseFault}
use Rattle.ptpm_members.specs.declared.parsing.ParseFault.TheVariants as faults
use Rattle.ptpm_members.specs.Parsed.{parsed}
use Rattle.ptpm_members.specs.Tables.{fields_of_id}
use Rattle.ptpm_host.specs.declared.refusal.ParseRefusal.{ParseRefusal}
use Rattle.ptpm_host.specs.declared.refusal.ParseRefusal.TheVariants as refusals
use Rattle.ptpm_host.specs.Texts.{IsHandedOut}

-- ---- the member at fault

-- the member is at this place of the id's dataField, counted from 0
abbrev pub IsMemberAt : ℕ → ℕ → Member → Type 0
IsMemberAt id place member = IsSomeAnd (slice_get (fields_of_id id) place) (λ f. f.0 ≡ member)

-- a fault is of one of these members, if it is of any
abbrev pub IsOfMember : List Field → ParseFault → Type 0
IsOfMember fields faults.NoSuchId = ⊤
IsOfMember fields faults.WordCount = ⊤
IsOfMember fields (faults.OtherName member) = Any (λ f. f.0 ≡ member) fields
IsOfMember fields (faults.NoValue member) = Any (λ f. f.0 ≡ member) fields

-- the refusal for a fault
abbrev pub IsRefusal : ℕ → ParseFault → ParseRefusal → Type 0
IsRefusal id faults.NoSuchId refusal = refusal ≡ refusals.UnknownId
IsRefusal id faults.WordCount refusal = refusal ≡ refusals.WordCount
IsRefusal id (faults.OtherName member) refusal = (place : ℕ) × IsMemberAt id place member × (refusal ≡ refusals.OtherName place)
IsRefusal id (faults.NoValue member) refusal = (place : ℕ) × IsMemberAt id place member × (refusal ≡ refusals.NoValue place)

-- ---- the answer

-- a dataField is left whole at the head of a room, or not at all
abbrev pub IsFitted : List ℕ → List ℕ → List ℕ → Result ℕ ParseRefusal → Type 0
IsFitted field before after answer = MatchResult answer
    (λ count. IsHandedOut field count before after)
    (λ refusal. (refusal ≡ refusals.NoRoom) × (length before < length field))

-- what is answered for what the words mean
abbrev pub IsAnswered : ℕ → Result (List ℕ) ParseFault → List ℕ → List ℕ → Result ℕ ParseRefusal → Type 0
IsAnswered id (Ok field) before after answer = IsFitted field before after answer
IsAnswered id (Err fault) before after answer = IsErrAnd answer (IsRefusal id fault)

-- words for a SET of an id are answered so
abbrev pub IsParsed : ℕ → List (List ℕ) → List ℕ → List ℕ → Result ℕ ParseRefusal → Type 0
IsParsed id words before after answer = IsAnswered id (parsed id words) before after answer

-- ---- as numbers

-- the place of the member that is at fault; 0 if none is
abbrev pub fault_place : ParseRefusal → ℕ
fault_place (refusals.OtherName place) = place
fault_place (refusals.NoValue place) = place
fault_place refusal = 0
