-- Laws of a survey's answers: what one more datagram does to the first answer of each source.
use Rattle.std.proofs.Common.{◌≡◌, ℕ, ◌<◌, ◌≤◌, Bool, true, false, not, ◌||◌, cond, nat_lt, List, [], ◌∷◌, ◌++◌, filter, filter_map, length, take, Option, Some, None, is_some, Result, Ok, Err, refl, sym, ap, subst, ◌∙◌, arith}
use Rattle.std.specs.List.{list_any}
use Rattle.std.specs.Map.{lookup}
use Rattle.std.proofs.Math.Logic.{⊎_elim}
use Rattle.std.proofs.lemmas.Bool.{cases_Bool, cond-true, cond-false, cases_lt, lt-ltb, le-ltb}
use Rattle.std.proofs.lemmas.List.{append-nil, length-append, length-take-le, take_all, take-append-le}
use Rattle.std.proofs.lemmas.List.Elements.{filter-append, filter_map-append}
use Rattle.std.proofs.lemmas.Map.Views.{any-filter_same}
use Rattle.ptpm_codec.specs.declared.identity.PortIdentity.{PortIdentity}
use Rattle.ptpm_codec.specs.Identity.{same_identity}
use Rattle.ptpm_codec.proofs.MessageLaws.{same_identity-true}
use Rattle.ptpm_manager.specs.declared.enquiry.Enquiry.{Enquiry}
use Rattle.ptpm_manager.specs.declared.receiving.Reason.{Reason}
use Rattle.ptpm_manager.specs.Answers.{Answer, answer_limit, answer_of_heard, firsts, first_of_each_source, has_answered, heard, kept_by}

-- whether a look-up in a list of entries finds something
pub is_some-lookup : {K X : Type 0} (test : K → Bool) (es : List (K × X))
    → is_some (lookup test es) ≡ list_any (λ e. test e.0) es
is_some-lookup test [] = refl
is_some-lookup test (e ∷ es) =
    elim (test e.0) as (λ b. is_some (cond b (Some e.1) (lookup test es)) ≡ (b || list_any (λ x. test x.0) es))
    [ true ↦ refl | false ↦ is_some-lookup test es ]

-- of two sources that differ, the first's answers leave those of the second
has_answered-further : (x a : Answer) (kept : List Answer) → same_identity a.0 x.0 ≡ false
    → has_answered a.0 (filter (λ b. not (same_identity b.0 x.0)) kept) ≡ has_answered a.0 kept
has_answered-further x a kept other =
    any-filter_same (λ b. same_identity a.0 b.0) (λ b. not (same_identity b.0 x.0)) true
    (λ b same. ap not (subst (λ (p : PortIdentity). same_identity p x.0 ≡ false) (same_identity-true a.0 b.0 same) other)) kept

further-same : (x a : Answer) (kept : List Answer) → same_identity a.0 x.0 ≡ true
    → filter (λ b. not (same_identity b.0 x.0)) (kept ++ a ∷ [])
    ≡ filter (λ b. not (same_identity b.0 x.0)) kept
further-same x a kept h =
    let test : Answer → Bool = λ b. not (same_identity b.0 x.0) in
    filter-append test kept (a ∷ []) ∙ ap (λ l. filter test kept ++ l) (cond-false _ (a ∷ []) [] (ap not h)) ∙ append-nil _

further-other : (x a : Answer) (kept : List Answer) → same_identity a.0 x.0 ≡ false
    → filter (λ b. not (same_identity b.0 x.0)) (kept ++ a ∷ [])
    ≡ filter (λ b. not (same_identity b.0 x.0)) kept ++ a ∷ []
further-other x a kept h =
    let test : Answer → Bool = λ b. not (same_identity b.0 x.0) in
    filter-append test kept (a ∷ []) ∙ ap (λ l. filter test kept ++ l) (cond-true _ (a ∷ []) [] (ap not h))

-- one more answer, after x and the answers of other sources
firsts-step-same : (x a : Answer) (kept : List Answer) → same_identity a.0 x.0 ≡ true →
    x ∷ filter (λ b. not (same_identity b.0 x.0)) (cond (has_answered a.0 kept) kept (kept ++ a ∷ []))
    ≡ cond (same_identity a.0 x.0 || has_answered a.0 (filter (λ b. not (same_identity b.0 x.0)) kept))
    (x ∷ filter (λ b. not (same_identity b.0 x.0)) kept)
    (x ∷ (filter (λ b. not (same_identity b.0 x.0)) kept ++ a ∷ []))
firsts-step-same x a kept h =
    let test : Answer → Bool = λ b. not (same_identity b.0 x.0) in
    let left : x ∷ filter test (cond (has_answered a.0 kept) kept (kept ++ a ∷ [])) ≡ x ∷ filter test kept =
    elim (has_answered a.0 kept) as (λ b. x ∷ filter test (cond b kept (kept ++ a ∷ [])) ≡ x ∷ filter test kept)
    [ true ↦ refl | false ↦ ap (λ l. x ∷ l) (further-same x a kept h) ] in
    left ∙ sym (cond-true _ _ _ (ap (λ b. b || has_answered a.0 (filter test kept)) h))

firsts-step-other : (x a : Answer) (kept : List Answer) → same_identity a.0 x.0 ≡ false →
    x ∷ filter (λ b. not (same_identity b.0 x.0)) (cond (has_answered a.0 kept) kept (kept ++ a ∷ []))
    ≡ cond (same_identity a.0 x.0 || has_answered a.0 (filter (λ b. not (same_identity b.0 x.0)) kept))
    (x ∷ filter (λ b. not (same_identity b.0 x.0)) kept)
    (x ∷ (filter (λ b. not (same_identity b.0 x.0)) kept ++ a ∷ []))
firsts-step-other x a kept h =
    let test : Answer → Bool = λ b. not (same_identity b.0 x.0) in
    let kept_so : Bool → List Answer = λ b. cond b (x ∷ filter test kept) (x ∷ (filter test kept ++ a ∷ [])) in
    let left : x ∷ filter test (cond (has_answered a.0 kept) kept (kept ++ a ∷ [])) ≡ kept_so (has_answered a.0 kept) =
    elim (has_answered a.0 kept) as (λ b. x ∷ filter test (cond b kept (kept ++ a ∷ [])) ≡ kept_so b)
    [ true ↦ refl | false ↦ ap (λ l. x ∷ l) (further-other x a kept h) ] in
    left ∙ sym (ap kept_so (ap (λ b. b || has_answered a.0 (filter test kept)) h ∙ has_answered-further x a kept h))

firsts-step : (x a : Answer) (kept : List Answer) →
    x ∷ filter (λ b. not (same_identity b.0 x.0)) (cond (has_answered a.0 kept) kept (kept ++ a ∷ []))
    ≡ cond (same_identity a.0 x.0 || has_answered a.0 (filter (λ b. not (same_identity b.0 x.0)) kept))
    (x ∷ filter (λ b. not (same_identity b.0 x.0)) kept)
    (x ∷ (filter (λ b. not (same_identity b.0 x.0)) kept ++ a ∷ []))
firsts-step x a kept =
    ⊎_elim (λ (h : same_identity a.0 x.0 ≡ true). firsts-step-same x a kept h)
    (λ (h : same_identity a.0 x.0 ≡ false). firsts-step-other x a kept h) (cases_Bool (same_identity a.0 x.0))

firsts-snoc : (xs : List Answer) (a : Answer)
    → firsts (xs ++ a ∷ []) ≡ cond (has_answered a.0 (firsts xs)) (firsts xs) (firsts xs ++ a ∷ [])
firsts-snoc [] a = refl
firsts-snoc (x ∷ xs) a = ap (λ kept. x ∷ filter (λ b. not (same_identity b.0 x.0)) kept) (firsts-snoc xs a) ∙ firsts-step x a (firsts xs)

-- one more answer, if there is room for it, and if there is none

kept-small : (kept : List Answer) (a : Answer) → length kept < answer_limit
    → kept_by kept (Ok a) ≡ take answer_limit (cond (has_answered a.0 kept) kept (kept ++ a ∷ []))
kept-small kept a room =
    elim (has_answered a.0 kept)
    as (λ b. cond b kept (cond (nat_lt (length kept) answer_limit) (kept ++ a ∷ []) kept) ≡ take answer_limit (cond b kept (kept ++ a ∷ []))) [
      | true ↦ sym (take_all answer_limit kept (omega arith))
      | false ↦ cond-true _ (kept ++ a ∷ []) kept (lt-ltb (length kept) answer_limit room)
          ∙ sym (take_all answer_limit (kept ++ a ∷ []) (omega (arith, length-append kept (a ∷ []))))
    ]

kept-full : (answers : List Answer) (a : Answer)
    → answer_limit ≤ length answers
    → kept_by answers (Ok a) ≡ answers
kept-full answers a full =
    elim (has_answered a.0 answers) as (λ b. cond b answers (cond (nat_lt (length answers) answer_limit) (answers ++ a ∷ []) answers) ≡ answers)
    [ true ↦ refl | false ↦ cond-false _ (answers ++ a ∷ []) answers (le-ltb (length answers) answer_limit full) ]

taken-full : (kept : List Answer) (a : Answer) (b : Bool)
    → answer_limit ≤ length kept
    → take answer_limit (cond b kept (kept ++ a ∷ [])) ≡ take answer_limit kept
taken-full kept a true full = refl
taken-full kept a false full = take-append-le answer_limit kept (a ∷ []) full

kept-firsts : (answers kept : List Answer) (a : Answer) → answers ≡ take answer_limit kept
    → kept_by answers (Ok a) ≡ take answer_limit (cond (has_answered a.0 kept) kept (kept ++ a ∷ []))
kept-firsts answers kept a h =
    ⊎_elim
    (λ (room : length kept < answer_limit). ap (λ l. kept_by l (Ok a)) (h ∙ take_all answer_limit kept (omega arith)) ∙ kept-small kept a room)
    (λ (full : answer_limit ≤ length kept).
    kept-full answers a (omega (arith, ap length h, length-take-le answer_limit kept full)) ∙ h ∙ sym (taken-full kept a _ full))
    (cases_lt (length kept) answer_limit)

kept-heard : (answers xs : List Answer) (r : Result Answer Reason) → answers ≡ take answer_limit (firsts xs)
    → kept_by answers r ≡ take answer_limit (firsts (xs ++ filter_map answer_of_heard (r ∷ [])))
kept-heard answers xs (Ok a) h = kept-firsts answers (firsts xs) a h ∙ sym (ap (take answer_limit) (firsts-snoc xs a))
kept-heard answers xs (Err reason) h = h ∙ sym (ap (λ l. take answer_limit (firsts l)) (append-nil xs))

-- one more datagram
pub first_of_each_source-snoc : (e : Enquiry) (datagrams : List (List ℕ)) (d : List ℕ)
    (answers : List Answer)
    → answers ≡ first_of_each_source e datagrams
    → kept_by answers (heard e d) ≡ first_of_each_source e (datagrams ++ d ∷ [])
unfolding first_of_each_source
first_of_each_source-snoc e datagrams d answers h =
    kept-heard answers (filter_map (λ x. answer_of_heard (heard e x)) datagrams) (heard e d) h
    ∙ sym (ap (λ l. take answer_limit (firsts l)) (filter_map-append (λ x. answer_of_heard (heard e x)) datagrams (d ∷ [])))

-- the same, if the datagram was heard as r, and this is what is left of the answers
pub first_of_each_source-left : (e : Enquiry) (datagrams : List (List ℕ)) (d : List ℕ)
    (r : Result Answer Reason) (answers left : List Answer)
    → heard e d ≡ r → left ≡ kept_by answers r → answers ≡ first_of_each_source e datagrams
    → left ≡ first_of_each_source e (datagrams ++ d ∷ [])
first_of_each_source-left e datagrams d r answers left is kept h =
    kept ∙ sym (ap (kept_by answers) is) ∙ first_of_each_source-snoc e datagrams d answers h

pub none_where : {X : Type 0} (o : Option X) → is_some o ≡ false → o ≡ None
none_where None h = refl
none_where (Some x) h = cc
