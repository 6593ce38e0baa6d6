-- The head of an image, its data sets and its entries, put together and taken apart.
use Rattle.std.proofs.Common.{◌≡◌, ℕ, ◌%◌, ◌/◌, ◌≤◌, ◌||◌, false, arith, refl, sym, ◌∙◌, ap, List, [], ◌∷◌, ◌++◌, length, take, drop, None, subst, nat_lt, length-append}
use Rattle.std.proofs.lemmas.Bool.Decides.{nat_tests}
use Rattle.std.proofs.lemmas.List.{take-append-drop}
use Rattle.std.proofs.Math.Seq.{drop-append_seam, take-append_seam}
use Rattle.ptpm_codec.specs.Ordered.{first_of}
use Rattle.ptpm_data.specs.Image.{BeginsWithImage, DataSetsFit, data_sets_octets}
use Rattle.ptpm_data.specs.Members.{DataSetsValue, IsConsistent}
use Rattle.ptpm_manager.specs.Image.{image_head, mark}
use Rattle.ptpm_saved.specs.declared.error.RestoreError.{RestoreError}
use Rattle.ptpm_saved.specs.declared.error.RestoreError.TheVariants as restores
use Rattle.ptpm_saved.specs.Image.{AreEntries, SavedClock, answers_kept, body_image, entries_image, saved_image}
use Rattle.ptpm_saved.specs.Restoring.{IsBegun, IsImageOf, IsOpened, IsRefusedByHead, head_refusal}
use Rattle.ptpm_saved.proofs.EntryOrder.{Pair}
use Rattle.ptpm_saved.proofs.ImageLemmas.{head_length}

-- ---- the head

-- a size is written modulo 2 ^ 32
pub head_wraps : (n : ℕ) → image_head 1 (n % 4294967296) ≡ image_head 1 n
unfolding image_head
head_wraps n =
    let a : n % 4294967296 / 16777216 % 256 ≡ n / 16777216 % 256 = omega arith in
    let b : n % 4294967296 / 65536 % 256 ≡ n / 65536 % 256 = omega arith in
    let c : n % 4294967296 / 256 % 256 ≡ n / 256 % 256 = omega arith in
    let d : n % 4294967296 % 256 ≡ n % 256 = omega arith in
    (λ i. mark ++ 1 ∷ 1 ∷ 0 ∷ 0 ∷ [] ++ a i ∷ b i ∷ c i ∷ d i ∷ [])

long_enough : (xs : List ℕ) → 12 ≤ length xs → nat_lt (length xs) 12 ≡ false
long_enough xs h = grind (arith, nat_tests)

head_taken : (n : ℕ) (body : List ℕ) → head_refusal (image_head 1 n ++ body) ≡ None
unfolding head_refusal image_head
head_taken n body =
    ap (λ b. first_of ((b || false, restores.NotAnImage) ∷ (false, restores.OtherVersion) ∷ (false, restores.OtherKind) ∷ []))
    (long_enough (image_head 1 n ++ body) (omega (arith, length-append (image_head 1 n) body, head_length 1 n)))

pub image_taken : (k : SavedClock) (image : List ℕ) → IsImageOf k image → head_refusal image ≡ None
unfolding saved_image
image_taken k image is = ap head_refusal is.octets_are ∙ head_taken (length (body_image k)) (body_image k)

pub image_long : (k : SavedClock) (image : List ℕ) → IsImageOf k image → 12 ≤ length image
unfolding saved_image
image_long k image is =
    let n = length (body_image k) in
    omega (arith, ap length is.octets_are, length-append (image_head 1 n) (body_image k), head_length 1 n)

pub not_refused : (image : List ℕ) (e : RestoreError) → IsRefusedByHead image e → head_refusal image ≡ None → ⊥
not_refused image restores.NotAnImage is none = let both = sym is ∙ none in cc
not_refused image restores.OtherVersion is none = let both = sym is ∙ none in cc
not_refused image restores.OtherKind is none = let both = sym is ∙ none in cc
not_refused image restores.Damaged is none = is
not_refused image restores.OtherClock is none = is
not_refused image restores.OtherPorts is none = is

-- ---- taken apart

pub front_is : (k : SavedClock) (image front body : List ℕ)
    → IsImageOf k image
    → front ≡ take 12 image
    → body ≡ drop 12 image
    → front ≡ image_head 1 (length body % 4294967296)
unfolding saved_image
front_is k image front body is fronts bodies =
    let n = length (body_image k) in
    let size = head_length 1 n in
    let whole : body ≡ body_image k =
    bodies ∙ ap (drop 12) is.octets_are ∙ ap (λ m. drop m (image_head 1 n ++ body_image k)) (sym size) ∙ drop-append_seam (image_head 1 n) (body_image k) in
    fronts ∙ ap (take 12) is.octets_are ∙ ap (λ m. take m (image_head 1 n ++ body_image k)) (sym size) ∙ take-append_seam (image_head 1 n) (body_image k)
    ∙ sym (head_wraps n) ∙ ap (λ b. image_head 1 (length b % 4294967296)) (sym whole)

pub body_is : (k : SavedClock) (image body : List ℕ)
    → IsImageOf k image
    → body ≡ drop 12 image
    → body ≡ data_sets_octets k.sets ++ length k.entries ∷ entries_image k.entries
unfolding saved_image body_image
body_is k image body is bodies =
    let n = length (body_image k) in
    bodies ∙ ap (drop 12) is.octets_are ∙ ap (λ m. drop m (image_head 1 n ++ body_image k)) (sym (head_length 1 n)) ∙ drop-append_seam (image_head 1 n) (body_image k)

pub begins : (sets : DataSetsValue) (body rest : List ℕ) → body ≡ data_sets_octets sets ++ rest → BeginsWithImage sets body
begins sets body rest is =
    is ∙ ap (λ r. data_sets_octets sets ++ r) (sym (ap (drop (length (data_sets_octets sets))) is ∙ drop-append_seam (data_sets_octets sets) rest))

pub back_is : (k : SavedClock) (sets : DataSetsValue) (body back : List ℕ) (size : ℕ)
    → sets ≡ k.sets
    → body ≡ data_sets_octets k.sets ++ length k.entries ∷ entries_image k.entries
    → size ≡ length (data_sets_octets sets)
    → back ≡ drop size body
    → back ≡ length k.entries ∷ entries_image k.entries
back_is k sets body back size own is sizes backs =
    backs ∙ (λ i. drop ((sizes ∙ ap (λ d. length (data_sets_octets d)) own) i) (is i))
    ∙ drop-append_seam (data_sets_octets k.sets) (length k.entries ∷ entries_image k.entries)

pub nothing_behind : (xs ys : List ℕ) (x : ℕ) → xs ≡ x ∷ ys → length xs ≡ 0 → ⊥
nothing_behind xs ys x is none = let size = ap length is in omega arith

-- ---- put together

pub whole_image : (image front body back tail : List ℕ) (sets : DataSetsValue) (es : List Pair) (count size : ℕ)
    → front ≡ take 12 image
    → body ≡ drop 12 image
    → front ≡ image_head 1 (length body % 4294967296)
    → BeginsWithImage sets body
    → back ≡ drop size body
    → size ≡ length (data_sets_octets sets)
    → back ≡ count ∷ tail
    → length es ≡ count
    → tail ≡ entries_image es
    → image ≡ saved_image (record { sets = sets; entries = es })
unfolding saved_image body_image
whole_image image front body back tail sets es count size fronts bodies head first backs sizes parts counts tails =
    let behind : drop (length (data_sets_octets sets)) body ≡ length es ∷ entries_image es =
    ap (λ n. drop n body) (sym sizes) ∙ sym backs ∙ parts ∙ (λ i. sym counts i ∷ tails i) in
    let whole : body ≡ data_sets_octets sets ++ length es ∷ entries_image es = first ∙ ap (λ r. data_sets_octets sets ++ r) behind in
    sym (take-append-drop 12 image)
    ∙ (λ i. sym fronts i ++ sym bodies i)
    ∙ (λ i. (head ∙ head_wraps (length body) ∙ ap (λ b. image_head 1 (length b)) whole) i ++ whole i)

-- data sets that are read after a head that is right
pub begun : (image front body : List ℕ) (sets : DataSetsValue)
    → 12 ≤ length image
    → front ≡ take 12 image
    → body ≡ drop 12 image
    → front ≡ image_head 1 (length body % 4294967296)
    → BeginsWithImage sets body
    → IsBegun image sets
begun image front body sets long fronts bodies head first = record {
  long = long;
  head = sym fronts ∙ head ∙ ap (λ b. image_head 1 (length b % 4294967296)) bodies;
  sets_first = subst (BeginsWithImage sets) bodies first;
}

-- what comes after the data sets
pub opened : (image body back tail : List ℕ) (sets : DataSetsValue) (count size : ℕ)
    → IsBegun image sets
    → IsConsistent sets
    → DataSetsFit sets
    → body ≡ drop 12 image
    → back ≡ drop size body
    → size ≡ length (data_sets_octets sets)
    → back ≡ count ∷ tail
    → IsOpened image sets count tail
opened image body back tail sets count size is consistent fits bodies backs sizes parts = record {
  whole = λ es entries counts tails. record {
    saved = record { consistent = consistent; fits = fits; entries = entries };
    octets_are = whole_image image (take 12 image) body back tail sets es count size refl bodies
        (is.head ∙ ap (λ b. image_head 1 (length b % 4294967296)) (sym bodies))
        (subst (BeginsWithImage sets) (sym bodies) is.sets_first) backs sizes parts counts tails;
  };
}

-- data sets that are read before entries that are entries
pub whole_body : (image octets : List ℕ) (count : ℕ) (sets : DataSetsValue) (es : List Pair)
    → IsBegun image sets
    → IsConsistent sets
    → DataSetsFit sets
    → ((d : DataSetsValue) → IsBegun image d → IsConsistent d → DataSetsFit d → IsOpened image d count octets)
    → AreEntries (answers_kept sets) es
    → length es ≡ count
    → octets ≡ entries_image es
    → (c : SavedClock) × IsImageOf c image × (sets ≡ c.sets)
whole_body image octets count sets es begun consistent fits opens entries size is =
    (record { sets = sets; entries = es }, (opens sets begun consistent fits).whole es entries size is, refl)
