-- Flags of the frames that arrows deliver.
use Rattle.ptpm_world.proofs.Common.{◌≡◌, ◌≢◌, ℕ, ◌+◌, ◌-◌, ◌<◌, ◌==◌, zero, suc, Bool, true, false, ◌||◌, List, [], ◌∷◌, ◌++◌, refl, sym, ap, ◌∙◌, arith, ⊎_elim, cases_Bool, cond-true, cond-false, eq-eqb, eqb-true, eqb-false, get_or, length, map, ne_eqb, range_with_len, slice_set, take, take_more, take_all}
use Rattle.std.proofs.lemmas.Bool.{or_right}
use Rattle.std.specs.Prelude.{replicate}
use Rattle.std.proofs.lemmas.List.Folds.{list_any-append}
use Rattle.ptpm_draw.specs.Picture.{is_arrow_of, is_delivered, marked, marked_by}
use Rattle.ptpm_draw.specs.declared.picture.EventRow.{EventRow}
use Rattle.ptpm_draw.specs.declared.picture.Way.{Way}
use Rattle.ptpm_draw.specs.declared.picture.Way.TheVariants as ways
use Rattle.ptpm_draw.proofs.picture.Picture.is_delivered.Goals as goal

or-false : (b : Bool) → (b || false) ≡ b
or-false true = refl
or-false false = refl

-- no row delivers anything
none-delivered : (a n : ℕ) → replicate n false ≡ map (is_delivered []) (range_with_len a n)
none-delivered a zero = refl
none-delivered a (suc n) = ap (λ flags. false ∷ flags) (none-delivered (a + 1) n)

-- ---- an arrow more

-- its number is below all of these
flag-before : (g : ℕ → Bool) (f a n : ℕ)
    → f < a
    → map (λ k. g k || (f == k)) (range_with_len a n) ≡ map g (range_with_len a n)
flag-before g f a zero h = refl
flag-before g f a (suc n) h =
    let apart : (f == a) ≡ false = ne_eqb f a (λ e. omega (arith, e, h)) in
    let here : (g a || (f == a)) ≡ g a = ap (λ b. g a || b) apart ∙ or-false (g a) in
    let later : map (λ k. g k || (f == k)) (range_with_len (a + 1) n) ≡ map g (range_with_len (a + 1) n) =
    flag-before g f (a + 1) n (omega (arith, h)) in
    λ i. here i ∷ later i

flag-at : (g : ℕ → Bool) (f a d n : ℕ)
    → f ≡ a + d
    → map (λ k. g k || (f == k)) (range_with_len a n) ≡ slice_set (map g (range_with_len a n)) d true
flag-at g f a d zero e = refl
flag-at g f a zero (suc n) e =
    let here : (g a || (f == a)) ≡ true = or_right (g a) (f == a) (eq-eqb f a (omega (arith, e))) in
    let later : map (λ k. g k || (f == k)) (range_with_len (a + 1) n) ≡ map g (range_with_len (a + 1) n) =
    flag-before g f (a + 1) n (omega (arith, e)) in
    λ i. here i ∷ later i
flag-at g f a (suc d) (suc n) e =
    let apart : (f == a) ≡ false = ne_eqb f a (λ h. omega (arith, e, h)) in
    let here : (g a || (f == a)) ≡ g a = ap (λ b. g a || b) apart ∙ or-false (g a) in
    let later : map (λ k. g k || (f == k)) (range_with_len (a + 1) n) ≡ slice_set (map g (range_with_len (a + 1) n)) d true =
    flag-at g f (a + 1) d n (omega (arith, e)) in
    λ i. here i ∷ later i

arrow-marks : (g : ℕ → Bool) (f n : ℕ)
    → map (λ k. g k || (f == k)) (range_with_len 1 n) ≡ marked f (map g (range_with_len 1 n))
arrow-marks g f n = ⊎_elim
    (λ (none : f == 0 ≡ true).
    flag-before g f 1 n (omega (arith, eqb-true f 0 none)) ∙ sym (cond-true _ _ _ none))
    (λ (some : f == 0 ≡ false).
    let positive : f ≢ 0 = eqb-false f 0 some in
    flag-at g f 1 (f - 1) n (omega (arith, positive)) ∙ sym (cond-false _ _ _ some))
    (cases_Bool (f == 0))

way-marks : (g : ℕ → Bool) (way : Way) (n : ℕ)
    → map (λ k. g k || is_arrow_of k way) (range_with_len 1 n) ≡ marked_by way (map g (range_with_len 1 n))
way-marks g (ways.Arrow f) n = arrow-marks g f n
way-marks g ways.Mark n = λ i. map (λ k. or-false (g k) i) (range_with_len 1 n)
way-marks g ways.FromEdge n = λ i. map (λ k. or-false (g k) i) (range_with_len 1 n)

-- a row more
one-more : (rows : List EventRow) (row : EventRow) (k : ℕ)
    → is_delivered (rows ++ row ∷ []) k ≡ (is_delivered rows k || is_arrow_of k row.way)
one-more rows row k =
    list_any-append (λ r. is_arrow_of k r.way) rows (row ∷ []) ∙ ap (λ b. is_delivered rows k || b) (or-false (is_arrow_of k row.way))

delivered-more : (rows : List EventRow) (row : EventRow) (n : ℕ) (flags new : List Bool)
    → flags ≡ map (is_delivered rows) (range_with_len 1 n)
    → new ≡ marked_by row.way flags
    → new ≡ map (is_delivered (rows ++ row ∷ [])) (range_with_len 1 n)
delivered-more rows row n flags new so_far noted =
    noted ∙ ap (marked_by row.way) so_far
    ∙ sym (way-marks (is_delivered rows) row.way n)
    ∙ sym (λ i. map (λ k. one-more rows row k i) (range_with_len 1 n))

-- the row at this place
delivered-row : (items rows : List EventRow) (place n : ℕ) (d : EventRow) (flags new : List Bool)
    → items ≡ rows
    → place < length items
    → flags ≡ map (is_delivered (take place rows)) (range_with_len 1 n)
    → new ≡ marked_by (get_or items place d).way flags
    → new ≡ map (is_delivered (take (place + 1) rows)) (range_with_len 1 n)
delivered-row items rows place n d flags new same below so_far noted =
    delivered-more (take place items) (get_or items place d) n flags new
    (so_far ∙ ap (λ rs. map (is_delivered (take place rs)) (range_with_len 1 n)) (sym same)) noted
    ∙ ap (λ rs. map (is_delivered rs) (range_with_len 1 n)) (sym (take_more items place d below))
    ∙ ap (λ rs. map (is_delivered (take (place + 1) rs)) (range_with_len 1 n)) same

pub loop-row-init : goal.loop-row-init
loop-row-init c =
    let many : c.len.result ≡ length c.args.self.now.messages.items = omega arith in
    c.in-Ok.ensures.items_if_clones_equal (λ y h. cc) ∙ ap (λ n. replicate n false) many ∙ none-delivered 1 (length c.args.self.now.messages.items)

pub loop-row-preserved : goal.loop-row-preserved
loop-row-preserved c =
    delivered-row c.as_slice-row-items.result.now c.args.self.now.rows.items c.loop-row.row-index (length c.args.self.now.messages.items) _
    c.loop-row.flags.items
    c.note_way.new.flags.items
    c.as_slice-row-items.ensures.value
    c.loop-row-test.true
    c.loop-row.invariant
    c.note_way.ensures

pub returns : goal.returns
returns c =
    c.loop-row.invariant
    ∙ ap (λ rows. map (is_delivered rows) (range_with_len 1 (length c.args.self.now.messages.items)))
    (take_all c.loop-row.row-index c.args.self.now.rows.items (omega arith))
