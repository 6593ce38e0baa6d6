use Rattle.std.proofs.Common.{arith, ◌≡◌, ◌<◌, ℕ, List, [], ◌∷◌, length}
use Rattle.std.specs.Borrow.{Bor}
use Rattle.std.proofs.lemmas.Bool.{eqb-true}
use Rattle.std.proofs.lemmas.Grind.{common_steps}
use Rattle.std.proofs.lemmas.List.{map-append, nil_from_length}
use Rattle.ptpm_host.proofs.WordLemmas.{front_end, front_none, front_step}
use Rattle.ptpm_host.proofs.words.words.Goals as goal

pub loop-rest-preserved : goal.loop-rest-preserved
loop-rest-preserved c =
    rw (c.push.ensures.items, map-append (λ (w : Bor (List ℕ)). w.now) c.loop-rest.words.items (c.in-Some.word ∷ []))
    (front_step _ _ _ c.loop-rest.invariant c.in-Some.word.now c.in-Some.more.now c.in-Some.ensures.found
    (λ w m begins. c.in-Some.ensures.only w m begins))

pub returns-in_default-clause-only : goal.returns-in_default-clause-only
returns-in_default-clause-only c =
    λ words are few.
    let some : 0 < length c.loop-rest.rest.now = grind (arith, common_steps, eqb-true, c.loop-rest-test.true, c.is_empty.ensures) in
    front_none _ _ _ c.loop-rest.invariant some (λ w m begins. c.in_default.ensures.only w m begins) words are

pub returns-clause-words : goal.returns-clause-words
returns-clause-words c =
    let zero : length c.loop-rest.rest.now ≡ 0 = grind (arith, common_steps, eqb-true, c.loop-rest-test.false, c.is_empty.ensures) in
    (front_end _ _ _ c.loop-rest.invariant (nil_from_length c.loop-rest.rest.now zero)).0

pub returns-clause-only : goal.returns-clause-only
returns-clause-only c =
    λ words are few.
    let zero : length c.loop-rest.rest.now ≡ 0 = grind (arith, common_steps, eqb-true, c.loop-rest-test.false, c.is_empty.ensures) in
    (front_end _ _ _ c.loop-rest.invariant (nil_from_length c.loop-rest.rest.now zero)).1 words are
