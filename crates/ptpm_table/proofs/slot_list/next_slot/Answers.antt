use Rattle.std.proofs.Common.{◌≡◌, ◌+◌, ◌∙◌, Option, arith, length, refl, subst, sym, ℕ}
use Rattle.std.proofs.lemmas.Bool.{false≢true}
use Rattle.std.proofs.lemmas.Option.{slice_get_read}
use Rattle.ptpm_table.proofs.LendingLaws.{IsFound, first_next, found_same, found_this, keepable_at, known_at, none_next}
use Rattle.ptpm_table.proofs.slot_list.next_slot.Goals.{then-is_used_after+then-is_sooner, else-is_used_after, else-is_used_after-via-then-is_used_after+else-is_sooner, else-is_used_after-via-else-is_used_after}
use Rattle.ptpm_table.proofs.slot_list.next_slot.Goals as goal

pub loop-place-preserved : goal.loop-place-preserved
loop-place-preserved c =
    let ss = c.args.slots.now in
    let n = c.loop-place.place in
    let s = c.index-slots-place.result in
    let at = slice_get_read ss (length ss) n s refl c.loop-place-test.true c.index-slots-place.is in
    elim c.if-is_used_after.branch [
      | then-is_used_after+then-is_sooner w ↦
          subst (IsFound c.args.after ss (n + 1)) (sym w.next-is)
          (found_this c.args.after ss n s c.loop-place.next c.loop-place.invariant at
          (c.is_used_after.ensures.0 w.if-is_used_after.true) ((w.is_sooner.ensures s at).0 w.if-is_sooner.true))
      | else-is_used_after w ↦
          subst (IsFound c.args.after ss (n + 1)) (sym w.next-is)
          (found_same c.args.after ss n s c.loop-place.next c.loop-place.invariant at (λ used sooner.
          elim w.else-is_used_after.branch [
            | else-is_used_after-via-then-is_used_after+else-is_sooner v ↦ false≢true (sym v.if-is_sooner.false ∙ (v.is_sooner.ensures s at).1 sooner)
            | else-is_used_after-via-else-is_used_after v ↦ false≢true (sym v.if-is_used_after.false ∙ c.is_used_after.ensures.1 used)
          ]))
    ]

pub returns-in-None-clause-next : goal.returns-in-None-clause-next
returns-in-None-clause-next c =
    let end : c.loop-place.place ≡ length c.args.slots.now = omega (arith, c.loop-place-test.false, c.loop-place.auto.place-end) in
    none_next c.args.after c.args.slots.now c.requires.distinct
    (subst (λ (p : ℕ × Option ℕ). IsFound c.args.after c.args.slots.now p.0 p.1) (λ i. (end i, c.in-None.is i)) c.loop-place.invariant)

pub returns-in-Some-clause-next : goal.returns-in-Some-clause-next
returns-in-Some-clause-next c =
    let ss = c.args.slots.now in
    let i = c.in-Some.place in
    let s = c.index-slots-place-in-Some.result in
    let end : c.loop-place.place ≡ length ss = omega (arith, c.loop-place-test.false, c.loop-place.auto.place-end) in
    let found = subst (λ (p : ℕ × Option ℕ). IsFound c.args.after ss p.0 p.1) (λ j. (end j, c.in-Some.is j)) c.loop-place.invariant in
    first_next c.args.after ss i s c.requires.distinct (slice_get_read ss (length ss) i s refl found.inside c.index-slots-place-in-Some.is) found

pub returns-in-Some-clause-known : goal.returns-in-Some-clause-known
returns-in-Some-clause-known c =
    let ss = c.args.slots.now in
    let i = c.in-Some.place in
    let s = c.index-slots-place-in-Some.result in
    let end : c.loop-place.place ≡ length ss = omega (arith, c.loop-place-test.false, c.loop-place.auto.place-end) in
    let found = subst (λ (p : ℕ × Option ℕ). IsFound c.args.after ss p.0 p.1) (λ j. (end j, c.in-Some.is j)) c.loop-place.invariant in
    known_at ss i s c.requires.distinct (slice_get_read ss (length ss) i s refl found.inside c.index-slots-place-in-Some.is)

pub returns-in-Some-clause-keepable : goal.returns-in-Some-clause-keepable
returns-in-Some-clause-keepable c =
    let ss = c.args.slots.now in
    let i = c.in-Some.place in
    let s = c.index-slots-place-in-Some.result in
    let end : c.loop-place.place ≡ length ss = omega (arith, c.loop-place-test.false, c.loop-place.auto.place-end) in
    let found = subst (λ (p : ℕ × Option ℕ). IsFound c.args.after ss p.0 p.1) (λ j. (end j, c.in-Some.is j)) c.loop-place.invariant in
    keepable_at c.args.after ss (length ss) i s c.requires.keepable
    (slice_get_read ss (length ss) i s refl found.inside c.index-slots-place-in-Some.is) found
