-- What is written into places after what was written.
use Rattle.std.proofs.Common.{◌≡◌, ◌∙◌, ◌+◌, ◌-◌, ◌≤◌, ℕ, zero, suc, List, [], ◌∷◌, ap, arith, drop, length, refl, subst, sym, take}
use Rattle.std.proofs.lemmas.List.{drop-drop}
use Rattle.std.specs.List.{AllZip}
use Rattle.ptpm_host.specs.declared.outbox.Outbox.{Outbox}
use Rattle.ptpm_host.specs.declared.sent.Sent.{Sent}
use Rattle.ptpm_host.specs.Clock.{KeepsBehind}
use Rattle.ptpm_host.specs.Outbox.{HasGrown}

pub kept_by_none : (room : List Sent) → AllZip KeepsBehind room room
kept_by_none [] = tt
kept_by_none (s ∷ ss) = (refl, kept_by_none ss)

pub grown_by_none : (a : Outbox) → HasGrown a a
grown_by_none a = record { same_reference = refl; more = omega arith; messages = refl; places = refl; behind = kept_by_none a.room.now }

pub first_same : (r b : Sent) (rs bs : List Sent) → r ∷ rs ≡ b ∷ bs → r ≡ b
first_same r b rs bs h = cc

rest_same : (r b : Sent) (rs bs : List Sent) → r ∷ rs ≡ b ∷ bs → rs ≡ bs
rest_same r b rs bs h = cc

-- what was written in two steps, if the second left what the first wrote
kept_twice : (n : ℕ) (xs ys zs : List Sent)
    → AllZip KeepsBehind xs ys
    → AllZip KeepsBehind ys zs
    → take n zs ≡ take n ys
    → drop n ys ≡ drop n xs
    → AllZip KeepsBehind xs zs
kept_twice zero xs ys zs first second messages places = subst (λ ws. AllZip KeepsBehind ws zs) places second
kept_twice (suc n) [] [] zs first second messages places = second
kept_twice (suc n) [] (y ∷ ys) zs first second messages places = absurd first
kept_twice (suc n) (x ∷ xs) [] zs first second messages places = absurd first
kept_twice (suc n) (x ∷ xs) (y ∷ ys) [] first second messages places = absurd second
kept_twice (suc n) (x ∷ xs) (y ∷ ys) (z ∷ zs) first second messages places = (
  subst (λ (w : Sent). KeepsBehind x w) (sym (first_same z y (take n zs) (take n ys) messages)) first.0,
  kept_twice n xs ys zs first.1 second.1 (rest_same z y (take n zs) (take n ys) messages) places,
)

-- lists that agree in their first m elements agree in fewer; lists that agree after n elements
-- agree after more
take_fewer : (n m : ℕ) (xs ys : List Sent) → n ≤ m → take m xs ≡ take m ys → take n xs ≡ take n ys
take_fewer zero m xs ys less same = refl
take_fewer (suc n) zero xs ys less same = absurd (omega (arith, less))
take_fewer (suc n) (suc m) [] [] less same = refl
take_fewer (suc n) (suc m) [] (y ∷ ys) less same = cc
take_fewer (suc n) (suc m) (x ∷ xs) [] less same = cc
take_fewer (suc n) (suc m) (x ∷ xs) (y ∷ ys) less same =
    (λ i. first_same x y (take m xs) (take m ys) same i ∷ take_fewer n m xs ys (omega (arith, less)) (rest_same x y (take m xs) (take m ys) same) i)

drop_more : (n m : ℕ) (xs ys : List Sent) → n ≤ m → drop n xs ≡ drop n ys → drop m xs ≡ drop m ys
drop_more n m xs ys less same =
    let parts : m ≡ n + (m - n) = omega (arith, less) in
    ap (λ k. drop k xs) parts ∙ sym (drop-drop (m - n) n xs) ∙ ap (drop (m - n)) same ∙ drop-drop (m - n) n ys ∙ sym (ap (λ k. drop k ys) parts)

pub grown_twice : (a b c : Outbox) → HasGrown a b → HasGrown b c → HasGrown a c
grown_twice a b c first second = record {
  same_reference = second.same_reference ∙ first.same_reference;
  more = omega (arith, first.more, second.more);
  messages = take_fewer a.count b.count c.room.now b.room.now first.more second.messages ∙ first.messages;
  places = second.places ∙ drop_more b.count c.count b.room.now a.room.now second.more first.places;
  behind = kept_twice b.count a.room.now b.room.now c.room.now first.behind second.behind second.messages first.places;
}

same_count : (xs ys : List Sent) → AllZip KeepsBehind xs ys → length ys ≡ length xs
same_count [] [] each = refl
same_count [] (y ∷ ys) each = absurd each
same_count (x ∷ xs) [] each = absurd each
same_count (x ∷ xs) (y ∷ ys) each = ap suc (same_count xs ys each.1)

pub as_many : (a b : Outbox) → HasGrown a b → length b.room.now ≡ length a.room.now
as_many a b grown = same_count a.room.now b.room.now grown.behind
