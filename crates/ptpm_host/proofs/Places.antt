-- Messages in places: what follows them stays, whole ones stay whole, and what waits in the places of a queue.
use Rattle.std.proofs.Common.{◌+◌, ◌<◌, ℕ, All, List, length, slice_set, take, subst, sym, ◌≡◌, zero, suc, [], ◌∷◌, drop, slice_index_or, refl, ap, ◌∙◌, arith, ◌≤◌, ◌-◌, ◌++◌, drop-cons, get_or, length-take-le}
use Rattle.std.proofs.lemmas.List.{get_or-set_same, length-set, take-set, drop-set-lt, drop-map, drop-take, get_or-take, length-drop, length-map, map-append, take_more}
use Rattle.std.proofs.lemmas.List.Elements.{All-more}
use Rattle.ptpm_host.specs.declared.sent.Sent.{Sent}
use Rattle.ptpm_host.specs.Clock.{IsWhole, KeepsBehind, message_in, messages_in}
use Rattle.std.specs.List.{AllZip}
use Rattle.ptpm_host.specs.declared.outbox.Outbox.{Outbox}
use Rattle.ptpm_host.specs.Outbox.{HasGrown}
use Rattle.ptpm_host.specs.OutboxLaws.{first_same, kept_by_none}
use Rattle.std.proofs.Math.Seq.{paste, take-paste}

-- ---- messages in places: what follows them stays, and whole ones stay whole

-- ---- messages that are whole stay so if one more is put after them

pub whole_at_write : (room : List Sent) (place : ℕ) (s : Sent)
    → place < length room
    → All IsWhole (take place room)
    → IsWhole s
    → All IsWhole (take (place + 1) (slice_set room place s))
whole_at_write room place s inside whole put =
    All-more IsWhole (slice_set room place s) place s (rw length-set inside) (rw take-set whole)
    (subst IsWhole (sym (get_or-set_same room place s s inside)) put)

-- ---- what follows the messages of places stays, also if a message is put into one of them

-- the place that is written is still as it was before
pub kept_at_write : (before room : List Sent) (place : ℕ) (d s : Sent)
    → AllZip KeepsBehind before room
    → drop place room ≡ drop place before
    → KeepsBehind (slice_index_or room place d) s
    → AllZip KeepsBehind before (slice_set room place s)
kept_at_write [] [] place d s kept same put = tt
kept_at_write [] (r ∷ rs) place d s kept same put = absurd kept
kept_at_write (b ∷ bs) [] place d s kept same put = absurd kept
kept_at_write (b ∷ bs) (r ∷ rs) zero d s kept same put =
    (subst (λ (x : Sent). KeepsBehind x s) (first_same r b rs bs same) put, kept.1)
kept_at_write (b ∷ bs) (r ∷ rs) (suc place) d s kept same put =
    (kept.0, kept_at_write bs rs place d s kept.1 same put)

drop_next : (place : ℕ) (room : List Sent) → drop (suc place) room ≡ drop 1 (drop place room)
drop_next zero room = refl
drop_next (suc place) [] = refl
drop_next (suc place) (s ∷ ss) = drop_next place ss

-- the places after the one that is written are still as they were before
pub places_at_write : (before room : List Sent) (place : ℕ) (s : Sent)
    → drop place room ≡ drop place before
    → drop (place + 1) (slice_set room place s) ≡ drop (place + 1) before
places_at_write before room place s same =
    let next : place + 1 ≡ suc place = omega arith in
    drop-set-lt (place + 1) room place s (omega arith)
    ∙ ap (λ (n : ℕ). drop n room) next
    ∙ drop_next place room
    ∙ ap (λ (places : List Sent). drop 1 places) same
    ∙ sym (drop_next place before)
    ∙ sym (ap (λ (n : ℕ). drop n before) next)

-- a message more, after those that are there
pub grown_at_write : (a b : Outbox) (d s : Sent)
    → b.room.ghost_name ≡ a.room.ghost_name
    → b.room.now ≡ slice_set a.room.now a.count s
    → b.count ≡ a.count + 1
    → KeepsBehind (slice_index_or a.room.now a.count d) s
    → HasGrown a b
grown_at_write a b d s same written counted put = record {
  same_reference = same;
  more = omega (arith, counted);
  messages = ap (take a.count) written ∙ take-set a.room.now a.count s;
  places =
      (λ i. drop (counted i) (written i))
      ∙ places_at_write a.room.now a.room.now a.count s refl
      ∙ sym (ap (λ (n : ℕ). drop n a.room.now) counted);
  behind = subst (AllZip KeepsBehind a.room.now) (sym written) (kept_at_write a.room.now a.room.now a.count d s (kept_by_none a.room.now) refl put);
}

-- ---- what waits in the places of a queue

pub count_at : (taken end : ℕ) (xs : List Sent) → end ≤ length xs → length (drop taken (messages_in (take end xs))) ≡ end - taken
count_at taken end xs inside =
    omega (arith, length-drop taken (messages_in (take end xs)), length-map (take end xs) message_in, length-take-le end xs inside)

-- the messages are moved to the first places
pub closed_at : (taken end : ℕ) (xs : List Sent)
    → taken ≤ end
    → end ≤ length xs
    → messages_in (take (end - taken) (paste xs 0 (drop taken xs) (end - taken))) ≡ drop taken (messages_in (take end xs))
closed_at taken end xs ordered inside =
    let whole : taken + (end - taken) ≡ end = omega (arith, ordered) in
    let first : 0 + (end - taken) ≡ end - taken = omega arith in
    ap messages_in (
    ap (λ n. take n (paste xs 0 (drop taken xs) (end - taken))) (sym first)
    ∙ take-paste xs 0 (drop taken xs) (end - taken) (omega arith) (omega (arith, length-drop taken xs, inside))
    ∙ sym (drop-take taken (end - taken) xs)
    ∙ ap (λ n. drop taken (take n xs)) whole)
    ∙ sym (drop-map message_in taken (take end xs))

-- the first is taken out
pub first_at : (taken end : ℕ) (xs : List Sent) (d : Sent)
    → taken < end
    → end ≤ length xs
    → drop taken (messages_in (take end xs)) ≡ message_in (get_or xs taken d) ∷ drop (taken + 1) (messages_in (take end xs))
first_at taken end xs d ordered inside =
    let next : suc taken ≡ taken + 1 = omega arith in
    let few : taken < length (take end xs) = omega (arith, length-take-le end xs inside, ordered) in
    drop-map message_in taken (take end xs)
    ∙ ap messages_in (drop-cons (take end xs) taken d few)
    ∙ ap (λ n. message_in (get_or (take end xs) taken d) ∷ messages_in (drop n (take end xs))) next
    ∙ (λ i. message_in (get_or-take end xs taken d ordered i) ∷ sym (drop-map message_in (taken + 1) (take end xs)) i)

pub one_more : (xs : List Sent) (i : ℕ) (d : Sent)
    → i < length xs
    → messages_in (take (i + 1) xs) ≡ messages_in (take i xs) ++ message_in (get_or xs i d) ∷ []
one_more xs i d inside = ap messages_in (take_more xs i d inside) ∙ map-append message_in (take i xs) (get_or xs i d ∷ [])

pub as_many : (count : ℕ) (xs : List Sent) → count ≤ length xs → length (messages_in (take count xs)) ≡ count
as_many count xs inside = length-map (take count xs) message_in ∙ length-take-le count xs inside

pub sent_most : (count most : ℕ) (room : List Sent) (out : List (ℕ × List ℕ))
    → count ≤ length room
    → messages_in (take count room) ≡ out
    → length out ≤ most
    → count ≤ most
sent_most count most room out inside are few =
    omega (arith, as_many count room inside, ap (λ (l : List (ℕ × List ℕ)). length l) are, few)
