-- A message that was let through stays noted while its time lasts, and is not let through again meanwhile.
use Rattle.std.proofs.Common.{arith, ◌≡◌, ◌≢◌, ◌∙◌, ℕ, ◌+◌, ◌-◌, ◌<◌, ◌≤◌, Bool, true, false, List, [], ◌∷◌, ap, sym, subst, refl, length, get_or, mod-lt, set, suc, ⊎_elim}
use Rattle.std.proofs.lemmas.Bool.{cases_lt}
use Rattle.std.proofs.lemmas.Bool.Decides.{nat_tests}
use Rattle.std.proofs.lemmas.List.{get_or-replicate, get_or-set_other, get_or-set_same, get_or_past, length-replicate, length-set}
use Rattle.std.specs.Prelude.{All, replicate}
use Rattle.ptpm_host.specs.declared.passed_on.MessageKey.{MessageKey}
use Rattle.ptpm_host.specs.declared.passed_on.PassedOn.{PassedOn}
use Rattle.ptpm_host.specs.declared.passed_on.PassedOnPlace.{PassedOnPlace}
use Rattle.ptpm_host.specs.PassedOn.{IsAsked, IsLetThrough, first_of, first_place, free, is_live, is_noted, nth_from, place_from, same_key, Ask, Asked, NotTwice}

abbrev entry : MessageKey → ℕ → ℕ → PassedOnPlace
entry key since long = record { since = since; time = long; key = key }

same_key_refl : (k : MessageKey) → same_key k k ≡ true
same_key_refl k = grind (arith, nat_tests)

entry_live : (key : MessageKey) (since long now : ℕ) → now - since < long → is_live now (entry key since long) ≡ true
entry_live key since long now h = grind (arith, nat_tests)

entry_noted : (key : MessageKey) (since long now : ℕ) → now - since < long → is_noted now key (entry key since long) ≡ true
entry_noted key since long now h =
    let live = entry_live key since long now h in let same = same_key_refl key in grind (arith, nat_tests)

-- one of the message's places has it, from this time on for so long
abbrev Holds : PassedOn → MessageKey → ℕ → ℕ → Type 0
Holds t key since long = (i : ℕ) × (i < 16) × (nth_from t.places (first_of t key) i ≡ entry key since long)

never_both : {A : Type 0} (b : Bool) → b ≡ true → b ≡ false → A
never_both b p q = absurd (cc)

-- the places of a message are the same ones after one of the table's was written over
same_place : (t : PassedOn) (place i : ℕ) (e f : PassedOnPlace) (key : MessageKey)
    → get_or (set t.places place e) (place_from (length t.places) (first_of t key) i) free ≡ f
    → nth_from (set t.places place e) (first_of (record t { places = set t.places place e }) key) i ≡ f
same_place t place i e f key at =
    let At : ℕ → Type 0 = λ n. get_or (set t.places place e) (place_from n (first_place n t.seed key) i) free ≡ f in
    subst At (sym (length-set t.places place e)) at

let_holds : (t u : PassedOn) (key : MessageKey) (now long : ℕ) → 16 ≤ length t.places
    → IsLetThrough t key now long u → Holds u key now long
let_holds t u key now long sized h =
    let place = h.1.0 in let at = h.1.1.0 in let e : PassedOnPlace = entry key now long in
    let inside : place < length t.places = subst (λ p. p < length t.places) (sym at.2) (mod-lt (first_of t key + at.0) (omega (arith, sized))) in
    let Has : ℕ → Type 0 = λ p. get_or (set t.places place e) p free ≡ e in
    let Found : PassedOn → Type 0 = λ x. nth_from x.places (first_of x key) at.0 ≡ e in
    (at.0, at.1, subst Found (sym h.1.1.1) (same_place t place at.0 e e key (subst Has at.2 (get_or-set_same t.places place e free inside))))

-- a place in which something is noted still is not written over
kept_place : (places : List PassedOnPlace) (p place now since long : ℕ) (key : MessageKey) (e : PassedOnPlace)
    → get_or places p free ≡ entry key since long
    → now - since < long
    → is_live now (get_or places place free) ≡ false
    → get_or (set places place e) p free ≡ entry key since long
kept_place places p place now since long key e is live dead =
    let Live : ℕ → Type 0 = λ q. is_live now (get_or places q free) ≡ false in
    let other : p ≢ place = λ same.
    never_both (is_live now (get_or places p free)) (ap (is_live now) is ∙ entry_live key since long now live)
    (subst Live (sym same) dead) in
    get_or-set_other places place p e free other ∙ is

stays : (t u : PassedOn) (key k : MessageKey) (since long now time : ℕ) (answer : Bool)
    → Holds t key since long → now - since < long → IsAsked t k now time answer u → Holds u key since long
stays t u key k since long now time false held live asked =
    let H : PassedOn → Type 0 = λ x. Holds x key since long in subst H (sym asked.1) held
stays t u key k since long now time true held live asked =
    let place = asked.1.0 in let at = asked.1.1.0 in
    let e : PassedOnPlace = entry k now time in
    let Dead : ℕ → Type 0 = λ q. is_live now (get_or t.places q free) ≡ false in
    let dead : is_live now (get_or t.places place free) ≡ false = subst Dead (sym at.2) at.3 in
    let Found : PassedOn → Type 0 = λ x. nth_from x.places (first_of x key) held.0 ≡ entry key since long in (
      held.0,
      held.1,
      subst Found (sym asked.1.1.1) (same_place t place held.0 e (entry key since long) key
          (kept_place t.places (place_from (length t.places) (first_of t key) held.0) place now since long key e held.2 live dead)),
    )

refused : (t u : PassedOn) (key : MessageKey) (since long now time : ℕ) (answer : Bool)
    → Holds t key since long → now - since < long → IsAsked t key now time answer u → answer ≡ false
refused t u key since long now time false held live asked = refl
refused t u key since long now time true held live asked =
    never_both (is_noted now key (nth_from t.places (first_of t key) held.0))
    (ap (is_noted now key) held.2 ∙ entry_noted key since long now live) (asked.0 held.0 held.1)

all_stay : (t u : PassedOn) (asks : List Ask) (answers : List Bool) (key : MessageKey) (since long last : ℕ)
    → Holds t key since long
    → last - since < long
    → All (λ x. x.now ≤ last) asks
    → Asked t asks answers u
    → Holds u key since long
all_stay t u [] [] key since long last held live early asked =
    let H : PassedOn → Type 0 = λ x. Holds x key since long in subst H (sym asked) held
all_stay t u [] (b ∷ bs) key since long last held live early asked = absurd asked
all_stay t u (a ∷ asks) [] key since long last held live early asked = absurd asked
all_stay t u (a ∷ asks) (b ∷ bs) key since long last held live early asked =
    let now : a.now ≤ last = early 0 a (omega arith) in
    let soon : a.now - since < long = omega (arith, now, live) in
    let next : Holds asked.0 key since long = stays t asked.0 key a.key since long a.now a.time b held soon asked.1.0 in
    all_stay asked.0 u asks bs key since long last next live (λ k d h. early (suc k) d (omega (arith, h))) asked.1.1

pub not_twice : NotTwice
not_twice t u v w a b between answers answer sized first rest early same live again =
    let held : Holds u a.key a.now a.time = let_holds t u a.key a.now a.time sized first in
    let still : Holds v a.key a.now a.time = all_stay u v between answers a.key a.now a.time b.now held live early rest in
    let Q : MessageKey → Type 0 = λ key. IsAsked v key b.now b.time answer w in
    refused v w a.key a.now a.time b.now b.time answer still live (subst Q same again)

free_dead : (now : ℕ) → is_live now free ≡ false
free_dead now = grind (arith, nat_tests)

pub nothing_live : (now place : ℕ) → is_live now (get_or (replicate 4096 free) place free) ≡ false
nothing_live now place =
    ⊎_elim (λ below. ap (is_live now) (get_or-replicate 4096 place free free below) ∙ free_dead now)
    (λ up. ap (is_live now) (get_or_past (replicate 4096 free) place free (omega (arith, up, length-replicate 4096 free))) ∙ free_dead now)
    (cases_lt place 4096)
