-- Frames that were sent here, or wait, and those of a network that never crashes. It sent the first, and those that wait at a
-- clock whose changes will not be lost.
use Rattle.ptpm_network.proofs.Common.{by_test, arith, ◌≡◌, ℕ, ◌+◌, ◌≤◌, ◌==◌, Bool, true, false, if◌then◌else◌, List, [], ◌∷◌, ◌++◌, map, length, length-append, refl, sym, ◌∙◌, subst, cond-true, cond-false, AllByRecursion, Contains, with_place, Held, all_append, all_get, all_made, all_weaker, with_place-other, with_place-same, true≢false}
use Rattle.std.proofs.Common.{get_or}
use Rattle.std.proofs.lemmas.Option.{slice_get-get_or}
use Rattle.std.proofs.lemmas.List.Elements.{Contains-append_left, Contains-append_right, Contains-push}
use Rattle.ptpm_restarts.specs.Restarting.{waiting_at, waiting_elsewhere}

-- how many of these wait at clocks whose changes will not be lost
abbrev pub going : (ℕ → Bool) → List (ℕ × Held) → ℕ
going lost [] = 0
going lost (w ∷ ws) = (if lost w.0 then 0 else 1) + going lost ws

pub record AreSent (lost : ℕ → Bool) (here : List Held) (waiting : List (ℕ × Held)) (there : List Held) : Type 0 where
  pub sent : AllByRecursion (Contains there) here
  pub later : AllByRecursion (λ (w : ℕ × Held). lost w.0 ≡ false → Contains there w.1) waiting
  -- there are no more
  pub room : length there ≤ length here + going lost waiting

-- ---- lists

-- all of a list are among those of a longer one
all-among : {A : Type 0} (xs ys : List A) → ((x : A) → Contains xs x → Contains ys x) → AllByRecursion (Contains ys) xs
all-among [] ys among = tt
all-among (x ∷ xs) ys among = (among x (Contains-append_left (x ∷ []) xs x (Contains-push [] x)), all-among xs ys (λ y has. among y (Contains-append_right (x ∷ []) xs y has)))

pub all-appended : {A : Type 0} (xs ys : List A) → AllByRecursion (Contains (xs ++ ys)) ys
all-appended xs ys = all-among ys (xs ++ ys) (Contains-append_right xs ys)

pub all-longer : {A : Type 0} (xs ys zs : List A) → AllByRecursion (Contains xs) zs → AllByRecursion (Contains (xs ++ ys)) zs
all-longer xs ys zs all = all_weaker (Contains xs) (Contains (xs ++ ys)) (Contains-append_left xs ys) zs all

pub all-push : {A : Type 0} (xs ys : List A) (x : A) → AllByRecursion (Contains ys) xs → AllByRecursion (Contains (ys ++ x ∷ [])) (xs ++ x ∷ [])
all-push xs ys x all = all_append (Contains (ys ++ x ∷ [])) xs (x ∷ []) (all-longer ys (x ∷ []) xs all) (all-appended ys (x ∷ []))

pub all_contains : {A : Type 0} (P : A → Type 0) (xs : List A) (x : A) → AllByRecursion P xs → Contains xs x → P x
all_contains P xs x all (i, below, is) = subst P is (all_get P xs i (get_or xs i x) all (slice_get-get_or xs i x below))

pub no_one : {A : Type 0} (x : A) → Contains [] x → ⊥
no_one x has = grind arith

-- of what is held, what was sent and what waits
pub all-split : (P : Held → Type 0) (here : List Held) (ws : List (ℕ × Held))
    → AllByRecursion P (here ++ map (λ (w : ℕ × Held). w.1) ws)
    → AllByRecursion P here × AllByRecursion (λ (w : ℕ × Held). P w.1) ws
all-split P [] [] all = (tt, tt)
all-split P [] (w ∷ ws) all = (tt, (all.0, (all-split P [] ws all.1).1))
all-split P (h ∷ here) ws all = let rest = all-split P here ws all.1 in ((all.0, rest.0), rest.1)

-- ---- what waits

pub all-at : (P : ℕ × Held → Type 0) (Q : Held → Type 0) (c : ℕ) (ws : List (ℕ × Held))
    → ((w : ℕ × Held) → w.0 == c ≡ true → P w → Q w.1) → AllByRecursion P ws
    → AllByRecursion Q (waiting_at c ws)
all-at P Q c [] f all = tt
all-at P Q c (w ∷ ws) f all = by_test (w.0 == c)
    (λ y. rw y (f w y all.0, all-at P Q c ws f all.1))
    (λ n. rw n (all-at P Q c ws f all.1))

pub all-elsewhere : (P Q : ℕ × Held → Type 0) (c : ℕ) (ws : List (ℕ × Held))
    → ((w : ℕ × Held) → w.0 == c ≡ false → P w → Q w) → AllByRecursion P ws
    → AllByRecursion Q (waiting_elsewhere c ws)
all-elsewhere P Q c [] f all = tt
all-elsewhere P Q c (w ∷ ws) f all = by_test (w.0 == c)
    (λ y. rw y (all-elsewhere P Q c ws f all.1))
    (λ n. rw n (f w n all.0, all-elsewhere P Q c ws f all.1))

going-append : (lost : ℕ → Bool) (xs ys : List (ℕ × Held)) → going lost (xs ++ ys) ≡ going lost xs + going lost ys
going-append lost [] ys = omega arith
going-append lost (w ∷ ws) ys = omega (arith, going-append lost ws ys)

going-made : (lost : ℕ → Bool) (c : ℕ) (made : List Held) → going lost (map (λ h. (c, h)) made) ≡ (if lost c then 0 else length made)
going-made lost c [] = grind (arith, cond-true, cond-false)
going-made lost c (h ∷ made) = let rest = going-made lost c made in grind (arith, cond-true, cond-false)

going-saved : (lost : ℕ → Bool) (c : ℕ) (ws : List (ℕ × Held))
    → going (with_place lost c false) ws ≤ length (waiting_at c ws) + going lost (waiting_elsewhere c ws)
going-saved lost c [] = omega arith
going-saved lost c (w ∷ ws) = let rest = going-saved lost c ws in grind (arith, cond-true, cond-false)

going-crashed : (lost : ℕ → Bool) (c : ℕ) (ws : List (ℕ × Held))
    → going (with_place lost c true) ws ≤ going lost (waiting_elsewhere c ws)
going-crashed lost c [] = omega arith
going-crashed lost c (w ∷ ws) = let rest = going-crashed lost c ws in grind (arith, cond-true, cond-false)

pub going-all : (lost : ℕ → Bool) (ws : List (ℕ × Held)) → going lost ws ≤ length ws
going-all lost [] = omega arith
going-all lost (w ∷ ws) = let rest = going-all lost ws in grind (arith, cond-true, cond-false)

-- ---- what is made, saved and lost

module _ (lost : ℕ → Bool) (here : List Held) (waiting : List (ℕ × Held)) (there : List Held) where
  pub sent-both : (made : List Held)
      → AreSent lost here waiting there
      → AreSent lost (here ++ made) waiting (there ++ made)
  sent-both made h = record {
    sent = all_append (Contains (there ++ made)) here made (all-longer there made here h.sent) (all-appended there made);
    later = all_weaker (λ (w : ℕ × Held). lost w.0 ≡ false → Contains there w.1) (λ (w : ℕ × Held). lost w.0 ≡ false → Contains (there ++ made) w.1)
        (λ w has n. Contains-append_left there made w.1 (has n)) waiting h.later;
    room = omega (arith, length-append there made, length-append here made, h.room);
  }

  pub wait-lost : (c : ℕ) (made : List Held)
      → lost c ≡ true → AreSent lost here waiting there
      → AreSent lost here (waiting ++ map (λ m. (c, m)) made) there
  wait-lost c made y h = record {
    sent = h.sent;
    later = all_append (λ (w : ℕ × Held). lost w.0 ≡ false → Contains there w.1) waiting (map (λ m. (c, m)) made) h.later
        (all_made (Contains made) (λ (w : ℕ × Held). lost w.0 ≡ false → Contains there w.1) (λ m. (c, m))
        (λ m has n. absurd (true≢false (sym y ∙ n))) made (all-appended [] made));
    room = omega (arith, going-append lost waiting (map (λ m. (c, m)) made), h.room);
  }

  pub wait-going : (c : ℕ) (made : List Held)
      → lost c ≡ false → AreSent lost here waiting there
      → AreSent lost here (waiting ++ map (λ m. (c, m)) made) (there ++ made)
  wait-going c made n h = record {
    sent = all-longer there made here h.sent;
    later = all_append (λ (w : ℕ × Held). lost w.0 ≡ false → Contains (there ++ made) w.1) waiting (map (λ m. (c, m)) made)
        (all_weaker (λ (w : ℕ × Held). lost w.0 ≡ false → Contains there w.1) (λ (w : ℕ × Held). lost w.0 ≡ false → Contains (there ++ made) w.1)
        (λ w has o. Contains-append_left there made w.1 (has o)) waiting h.later)
        (all_made (Contains (there ++ made)) (λ (w : ℕ × Held). lost w.0 ≡ false → Contains (there ++ made) w.1) (λ m. (c, m))
        (λ m has o. has) made (all-appended there made));
    room = let size : going lost (map (λ m. (c, m)) made) ≡ length made = going-made lost c made ∙ cond-false _ _ _ n in
        omega (arith, size, going-append lost waiting (map (λ m. (c, m)) made), length-append there made, h.room);
  }

  pub sent-saved : (c : ℕ)
      → AreSent (with_place lost c false) here waiting there
      → AreSent lost (here ++ waiting_at c waiting) (waiting_elsewhere c waiting) there
  sent-saved c h = record {
    sent = all_append (Contains there) here (waiting_at c waiting) h.sent
        (all-at (λ (w : ℕ × Held). with_place lost c false w.0 ≡ false → Contains there w.1) (Contains there) c waiting
        (λ w y has. has (with_place-same lost c false w.0 y)) h.later);
    later = all-elsewhere (λ (w : ℕ × Held). with_place lost c false w.0 ≡ false → Contains there w.1) (λ (w : ℕ × Held). lost w.0 ≡ false → Contains there w.1) c waiting
        (λ w n has o. has (with_place-other lost c false w.0 n ∙ o)) h.later;
    room = omega (arith, length-append here (waiting_at c waiting), going-saved lost c waiting, h.room);
  }

  pub sent-crashed : (c : ℕ)
      → AreSent (with_place lost c true) here waiting there
      → AreSent lost here (waiting_elsewhere c waiting) there
  sent-crashed c h = record {
    sent = h.sent;
    later = all-elsewhere (λ (w : ℕ × Held). with_place lost c true w.0 ≡ false → Contains there w.1) (λ (w : ℕ × Held). lost w.0 ≡ false → Contains there w.1) c waiting
        (λ w n has o. has (with_place-other lost c true w.0 n ∙ o)) h.later;
    room = omega (arith, going-crashed lost c waiting, h.room);
  }

-- at last all that waits counts as sent
pub all-held : (here : List Held) (waiting : List (ℕ × Held)) (there : List Held)
    → AreSent (λ c. false) here waiting there
    → AllByRecursion (Contains there) (here ++ map (λ (w : ℕ × Held). w.1) waiting)
all-held here waiting there h =
    all_append (Contains there) here _ h.sent (all_made (λ (w : ℕ × Held). false ≡ false → Contains there w.1) (Contains there) (λ (w : ℕ × Held). w.1) (λ w has. has refl) waiting h.later)
