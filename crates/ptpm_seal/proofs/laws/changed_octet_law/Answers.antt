-- An image with its seal is refused if one octet of both is another one.
use Rattle.std.proofs.Common.{arith, ◌≡◌, ◌≢◌, ◌⊎◌, inl, inr, ℕ, zero, suc, ◌+◌, ◌-◌, ◌^◌, ◌<◌, ◌≤◌, true, false, Bool, refl, sym, ◌∙◌, ap, List, [], ◌∷◌, ◌++◌, length, take, drop, append-nil, length-append, IsErr}
use Rattle.std.proofs.lemmas.List.{drop-append-le, length-drop}
use Rattle.std.proofs.lemmas.Bool.{cases_Bool}
use Rattle.byteorder.specs.Endian.{big_number}
use Rattle.ptpm_seal.specs.Crc.{AreOctets, crc_of}
use Rattle.ptpm_seal.specs.Sealing.{image_size, is_headed, is_sealed, seal_of, unsealed}
use Rattle.ptpm_seal.proofs.Remainders.{changed}
use Rattle.ptpm_manager.specs.Image.{mark}
use Rattle.ptpm_seal.proofs.SealLaws.{headed, seal-size, sealed-there, sized}
use Rattle.ptpm_seal.proofs.laws.changed_octet_law.Goals as goal

-- ---- lists that differ at one place

-- what comes after the place
same-drop : (k : ℕ) (front rest : List ℕ) (a b : ℕ) → length front < k → drop k (front ++ a ∷ rest) ≡ drop k (front ++ b ∷ rest)
same-drop zero front rest a b l = absurd (omega (arith, l))
same-drop (suc k) [] rest a b l = refl
same-drop (suc k) (f ∷ front) rest a b l = same-drop k front rest a b (omega (arith, l))

-- what comes before it
same-take : (k : ℕ) (front rest : List ℕ) (a b : ℕ) → k ≤ length front → take k (front ++ a ∷ rest) ≡ take k (front ++ b ∷ rest)
same-take zero front rest a b l = refl
same-take (suc k) [] rest a b l = absurd (omega (arith, l))
same-take (suc k) (f ∷ front) rest a b l = ap (λ (t : List ℕ). f ∷ t) (same-take k front rest a b (omega (arith, l)))

-- what comes before the place, and it, differs
other-take : (k : ℕ) (front rest : List ℕ) (a b : ℕ) → length front < k → take k (front ++ a ∷ rest) ≡ take k (front ++ b ∷ rest) → a ≡ b
other-take zero front rest a b l e = absurd (omega (arith, l))
other-take (suc k) [] rest a b l e = grind (arith, e)
other-take (suc k) (f ∷ front) rest a b l e = other-take k front rest a b (omega (arith, l)) (grind (arith, e))

split-take : (k j : ℕ) (front rest : List ℕ) (a : ℕ) → k ≡ length front + suc j → take k (front ++ a ∷ rest) ≡ front ++ a ∷ take j rest
split-take zero j front rest a e = absurd (omega (arith, e))
split-take (suc k) j [] rest a e = ap (λ (n : ℕ). a ∷ take n rest) (omega (arith, e))
split-take (suc k) j (f ∷ front) rest a e = ap (λ (t : List ℕ). f ∷ t) (split-take k j front rest a (omega (arith, e)))

-- a number of four octets
other-number : (front rest : List ℕ) (a b : ℕ) → length front < 4 → big_number 4 (front ++ a ∷ rest) ≡ big_number 4 (front ++ b ∷ rest) → a ≡ b
other-number [] rest a b l e = omega (arith, e)
other-number (x ∷ []) rest a b l e = omega (arith, e)
other-number (x ∷ y ∷ []) rest a b l e = omega (arith, e)
other-number (x ∷ y ∷ z ∷ []) rest a b l e = omega (arith, e)
other-number (x ∷ y ∷ z ∷ w ∷ front) rest a b l e = absurd (omega (arith, l))

-- ---- octets

are-front : (front rest : List ℕ) → AreOctets (front ++ rest) → AreOctets front
are-front [] rest are = record {}
are-front (x ∷ xs) rest are = (are.0, are-front xs rest are.1)

are-rest : (front rest : List ℕ) → AreOctets (front ++ rest) → AreOctets rest
are-rest [] rest are = are
are-rest (x ∷ xs) rest are = are-rest xs rest are.1

are-taken : (k : ℕ) (xs : List ℕ) → AreOctets xs → AreOctets (take k xs)
are-taken zero xs are = record {}
are-taken (suc k) [] are = record {}
are-taken (suc k) (x ∷ xs) are = (are.0, are-taken k xs are.1)

-- ---- what a seal says

sides : (a b : ℕ) → (a < b) ⊎ (b ≤ a)
sides a b = grind arith

crc-there : (n : ℕ) (octets : List ℕ) → is_sealed n octets ≡ true → big_number 4 (drop (n + 12) octets) ≡ crc_of (take (n + 12) octets)
unfolding is_sealed
crc-there n octets h = grind arith

room-there : (n : ℕ) (octets : List ℕ) → is_sealed n octets ≡ true → n + 16 ≤ length octets
unfolding is_sealed
room-there n octets h = grind arith

marked : (octets : List ℕ) → is_headed octets ≡ true → take 4 octets ≡ mark
marked octets h = grind arith

-- ---- one octet of an image and its seal

module _ (n : ℕ) (front rest : List ℕ) (octet other : ℕ) where
  abbrev was : List ℕ
  was = front ++ octet ∷ rest

  abbrev is : List ℕ
  is = front ++ other ∷ rest

  in-image : is_sealed n was ≡ true → is_sealed n is ≡ true → AreOctets was → other < 2 ^ 8 → octet ≢ other → length front < n + 12 → ⊥
  in-image s t are small differ l =
      let rests : AreOctets (octet ∷ rest) = are-rest front (octet ∷ rest) are in
      let k : ℕ = n + 12 - length front - 1 in
      changed front (take k rest) octet other (are-front front (octet ∷ rest) are) (are-taken k rest rests.1) rests.0 small differ
      (ap crc_of (sym (split-take (n + 12) k front rest octet (omega (arith, l))))
      ∙ sym (crc-there n was s) ∙ ap (big_number 4) (same-drop (n + 12) front rest octet other l) ∙ crc-there n is t
      ∙ ap crc_of (split-take (n + 12) k front rest other (omega (arith, l))))

  in-crc : is_sealed n was ≡ true → is_sealed n is ≡ true → length was ≡ n + 16 → octet ≢ other → n + 12 ≤ length front → ⊥
  in-crc s t whole differ g =
      let behind : (a : ℕ) → drop (n + 12) (front ++ a ∷ rest) ≡ drop (n + 12) front ++ a ∷ rest = λ a. drop-append-le (n + 12) front (a ∷ rest) g in
      differ (other-number (drop (n + 12) front) rest octet other
      (omega (arith, g, whole, length-append front (octet ∷ rest), length-drop (n + 12) front))
      (ap (big_number 4) (sym (behind octet))
      ∙ crc-there n was s ∙ ap crc_of (same-take (n + 12) front rest octet other g) ∙ sym (crc-there n is t)
      ∙ ap (big_number 4) (behind other)))

  not-sealed : is_sealed n was ≡ true → length was ≡ n + 16 → AreOctets was → other < 2 ^ 8 → octet ≢ other → is_sealed n is ≡ true → ⊥
  not-sealed s whole are small differ t = elim (sides (length front) (n + 12)) [
    | inl l ↦ in-image s t are small differ l
    | inr g ↦ in-crc s t whole differ g
  ]

-- ---- an image and its seal

-- what is not sealed is refused
unsealed-refused : (n : ℕ) (octets : List ℕ) → image_size octets ≡ n → (is_sealed n octets ≡ true → ⊥) → IsErr (unsealed octets)
unfolding unsealed
unsealed-refused n octets size broken = elim (cases_Bool (is_headed octets)) [
  | inl h ↦ grind (arith, size, not-true' _ broken)
  | inr h ↦ grind (arith, h)
]
  where
    not-true' : (b : Bool) → (b ≡ true → ⊥) → b ≡ false
    not-true' true broken = absurd (broken refl)
    not-true' false broken = refl

unheaded-refused : (octets : List ℕ) → (is_headed octets ≡ true → ⊥) → IsErr (unsealed octets)
unfolding unsealed
unheaded-refused octets broken = elim (cases_Bool (is_headed octets)) [
  | inl h ↦ absurd (broken h)
  | inr h ↦ grind (arith, h)
]

module _ (image : List ℕ) (count : ℕ) (front rest : List ℕ) (octet other : ℕ) (h : is_headed image ≡ true)
    (s : image_size image ≡ length image) (e : image ++ seal_of image count ≡ front ++ octet ∷ rest) where
  long : 12 ≤ length image
  long = grind (arith, h)

  spelled : front ++ octet ∷ rest ≡ image ++ (seal_of image count ++ [])
  spelled = sym e ∙ ap (λ (l : List ℕ). image ++ l) (sym (append-nil (seal_of image count)))

  was-headed : is_headed (front ++ octet ∷ rest) ≡ true
  was-headed = ap is_headed spelled ∙ headed image [] count h

  was-sized : image_size (front ++ octet ∷ rest) ≡ length image
  was-sized = ap image_size spelled ∙ sized image (seal_of image count ++ []) long ∙ s

  was-sealed : is_sealed (length image) (front ++ octet ∷ rest) ≡ true
  was-sealed = ap (is_sealed (length image)) spelled ∙ sealed-there image [] count

  was-whole : length (front ++ octet ∷ rest) ≡ length image + 16
  was-whole = ap length (sym e) ∙ omega (arith, length-append image (seal_of image count), seal-size image count)

  -- the size is the same
  same-size : 4 ≤ length front → length front < 8 ⊎ 12 ≤ length front → image_size (front ++ other ∷ rest) ≡ length image
  unfolding image_size
  same-size g places = elim places [
    | inl l ↦ ap (λ (t : List ℕ). 12 + big_number 4 t) (sym (same-drop 8 front rest octet other l)) ∙ was-sized
    | inr m ↦ sized front (other ∷ rest) m ∙ sym (sized front (octet ∷ rest) m) ∙ was-sized
  ]

  pub refused : AreOctets (front ++ octet ∷ rest) → other < 2 ^ 8 → octet ≢ other → length front < 8 ⊎ 12 ≤ length front
      → IsErr (unsealed (front ++ other ∷ rest))
  refused are small differ places = elim (sides (length front) 4) [
    | inl l ↦ unheaded-refused (front ++ other ∷ rest) (λ t. differ (other-take 4 front rest octet other l (marked _ was-headed ∙ sym (marked _ t))))
    | inr g ↦ unsealed-refused (length image) (front ++ other ∷ rest) (same-size g places)
        (not-sealed (length image) front rest octet other was-sealed was-whole are small differ)
  ]

pub returns : goal.returns
returns c image front rest count octet other h s e are small differ places = refused image count front rest octet other h s e are small differ places
