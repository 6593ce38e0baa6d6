-- An image with its seal is found, whatever comes after them.
use Rattle.std.proofs.Common.{arith, ◌≡◌, ℕ, ◌+◌, ◌^◌, ◌<◌, ◌≤◌, true, refl, sym, ◌∙◌, ap, List, ◌++◌, length, take, drop, append_assoc, length-append, Ok}
use Rattle.std.proofs.lemmas.List.{drop-append-le, drop-drop, drop_at, length-drop, take-append-le, take_at}
use Rattle.byteorder.specs.Endian.{big_bytes, big_number}
use Rattle.byteorder.specs.Numbers.{big_from-append, big_number-reads_back, length-bytes_high_first}
use Rattle.ptpm_seal.specs.Crc.{crc_of}
use Rattle.ptpm_seal.specs.Sealing.{count_after, counted, image_size, is_headed, is_sealed, seal_mark, seal_of, unsealed}

unseals_by : (octets : List ℕ) (n count : ℕ)
    → is_headed octets ≡ true → image_size octets ≡ n → is_sealed n octets ≡ true
    → count_after n octets ≡ count → unsealed octets ≡ Ok (record { size = n; count = count })
unfolding unsealed
unseals_by octets n count h s y k = grind arith

counted-size : (count : ℕ) → length (counted count) ≡ 12
counted-size count = ap (λ (n : ℕ). 4 + n) (length-bytes_high_first 8 count)

pub seal-size : (image : List ℕ) (count : ℕ) → length (seal_of image count) ≡ 16
unfolding seal_of
seal-size image count =
    omega (arith, length-append (counted count) (big_bytes 4 (crc_of (image ++ counted count))), counted-size count, length-bytes_high_first 4 (crc_of (image ++ counted count)))

pub sized : (image rest : List ℕ) → 12 ≤ length image → image_size (image ++ rest) ≡ image_size image
unfolding image_size
sized image rest long =
    ap (λ (l : List ℕ). 12 + big_number 4 l) (drop-append-le 8 image rest (omega (arith, long)))
    ∙ ap (λ (n : ℕ). 12 + n) (big_from-append 4 (drop 8 image) rest (omega (arith, long, length-drop 8 image)))

module _ (image rest : List ℕ) (count : ℕ) where
  abbrev seal : List ℕ
  seal = seal_of image count

  abbrev whole : List ℕ
  whole = image ++ (seal ++ rest)

  size-of : length whole ≡ length image + (16 + length rest)
  size-of = omega (arith, length-append image (seal ++ rest), length-append seal rest, seal-size image count)

  pub headed : is_headed image ≡ true → is_headed whole ≡ true
  headed h = grind (arith, size-of, take-append-le)

  -- what comes after the image
  past : (n : ℕ) → drop (length image + n) whole ≡ drop n (seal ++ rest)
  past n = sym (drop-drop n (length image) whole) ∙ ap (drop n) (drop_at image (seal ++ rest) (length image) refl)

  spelled : seal ++ rest ≡ seal_mark ++ (big_bytes 8 count ++ (big_bytes 4 (crc_of (image ++ counted count)) ++ rest))
  unfolding seal_of
  spelled =
      let crc : List ℕ = big_bytes 4 (crc_of (image ++ counted count)) in
      append_assoc (counted count) crc rest ∙ append_assoc seal_mark (big_bytes 8 count) (crc ++ rest)

  count-there : count < 2 ^ 64 → count_after (length image) whole ≡ count
  unfolding count_after
  count-there small =
      ap (λ (l : List ℕ). big_number 8 l) (past 4 ∙ ap (drop 4) spelled)
      ∙ big_number-reads_back 8 count (big_bytes 4 (crc_of (image ++ counted count)) ++ rest) small

  marked : take 4 (drop (length image) whole) ≡ seal_mark
  marked = ap (take 4) (drop_at image (seal ++ rest) (length image) refl ∙ spelled)

  crc-there : big_number 4 (drop (length image + 12) whole) ≡ crc_of (image ++ counted count)
  unfolding seal_of
  crc-there =
      let crc : List ℕ = big_bytes 4 (crc_of (image ++ counted count)) in
      ap (λ (l : List ℕ). big_number 4 l)
      (past 12 ∙ ap (drop 12) (append_assoc (counted count) crc rest) ∙ drop_at (counted count) (crc ++ rest) 12 (counted-size count))
      ∙ big_number-reads_back 4 (crc_of (image ++ counted count)) rest (omega arith)

  before : take (length image + 12) whole ≡ image ++ counted count
  unfolding seal_of
  before =
      let crc : List ℕ = big_bytes 4 (crc_of (image ++ counted count)) in
      ap (take (length image + 12)) (ap (λ (l : List ℕ). image ++ l) (append_assoc (counted count) crc rest) ∙ sym (append_assoc image (counted count) (crc ++ rest)))
      ∙ take_at (image ++ counted count) (crc ++ rest) (length image + 12) (omega (arith, length-append image (counted count), counted-size count))

  pub sealed-there : is_sealed (length image) whole ≡ true
  unfolding is_sealed
  sealed-there = grind (arith, size-of, marked, crc-there, before)

pub found : (image rest : List ℕ) (count : ℕ)
    → is_headed image ≡ true → image_size image ≡ length image → count < 2 ^ 64
    → unsealed ((image ++ seal_of image count) ++ rest) ≡ Ok (record { size = length image; count = count })
found image rest count h s small =
    ap unsealed (append_assoc image (seal_of image count) rest)
    ∙ unseals_by (whole image rest count) (length image) count (headed image rest count h)
    (sized image (seal_of image count ++ rest) (long image h) ∙ s) (sealed-there image rest count) (count-there image rest count small)
  where
    long : (image : List ℕ) → is_headed image ≡ true → 12 ≤ length image
    long image h = grind arith
