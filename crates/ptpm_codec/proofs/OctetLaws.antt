-- Lists of octets: what a buffer then holds, what stays at its place, and how many octets a PTPText has.
use Rattle.std.proofs.Common.{◌≡◌, ◌≤◌, ℕ, List, arith, length, take_all, ◌+◌, ◌*◌, ◌<◌, get_or, take, length-append}
use Rattle.std.proofs.lemmas.List.{append-nil, drop_all, get_or-drop, get_or-take, length-replicate}
use Rattle.std.specs.List.{refill}
use Rattle.ptpm_codec.specs.Layout.{octet, number_at, even_up}
use Rattle.ptpm_codec.specs.PtpText.{ptp_text_octets}

-- ---- what is written over all that a buffer holds is what it then holds

pub refilled : {X : Type 0} (n : ℕ) (xs ws : List X) → length ws ≡ n → length xs ≤ n → refill n xs ws ≡ ws
refilled n xs ws same few = grind (arith, drop_all, append-nil, take_all)

-- ---- a place keeps its octets if a list is cut after it

pub octet-take : (place n : ℕ) (m : List ℕ) → place < n → octet place (take n m) ≡ octet place m
octet-take place n m h = get_or-take n m place 0 h

-- the two octets of a number
pub number_at-octets : (place : ℕ) (m : List ℕ)
    → number_at place m ≡ octet place m * 256 + octet (place + 1) m
unfolding number_at
number_at-octets place m = grind (arith, get_or, get_or-drop)

pub number-take : (place n : ℕ) (m : List ℕ)
    → place + 2 ≤ n
    → number_at place (take n m) ≡ number_at place m
number-take place n m h = grind (arith, octet-take, number_at-octets)

-- ---- how many octets a PTPText has

pub ptp_text_size : (text : List ℕ) → length (ptp_text_octets text) ≡ even_up (1 + length text)
unfolding ptp_text_octets
ptp_text_size text = grind (arith, length-replicate, length-append)
