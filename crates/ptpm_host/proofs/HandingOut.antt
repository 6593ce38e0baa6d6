-- What a text leaves in the octets of the caller.
use Rattle.std.proofs.Common.{arith, ◌≡◌, ◌++◌, ◌≤◌, ℕ, List, [], None, Option, Some, drop, length, ◌+◌, take, length-append, length-drop, refl}
use Rattle.std.proofs.lemmas.List.{append_assoc, take-append-le, take_all}
use Rattle.std.proofs.lemmas.Slice.{drop-append-drop}
use Rattle.ptpm_host.specs.Texts.{HandsOut, IsPut, KeepsText, put_in}

take_front : (n : ℕ) (octets xs ys : List ℕ) → n ≡ length xs → octets ≡ xs ++ ys → take n octets ≡ xs
take_front n octets xs ys size is = grind (arith, take-append-le n xs ys, take_all n xs, size, is)

-- octets to which a text was handed out are as many as before
as_many : (text : List ℕ) (at : ℕ) (before octets : List ℕ) → HandsOut text (Some at) before octets → length octets ≡ length before
as_many text at before octets is =
    grind (arith, is.0.size, is.0.octets, is.1, length-append text (drop at before), length-drop at before)

put_keeps : (octets text : List ℕ) (at : ℕ) → at + length text ≤ length octets → KeepsText (octets, Some at) text (put_in octets at text, Some (at + length text))
put_keeps octets more at room text before is = (
  record {
    size = grind (arith, is.0.size, length-append text more);
    octets = grind (arith, append_assoc, is.0.size, is.0.octets, take_front at octets text (drop at before) is.0.size is.0.octets, drop-append-drop at before text (at + length more));
  },
  omega (arith, is.0.size, length-append text more, room, as_many text at before octets is),
)

-- a text is put in, or there is no room for it
pub piece_keeps : (octets text : List ℕ) (at : ℕ) (end : Option ℕ) (after : List ℕ) → IsPut text octets at end after → KeepsText (octets, Some at) text (after, end)
piece_keeps octets more at (Some end) after put =
    rw (put.0, put.2) (put_keeps octets more at (omega (arith, put.0, put.1)))
piece_keeps octets more at None after short = λ text before is.
    omega (arith, is.0.size, length-append text more, short, as_many text at before octets is)

pub first_is : (octets : List ℕ) → HandsOut [] (Some 0) octets octets
first_is octets = (record { size = refl; octets = refl }, omega arith)
