-- One place more is blank.
use Rattle.std.proofs.Common.{◌+◌, ◌<◌, ℕ, List, length, slice_set, subst, sym, ◌≡◌, arith, refl}
use Rattle.std.proofs.lemmas.List.{get_or-set_same, length-set, take-set}
use Rattle.std.proofs.lemmas.List.Elements.{All-more, All-nil}
use Rattle.ptpm_host.specs.declared.sent.Sent.{Sent}
use Rattle.ptpm_host.specs.Blanks.{AreBlanked, IsBlank}
use Rattle.ptpm_host.proofs.Places.{places_at_write}
use Rattle.ptpm_host.proofs.blanks.blank.Goals as goal

blanked_at_write : (before room : List Sent) (place : ℕ) (s : Sent)
    → place < length room
    → AreBlanked place before room
    → IsBlank s
    → AreBlanked (place + 1) before (slice_set room place s)
blanked_at_write before room place s inside blanked put = record {
  first = All-more IsBlank (slice_set room place s) place s (rw length-set inside) (rw take-set blanked.first)
      (subst IsBlank (sym (get_or-set_same room place s s inside)) put);
  others = places_at_write before room place s blanked.others;
}

pub loop-place-init : goal.loop-place-init
loop-place-init c = record { blanked = record { first = All-nil IsBlank; others = refl } }

pub loop-place-preserved : goal.loop-place-preserved
loop-place-preserved c =
    let inside : c.loop-place.place < length c.loop-place.room = omega arith in
    record { blanked = blanked_at_write _ c.loop-place.room c.loop-place.place c.empty.result inside c.loop-place.invariant.blanked c.empty.ensures.blank }

pub returns : goal.returns
returns c =
    let end : c.loop-place.place ≡ c.args.count = omega arith in
    subst (λ n. AreBlanked n c.args.room.now c.loop-place.room) end c.loop-place.invariant.blanked
