-- Places into which answers were put, after those that were there.
use Rattle.std.proofs.Common.{◌≡◌, ◌∙◌, length, refl}
use Rattle.ptpm_host.specs.declared.answer_places.AnswerPlaces.{AnswerPlaces}

-- they are the same places, and as many
pub record HasMore (a b : AnswerPlaces) : Type 0 where
  pub same_reference : b.room.ghost_name ≡ a.room.ghost_name
  pub as_many : length b.room.now ≡ length a.room.now

pub more_by_none : (a : AnswerPlaces) → HasMore a a
more_by_none a = record { same_reference = refl; as_many = refl }

pub more_twice : (a b c : AnswerPlaces) → HasMore a b → HasMore b c → HasMore a c
more_twice a b c first second = record {
  same_reference = second.same_reference ∙ first.same_reference;
  as_many = second.as_many ∙ first.as_many;
}

pub room_stays : (a b : AnswerPlaces) → HasMore a b → length b.room.now ≡ length a.room.now
room_stays a b more = more.as_many
