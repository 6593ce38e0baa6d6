-- What the device of a clock is asked that is saved while it goes on, after each of its calls.
use Rattle.std.proofs.Common.{◌≡◌, ◌∙◌, ◌≤◌, Bool, true, false, ap, refl, subst, sym, List, [], ◌∷◌, ◌++◌, ℕ, length, Option, None, if◌then◌else◌}
use Rattle.ptpm_data.specs.ObservationBack.{Observation}
use Rattle.ptpm_device.specs.Saying.{Say}
use Rattle.ptpm_saved.specs.Saving.{Came, Happening, after_all}
use Rattle.ptpm_saved.specs.SavingClock.{Datagram}
use Rattle.ptpm_saved.specs.Batching.{Handles, answers, holds, is_held, live}
use Rattle.ptpm_host.specs.declared.saving_clock.Acting.{Acting}
use Rattle.ptpm_host.specs.declared.saving_clock.Acting.TheVariants as actings
use Rattle.ptpm_host.specs.declared.saving_clock.SavingClock.{SavingClock}
use Rattle.ptpm_host.specs.Clock.{DeviceClock, clock_in}
use Rattle.ptpm_host.specs.Coming.{ClockBatch, ClockState, Coming, coming_process, datagram_in, is_held_by}
use Rattle.ptpm_host.specs.KeptBatch.{IsImageIf, IsKept, LeadsTo, all_given}
use Rattle.ptpm_host.specs.SavingClock as saving
use Rattle.ptpm_host.specs.SavingClock.{IsAsBatch, acting_once_imaged, asked_later, asked_next, called_at, clock_state_in, kept_of, request_under_way, shown_sets}
use Rattle.ptpm_host.specs.Undertaking.{asked_once_saved, decides_in}
use Rattle.ptpm_host.proofs.AskedLaws.{later_new, later_none, later_other, next_one}

-- what is under way at a clock
abbrev pub under_way_of : SavingClock → Option Datagram
under_way_of c = request_under_way c.clock.value.under_way

-- what `IsAsBatch` says of what is asked
pub record IsAskedOf (c : SavingClock) (b : ClockBatch) (count : ℕ) : Type 0 where
  pub later : asked_once_saved (clock_in c.clock.value) b (length b.since) ≡ asked_later c.acting (under_way_of c)
  pub next : c.is_imaged ≡ true → asked_once_saved (clock_in c.clock.value) b count ≡ asked_next c.acting (under_way_of c)

-- with what is kept it is the batch
pub led_to : (given : List (ℕ × List ℕ)) (new : SavingClock) (after : ClockBatch) (count : ℕ)
    → LeadsTo (coming_process (clock_in new.clock.value)) shown_sets given (kept_of new) after count
    → IsAskedOf new (all_given after) count
    → saving.LeadsTo given new after count
led_to given new after count leads asks = record {
  given_out = leads.given_out;
  as_batch = record { kept = leads.as_batch; later = asks.later; next = asks.next };
}

pub is_batch : (new : SavingClock) (after : ClockBatch) (count : ℕ)
    → IsKept (coming_process (clock_in new.clock.value)) shown_sets (kept_of new) after count
    → IsAskedOf new after count
    → IsAsBatch new after count
is_batch new after count kept asks = record { kept = kept; later = asks.later; next = asks.next }

next_none : (a : Acting) → asked_next a None ≡ None
next_none actings.Nothing = refl
next_none actings.AnImage = refl
next_none actings.ItsSave = refl

-- it asks as before
pub record AsksAsBefore (old new : SavingClock) : Type 0 where
  pub clock : clock_in new.clock.value ≡ clock_in old.clock.value
  pub acting : new.acting ≡ old.acting
  pub under_way : under_way_of new ≡ under_way_of old
  pub imaged : new.is_imaged ≡ true → old.is_imaged ≡ true

module _ (old new : SavingClock) (b : ClockBatch) (count : ℕ) (as_batch : IsAsBatch old b count) where
  abbrev c : DeviceClock
  c = clock_in old.clock.value

  inside : old.is_imaged ≡ true → count ≤ length b.since
  inside is = (subst (λ i. IsImageIf i (coming_process c) shown_sets (kept_of old) b count) is as_batch.kept.image).inside

  -- nothing waits more or less
  pub asks_still : (ready sent : List (ℕ × List ℕ)) → AsksAsBefore old new → IsAskedOf new (record b { ready = ready; sent = sent }) count
  asks_still ready sent same = record {
    later = ap (λ d. asked_once_saved d b (length b.since)) same.clock ∙ as_batch.later ∙ (λ i. asked_later (sym same.acting i) (sym same.under_way i));
    next = λ is. ap (λ d. asked_once_saved d b count) same.clock ∙ as_batch.next (same.imaged is) ∙ (λ i. asked_next (sym same.acting i) (sym same.under_way i));
  }

  module _ (x : Happening Coming Observation) (ready sent : List (ℕ × List ℕ)) where
    abbrev one_more : ClockBatch
    one_more = record b { since = b.since ++ x ∷ []; ready = ready; sent = sent }

    -- one more, which leaves what is under way
    pub asks_held : AsksAsBefore old new
        → decides_in (x ∷ []) ≡ false
        → (after_all (coming_process c) (live (coming_process c) b) (x ∷ [])).under_way ≡ (live (coming_process c) b).under_way
        → IsAskedOf new one_more count
    asks_held same none leaves = record {
      later = ap (λ d. asked_once_saved d one_more (length one_more.since)) same.clock
          ∙ later_other c b x ready sent none leaves
          ∙ as_batch.later ∙ (λ i. asked_later (sym same.acting i) (sym same.under_way i));
      next = λ is. ap (λ d. asked_once_saved d one_more count) same.clock
          ∙ next_one c b x ready sent count (inside (same.imaged is))
          ∙ ap (λ d. if d then None else asked_once_saved c b count) none
          ∙ as_batch.next (same.imaged is) ∙ (λ i. asked_next (sym same.acting i) (sym same.under_way i));
    }

    -- one that undertakes, while nothing was under way
    pub asks_new : clock_in new.clock.value ≡ c
        → new.acting ≡ actings.AnImage
        → (new.is_imaged ≡ true → old.is_imaged ≡ true)
        → under_way_of old ≡ None
        → under_way_of new ≡ (after_all (coming_process c) (live (coming_process c) b) (x ∷ [])).under_way
        → decides_in (x ∷ []) ≡ false
        → IsAskedOf new one_more count
    asks_new clock acting imaged free under_way none = record {
      later = ap (λ d. asked_once_saved d one_more (length one_more.since)) clock
          ∙ later_new c b x ready sent none (ap (λ (s : ClockState). s.under_way) as_batch.kept.live ∙ free)
          ∙ sym under_way ∙ (λ i. asked_later (sym acting i) (under_way_of new));
      next = λ is. ap (λ d. asked_once_saved d one_more count) clock
          ∙ next_one c b x ready sent count (inside (imaged is))
          ∙ ap (λ d. if d then None else asked_once_saved c b count) none
          ∙ as_batch.next (imaged is) ∙ ap (asked_next old.acting) free ∙ next_none old.acting
          ∙ (λ i. asked_next (sym acting i) (under_way_of new));
    }

    -- one that decides
    pub asks_decided : clock_in new.clock.value ≡ c
        → new.acting ≡ actings.Nothing
        → (new.is_imaged ≡ true → old.is_imaged ≡ true)
        → (after_all (coming_process c) (live (coming_process c) b) (x ∷ [])).under_way ≡ None
        → decides_in (x ∷ []) ≡ true
        → IsAskedOf new one_more count
    asks_decided clock acting imaged free is_decided = record {
      later = ap (λ d. asked_once_saved d one_more (length one_more.since)) clock
          ∙ later_none c b x ready sent free ∙ (λ i. asked_later (sym acting i) (under_way_of new));
      next = λ is. ap (λ d. asked_once_saved d one_more count) clock
          ∙ next_one c b x ready sent count (inside (imaged is))
          ∙ ap (λ d. if d then None else asked_once_saved c b count) is_decided
          ∙ (λ i. asked_next (sym acting i) (under_way_of new));
    }

  -- ---- each call

  module _ (x : Coming) where
    abbrev held_now : Bool
    held_now = is_held (coming_process c) (is_held_by c) b x

    pub asks_answered : held_now ≡ false → AsksAsBefore old new → IsAskedOf new (all_given (called_at old b (Handles x))) count
    asks_answered free same =
        subst (λ (h : Bool). IsAskedOf new (all_given (if h then holds b x else answers (coming_process c) b x)) count) (sym free)
        (asks_still [] (b.sent ++ (answers (coming_process c) b x).ready) same)

    pub asks_waiting : held_now ≡ true
        → IsAskedOf new (all_given (holds b x)) count
        → IsAskedOf new (all_given (called_at old b (Handles x))) count
    asks_waiting held asks =
        subst (λ (h : Bool). IsAskedOf new (all_given (if h then holds b x else answers (coming_process c) b x)) count) (sym held) asks

  -- a datagram leaves what is under way
  pub asks_datagram : (port : ℕ) (datagram : List ℕ) (say : Say) (of_owner : Bool)
      → AsksAsBefore old new
      → IsAskedOf new (all_given (holds b (datagram_in port datagram say of_owner))) count
  asks_datagram port datagram say true same = asks_held (Came (datagram_in port datagram say true)) [] (b.sent ++ b.ready) same refl refl
  asks_datagram port datagram say false same = asks_held (Came (datagram_in port datagram say false)) [] (b.sent ++ b.ready) same refl refl

  pub asks_called : (port : ℕ) (datagram : List ℕ) (say : Say) (of_owner : Bool)
      → AsksAsBefore old new
      → IsAskedOf new (all_given (called_at old b (Handles (datagram_in port datagram say of_owner)))) count
  asks_called port datagram say of_owner same = by_held (held_now (datagram_in port datagram say of_owner)) refl
    where
      by_held : (h : Bool) → held_now (datagram_in port datagram say of_owner) ≡ h → IsAskedOf new (all_given (called_at old b (Handles (datagram_in port datagram say of_owner)))) count
      by_held true held = asks_waiting (datagram_in port datagram say of_owner) held (asks_datagram port datagram say of_owner same)
      by_held false free = asks_answered (datagram_in port datagram say of_owner) free same
