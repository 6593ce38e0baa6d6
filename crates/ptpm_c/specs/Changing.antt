-- What a change at the device itself does to a clock that a handle holds.
use Rattle.std.specs.Prelude.{◌≡◌, ℕ, IsSomeAnd, None, Option, Some, true}
use Rattle.ptpm_codec.specs.Message.{error_number}
use Rattle.ptpm_data.specs.Changed.{changed, no_members}
use Rattle.ptpm_data.specs.declared.changed.ChangedMembers.{ChangedMembers}
use Rattle.ptpm_data.specs.Request.{RequestValue}
use Rattle.ptpm_host.specs.declared.clock.HostedClock.{HostedClock}
use Rattle.ptpm_host.specs.declared.refusal.ChangeRefusal.{ChangeRefusal}
use Rattle.ptpm_host.specs.declared.refusal.ChangeRefusal.TheVariants as refusals
use Rattle.ptpm_host.specs.declared.saving_clock.SavingClock.{SavingClock}
use Rattle.ptpm_saved.specs.Batching.{Handles}
use Rattle.ptpm_host.specs.Changing.{IsChangedHere, change_refusal}
use Rattle.ptpm_host.specs.Coming.{Changed}
use Rattle.ptpm_host.specs.SavingClock.{IsCalledAt}
use Rattle.ptpm_host.specs.Numbers.{change_number}

-- the error with which a manager would be refused; 0 if it is none of these
abbrev pub error_in : ChangeRefusal → ℕ
error_in refusals.NoPort = 0
error_in refusals.NotPermitted = 0
error_in refusals.BadValue = 0
error_in refusals.UnderWay = 0
error_in (refusals.Refused error) = error_number error

-- it is carried out, and these members of the clock have another value then
abbrev pub ChangesHere : HostedClock → RequestValue → ℕ → ℕ → ChangedMembers → Option HostedClock → Type 0
ChangesHere c q number error members left =
    change_refusal q c ≡ None
    → (number ≡ 0)
    × ((error ≡ 0)
    × IsSomeAnd left (λ d. IsChangedHere q c d × (members ≡ changed c.agent.sets d.agent.sets)))

-- the same of a clock that is saved while it takes datagrams, which is unsaved then
abbrev pub ChangesUnsaved : SavingClock → RequestValue → ℕ → ℕ → ChangedMembers → Option SavingClock → Type 0
ChangesUnsaved w q number error members left =
    change_refusal q w.clock.value ≡ None
    → (number ≡ 0)
    × ((error ≡ 0)
    × IsSomeAnd left
    (λ x.
    (IsCalledAt w (Handles (Changed q)) x
    × (IsChangedHere q w.clock.value x.clock.value × (x.waits ≡ true)))
    × (members ≡ changed w.clock.value.agent.sets x.clock.value.agent.sets)))

-- the first reason why it is not is named, with the error of a manager's refusal, and nothing changes
abbrev pub RefusesHere : {A : Type 0} → Option ChangeRefusal → ℕ → ℕ → ChangedMembers → A → Option A → Type 0
RefusesHere refusal number error members c left =
    (e : ChangeRefusal)
    → refusal ≡ Some e
    → (number ≡ change_number e)
    × ((error ≡ error_in e) × ((members ≡ no_members) × (left ≡ Some c)))
