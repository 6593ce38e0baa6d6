-- What a clock asks of its device: each change that it undertook, at the first save that has it (this project's profile).
use Rattle.std.specs.Prelude.{◌≡◌, ◌==◌, ◌&&◌, ◌||◌, ℕ, Bool, true, false, not, is_some, List, [], ◌∷◌, ◌++◌, drop, take, if◌then◌else◌, Option, Some, None}
use Rattle.ptpm_codec.specs.declared.message.Message.{Message}
use Rattle.ptpm_codec.specs.Layout.{message_octets}
use Rattle.ptpm_codec.specs.Reading.{message_of}
use Rattle.ptpm_data.specs.ObservationBack.{Observation}
use Rattle.ptpm_saved.specs.Saving.{Came, Happening, IsPartOf, Noted, after_all, all_reports, what_counts}
use Rattle.ptpm_saved.specs.SavingClock.{Datagram}
use Rattle.ptpm_saved.specs.Batching.{Call, Confirms, all_events, begun, calls}
use Rattle.ptpm_device.specs.Asking.{asked}
use Rattle.ptpm_host.specs.Changing.{moves_domain, moves_domain_in}
use Rattle.ptpm_host.specs.Clock.{DeviceClock}
use Rattle.ptpm_host.specs.Coming.{Changed, ClockBatch, ClockState, Coming, Decides, Heard, OfOwner, Undertakes, coming_process, is_held_by, undertakes}

-- ---- what is undertaken

abbrev pub undertakings : DeviceClock → ClockState → Coming → List Datagram
undertakings c s (Undertakes port datagram) = if undertakes c s datagram then (port, message_octets datagram) ∷ [] else []
undertakings c s _ = []

-- ---- what is asked

abbrev pub is_decision : Coming → Bool
is_decision (Decides say) = true
is_decision _ = false

abbrev pub decides_in : List (Happening Coming Observation) → Bool
decides_in [] = false
decides_in (Came x ∷ hs) = is_decision x || decides_in hs
decides_in (Noted o ∷ hs) = decides_in hs

-- What the device is asked once an image is saved that was made after the first `count` of what happened since. It was undertaken among
-- these. It is under way after them, and no decision came later.
abbrev pub asked_once_saved : DeviceClock → ClockBatch → ℕ → Option Datagram
asked_once_saved c b count =
    if (not (is_some b.base.under_way) || decides_in (take count b.since)) && not (decides_in (drop count b.since))
    then (after_all (coming_process c) b.base (take count b.since)).under_way
    else None

abbrev pub all_of : Option Datagram → List Datagram
all_of None = []
all_of (Some x) = x ∷ []

abbrev pub asked_at : DeviceClock → ClockBatch → Call Coming Observation → List Datagram
asked_at c b (Confirms count) = all_of (asked_once_saved c b count)
asked_at c b _ = []

abbrev pub all_asked : DeviceClock → ClockBatch → List (Call Coming Observation) → List Datagram
all_asked c b [] = []
all_asked c b (call ∷ rest) = asked_at c b call ++ all_asked c (calls (coming_process c) (is_held_by c) b call) rest

-- ---- what is promised

-- Each question is of another undertaking, in their order. They are the undertakings of the clock whose power never fails. So the device
-- is asked for nothing else, and for none of them twice, however often power fails.
abbrev pub AsksAtMostOnce : DeviceClock → ClockState → List (Call Coming Observation) → Type 0
AsksAtMostOnce c s each =
    IsPartOf (all_asked c (begun s) each)
    (all_reports (undertakings c) (coming_process c) s
    (what_counts (coming_process c) s (all_events (coming_process c) (is_held_by c) (begun s) each)))

-- ---- its domain

-- what is under way came in the clock's domain
abbrev pub IsInItsDomain : ClockState → Type 0
IsInItsDomain s = (x : Datagram) (v : Message)
    → s.under_way ≡ Some x
    → message_of x.1 ≡ Some v
    → (v.sdo == 0 ≡ true) × (v.domain == s.state.sets.default.domain ≡ true)

-- what a clock takes while a change is under way: no other change of a manager, and of the owner no SET of DOMAIN
abbrev pub is_taken_meanwhile : DeviceClock → ClockState → Coming → Bool
is_taken_meanwhile c s (Heard port datagram say) = not (is_some (asked c.rows c.clock s.state datagram))
is_taken_meanwhile c s (OfOwner port datagram) = not (moves_domain_in (message_of datagram))
is_taken_meanwhile c s (Changed request) = not (moves_domain request)
is_taken_meanwhile c s (Undertakes port datagram) = true
is_taken_meanwhile c s (Decides say) = true
