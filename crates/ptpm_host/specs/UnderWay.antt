-- When a message may be under way, what its device is asked, and the image of a clock that has one (this project's profile).
use Rattle.std.specs.Prelude.{◌≡◌, ◌<◌, ◌≤◌, ◌+◌, ◌==◌, ◌&&◌, ℕ, Bool, true, false, nat_le, List, ◌++◌, length, take, bytes_eq, Option, Some, None}
use Rattle.std.specs.Option.{option_map}
use Rattle.byteorder.specs.Endian.{big_bytes}
use Rattle.ptpm_codec.specs.declared.message.Message.{Message}
use Rattle.ptpm_codec.specs.Layout.{message_octets, octet}
use Rattle.ptpm_codec.specs.Message.{action_of}
use Rattle.ptpm_codec.specs.Reading.{message_of}
use Rattle.ptpm_agent.specs.Turn.{NumberedRequest, numbered_from}
use Rattle.ptpm_device.specs.Relayed.{is_change}
use Rattle.ptpm_manager.specs.Image.{image_head, image_version, mark}
use Rattle.ptpm_saved.specs.SavingClock.{Datagram}
use Rattle.ptpm_host.specs.declared.device.Question.{Question}
use Rattle.ptpm_host.specs.Device.{IsAsked}

-- ---- a message

abbrev pub is_change_in : Option Message → Bool
is_change_in None = false
is_change_in (Some v) = is_change (action_of v.body)

-- a SET or COMMAND and nothing after it, of 184 octets at most
unfoldable pub may_be_under_way : List ℕ → Bool
may_be_under_way octets =
    is_change_in (message_of octets) && (length (message_octets octets) == length octets && nat_le (length octets) 184)

-- what the device is asked
abbrev pub asked_of : Option Datagram → Option NumberedRequest
asked_of None = None
asked_of (Some x) = option_map numbered_from (message_of x.1)

abbrev pub AnswersAsked : Option NumberedRequest → Option Question → Type 0
AnswersAsked (Some r) (Some q) = IsAsked r q
AnswersAsked None None = Unit {0}
AnswersAsked _ _ = ⊥

-- ---- its image: the port, the number of its octets, the message, and the image of the clock alone

abbrev pub under_way_kind : ℕ
under_way_kind = 3

-- what comes before the message, with this many octets after the head
unfoldable pub under_way_front : ℕ → ℕ → ℕ → List ℕ
under_way_front size port count = image_head under_way_kind size ++ big_bytes 2 port ++ big_bytes 2 count

unfoldable pub under_way_image : Datagram → List ℕ → List ℕ
under_way_image x image = under_way_front (4 + length x.1 + length image) x.0 (length x.1) ++ x.1 ++ image

abbrev pub image_with : Option Datagram → List ℕ → List ℕ
image_with None image = image
image_with (Some x) image = under_way_image x image

-- it says that it has a message that is under way
unfoldable pub has_under_way : List ℕ → Bool
has_under_way octets =
    nat_le 12 (length octets)
    && (bytes_eq (take 4 octets) mark && (octet 4 octets == under_way_kind && octet 5 octets == image_version))

-- these octets are this image, for a clock with this many ports
pub record IsUnderWayImage (ports : ℕ) (x : Datagram) (image octets : List ℕ) : Type 0 where
  pub from_one : 1 ≤ x.0
  pub port : x.0 ≤ ports
  pub is_number : x.0 < 65536
  pub may_be : may_be_under_way x.1 ≡ true
  pub octets_are : octets ≡ under_way_image x image
