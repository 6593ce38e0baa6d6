-- The image of a session: the octets in which it outlasts the manager's power. A head says what the image is of, and the
-- session follows. Numbers of several octets have the highest octet first (this project's profile).
use Rattle.std.specs.Prelude.{◌≡◌, ℕ, ◌^◌, ◌<◌, List, [], ◌∷◌, ◌++◌, length, codes, Option, Some, None}
use Rattle.byteorder.specs.Endian.{big_bytes}
use Rattle.ptpm_codec.specs.Canonical.{port_identity_octets}
use Rattle.ptpm_codec.specs.Message.{PortIdentityFits, action_code}
use Rattle.ptpm_data.specs.Request.{RequestValue}
use Rattle.ptpm_manager.specs.declared.setup.Setup.{Setup}
use Rattle.ptpm_manager.specs.Session.{SessionValue}

-- ---- the head

abbrev pub mark : List ℕ
mark = codes "ptpm"

-- an image of a clock is of kind 1
abbrev pub session_kind : ℕ
session_kind = 2

abbrev pub image_version : ℕ
image_version = 1

-- the mark, the kind, the version, two octets that are 0, and how many octets follow: 12 octets
unfoldable pub image_head : ℕ → ℕ → List ℕ
image_head kind size = mark ++ kind ∷ image_version ∷ 0 ∷ 0 ∷ [] ++ big_bytes 4 size

-- ---- the session, one part after the other

-- me, target, ports, first, hops, attempts: 23 octets
unfoldable pub setup_image : Setup → List ℕ
setup_image setup =
    port_identity_octets setup.me ++ setup.target.0 ++ setup.ports ∷ [] ++ big_bytes 2 setup.first
    ++ setup.hops ∷ setup.attempts ∷ []

-- action, id, the target's portNumber and the size of the dataField
abbrev pub request_front : RequestValue → List ℕ
request_front q =
    action_code q.action ∷ [] ++ big_bytes 2 q.id ++ big_bytes 2 q.port ++ big_bytes 2 (length q.octets)

-- and then the dataField
unfoldable pub request_image : RequestValue → List ℕ
request_image q = request_front q ++ q.octets

-- 0, or 1 and the request that is not answered
unfoldable pub unanswered_image : Option RequestValue → List ℕ
unanswered_image None = 0 ∷ []
unanswered_image (Some q) = 1 ∷ request_image q

-- the same without the dataField
abbrev pub unanswered_front : Option RequestValue → List ℕ
unanswered_front None = 0 ∷ []
unanswered_front (Some q) = 1 ∷ request_front q

-- after the setup: the domain, how many requests were begun, and which of them was reported last
unfoldable pub body_image : Setup → ℕ → ℕ → ℕ → Option RequestValue → List ℕ
body_image setup domain issued reported unanswered =
    setup_image setup ++ domain ∷ [] ++ big_bytes 8 issued ++ big_bytes 8 reported ++ unanswered_image unanswered

-- ---- the whole

unfoldable pub image_of : Setup → ℕ → ℕ → ℕ → Option RequestValue → List ℕ
image_of setup domain issued reported unanswered =
    image_head session_kind (length (body_image setup domain issued reported unanswered))
    ++ body_image setup domain issued reported unanswered

-- how often the request may still be sent is not in the image
abbrev pub session_image : SessionValue → List ℕ
session_image s = image_of s.setup s.domain s.issued s.reported s.unanswered

-- ---- the whole in two parts: what comes before the dataField, and the dataField, with which it ends

unfoldable pub body_front : Setup → ℕ → ℕ → ℕ → Option RequestValue → List ℕ
body_front setup domain issued reported unanswered =
    setup_image setup ++ domain ∷ [] ++ big_bytes 8 issued ++ big_bytes 8 reported ++ unanswered_front unanswered

unfoldable pub image_front : Setup → ℕ → ℕ → ℕ → Option RequestValue → List ℕ
image_front setup domain issued reported unanswered =
    image_head session_kind (length (body_image setup domain issued reported unanswered))
    ++ body_front setup domain issued reported unanswered

abbrev pub session_front : SessionValue → List ℕ
session_front s = image_front s.setup s.domain s.issued s.reported s.unanswered

abbrev pub data_field_of : Option RequestValue → List ℕ
data_field_of None = []
data_field_of (Some q) = q.octets

-- ---- values that have an image of their own: numbers of their types, and identities of eight octets

pub record SetupFits (setup : Setup) : Type 0 where
  pub me : PortIdentityFits setup.me
  pub target : length setup.target.0 ≡ 8
  pub first : setup.first < 2 ^ 16

abbrev pub UnansweredFits : Option RequestValue → Type 0
UnansweredFits None = Unit {0}
UnansweredFits (Some q) = q.id < 2 ^ 16

pub record SessionFits (s : SessionValue) : Type 0 where
  pub setup : SetupFits s.setup
  pub unanswered : UnansweredFits s.unanswered
