-- What a clock's device is asked, and what it says, as a host in C has them.
use Rattle.std.specs.Prelude.{◌≡◌, ◌≤◌, ◌==◌, ◌&&◌, ◌%◌, ℕ, Bool, true, false, not, nat_le, nat_lt, if◌then◌else◌, List, [], ◌∷◌, drop, length, replicate, take, Option, Some, None, Result, Ok, Err}
use Rattle.ptpm_codec.specs.declared.error.ErrorId.{ErrorId}
use Rattle.ptpm_codec.specs.declared.error.ErrorId.TheVariants.{GeneralError, NotSetable, NotSupported, WrongValue}
use Rattle.ptpm_codec.specs.Message.{action_code}
use Rattle.ptpm_codec.specs.Ordered.{first_of}
use Rattle.ptpm_agent.specs.Turn.{NumberedRequest}
use Rattle.ptpm_device.specs.Saying as says
use Rattle.ptpm_host.specs.declared.device.Asking.{Asking}
use Rattle.ptpm_host.specs.declared.device.Asking.TheVariants as askings
use Rattle.ptpm_host.specs.declared.device.Question.{Question}
use Rattle.ptpm_host.specs.declared.device.Say.{Say}
use Rattle.ptpm_host.specs.declared.refusal.HandleRefusal.TheVariants as handles
use Rattle.ptpm_host.specs.declared.refusal.SaidRefusal.{SaidRefusal}
use Rattle.ptpm_host.specs.declared.refusal.SaidRefusal.TheVariants as refusals

-- ---- what it is asked

-- this request, of whose dataField there is room for 130 octets; zeros after it
pub record IsAsked (r : NumberedRequest) (a : Question) : Type 0 where
  pub manager : a.manager ≡ r.manager.clock.0
  pub manager_port : a.manager_port ≡ r.manager.port
  pub number : a.number ≡ r.number
  pub action : a.action ≡ action_code r.request.action
  pub id : a.id ≡ r.request.id
  pub port : a.port ≡ r.request.port
  pub octets : length r.request.octets ≤ 130 → take a.size a.octets ≡ r.request.octets
  pub size : a.size ≤ 130
  pub zeros : drop a.size a.octets ≡ drop a.size (replicate 130 0)

-- nothing is asked: all is zero
abbrev pub AsksNothing : Question → Type 0
AsksNothing a = a ≡ record {
  manager = replicate 8 0;
  manager_port = 0;
  number = 0;
  id = 0;
  port = 0;
  size = 0;
  action = 0;
  octets = replicate 130 0;
}

-- this GET, without a dataField
pub record IsWanted (r : NumberedRequest) (a : Question) : Type 0 where
  pub manager : a.manager ≡ r.manager.clock.0
  pub manager_port : a.manager_port ≡ r.manager.port
  pub number : a.number ≡ r.number
  pub action : a.action ≡ action_code r.request.action
  pub id : a.id ≡ r.request.id
  pub port : a.port ≡ r.request.port
  pub size : a.size ≡ 0
  pub octets : a.octets ≡ replicate 130 0

-- the device is asked to carry out the first, if there is one, and else for the value of the second
abbrev pub Answers : Option NumberedRequest → Option NumberedRequest → Asking → Type 0
Answers (Some r) o (askings.Change a) = IsAsked r a
Answers (Some r) o (askings.Value a) = ⊥
Answers (Some r) o askings.Nothing = ⊥
Answers None (Some r) (askings.Change a) = ⊥
Answers None (Some r) (askings.Value a) = IsWanted r a
Answers None (Some r) askings.Nothing = ⊥
Answers None None (askings.Change a) = ⊥
Answers None None (askings.Value a) = ⊥
Answers None None askings.Nothing = Unit {0}

-- ---- what it says

-- one of the four errors that a device may give
abbrev pub error_in : ℕ → Option ErrorId
error_in error =
    if error == 4 then Some WrongValue
    else if error == 5 then Some NotSetable
    else if error == 6 then Some NotSupported
    else if error == 65534 then Some GeneralError
    else None

abbrev pub objection_of : Option ErrorId → Result says.Say SaidRefusal
objection_of None = Err refusals.BadSay
objection_of (Some error) = Ok (says.Objects error)

-- a dataField, of the first octets
abbrev pub value_of : ℕ → List ℕ → Result says.Say SaidRefusal
value_of size octets = if size % 2 == 0 && nat_le size 1418 then Ok (says.Gives (take size octets)) else Err refusals.BadSay

abbrev pub say_in : Say → Result says.Say SaidRefusal
say_in s =
    if s.kind == 0 then Ok says.Agrees
    else if s.kind == 1 then objection_of (error_in s.error)
    else if s.kind == 2 then value_of s.size s.octets
    else Err refusals.BadSay

abbrev pub is_bad : {A B : Type 0} → Result A B → Bool
is_bad (Ok a) = false
is_bad (Err e) = true

-- why a datagram is not handled with what the device says, if the clock sends this many messages at most
abbrev pub said_refusal : Bool → ℕ → ℕ → Say → Option SaidRefusal
said_refusal has_port most room say = first_of (
    (not has_port, refusals.Handle handles.NoPort)
    ∷ (nat_lt room most, refusals.Handle handles.NoRoom)
    ∷ (is_bad (say_in say), refusals.BadSay)
    ∷ [])
