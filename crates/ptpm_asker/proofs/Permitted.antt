-- What a session begins, it also begins for a question, for a read and in a session that begins. Then only memory is refused.
use Rattle.std.proofs.Common.{◌≡◌, ◌≢◌, ◌∙◌, ap, refl, ℕ, Bool, true, false, not, ◌&&◌, if◌then◌else◌, List, [], ◌∷◌, Option, Some, None, is_some, nat_lt, Result, Ok, Err, IfErr}
use Rattle.std.specs.Option.{option_or}
use Rattle.ptpm_codec.specs.declared.message.Action.TheVariants as actions
use Rattle.ptpm_codec.specs.Message.{is_data_field}
use Rattle.ptpm_codec.specs.Ordered.{first_of}
use Rattle.ptpm_data.specs.ManagementId.{is_of_port, row_of}
use Rattle.ptpm_manager.specs.Ask.{ask_of, ask_refusal, named_ask_refusal, names_port}
use Rattle.ptpm_manager.specs.declared.ask.Ask.{Ask}
use Rattle.ptpm_manager.specs.declared.error.BeginError.{BeginError}
use Rattle.ptpm_manager.specs.declared.error.BeginError.TheVariants as begins
use Rattle.ptpm_manager.specs.declared.setup.Setup.{Setup}
use Rattle.ptpm_manager.specs.Session.{SessionValue, begin_at_refusal, begin_refusal, count_limit, fresh, is_waiting}
use Rattle.ptpm_asker.specs.Question.{asked_refusal, begins_refusal}

-- DEFAULT_DATA_SET is of no port
pub of-clock : (asked : ℕ) → is_of_port 0x2000 ≡ true → is_of_port asked ≡ true
unfolding row_of
of-clock asked h = absurd (cc)

either : {A : Type 0} (b : Bool) (x y u v : Option A)
    → (x ≡ None → u ≡ None)
    → (y ≡ None → v ≡ None)
    → (if b then x else y) ≡ None
    → (if b then u else v) ≡ None
either true x y u v f g h = f h
either false x y u v f g h = g h

after : {A : Type 0} (first x y : Option A) → (x ≡ None → y ≡ None) → option_or first x ≡ None → option_or first y ≡ None
after (Some a) x y f h = h
after None x y f h = f h

between : {A : Type 0} (first x y last : Option A)
    → (x ≡ None → y ≡ None)
    → option_or first (option_or x last) ≡ None
    → option_or first (option_or y last) ≡ None
between (Some a) x y last f h = h
between None (Some a) y last f h = absurd (cc)
between {A = A} None None y last f h = ap (λ (o : Option A). option_or o last) (f refl) ∙ h

-- an id of a port is asked only where one was, and its dataField is one
needs : (n p q : Bool) (reply field : Bool)
    → (q ≡ true → p ≡ true)
    → first_of ((p && not n, begins.NeedsPort) ∷ (reply, begins.NotPermitted) ∷ (not field, begins.BadValue) ∷ []) ≡ None
    → first_of ((q && not n, begins.NeedsPort) ∷ (false, begins.NotPermitted) ∷ (false, begins.BadValue) ∷ []) ≡ None
needs n p false reply field port h = refl
needs true p true reply field port h = refl
needs false true true reply field port h = absurd (cc)
needs false false true reply field port h = absurd (let x = port refl in cc)

asks-also : (ports : ℕ) (a : Ask) (id : ℕ) (octets : List ℕ)
    → (is_of_port id ≡ true → is_of_port a.id ≡ true)
    → is_data_field octets ≡ true
    → ask_refusal ports a ≡ None
    → ask_refusal ports (ask_of actions.Get id a.port octets) ≡ None
unfolding ask_refusal
asks-also ports a id octets port is_field h =
    rw is_field (needs (names_port ports a.port) (is_of_port a.id) (is_of_port id) _ _ port h)

named-also : (ports : ℕ) (a : Ask) (id : ℕ) (octets : List ℕ)
    → (is_of_port id ≡ true → is_of_port a.id ≡ true)
    → is_data_field octets ≡ true
    → named_ask_refusal ports a ≡ None
    → named_ask_refusal ports (ask_of actions.Get id a.port octets) ≡ None
unfolding named_ask_refusal
named-also ports a id octets port is_field h =
    after (first_of ((not (names_port ports a.port), begins.NeedsPort) ∷ [])) (ask_refusal ports a)
    (ask_refusal ports (ask_of actions.Get id a.port octets)) (asks-also ports a id octets port is_field) h

abbrev busy : SessionValue → Option BeginError
busy s = first_of ((is_waiting s, begins.Busy) ∷ [])

abbrev full : SessionValue → Option BeginError
full s = first_of ((not (nat_lt s.issued count_limit), begins.CountAtMaximum) ∷ [])

pub begins-also : (s : SessionValue) (a : Ask) (id : ℕ) (octets : List ℕ)
    → (is_of_port id ≡ true → is_of_port a.id ≡ true)
    → is_data_field octets ≡ true
    → begins_refusal s a ≡ None
    → begins_refusal s (ask_of actions.Get id a.port octets) ≡ None
unfolding begin_refusal begin_at_refusal
begins-also s a id octets port is_field h =
    let also : Ask = ask_of actions.Get id a.port octets in
    either (is_some a.port) (begin_at_refusal s a) (begin_refusal s a) (begin_at_refusal s also) (begin_refusal s also)
    (between (busy s) (named_ask_refusal s.setup.ports a) (named_ask_refusal s.setup.ports also) (full s)
    (named-also s.setup.ports a id octets port is_field))
    (between (busy s) (ask_refusal s.setup.ports a) (ask_refusal s.setup.ports also) (full s)
    (asks-also s.setup.ports a id octets port is_field)) h

pub begins_fresh : (setup : Setup) (domain : ℕ) (a : Ask)
    → asked_refusal setup.ports a ≡ None
    → begins_refusal (fresh setup domain) a ≡ None
unfolding begin_refusal begin_at_refusal
begins_fresh setup domain a h =
    either (is_some a.port) _ _ _ _ (λ x. ap (λ (o : Option BeginError). option_or o None) x)
    (λ x. ap (λ (o : Option BeginError). option_or o None) x) h

memory : (e : BeginError) (first : Option BeginError) → (e ≢ begins.OutOfMemory → first ≡ Some e) → first ≡ None → e ≡ begins.OutOfMemory
memory begins.OutOfMemory first told none = refl
memory e first told none = absurd (let x = told (λ memory. cc) in cc)

pub memory-alone : {T : Type 0} (result : Result T BeginError) (first : Option BeginError)
    → IfErr result (λ e. e ≢ begins.OutOfMemory → first ≡ Some e)
    → first ≡ None
    → IfErr result (λ e. e ≡ begins.OutOfMemory)
memory-alone (Ok x) first told none = told
memory-alone (Err e) first told none = memory e first told none
