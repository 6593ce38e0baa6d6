-- What a line of a script does (this project's profile), by its words. A line that is no event has the first fault that holds.
-- These are an unknown verb or action, a wrong number of words, a bad number, a bad id, and bad hexadecimal digits. A fault is
-- at a word, by its place from 0 on, and says what is expected of it. A wrong number of words is at the verb.
use Rattle.std.specs.Prelude.{ℕ, if◌then◌else◌, List, [], ◌∷◌, codes, bytes_eq, Option, Some, None, option_map, Result, Ok, Err, ◌≡◌, ◌⊎◌, drop}
use Rattle.std.specs.Result.{result_ok}
use Rattle.hex.specs.Hex.{decode_of}
use Rattle.ptpm_codec.specs.declared.message.Action.{Action}
use Rattle.ptpm_script.specs.declared.event.Event.{Event}
use Rattle.ptpm_script.specs.declared.event.Event.TheVariants.{Begin, Send, Resume, Retune, Deliver, Stranger}
use Rattle.ptpm_script.specs.declared.event.EventError.{EventError}
use Rattle.ptpm_script.specs.declared.event.EventError.TheVariants.{UnknownWord, WordCount, BadNumber, BadId, BadHex, OutOfMemory}
use Rattle.ptpm_script.specs.declared.line_fault.Expected.{Expected}
use Rattle.ptpm_script.specs.declared.line_fault.Expected.TheVariants.{Verb as AVerb, Action as AnAction, Words, Number, PortOrNone, Id, Octets}
use Rattle.ptpm_script.specs.declared.line_fault.LineError.{LineError}
use Rattle.ptpm_script.specs.declared.line_fault.LineError.TheVariants as errors
use Rattle.ptpm_script.specs.declared.line_fault.LineFault.{LineFault}
use Rattle.ptpm_script.specs.declared.line_fault.Verb.TheVariants as verbs
use Rattle.ptpm_text.specs.Numbers.{decimal_up_to}
use Rattle.ptpm_text.specs.RequestNames.{action_named, id_named}
use Rattle.ptpm_text.specs.Words.{words, one_word, two_words, three_words, first_words}

-- ---- single words

-- no value is meant
abbrev pub dash : List ℕ
dash = codes "-"

-- a port, if one is named
unfoldable pub port_named : List ℕ → Option (Option ℕ)
port_named word = if bytes_eq word dash then Some None else option_map (λ port. Some port) (decimal_up_to 65535 word)

-- two hexadecimal digits for each octet
unfoldable pub octets_of : List ℕ → Option (List ℕ)
octets_of word = if bytes_eq word dash then Some [] else result_ok (decode_of word)

-- ---- lines, without their verb

abbrev pub fault : ℕ → Expected → Result Event LineFault
fault place expected = Err (record { place = place; expected = expected })

-- what is made of a value, if it is there
abbrev pub given : {A : Type 0}
    → Option A
    → ℕ
    → Expected
    → (A → Result Event LineFault)
    → Result Event LineFault
given None place expected make = fault place expected
given (Some a) place expected make = make a

-- session
abbrev pub send_of : List (List ℕ) → Result Event LineFault
send_of ws = given (one_word ws) 0 (Words verbs.Send) (λ session. Ok (Send session))

-- session, attempts
abbrev pub resume_of : List (List ℕ) → Result Event LineFault
resume_of ws =
    given (two_words ws) 0 (Words verbs.Resume) (λ w. given (decimal_up_to 255 w.1) 2 (Number 255) (λ n. Ok (Resume w.0 n)))

-- session, domain
abbrev pub retune_of : List (List ℕ) → Result Event LineFault
retune_of ws =
    given (two_words ws) 0 (Words verbs.Retune) (λ w. given (decimal_up_to 255 w.1) 2 (Number 255) (λ n. Ok (Retune w.0 n)))

-- frame; a network holds 400,000 at most
abbrev pub deliver_of : List (List ℕ) → Result Event LineFault
deliver_of ws =
    given (one_word ws) 0 (Words verbs.Deliver) (λ w. given (decimal_up_to 400000 w) 1 (Number 400000) (λ n. Ok (Deliver n)))

-- clock, port, octets
abbrev pub stranger_of : List (List ℕ) → Result Event LineFault
stranger_of ws = given (three_words ws) 0 (Words verbs.Stranger) (λ w.
    given (decimal_up_to 65535 w.1) 2 (Number 65535) (λ port.
    given (octets_of w.2) 3 Octets (λ octets.
    Ok (Stranger w.0 port octets))))

-- id, port, octets
abbrev pub ask_of : List ℕ → Action → List (List ℕ) → Result Event LineFault
ask_of session action ws = given (three_words ws) 0 (Words verbs.Begin) (λ w.
    given (port_named w.1) 4 PortOrNone (λ port.
    given (id_named w.0) 3 Id (λ id.
    given (octets_of w.2) 5 Octets (λ octets.
    Ok (Begin session (record { action = action; id = id; port = port; octets = octets }))))))

-- session, action, and what is asked; an unknown action is judged only if there is one
abbrev pub begin_of : List (List ℕ) → Result Event LineFault
begin_of ws = given (first_words ws) 0 (Words verbs.Begin) (λ w.
    given (action_named w.1) 2 AnAction (λ action.
    ask_of w.0 action (drop 2 ws)))

-- ---- lines

-- the event of a line, or its first fault
abbrev pub line_of : List (List ℕ) → Result Event LineFault
line_of [] = fault 0 AVerb
line_of (verb ∷ more) =
    if bytes_eq verb (codes "begin") then begin_of more
    else if bytes_eq verb (codes "send") then send_of more
    else if bytes_eq verb (codes "resume") then resume_of more
    else if bytes_eq verb (codes "retune") then retune_of more
    else if bytes_eq verb (codes "deliver") then deliver_of more
    else if bytes_eq verb (codes "stranger") then stranger_of more
    else fault 0 AVerb

-- an answer is this one, or memory was refused
abbrev pub IsRead : Result Event LineError → Result Event LineFault → Type 0
IsRead (Ok e) wanted = wanted ≡ Ok e
IsRead (Err (errors.Fault f)) wanted = wanted ≡ Err f
IsRead (Err errors.OutOfMemory) wanted = Unit {0}

-- ---- events

-- why a line is refused in which this was expected
abbrev pub error_of : Expected → EventError
error_of AVerb = UnknownWord
error_of AnAction = UnknownWord
error_of (Words verb) = WordCount
error_of (Number most) = BadNumber
error_of PortOrNone = BadNumber
error_of Id = BadId
error_of Octets = BadHex

abbrev pub event_of : Result Event LineFault → Result Event EventError
event_of (Ok event) = Ok event
event_of (Err f) = Err (error_of f.expected)

abbrev pub reading : List ℕ → Result Event EventError
reading line = event_of (line_of (words line))

-- an answer is this one, or memory was refused
abbrev pub IsAnswer : Result Event EventError → Result Event EventError → Type 0
IsAnswer (Ok e) wanted = wanted ≡ Ok e
IsAnswer (Err e) wanted = (e ≡ OutOfMemory) ⊎ (wanted ≡ Err e)

-- ---- verbs

abbrev pub verb_of : Event → List ℕ
verb_of (Begin session ask) = codes "begin"
verb_of (Send session) = codes "send"
verb_of (Resume session attempts) = codes "resume"
verb_of (Retune session domain) = codes "retune"
verb_of (Deliver frame) = codes "deliver"
verb_of (Stranger clock port octets) = codes "stranger"
