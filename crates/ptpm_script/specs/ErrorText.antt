-- How it is written that a text is no network, or a line no event (this project's profile).
use Rattle.std.specs.Prelude.{ℕ, List, ◌++◌, codes}
use Rattle.ptpm_data.specs.ErrorText.{start_error_text}
use Rattle.ptpm_script.specs.declared.event.EventError.{EventError}
use Rattle.ptpm_script.specs.declared.event.EventError.TheVariants as lines
use Rattle.ptpm_script.specs.declared.net_error.NetError.{NetError}
use Rattle.ptpm_script.specs.declared.net_error.NetError.TheVariants as texts

-- after BadClock comes why the clock can't start
abbrev pub net_error_text : NetError → List ℕ
net_error_text texts.TooLong = codes "TooLong"
net_error_text texts.NotToml = codes "NotToml"
net_error_text texts.BadShape = codes "BadShape"
net_error_text texts.TooMany = codes "TooMany"
net_error_text texts.Twice = codes "Twice"
net_error_text texts.NoSuchName = codes "NoSuchName"
net_error_text (texts.BadClock fault) = codes "BadClock " ++ start_error_text fault
net_error_text texts.OutOfMemory = codes "OutOfMemory"

abbrev pub event_error_text : EventError → List ℕ
event_error_text lines.UnknownWord = codes "UnknownWord"
event_error_text lines.WordCount = codes "WordCount"
event_error_text lines.BadNumber = codes "BadNumber"
event_error_text lines.BadId = codes "BadId"
event_error_text lines.BadHex = codes "BadHex"
event_error_text lines.OutOfMemory = codes "OutOfMemory"
