-- The network that a text is, or why it is none: the refusal of the first fault in it (this project's profile).
use Rattle.std.specs.Prelude.{ℕ, ◌≡◌, ◌⊎◌, nat_lt, if◌then◌else◌, List, [], ◌∷◌, bytes_eq, codes, flat_map, length, map, take, Option, Some, None, option_and_then, unwrap_or, Result, Ok, Err, ◌==◌}
use Rattle.std.specs.List.{position_from, range_with_len}
use Rattle.std.specs.Option.{option_or}
use Rattle.toml.specs.Data.{Data, Members, as_str, as_table}
use Rattle.toml.specs.Parse.{parse_document}
use Rattle.toml.specs.View.{table_view}
use Rattle.ptpm_codec.specs.declared.identity.PortIdentity.{PortIdentity}
use Rattle.ptpm_data.specs.Start.{default_port, start_fault}
use Rattle.ptpm_data.specs.declared.start.PortStart.{PortStart}
use Rattle.ptpm_data.specs.declared.start.StartError.{StartError}
use Rattle.ptpm_script.specs.declared.limits.TheConstants.{CLOCK_PORTS}
use Rattle.ptpm_script.specs.declared.document.Document.{Document}
use Rattle.ptpm_script.specs.declared.document.Document.TheVariants as documents
use Rattle.ptpm_script.specs.declared.net_error.NetError.{NetError}
use Rattle.ptpm_script.specs.declared.net_error.NetError.TheVariants.{TooLong, NotToml, OutOfMemory}
use Rattle.ptpm_script.specs.declared.network.End.{End}
use Rattle.ptpm_script.specs.declared.network.End.TheVariants as ends
use Rattle.ptpm_script.specs.declared.network.NetworkSession.{NetworkSession}
use Rattle.ptpm_script.specs.Faults.{file_marks}
use Rattle.ptpm_script.specs.Heads.{ClockHeadValue, SessionHeadValue, clocks_of, items_at, items_in, number_in, sessions_of}
use Rattle.ptpm_script.specs.Marks.{Mark}
use Rattle.ptpm_script.specs.NetworkValue.{ClockValue, NetworkValue}
use Rattle.ptpm_script.specs.Rights.{rights_at}
use Rattle.ptpm_script.specs.Spellings.{end_of, passes}
use Rattle.ptpm_script.specs.StartFaults.{some_clock}
use Rattle.ptpm_script.specs.Starts.{clock_start, port_start}
use Rattle.ptpm_script.specs.Values.{natural_at}

-- ---- what a document has: each value as it is there, or one in its place that no file without a fault needs

abbrev pub number_or : ℕ → List ℕ → Members → ℕ
number_or most key ms = unwrap_or (natural_at most key ms) 0

-- ---- clocks

abbrev pub members_start : Option Members → PortStart
members_start None = default_port
members_start (Some ms) = port_start ms

-- the start of the port of a number: of its table, or this profile's defaults
abbrev pub start_of_port : List Data → ℕ → PortStart
start_of_port [] number = default_port
start_of_port (d ∷ ds) number = if passes (λ n. n == number) (number_in d) then members_start (as_table d) else start_of_port ds number

-- the ports from 1 on
unfoldable pub ports_of_clock : ClockHeadValue → List PortStart
ports_of_clock c = map (start_of_port (items_at (codes "port") c.table)) (range_with_len 1 (unwrap_or c.count 0))

unfoldable pub clock_of : ClockHeadValue → ClockValue
clock_of c = record {
  name = unwrap_or c.name [];
  start = clock_start (unwrap_or c.identity some_clock) (number_or 255 (codes "domain") c.table) c.table;
  ports = ports_of_clock c;
}

-- why the first clock that can't start can't
abbrev pub first_start_fault : List ClockValue → Option StartError
first_start_fault [] = None
first_start_fault (c ∷ cs) = option_or (start_fault CLOCK_PORTS c.start c.ports) (first_start_fault cs)

-- ---- places, from 0

abbrev pub clock_place : List ClockHeadValue → List ℕ → ℕ
clock_place cs name = unwrap_or (position_from (λ c. passes (λ other. bytes_eq other name) c.name) 0 cs) 0

abbrev pub session_place : List SessionHeadValue → List ℕ → ℕ
session_place ss name = unwrap_or (position_from (λ s. passes (λ other. bytes_eq other name) s.name) 0 ss) 0

-- ---- sessions

abbrev pub some_port : PortIdentity
some_port = record { clock = some_clock; port = 0 }

unfoldable pub session_of : List ClockHeadValue → SessionHeadValue → NetworkSession
session_of cs s = record {
  name = unwrap_or s.name [];
  identity = unwrap_or s.identity some_port;
  target = clock_place cs (unwrap_or s.target []);
  first = number_or 65535 (codes "first") s.table;
  hops = number_or 255 (codes "hops") s.table;
  attempts = number_or 255 (codes "attempts") s.table;
  domain = number_or 255 (codes "domain") s.table;
  rights = rights_at s.table;
}

-- ---- links

-- the end of a name: of a session, or of a clock if it has a port
abbrev pub end_by_name : List ClockHeadValue → List SessionHeadValue → List ℕ → Option ℕ → End
end_by_name cs ss name None = ends.Session (session_place ss name)
end_by_name cs ss name (Some port) = ends.Clock (clock_place cs name) port

abbrev pub if_end : List ClockHeadValue → List SessionHeadValue → Option (List ℕ × Option ℕ) → List End
if_end cs ss None = []
if_end cs ss (Some e) = end_by_name cs ss e.0 e.1 ∷ []

abbrev pub end_in : List ClockHeadValue → List SessionHeadValue → Data → List End
end_in cs ss d = if_end cs ss (option_and_then end_of (as_str d))

unfoldable pub link_of : List ClockHeadValue → List SessionHeadValue → Data → List End
link_of cs ss d = flat_map (end_in cs ss) (items_in (codes "ends") d)

-- ---- networks

unfoldable pub network_in : Members → NetworkValue
network_in ms = record {
  clocks = map clock_of (clocks_of ms);
  sessions = map (session_of (clocks_of ms)) (sessions_of ms);
  links = map (link_of (clocks_of ms) (sessions_of ms)) (take 256 (items_at (codes "link") ms));
}

-- a network in which these are found: none, or it is refused as the first says
abbrev pub judged : List Mark → NetworkValue → Result NetworkValue NetError
judged [] n = Ok n
judged (m ∷ ms) n = Err m.class

abbrev pub network_of_document : Option Members → Result NetworkValue NetError
network_of_document None = Err NotToml
network_of_document (Some ms) = judged (file_marks ms) (network_in ms)

unfoldable pub network_of : List ℕ → Result NetworkValue NetError
network_of text = if nat_lt 262144 (length text) then Err TooLong else network_of_document (parse_document text)

-- the same, as the program has it
abbrev pub document_network : Document → Result NetworkValue NetError
document_network documents.Long = Err TooLong
document_network (documents.Broken line error) = Err NotToml
document_network (documents.Table t) = network_of_document (Some (table_view t))

-- what some text is the network of
abbrev pub IsOfText : NetworkValue → Type 0
IsOfText n = (text : List ℕ) × (network_of text ≡ Ok n)

-- ---- answers

-- an answer is this value or this refusal, or memory was refused
abbrev pub IsAnswerAs : {A B : Type 0} → (A → B) → Result A NetError → Result B NetError → Type 0
IsAnswerAs value (Ok a) wanted = wanted ≡ Ok (value a)
IsAnswerAs value (Err e) wanted = (e ≡ OutOfMemory) ⊎ (wanted ≡ Err e)
