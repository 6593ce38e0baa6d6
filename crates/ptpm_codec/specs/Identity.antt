-- Clocks and ports: when two are the same, their order, and how they are written (IEEE 1588-2019, 5.3.4 and 5.3.5).
use Rattle.std.specs.Prelude.{ℕ, ◌==◌, ◌/◌, ◌%◌, ◌&&◌, Bool, false, List, [], ◌∷◌, ◌++◌, bytes_eq, codes, decimal, flat_map, replicate}
use Rattle.std.specs.declared.cmp.Ordering.{Ordering}
use Rattle.std.specs.Cmp.Lexicographic.{slice_cmp}
use Rattle.std.specs.Fmt.{digit_glyph}
use Rattle.std.specs.Ordering.{nat_cmp, ordering_then}
use Rattle.ptpm_codec.specs.declared.identity.ClockIdentity.{ClockIdentity}
use Rattle.ptpm_codec.specs.declared.identity.PortIdentity.{PortIdentity}

abbrev pub same_clock : ClockIdentity → ClockIdentity → Bool
same_clock a b = bytes_eq a.0 b.0

abbrev pub same_identity : PortIdentity → PortIdentity → Bool
same_identity a b = same_clock a.clock b.clock && a.port == b.port

-- a clockIdentity of all ones means every clock, and a portNumber 0xFFFF every port (15.3.1)
abbrev pub every_clock : ClockIdentity
every_clock = record { 0 = replicate 8 0xff }

abbrev pub every_port : ℕ
every_port = 0xffff

-- by clock, and then by port
abbrev pub identity_cmp : PortIdentity → PortIdentity → Ordering
identity_cmp a b = ordering_then (slice_cmp nat_cmp a.clock.0 b.clock.0) (nat_cmp a.port b.port)

-- ---- as text (this project's profile)

-- an octet in two hexadecimal digits, in lower case
abbrev pub octet_text : ℕ → List ℕ
octet_text n = digit_glyph false (n / 16) ∷ digit_glyph false (n % 16) ∷ []

unfoldable pub clock_identity_text : List ℕ → List ℕ
clock_identity_text octets = flat_map octet_text octets

-- the clock, a slash, and the port in decimal
unfoldable pub port_identity_text : PortIdentity → List ℕ
port_identity_text p = clock_identity_text p.clock.0 ++ codes "/" ++ decimal p.port
