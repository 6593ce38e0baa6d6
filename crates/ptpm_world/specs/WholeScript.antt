-- A script that is read whole, before any of its events happens (this project's profile).
use Rattle.std.specs.Prelude.{◌≡◌, ℕ, false, List, None, Result, Ok, Err, string_bytes}
use Rattle.std.specs.Result.{result_err}
use Rattle.ptpm_network.specs.Network.{Network}
use Rattle.ptpm_network.specs.RunningNetwork.{RunningNetwork}
use Rattle.ptpm_script.specs.NetworkText.{network_of}
use Rattle.ptpm_script.specs.NetworkView.{network_value}
use Rattle.ptpm_world.specs.declared.script_error.ScriptError.{ScriptError}
use Rattle.ptpm_world.specs.declared.whole_script.EventLine.{EventLine}
use Rattle.ptpm_world.specs.declared.whole_script.Script.{Script}
use Rattle.ptpm_text.specs.Lines.{whole_lines}
use Rattle.ptpm_world.specs.Placed.{Names}
use Rattle.ptpm_world.specs.Script.{network_text, played, scripted}
use Rattle.ptpm_world.specs.ScriptError.{is_outside}

-- ---- lines of events; the first has this number

-- in whatever network they happen, they are these events, and have no fault
abbrev pub AreEvents : ℕ → List ℕ → List EventLine → Type 0
AreEvents number octets events = (N : Network) (names : Names) (r : RunningNetwork)
    → ((played N names r number 1 (whole_lines octets)).events ≡ events)
    × (result_err (played N names r number 1 (whole_lines octets)).end ≡ None)

-- in whatever network they happen, this is their first fault
abbrev pub EndsWith : ℕ → List ℕ → ScriptError → Type 0
EndsWith number octets e = (N : Network) (names : Names) (r : RunningNetwork)
    → (played N names r number 1 (whole_lines octets)).end ≡ Err e

-- ---- the whole

-- The script of these octets: the lines before the divider, the network that they are, and the events of the lines after it. No
-- line has a fault.
pub record IsScript (input : List ℕ) (s : Script) : Type 0 where
  pub text : string_bytes s.text ≡ network_text (whole_lines input)
  pub network : network_of (network_text (whole_lines input)) ≡ Ok (network_value s.network)
  pub events : s.lines.items ≡ (scripted input).events
  pub faultless : result_err (scripted input).end ≡ None

-- it was read, or has this first fault, unless reading or memory failed
abbrev pub IsRead : List ℕ → Result Script ScriptError → Type 0
IsRead input (Ok s) = IsScript input s
IsRead input (Err e) = is_outside e ≡ false → (scripted input).end ≡ Err e
