-- What it comes to that a script is drawn (this project's profile).
use Rattle.std.specs.Prelude.{◌≡◌, ℕ, List, [], ◌∷◌, ◌++◌, Option, codes, decimal, false, None, Result, Ok, Err, filter, length, map}
use Rattle.std.specs.Io.KnownBytes.{Appends, Keeps}
use Rattle.std.specs.List.{range_with_len}
use Rattle.std.specs.Result.{result_err}
use Rattle.ptpm_draw.specs.Chosen.{chosen_of, is_chosen}
use Rattle.ptpm_draw.specs.declared.chosen.Chosen.{Chosen}
use Rattle.ptpm_draw.specs.declared.selection.Selection.{Selection}
use Rattle.ptpm_draw.specs.Picture.{Drawn, drawn_in, is_delivered, picture_of}
use Rattle.ptpm_script.specs.declared.network.Network.{Network}
use Rattle.ptpm_script.specs.NetworkText.{network_of}
use Rattle.ptpm_script.specs.NetworkView.{network_value}
use Rattle.ptpm_world.specs.declared.whole_script.EventLine.{EventLine}
use Rattle.ptpm_text.specs.Lines.{whole_lines}
use Rattle.ptpm_world.specs.declared.script_error.ScriptError.{ScriptError}
use Rattle.ptpm_world.specs.declared.script_error.ScriptError.TheVariants.{ReadFault}
use Rattle.ptpm_world.specs.Script.{network_text, scripted}
use Rattle.ptpm_world.specs.ScriptError.{is_outside}

-- ---- the parts of a picture, one for each line that is drawn (this project's profile)

-- what the part of a line begins with: its title, and in that the line's number
abbrev pub opening : ℕ → List ℕ
opening line = codes "<g><title>" ++ decimal line ++ codes " "

-- a part for each of these lines, in their order, and nothing between
abbrev pub ArePartsOf : List ℕ → List ℕ → Type 0
ArePartsOf [] text = text ≡ []
ArePartsOf (line ∷ lines) text =
    (rest : List ℕ) × ((others : List ℕ) × ((text ≡ (opening line ++ rest) ++ others) × ArePartsOf lines others))

-- these parts were written
abbrev pub AddsParts : List ℕ → Option (List ℕ) → Option (List ℕ) → Type 0
AddsParts lines before after = (text : List ℕ) × (ArePartsOf lines text × Appends before after text)

-- a picture was written that has a part for each of these lines, between what it begins with and its end
abbrev pub ShowsLines : List ℕ → Option (List ℕ) → Option (List ℕ) → Type 0
ShowsLines lines before after =
    (head : List ℕ) × ((parts : List ℕ) × (ArePartsOf lines parts × Appends before after ((head ++ parts) ++ codes "</svg>\n")))

-- everything that is drawn of the events of a script in this network
abbrev pub whole_picture : Network → List ℕ → Drawn
whole_picture network input = picture_of (network_value network) (scripted input).events

-- The network of a script's file, the events of the lines that are chosen, and what the picture of all events has of these. A
-- frame is known as delivered if any line delivers it.
pub record IsSelectionOf (input : List ℕ) (chosen : Chosen) (s : Selection) : Type 0 where
  pub network : network_of (network_text (whole_lines input)) ≡ Ok (network_value s.network)
  pub lines : s.lines.items ≡ filter (λ (line : EventLine). is_chosen chosen line.number) (scripted input).events
  pub picture : drawn_in s.picture ≡ chosen_of chosen (whole_picture s.network input)
  pub delivered : s.is_delivered.items
      ≡ map (is_delivered (whole_picture s.network input).rows) (range_with_len 1 (length (whole_picture s.network input).messages))
  pub events : s.events ≡ length (scripted input).events
  pub faultless : result_err (scripted input).end ≡ None

-- or the script's first fault, unless reading or memory failed
abbrev pub IsSelection : List ℕ → Chosen → Result Selection ScriptError → Type 0
IsSelection input chosen (Ok s) = IsSelectionOf input chosen s
IsSelection input chosen (Err e) = is_outside e ≡ false → (scripted input).end ≡ Err e

-- It ended early: by the script's first fault, or because reading, writing or memory failed. After the script's fault, or if
-- reading failed, nothing was written.
pub record HasEnded (input : List ℕ) (before after : Option (List ℕ)) (e : ScriptError) : Type 0 where
  pub fault : is_outside e ≡ false → ((scripted input).end ≡ Err e) × Keeps before after
  pub unread : e ≡ ReadFault → Keeps before after

-- the numbers of a script's lines that are chosen, of those that are events
abbrev pub chosen_lines : List ℕ → Chosen → List ℕ
chosen_lines input chosen =
    map (λ (line : EventLine). line.number) (filter (λ (line : EventLine). is_chosen chosen line.number) (scripted input).events)

-- A script that was drawn has no fault, and the picture shows its events of the lines that are chosen.
abbrev pub HasDrawn : {A : Type 0} → List ℕ → Chosen → Option (List ℕ) → Option (List ℕ) → Result A ScriptError → Type 0
HasDrawn input chosen before after (Ok done) =
    (result_err (scripted input).end ≡ None) × ShowsLines (chosen_lines input chosen) before after
HasDrawn input chosen before after (Err e) = HasEnded input before after e
