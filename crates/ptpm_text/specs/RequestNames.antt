-- What a request asks, by the names that texts have for it (this project's profile).
use Rattle.std.specs.Prelude.{ℕ, if◌then◌else◌, List, codes, bytes_eq, Option, Some, None, option_map}
use Rattle.std.specs.Option.{option_or}
use Rattle.ptpm_codec.specs.declared.message.Action.{Action}
use Rattle.ptpm_codec.specs.declared.message.Action.TheVariants as actions
use Rattle.ptpm_data.specs.ManagementId.{row_named}
use Rattle.ptpm_text.specs.Numbers.{four_digits}

-- the action of a word, in lower case
abbrev pub action_named : List ℕ → Option Action
action_named word =
    if bytes_eq word (codes "get") then Some actions.Get
    else if bytes_eq word (codes "set") then Some actions.Set
    else if bytes_eq word (codes "command") then Some actions.Command
    else None

-- the managementId of a word: a name of the table, or four hexadecimal digits
unfoldable pub id_named : List ℕ → Option ℕ
id_named word = option_or (option_map (λ e. e.id) (row_named word)) (four_digits word)
