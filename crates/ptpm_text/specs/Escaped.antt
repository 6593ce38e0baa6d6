-- Text as XML has it between tags and in quotation marks (XML 1.0, 2.4).
use Rattle.std.specs.Prelude.{ℕ, ◌==◌, if◌then◌else◌, List, codes, flat_map}
use Rattle.std.specs.Char.{encode_utf8}
use Rattle.std.specs.Str.{chars}

-- a character that would end the text is an entity
abbrev pub escaped_character : ℕ → List ℕ
escaped_character c =
    if c == 38 then codes "&amp;"
    else if c == 60 then codes "&lt;"
    else if c == 62 then codes "&gt;"
    else if c == 34 then codes "&quot;"
    else encode_utf8 c

unfoldable pub escaped : List ℕ → List ℕ
escaped text = flat_map escaped_character (chars text)
