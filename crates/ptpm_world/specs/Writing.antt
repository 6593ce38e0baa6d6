-- What a writer took of a text that it is given.
use Rattle.std.specs.Prelude.{◌≡◌, ℕ, true, List, ◌++◌, Option, Result, Ok, Err}
use Rattle.std.specs.Io.KnownBytes.{Appends}
use Rattle.ptpm_world.specs.declared.script_error.ScriptError.{ScriptError}
use Rattle.ptpm_world.specs.ScriptError.{is_of_writing}

-- a beginning of it, before this rest
pub record TakesFirst (whole : List ℕ) (before after : Option (List ℕ)) : Type 0 where
  pub text : List ℕ
  pub rest : List ℕ
  pub is : text ++ rest ≡ whole
  pub taken : Appends before after text

-- All of it, or, if writing or memory failed, a beginning of it.
abbrev pub Writes : {A : Type 0} → List ℕ → Option (List ℕ) → Option (List ℕ) → Result A ScriptError → Type 0
Writes whole before after (Ok done) = Appends before after whole
Writes whole before after (Err e) = (is_of_writing e ≡ true) × TakesFirst whole before after
