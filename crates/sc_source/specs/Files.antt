-- What is read of a file by name.
use Rattle.std.specs.Prelude.{ℕ, ◌≡◌, Bool, true, false, List, [], Option, Some, None}
use Rattle.sc_source.specs.declared.files.SystemReader.{SystemReader}
use Rattle.sc_source.specs.declared.files.SystemReader.TheVariants as system
use Rattle.sc_source.specs.declared.files.FileState.{FileState}
use Rattle.sc_source.specs.declared.files.FileState.TheVariants as state

-- Of a file that isn't opened yet all of it is left, of an open one what its reader has left, and at its end nothing.
abbrev pub left_of : {R : Type 0} → (R → Option (List ℕ)) → Option (List ℕ) → FileState R → Option (List ℕ)
left_of of_reader text state.Unopened = text
left_of of_reader text (state.Open reader) = of_reader reader
left_of of_reader text state.AtEnd = Some []

-- whether it reads standard input
abbrev pub is_input : {F I : Type 0} → SystemReader F I → Bool
is_input (system.File file) = false
is_input (system.Input input) = true

-- A reader has these bytes left, or there is none, and no byte.
abbrev pub IsLeftIn : {R : Type 0} → (R → Option (List ℕ)) → Option R → List ℕ → Type 0
IsLeftIn of_reader None bytes = bytes ≡ []
IsLeftIn of_reader (Some reader) bytes = of_reader reader ≡ Some bytes
