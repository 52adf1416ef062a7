-- Messages as they are written.
use Rattle.std.specs.Io.KnownBytes.{Appends}
use Rattle.std.specs.List.{flat_map}
use Rattle.std.specs.Prelude.{ℕ, List, Option, ◌++◌, codes, decimal, length}
use Rattle.sc_language_server.specs.declared.serving.Ending.{Ending}
use Rattle.sc_language_server.specs.declared.serving.Ending.TheVariants as ending

-- A message: a header that says how many bytes the body has, and the body.
abbrev pub framed : List ℕ → List ℕ
framed body = codes "Content-Length: " ++ (decimal (length body) ++ (codes "\r\n\r\n" ++ body))

-- What is written is messages, one after the other.
pub record WritesMessages (old new : Option (List ℕ)) : Type 0 where
  pub bodies : List (List ℕ)
  pub written : Appends old new (flat_map framed bodies)

-- If a session ends, but for an output that is closed or full, what was written is messages.
abbrev pub IsSession : Ending → Option (List ℕ) → Option (List ℕ) → Type 0
IsSession ending.Down old new = WritesMessages old new
IsSession ending.Cut old new = WritesMessages old new
IsSession ending.CannotWrite old new = Unit {0}
