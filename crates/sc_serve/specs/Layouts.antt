-- What is made of files that are laid out one by one.
use Rattle.std.specs.Prelude.{◌≡◌, None}
use Rattle.sc_serve.specs.declared.layouts.Read.{Read}
use Rattle.sc_serve.specs.declared.layouts.Read.TheVariants as read

-- If the file is refused, the answer has no record and no object.
abbrev pub IsPlain : Read → Type 0
IsPlain read.Same = Unit {0}
IsPlain (read.Changed text) = Unit {0}
IsPlain (read.Refused answer) = (answer.record ≡ None) × (answer.object ≡ None)
