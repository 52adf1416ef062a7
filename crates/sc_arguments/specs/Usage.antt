-- Why the program can't do what its arguments ask for.
use Rattle.std.specs.Prelude.{◌≡◌, ◌≢◌}
use Rattle.clap.specs.declared.error.Error.{Error}
use Rattle.clap.specs.declared.error.kind.ErrorKind.TheVariants as kind
use Rattle.clap.specs.Values.{kind_of}
use Rattle.sc_arguments.specs.declared.arguments.UsageFault.{UsageFault}
use Rattle.sc_arguments.specs.declared.arguments.UsageFault.TheVariants as usage

abbrev pub usage_out_of_memory : UsageFault
usage_out_of_memory = usage.OutOfMemory

-- The error `e` of the reader of arguments is returned unchanged, or as `OutOfMemory` if that is its kind.
abbrev pub TellsError : Error → UsageFault → Type 0
TellsError e usage.OutOfMemory = kind_of e ≡ kind.OutOfMemory
TellsError e (usage.Arguments said) = (said ≡ e) × (kind_of e ≢ kind.OutOfMemory)
TellsError e usage.NoCommand = ⊥
TellsError e usage.BadRoot = ⊥
TellsError e usage.TracedWorkers = ⊥
TellsError e usage.SeededWorkers = ⊥
TellsError e usage.TwoReadings = ⊥
