use Rattle.std.proofs.Common.{◌≡◌, take}
use Rattle.std.specs.Option.{option_map}
use Rattle.sc_class.specs.SystemIn.{system_in}
use Rattle.sc_class.specs.Tables.Heirs.{topmost_along}
use Rattle.sc_class.specs.View.{entry_of}
use Rattle.sc_symbols.proofs.names.topmost.Given as goal

abbrev pub invariant-loop-class : goal.invariant-loop-class
invariant-loop-class l = option_map entry_of l.found ≡ topmost_along (system_in l.tables) l.name (take l.class-index l.ancestors)
