use Rattle.std.proofs.Common.{◌≡◌, drop}
use Rattle.sc_class.specs.SystemIn.{system_in}
use Rattle.sc_check.specs.purity.Internal.Versions.{nearest_in}
use Rattle.sc_check.proofs.purity.impure_search.nearest.Given as goal

-- none of the classes so far declares it
abbrev pub invariant-loop-class : goal.invariant-loop-class
invariant-loop-class l = nearest_in (system_in l.numbering.tables.now) l.name l.classes ≡ nearest_in (system_in l.numbering.tables.now) l.name (drop l.class-index l.classes)
