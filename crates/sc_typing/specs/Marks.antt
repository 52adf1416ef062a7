-- The test of pure functions, as definitions see it.
use Rattle.std.specs.Prelude.{Bool, true}
use Rattle.sc_class.specs.SystemIn.{system_in}
use Rattle.sc_rules.specs.Names.{RoutineName}
use Rattle.sc_typing.specs.FeatureNumbers.{pure_by}
use Rattle.sc_typing.specs.declared.purity.Purity.{Purity}
use Rattle.sc_typing.specs.declared.purity.Purity.TheVariants.{NotAsked, Known}

abbrev pub is_marked : Purity → RoutineName → Bool
is_marked NotAsked f = true
is_marked (Known m) f = pure_by (system_in m.numbering.tables.now) m.impure.items f
