-- Facts that the laws of regions use.
use Rattle.sc_tree.specs.Plain.{System}
use Rattle.sc_class.specs.ClassNames.{Root}
use Rattle.sc_class.specs.Faults.ClassRules.{IsFaultless}
use Rattle.sc_rules.specs.Laws.{AllDeclared}
use Rattle.sc_code.specs.declared.program.Image.{Image}
use Rattle.sc_code.specs.Programs.{IsProgramOf}
use Rattle.sc_region.specs.Stores.{new_store}
use Rattle.sc_interp.specs.Serving.{Serves}
use Rattle.sc_refines_world.specs.regions.RegionHalves.{IsRegionOf}
use Rattle.sc_refines_world.specs.regions.RegionTurns.{new_half}

-- The tables of a program serve its system, if the system has no fault and its types are declared without fault.
abbrev pub ProgramsServe : Type 0
ProgramsServe = (s : System) (root : Root) (p : Image) → IsFaultless s root → AllDeclared s →
    IsProgramOf s root p → Serves s p

-- A new store stands for the half of a handler that was asked for nothing yet.
abbrev pub NewStoresStand : Type 0
NewStoresStand = (s : System) (p : Image) → IsRegionOf s new_half (new_store p)
