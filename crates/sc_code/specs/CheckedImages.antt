-- What is known of every program.
use Rattle.sc_tree.specs.Plain.{System}
use Rattle.sc_class.specs.ClassNames.{Root}
use Rattle.sc_class.specs.Faults.ClassRules.{IsFaultless}
use Rattle.sc_rules.specs.SystemRules.{WellFormed}
use Rattle.sc_code.specs.declared.program.Image.{Image}
use Rattle.sc_code.specs.Programs.{IsProgramOf}

-- The image is some system in flat code that has no fault and is well formed.
pub record IsOfCheckedSystem (p : Image) : Type 0 where
  pub system : System
  pub root : Root
  pub faultless : IsFaultless system root
  pub well_formed : WellFormed system
  pub program : IsProgramOf system root p
