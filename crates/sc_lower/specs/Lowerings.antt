-- What becomes of a checked system that is lowered.
use Rattle.std.specs.Prelude.{◌≡◌, ◌<◌, ℕ}
use Rattle.sc_class.specs.SystemIn.{root_in, system_in}
use Rattle.sc_check.specs.declared.checked.Checked.{Checked}
use Rattle.sc_check.specs.CheckedTables.{tables_of}
use Rattle.sc_code.specs.declared.program.Image.{Image}
use Rattle.sc_code.specs.declared.program.lookup.Program.{Program}
use Rattle.sc_lower.specs.declared.program.lowering.Lowering.{Lowering}
use Rattle.sc_lower.specs.declared.program.lowering.Lowering.TheVariants.{OutOfMemory, CodeTooLong}
use Rattle.sc_code.specs.Programs.{IsProgramOf, code_length}

abbrev pub image_of : Program → Image
image_of p = p.image

-- The program is the checked system in flat code, run from its root.
abbrev pub IsLowered : Checked → Program → Type 0
IsLowered c p = IsProgramOf (system_in (tables_of c)) (root_in (tables_of c)) (image_of p)

-- The checked system is handed back; its code has more than so many instructions where that is said.
abbrev pub HandsBack : Checked → ℕ → Lowering → Type 0
HandsBack c most (OutOfMemory back) = back ≡ c
HandsBack c most (CodeTooLong back) = (back ≡ c) × (most < code_length (system_in (tables_of c)))
