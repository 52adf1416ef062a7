-- A run that tells what is left doesn't leave nothing.
use Rattle.std.proofs.Common.{None, Some, Result, Ok, Err, IfErr}
use Rattle.sc_plant.specs.declared.left.RunFault.{RunFault}
use Rattle.sc_plant.specs.declared.left.RunFault.TheVariants.{OutOfMemory, ThreadRefused, LogsDiffer}
use Rattle.sc_plant.specs.Left.{LeavesNothing, TellsLeft}

tells_some : (P : Type 0) (fault : RunFault) → TellsLeft fault → LeavesNothing fault → P
tells_some P (OutOfMemory None) tells none = absurd tells
tells_some P (OutOfMemory (Some left)) tells none = absurd none
tells_some P ThreadRefused tells none = absurd none
tells_some P (LogsDiffer h left) tells none = absurd none

pub begun_leaves : {T : Type 0} (P : Type 0) (r : Result T RunFault) → IfErr r TellsLeft → IfErr r (λ fault. LeavesNothing fault → P)
begun_leaves P (Ok t) tells = tt
begun_leaves P (Err fault) tells = tells_some P fault tells
