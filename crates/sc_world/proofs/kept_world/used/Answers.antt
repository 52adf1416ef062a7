use Rattle.std.proofs.Common.{arith}
use Rattle.sc_world.proofs.kept_world.used.Goals as goal

pub loop-count-init : goal.loop-count-init
loop-count-init c = record { few = omega arith; new = c.requires.new }
