use Rattle.std.proofs.Common.{◌≡◌}
use Rattle.sc_parse.specs.Reading.Looks.{left}
use Rattle.sc_parse.specs.Reading.Looks as spec
use Rattle.sc_parse.specs.Reading.Reads.{ahead}
use Rattle.sc_parse.proofs.cursor.Parser.skip_semicolons.Given as goal

abbrev pub invariant-loop-self : goal.invariant-loop-self
invariant-loop-self l = spec.skip_semicolons (ahead l.self) ≡ spec.skip_semicolons (ahead l.fn.self)

abbrev pub decreases-loop-self : goal.decreases-loop-self
decreases-loop-self l = left (ahead l.self)
