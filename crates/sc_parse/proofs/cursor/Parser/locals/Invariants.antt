use Rattle.std.proofs.Common.{◌≡◌, ◌-◌}
use Rattle.sc_parse.specs.Reading.Classes as spec
use Rattle.sc_parse.specs.Reading.Reads.{ahead, declarations_in}
use Rattle.sc_parse.proofs.cursor.Parser.locals.Given as goal

abbrev pub invariant-loop-turn : goal.invariant-loop-turn
invariant-loop-turn l = spec.locals_from (l._turn-end - l._turn) (declarations_in l.found) (ahead l.self) ≡ spec.locals (ahead l.fn.self)
