use Rattle.std.proofs.Common.{◌≡◌, ◌-◌, ℕ}
use Rattle.sc_parse.specs.Reading.Assertions as spec
use Rattle.sc_parse.specs.Reading.Reads.{ahead, clauses_in}
use Rattle.sc_parse.proofs.cursor.Parser.clauses.Given as goal

abbrev pub invariant-loop-turn : goal.invariant-loop-turn
invariant-loop-turn l = (high : ℕ) × (spec.clauses_from l.room (l._turn-end - l._turn) (clauses_in l.found) high (ahead l.self) ≡ spec.clauses l.room (ahead l.fn.self))
