use Rattle.std.proofs.Common.{◌≡◌, ◌-◌, ℕ}
use Rattle.sc_parse.specs.Reading.Looks.{left, left}
use Rattle.sc_parse.specs.Reading.Classes as spec
use Rattle.sc_parse.specs.Reading.Reads.{ahead, features_in, names_in}
use Rattle.sc_parse.specs.Reading.Sections.{AddsExported}
use Rattle.sc_parse.proofs.cursor.Parser.section.Given as goal

abbrev pub invariant-loop-turn : goal.invariant-loop-turn
invariant-loop-turn l = record {
  read : (first : ℕ) →
      (high : ℕ)
      × (spec.features_from l.room (names_in l.exports.value) (l._turn-end - l._turn) (features_in l.found) high (ahead l.self)
      ≡ spec.features_from l.room (names_in l.exports.value) (left (ahead l.fn.self)) (features_in l.fn.earlier) first (ahead l.fn.self));
  added : AddsExported (names_in l.exports.value) l.fn.earlier.items l.found.items;
}
