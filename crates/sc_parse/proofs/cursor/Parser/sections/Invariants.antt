use Rattle.std.proofs.Common.{◌≡◌, ◌-◌, ℕ, IsTrue}
use Rattle.sc_parse.specs.Reading.Classes as spec
use Rattle.sc_tree.specs.Sections.{share_lists}
use Rattle.sc_parse.specs.Reading.Reads.{ahead, features_in}
use Rattle.sc_parse.proofs.cursor.Parser.sections.Given as goal

abbrev pub invariant-loop-turn : goal.invariant-loop-turn
invariant-loop-turn l = record {
  read :
      (high : ℕ)
      × (spec.sections_from l.room (l._turn-end - l._turn) (features_in l.found) high (ahead l.self) ≡ spec.sections l.room (ahead l.fn.self));
  shared : IsTrue (share_lists l.found.items);
}
