use Rattle.std.proofs.Common.{◌≡◌, ℕ, List, drop}
use Rattle.sc_class.specs.Internal.Lines.{changes_of, known_by, put_in_turn}
use Rattle.sc_class.proofs.class_tables.line.put_all.Given as goal

abbrev pub invariant-loop-change : goal.invariant-loop-change
invariant-loop-change l = (x : List ℕ) → put_in_turn x (changes_of (drop l.change-index l.changes)) (known_by x l.known) ≡ put_in_turn x (changes_of l.changes) (known_by x l.initial.known)
