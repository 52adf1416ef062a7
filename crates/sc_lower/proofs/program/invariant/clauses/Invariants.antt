use Rattle.std.proofs.Common.{◌≡◌, ◌++◌, drop, map}
use Rattle.std.specs.Option.{option_map}
use Rattle.sc_formula.specs.Plain.{plain_formula}
use Rattle.sc_tree.specs.View.{clause_of}
use Rattle.sc_model.specs.Invariants.{clauses_of}
use Rattle.sc_lower.specs.AttributeBindings.{binding_of}
use Rattle.sc_lower.proofs.program.invariant.clauses.Given as goal

abbrev pub invariant-loop-clause : goal.invariant-loop-clause
invariant-loop-clause l =
    clauses_of (map binding_of l.attributes) (map clause_of l.clauses)
    ≡ option_map (λ others. map plain_formula l.formulas.items ++ others) (clauses_of (map binding_of l.attributes) (map clause_of (drop l.clause-index l.clauses)))
