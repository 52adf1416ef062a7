use Rattle.std.proofs.Common.{◌≡◌, drop, map}
use Rattle.sc_tree.specs.View.{declaration_of}
use Rattle.sc_class.specs.Faults.Redefinition.{is_same_formals}
use Rattle.sc_class.proofs.faults.redefinition.is_same_formals.Given as goal

abbrev pub invariant-loop-i : goal.invariant-loop-i
invariant-loop-i l = is_same_formals (map declaration_of l.declared) (map declaration_of l.inherited) ≡ is_same_formals (map declaration_of (drop l.i l.declared)) (map declaration_of (drop l.i l.inherited))
