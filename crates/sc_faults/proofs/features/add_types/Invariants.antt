use Rattle.std.proofs.Common.{◌≡◌, ◌++◌, drop, map}
use Rattle.sc_tree.specs.Plain.{Declaration}
use Rattle.sc_tree.specs.View.{declaration_of}
use Rattle.sc_class.specs.SystemIn.{system_in}
use Rattle.sc_faults.specs.Internal.Listing.{faults_of_each, faults_of_type}
use Rattle.sc_faults.proofs.features.add_types.Given as goal

abbrev pub invariant-loop-declaration : goal.invariant-loop-declaration
invariant-loop-declaration l =
    l.fn.faults.items ++ faults_of_each (λ (d : Declaration). faults_of_type (system_in l.tables)
    (map declaration_of l.formals) d.declared_type) (map declaration_of l.declarations)
    ≡ l.faults.items ++ faults_of_each (λ (d : Declaration). faults_of_type (system_in l.tables) (map declaration_of l.formals) d.declared_type)
    (map declaration_of (drop l.declaration-index l.declarations))
