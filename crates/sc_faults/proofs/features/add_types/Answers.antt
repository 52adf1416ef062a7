use Rattle.std.proofs.Common.{map, ◌++◌}
use Rattle.sc_tree.specs.Plain.{Declaration}
use Rattle.sc_tree.specs.View.{declaration_of}
use Rattle.sc_class.specs.SystemIn.{system_in}
use Rattle.sc_faults.specs.Internal.Listing.{faults_of_each, faults_of_type}
use Rattle.sc_faults.proofs.Adding.{each_next, each_end}
use Rattle.sc_faults.proofs.features.add_types.Goals as goal

pub loop-declaration-preserved : goal.loop-declaration-preserved
loop-declaration-preserved c =
    let list = λ (d : Declaration). faults_of_type (system_in c.args.tables.now) (map declaration_of c.args.formals.now) d.declared_type in
    each_next declaration_of list c.args.declarations.now c.loop-declaration.declaration-index c.declaration-item.result
    (c.args.faults.now.items ++ faults_of_each list (map declaration_of c.args.declarations.now)) c.loop-declaration.faults.items c.add_type.new.faults.items
    c.loop-declaration-test.true c.declaration-item.is c.loop-declaration.invariant c.in_ok-add_type.ensures

pub returns : goal.returns
returns c =
    let list = λ (d : Declaration). faults_of_type (system_in c.args.tables.now) (map declaration_of c.args.formals.now) d.declared_type in
    each_end declaration_of list c.args.declarations.now c.loop-declaration.declaration-index
    (c.args.faults.now.items ++ faults_of_each list (map declaration_of c.args.declarations.now))
    c.loop-declaration.faults.items c.loop-declaration-test.false c.loop-declaration.invariant
