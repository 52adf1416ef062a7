use Rattle.std.proofs.Common.{◌≡◌, ◌⊎◌, subst}
use Rattle.sc_tree.specs.declared.system.System as tree
use Rattle.sc_tree.specs.View.{system_of}
use Rattle.sc_class.specs.declared.fault.ClassFault.{ClassFault}
use Rattle.sc_class.specs.declared.fault.ClassFault.TheVariants.{OutOfMemory}
use Rattle.sc_class.specs.Faults.ClassRules.{HasLeastCode}
use Rattle.sc_class.specs.View.{root_of}
use Rattle.sc_class.specs.Internal.NoFaults.{ClassesStand}
use Rattle.sc_class.proofs.TableLemmas.{err_same, behind}
use Rattle.sc_class.proofs.checking.sound_outline.Goals as goal

pub returns-in_err-refuse_features-clause-first : goal.returns-in_err-refuse_features-clause-first
returns-in_err-refuse_features-clause-first c =
    let root = root_of c.args.root.now in
    let first : tree.System → ClassFault → Type 0 = λ t f. (f ≡ OutOfMemory) ⊎ (ClassesStand (system_of t) → HasLeastCode (system_of t) root f) in
    err_same (first c.args.hierarchy.system.now) c.from_residual-in_err-refuse_features.result c.in_err-refuse_features.field-0.0 c.from_residual-in_err-refuse_features.ensures.1
    (subst (λ (t : tree.System). first t c.in_err-refuse_features.field-0.0) c.in_ok-outline.ensures c.in_err-refuse_features.ensures.first)

pub returns-in_err-refuse_rest-clause-first : goal.returns-in_err-refuse_rest-clause-first
returns-in_err-refuse_rest-clause-first c =
    let root = root_of c.args.root.now in
    let first : tree.System → ClassFault → Type 0 = λ t f. (f ≡ OutOfMemory) ⊎ (ClassesStand (system_of t) → HasLeastCode (system_of t) root f) in
    err_same (first c.args.hierarchy.system.now) c.from_residual-in_err-refuse_rest.result c.in_err-refuse_rest.field-0.0 c.from_residual-in_err-refuse_rest.ensures.1
    (subst (λ (t : tree.System). first t c.in_err-refuse_rest.field-0.0) c.in_ok-outline.ensures (behind c.in_err-refuse_rest.ensures.first c.in_ok-refuse_features.ensures.none))
