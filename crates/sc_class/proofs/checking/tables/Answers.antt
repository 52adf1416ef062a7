use Rattle.std.proofs.Common.{◌≡◌, ◌⊎◌, subst, sym, ◌∙◌}
use Rattle.sc_tree.specs.declared.system.System as tree
use Rattle.sc_tree.specs.View.{system_of}
use Rattle.sc_class.specs.declared.fault.ClassFault.{ClassFault}
use Rattle.sc_class.specs.declared.fault.ClassFault.TheVariants.{OutOfMemory}
use Rattle.sc_class.specs.Faults.ClassRules.{HasLeastCode}
use Rattle.sc_class.specs.View.{root_of}
use Rattle.sc_class.specs.Internal.NoFaults.{ClassesStand, FeaturesStand, RestStands}
use Rattle.sc_class.proofs.TableLemmas.{faultless, err_same, applied}
use Rattle.sc_class.proofs.checking.tables.Goals as goal

pub of-requires : goal.of-requires
of-requires c =
    let root = root_of c.args.root.now in
    faultless (system_of c.in_ok-outline.outline.hierarchy.system.now) root
    (subst (λ (t : tree.System). ClassesStand (system_of t)) (sym (c.in_ok-outline.ensures.of_it ∙ c.in_ok-hierarchy.ensures.of_it)) c.in_ok-hierarchy.ensures.none)
    (subst (λ (t : tree.System). FeaturesStand (system_of t) root) (sym c.in_ok-outline.ensures.of_it) c.in_ok-outline.ensures.features)
    (subst (λ (t : tree.System). RestStands (system_of t)) (sym c.in_ok-outline.ensures.of_it) c.in_ok-outline.ensures.rest)

pub returns-clause-faultless : goal.returns-clause-faultless
returns-clause-faultless c =
    let root = root_of c.args.root.now in
    faultless (system_of c.args.system.now) root c.in_ok-hierarchy.ensures.none
    (subst (λ (t : tree.System). FeaturesStand (system_of t) root) c.in_ok-hierarchy.ensures.of_it c.in_ok-outline.ensures.features)
    (subst (λ (t : tree.System). RestStands (system_of t)) c.in_ok-hierarchy.ensures.of_it c.in_ok-outline.ensures.rest)

pub returns-in_err-outline-clause-first : goal.returns-in_err-outline-clause-first
returns-in_err-outline-clause-first c =
    let root = root_of c.args.root.now in
    err_same (λ (f : ClassFault). (f ≡ OutOfMemory) ⊎ HasLeastCode (system_of c.args.system.now) root f) c.from_residual-in_err-outline.result c.in_err-outline.field-0.0 c.from_residual-in_err-outline.ensures.1
    (applied (subst (λ (t : tree.System). (c.in_err-outline.field-0.0 ≡ OutOfMemory) ⊎ (ClassesStand (system_of t) → HasLeastCode (system_of t) root c.in_err-outline.field-0.0)) c.in_ok-hierarchy.ensures.of_it c.in_err-outline.ensures.first)
    c.in_ok-hierarchy.ensures.none)
