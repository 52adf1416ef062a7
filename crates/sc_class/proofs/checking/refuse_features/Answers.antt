use Rattle.std.proofs.Common.{inr, sym, subst, ◌∙◌}
use Rattle.sc_tree.specs.View.{system_of}
use Rattle.sc_class.specs.Internal.Found.{FindsFirstPlace}
use Rattle.sc_class.specs.Internal.FaultAt.{FaultAt}
use Rattle.sc_class.specs.Faults.Scopes.{ClassClashes}
use Rattle.sc_class.specs.Faults.Redefinition.{BadlyRedefines}
use Rattle.sc_class.specs.Faults.ClassRules.{no_root}
use Rattle.sc_class.specs.View.{root_of}
use Rattle.sc_class.proofs.TableLemmas.{duplicated, redefined_badly, least_4, least_5, least_6, first_4, first_5}
use Rattle.sc_class.proofs.checking.refuse_features.Goals as goal

pub returns-in-Some-clause-fault : goal.returns-in-Some-clause-fault
returns-in-Some-clause-fault c =
    let s = system_of c.args.outline.now.hierarchy.system.now in
    inr (duplicated s (root_of c.args.root.now) c.in-Some.span (subst (FindsFirstPlace (FaultAt s (ClassClashes s))) c.in-Some.is c.in_ok-faults.ensures.clash).0)

pub returns-in-Some-redefinition-clause-fault : goal.returns-in-Some-redefinition-clause-fault
returns-in-Some-redefinition-clause-fault c =
    let s = system_of c.args.outline.now.hierarchy.system.now in
    inr (redefined_badly s (root_of c.args.root.now) c.in-Some-redefinition.span (subst (FindsFirstPlace (FaultAt s (BadlyRedefines s))) c.in-Some-redefinition.is c.in_ok-faults.ensures.redefinition).0)

pub returns-then-not-branch-clause-fault : goal.returns-then-not-branch-clause-fault
returns-then-not-branch-clause-fault c = inr (no_root (sym c.in_ok-has_root.ensures ∙ c.if-not-branch.true))

pub returns-in-Some-clause-first : goal.returns-in-Some-clause-first
returns-in-Some-clause-first c = inr (least_4 (system_of c.args.outline.now.hierarchy.system.now) (root_of c.args.root.now) c.in-Some.span)

pub returns-in-Some-redefinition-clause-first : goal.returns-in-Some-redefinition-clause-first
returns-in-Some-redefinition-clause-first c =
    let s = system_of c.args.outline.now.hierarchy.system.now in
    inr (least_5 s (root_of c.args.root.now) (subst (FindsFirstPlace (FaultAt s (ClassClashes s))) c.in_default.is c.in_ok-faults.ensures.clash) c.in-Some-redefinition.span)

pub returns-then-not-branch-clause-first : goal.returns-then-not-branch-clause-first
returns-then-not-branch-clause-first c =
    let s = system_of c.args.outline.now.hierarchy.system.now in
    inr (least_6 s (root_of c.args.root.now) (subst (FindsFirstPlace (FaultAt s (ClassClashes s))) c.in_default.is c.in_ok-faults.ensures.clash) (subst (FindsFirstPlace (FaultAt s (BadlyRedefines s))) c.in_default-redefinition.is c.in_ok-faults.ensures.redefinition))

pub returns-in-Some-clause-place : goal.returns-in-Some-clause-place
returns-in-Some-clause-place c =
    let s = system_of c.args.outline.now.hierarchy.system.now in
    first_4 s (root_of c.args.root.now) c.in-Some.span (subst (FindsFirstPlace (FaultAt s (ClassClashes s))) c.in-Some.is c.in_ok-faults.ensures.clash)

pub returns-in-Some-redefinition-clause-place : goal.returns-in-Some-redefinition-clause-place
returns-in-Some-redefinition-clause-place c =
    let s = system_of c.args.outline.now.hierarchy.system.now in
    first_5 s (root_of c.args.root.now) c.in-Some-redefinition.span (subst (FindsFirstPlace (FaultAt s (BadlyRedefines s))) c.in-Some-redefinition.is c.in_ok-faults.ensures.redefinition)
