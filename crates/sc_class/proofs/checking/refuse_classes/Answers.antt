use Rattle.std.proofs.Common.{[], inr, subst}
use Rattle.sc_tree.specs.View.{system_of}
use Rattle.sc_class.specs.ClassNames.{RepeatedAt}
use Rattle.sc_class.specs.Internal.Found.{Finds, FindsFirstPlace}
use Rattle.sc_class.specs.Internal.NoFaults.{IsUnknownIn}
use Rattle.sc_class.specs.Tables.Ancestors.{CycleAt}
use Rattle.sc_class.specs.Faults.ClassRules.{duplicate_class, unknown_parent, cycle}
use Rattle.sc_class.specs.View.{root_of}
use Rattle.sc_class.proofs.TableLemmas.{least_1, least_2, least_3, first_1, first_2, first_3}
use Rattle.sc_class.proofs.checking.refuse_classes.Goals as goal

pub returns-in-Some-clause-fault : goal.returns-in-Some-clause-fault
returns-in-Some-clause-fault c = let s = system_of c.args.hierarchy.now.system.now in inr (duplicate_class (subst (FindsFirstPlace (RepeatedAt [] s.classes)) c.in-Some.is c.in_ok-span.ensures).0)

pub returns-in-Some-2-clause-fault : goal.returns-in-Some-2-clause-fault
returns-in-Some-2-clause-fault c = let s = system_of c.args.hierarchy.now.system.now in inr (unknown_parent (subst (FindsFirstPlace (IsUnknownIn s)) c.in-Some-2.is c.in_ok-span-2.ensures).0)

pub returns-in-Some-3-clause-fault : goal.returns-in-Some-3-clause-fault
returns-in-Some-3-clause-fault c = let s = system_of c.args.hierarchy.now.system.now in inr (cycle (subst (Finds (CycleAt s)) c.in-Some-3.is c.in_ok-span-3.ensures))

pub returns-in-Some-clause-first : goal.returns-in-Some-clause-first
returns-in-Some-clause-first c = inr (least_1 (system_of c.args.hierarchy.now.system.now) (root_of c.args.root.now) c.in-Some.span)

pub returns-in-Some-2-clause-first : goal.returns-in-Some-2-clause-first
returns-in-Some-2-clause-first c =
    let s = system_of c.args.hierarchy.now.system.now in
    inr (least_2 s (root_of c.args.root.now) (subst (FindsFirstPlace (RepeatedAt [] s.classes)) c.in_default.is c.in_ok-span.ensures) c.in-Some-2.span)

pub returns-in-Some-3-clause-first : goal.returns-in-Some-3-clause-first
returns-in-Some-3-clause-first c =
    let s = system_of c.args.hierarchy.now.system.now in
    inr (least_3 s (root_of c.args.root.now) (subst (FindsFirstPlace (RepeatedAt [] s.classes)) c.in_default.is c.in_ok-span.ensures) (subst (FindsFirstPlace (IsUnknownIn s)) c.in_default-2.is c.in_ok-span-2.ensures) c.in-Some-3.span)

pub returns-in-Some-clause-place : goal.returns-in-Some-clause-place
returns-in-Some-clause-place c =
    let s = system_of c.args.hierarchy.now.system.now in
    first_1 s (root_of c.args.root.now) c.in-Some.span (subst (FindsFirstPlace (RepeatedAt [] s.classes)) c.in-Some.is c.in_ok-span.ensures)

pub returns-in-Some-2-clause-place : goal.returns-in-Some-2-clause-place
returns-in-Some-2-clause-place c =
    let s = system_of c.args.hierarchy.now.system.now in
    first_2 s (root_of c.args.root.now) c.in-Some-2.span (subst (FindsFirstPlace (IsUnknownIn s)) c.in-Some-2.is c.in_ok-span-2.ensures)

pub returns-in-Some-3-clause-place : goal.returns-in-Some-3-clause-place
returns-in-Some-3-clause-place c =
    let s = system_of c.args.hierarchy.now.system.now in
    first_3 s (root_of c.args.root.now) c.in-Some-3.span (subst (Finds (CycleAt s)) c.in-Some-3.is c.in_ok-span-3.ensures)
