use Rattle.std.proofs.Common.{inr, subst}
use Rattle.std.proofs.lemmas.Bool.{iff_false}
use Rattle.sc_tree.specs.View.{system_of}
use Rattle.sc_class.specs.Faults.ClassRules.{limit, left_out}
use Rattle.sc_class.specs.Internal.Found.{FindsFirstExclusion}
use Rattle.sc_class.specs.Internal.NoFaults.{IsLeftOutIn}
use Rattle.sc_class.specs.View.{root_of}
use Rattle.sc_class.proofs.TableLemmas.{least_7, least_8, first_8}
use Rattle.sc_class.proofs.checking.refuse_rest.Goals as goal

pub returns-then-branch-clause-fault : goal.returns-then-branch-clause-fault
returns-then-branch-clause-fault c =
    inr (limit (c.in_ok-passes_limit.ensures.0 c.if-branch.true))

pub returns-in-Some-clause-fault : goal.returns-in-Some-clause-fault
returns-in-Some-clause-fault c =
    let s = system_of c.args.outline.now.hierarchy.system.now in
    inr (left_out {x = c.in-Some.excluded} (subst (FindsFirstExclusion (IsLeftOutIn s)) c.in-Some.is c.in_ok-excluded.ensures).0)

pub returns-then-branch-clause-first : goal.returns-then-branch-clause-first
returns-then-branch-clause-first c = inr (least_7 (system_of c.args.outline.now.hierarchy.system.now) (root_of c.args.root.now))

pub returns-in-Some-clause-first : goal.returns-in-Some-clause-first
returns-in-Some-clause-first c =
    let s = system_of c.args.outline.now.hierarchy.system.now in
    inr (λ a b. least_8 s (root_of c.args.root.now) a b (iff_false c.in_ok-passes_limit.ensures c.if-branch.false) c.in-Some.excluded.what c.in-Some.excluded.span)

pub returns-in-Some-clause-place : goal.returns-in-Some-clause-place
returns-in-Some-clause-place c =
    let s = system_of c.args.outline.now.hierarchy.system.now in
    first_8 s (root_of c.args.root.now) c.in-Some.excluded (subst (FindsFirstExclusion (IsLeftOutIn s)) c.in-Some.is c.in_ok-excluded.ensures)

pub returns-clause-none : goal.returns-clause-none
returns-clause-none c =
    let s = system_of c.args.outline.now.hierarchy.system.now in
    record {
      within_limits = iff_false c.in_ok-passes_limit.ensures c.if-branch.false;
      none_left_out = subst (FindsFirstExclusion (IsLeftOutIn s)) c.in_default.is c.in_ok-excluded.ensures;
    }
