use Rattle.std.proofs.Common.{◌≡◌, drop}
use Rattle.sc_tree.specs.View.{instrs_of, branches_of}
use Rattle.sc_class.specs.Internal.Places.{union}
use Rattle.sc_class.specs.Internal.ScopeSearch.{instrs_clash, branches_clash}
use Rattle.sc_class.proofs.faults.scopes.instructions.+instructions.Given as goal

abbrev pub invariant-in_instructions-loop-instruction : goal.invariant-in_instructions-loop-instruction
invariant-in_instructions-loop-instruction l = record {
  kept : l.known ≡ l.fn.known;
  found : union l.fn.found (instrs_clash l.features l.fn.known (instrs_of l.instructions)) ≡ union l.found (instrs_clash l.features l.fn.known (instrs_of (drop l.instruction-index l.instructions)));
}

abbrev pub invariant-in_branches-loop-branch : goal.invariant-in_branches-loop-branch
invariant-in_branches-loop-branch l = record {
  kept : l.known ≡ l.fn.known;
  found : union l.fn.found (branches_clash l.features l.fn.known (branches_of l.branches)) ≡ union l.found (branches_clash l.features l.fn.known (branches_of (drop l.branch-index l.branches)));
}
