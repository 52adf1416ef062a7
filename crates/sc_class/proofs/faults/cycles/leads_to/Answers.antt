use Rattle.std.proofs.Common.{◌≡◌, ◌+◌, ℕ, arith, Option, length, subst, vec_len}
use Rattle.std.specs.Prelude.{MatchOption}
use Rattle.sc_tree.specs.View.{system_of}
use Rattle.sc_class.proofs.CycleLemmas.{classes_length, starts_within, begins, target_found, goes_on, target_not_found, nothing_left}
use Rattle.sc_class.proofs.Decisions.{holds, holds_not}
use Rattle.sc_class.proofs.faults.cycles.leads_to.Goals as goal

pub see-requires : goal.see-requires
see-requires c = starts_within c.args.hierarchy.now.system.now c.classes.result.now c.args.start c.in_ok-search.search.seen.items c.in_ok-search.search.todo.items c.classes.ensures c.in_ok-search.ensures c.requires

pub loop-class-init : goal.loop-class-init
loop-class-init c =
    begins (system_of c.args.hierarchy.now.system.now) c.args.target c.args.start c.in_ok-search.search.seen.items c.see.new.self.seen.items c.in_ok-search.search.todo.items c.see.new.self.todo.items
    (length c.classes.result.now) c.in_ok-search.ensures c.in_ok-see.ensures (length c.args.hierarchy.now.system.now.classes.items) (classes_length c.args.hierarchy.now.system.now c.classes.result.now c.classes.ensures)

pub returns-then-class-target : goal.returns-then-class-target
returns-then-class-target c =
    holds (target_found (system_of c.args.hierarchy.now.system.now) c.args.target c.args.start c.loop-class.search.seen.items c.loop-class.search.todo.items c.pop.new.self.items c.in-Some.class c.loop-class.invariant.1 c.in-Some.ensures.items c.if-class-target.true)

pub loop-class-preserved : goal.loop-class-preserved
loop-class-preserved c =
    goes_on (system_of c.args.hierarchy.now.system.now) c.args.target c.args.start c.loop-class.search.seen.items c.loop-class.search.todo.items c.pop.new.self.items c.in-Some.class (length c.args.hierarchy.now.system.now.classes.items)
    c.loop-class.invariant c.in-Some.ensures.items c.see_parents.new.self.seen.items c.see_parents.new.self.todo.items c.if-class-target.false c.in_ok-see_parents.ensures

pub returns : goal.returns
returns c =
    let none : vec_len c.loop-class.search.todo ≡ 0 =
    (subst (λ (o : Option ℕ). MatchOption o ((vec_len c.loop-class.search.todo ≡ 0) × (vec_len c.pop.new.self ≡ 0)) (λ x. vec_len c.pop.new.self + 1 ≡ vec_len c.loop-class.search.todo)) c.in_default.is c.pop.ensures.cases).0 in
    let empty : length c.loop-class.search.todo.items ≡ 0 = omega arith in
    holds_not (target_not_found (system_of c.args.hierarchy.now.system.now) c.args.target c.args.start c.loop-class.search.seen.items c.loop-class.search.todo.items c.loop-class.invariant.1 (nothing_left c.loop-class.search.todo.items empty))
