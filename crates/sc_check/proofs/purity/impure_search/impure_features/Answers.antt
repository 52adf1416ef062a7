use Rattle.std.proofs.Common.{◌≡◌, ◌+◌, ◌≤◌, ◌∙◌, ℕ, arith, Option, length, subst, vec_len}
use Rattle.std.specs.Prelude.{MatchOption}
use Rattle.sc_class.proofs.CycleLemmas.{nothing_left}
use Rattle.sc_rules.proofs.PurityHeirs.{are_purity}
use Rattle.sc_typing.specs.FeatureNumbers.{all_features, pure_by}
use Rattle.sc_class.specs.SystemIn.{root_in, system_in}
use Rattle.sc_check.proofs.purity.Marked.{marked_out}
use Rattle.sc_check.proofs.purity.ImpureSearchSteps.{collected_all, callers_all, entries_count}
use Rattle.sc_check.proofs.purity.Runners.{taken_within, marked_more}
use Rattle.sc_check.proofs.purity.impure_search.impure_features.Goals as goal

pub loop-found-init : goal.loop-found-init
loop-found-init c =
    let s = system_in c.args.numbering.now.tables.now in
    let as_many : length c.args.numbering.now.features.items ≡ length (all_features s) = entries_count s c.args.numbering.now.features.items c.args.numbering.now.are_all in
    let count : vec_len c.args.numbering.now.features ≡ length c.args.numbering.now.features.items = omega arith in
    let all : length (all_features s) ≤ c.loop-number.number = subst (λ (n : ℕ). n ≤ c.loop-number.number) (c.len-count.ensures ∙ count ∙ as_many) c.loop-number-test.false in (
      c.loop-number.invariant.as_many,
      collected_all s c.loop-number.search.impure.items c.loop-number.search.todo.items c.loop-number.callers.lists.items c.loop-number.number all c.loop-number.invariant,
      callers_all s c.loop-number.search.impure.items c.loop-number.search.todo.items c.loop-number.callers.lists.items c.loop-number.number all c.loop-number.invariant,
    )

pub mark_runners-requires-clause-in_range : goal.mark_runners-requires-clause-in_range
mark_runners-requires-clause-in_range c =
    let s = system_in c.args.numbering.now.tables.now in
    taken_within s c.loop-found.search.impure.items c.loop-found.search.todo.items c.pop.new.self.items c.in-Some.found (length c.args.numbering.now.features.items) c.in-Some.ensures.items
    (entries_count s c.args.numbering.now.features.items c.args.numbering.now.are_all) c.loop-found.invariant.0 c.loop-found.invariant.1

pub loop-found-preserved : goal.loop-found-preserved
loop-found-preserved c =
    marked_more (system_in c.args.numbering.now.tables.now) c.loop-found.search.impure.items c.mark_runners.new.search.impure.items
    c.loop-found.search.todo.items c.pop.new.self.items c.mark_runners.new.search.todo.items c.loop-number.callers.lists.items c.in-Some.found c.in-Some.ensures.items c.loop-found.invariant c.in_ok-mark_runners.ensures

-- nothing is left to look at
pub returns-clause-pure : goal.returns-clause-pure
returns-clause-pure c =
    let s = system_in c.args.numbering.now.tables.now in
    let none : vec_len c.loop-found.search.todo ≡ 0 =
    (subst (λ (o : Option ℕ). MatchOption o ((vec_len c.loop-found.search.todo ≡ 0) × (vec_len c.pop.new.self ≡ 0))
    (λ x. vec_len c.pop.new.self + 1 ≡ vec_len c.loop-found.search.todo)) c.in_default.is c.pop.ensures.cases).0 in
    let empty : length c.loop-found.search.todo.items ≡ 0 = omega arith in
    are_purity s (pure_by s c.loop-found.search.impure.items)
    (marked_out s (root_in c.args.numbering.now.tables.now) c.args.numbering.now.tables.now.faultless c.loop-found.search.impure.items c.loop-found.search.todo.items c.loop-found.invariant.0 (nothing_left c.loop-found.search.todo.items empty) c.loop-found.invariant.1)
