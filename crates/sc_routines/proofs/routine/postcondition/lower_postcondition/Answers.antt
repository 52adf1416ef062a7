use Rattle.std.proofs.Common.{◌≡◌, ◌+◌, ◌∷◌, ◌++◌, List, drop, map, max, sym, ap, ◌∙◌, arith}
use Rattle.std.proofs.lemmas.List.{at_drop_more}
use Rattle.sc_tree.specs.declared.instruction.Clause.{Clause}
use Rattle.sc_tree.specs.Plain as tree
use Rattle.sc_tree.specs.View.{clause_of}
use Rattle.sc_rules.specs.Names.{Entities}
use Rattle.sc_model.specs.Olds.{olds_in}
use Rattle.sc_typing.specs.Views.{entity_of}
use Rattle.sc_code.specs.Emitted.{clauses_depth, ensure_code, expr_depth}
use Rattle.sc_routines.specs.Settings.{setting_in}
use Rattle.sc_routines.proofs.Sequences.{next_clause}
use Rattle.sc_routines.proofs.routine.postcondition.lower_postcondition.Goals as goal

pub loop-clause-preserved : goal.loop-clause-preserved
unfolding clause_of
loop-clause-preserved c =
    let h = setting_in c.args.setting.now in
    let n = map entity_of c.args.names.now.items in
    let place = c.loop-clause.clause-index in
    let d = c.clause-item.result in
    let e = (clause_of d).condition in
    let lowered = c.in_ok-condition.ensures in
    let before = c.loop-clause.invariant in
    let rest = map clause_of (drop (place + 1) c.args.clauses.now) in
    let step : clause_of d ∷ rest ≡ map clause_of (drop place c.args.clauses.now) =
    sym (at_drop_more (map clause_of) c.args.clauses.now place d (omega (arith, c.loop-clause-test.true)) ∙ ap (λ (d : Clause). clause_of d ∷ rest) (sym c.clause-item.is)) in
    let i = c.loop-clause.olds in
    let j = i + olds_in e in
    record {
      names = lowered.names ∙ before.names;
      code = ap (λ k. c.push.new.self ++ ensure_code h n k rest) lowered.olds
          ∙ next_clause h n (map entity_of c.loop-clause.names.items) i e _ (ensure_code h n j rest) c.loop-clause.code c.lower_expr.new.code c.push.new.self _ before.names lowered.code
          c.in_ok-push.ensures (ap (λ (ks : List tree.Clause). c.loop-clause.code ++ ensure_code h n i ks) step ∙ before.code);
      depth = omega (
        arith,
        c.max-depth.ensures,
        lowered.depth ∙ ap (λ (m : Entities). expr_depth h m i e) before.names,
        ap (λ k. clauses_depth h n k rest) lowered.olds,
        ap (λ (ks : List tree.Clause). max c.loop-clause.depth (clauses_depth h n i ks)) step ∙ before.depth,
      );
    }
