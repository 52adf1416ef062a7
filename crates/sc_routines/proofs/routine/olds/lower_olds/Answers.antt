use Rattle.std.proofs.Common.{◌≡◌, ◌+◌, ◌∷◌, ◌++◌, List, drop, map, max, sym, ap, ◌∙◌, arith}
use Rattle.std.proofs.lemmas.List.{at_drop_more}
use Rattle.sc_routines.specs.declared.olds.OldValue.{OldValue}
use Rattle.sc_tree.specs.Plain as tree
use Rattle.sc_tree.specs.View.{expr_of}
use Rattle.sc_rules.specs.declared.entity_types.entity_type.EntityType.{EntityType}
use Rattle.sc_rules.specs.Names.{Entities}
use Rattle.sc_typing.specs.Views.{entity_of}
use Rattle.sc_code.specs.Places.{Setting, expr_type, old_types, with_old}
use Rattle.sc_code.specs.Emitted.{expr_depth, olds_code, olds_depth}
use Rattle.sc_routines.specs.Settings.{operands_of, setting_in}
use Rattle.sc_routines.proofs.KeptOlds.{kept, next_old_code, next_old_types}
use Rattle.sc_routines.proofs.routine.olds.lower_olds.Goals as goal

pub loop-kept-preserved : goal.loop-kept-preserved
loop-kept-preserved c =
    let h = setting_in c.loop-kept.setting in
    let k : Setting = record h { olds = c.push_type.new.types.items } in
    let n = map entity_of c.args.names.now.items in
    let m = map entity_of c.loop-kept.names.items in
    let place = c.loop-kept.kept-index in
    let d = c.kept-item.result in
    let e = expr_of d.operand.now in
    let t = c.in_ok-value.value.value in
    let lowered = c.in_ok-value.ensures in
    let before = c.loop-kept.invariant in
    let rest = operands_of (drop (place + 1) c.args.olds.now) in
    let step : e ∷ rest ≡ operands_of (drop place c.args.olds.now) =
    sym (at_drop_more operands_of c.args.olds.now place d (omega (arith, c.loop-kept-test.true)) ∙ ap (λ (d : OldValue). expr_of d.operand.now ∷ rest) (sym c.kept-item.is)) in
    let ek : k ≡ with_old h (expr_type h n 0 e) =
    kept h k n m e t before.names lowered.value (ap (λ (ts : List EntityType). record h { olds = ts }) c.in_ok-push_type.ensures) in
    let deep = c.max-depth.ensures in
    record {
      names = lowered.names ∙ before.names;
      setting = ap (λ (g : Setting). record g { olds = c.push_type.new.types.items }) before.setting;
      code = next_old_code h k n m e rest c.loop-kept.code c.lower_expr.new.code c.push.new.self _ before.names ek lowered.code c.in_ok-push.ensures
          (ap (λ (es : List tree.Expr). c.loop-kept.code ++ olds_code h n es) step ∙ before.code);
      types = next_old_types h k n m e rest t c.loop-kept.setting.olds.items c.push_type.new.types.items _ before.names ek lowered.value c.in_ok-push_type.ensures
          (ap (λ (es : List tree.Expr). c.loop-kept.setting.olds.items ++ old_types h n es) step ∙ before.types);
      depth = omega (
        arith,
        deep,
        lowered.depth ∙ ap (λ (m : Entities). expr_depth h m 0 e) before.names,
        ap (λ (k : Setting). olds_depth k n rest) ek,
        ap (λ (es : List tree.Expr). max c.loop-kept.depth (olds_depth h n es)) step ∙ before.depth,
      );
    }
