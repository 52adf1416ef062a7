use Rattle.std.proofs.Common.{List, ◌+◌, ◌++◌, length, map, suc, refl, ap, ◌∙◌, add-one}
use Rattle.sc_tree.specs.declared.expression.Expr.{Expr}
use Rattle.sc_tree.specs.View.{expr_of, exprs_of, name_of}
use Rattle.sc_rules.specs.Names.{Entities}
use Rattle.sc_typing.specs.Views.{entity_of}
use Rattle.sc_code.specs.Places.{exprs_types}
use Rattle.sc_code.specs.Emitted.{expr_depth, exprs_code, exprs_depth}
use Rattle.sc_routines.specs.declared.lowered.Lowered.{Lowered}
use Rattle.sc_routines.specs.Settings.{setting_in}
use Rattle.sc_routines.proofs.InstructionCalls.{qualified_call}
use Rattle.sc_routines.proofs.Largest.{of_two}
use Rattle.sc_routines.proofs.instructions.calls.lower_qualified_call.Goals as goal

pub returns : goal.returns
returns c =
    let h = setting_in c.args.setting.now in
    let n = map entity_of c.args.names.now.items in
    let a = expr_of c.args.target.now in
    let es = c.args.call.now.actuals.items in
    let passed = c.deref.result.now in
    let target = c.in_ok-target.ensures in
    let actuals = c.in_ok-actuals.ensures in
    let types = c.in_ok-actuals.actuals.types.items in
    let told = c.in_ok-called.ensures.told in
    let needs = c.of_operands.ensures in
    record {
      code = qualified_call h n (name_of c.args.call.now.name).text es (length es) types types c.args.code.now c.lower_expr.new.code c.lower_actuals.new.code c.close_feature_call.new.code
          refl (actuals.types ∙ ap (λ (m : Entities). exprs_types h m 0 (exprs_of passed)) target.names ∙ ap (λ (es : List Expr). exprs_types h n 0 (exprs_of es)) c.deref.ensures.value) refl
          a c.in_ok-target.target.value target.value target.code
          (actuals.code ∙ ap (λ (m : Entities). c.lower_expr.new.code ++ exprs_code h m 0 (exprs_of passed)) target.names
          ∙ ap (λ (es : List Expr). c.lower_expr.new.code ++ exprs_code h n 0 (exprs_of es)) c.deref.ensures.value)
          c.in_ok-called.ensures.code;
      names = actuals.names ∙ target.names;
      depth = needs.depth
          ∙ of_two c.in_ok-target.target.depth (c.in_ok-actuals.actuals.depth + 1) _ (expr_depth h n 0 a) (suc (exprs_depth h n 0 (exprs_of es))) (ap (λ (l : Lowered). l.depth) told) target.depth
          (add-one c.in_ok-actuals.actuals.depth ∙ ap (λ k. suc k) (actuals.depth ∙ ap (λ (m : Entities). exprs_depth h m 0 (exprs_of passed)) target.names
          ∙ ap (λ (es : List Expr). exprs_depth h n 0 (exprs_of es)) c.deref.ensures.value));
      slots = needs.slots;
      blocks = needs.blocks;
    }
