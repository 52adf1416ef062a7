use Rattle.std.proofs.Common.{List, [], ◌∷◌, ◌-◌, length, map, ap, arith, length-append}
use Rattle.sc_tree.specs.View.{expr_of}
use Rattle.sc_typing.specs.Views.{entity_of}
use Rattle.sc_code.specs.Operations.{Operation, EndLoop}
use Rattle.sc_code.specs.Emitted.{expr_code}
use Rattle.sc_routines.specs.Settings.{setting_in}
use Rattle.sc_routines.proofs.Sequences.{loop_ended}
use Rattle.sc_routines.proofs.instructions.loops.end_loop.Goals as goal

pub returns-clause-code : goal.returns-clause-code
returns-clause-code c =
    loop_ended (expr_code (setting_in c.args.setting.now) (map entity_of c.args.names.now.items) 0 (expr_of c.args.until.now)) c.args.code.now c.lower_expr.new.code c.push.new.self c.set.new.self
    c.args.jump c.len.result c.len-2.result c.requires c.len.ensures c.in_ok-until.ensures.code c.len-2.ensures c.in_ok-push.ensures c.set.ensures

pub overflow_sub-back : goal.overflow_sub-back
overflow_sub-back c =
    omega (
      arith,
      c.requires,
      c.len-2.ensures,
      ap (λ (l : List Operation). length l) c.in_ok-until.ensures.code,
      length-append c.args.code.now (expr_code (setting_in c.args.setting.now) (map entity_of c.args.names.now.items) 0 (expr_of c.args.until.now)),
    )

pub overflow_sub-back-2 : goal.overflow_sub-back-2
overflow_sub-back-2 c =
    omega (
      arith,
      c.requires,
      c.len-2.ensures,
      ap (λ (l : List Operation). length l) c.in_ok-until.ensures.code,
      length-append c.args.code.now (expr_code (setting_in c.args.setting.now) (map entity_of c.args.names.now.items) 0 (expr_of c.args.until.now)),
    )

pub set-requires : goal.set-requires
set-requires c =
    omega (
      arith,
      c.requires,
      ap (λ (l : List Operation). length l) c.in_ok-until.ensures.code,
      length-append c.args.code.now (expr_code (setting_in c.args.setting.now) (map entity_of c.args.names.now.items) 0 (expr_of c.args.until.now)),
      ap (λ (l : List Operation). length l) c.in_ok-push.ensures,
      length-append c.lower_expr.new.code (EndLoop (c.len-2.result - c.args.jump - 1) ∷ []),
    )
