use Rattle.std.proofs.Common.{◌≡◌, ◌+◌, ◌++◌, drop, length, map, max}
use Rattle.sc_tree.specs.View.{exprs_of}
use Rattle.sc_model.specs.Olds.{olds_of_each}
use Rattle.sc_typing.specs.Views.{entity_of}
use Rattle.sc_code.specs.Emitted.{exprs_code, exprs_depth}
use Rattle.sc_code.specs.Places.{exprs_types}
use Rattle.sc_routines.specs.Settings.{setting_in}
use Rattle.sc_routines.proofs.setting.Setting.+expressions.Given as goal

-- what is lowered so far, and of the expressions that are left, is that of all
abbrev pub invariant-lower_actuals-loop-number : goal.invariant-lower_actuals-loop-number
invariant-lower_actuals-loop-number l =
    let h = setting_in l.fn.self in
    let n = map entity_of l.fn.names.items in
    let rest = exprs_of (drop l.number l.fn.actuals) in
    let all = exprs_of l.fn.actuals in
    record {
      names : map entity_of l.names.items ≡ n;
      code : l.code ++ exprs_code h n l.passed rest ≡ l.fn.code ++ exprs_code h n l.fn.olds all;
      types : l.types.items ++ exprs_types h n l.passed rest ≡ exprs_types h n l.fn.olds all;
      depth : max l.depth (l.number + exprs_depth h n l.passed rest) ≡ exprs_depth h n l.fn.olds all;
      passed : l.passed + length (olds_of_each rest) ≡ l.fn.olds + length (olds_of_each all);
    }
