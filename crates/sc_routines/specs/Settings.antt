-- What settings and references in memory are.
use Rattle.std.specs.Prelude.{◌++◌, List, map}
use Rattle.sc_tree.specs.declared.declaration.Declaration.{Declaration}
use Rattle.sc_tree.specs.Plain as plain
use Rattle.sc_tree.specs.View.{declaration_of, expr_of}
use Rattle.sc_class.specs.declared.class_tables.Tables.{Tables}
use Rattle.sc_class.specs.SystemIn.{system_in}
use Rattle.sc_rules.specs.Names.{Entities}
use Rattle.sc_model.specs.Environments.{Binding, locals_bound}
use Rattle.sc_model.specs.Routines.{Text}
use Rattle.sc_typing.specs.declared.routine_context.RoutineContext.{RoutineContext}
use Rattle.sc_routines.specs.declared.olds.OldValue.{OldValue}
use Rattle.sc_routines.specs.declared.setting.Setting as coded
use Rattle.sc_code.specs.Places.{Setting, old_types}

abbrev pub text_in : RoutineContext → Text
text_in c = record { class = c.class; formals = map declaration_of c.formals.now; result = c.result }

abbrev pub setting_in : coded.Setting → Setting
setting_in h =
    record { system = system_in h.context.tables.now; text = text_in h.context; result = h.result; olds = h.olds.items }

-- what these `old`s are applied to
abbrev pub operands_of : List OldValue → List plain.Expr
operands_of es = map (λ (e : OldValue). expr_of e.operand.now) es

-- the setting where the operands of these `old`s are kept too
abbrev pub with_olds : Setting → Entities → List plain.Expr → Setting
with_olds h n es = record h { olds = h.olds ++ old_types h n es }

-- these locals of the routine
abbrev pub bound_locals : Setting → List plain.Declaration → List Binding
bound_locals h ds = locals_bound h.system h.text.formals ds

-- those of a routine with these formals
abbrev pub locals_in : Tables → List Declaration → List Declaration → List Binding
locals_in tables formals locals =
    locals_bound (system_in tables) (map declaration_of formals) (map declaration_of locals)
