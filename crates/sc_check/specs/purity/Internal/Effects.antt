-- What bears on purity, as the code holds it.
use Rattle.std.specs.Prelude.{◌≡◌, ℕ, true, not, List, ◌∷◌, ◌++◌, Option, Result, Ok, Err, map}
use Rattle.sc_text.specs.declared.token.Span.{Span}
use Rattle.sc_tree.specs.declared.expression.UnaryOperator.{UnaryOperator}
use Rattle.sc_tree.specs.declared.expression.BinaryOperator.{BinaryOperator}
use Rattle.sc_tree.specs.Plain.{System, DeclaredType, CreationCall, Name, Expr, Target, no_target, target, Exprs, Instrs, Branches, Head}
use Rattle.sc_class.specs.View.{entry_of}
use Rattle.sc_rules.specs.declared.fault.Fault.{Fault}
use Rattle.sc_rules.specs.declared.rule.Rule.TheVariants.{ObjectTestPlace}
use Rattle.sc_rules.specs.declared.position.Context.{Context}
use Rattle.sc_rules.specs.declared.position.Context.TheVariants as context
use Rattle.sc_rules.specs.declared.position.Position.TheVariants.{Plain, Condition}
use Rattle.sc_rules.specs.declared.position.Use.TheVariants.{Value}
use Rattle.sc_rules.specs.Positions.{span_of}
use Rattle.sc_rules.specs.Names.{RoutineName, RoutineContext, Entities, routine_of, Meaning, current}
use Rattle.sc_rules.specs.Typing as typing
use Rattle.sc_rules.specs.Typing.{simple_typing}
use Rattle.sc_rules.specs.Purity.{routine_named, is_pure_candidate_if_any}
use Rattle.sc_rules.specs.Judging.{Judged, ◌>>=◌, fault, judge_tested, JudgedActual, judge_actuals_and_name, judge}
use Rattle.sc_rules.specs.JudgingPurity as judging
use Rattle.sc_typing.specs.declared.fault.CheckFault.{CheckFault}
use Rattle.sc_typing.specs.declared.fault.CheckFault.TheVariants.{OutOfMemory}
use Rattle.sc_typing.specs.declared.expressions.typing.Typing.{Typing}
use Rattle.sc_check.specs.declared.purity.effects.Effect.{Effect}
use Rattle.sc_check.specs.declared.purity.effects.Effect.TheVariants.{SideEffect, RoutineCall}
use Rattle.sc_typing.specs.Judges.{judge_received, judge_unary, judge_binary}
use Rattle.sc_typing.specs.Views.{judged_in}

abbrev pub effect_of : Effect → judging.Effect
effect_of SideEffect = judging.side_effect
effect_of (RoutineCall e) = judging.routine_call (routine_of (entry_of e))

-- these effects were added after the others, unless memory ran out
abbrev pub Adds : {A : Type 0} → List Effect → List Effect → List judging.Effect → Result A CheckFault → Type 0
Adds old new effects (Ok x) = map effect_of new ≡ map effect_of old ++ effects
Adds old new effects (Err e) = e ≡ OutOfMemory

-- what is found is what judging gives, unless memory ran out
abbrev pub IsFound : Judged typing.Typing → Result (Result Typing Fault) CheckFault → Type 0
IsFound j (Ok found) = judged_in found ≡ j
IsFound j (Err e) = e ≡ OutOfMemory

-- ---- parts of what is found, as the code is divided

-- of a target
abbrev pub target_found : RoutineContext → Context → Entities → Target → Judged typing.Typing
target_found h c n no_target = Ok (simple_typing (current h))
target_found h c n (target a) = judge h c Plain n a

-- of a target, as what is called sees it
abbrev pub received : Target → typing.Typing → Judged typing.Typing
received no_target t = Ok t
received (target a) t = judge_received (span_of a) t

-- of a call, after its target and its actuals
abbrev pub judge_met : RoutineContext → Context → Target → Meaning → Span → List JudgedActual → Judged typing.Typing →
    Judged typing.Typing
judge_met h c a m p rs j = do
  t ← j
  r ← received a t
  judge_actuals_and_name h c Value a m p rs r

-- of operators, after their operands
abbrev pub judge_behind_operand : Context → Span → UnaryOperator → Judged typing.Typing → Judged typing.Typing
judge_behind_operand c p op j = do
  t ← j
  judge_unary c p op t

abbrev pub judge_behind_operands : Span → BinaryOperator → Judged typing.Typing → Judged typing.Typing →
    Judged typing.Typing
judge_behind_operands p op i j = do
  t ← i
  u ← j
  judge_binary p op t u

-- of an object test outside a condition, after what is tested
abbrev pub judge_misplaced : RoutineContext → Span → Option DeclaredType → Judged typing.Typing → Judged typing.Typing
judge_misplaced h p d j = do
  _ ← judge_tested h d
  _ ← j
  Err (fault ObjectTestPlace p)

-- ---- parts of what is done, as the code is divided

-- in a call
abbrev pub effects_in_call : RoutineContext → Context → Entities → Target → Name → Exprs → List judging.Effect
effects_in_call h c n a x es =
    judging.effects_of_target h c n a ++ (judging.effects_of_actuals h c n es ++ judging.effects_of_call h c n a x)

-- in a condition and the instructions under it
abbrev pub effects_of_branch : RoutineContext → Entities → Expr → Instrs → List judging.Effect
effects_of_branch h n e is =
    judging.effects h context.Body Condition n e
    ++ judging.effects_of_instrs h (judging.given_anyway h context.Body n e) is

-- in the heads and the body of a separate block
abbrev pub effects_of_heads_and_body : RoutineContext → Entities → List Head → Instrs → List judging.Effect
effects_of_heads_and_body h n ds is =
    judging.effects_of_heads h n ds ++ judging.effects_of_instrs h (judging.reserved_anyway h n n ds) is

-- in a creation, an `if`, a loop, a separate block
abbrev pub effects_of_create : RoutineContext → Entities → Option CreationCall → List judging.Effect
effects_of_create h n k = judging.side_effect ∷ judging.effects_of_creation h n k

abbrev pub effects_of_if : RoutineContext → Entities → Expr → Instrs → Branches → Instrs → List judging.Effect
effects_of_if h n e body bs other =
    effects_of_branch h n e body ++ (judging.effects_of_branches h n bs ++ judging.effects_of_instrs h n other)

abbrev pub effects_of_loop : RoutineContext → Entities → Instrs → Expr → Instrs → List judging.Effect
effects_of_loop h n initial e body =
    judging.effects_of_instrs h n initial
    ++ (judging.effects h context.Body Plain n e ++ judging.effects_of_instrs h n body)

abbrev pub effects_of_block : RoutineContext → Entities → List Head → Instrs → List judging.Effect
effects_of_block h n ds body = judging.side_effect ∷ effects_of_heads_and_body h n ds body

-- all that bears on the purity of a routine: what isn't a function without attached separate formals does what no pure
-- function does
abbrev pub all_effects : System → RoutineName → List judging.Effect
all_effects s f = judging.side_effect_if (not (is_pure_candidate_if_any (routine_named s f)))
    ++ judging.effects_of_routine s f
