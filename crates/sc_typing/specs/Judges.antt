-- What a function that judges ensures: it gives what the judging function of its name gives, unless memory runs out.
use Rattle.std.specs.Prelude.{◌≡◌, Bool, ◌||◌, List, Result, Ok, Err, map}
use Rattle.std.specs.List.{list_any}
use Rattle.sc_rules.specs.declared.fault.Fault.{Fault}
use Rattle.sc_rules.specs.Typing as typing
use Rattle.sc_rules.specs.Typing.{is_foreign_type, old_stands}
use Rattle.sc_rules.specs.Types.{binary_result, unary_result}
use Rattle.sc_rules.specs.declared.rule.Rule.TheVariants.{OldPlace}
use Rattle.sc_text.specs.declared.token.Span.{Span}
use Rattle.sc_tree.specs.declared.expression.UnaryOperator.{UnaryOperator}
use Rattle.sc_tree.specs.declared.expression.BinaryOperator.{BinaryOperator}
use Rattle.std.specs.declared.vec.Vec.{Vec}
use Rattle.std.specs.declared.alloc.Global.{Global}
use Rattle.sc_tree.specs.Plain.{Name, Target, Exprs}
use Rattle.sc_rules.specs.declared.position.Context.{Context}
use Rattle.sc_rules.specs.declared.position.Use.{Use}
use Rattle.sc_rules.specs.Names.{RoutineContext, Entities}
use Rattle.sc_rules.specs.Judging as judging
use Rattle.sc_rules.specs.Judging.{Judged, ◌>>=◌, required, judge_operation, judge_target, judge_receiver, judge_called, judged_actuals}
use Rattle.sc_typing.specs.Views.{actual_in}
use Rattle.sc_typing.specs.declared.expressions.typing.JudgedActual.{JudgedActual}
use Rattle.sc_typing.specs.declared.expressions.typing.Typing.{Typing}
use Rattle.sc_typing.specs.declared.fault.CheckFault.{CheckFault}
use Rattle.sc_typing.specs.declared.fault.CheckFault.TheVariants.{Refused, OutOfMemory}

-- unless memory ran out, the fault is that of judging
abbrev pub Faults : {A : Type 0} → Judged A → CheckFault → Type 0
Faults j OutOfMemory = Unit {0}
Faults j (Refused f) = j ≡ Err f

-- What is given, as judging gives it; `view` is how definitions see it.
abbrev pub Judges : {A B : Type 0} → (B → A) → Judged A → Result B CheckFault → Type 0
Judges view j (Ok x) = j ≡ Ok (view x)
Judges view j (Err e) = Faults j e

-- the same where nothing but success matters
abbrev pub Passes : Judged (Unit {0}) → Result Unit CheckFault → Type 0
Passes j (Ok x) = j ≡ Ok tt
Passes j (Err e) = Faults j e

-- whether one of what is found makes a separate call, or one before them did
abbrev pub any_separate : Bool → Judged (List typing.Typing) → Judged Bool
any_separate b j = do
  ts ← j
  Ok (b || list_any (λ (t : typing.Typing). t.is_separate) ts)

-- what is found, or the fault, apart from memory that ran out
abbrev pub fault_kept : Result Typing CheckFault → Result (Result Typing Fault) CheckFault
fault_kept (Ok t) = Ok (Ok t)
fault_kept (Err (Refused f)) = Ok (Err f)
fault_kept (Err OutOfMemory) = Err OutOfMemory

-- what is found of actuals, unless memory runs out
abbrev pub JudgesActuals : List judging.JudgedActual → Result (Vec JudgedActual Global) CheckFault → Type 0
JudgesActuals rs (Ok fs) = map actual_in fs.items ≡ rs
JudgesActuals rs (Err e) = e ≡ OutOfMemory

-- what is found of a target, as what is called sees it
abbrev pub judge_received : Span → typing.Typing → Judged typing.Typing
judge_received p t = do
  _ ← judge_target p t.type
  Ok (typing.typing t.type (t.is_separate || is_foreign_type t.type))

-- an operator, after what is found of its operands
abbrev pub judge_unary : Context → Span → UnaryOperator → typing.Typing → Judged typing.Typing
judge_unary c p op t = do
  _ ← required (old_stands c op t) OldPlace p
  judge_operation p t.is_separate (unary_result op t.type)

abbrev pub judge_binary : Span → BinaryOperator → typing.Typing → typing.Typing → Judged typing.Typing
judge_binary p op t u = judge_operation p (t.is_separate || u.is_separate) (binary_result op t.type u.type)

-- a call: its target, then its actuals and its name
abbrev pub judge_call : RoutineContext → Context → Entities → Use → Target → Name → Exprs → Judged typing.Typing
judge_call h c n u a x es = do
  r ← judge_receiver h c n a
  judge_called h c n u a x (judged_actuals h c n es) r

-- the entities that are known then are those that judging gives
abbrev pub Knows : Judged Entities → Result Unit CheckFault → Entities → Type 0
Knows j (Ok u) m = j ≡ Ok m
Knows j (Err e) m = Faults j e
