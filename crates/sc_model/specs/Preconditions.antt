-- The verdict on a precondition that is false: the entry waits, or its request is refused, or its handler fails.
use Rattle.std.specs.Prelude.{ℕ, ◌+◌, Bool, true, false, not, ◌&&◌, List, [], ◌∷◌, ◌++◌, Option, Some, None, if◌then◌else◌}
use Rattle.std.specs.List.{filter_map}
use Rattle.std.specs.Option.{option_and_then}
use Rattle.sc_tree.specs.Plain.{System, Clause, Expr, Unary, Binary, ObjectTest, Call, no_target, target, Exprs, no_exprs, expr_then}
use Rattle.sc_lockpass.specs.wait_conditions.Conditions.{clause_kind, verdict_of_false}
use Rattle.sc_lockpass.specs.wait_conditions.Reservations.{mark_of}
use Rattle.sc_lockpass.specs.declared.wait_conditions.condition.EntryVerdict.{EntryVerdict}
use Rattle.sc_lockpass.specs.declared.wait_conditions.condition.EntryVerdict.TheVariants as verdict
use Rattle.sc_lockpass.specs.declared.wait_conditions.session.Release.TheVariants as release_at
use Rattle.sc_model.specs.declared.cause.Cause.TheVariants as cause
use Rattle.sc_model.specs.Values.{handler_of}
use Rattle.sc_model.specs.Environments.{Binding, binding_named, is_formal}
use Rattle.sc_model.specs.Objects.{Object, object_numbered}
use Rattle.sc_model.specs.Invariants.{meets_invariant}
use Rattle.sc_model.specs.Tasks.{tasks_of}
use Rattle.sc_model.specs.Handlers.{Errand, Calls, Makes, Request, Refused, Origin, Called, Requested, Reserves, Frame, Handler, World, put, with_stack}
use Rattle.sc_model.specs.Sessions.{release}
use Rattle.sc_model.specs.Answers.{finish}
use Rattle.sc_model.specs.Failures.{fail}

-- ---- wait conditions

-- the names without a target in an expression
abbrev mutual
  pub names_in : Expr → List (List ℕ)
  names_in (Call s no_target x es) = x.text ∷ names_in_each es
  names_in (Call s (target a) x es) = names_in a ++ names_in_each es
  names_in (Unary s op a) = names_in a
  names_in (Binary s op a b) = names_in a ++ names_in b
  names_in (ObjectTest s d a x) = names_in a
  names_in e = []

  pub names_in_each : Exprs → List (List ℕ)
  names_in_each no_exprs = []
  names_in_each (expr_then e es) = names_in e ++ names_in_each es

abbrev pub handler_of_formal : Binding → Option (Option ℕ)
handler_of_formal b = if is_formal b.role then Some (handler_of b.value) else None

-- the handlers of the formals of these names
abbrev pub formals_among : List Binding → List (List ℕ) → List (Option ℕ)
formals_among bs xs = filter_map (λ x. option_and_then handler_of_formal (binding_named x bs)) xs

-- what comes of the clause, which is false
abbrev pub verdict_on : Frame → Clause → EntryVerdict
verdict_on f k = verdict_of_false (clause_kind f.reserved (formals_among f.environment (names_in k.condition)))

-- ---- what comes of it

-- The entry waits: all that it newly reserved is released, and it begins anew with its reserve step.
abbrev pub waits_again : ℕ → Frame → List Frame → World → World
waits_again h f below w =
    release release_at.FalseWaitCondition f.reserved
    (with_stack h (record f {
      stage = Reserves;
      tasks = tasks_of f.routine;
      values = [];
      reserved = [];
      mark = mark_of (λ k. (w.handlers k).sessions) f.reserved;
    } ∷ below) w)

abbrev pub is_creation : Errand → Bool
is_creation (Calls x) = false
is_creation (Makes k) = true

abbrev pub object_meets : System → Option Object → Bool
object_meets s None = false
object_meets s (Some o) = meets_invariant s o

-- a refusal is counted if no handler waits
abbrev pub counted_refusal : Bool → Handler → Handler
counted_refusal true x = x
counted_refusal false x = record x { refused = x.refused + 1 }

-- The request is refused. A creation's object stays, so it must meet its invariant.
abbrev pub refuses : System → ℕ → Request → Frame → List Frame → World → World
refuses s h r f below w =
    if is_creation r.errand && not (object_meets s (object_numbered f.current.number (w.handlers h).objects))
    then fail h cause.Invariant w
    else finish r Refused (release release_at.Refusal f.reserved
    (put h (counted_refusal r.is_waited (record (w.handlers h) { stack = below })) w))

abbrev pub correctness_fails : System → ℕ → Origin → Frame → List Frame → World → World
correctness_fails s h (Called c) f below w = fail h cause.Precondition w
correctness_fails s h (Requested r) f below w = refuses s h r f below w

abbrev pub false_clause : EntryVerdict → System → ℕ → Frame → List Frame → World → World
false_clause verdict.Wait s h f below w = waits_again h f below w
false_clause verdict.Refuse s h f below w = correctness_fails s h f.origin f below w
false_clause verdict.Start s h f below w = fail h cause.BadCode w
