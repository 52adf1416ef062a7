-- Pure functions: those that contracts and `check` may call.
use Rattle.std.specs.Prelude.{◌≡◌, ℕ, Bool, true, false, not, ◌&&◌, List, [], ◌∷◌, ◌++◌, Option, Some, None, is_some}
use Rattle.std.specs.List.{list_all}
use Rattle.sc_text.specs.declared.token.Span.{Span}
use Rattle.sc_tree.specs.declared.expression.BinaryOperator.{BinaryOperator}
use Rattle.sc_tree.specs.Plain.{System, Declaration, DeclaredType, FeatureKind, RoutineDeclaration, Attribute, Routine, Head, Name, Variable, Creation, Expr, Call, Binary, ObjectTest, Target, target, Exprs, Assign, PrintText, CallRoutine, Create, Conditional, if_instr, SeparateBlock, block_instr, Instrs, Branches, branch_then}
use Rattle.sc_class.specs.declared.identity.ClassId.TheVariants as class
use Rattle.sc_class.specs.Tables.Conformance.{is_ancestor}
use Rattle.sc_class.specs.Tables.Features.{DeclaredFeature, declared_features, named_among, feature_named}
use Rattle.sc_rules.specs.declared.entity_types.entity_type.EntityType.{EntityType}
use Rattle.sc_rules.specs.declared.position.Context.{Context}
use Rattle.sc_rules.specs.declared.position.Context.TheVariants as context
use Rattle.sc_rules.specs.declared.position.Position.{Position}
use Rattle.sc_rules.specs.declared.position.Position.TheVariants.{Plain, Condition}
use Rattle.sc_rules.specs.declared.position.Role.TheVariants as role
use Rattle.sc_rules.specs.Positions.{is_and_then, shares_names, may_give}
use Rattle.sc_rules.specs.Types.{is_own}
use Rattle.sc_rules.specs.Names.{RoutineName, RoutineContext, context_of, Entities, entity, test_type, blocks, block_type, known_in_body, routine_of, Signature, named, meaning_of, assignee, to_attribute}
use Rattle.sc_rules.specs.Typing.{Typing, is_foreign_type, HasType, HasReceiver}
use Rattle.sc_rules.specs.Sites.{Site, expression, instruction, instructions, branches, Part}

-- an attached separate formal: the routine reserves its handler
abbrev pub reserves : Declaration → Bool
reserves d = not d.declared_type.is_detachable && not (is_own d.declared_type.tag)

-- a function with no attached separate formal: it may be pure
abbrev pub is_pure_candidate : FeatureKind → Bool
is_pure_candidate (Routine routine) = is_some routine.result_type && list_all (λ d. not (reserves d)) routine.formals
is_pure_candidate (Attribute t) = false

-- the routine that the class at the number declares
abbrev pub routine_named : System → RoutineName → Option DeclaredFeature
routine_named s f = named_among f.name (declared_features s f.class)

abbrev pub is_pure_candidate_if_any : Option DeclaredFeature → Bool
is_pure_candidate_if_any None = false
is_pure_candidate_if_any (Some g) = is_pure_candidate g.feature.kind

-- The routine's body, and what it is judged by; its calls are looked at whatever they call, pure or not, and also
-- after a mistake, as far as they have a type.
pub data IsBody (s : System) (f : RoutineName) : RoutineContext → Site → Type 0 where
  body : {g : DeclaredFeature} {routine : RoutineDeclaration} → routine_named s f ≡ Some g →
      g.feature.kind ≡ Routine routine →
      IsBody s f (context_of s (λ g. true) f.class routine) (instructions (known_in_body s routine) routine.body)

-- ---- what stands behind a mistake

-- The expression's type, as far as it has one: none where a rule fails in it.
pub data HasTypeIfAny (h : RoutineContext) (c : Context) (n : Entities) (e : Expr) : Option EntityType → Type 0 where
  of_type : {t : Typing} → HasType h c Plain n e t → HasTypeIfAny h c n e t.type
  of_none : ((t : Typing) → HasType h c Plain n e t → ⊥) → HasTypeIfAny h c n e None

-- Where these entities are known and the condition holds, those are, whatever rule fails in it.
pub data GivesAnyway (h : RoutineContext) (c : Context) : Entities → Expr → Entities → Type 0 where
  by_test : {n : Entities} {s : Span} {d : Option DeclaredType} {a : Expr} {x : Name} {t : Option EntityType} →
      HasTypeIfAny h c n a t →
      GivesAnyway h c n (ObjectTest s d a x) (n ++ entity x.text (test_type h d t) role.Test ∷ [])
  by_both : {n m o : Entities} {s : Span} {op : BinaryOperator} {a b : Expr} → is_and_then op ≡ true →
      GivesAnyway h c n a m → GivesAnyway h c m b o →
      GivesAnyway h c n (Binary s op a b) o
  nothing : {n : Entities} {e : Expr} → may_give e ≡ false → GivesAnyway h c n e n

-- The heads of a separate block give these names, whatever rule fails in them.
pub data ReservesAnyway (h : RoutineContext) (n : Entities) : Entities → List Head → Entities → Type 0 where
  no_more : {m : Entities} → ReservesAnyway h n m [] m
  one_more : {m o : Entities} {d : Head} {ds : List Head} {t : Option EntityType} →
      HasTypeIfAny h context.Body n d.value t →
      ReservesAnyway h n (m ++ entity d.name.text (block_type (blocks m) t) role.Block ∷ []) ds o →
      ReservesAnyway h n m (d ∷ ds) o

-- The second is a part of the first, whatever rule fails before it.
pub data PartAnyway (h : RoutineContext) : Site → Site → Type 0 where
  part : {a b : Site} → Part h a b → PartAnyway h a b
  held_part : {c : Context} {k : Position} {n m : Entities} {s : Span} {op : BinaryOperator} {a b : Expr} →
      shares_names k op ≡ true → GivesAnyway h c n a m →
      PartAnyway h (expression c k n (Binary s op a b)) (expression c Condition m b)
  then_part : {n m : Entities} {s : Span} {choice : Conditional} → GivesAnyway h context.Body n choice.condition m →
      PartAnyway h (instruction n (if_instr s choice)) (instructions m choice.body)
  branch_part : {n m : Entities} {e : Expr} {body : Instrs} {bs : Branches} → GivesAnyway h context.Body n e m →
      PartAnyway h (branches n (branch_then e body bs)) (instructions m body)
  block_part : {n m : Entities} {s : Span} {block : SeparateBlock} → ReservesAnyway h n n block.heads m →
      PartAnyway h (instruction n (block_instr s block)) (instructions m block.body)

-- The second is in the first, whatever rule fails before it.
pub data WithinAnyway (h : RoutineContext) : Site → Site → Type 0 where
  itself : {a : Site} → WithinAnyway h a a
  inside : {a b c : Site} → PartAnyway h a b → WithinAnyway h b c → WithinAnyway h a c

-- ---- what a routine does

-- It is a call of this name on this target.
pub data IsCall : Site → Context → Entities → Target → Name → Type 0 where
  as_value : {c : Context} {k : Position} {n : Entities} {s : Span} {t : Target} {x : Name} {es : Exprs} →
      IsCall (expression c k n (Call s t x es)) c n t x
  as_instruction : {n : Entities} {s : Span} {t : Target} {x : Name} {es : Exprs} →
      IsCall (instruction n (CallRoutine s t x es)) context.Body n t x

-- The feature is called there. A call on a target without a type calls nothing.
pub data Calls (h : RoutineContext) (a : Site) (g : Signature) : Type 0 where
  calls : {c : Context} {n : Entities} {t : Target} {x : Name} {r : Typing} → IsCall a c n t x → HasReceiver h c n t r →
      meaning_of h n t r.type x ≡ named g → Calls h a g

-- It does what no pure function does: it assigns an attribute, makes an object, prints, opens a separate block,
-- calls a procedure, or makes a separate call.
pub data HasSideEffect (h : RoutineContext) : Site → Type 0 where
  assigns : {n : Entities} {s : Span} {v : Variable} {e : Expr} {t : Option EntityType} →
      assignee h n v ≡ to_attribute t →
      HasSideEffect h (instruction n (Assign s v e))
  creates : {n : Entities} {s : Span} {creation : Creation} → HasSideEffect h (instruction n (Create s creation))
  prints : {n : Entities} {s : Span} {x : List ℕ} → HasSideEffect h (instruction n (PrintText s x))
  opens : {n : Entities} {s : Span} {block : SeparateBlock} → HasSideEffect h (instruction n (block_instr s block))
  calls_procedure : {a : Site} {g : Signature} → Calls h a g → g.gives ≡ None → HasSideEffect h a
  calls_separately : {a : Site} {c : Context} {n : Entities} {b : Expr} {x : Name} {t : Typing} →
      IsCall a c n (target b) x → HasType h c Plain n b t →
      is_foreign_type t.type ≡ true → HasSideEffect h a

-- The routine itself isn't pure, whatever it calls.
pub data ImpureItself (s : System) (f : RoutineName) : Type 0 where
  no_candidate : is_pure_candidate_if_any (routine_named s f) ≡ false → ImpureItself s f
  has_side_effect : {h : RoutineContext} {a b : Site} → IsBody s f h a → WithinAnyway h a b → HasSideEffect h b →
      ImpureItself s f

-- The first may run the second: its body calls it, or an heir's feature of this name is the second, so that it
-- redefines the first.
pub data MayRun (s : System) (f g : RoutineName) : Type 0 where
  by_call : {h : RoutineContext} {a b : Site} {k : Signature} → IsBody s f h a → WithinAnyway h a b → Calls h b k →
      k.routine ≡ Some g → MayRun s f g
  by_redefinition : (j : ℕ) {d : DeclaredFeature} → is_ancestor s j f.class ≡ true →
      feature_named s (class.Declared j) f.name ≡ Some d →
      g ≡ routine_of d → MayRun s f g

-- each of the set is a function that isn't impure itself and may run functions of the set alone
abbrev pub IsClosed : System → (RoutineName → Bool) → Type 0
IsClosed s set = (f : RoutineName) → set f ≡ true → (ImpureItself s f → ⊥) ×
    ((g : RoutineName) → MayRun s f g → set g ≡ true)

-- A function is pure if it is in some closed set, so in the largest.
abbrev pub Pure : System → RoutineName → Type 0
Pure s f = (set : RoutineName → Bool) × IsClosed s set × (set f ≡ true)

-- It isn't pure if it has a side effect itself, or may run one that isn't pure.
pub data Impure (s : System) : RoutineName → Type 0 where
  by_itself : {f : RoutineName} → ImpureItself s f → Impure s f
  through : {f g : RoutineName} → MayRun s f g → Impure s g → Impure s f

-- the test separates the pure functions from all others
abbrev pub IsPurity : System → (RoutineName → Bool) → Type 0
IsPurity s pure = (f : RoutineName) → (pure f ≡ true → Pure s f) × (pure f ≡ false → Impure s f)
