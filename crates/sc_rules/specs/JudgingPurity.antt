-- The effects in a routine's body that bear on purity, as a list, by one walk over it. The definition of purity is
-- `Purity`, which a proof compares with these lists.
use Rattle.std.specs.Prelude.{◌≡◌, ℕ, Bool, true, false, not, ◌||◌, if◌then◌else◌, List, [], ◌∷◌, ◌++◌, Option, Some, None, is_some}
use Rattle.std.specs.List.{flat_map, list_any}
use Rattle.sc_tree.specs.Plain as plain
use Rattle.sc_tree.specs.Plain.{System, Clause, Head, Name, Variable, CreationCall, Expr, Integer, Boolean, Void, Current, Call, Unary, Binary, ObjectTest, Target, no_target, target, Exprs, no_exprs, expr_then, Instr, Assign, PrintText, CallRoutine, Create, If, Loop, Check, Block, Instrs, no_instrs, instr_then, Branches, no_branches, branch_then, FeatureKind, Attribute, Routine}
use Rattle.sc_class.specs.Tables.Conformance.{is_ancestor}
use Rattle.sc_class.specs.Tables.Features.{DeclaredFeature}
use Rattle.sc_rules.specs.declared.entity_types.entity_type.EntityType.{EntityType}
use Rattle.sc_rules.specs.declared.position.Context.{Context}
use Rattle.sc_rules.specs.declared.position.Context.TheVariants as context
use Rattle.sc_rules.specs.declared.position.Position.{Position}
use Rattle.sc_rules.specs.declared.position.Position.TheVariants.{Plain, Condition, Source}
use Rattle.sc_rules.specs.declared.position.Role.TheVariants as role
use Rattle.sc_rules.specs.Positions.{is_and_then, operand_context, operand_position, shares_names}
use Rattle.sc_rules.specs.Names.{RoutineName, RoutineContext, context_of, Entities, entity, test_type, blocks, block_type, known_in_body, Signature, Meaning, unknown, target_untyped, named, current, meaning_of, Assignee, unknown_assignee, unassignable, to_local, to_attribute, assignee}
use Rattle.sc_rules.specs.Typing.{is_foreign_type}
use Rattle.sc_rules.specs.Sites.{Site, expression, instruction, instructions, branches}
use Rattle.sc_rules.specs.Purity.{routine_named, is_pure_candidate_if_any, WithinAnyway, Calls, HasSideEffect}
use Rattle.sc_rules.specs.Judging.{judged_type, judge}

-- What bears on purity: a side effect, which no pure function has, or a call of a routine.
pub data Effect : Type 0 where
  side_effect : Effect
  routine_call : RoutineName → Effect

abbrev pub side_effect_if : Bool → List Effect
side_effect_if false = []
side_effect_if true = side_effect ∷ []

abbrev pub call_if_any : Option RoutineName → List Effect
call_if_any None = []
call_if_any (Some f) = routine_call f ∷ []

-- a call of what is meant
abbrev pub effects_of_meaning : Meaning → List Effect
effects_of_meaning unknown = []
effects_of_meaning target_untyped = []
effects_of_meaning (named g) = side_effect_if (not (is_some g.gives)) ++ call_if_any g.routine

-- the type of a target, as far as it has one
abbrev pub receiver_type : RoutineContext → Context → Entities → Target → Option EntityType
receiver_type h c n no_target = Some (current h)
receiver_type h c n (target a) = judged_type (judge h c Plain n a)

-- a call of the name on a target of this type
abbrev pub effects_of_name : RoutineContext → Entities → Target → Option EntityType → Name → List Effect
effects_of_name h n a t x = side_effect_if (is_foreign_type t) ++ effects_of_meaning (meaning_of h n a t x)

abbrev pub effects_of_call : RoutineContext → Context → Entities → Target → Name → List Effect
effects_of_call h c n a x = effects_of_name h n a (receiver_type h c n a) x

abbrev pub is_to_attribute : Assignee → Bool
is_to_attribute unknown_assignee = false
is_to_attribute unassignable = false
is_to_attribute (to_local t) = false
is_to_attribute (to_attribute t) = true

-- the entities that are known where the condition holds, whatever rule fails in it
abbrev pub given_anyway : RoutineContext → Context → Entities → Expr → Entities
given_anyway h c n (ObjectTest p d a x) =
    n ++ entity x.text (test_type h d (judged_type (judge h c Plain n a))) role.Test ∷ []
given_anyway h c n (Binary p op a b) = if is_and_then op then given_anyway h c (given_anyway h c n a) b else n
given_anyway h c n _ = n

-- the entities that are in scope in the body of a block with these heads, with those before in scope in m
abbrev pub reserved_anyway : RoutineContext → Entities → Entities → List Head → Entities
reserved_anyway h n m [] = m
reserved_anyway h n m (d ∷ ds) =
    let t = judged_type (judge h context.Body Plain n d.value) in
    reserved_anyway h n (m ++ entity d.name.text (block_type (blocks m) t) role.Block ∷ []) ds

unfoldable mutual
  pub effects : RoutineContext → Context → Position → Entities → Expr → List Effect
  effects h c k n (Integer p v) = []
  effects h c k n (Boolean p v) = []
  effects h c k n (Void p) = []
  effects h c k n (Current p) = []
  effects h c k n (plain.Result p) = []
  effects h c k n (Call p a x es) =
      effects_of_target h c n a ++ (effects_of_actuals h c n es ++ effects_of_call h c n a x)
  effects h c k n (Unary p op a) = effects h (operand_context op c) Plain n a
  effects h c k n (Binary p op a b) =
      if shares_names k op
      then effects h c Condition n a ++ effects h c Condition (given_anyway h c n a) b
      else effects h c (operand_position op) n a ++ effects h c (operand_position op) n b
  effects h c k n (ObjectTest p d a x) = effects h c Plain n a

  pub effects_of_target : RoutineContext → Context → Entities → Target → List Effect
  effects_of_target h c n no_target = []
  effects_of_target h c n (target a) = effects h c Plain n a

  pub effects_of_actuals : RoutineContext → Context → Entities → Exprs → List Effect
  effects_of_actuals h c n no_exprs = []
  effects_of_actuals h c n (expr_then e es) = effects h c Source n e ++ effects_of_actuals h c n es

-- the actuals of a creation
abbrev pub effects_of_creation : RoutineContext → Entities → Option CreationCall → List Effect
effects_of_creation h n None = []
effects_of_creation h n (Some k) = effects_of_actuals h context.Body n k.actuals

abbrev pub effects_of_clauses : RoutineContext → Entities → List Clause → List Effect
effects_of_clauses h n ks = flat_map (λ k. effects h context.Check Plain n k.condition) ks

abbrev pub effects_of_heads : RoutineContext → Entities → List Head → List Effect
effects_of_heads h n ds = flat_map (λ d. effects h context.Body Plain n d.value) ds

unfoldable mutual
  pub effects_of_instr : RoutineContext → Entities → Instr → List Effect
  effects_of_instr h n (Assign p v e) =
      side_effect_if (is_to_attribute (assignee h n v)) ++ effects h context.Body Source n e
  effects_of_instr h n (PrintText p x) = side_effect ∷ []
  effects_of_instr h n (CallRoutine p a x es) =
      effects_of_target h context.Body n a ++
      (effects_of_actuals h context.Body n es ++ effects_of_call h context.Body n a x)
  effects_of_instr h n (Create p creation) = side_effect ∷ effects_of_creation h n creation.call
  effects_of_instr h n (If p condition body elseifs other) =
      effects h context.Body Condition n condition ++
      (effects_of_instrs h (given_anyway h context.Body n condition) body ++
      (effects_of_branches h n elseifs ++ effects_of_instrs h n other))
  effects_of_instr h n (Loop p initial until body) =
      effects_of_instrs h n initial ++ (effects h context.Body Plain n until ++ effects_of_instrs h n body)
  effects_of_instr h n (Check p ks) = effects_of_clauses h n ks
  effects_of_instr h n (Block p heads body) =
      side_effect ∷ (effects_of_heads h n heads ++ effects_of_instrs h (reserved_anyway h n n heads) body)

  pub effects_of_instrs : RoutineContext → Entities → Instrs → List Effect
  effects_of_instrs h n no_instrs = []
  effects_of_instrs h n (instr_then i is) = effects_of_instr h n i ++ effects_of_instrs h n is

  pub effects_of_branches : RoutineContext → Entities → Branches → List Effect
  effects_of_branches h n no_branches = []
  effects_of_branches h n (branch_then e body bs) =
      effects h context.Body Condition n e ++
      (effects_of_instrs h (given_anyway h context.Body n e) body ++ effects_of_branches h n bs)

-- what is done at the site, and in its parts
abbrev pub effects_at : RoutineContext → Site → List Effect
effects_at h (expression c k n e) = effects h c k n e
effects_at h (instruction n i) = effects_of_instr h n i
effects_at h (instructions n is) = effects_of_instrs h n is
effects_at h (branches n bs) = effects_of_branches h n bs

-- ---- a routine

-- the body of a routine of the class at the number
abbrev pub effects_of_kind : System → ℕ → FeatureKind → List Effect
effects_of_kind s k (Attribute t) = []
effects_of_kind s k (Routine routine) = effects_of_instrs (context_of s (λ g. true) k routine)
    (known_in_body s routine) routine.body

abbrev pub effects_if_any : System → ℕ → Option DeclaredFeature → List Effect
effects_if_any s k None = []
effects_if_any s k (Some g) = effects_of_kind s k g.feature.kind

abbrev pub effects_of_routine : System → RoutineName → List Effect
effects_of_routine s f = effects_if_any s f.class (routine_named s f)

abbrev pub is_side_effect : Effect → Bool
is_side_effect side_effect = true
is_side_effect (routine_call g) = false

-- the routine isn't pure, whatever it calls
abbrev pub is_impure_itself : System → RoutineName → Bool
is_impure_itself s f =
    not (is_pure_candidate_if_any (routine_named s f)) || list_any is_side_effect (effects_of_routine s f)

-- ---- what the list means

pub data Lists {A : Type 0} (x : A) : List A → Type 0 where
  first : {xs : List A} → Lists x (x ∷ xs)
  later : {y : A} {xs : List A} → Lists x xs → Lists x (y ∷ xs)

-- The effect is done right there.
pub data HasEffect (h : RoutineContext) (a : Site) : Effect → Type 0 where
  of_side_effect : HasSideEffect h a → HasEffect h a side_effect
  of_routine_call : {g : Signature} {f : RoutineName} → Calls h a g → g.routine ≡ Some f →
      HasEffect h a (routine_call f)

-- It is done there or in a part.
pub record HasEffectWithin (h : RoutineContext) (a : Site) (d : Effect) : Type 0 where
  pub site : Site
  pub within : WithinAnyway h a site
  pub does : HasEffect h site d

-- The first may run the second, as the list of the first one's effects or the declarations of their classes say: the
-- second is called, or has the name of one that is and is declared in an heir.
pub data RunsInto (s : System) (f g : RoutineName) : Type 0 where
  called : Lists (routine_call g) (effects_of_routine s f) → RunsInto s f g
  redeclared : is_ancestor s g.class f.class ≡ true → f.name ≡ g.name → is_some (routine_named s f) ≡ true →
      is_some (routine_named s g) ≡ true → RunsInto s f g
