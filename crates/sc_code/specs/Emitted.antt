-- The flat code of a routine.
use Rattle.std.specs.Prelude.{ℕ, suc, ◌+◌, List, [], ◌∷◌, ◌++◌, Bool, true, false, ◌||◌, Option, Some, None, bytes_eq, slice_get, length, map, max, if◌then◌else◌}
use Rattle.std.specs.List.{filter_map}
use Rattle.std.specs.Option.{option_map}
use Rattle.sc_tree.specs.declared.expression.UnaryOperator.TheVariants as unary
use Rattle.sc_tree.specs.declared.expression.BinaryOperator.{BinaryOperator}
use Rattle.sc_tree.specs.Plain as tree
use Rattle.sc_tree.specs.Plain.{System, Declaration, DeclaredType, FeatureKind, Name, Variable, Named, ResultVariable, CreationCall, Expr, Exprs, no_exprs, expr_then, Head, Clause, Instr, Instrs, no_instrs, instr_then, Branches, no_branches, branch_then}
use Rattle.sc_class.specs.declared.identity.ClassId.{ClassId}
use Rattle.sc_class.specs.declared.identity.ClassId.TheVariants as class
use Rattle.sc_tree.specs.Properties.{is_print}
use Rattle.sc_class.specs.Tables.Features.{DeclaredFeature, feature_named}
use Rattle.sc_rules.specs.declared.entity_types.tag.Tag.{Tag}
use Rattle.sc_rules.specs.declared.entity_types.tag.Tag.TheVariants as tag
use Rattle.sc_rules.specs.declared.entity_types.tag.Reserved.TheVariants.{Formal, BlockName}
use Rattle.sc_rules.specs.declared.entity_types.entity_type.EntityType.{EntityType}
use Rattle.sc_rules.specs.CallRules.{count}
use Rattle.sc_rules.specs.Names.{Entity, Entities, FormalType, Signature, Assignee, to_local, to_attribute, assignee, assignee_type, current, given_type, signature_of, test_type, formals_known, qualified_meaning, is_block}
use Rattle.sc_model.specs.declared.cause.Cause.TheVariants as cause
use Rattle.sc_model.specs.Environments.{Binding, scope_of, locals_bound, is_formal}
use Rattle.sc_model.specs.Operators.{is_short}
use Rattle.sc_model.specs.Routines.{Text, Routine}
use Rattle.sc_model.specs.Olds.{olds_in, olds_of_clauses}
use Rattle.sc_model.specs.Preconditions.{names_in}
use Rattle.sc_model.specs.Calls.{passes_one}
use Rattle.sc_model.specs.Creations.{formals_meant}
use Rattle.sc_model.specs.Instructions.{actuals_of, procedure_of}
use Rattle.sc_code.specs.Operations.{Operation, Residence, OnCurrent, WithSlot, Anywhere, Nowhere, TestedType, CallSite, PushInteger, PushBoolean, PushVoid, PushCurrent, PushResult, PushSlot, PushAttribute, PushOld, ApplyUnary, ApplyBinary, Decide, Conclude, Test, CallRoutine, CallFeature, StoreSlot, StoreAttribute, StoreResult, Initialize, KeepOld, Print, PrintText, SkipIfFalse, Jump, EndLoop, Expect, Demand, Start, Create, CreateHandler, Open, Leave, Exit}
use Rattle.sc_code.specs.Places.{Setting, here, slot_named, known_type, expr_type, exprs_types, head_types, with_old, old_types, names_given, with_heads}

-- ---- object tests

-- the slots of the names of separate blocks
abbrev pub block_slots : Entities → List ℕ
block_slots [] = []
block_slots (e ∷ n) = if is_block e.role then 0 ∷ map (λ k. suc k) (block_slots n) else map (λ k. suc k) (block_slots n)

-- that of a formal, if the entity of this number is one
abbrev pub formal_at : ℕ → Option Entity → Option ℕ
formal_at i None = None
formal_at i (Some e) = if is_formal e.role then Some i else None

abbrev pub with_slot : Option ℕ → Residence
with_slot None = Nowhere
with_slot (Some k) = WithSlot k

-- where an object with this tag lies
abbrev pub residence : Entities → Tag → Residence
residence n tag.Own = OnCurrent
residence n tag.Any = Anywhere
residence n tag.None = Nowhere
residence n (tag.With (Formal i)) = with_slot (formal_at i (slice_get n i))
residence n (tag.With (BlockName j)) = with_slot (slice_get (block_slots n) j)

abbrev pub tested_type : Entities → EntityType → TestedType
tested_type n t = record { class = t.class; residence = residence n t.tag }

-- what is tested: only that there is an object, if no type is named
abbrev pub tested : Setting → Entities → Option DeclaredType → Option TestedType
tested h n None = None
tested h n (Some d) = option_map (tested_type n) (test_type (here h) (Some d) None)

-- ---- calls

-- whether the value of a call has an attached type, if it has a value
abbrev pub gives_of : Option (Option EntityType) → Option Bool
gives_of g = option_map (λ (t : EntityType). t.attached) (known_type g)

abbrev pub types_pass : List FormalType → List EntityType → Bool
types_pass [] ts = false
types_pass (f ∷ fs) [] = false
types_pass (f ∷ fs) (t ∷ ts) = passes_one f t || types_pass fs ts

abbrev pub is_own : Tag → Bool
is_own tag.Own = true
is_own (tag.With y) = false
is_own tag.Any = false
is_own tag.None = false

abbrev pub site_of : List ℕ → ℕ → EntityType → List EntityType → Signature → CallSite
site_of x c t ts g =
    record { name = x; count = c; gives = gives_of g.gives; is_own = is_own t.tag; passes = types_pass g.formals ts }

-- a call of this feature after a target of this type
abbrev pub call_code : (CallSite → Operation) → System → List ℕ → ℕ → EntityType → List EntityType →
    Option DeclaredFeature → List Operation
call_code op s x c t ts None = []
call_code op s x c t ts (Some f) = op (site_of x c t ts (signature_of s t f)) ∷ []

-- a routine of Current
abbrev pub routine_call : Setting → List ℕ → ℕ → List EntityType → List Operation
routine_call h x c ts =
    call_code CallRoutine h.system x c (current (here h)) ts (feature_named h.system (class.Declared h.text.class) x)

-- a feature of a target of this type
abbrev pub feature_call : Setting → List ℕ → ℕ → Option EntityType → List EntityType → List Operation
feature_call h x c None ts = []
feature_call h x c (Some t) ts = call_code CallFeature h.system x c t ts (feature_named h.system t.class x)

-- ---- expressions

abbrev pub attribute_code : List ℕ → Option EntityType → List Operation
attribute_code x None = []
attribute_code x (Some t) = PushAttribute x t.attached ∷ []

-- an attribute of Current is read, a routine called with these actuals
abbrev pub kind_code : Setting → List ℕ → List Operation → List Operation → FeatureKind → List Operation
kind_code h x actuals call (tree.Attribute d) = attribute_code x (given_type h.system (current (here h)) d)
kind_code h x actuals call (tree.Routine r) = actuals ++ call

-- an entity is read, or else a feature of Current called
abbrev pub name_code : Setting → List ℕ → List Operation → List Operation → Option (ℕ × Option EntityType) →
    Option DeclaredFeature → List Operation
name_code h x actuals call (Some (k, Some t)) f = PushSlot k t.attached ∷ []
name_code h x actuals call (Some (k, None)) f = []
name_code h x actuals call None None = []
name_code h x actuals call None (Some f) = kind_code h x actuals call f.feature.kind

abbrev pub result_code : Option EntityType → List Operation
result_code None = []
result_code (Some t) = PushResult t.attached ∷ []

-- a semistrict operator passes its right operand where the left one decides
abbrev pub right_code : BinaryOperator → List Operation → List Operation
right_code op b = if is_short op then Decide op (length b + 1) ∷ (b ++ Conclude ∷ []) else b ++ ApplyBinary op ∷ []

abbrev mutual
  pub expr_code : Setting → Entities → ℕ → Expr → List Operation
  expr_code h n i (tree.Integer q z) = PushInteger z ∷ []
  expr_code h n i (tree.Boolean q b) = PushBoolean b ∷ []
  expr_code h n i (tree.Void q) = PushVoid ∷ []
  expr_code h n i (tree.Current q) = PushCurrent ∷ []
  expr_code h n i (tree.Result q) = result_code h.result
  expr_code h n i (tree.Call q tree.no_target x es) =
      name_code h x.text (exprs_code h n i es) (routine_call h x.text (count es) (exprs_types h n i es))
      (slot_named x.text n)
      (feature_named h.system (class.Declared h.text.class) x.text)
  expr_code h n i (tree.Call q (tree.target a) x es) =
      expr_code h n i a ++ (exprs_code h n (i + olds_in a) es
      ++ feature_call h x.text (count es) (expr_type h n i a) (exprs_types h n (i + olds_in a) es))
  expr_code h n i (tree.Unary q unary.Old a) = PushOld i ∷ []
  expr_code h n i (tree.Unary q op a) = expr_code h n i a ++ ApplyUnary op ∷ []
  expr_code h n i (tree.Binary q op a b) =
      expr_code h n i a ++ right_code op (expr_code h (names_given h n i a) (i + olds_in a) b)
  expr_code h n i (tree.ObjectTest q d a x) = expr_code h n i a ++ Test (tested h n d) (length n) ∷ []

  pub exprs_code : Setting → Entities → ℕ → Exprs → List Operation
  exprs_code h n i no_exprs = []
  exprs_code h n i (expr_then e es) = expr_code h n i e ++ exprs_code h n (i + olds_in e) es

-- ---- instructions

-- the last value becomes the variable's
abbrev pub store_code : Variable → Assignee → Option (ℕ × Option EntityType) → List Operation
store_code (Named x) (to_local t) (Some (k, u)) = StoreSlot k ∷ []
store_code (Named x) (to_attribute t) found = StoreAttribute x.text ∷ []
store_code (ResultVariable q) (to_local (Some t)) found = StoreResult ∷ []
store_code v a found = []

abbrev pub variable_slot : Variable → Entities → Option (ℕ × Option EntityType)
variable_slot (Named x) n = slot_named x.text n
variable_slot (ResultVariable q) n = None

abbrev pub assign_code : Setting → Entities → Variable → List Operation
assign_code h n v = store_code v (assignee (here h) n v) (variable_slot v n)

abbrev pub creation_passes : Setting → EntityType → Option (List ℕ) → List EntityType → Bool
creation_passes h t None ts = false
creation_passes h t (Some x) ts = types_pass (formals_meant (qualified_meaning (here h) t x)) ts

-- an object of the current handler, or of a new one
abbrev pub creation_code : Setting → Option (List ℕ) → ℕ → List EntityType → EntityType → Tag → ClassId → List Operation
creation_code h p c ts t tag.Own (class.Declared k) =
    Create (record { class = k; procedure = p; count = c; passes = false }) ∷ []
creation_code h p c ts t tag.Any (class.Declared k) =
    CreateHandler (record { class = k; procedure = p; count = c; passes = creation_passes h t p ts }) ∷ []
creation_code h p c ts t g k = []

abbrev pub create_code : Setting → Option (List ℕ) → ℕ → List EntityType → Option EntityType → List Operation
create_code h p c ts None = []
create_code h p c ts (Some t) = creation_code h p c ts t t.tag t.class

abbrev pub heads_code : Setting → Entities → List Head → List Operation
heads_code h n [] = []
heads_code h n (d ∷ ds) = expr_code h n 0 d.value ++ heads_code h n ds

abbrev pub checks_code : Setting → Entities → List Clause → List Operation
checks_code h n [] = []
checks_code h n (k ∷ ks) = expr_code h n 0 k.condition ++ Expect cause.Check ∷ checks_code h n ks

-- `print` of a value, or a routine of Current
abbrev pub instruction_call : Bool → List Operation → List Operation → List Operation
instruction_call true actuals call = actuals ++ Print ∷ []
instruction_call false actuals call = actuals ++ call

-- a choice, after its condition
abbrev pub branch_code : List Operation → List Operation → List Operation
branch_code body other = SkipIfFalse (length body + 1) ∷ (body ++ Jump (length other) ∷ other)

-- a loop, after the jump to its condition: so `EndLoop` alone goes back
abbrev pub loop_code : List Operation → List Operation → List Operation
loop_code body until = body ++ (until ++ EndLoop (length body + length until) ∷ [])

abbrev pub names_of : List Head → List Name
names_of ds = map (λ (d : Head). d.name) ds

abbrev mutual
  pub instr_code : Setting → Entities → Instr → List Operation
  instr_code h n (tree.Assign q v e) = expr_code h n 0 e ++ assign_code h n v
  instr_code h n (tree.PrintText q text) = PrintText text ∷ []
  instr_code h n (tree.CallRoutine q tree.no_target x es) =
      instruction_call (is_print x.text) (exprs_code h n 0 es) (routine_call h x.text (count es) (exprs_types h n 0 es))
  instr_code h n (tree.CallRoutine q (tree.target a) x es) =
      expr_code h n 0 a
      ++ (exprs_code h n 0 es ++ feature_call h x.text (count es) (expr_type h n 0 a) (exprs_types h n 0 es))
  instr_code h n (tree.Create q c) =
      exprs_code h n 0 (actuals_of c.call)
      ++ (create_code h (procedure_of c.call) (count (actuals_of c.call)) (exprs_types h n 0 (actuals_of c.call))
      (assignee_type (assignee (here h) n c.variable))
      ++ assign_code h n c.variable)
  instr_code h n (tree.If q e body bs other) =
      expr_code h n 0 e
      ++ branch_code (instrs_code h (names_given h n 0 e) body) (other_code h n bs (instrs_code h n other))
  instr_code h n (tree.Loop q initial e body) =
      instrs_code h n initial ++ Jump (length (instrs_code h n body))
      ∷ loop_code (instrs_code h n body) (expr_code h n 0 e)
  instr_code h n (tree.Check q ks) = checks_code h n ks
  instr_code h n (tree.Block q ds body) =
      heads_code h n ds ++ Open (length n) (length ds)
      ∷ (instrs_code h (with_heads (names_of ds) (head_types h n ds) n) body ++ Leave ∷ [])

  pub instrs_code : Setting → Entities → Instrs → List Operation
  instrs_code h n no_instrs = []
  instrs_code h n (instr_then i is) = instr_code h n i ++ instrs_code h n is

  -- the further conditions, and the code of the instructions under `else`
  pub other_code : Setting → Entities → Branches → List Operation → List Operation
  other_code h n no_branches other = other
  other_code h n (branch_then e body bs) other =
      expr_code h n 0 e ++ branch_code (instrs_code h (names_given h n 0 e) body) (other_code h n bs other)

-- ---- routines

-- the first of the name, where that is a formal
abbrev pub formal_slot : List ℕ → Entities → Option ℕ
formal_slot x [] = None
formal_slot x (e ∷ n) =
    if bytes_eq e.name x then (if is_formal e.role then Some 0 else None) else option_map (λ k. suc k) (formal_slot x n)

-- the slots of the formals that the clause names
abbrev pub formals_in : Entities → Clause → List ℕ
formals_in n k = filter_map (λ x. formal_slot x n) (names_in k.condition)

-- the clauses of a precondition from some on
abbrev pub clauses_code : Setting → Entities → List Clause → List Operation
clauses_code h n [] = Start ∷ []
clauses_code h n (k ∷ ks) = expr_code h n 0 k.condition ++ Demand (formals_in n k) ∷ clauses_code h n ks

abbrev pub require_code : Setting → Entities → List Clause → List Operation
require_code h n [] = []
require_code h n (k ∷ ks) = clauses_code h n (k ∷ ks)

abbrev pub olds_code : Setting → Entities → List Expr → List Operation
olds_code h n [] = []
olds_code h n (e ∷ es) = expr_code h n 0 e ++ KeepOld ∷ olds_code (with_old h (expr_type h n 0 e)) n es

abbrev pub declare_code : ℕ → List Binding → List Operation
declare_code k [] = []
declare_code k (b ∷ bs) = Initialize k b.value ∷ declare_code (suc k) bs

abbrev pub ensure_code : Setting → Entities → ℕ → List Clause → List Operation
ensure_code h n i [] = []
ensure_code h n i (k ∷ ks) =
    expr_code h n i k.condition ++ Expect cause.Postcondition ∷ ensure_code h n (i + olds_in k.condition) ks

-- a text of the routine, where these `old`s are kept
abbrev pub setting : System → Routine → Text → List EntityType → Setting
setting s r t olds = record { system = s; text = t; result = known_type r.text.result; olds = olds }

-- what the contract knows
abbrev pub formals_of : System → Routine → Entities
formals_of s r = formals_known s r.text.formals

abbrev pub locals_of : System → Routine → List Binding
locals_of s r = locals_bound s r.text.formals r.locals

-- the types of the `old`s of the postcondition
abbrev pub olds_of_routine : System → Routine → List EntityType
olds_of_routine s r = old_types (setting s r r.contract []) (formals_of s r) (olds_of_clauses r.ensure)

-- the precondition, and the `old`s
abbrev pub opening_code : System → Routine → List Operation
opening_code s r =
    require_code (setting s r r.contract []) (formals_of s r) r.require
    ++ olds_code (setting s r r.contract []) (formals_of s r) (olds_of_clauses r.ensure)

abbrev pub body_code : System → Routine → List Operation
body_code s r =
    instrs_code (setting s r r.text (olds_of_routine s r)) (formals_of s r ++ scope_of (locals_of s r)) r.body

abbrev pub closing_code : System → Routine → List Operation
closing_code s r = ensure_code (setting s r r.contract (olds_of_routine s r)) (formals_of s r) 0 r.ensure

-- A routine: its precondition, the `old`s, its locals' defaults, its body, its postcondition, and the exit.
abbrev pub routine_code : System → Routine → List Operation
routine_code s r =
    opening_code s r
    ++ (declare_code (length (formals_of s r)) (locals_of s r) ++ (body_code s r ++ (closing_code s r ++ Exit ∷ [])))

-- ---- how many operands are needed

abbrev pub kind_depth : ℕ → FeatureKind → ℕ
kind_depth d (tree.Attribute t) = 1
kind_depth d (tree.Routine r) = max 1 d

abbrev pub name_depth : ℕ → Option (ℕ × Option EntityType) → Option DeclaredFeature → ℕ
name_depth d (Some found) f = 1
name_depth d None None = 1
name_depth d None (Some f) = kind_depth d f.feature.kind

-- after the left operand's value, which a semistrict operator takes first
abbrev pub operand_depth : BinaryOperator → ℕ → ℕ
operand_depth op d = if is_short op then d else suc d

abbrev mutual
  pub expr_depth : Setting → Entities → ℕ → Expr → ℕ
  expr_depth h n i (tree.Call q tree.no_target x es) =
      name_depth (exprs_depth h n i es) (slot_named x.text n)
      (feature_named h.system (class.Declared h.text.class) x.text)
  expr_depth h n i (tree.Call q (tree.target a) x es) =
      max (expr_depth h n i a) (suc (exprs_depth h n (i + olds_in a) es))
  expr_depth h n i (tree.Unary q unary.Old a) = 1
  expr_depth h n i (tree.Unary q op a) = expr_depth h n i a
  expr_depth h n i (tree.Binary q op a b) =
      max (expr_depth h n i a) (operand_depth op (expr_depth h (names_given h n i a) (i + olds_in a) b))
  expr_depth h n i (tree.ObjectTest q d a x) = expr_depth h n i a
  expr_depth h n i (tree.Integer q z) = 1
  expr_depth h n i (tree.Boolean q b) = 1
  expr_depth h n i (tree.Void q) = 1
  expr_depth h n i (tree.Current q) = 1
  expr_depth h n i (tree.Result q) = 1

  -- of expressions one after the other, whose values stay
  pub exprs_depth : Setting → Entities → ℕ → Exprs → ℕ
  exprs_depth h n i no_exprs = 0
  exprs_depth h n i (expr_then e es) = max (expr_depth h n i e) (suc (exprs_depth h n (i + olds_in e) es))

abbrev pub heads_depth : Setting → Entities → List Head → ℕ
heads_depth h n [] = 0
heads_depth h n (d ∷ ds) = max (expr_depth h n 0 d.value) (suc (heads_depth h n ds))

-- of clauses, each of which is popped before the next one
abbrev pub clauses_depth : Setting → Entities → ℕ → List Clause → ℕ
clauses_depth h n i [] = 0
clauses_depth h n i (k ∷ ks) = max (expr_depth h n i k.condition) (clauses_depth h n (i + olds_in k.condition) ks)

-- of clauses that know no `old`
abbrev pub checks_depth : Setting → Entities → List Clause → ℕ
checks_depth h n [] = 0
checks_depth h n (k ∷ ks) = max (expr_depth h n 0 k.condition) (checks_depth h n ks)

abbrev pub olds_depth : Setting → Entities → List Expr → ℕ
olds_depth h n [] = 0
olds_depth h n (e ∷ es) = max (expr_depth h n 0 e) (olds_depth (with_old h (expr_type h n 0 e)) n es)

abbrev mutual
  pub instr_depth : Setting → Entities → Instr → ℕ
  instr_depth h n (tree.Assign q v e) = expr_depth h n 0 e
  instr_depth h n (tree.PrintText q text) = 0
  instr_depth h n (tree.CallRoutine q tree.no_target x es) = exprs_depth h n 0 es
  instr_depth h n (tree.CallRoutine q (tree.target a) x es) = max (expr_depth h n 0 a) (suc (exprs_depth h n 0 es))
  instr_depth h n (tree.Create q c) = max 1 (exprs_depth h n 0 (actuals_of c.call))
  instr_depth h n (tree.If q e body bs other) =
      max (expr_depth h n 0 e)
      (max (instrs_depth h (names_given h n 0 e) body) (max (branches_depth h n bs) (instrs_depth h n other)))
  instr_depth h n (tree.Loop q initial e body) =
      max (instrs_depth h n initial) (max (expr_depth h n 0 e) (instrs_depth h n body))
  instr_depth h n (tree.Check q ks) = checks_depth h n ks
  instr_depth h n (tree.Block q ds body) =
      max (heads_depth h n ds) (instrs_depth h (with_heads (names_of ds) (head_types h n ds) n) body)

  pub instrs_depth : Setting → Entities → Instrs → ℕ
  instrs_depth h n no_instrs = 0
  instrs_depth h n (instr_then i is) = max (instr_depth h n i) (instrs_depth h n is)

  pub branches_depth : Setting → Entities → Branches → ℕ
  branches_depth h n no_branches = 0
  branches_depth h n (branch_then e body bs) =
      max (expr_depth h n 0 e) (max (instrs_depth h (names_given h n 0 e) body) (branches_depth h n bs))

abbrev pub opening_depth : System → Routine → ℕ
opening_depth s r =
    max (checks_depth (setting s r r.contract []) (formals_of s r) r.require)
    (olds_depth (setting s r r.contract []) (formals_of s r) (olds_of_clauses r.ensure))

abbrev pub body_depth : System → Routine → ℕ
body_depth s r =
    instrs_depth (setting s r r.text (olds_of_routine s r)) (formals_of s r ++ scope_of (locals_of s r)) r.body

-- the greatest number of operands of a routine
abbrev pub routine_depth : System → Routine → ℕ
routine_depth s r =
    max (opening_depth s r)
    (max (body_depth s r) (clauses_depth (setting s r r.contract (olds_of_routine s r)) (formals_of s r) 0 r.ensure))

-- ---- how many slots are needed

-- by a condition, whose object tests are known one after the other
abbrev pub expr_slots : Setting → Entities → ℕ → Expr → ℕ
expr_slots h n i (tree.ObjectTest q d a x) = suc (length n)
expr_slots h n i (tree.Binary q op a b) =
    max (expr_slots h n i a) (expr_slots h (names_given h n i a) (i + olds_in a) b)
expr_slots h n i e = 0

abbrev mutual
  pub instr_slots : Setting → Entities → Instr → ℕ
  instr_slots h n (tree.Assign q v e) = 0
  instr_slots h n (tree.PrintText q text) = 0
  instr_slots h n (tree.CallRoutine q t x es) = 0
  instr_slots h n (tree.Create q c) = 0
  instr_slots h n (tree.If q e body bs other) =
      max (expr_slots h n 0 e)
      (max (instrs_slots h (names_given h n 0 e) body) (max (branches_slots h n bs) (instrs_slots h n other)))
  instr_slots h n (tree.Loop q initial e body) = max (instrs_slots h n initial) (instrs_slots h n body)
  instr_slots h n (tree.Check q ks) = 0
  instr_slots h n (tree.Block q ds body) =
      max (length n + length ds) (instrs_slots h (with_heads (names_of ds) (head_types h n ds) n) body)

  pub instrs_slots : Setting → Entities → Instrs → ℕ
  instrs_slots h n no_instrs = 0
  instrs_slots h n (instr_then i is) = max (instr_slots h n i) (instrs_slots h n is)

  pub branches_slots : Setting → Entities → Branches → ℕ
  branches_slots h n no_branches = 0
  branches_slots h n (branch_then e body bs) =
      max (expr_slots h n 0 e) (max (instrs_slots h (names_given h n 0 e) body) (branches_slots h n bs))

-- the formals, the locals and the names of object tests and separate blocks
abbrev pub routine_slots : System → Routine → ℕ
routine_slots s r =
    max (length (formals_of s r) + length (locals_of s r))
    (instrs_slots (setting s r r.text (olds_of_routine s r)) (formals_of s r ++ scope_of (locals_of s r)) r.body)
