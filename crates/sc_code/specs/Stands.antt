-- What a place in flat code represents: the tasks that are left, with what is known there.
use Rattle.std.specs.Prelude.{◌≡◌, ◌≤◌, ◌<◌, ℕ, zero, suc, ◌+◌, List, [], ◌∷◌, ◌++◌, true, false, Option, Some, None, is_some, slice_get, take, length, map}
use Rattle.std.specs.Option.{option_map}
use Rattle.sc_tree.specs.declared.expression.UnaryOperator.{UnaryOperator}
use Rattle.sc_tree.specs.declared.expression.BinaryOperator.{BinaryOperator}
use Rattle.sc_tree.specs.declared.expression.BinaryOperator.TheVariants as binary
use Rattle.sc_text.specs.declared.token.Span.{Span}
use Rattle.sc_tree.specs.Plain.{System, Declaration, DeclaredType, Name, Variable, Named, ResultVariable, Expr, Clause, Instrs, Branches}
use Rattle.sc_class.specs.declared.identity.ClassId.TheVariants as class
use Rattle.sc_class.specs.Tables.Features.{DeclaredFeature, feature_named}
use Rattle.sc_rules.specs.declared.entity_types.tag.Tag.TheVariants as tag
use Rattle.sc_rules.specs.declared.entity_types.entity_type.EntityType.{EntityType}
use Rattle.sc_rules.specs.entity_types.Conformance.{boolean}
use Rattle.sc_rules.specs.Names.{Entities, to_local, to_attribute, assignee, assignee_type, attached, current, signature_of, test_type}
use Rattle.sc_model.specs.declared.cause.Cause.TheVariants as cause
use Rattle.sc_model.specs.Values.{Reference, Value, Boolean, Integer, Void, Attached, Operand, operand, values_of}
use Rattle.sc_model.specs.Environments.{Binding, scope_of, locals_bound}
use Rattle.sc_model.specs.Operators.{is_short}
use Rattle.sc_model.specs.Routines.{Text, place_in}
use Rattle.sc_model.specs.Tasks as task
use Rattle.sc_model.specs.Tasks.{Task}
use Rattle.sc_model.specs.Steps as model
use Rattle.sc_model.specs.Steps.{Point}
use Rattle.sc_model.specs.Calls.{given_by}
use Rattle.sc_code.specs.Operations as op
use Rattle.sc_code.specs.Operations.{Operation, ApplyUnary, ApplyBinary, Decide, Conclude, Test, CallRoutine, CallFeature, StoreSlot, StoreAttribute, StoreResult, KeepOld, Print, Jump, Expect, Demand, Create, Open, Leave, Exit}
use Rattle.sc_code.specs.Places.{Setting, here, slot_named, unary_type, binary_type, names_given, with_test, with_type, with_heads}
use Rattle.sc_code.specs.Emitted.{expr_code, expr_depth, expr_slots, right_code, site_of, tested, creation_passes, instrs_code, instrs_depth, instrs_slots, other_code, branches_depth, branches_slots, branch_code, loop_code, clauses_code, checks_depth, formals_in, declare_code}
use Rattle.sc_code.specs.Typed.{IsTyped, IsCondition, AreClauses, AreInstrs, AreBranches}
use Rattle.sc_model.specs.Moves.{moves}
use Rattle.sc_code.specs.Machine.{Code, State, Act, Prints, Until, Creates, CreatesHandler, Enters, Requests, Starts, Refuses, Opens, Leaves, Exits, Fails, Goes, Does, hop, hops}

-- What stays during a run of a routine: the system, its own text, the type of its Result, its code, and its number
-- of slots.
pub record Run : Type 0 where
  pub system : System
  pub own : Text
  pub result : Option EntityType
  pub code : Code
  pub slots : ℕ

-- What is known at a place: the text, the names, the types of the kept `old`s, and those of the operands. If a
-- condition's value is the last operand, the first names are known in any case, and the second ones if it is true;
-- its own type isn't listed.
pub data Knowledge : Type 0 where
  Known : (text : Text) (names : Entities) (olds types : List EntityType) → Knowledge
  Judged : (text : Text) (low high : Entities) (olds types : List EntityType) → Knowledge

abbrev pub setting_in : Run → Text → List EntityType → Setting
setting_in g t o = record { system = g.system; text = t; result = g.result; olds = o }

-- ---- lists

abbrev pub others : List EntityType → List EntityType
others [] = []
others (t ∷ ts) = ts

abbrev pub first_type : List EntityType → Option EntityType
first_type [] = None
first_type (t ∷ ts) = Some t

-- the last `n` types, in the order of the text, before those given; and those below them
abbrev pub types_popped : ℕ → List EntityType → List EntityType → Option (List EntityType × List EntityType)
types_popped zero us ts = Some (us, ts)
types_popped (suc n) us [] = None
types_popped (suc n) us (t ∷ ts) = types_popped n (t ∷ us) ts

-- the code has these operations from this place on
abbrev pub HasAt : List Operation → ℕ → List Operation → Type 0
HasAt code p [] = Unit {0}
HasAt code p (o ∷ os) = (slice_get code p ≡ Some o) × HasAt code (p + 1) os

abbrev pub Has : Run → ℕ → List Operation → Type 0
Has g p os = HasAt g.code.operations p os

-- one operation
abbrev pub Is : Run → ℕ → Operation → Type 0
Is g p o = slice_get g.code.operations p ≡ Some o

-- there is room for this number of further operands
abbrev pub Room : Run → List EntityType → ℕ → Type 0
Room g ts n = length ts + n ≤ g.code.depth

-- the names are the first of the others
abbrev pub Begins : Entities → Entities → Type 0
Begins low n = (more : Entities) × (n ≡ low ++ more)

-- the type of the variable
abbrev pub assigned_type_of : Run → Text → Entities → Variable → Option EntityType
assigned_type_of g t n v = assignee_type (assignee (place_in g.system t) n v)

-- ---- tasks

-- The place represents these tasks, with this knowledge. (ECMA-367's constructs in the order of the tasks.)
pub data StandsFor (g : Run) : ℕ → Knowledge → List Task → Type 0 where
  -- an unconditional jump leads on
  jumps : {p m : ℕ} {x : Knowledge} {k : List Task} → Is g p (Jump m) → StandsFor g (p + 1 + m) x k → StandsFor g p x k
  -- the value of a condition without names
  settles : {p : ℕ} {t : Text} {low n : Entities} {o ts : List EntityType} {u : EntityType} {k : List Task} →
      first_type ts ≡ Some u → Begins low n → StandsFor g p (Judged t low n o (others ts)) k →
      StandsFor g p (Known t n o ts) k
  exits : {p : ℕ} {t : Text} {n : Entities} {o ts : List EntityType} → Is g p Exit → StandsFor g p (Known t n o ts) []
  does : {p : ℕ} {t : Text} {n : Entities} {o ts : List EntityType} {is : Instrs} {k : List Task} → t ≡ g.own →
      Has g p (instrs_code (setting_in g t o) n is) → AreInstrs (setting_in g t o) n is →
      Room g ts (instrs_depth (setting_in g t o) n is) →
      instrs_slots (setting_in g t o) n is ≤ g.slots →
      StandsFor g (p + length (instrs_code (setting_in g t o) n is)) (Known t n o ts) k →
      StandsFor g p (Known t n o ts) (task.Do is ∷ k)
  enters_text : {p : ℕ} {t u : Text} {n : Entities} {o ts : List EntityType} {k : List Task} →
      StandsFor g p (Known u n o ts) k →
      StandsFor g p (Known t n o ts) (task.In u ∷ k)
  declares : {p : ℕ} {t : Text} {n : Entities} {o ts : List EntityType} {locals : List Declaration} {k : List Task} →
      Has g p (declare_code (length n) (locals_bound g.system t.formals locals)) →
      length n + length (locals_bound g.system t.formals locals) ≤ g.slots →
      StandsFor g (p + length (locals_bound g.system t.formals locals))
      (Known t (n ++ scope_of (locals_bound g.system t.formals locals)) o ts) k →
      StandsFor g p (Known t n o ts) (task.Declare locals ∷ k)
  forgets : {p d : ℕ} {t : Text} {n : Entities} {o ts : List EntityType} {k : List Task} →
      StandsFor g p (Known t (take d n) o ts) k →
      StandsFor g p (Known t n o ts) (task.Forget d ∷ k)
  -- expressions
  evaluates : {p i : ℕ} {t : Text} {n : Entities} {o ts : List EntityType} {e : Expr} {u : EntityType} {k : List Task} →
      Has g p (expr_code (setting_in g t o) n i e) → IsTyped (setting_in g t o) n i e u →
      Room g ts (expr_depth (setting_in g t o) n i e) →
      StandsFor g (p + length (expr_code (setting_in g t o) n i e)) (Known t n o (u ∷ ts)) k →
      StandsFor g p (Known t n o ts) (task.Eval i e ∷ k)
  judges : {p i : ℕ} {t : Text} {low n : Entities} {o ts : List EntityType} {e : Expr} {k : List Task} →
      Has g p (expr_code (setting_in g t o) n i e) → IsCondition (setting_in g t o) n i e →
      Room g ts (expr_depth (setting_in g t o) n i e) →
      expr_slots (setting_in g t o) n i e ≤ g.slots → Begins low n →
      StandsFor g (p + length (expr_code (setting_in g t o) n i e))
      (Judged t low (names_given (setting_in g t o) n i e) o ts) k →
      StandsFor g p (Known t n o ts) (task.Eval i e ∷ k)
  applies_unary : {p : ℕ} {t : Text} {n : Entities} {o ts : List EntityType} {op : UnaryOperator} {k : List Task} →
      Is g p (ApplyUnary op) →
      StandsFor g (p + 1) (Known t n o (unary_type op ∷ others ts)) k →
      StandsFor g p (Known t n o ts) (task.ApplyUnary op ∷ k)
  evaluates_right : {p i : ℕ} {t : Text} {n : Entities} {o ts : List EntityType} {op : BinaryOperator} {e : Expr}
      {u v : EntityType} {k : List Task} →
      first_type ts ≡ Some v → is_short op ≡ false →
      Has g p (expr_code (setting_in g t o) n i e ++ ApplyBinary op ∷ []) → IsTyped (setting_in g t o) n i e u →
      Room g ts (expr_depth (setting_in g t o) n i e) →
      StandsFor g (p + length (expr_code (setting_in g t o) n i e) + 1) (Known t n o (binary_type op ∷ others ts)) k →
      StandsFor g p (Known t n o ts) (task.EvalRight op i e ∷ k)
  decides : {p i : ℕ} {t : Text} {n : Entities} {o ts : List EntityType} {op : BinaryOperator} {e : Expr}
      {u : EntityType} {k : List Task} →
      is_short op ≡ true → Has g p (right_code op (expr_code (setting_in g t o) n i e)) →
      IsTyped (setting_in g t o) n i e u →
      Room g (others ts) (expr_depth (setting_in g t o) n i e) →
      StandsFor g (p + 1 + (length (expr_code (setting_in g t o) n i e) + 1)) (Known t n o (boolean ∷ others ts)) k →
      StandsFor g p (Known t n o ts) (task.EvalRight op i e ∷ k)
  judges_right : {p i : ℕ} {t : Text} {low high : Entities} {o ts : List EntityType} {e : Expr} {k : List Task} →
      Has g p (right_code binary.AndThen (expr_code (setting_in g t o) high i e)) →
      IsCondition (setting_in g t o) high i e →
      Room g ts (expr_depth (setting_in g t o) high i e) → expr_slots (setting_in g t o) high i e ≤ g.slots →
      Begins low high →
      StandsFor g (p + 1 + (length (expr_code (setting_in g t o) high i e) + 1))
      (Judged t low (names_given (setting_in g t o) high i e) o ts) k →
      StandsFor g p (Judged t low high o ts) (task.EvalRight binary.AndThen i e ∷ k)
  applies_binary : {p : ℕ} {t : Text} {n : Entities} {o ts : List EntityType} {op : BinaryOperator} {k : List Task} →
      Is g p (ApplyBinary op) →
      StandsFor g (p + 1) (Known t n o (binary_type op ∷ others (others ts))) k →
      StandsFor g p (Known t n o ts) (task.ApplyBinary op ∷ k)
  concludes : {p : ℕ} {t : Text} {n : Entities} {o ts : List EntityType} {k : List Task} → Is g p Conclude →
      StandsFor g (p + 1) (Known t n o (boolean ∷ others ts)) k → StandsFor g p (Known t n o ts) (task.Conclude ∷ k)
  concludes_judgement : {p : ℕ} {t : Text} {low high : Entities} {o ts : List EntityType} {k : List Task} →
      Is g p Conclude →
      StandsFor g (p + 1) (Judged t low high o ts) k → StandsFor g p (Judged t low high o ts) (task.Conclude ∷ k)
  tests : {p : ℕ} {t : Text} {low n : Entities} {o ts : List EntityType} {d : Option DeclaredType} {x : List ℕ}
      {k : List Task} {u : EntityType} →
      Is g p (Test (tested (setting_in g t o) n d) (length n)) →
      test_type (here (setting_in g t o)) d (first_type ts) ≡ Some u → length n < g.slots →
      Begins low n → StandsFor g (p + 1) (Judged t low (with_test x (Some u) n) o (others ts)) k →
      StandsFor g p (Known t n o ts) (task.Bind d x ∷ k)
  -- calls
  calls_routine : {p c : ℕ} {t : Text} {n : Entities} {o ts us vs : List EntityType} {x : List ℕ} {f : DeclaredFeature}
      {r : Option EntityType} {k : List Task} →
      feature_named g.system (class.Declared t.class) x ≡ Some f →
      given_by (signature_of g.system (current (here (setting_in g t o))) f).gives ≡ Some r →
      types_popped c [] ts ≡ Some (us, vs) →
      Is g p (CallRoutine (site_of x c (current (here (setting_in g t o))) us
      (signature_of g.system (current (here (setting_in g t o))) f))) →
      Room g (with_type r vs) 0 → StandsFor g (p + 1) (Known t n o (with_type r vs)) k →
      StandsFor g p (Known t n o ts) (task.CallUnqualified x c ∷ k)
  calls_feature : {p c : ℕ} {t : Text} {n : Entities} {o ts us vs : List EntityType} {x : List ℕ} {u : EntityType}
      {f : DeclaredFeature} {r : Option EntityType} {k : List Task} →
      types_popped c [] ts ≡ Some (us, u ∷ vs) → feature_named g.system u.class x ≡ Some f →
      given_by (signature_of g.system u f).gives ≡ Some r →
      Is g p (CallFeature (site_of x c u us (signature_of g.system u f))) → Room g (with_type r vs) 0 →
      StandsFor g (p + 1) (Known t n o (with_type r vs)) k →
      StandsFor g p (Known t n o ts) (task.CallQualified x c ∷ k)
  -- assignments and creations
  assigns_slot : {p i : ℕ} {t : Text} {n : Entities} {o ts : List EntityType} {x : Name} {u : EntityType}
      {w : Option EntityType} {k : List Task} →
      assignee (here (setting_in g t o)) n (Named x) ≡ to_local (Some u) → slot_named x.text n ≡ Some (i, w) →
      Is g p (StoreSlot i) →
      StandsFor g (p + 1) (Known t n o (others ts)) k → StandsFor g p (Known t n o ts) (task.AssignTo (Named x) ∷ k)
  assigns_attribute : {p : ℕ} {t : Text} {n : Entities} {o ts : List EntityType} {x : Name} {u : EntityType}
      {k : List Task} →
      assignee (here (setting_in g t o)) n (Named x) ≡ to_attribute (Some u) → Is g p (StoreAttribute x.text) →
      StandsFor g (p + 1) (Known t n o (others ts)) k → StandsFor g p (Known t n o ts) (task.AssignTo (Named x) ∷ k)
  assigns_result : {p : ℕ} {t : Text} {n : Entities} {o ts : List EntityType} {q : Span} {u : EntityType}
      {k : List Task} →
      t.result ≡ Some (Some u) → g.result ≡ Some u → Is g p StoreResult →
      StandsFor g (p + 1) (Known t n o (others ts)) k →
      StandsFor g p (Known t n o ts) (task.AssignTo (ResultVariable q) ∷ k)
  creates : {p c m : ℕ} {t : Text} {n : Entities} {o ts us vs : List EntityType} {v : Variable} {x : Option (List ℕ)}
      {u : EntityType} {k : List Task} →
      assigned_type_of g t n v ≡ Some u → u.tag ≡ tag.Own → u.class ≡ class.Declared m →
      types_popped c [] ts ≡ Some (us, vs) →
      Is g p (Create (record { class = m; procedure = x; count = c; passes = false })) → Room g vs 1 →
      StandsFor g (p + 1) (Known t n o (attached u ∷ vs)) (task.AssignTo v ∷ k) →
      StandsFor g p (Known t n o ts) (task.CreateBy v x c ∷ k)
  creates_handler : {p c m : ℕ} {t : Text} {n : Entities} {o ts us vs : List EntityType} {v : Variable}
      {x : Option (List ℕ)} {u : EntityType} {k : List Task} →
      assigned_type_of g t n v ≡ Some u → u.tag ≡ tag.Any → u.class ≡ class.Declared m →
      types_popped c [] ts ≡ Some (us, vs) →
      Is g p (op.CreateHandler (record {
        class = m;
        procedure = x;
        count = c;
        passes = creation_passes (setting_in g t o) u x us;
      })) → Room g vs 1 →
      StandsFor g (p + 1) (Known t n o (attached u ∷ vs)) (task.AssignTo v ∷ k) →
      StandsFor g p (Known t n o ts) (task.CreateBy v x c ∷ k)
  -- instructions
  prints : {p : ℕ} {t : Text} {n : Entities} {o ts : List EntityType} {k : List Task} → Is g p Print →
      StandsFor g (p + 1) (Known t n o (others ts)) k →
      StandsFor g p (Known t n o ts) (task.Print ∷ k)
  chooses : {p : ℕ} {t : Text} {low high : Entities} {o ts : List EntityType} {body other : Instrs} {bs : Branches}
      {k : List Task} → t ≡ g.own →
      Has g p (branch_code (instrs_code (setting_in g t o) high body)
      (other_code (setting_in g t o) low bs (instrs_code (setting_in g t o) low other))) →
      AreInstrs (setting_in g t o) high body → AreBranches (setting_in g t o) low bs →
      AreInstrs (setting_in g t o) low other →
      Room g ts (instrs_depth (setting_in g t o) high body) → Room g ts (branches_depth (setting_in g t o) low bs) →
      Room g ts (instrs_depth (setting_in g t o) low other) → instrs_slots (setting_in g t o) high body ≤ g.slots →
      branches_slots (setting_in g t o) low bs ≤ g.slots → instrs_slots (setting_in g t o) low other ≤ g.slots →
      Begins low high →
      StandsFor g (p + length (branch_code (instrs_code (setting_in g t o) high body)
      (other_code (setting_in g t o) low bs (instrs_code (setting_in g t o) low other))))
      (Known t low o ts) k →
      StandsFor g p (Judged t low high o ts) (task.Choose (length low) body bs other ∷ k)
  repeats : {p : ℕ} (q : ℕ) {t : Text} {n : Entities} {o ts : List EntityType} {e : Expr} {u : EntityType}
      {body : Instrs} {k : List Task} → t ≡ g.own →
      Has g q (loop_code (instrs_code (setting_in g t o) n body) (expr_code (setting_in g t o) n 0 e)) →
      p ≡ q + length (instrs_code (setting_in g t o) n body) →
      IsTyped (setting_in g t o) n 0 e u → AreInstrs (setting_in g t o) n body →
      Room g ts (expr_depth (setting_in g t o) n 0 e) →
      Room g ts (instrs_depth (setting_in g t o) n body) → instrs_slots (setting_in g t o) n body ≤ g.slots →
      StandsFor g (p + length (expr_code (setting_in g t o) n 0 e) + 1) (Known t n o ts) k →
      StandsFor g p (Known t n o ts) (task.Repeat e body ∷ k)
  ends_loop : {p : ℕ} (q : ℕ) {t : Text} {n : Entities} {o ts : List EntityType} {e : Expr} {u : EntityType}
      {body : Instrs} {k : List Task} → t ≡ g.own →
      Has g q (loop_code (instrs_code (setting_in g t o) n body) (expr_code (setting_in g t o) n 0 e)) →
      p ≡ q + length (instrs_code (setting_in g t o) n body) + length (expr_code (setting_in g t o) n 0 e) →
      IsTyped (setting_in g t o) n 0 e u → AreInstrs (setting_in g t o) n body →
      Room g (others ts) (expr_depth (setting_in g t o) n 0 e) →
      Room g (others ts) (instrs_depth (setting_in g t o) n body) → instrs_slots (setting_in g t o) n body ≤ g.slots →
      StandsFor g (p + 1) (Known t n o (others ts)) k → StandsFor g p (Known t n o ts) (task.EndLoop e body ∷ k)
  checks : {p : ℕ} {t : Text} {n : Entities} {o ts : List EntityType} {k : List Task} → Is g p (Expect cause.Check) →
      StandsFor g (p + 1) (Known t n o (others ts)) k → StandsFor g p (Known t n o ts) (task.Checked ∷ k)
  opens : {p c : ℕ} {t : Text} {n : Entities} {o ts us vs : List EntityType} {xs : List Name} {body : Instrs}
      {k : List Task} → t ≡ g.own → c ≡ length xs →
      types_popped c [] ts ≡ Some (us, vs) → Is g p (Open (length n) c) → length n + c ≤ g.slots →
      Has g (p + 1) (instrs_code (setting_in g t o) (with_heads xs us n) body) →
      AreInstrs (setting_in g t o) (with_heads xs us n) body →
      Room g vs (instrs_depth (setting_in g t o) (with_heads xs us n) body) →
      instrs_slots (setting_in g t o) (with_heads xs us n) body ≤ g.slots →
      Is g (p + 1 + length (instrs_code (setting_in g t o) (with_heads xs us n) body)) Leave →
      StandsFor g (p + 1 + length (instrs_code (setting_in g t o) (with_heads xs us n) body) + 1) (Known t n o vs) k →
      StandsFor g p (Known t n o ts) (task.Open xs body ∷ k)
  leaves : {p d : ℕ} {t : Text} {n : Entities} {o ts : List EntityType} {k : List Task} → Is g p Leave →
      StandsFor g (p + 1) (Known t (take d n) o ts) k →
      StandsFor g p (Known t n o ts) (task.Leave d ∷ k)
  -- contracts
  requires : {p : ℕ} {t : Text} {n : Entities} {o ts : List EntityType} {ks : List Clause} {k : List Task} →
      Has g p (clauses_code (setting_in g t o) n ks) → AreClauses (setting_in g t o) n ks →
      Room g ts (checks_depth (setting_in g t o) n ks) →
      StandsFor g (p + length (clauses_code (setting_in g t o) n ks)) (Known t n o ts) k →
      StandsFor g p (Known t n o ts) (task.Require ks ∷ k)
  required : {p : ℕ} {t : Text} {n : Entities} {o ts : List EntityType} {c : Clause} {k : List Task} →
      Is g p (Demand (formals_in n c)) →
      StandsFor g (p + 1) (Known t n o (others ts)) k → StandsFor g p (Known t n o ts) (task.Required c ∷ k)
  keeps_old : {p : ℕ} {t : Text} {n : Entities} {o ts : List EntityType} {u : EntityType} {k : List Task} →
      Is g p KeepOld → first_type ts ≡ Some u →
      StandsFor g (p + 1) (Known t n (o ++ u ∷ []) (others ts)) k → StandsFor g p (Known t n o ts) (task.KeepOld ∷ k)
  ensures : {p : ℕ} {t : Text} {n : Entities} {o ts : List EntityType} {k : List Task} →
      Is g p (Expect cause.Postcondition) →
      StandsFor g (p + 1) (Known t n o (others ts)) k → StandsFor g p (Known t n o ts) (task.Ensured ∷ k)

-- ---- points

abbrev pub types_of : List Operand → List EntityType
types_of us = map (λ (u : Operand). u.type) us

abbrev pub values_in : List Binding → List Value
values_in bs = map (λ (b : Binding). b.value) bs

-- The machine's state at a place, if the model is at this point; the slots after those of its names have old values.
abbrev pub state_at : ℕ → List Value → Point → State
state_at place tail p = record {
  place = place;
  objects = p.objects;
  slots = values_in p.environment ++ tail;
  result = option_map (λ (u : Operand). u.value) p.result;
  olds = values_of p.olds;
  values = values_of p.values;
}

-- A condition's value determines which names are known.
abbrev pub IsJudged : Entities → Entities → Value → Entities → Type 0
IsJudged low high (Boolean true) n = n ≡ high
IsJudged low high (Boolean false) n = Begins low n
IsJudged low high (Integer z) n = n ≡ high
IsJudged low high Void n = n ≡ high
IsJudged low high (Attached r) n = n ≡ high

abbrev pub known_at : Point → Knowledge
known_at p = Known p.text (scope_of p.environment) (types_of p.olds) (types_of p.values)

-- The place represents the tasks of the point with what is known there.
pub data Tells (g : Run) (place : ℕ) (p : Point) : Type 0 where
  told : StandsFor g place (known_at p) p.tasks → Tells g place p
  judged : (u : Operand) (us : List Operand) (low high : Entities) → p.values ≡ u ∷ us →
      IsJudged low high u.value (scope_of p.environment) →
      StandsFor g place (Judged p.text low high (types_of p.olds) (types_of us)) p.tasks → Tells g place p

-- The place represents the point.
pub record Stands (g : Run) (place : ℕ) (tail : List Value) (p : Point) : Type 0 where
  pub tells : Tells g place p
  pub has_slots : length p.environment + length tail ≡ g.slots
  pub has_result : option_map (λ (u : Operand). u.type) p.result ≡ g.result

-- ---- steps

-- What is seen of a step of the model is seen of the operation, where these entities are known before the step, and
-- those after it.
abbrev pub Seen : List Binding → List Binding → model.Act → Act → Type 0
Seen bs cs (model.Prints text) a = a ≡ Prints text
Seen bs cs model.Until a = a ≡ Until
Seen bs cs model.Creates a = a ≡ Creates
Seen bs cs (model.CreatesHandler k x us t passing) a = a ≡ CreatesHandler k x (values_of us) passing
Seen bs cs (model.Enters c r x us t) a = a ≡ Enters c r x (values_of us) (is_some t)
Seen bs cs (model.Requests r x us t passing) a = a ≡ Requests r x (values_of us) (is_some t) passing
Seen bs cs model.Starts a = a ≡ Starts
Seen bs cs (model.Refuses k) a = a ≡ Refuses (formals_in (scope_of bs) k)
Seen bs cs model.Opens a =
    (first count : ℕ) × (a ≡ Opens first count) × (first ≡ length bs) × (first + count ≡ length cs)
Seen bs cs model.Leaves a = a ≡ Leaves
Seen bs cs model.Exits a = a ≡ Exits
Seen bs cs (model.Fails why) a = a ≡ Fails why

-- with a value of the type on its operands, where there is a type
abbrev pub StandsWith : Run → ℕ → List Value → Option EntityType → Point → Type 0
StandsWith g place tail None p = Stands g place tail p
StandsWith g place tail (Some t) p = (v : Value) → Stands g place tail (record p { values = operand v t ∷ p.values })

-- where the code goes on after the step's effect
abbrev pub GoesOn : Run → ℕ → List Value → model.Act → Point → Type 0
GoesOn g place tail (model.Enters c r x us t) p = StandsWith g place tail t p
GoesOn g place tail (model.Requests r x us t passing) p = StandsWith g place tail t p
GoesOn g place tail (model.CreatesHandler k x us t passing) p = StandsWith g place tail (Some t) p
GoesOn g place tail (model.Refuses k) p = Unit {0}
GoesOn g place tail model.Exits p = Unit {0}
GoesOn g place tail (model.Fails why) p = Unit {0}
GoesOn g place tail a p = Stands g place tail p

-- The state after a visible operation is that of the point after the step; after a failure its objects are.
abbrev pub Leads : Run → model.Act → Point → State → Type 0
Leads g (model.Fails why) q f = f.objects ≡ q.objects
Leads g a q f = (to : ℕ) × (tail : List Value) × (f ≡ state_at to tail q) × GoesOn g to tail a q

-- What a step of the model is in the code: some silent operations, or none; for a visible one some, and then that one.
abbrev pub Follows : Run → Reference → ℕ → List Value → Point → model.Step → Type 0
Follows g me place tail p (model.Goes q) =
    (n to : ℕ) × (rest : List Value) × (hops n g.system g.code me (state_at place tail p) ≡ Goes (state_at to rest q))
    × Stands g to rest q
Follows g me place tail p (model.Does a q) =
    (n at : ℕ) × (act : Act) × (f : State)
    × (hops n g.system g.code me (state_at place tail p) ≡ Goes (state_at at tail p))
    × (hop g.system g.code me (state_at at tail p) ≡ Does act f) × Seen p.environment q.environment a act
    × Leads g a q f

-- What the silent steps up to a visible one, and that one, are in the code: silent operations to a state that stands
-- for a point with the same moves, and the visible operation there.
abbrev pub Moves : Run → Reference → ℕ → List Value → Point → model.Step → Type 0
Moves g me place tail p (model.Goes q) = ⊥
Moves g me place tail p (model.Does a q) =
    (last : Point) × (n at : ℕ) × (rest : List Value) × (act : Act) × (f : State)
    × (hops n g.system g.code me (state_at place tail p) ≡ Goes (state_at at rest last))
    × (moves g.system me last ≡ moves g.system me p)
    × (hop g.system g.code me (state_at at rest last) ≡ Does act f) × Seen last.environment q.environment a act
    × Leads g a q f
