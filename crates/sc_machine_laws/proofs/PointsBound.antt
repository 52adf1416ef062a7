-- The body of a routine leaves its actuals as they are: they stay the first names that are known.
use Rattle.std.proofs.Common.{ℕ, ◌+◌, ◌≡◌, Bool, true, false, List, [], ◌∷◌, ◌++◌, Option, Some, None, refl, sym, ap, subst, ◌∙◌}
use Rattle.std.specs.Prelude.{length, take, map, cond, nat_lt, slice_get}
use Rattle.std.proofs.lemmas.List.{append_assoc}
use Rattle.sc_tree.specs.declared.expression.UnaryOperator.TheVariants as unary
use Rattle.sc_tree.specs.declared.expression.BinaryOperator.{BinaryOperator}
use Rattle.sc_tree.specs.Plain as tree
use Rattle.sc_tree.specs.Plain.{System, Clause, DeclaredType, FeatureKind, Head, Name, Variable, Named, ResultVariable, Exprs, no_exprs, expr_then, Instr, Instrs, no_instrs, instr_then, Branches, no_branches, branch_then}
use Rattle.sc_tree.specs.Properties.{is_print}
use Rattle.sc_class.specs.declared.identity.ClassId.{ClassId}
use Rattle.sc_class.specs.declared.identity.ClassId.TheVariants as class
use Rattle.sc_class.specs.Tables.Features.{DeclaredFeature, feature_named}
use Rattle.sc_rules.specs.declared.entity_types.tag.Tag.{Tag}
use Rattle.sc_rules.specs.declared.entity_types.tag.Tag.TheVariants as tag
use Rattle.sc_rules.specs.declared.entity_types.entity_type.EntityType.{EntityType}
use Rattle.sc_rules.specs.declared.position.Role.TheVariants as role
use Rattle.sc_rules.specs.CallRules.{count}
use Rattle.sc_rules.specs.Names.{Entity, assignee_of_feature, assignee_of_kind, assignee_of_result, assignee_or, assignee_type, current, entity_named, given_type, is_local, test_type, to_local, unassignable}
use Rattle.sc_model.specs.Creations.{assigned_at, creates, creates_as, creates_at, creates_object}
use Rattle.sc_model.specs.declared.cause.Cause.{Cause}
use Rattle.sc_model.specs.declared.cause.Cause.TheVariants as cause
use Rattle.sc_model.specs.Environments.{Binding, assigned_to, bind, binding_named, handler_named, locals_bound, scope_of}
use Rattle.sc_model.specs.Expressions.{begins_feature, begins_kind, begins_name, decided_by, evals_right, evaluate, gives_found, reads_own, reads_result}
use Rattle.sc_model.specs.Instructions.{actuals_of, assigns, begins, begins_routine, chooses, chooses_other, ends_loop, opens, prints, procedure_of, tests}
use Rattle.sc_model.specs.Invariants.{meets_invariant}
use Rattle.sc_model.specs.Limits.{max_objects}
use Rattle.sc_model.specs.Moves.{performs}
use Rattle.sc_model.specs.Objects.{attributes_of, fresh_object}
use Rattle.sc_model.specs.ObjectTests.{binds, binds_if, is_tested}
use Rattle.sc_model.specs.Olds.{olds_in}
use Rattle.sc_model.specs.Operators.{is_short}
use Rattle.sc_model.specs.Routines.{place_in}
use Rattle.sc_model.specs.Steps.{Prints, Until, Creates, CreatesHandler, Enters, Requests, Starts, Refuses, Opens, Leaves, Exits, Fails, Point, Step, Goes, Does, fails, forgets, gives, popped, reads_as, reads_attribute}
use Rattle.sc_model.specs.Tasks.{Task, Do, In, Declare, Forget, Eval, ApplyUnary, EvalRight, ApplyBinary, Conclude, Bind, CallUnqualified, CallQualified, AssignTo, Print, Choose, Repeat, EndLoop, Checked, Require, Required, KeepOld, Ensured, CreateBy, Open, Leave, checks, evals, head_evals}
use Rattle.sc_model.specs.Values.{Reference, Value, Integer, Boolean, Void, Attached, Operand}
use Rattle.sc_machine_laws.specs.states.Points.{Each}
use Rattle.sc_machine_laws.specs.ClauseLaws.{StaysInContract, StepOfContract, StepsInContract}
use Rattle.sc_machine_laws.specs.Texts.{IsOfContract}
use Rattle.sc_machine_laws.proofs.PointsFormals.{AreFormals, take_past, length_past, assigned_behind}

module _ (contract : StepOfContract) (s : System) (me : Reference) (bs : List Binding) (formal : AreFormals bs) where
  -- these are the first names
  abbrev pub Has : List Binding → Type 0
  Has cs = (more : List Binding) × (cs ≡ bs ++ more)

  -- the task forgets none of them
  abbrev pub IsBehind : Task → Type 0
  IsBehind (Forget d) = (m : ℕ) × (d ≡ length bs + m)
  IsBehind (Choose d body cs other) = (m : ℕ) × (d ≡ length bs + m)
  IsBehind t = Unit {0}

  abbrev pub Left : List Task → Type 0
  Left ts = Each IsBehind ts

  -- so it stays, where the evaluation goes on
  abbrev pub Firm : Step → Type 0
  Firm (Goes q) = Has q.environment × Left q.tasks
  Firm (Does (Enters c o x us g) q) = Has q.environment × Left q.tasks
  Firm (Does (Requests o x us g passes) q) = Has q.environment × Left q.tasks
  Firm (Does Until q) = Has q.environment × Left q.tasks
  Firm (Does a q) = Unit {0}

  longer : (cs ds : List Binding) → Has cs → Has (cs ++ ds)
  longer cs ds (more, e) = (more ++ ds, ap (λ cs. cs ++ ds) e ∙ append_assoc bs more ds)

  shorter : (cs : List Binding) (d : ℕ) → Has cs → (m : ℕ) × (d ≡ length bs + m) → Has (take d cs)
  shorter cs d (more, e) (m, i) =
      (take m more, ap (take d) e ∙ ap (λ (d : ℕ). take d (bs ++ more)) i ∙ take_past bs more m)

  -- ---- tasks that constructs set out

  actuals_left : (i : ℕ) (es : Exprs) (t : Task) (ts : List Task) → Left (t ∷ ts) → Left ((evals i es ++ t ∷ []) ++ ts)
  actuals_left i no_exprs t ts l = l
  actuals_left i (expr_then a es) t ts l = (tt, actuals_left (i + olds_in a) es t ts l)

  heads_left : (ds : List Head) (t : Task) (ts : List Task) → Left (t ∷ ts) → Left ((head_evals ds ++ t ∷ []) ++ ts)
  heads_left [] t ts l = l
  heads_left (d ∷ ds) t ts l = (tt, heads_left ds t ts l)

  checks_left : (ks : List Clause) (ts : List Task) → Left ts → Left (checks ks ++ ts)
  checks_left [] ts l = l
  checks_left (q ∷ ks) ts l = (tt, (tt, checks_left ks ts l))

  contract_left : (ts rest : List Task) → Each IsOfContract ts → Left rest → Left (ts ++ rest)
  contract_left [] rest o l = l
  contract_left (t ∷ ts) rest o l = (one t o.0, contract_left ts rest o.1 l)
    where
      one : (t : Task) → IsOfContract t → IsBehind t
      one (Forget d) o = absurd o
      one (Choose d body cs other) o = absurd o
      one t o = tt

  if_firm : (b : Bool) (x y : Step) → Firm x → Firm y → Firm (cond b x y)
  if_firm true x y h k = h
  if_firm false x y h k = k

  -- ---- expressions

  reads_firm : (d : EntityType) (v : Value) (t : EntityType) (p : Point) → Has p.environment → Left p.tasks →
      Firm (reads_as d v t p)
  reads_firm d Void t p h l = if_firm d.attached (fails cause.UnsetEntity p) (gives Void t p) tt (h, l)
  reads_firm d (Integer z) t p h l = (h, l)
  reads_firm d (Boolean b) t p h l = (h, l)
  reads_firm d (Attached r) t p h l = (h, l)

  attribute_firm : (b : Option Binding) (t : EntityType) (p : Point) → Has p.environment → Left p.tasks →
      Firm (reads_attribute b t p)
  attribute_firm None t p h l = tt
  attribute_firm (Some b) t p h l = reads_firm t b.value t p h l

  right_firm : (d : Option Bool) (short : Bool) (op : BinaryOperator) (i : ℕ) (e : tree.Expr) (u : Operand)
      (p : Point) → Has p.environment → Left p.tasks →
      Firm (evals_right d short op i e u p)
  right_firm (Some b) short op i e u p h l = (h, l)
  right_firm None true op i e u p h l = (h, (tt, (tt, l)))
  right_firm None false op i e u p h l = (h, (tt, (tt, l)))

  binds_firm : (d : Option DeclaredType) (x : List ℕ) (v : Value) (t : Option EntityType) (p : Point) →
      Has p.environment → Left p.tasks → Firm (binds s me.handler d x v t p)
  binds_firm d x v None p h l = tt
  binds_firm d x v (Some t) p h l = by (is_tested s me.handler (handler_named p.environment) v d t)
    where
      by : (b : Bool) → Firm (binds_if b x v t p)
      by true = (longer p.environment (bind x t role.Test v ∷ []) h, l)
      by false = (h, l)

  found_firm : (u : Option Operand) (p : Point) → Has p.environment → Left p.tasks → Firm (gives_found u p)
  found_firm None p h l = tt
  found_firm (Some u) p h l = (h, l)

  result_firm : (u : Option Operand) (t : Option (Option EntityType)) (p : Point) → Has p.environment → Left p.tasks →
      Firm (reads_result u t p)
  result_firm (Some u) (Some (Some t)) p h l = reads_firm u.type u.value t p h l
  result_firm (Some u) (Some None) p h l = tt
  result_firm (Some u) None p h l = tt
  result_firm None t p h l = tt

  own_firm : (t : Option EntityType) (b : Option Binding) (p : Point) → Has p.environment → Left p.tasks →
      Firm (reads_own t b p)
  own_firm None b p h l = tt
  own_firm (Some t) b p h l = attribute_firm b t p h l

  kind_firm : (x : List ℕ) (k : FeatureKind) (i : ℕ) (es : Exprs) (p : Point) → Has p.environment → Left p.tasks →
      Firm (begins_kind s me x k i es p)
  kind_firm x (tree.Attribute d) i es p h l = own_firm (given_type s (current (place_in s p.text)) d)
      (binding_named x (attributes_of me.number p.objects)) p h l
  kind_firm x (tree.Routine r) i es p h l = (h, actuals_left i es (CallUnqualified x (count es)) p.tasks (tt, l))

  feature_firm : (x : List ℕ) (f : Option DeclaredFeature) (i : ℕ) (es : Exprs) (p : Point) → Has p.environment →
      Left p.tasks → Firm (begins_feature s me x f i es p)
  feature_firm x None i es p h l = tt
  feature_firm x (Some f) i es p h l = kind_firm x f.feature.kind i es p h l

  name_firm : (x : List ℕ) (b : Option Binding) (i : ℕ) (es : Exprs) (p : Point) → Has p.environment → Left p.tasks →
      Firm (begins_name s me x b i es p)
  name_firm x (Some b) i es p h l = reads_firm b.type b.value b.type p h l
  name_firm x None i es p h l = feature_firm x (feature_named s (class.Declared p.text.class) x) i es p h l

  evaluate_firm : (i : ℕ) (e : tree.Expr) (p : Point) → Has p.environment → Left p.tasks → Firm (evaluate s me i e p)
  evaluate_firm i (tree.Integer q z) p h l = (h, l)
  evaluate_firm i (tree.Boolean q b) p h l = (h, l)
  evaluate_firm i (tree.Void q) p h l = (h, l)
  evaluate_firm i (tree.Current q) p h l = (h, l)
  evaluate_firm i (tree.Result q) p h l = result_firm p.result p.text.result p h l
  evaluate_firm i (tree.Call q tree.no_target x es) p h l =
      name_firm x.text (binding_named x.text p.environment) i es p h l
  evaluate_firm i (tree.Call q (tree.target a) x es) p h l =
      (h, (tt, actuals_left (i + olds_in a) es (CallQualified x.text (count es)) p.tasks (tt, l)))
  evaluate_firm i (tree.Unary q unary.Old a) p h l = found_firm (slice_get p.olds i) p h l
  evaluate_firm i (tree.Unary q unary.Not a) p h l = (h, (tt, (tt, l)))
  evaluate_firm i (tree.Unary q unary.Plus a) p h l = (h, (tt, (tt, l)))
  evaluate_firm i (tree.Unary q unary.Minus a) p h l = (h, (tt, (tt, l)))
  evaluate_firm i (tree.Binary q op a b) p h l = (h, (tt, (tt, l)))
  evaluate_firm i (tree.ObjectTest q d a x) p h l = (h, (tt, (tt, l)))

  -- ---- instructions

  to_local_firm : (x : Name) (v : Value) (o : Option Entity) (p : Point) →
      entity_named x.text (scope_of p.environment) ≡ o → Has p.environment → Left p.tasks →
      Firm (assigns me (Named x) (assignee_or (place_in s p.text) x.text o) v p)
  to_local_firm x v (Some e) p i (more, j) l = by (is_local e.role) refl
    where
      by : (b : Bool) → is_local e.role ≡ b → Firm (assigns me (Named x) (cond b (to_local e.type) unassignable) v p)
      by true k =
          let z = assigned_behind x.text v e bs more formal
          (ap (λ cs. entity_named x.text (scope_of cs)) (sym j) ∙ i) k in
          ((z.0, ap (assigned_to x.text v) j ∙ z.1), l)
      by false k = tt
  to_local_firm x v None p i h l = by (is_print x.text)
    where
      of_kind : (k : FeatureKind) → Firm (assigns me (Named x) (assignee_of_kind (place_in s p.text) k) v p)
      of_kind (tree.Attribute d) = (h, l)
      of_kind (tree.Routine r) = tt

      of_feature : (f : Option DeclaredFeature) →
          Firm (assigns me (Named x) (assignee_of_feature (place_in s p.text) f) v p)
      of_feature None = tt
      of_feature (Some f) = of_kind f.feature.kind

      by : (b : Bool) →
          Firm (assigns me (Named x)
          (cond b unassignable (assignee_of_feature (place_in s p.text)
          (feature_named s (class.Declared p.text.class) x.text))) v p)
      by true = tt
      by false = of_feature (feature_named s (class.Declared p.text.class) x.text)

  assigns_firm : (x : Variable) (v : Value) (p : Point) → Has p.environment → Left p.tasks →
      Firm (assigns me x (assigned_at s x p) v p)
  assigns_firm (Named x) v p h l = to_local_firm x v (entity_named x.text (scope_of p.environment)) p refl h l
  assigns_firm (ResultVariable q) v p h l = by p.text.result
    where
      by : (o : Option (Option EntityType)) → Firm (assigns me (ResultVariable q) (assignee_of_result o) v p)
      by None = tt
      by (Some None) = tt
      by (Some (Some t)) = (h, l)

  prints_firm : (v : Value) (p : Point) → Firm (prints v p)
  prints_firm (Integer z) p = tt
  prints_firm (Boolean b) p = tt
  prints_firm Void p = tt
  prints_firm (Attached r) p = tt

  other_firm : (d : ℕ) (cs : Branches) (other : Instrs) (p : Point) → (m : ℕ) × (d ≡ length bs + m) →
      Has p.environment → Left p.tasks → Firm (chooses_other d cs other p)
  other_firm d no_branches other p i h l = (h, (tt, l))
  other_firm d (branch_then e b cs) other p i h l = (h, (tt, (i, l)))

  chooses_firm : (d : ℕ) (v : Value) (body : Instrs) (cs : Branches) (other : Instrs) (p : Point) →
      (m : ℕ) × (d ≡ length bs + m) → Has p.environment → Left p.tasks →
      Firm (chooses d v body cs other p)
  chooses_firm d (Boolean true) body cs other p i h l = (h, (tt, (i, l)))
  chooses_firm d (Boolean false) body cs other p i h l =
      other_firm d cs other (forgets d p) i (shorter p.environment d h i) l
  chooses_firm d (Integer z) body cs other p i h l = tt
  chooses_firm d Void body cs other p i h l = tt
  chooses_firm d (Attached r) body cs other p i h l = tt

  ends_loop_firm : (v : Value) (e : tree.Expr) (body : Instrs) (p : Point) → Has p.environment → Left p.tasks →
      Firm (ends_loop v e body p)
  ends_loop_firm (Boolean true) e body p h l = (h, l)
  ends_loop_firm (Boolean false) e body p h l = (h, (tt, (tt, l)))
  ends_loop_firm (Integer z) e body p h l = tt
  ends_loop_firm Void e body p h l = tt
  ends_loop_firm (Attached r) e body p h l = tt

  tests_firm : (why : Cause) (v : Value) (p : Point) → Has p.environment → Left p.tasks → Firm (tests why v p)
  tests_firm why (Boolean true) p h l = (h, l)
  tests_firm why (Boolean false) p h l = tt
  tests_firm why (Integer z) p h l = tt
  tests_firm why Void p h l = tt
  tests_firm why (Attached r) p h l = tt

  opens_firm : (xs : List Name) (body : Instrs) (us : Option (List Operand × List Operand)) (p : Point) →
      Firm (opens xs body us p)
  opens_firm xs body None p = tt
  opens_firm xs body (Some (us, vs)) p = tt

  routine_firm : (b : Bool) (x : List ℕ) (es : Exprs) (p : Point) → Has p.environment → Left p.tasks →
      Firm (begins_routine b x es p)
  routine_firm true x no_exprs p h l = tt
  routine_firm true x (expr_then a no_exprs) p h l = (h, (tt, (tt, l)))
  routine_firm true x (expr_then a (expr_then f es)) p h l = tt
  routine_firm false x es p h l = (h, actuals_left 0 es (CallUnqualified x (count es)) p.tasks (tt, l))

  -- all names are known after the actuals
  depth : (cs : List Binding) → Has cs → (m : ℕ) × (length cs ≡ length bs + m)
  depth cs (more, e) = (length more, ap length e ∙ length_past bs more)

  begins_firm : (i : Instr) (p : Point) → Has p.environment → Left p.tasks → Firm (begins i p)
  begins_firm (tree.Assign q x e) p h l = (h, (tt, (tt, l)))
  begins_firm (tree.PrintText q text) p h l = tt
  begins_firm (tree.CallRoutine q tree.no_target x es) p h l = routine_firm (is_print x.text) x.text es p h l
  begins_firm (tree.CallRoutine q (tree.target a) x es) p h l =
      (h, (tt, actuals_left 0 es (CallQualified x.text (count es)) p.tasks (tt, l)))
  begins_firm (tree.Create q c) p h l = (
    h,
    actuals_left 0 (actuals_of c.call) (CreateBy c.variable (procedure_of c.call) (count (actuals_of c.call)))
        p.tasks (tt, l),
  )
  begins_firm (tree.If q e body cs other) p h l = (h, (tt, (depth p.environment h, l)))
  begins_firm (tree.Loop q initial e body) p h l = (h, (tt, (tt, l)))
  begins_firm (tree.Check q ks) p h l = (h, checks_left ks p.tasks l)
  begins_firm (tree.Block q ds body) p h l =
      (h, heads_left ds (Open (map (λ (d : Head). d.name) ds) body) p.tasks (tt, l))

  -- ---- creations

  made_firm : (r : Reference) (t : EntityType) (call : Option (List ℕ)) (us : List Operand) (p : Point) →
      Has p.environment → Left p.tasks → Firm (creates_object s r t call us p)
  made_firm r t (Some x) us p h l = (h, l)
  made_firm r t None us p h l = if_firm (meets_invariant s (fresh_object s r.class)) _ (fails cause.Invariant p) tt tt

  creates_firm : (call : Option (List ℕ)) (t : EntityType) (g : Tag) (c : ClassId) (us : List Operand) (p : Point) →
      Has p.environment → Left p.tasks →
      Firm (creates_at s me call t g c us p)
  creates_firm call t tag.Own (class.Declared k) us p h l = if_firm (nat_lt (length p.objects) max_objects) _
      (fails cause.TooManyObjects p)
      (made_firm (record { handler = me.handler; number = length p.objects + 1; class = k }) t call us
      (record p { objects = p.objects ++ fresh_object s k ∷ [] }) h l) tt
  creates_firm call t tag.Any (class.Declared k) us p h l = tt
  creates_firm call t tag.Own class.Any us p h l = tt
  creates_firm call t tag.Own class.None us p h l = tt
  creates_firm call t tag.Own class.Integer us p h l = tt
  creates_firm call t tag.Own class.Boolean us p h l = tt
  creates_firm call t tag.Any class.Any us p h l = tt
  creates_firm call t tag.Any class.None us p h l = tt
  creates_firm call t tag.Any class.Integer us p h l = tt
  creates_firm call t tag.Any class.Boolean us p h l = tt
  creates_firm call t (tag.With x) c us p h l = tt
  creates_firm call t tag.None c us p h l = tt

  creates_as_firm : (call : Option (List ℕ)) (t : Option EntityType) (us : List Operand) (p : Point) →
      Has p.environment → Left p.tasks → Firm (creates_as s me call t us p)
  creates_as_firm call None us p h l = tt
  creates_as_firm call (Some t) us p h l = creates_firm call t t.tag t.class us p h l

  create_firm : (v : Variable) (call : Option (List ℕ)) (us : Option (List Operand × List Operand)) (p : Point) →
      Has p.environment → Left p.tasks → Firm (creates s me v call us p)
  create_firm v call None p h l = tt
  create_firm v call (Some (us, vs)) p h l =
      creates_as_firm call (assignee_type (assigned_at s v p)) us
      (record p { tasks = AssignTo v ∷ p.tasks; values = vs }) h (tt, l)

  -- ---- tasks

  -- a contract's task, where p.tasks is what is left after it
  of_contract : (t : Task) (p : Point) → IsOfContract t → Has p.environment → Left p.tasks →
      Firm (performs s me t p.values p)
  of_contract t p o h l = by (performs s me t p.values p)
      (contract s me t [] p.tasks (record p { tasks = t ∷ p.tasks }) refl o tt)
    where
      stays : (q : Point) → StaysInContract p.tasks (record p { tasks = t ∷ p.tasks }) q →
          Has q.environment × Left q.tasks
      stays q y = (
        subst Has (sym y.environment_is) h,
        subst Left (sym y.tasks_are)
            (contract_left y.tasks p.tasks y.of_contract l),
      )

      by : (x : Step) → StepsInContract p.tasks (record p { tasks = t ∷ p.tasks }) x → Firm x
      by (Goes q) y = stays q y
      by (Does (Enters c o x us g) q) y = stays q y
      by (Does (Requests o x us g passes) q) y = stays q y
      by (Does Starts q) y = tt
      by (Does (Refuses k) q) y = tt
      by (Does (Fails why) q) y = tt
      by (Does (Prints text) q) y = tt
      by (Does Until q) y = absurd y
      by (Does Creates q) y = tt
      by (Does (CreatesHandler k x us t passes) q) y = tt
      by (Does Opens q) y = tt
      by (Does Leaves q) y = tt
      by (Does Exits q) y = tt

  pub performs_firm : (t : Task) (vs : List Operand) (p : Point) → p.values ≡ vs → IsBehind t → Has p.environment →
      Left p.tasks → Firm (performs s me t vs p)
  performs_firm (Do no_instrs) vs p e o h l = (h, l)
  performs_firm (Do (instr_then i is)) vs p e o h l = begins_firm i (record p { tasks = Do is ∷ p.tasks }) h (tt, l)
  performs_firm (In text) vs p e o h l = (h, l)
  performs_firm (Declare locals) vs p e o h l = (longer p.environment (locals_bound s p.text.formals locals) h, l)
  performs_firm (Forget d) vs p e o h l = (shorter p.environment d h o, l)
  performs_firm (Eval i a) vs p e o h l = evaluate_firm i a p h l
  performs_firm (CallUnqualified x n) vs p e o h l = subst (λ vs. Firm (performs s me (CallUnqualified x n) vs p)) e
      (of_contract (CallUnqualified x n) p tt h l)
  performs_firm (CallQualified x n) vs p e o h l = subst (λ vs. Firm (performs s me (CallQualified x n) vs p)) e
      (of_contract (CallQualified x n) p tt h l)
  performs_firm (Repeat until body) vs p e o h l = (h, (tt, (tt, l)))
  performs_firm (Require []) vs p e o h l = tt
  performs_firm (Require (k ∷ ks)) vs p e o h l = (h, (tt, (tt, (tt, l))))
  performs_firm (CreateBy x k n) vs p e o h l = create_firm x k (popped n [] vs) p h l
  performs_firm (Open xs body) vs p e o h l = opens_firm xs body (popped (length xs) [] vs) p
  performs_firm (Leave d) vs p e o h l = tt
  performs_firm (ApplyUnary op) vs p e o h l = subst (λ vs. Firm (performs s me (ApplyUnary op) vs p)) e
      (of_contract (ApplyUnary op) p tt h l)
  performs_firm (ApplyBinary op) vs p e o h l = subst (λ vs. Firm (performs s me (ApplyBinary op) vs p)) e
      (of_contract (ApplyBinary op) p tt h l)
  performs_firm Conclude vs p e o h l = subst (λ vs. Firm (performs s me Conclude vs p)) e
      (of_contract Conclude p tt h l)
  performs_firm (Required k) vs p e o h l = subst (λ vs. Firm (performs s me (Required k) vs p)) e
      (of_contract (Required k) p tt h l)
  performs_firm KeepOld vs p e o h l = subst (λ vs. Firm (performs s me KeepOld vs p)) e (of_contract KeepOld p tt h l)
  performs_firm Ensured vs p e o h l = subst (λ vs. Firm (performs s me Ensured vs p)) e (of_contract Ensured p tt h l)
  performs_firm (EvalRight op i right) [] p e o h l = tt
  performs_firm (Bind d x) [] p e o h l = tt
  performs_firm (AssignTo x) [] p e o h l = tt
  performs_firm Print [] p e o h l = tt
  performs_firm (Choose d body cs other) [] p e o h l = tt
  performs_firm (EndLoop until body) [] p e o h l = tt
  performs_firm Checked [] p e o h l = tt
  performs_firm (EvalRight op i right) (u ∷ vs) p e o h l =
      right_firm (decided_by op u.value) (is_short op) op i right u (record p { values = vs }) h l
  performs_firm (Bind d x) (u ∷ vs) p e o h l = binds_firm d x u.value (test_type (place_in s p.text) d (Some u.type))
      (record p { values = vs }) h l
  performs_firm (AssignTo x) (u ∷ vs) p e o h l = assigns_firm x u.value (record p { values = vs }) h l
  performs_firm Print (u ∷ vs) p e o h l = prints_firm u.value (record p { values = vs })
  performs_firm (Choose d body cs other) (u ∷ vs) p e o h l =
      chooses_firm d u.value body cs other (record p { values = vs }) o h l
  performs_firm (EndLoop until body) (u ∷ vs) p e o h l =
      ends_loop_firm u.value until body (record p { values = vs }) h l
  performs_firm Checked (u ∷ vs) p e o h l = tests_firm cause.Check u.value (record p { values = vs }) h l
