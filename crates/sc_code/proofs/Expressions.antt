-- How an expression begins.
use Rattle.std.proofs.Common.{◌≡◌, ℕ, zero, suc, ◌+◌, List, [], ◌∷◌, ◌++◌, Option, Some, None, true, false, length, max, refl, sym, ap, ◌∙◌, subst, arith, length-append, append_assoc}
use Rattle.std.specs.Prelude.{if◌then◌else◌, slice_get}
use Rattle.std.specs.Option.{option_map}
use Rattle.sc_tree.specs.declared.expression.UnaryOperator.{UnaryOperator}
use Rattle.sc_tree.specs.declared.expression.UnaryOperator.TheVariants as unary
use Rattle.sc_tree.specs.declared.expression.BinaryOperator.{BinaryOperator}
use Rattle.sc_tree.specs.declared.expression.BinaryOperator.TheVariants as binary
use Rattle.sc_tree.specs.Plain as tree
use Rattle.sc_tree.specs.Plain.{System, Expr, Exprs, FeatureKind}
use Rattle.sc_class.specs.declared.identity.ClassId.TheVariants as class
use Rattle.sc_class.specs.Tables.Features.{feature_named}
use Rattle.sc_rules.specs.declared.entity_types.entity_type.EntityType.{EntityType}
use Rattle.sc_rules.specs.entity_types.Conformance.{void, integer, boolean}
use Rattle.sc_rules.specs.CallRules.{count}
use Rattle.sc_rules.specs.Names.{Entities, current}
use Rattle.sc_model.specs.Values.{Reference, Value, Integer, Boolean, Void, Attached, Operand, values_of}
use Rattle.sc_model.specs.Environments.{Binding, binding_named, scope_of}
use Rattle.sc_model.specs.Objects.{attributes_of}
use Rattle.sc_model.specs.Operators.{is_short}
use Rattle.sc_model.specs.Olds.{olds_in}
use Rattle.sc_model.specs.Calls.{given_by}
use Rattle.sc_model.specs.Routines.{Text}
use Rattle.sc_model.specs.Steps as model
use Rattle.sc_model.specs.Steps.{Point}
use Rattle.sc_model.specs.Expressions.{evaluate, begins_name, begins_feature, begins_kind, reads_own, reads_result, gives_found}
use Rattle.sc_model.specs.Tasks as task
use Rattle.sc_model.specs.Tasks.{Task, evals}
use Rattle.sc_code.specs.Operations.{Operation, PushInteger, PushBoolean, PushVoid, PushCurrent, PushResult, PushSlot, PushAttribute, PushOld, ApplyUnary, ApplyBinary, Decide, Conclude}
use Rattle.sc_code.specs.Places.{here, expr_type, exprs_types, unary_type, binary_type}
use Rattle.sc_code.specs.Emitted.{expr_code, exprs_code, expr_depth, exprs_depth, result_code, name_code, kind_code, attribute_code, name_depth, kind_depth, operand_depth, routine_call, feature_call, right_code}
use Rattle.sc_code.specs.Machine.{Gives, read, found, pushes}
use Rattle.sc_code.specs.Typed.{IsTyped, integer_value, boolean_value, void_value, current_object, result, entity_value, attribute, routine, feature, old, unary_operation, binary_operation}
use Rattle.sc_code.specs.Stands.{Run, Knowledge, Known, Has, Room, StandsFor, evaluates, applies_unary, evaluates_right, decides, calls_routine, calls_feature, setting_in, types_of, state_at, Follows}
use Rattle.sc_code.proofs.Hops.{has_front, has_back, given_as, stands, stays, pushed}
use Rattle.sc_code.proofs.Names.{known_slot, unknown_slot}
use Rattle.sc_code.proofs.Codes.{type_is, types_are, no_names, count_is, popped_actuals, routine_site, routine_length, feature_site, feature_length, evals_stand}
use Rattle.sc_code.proofs.Operators.{reading_is}

-- what is kept of an operand
abbrev value_at : Option Operand → Option Value
value_at o = option_map (λ (u : Operand). u.value) o

abbrev type_at : Option Operand → Option EntityType
type_at o = option_map (λ (u : Operand). u.type) o

value_got : (os : List Operand) (i : ℕ) → slice_get (values_of os) i ≡ value_at (slice_get os i)
value_got [] i = refl
value_got (o ∷ os) zero = refl
value_got (o ∷ os) (suc i) = value_got os i

type_got : (os : List Operand) (i : ℕ) → slice_get (types_of os) i ≡ type_at (slice_get os i)
type_got [] i = refl
type_got (o ∷ os) zero = refl
type_got (o ∷ os) (suc i) = type_got os i

-- an `old` of the type
found_is : (o : Option Operand) (t : EntityType) (p : Point) → type_at o ≡ Some t → gives_found o p ≡ given_as (found (value_at o)) t p
found_is None t p e = absurd (cc)
found_is (Some u) t p e = let same : u.type ≡ t = cc in ap (λ t. model.gives u.value t p) same

-- Result of the routine's own type
result_is : (o : Option Operand) (u t : EntityType) (p : Point) → type_at o ≡ Some u → reads_result o (Some (Some t)) p ≡ given_as (read u.attached (value_at o)) t p
result_is None u t p e = absurd (cc)
result_is (Some w) u t p e =
    let same : w.type ≡ u = cc in
    reading_is w.type w.value t p ∙ ap (λ (d : EntityType). given_as (read d.attached (Some w.value)) t p) same

-- an attribute of the type
pub attribute_is : (b : Option Binding) (t : EntityType) (p : Point) → model.reads_attribute b t p ≡ given_as (read t.attached (option_map (λ (b : Binding). b.value) b)) t p
attribute_is None t p = refl
attribute_is (Some b) t p = reading_is t b.value t p

short_type : (op : BinaryOperator) → is_short op ≡ true → binary_type op ≡ boolean
short_type binary.Times e = absurd (cc)
short_type binary.Quotient e = absurd (cc)
short_type binary.Remainder e = absurd (cc)
short_type binary.Plus e = absurd (cc)
short_type binary.Minus e = absurd (cc)
short_type binary.Equal e = refl
short_type binary.NotEqual e = refl
short_type binary.Less e = refl
short_type binary.Greater e = refl
short_type binary.LessEqual e = refl
short_type binary.GreaterEqual e = refl
short_type binary.And e = refl
short_type binary.AndThen e = refl
short_type binary.Or e = refl
short_type binary.OrElse e = refl
short_type binary.Xor e = refl
short_type binary.Implies e = refl

module _ (g : Run) (me : Reference) where
  -- one operation that pushes
  leaf : (code : List Operation) (pc : ℕ) (x : Knowledge) (k : List Task) → length code ≡ 1 → StandsFor g (pc + length code) x k → StandsFor g (pc + 1) x k
  leaf code pc x k e st = subst (λ n. StandsFor g (pc + n) x k) e st

  -- the right operand of an operator
  right_stands : (q i : ℕ) (t : Text) (n : Entities) (o ts : List EntityType) (op : BinaryOperator) (e : Expr) (u v : EntityType) (k : List Task)
      → Has g q (right_code op (expr_code (setting_in g t o) n i e)) → IsTyped (setting_in g t o) n i e u
      → Room g ts (operand_depth op (expr_depth (setting_in g t o) n i e))
      → StandsFor g (q + length (right_code op (expr_code (setting_in g t o) n i e))) (Known t n o (binary_type op ∷ ts)) k
      → StandsFor g q (Known t n o (v ∷ ts)) (task.EvalRight op i e ∷ k)
  right_stands q i t n o ts op e u v k has typed room st =
      let code = expr_code (setting_in g t o) n i e in
      let d = expr_depth (setting_in g t o) n i e in
      elim (is_short op) as (λ c. is_short op ≡ c → Has g q (if c then Decide op (length code + 1) ∷ (code ++ Conclude ∷ []) else code ++ ApplyBinary op ∷ [])
      → Room g ts (if c then d else suc d)
      → StandsFor g (q + length (if c then Decide op (length code + 1) ∷ (code ++ Conclude ∷ []) else code ++ ApplyBinary op ∷ [])) (Known t n o (binary_type op ∷ ts)) k
      → StandsFor g q (Known t n o (v ∷ ts)) (task.EvalRight op i e ∷ k)) [
        | true ↦ λ is h r s.
            let h' : Has g q (right_code op code) = has in
            let e1 : q + length (Decide op (length code + 1) ∷ (code ++ Conclude ∷ [])) ≡ q + 1 + (length code + 1) = omega (arith, length-append code (Conclude ∷ [])) in
            let b : binary_type op ≡ boolean = short_type op is in
            decides {u = u} is h' typed r
            (subst (λ w. StandsFor g (q + 1 + (length code + 1)) (Known t n o (w ∷ ts)) k) b (subst (λ m. StandsFor g m (Known t n o (binary_type op ∷ ts)) k) e1 s))
        | false ↦ λ is h r s.
            let e1 : q + length (code ++ ApplyBinary op ∷ []) ≡ q + length code + 1 = omega (arith, length-append code (ApplyBinary op ∷ [])) in
            evaluates_right {u = u} refl is h typed (omega (arith, r)) (subst (λ m. StandsFor g m (Known t n o (binary_type op ∷ ts)) k) e1 s)
      ] refl has room st

  begun : (pc : ℕ) (x : Knowledge) (ts : List Task) (last : Task) (k : List Task) → StandsFor g pc x (ts ++ (last ∷ k)) → StandsFor g pc x ((ts ++ last ∷ []) ++ k)
  begun pc x ts last k st = subst (StandsFor g pc x) (sym (append_assoc ts (last ∷ []) k)) st

  operand_follows : (pc : ℕ) (tail : List Value) (p : Point) (i : ℕ) (op : UnaryOperator) (a : Expr) (t : EntityType)
      → Has g pc (expr_code (setting_in g p.text (types_of p.olds)) (scope_of p.environment) i a ++ ApplyUnary op ∷ [])
      → IsTyped (setting_in g p.text (types_of p.olds)) (scope_of p.environment) i a t
      → Room g (types_of p.values) (expr_depth (setting_in g p.text (types_of p.olds)) (scope_of p.environment) i a)
      → StandsFor g (pc + length (expr_code (setting_in g p.text (types_of p.olds)) (scope_of p.environment) i a ++ ApplyUnary op ∷ []))
      (Known p.text (scope_of p.environment) (types_of p.olds) (unary_type op ∷ types_of p.values)) p.tasks
      → length p.environment + length tail ≡ g.slots → type_at p.result ≡ g.result
      → Follows g me pc tail p (model.comes (task.Eval i a ∷ task.ApplyUnary op ∷ []) p)
  operand_follows pc tail p i op a t has typed room st l r =
      let code = expr_code (setting_in g p.text (types_of p.olds)) (scope_of p.environment) i a in
      let q = record p { tasks = task.Eval i a ∷ task.ApplyUnary op ∷ p.tasks } in
      let e : pc + length (code ++ ApplyUnary op ∷ []) ≡ pc + length code + 1 = omega (arith, length-append code (ApplyUnary op ∷ [])) in
      stays g me pc tail tail p q refl
      (stands g me pc tail q
      (evaluates (has_front g.code.operations pc code (ApplyUnary op ∷ []) has) typed room
      (applies_unary (has_back g.code.operations pc code (ApplyUnary op ∷ []) has).0
      (subst (λ m. StandsFor g m (Known p.text (scope_of p.environment) (types_of p.olds) (unary_type op ∷ types_of p.values)) p.tasks) e st))) l r)

  pub evaluate_follows : (pc : ℕ) (tail : List Value) (p : Point) (i : ℕ) (e : Expr) (u : EntityType)
      → Has g pc (expr_code (setting_in g p.text (types_of p.olds)) (scope_of p.environment) i e)
      → IsTyped (setting_in g p.text (types_of p.olds)) (scope_of p.environment) i e u
      → Room g (types_of p.values) (expr_depth (setting_in g p.text (types_of p.olds)) (scope_of p.environment) i e)
      → StandsFor g (pc + length (expr_code (setting_in g p.text (types_of p.olds)) (scope_of p.environment) i e))
      (Known p.text (scope_of p.environment) (types_of p.olds) (u ∷ types_of p.values)) p.tasks
      → length p.environment + length tail ≡ g.slots → type_at p.result ≡ g.result → Follows g me pc tail p (evaluate g.system me i e p)
  evaluate_follows pc tail p i (tree.Integer q z) u has integer_value room st l r =
      pushed g me (Gives (Integer z)) integer pc (PushInteger z) tail p p has.0 refl room st l r
  evaluate_follows pc tail p i (tree.Boolean q b) u has boolean_value room st l r =
      pushed g me (Gives (Boolean b)) boolean pc (PushBoolean b) tail p p has.0 refl room st l r
  evaluate_follows pc tail p i (tree.Void q) u has void_value room st l r =
      pushed g me (Gives Void) void pc PushVoid tail p p has.0 refl room st l r
  evaluate_follows pc tail p i (tree.Current q) u has current_object room st l r =
      pushed g me (Gives (Attached me)) (current (here (setting_in g p.text (types_of p.olds)))) pc PushCurrent tail p p has.0 refl room st l r
  evaluate_follows pc tail p i (tree.Result q) t has (result {u = u} a b) room st l r =
      let code : result_code g.result ≡ PushResult u.attached ∷ [] = ap result_code a in
      let has' = subst (Has g pc) code has in
      let st' = subst (λ c. StandsFor g (pc + length c) (Known p.text (scope_of p.environment) (types_of p.olds) (t ∷ types_of p.values)) p.tasks) code st in
      subst (Follows g me pc tail p) (sym (ap (λ x. reads_result p.result x p) b ∙ result_is p.result u t p (r ∙ a)))
      (pushed g me (read u.attached (value_at p.result)) t pc (PushResult u.attached) tail p p has'.0 refl room st' l r)
  evaluate_follows pc tail p i (tree.Call q tree.no_target x es) t has (entity_value {k = k} a) room st l r =
      let h = setting_in g p.text (types_of p.olds) in
      let n = scope_of p.environment in
      let actuals = exprs_code h n i es in
      let call = routine_call h x.text (count es) (exprs_types h n i es) in
      let f = feature_named g.system (class.Declared p.text.class) x.text in
      let b = known_slot x.text p.environment k (Some t) a in
      let same : b.binding.type ≡ t = (let w : Some b.binding.type ≡ Some t = b.has_type in cc) in
      let code = ap (λ s. name_code h x.text actuals call s f) a in
      let depth = ap (λ s. name_depth (exprs_depth h n i es) s f) a in
      let has' = subst (Has g pc) code has in
      let st' = subst (λ c. StandsFor g (pc + length c) (Known p.text n (types_of p.olds) (t ∷ types_of p.values)) p.tasks) code st in
      let is = ap (λ b. begins_name g.system me x.text b i es p) b.is_named
      ∙ reading_is b.binding.type b.binding.value b.binding.type p
      ∙ ap (λ (d : EntityType). given_as (read d.attached (Some b.binding.value)) d p) same in
      subst (Follows g me pc tail p) (sym is)
      (pushed g me (read t.attached (Some b.binding.value)) t pc (PushSlot k t.attached) tail p p has'.0
      (ap (λ v. pushes g.code (read t.attached v) (state_at pc tail p)) (b.stands tail)) (omega (arith, room, depth)) st' l r)
  evaluate_follows pc tail p i (tree.Call q tree.no_target x es) t has (attribute {f = f} {d = d} a b c e) room st l r =
      let h = setting_in g p.text (types_of p.olds) in
      let n = scope_of p.environment in
      let actuals = exprs_code h n i es in
      let call = routine_call h x.text (count es) (exprs_types h n i es) in
      let o = feature_named g.system (class.Declared p.text.class) x.text in
      let found_at = binding_named x.text (attributes_of me.number p.objects) in
      let code = ap (λ s. name_code h x.text actuals call s o) a ∙ ap (name_code h x.text actuals call None) b ∙ ap (kind_code h x.text actuals call) c
      ∙ ap (attribute_code x.text) e in
      let depth = ap (λ s. name_depth (exprs_depth h n i es) s o) a ∙ ap (name_depth (exprs_depth h n i es) None) b ∙ ap (kind_depth (exprs_depth h n i es)) c in
      let has' = subst (Has g pc) code has in
      let st' = subst (λ c. StandsFor g (pc + length c) (Known p.text n (types_of p.olds) (t ∷ types_of p.values)) p.tasks) code st in
      let is = ap (λ b. begins_name g.system me x.text b i es p) (unknown_slot x.text p.environment a)
      ∙ ap (λ f. begins_feature g.system me x.text f i es p) b ∙ ap (λ k. begins_kind g.system me x.text k i es p) c
      ∙ ap (λ t. reads_own t found_at p) e ∙ attribute_is found_at t p in
      subst (Follows g me pc tail p) (sym is)
      (pushed g me (read t.attached (option_map (λ (b : Binding). b.value) found_at)) t pc (PushAttribute x.text t.attached) tail p p has'.0 refl (omega (arith, room, depth)) st' l r)
  evaluate_follows pc tail p i (tree.Call q tree.no_target x es) t has (routine {f = f} {r = c} {ts = us} a b k e as') room st l r =
      let h = setting_in g p.text (types_of p.olds) in
      let n = scope_of p.environment in
      let vs = types_of p.values in
      let actuals = exprs_code h n i es in
      let call = routine_call h x.text (count es) (exprs_types h n i es) in
      let o = feature_named g.system (class.Declared p.text.class) x.text in
      let code = ap (λ s. name_code h x.text actuals call s o) a ∙ ap (name_code h x.text actuals call None) b ∙ ap (kind_code h x.text actuals call) k in
      let depth = ap (λ s. name_depth (exprs_depth h n i es) s o) a ∙ ap (name_depth (exprs_depth h n i es) None) b ∙ ap (kind_depth (exprs_depth h n i es)) k in
      let has' = subst (Has g pc) code has in
      let st' = subst (λ c. StandsFor g (pc + length c) (Known p.text n (types_of p.olds) (t ∷ vs)) p.tasks) code st in
      let q1 = pc + length actuals in
      let e1 : pc + length (actuals ++ call) ≡ q1 + 1 = omega (arith, length-append actuals call, routine_length h x.text (count es) (exprs_types h n i es) f b) in
      let last : Task = task.CallUnqualified x.text (count es) in
      let next = record p { tasks = (evals i es ++ last ∷ []) ++ p.tasks } in
      let is = ap (λ b. begins_name g.system me x.text b i es p) (unknown_slot x.text p.environment a)
      ∙ ap (λ f. begins_feature g.system me x.text f i es p) b ∙ ap (λ k. begins_kind g.system me x.text k i es p) k in
      subst (Follows g me pc tail p) (sym is)
      (stays g me pc tail tail p next refl
      (stands g me pc tail next
      (begun pc (Known p.text n (types_of p.olds) vs) (evals i es) last p.tasks
      (evals_stand g p.text n (types_of p.olds) vs us i pc es (last ∷ p.tasks) (has_front g.code.operations pc actuals call has') as' (omega (arith, room, depth))
      (calls_routine b (ap given_by e) (popped_actuals us vs (count es) (count_is h n i es us as'))
      (routine_site g h q1 x.text (count es) (exprs_types h n i es) us f (has_back g.code.operations pc actuals call has') (types_are h n i es us as') b)
      (omega (arith, room, depth))
      (subst (λ m. StandsFor g m (Known p.text n (types_of p.olds) (t ∷ vs)) p.tasks) e1 st')))) l r))
  evaluate_follows pc tail p i (tree.Call q (tree.target a) x es) t has (feature {f = f} {u = u} {ts = us} ta b c as') room st l r =
      let h = setting_in g p.text (types_of p.olds) in
      let n = scope_of p.environment in
      let vs = types_of p.values in
      let j = i + olds_in a in
      let target = expr_code h n i a in
      let actuals = exprs_code h n j es in
      let call = feature_call h x.text (count es) (expr_type h n i a) (exprs_types h n j es) in
      let back = has_back g.code.operations pc target (actuals ++ call) has in
      let q1 = pc + length target in
      let q2 = q1 + length actuals in
      let one = feature_length h x.text (count es) (expr_type h n i a) u (exprs_types h n j es) f (type_is h n i a u ta) b in
      let e1 : pc + length (target ++ (actuals ++ call)) ≡ q2 + 1 = omega (arith, length-append target (actuals ++ call), length-append actuals call, one) in
      let last : Task = task.CallQualified x.text (count es) in
      let next = record p { tasks = task.Eval i a ∷ ((evals j es ++ last ∷ []) ++ p.tasks) } in
      stays g me pc tail tail p next refl
      (stands g me pc tail next
      (evaluates (has_front g.code.operations pc target (actuals ++ call) has) ta (omega (arith, room))
      (begun q1 (Known p.text n (types_of p.olds) (u ∷ vs)) (evals j es) last p.tasks
      (evals_stand g p.text n (types_of p.olds) (u ∷ vs) us j q1 es (last ∷ p.tasks) (has_front g.code.operations q1 actuals call back) as' (omega (arith, room))
      (calls_feature (popped_actuals us (u ∷ vs) (count es) (count_is h n j es us as')) b (ap given_by c)
      (feature_site g h q2 x.text (count es) (expr_type h n i a) u (exprs_types h n j es) us f (has_back g.code.operations q1 actuals call back) (type_is h n i a u ta) (types_are h n j es us as') b)
      (omega (arith, room))
      (subst (λ m. StandsFor g m (Known p.text n (types_of p.olds) (t ∷ vs)) p.tasks) e1 st))))) l r)
  evaluate_follows pc tail p i (tree.Unary q unary.Old a) t has (old e) room st l r =
      subst (Follows g me pc tail p) (sym (found_is (slice_get p.olds i) t p (sym (type_got p.olds i) ∙ e)))
      (pushed g me (found (value_at (slice_get p.olds i))) t pc (PushOld i) tail p p has.0 (ap (λ v. pushes g.code (found v) (state_at pc tail p)) (value_got p.olds i)) room st l r)
  evaluate_follows pc tail p i (tree.Unary q unary.Old a) u has (unary_operation e t) room st l r = absurd (cc)
  evaluate_follows pc tail p i (tree.Unary q unary.Not a) u has (unary_operation {t = t} e ty) room st l r = operand_follows pc tail p i unary.Not a t has ty room st l r
  evaluate_follows pc tail p i (tree.Unary q unary.Plus a) u has (unary_operation {t = t} e ty) room st l r = operand_follows pc tail p i unary.Plus a t has ty room st l r
  evaluate_follows pc tail p i (tree.Unary q unary.Minus a) u has (unary_operation {t = t} e ty) room st l r = operand_follows pc tail p i unary.Minus a t has ty room st l r
  evaluate_follows pc tail p i (tree.Binary q op a b) u has (binary_operation {t = ta} {u = tb} x y) room st l r =
      let h = setting_in g p.text (types_of p.olds) in
      let n = scope_of p.environment in
      let vs = types_of p.values in
      let j = i + olds_in a in
      let same = no_names h n i a ta x in
      let left = expr_code h n i a in
      let has' = subst (λ m. Has g pc (left ++ right_code op (expr_code h m j b))) same has in
      let room' = subst (λ m. Room g vs (max (expr_depth h n i a) (operand_depth op (expr_depth h m j b)))) same room in
      let st' = subst (λ m. StandsFor g (pc + length (left ++ right_code op (expr_code h m j b))) (Known p.text n (types_of p.olds) (binary_type op ∷ vs)) p.tasks) same st in
      let right = right_code op (expr_code h n j b) in
      let q1 = pc + length left in
      let e1 : pc + length (left ++ right) ≡ q1 + length right = omega (arith, length-append left right) in
      let next = record p { tasks = task.Eval i a ∷ task.EvalRight op j b ∷ p.tasks } in
      stays g me pc tail tail p next refl
      (stands g me pc tail next
      (evaluates (has_front g.code.operations pc left right has') x (omega (arith, room'))
      (right_stands q1 j p.text n (types_of p.olds) vs op b tb ta p.tasks (has_back g.code.operations pc left right has') y (omega (arith, room'))
      (subst (λ m. StandsFor g m (Known p.text n (types_of p.olds) (binary_type op ∷ vs)) p.tasks) e1 st'))) l r)
  evaluate_follows pc tail p i (tree.ObjectTest q d a x) u has typed room st l r = elim typed [ ]
