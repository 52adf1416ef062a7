-- In a well-formed system the calls in the code of an expression fit into requests.
use Rattle.std.proofs.Common.{◌≡◌, ◌<◌, ◌≤◌, ℕ, ◌+◌, Bool, true, false, List, [], ◌∷◌, ◌++◌, length, Option, Some, None, refl, ap, subst, arith}
use Rattle.std.specs.Prelude.{◌&&◌, ◌||◌, Contains, nat_lt, slice_get, if◌then◌else◌}
use Rattle.std.specs.List.{AllByRecursion}
use Rattle.std.proofs.lemmas.Bool.{lt-ltb, ltb-false, ltb-true}
use Rattle.std.proofs.lemmas.List.{length-map}
use Rattle.sc_text.specs.declared.token.Span.{Span}
use Rattle.sc_tree.specs.declared.expression.UnaryOperator.TheVariants as unary
use Rattle.sc_tree.specs.declared.expression.BinaryOperator.{BinaryOperator}
use Rattle.sc_tree.specs.Plain as tree
use Rattle.sc_tree.specs.Plain.{System, Class, Feature, FeatureKind, Declaration, RoutineDeclaration, Name, Expr, Exprs, no_exprs, expr_then, Target}
use Rattle.sc_tree.specs.Properties.{is_print}
use Rattle.sc_class.specs.declared.identity.ClassId.{ClassId}
use Rattle.sc_class.specs.declared.identity.ClassId.TheVariants as class
use Rattle.sc_class.specs.declared.fault.ClassFault.TheVariants as fault
use Rattle.sc_class.specs.ClassNames.{Root}
use Rattle.sc_class.specs.Faults.ClassRules.{IsFaultless, limit}
use Rattle.sc_class.specs.Faults.Limits.{is_large, large_routine, many_classes, max_formals, max_locals, block_names_of, has_wide_block_in}
use Rattle.sc_class.specs.Tables.Features.{DeclaredFeature, feature_named}
use Rattle.sc_class.proofs.Items.{contains_at}
use Rattle.sc_class.proofs.Declarers.{found_stands}
use Rattle.sc_rules.specs.declared.entity_types.entity_type.EntityType.{EntityType}
use Rattle.sc_rules.specs.declared.position.Context.{Context}
use Rattle.sc_rules.specs.declared.position.Position.{Position}
use Rattle.sc_rules.specs.declared.position.Position.TheVariants as spot
use Rattle.sc_rules.specs.declared.position.Use.{Use}
use Rattle.sc_rules.specs.declared.position.Use.TheVariants.{Value}
use Rattle.sc_rules.specs.Types.{declared_type}
use Rattle.sc_rules.specs.Positions.{operand_context, operand_position, shares_names}
use Rattle.sc_rules.specs.Names.{RoutineName, RoutineContext, Entity, Entities, entity_named, formal_type, Signature, named, current, signature_of, signature_of_kind, entity_signature, print_signature, meaning_of_feature, entity_or, meaning_of}
use Rattle.sc_rules.specs.Sites.{Site, expression, IsActual, first_actual, later_actual, Part, target_part, actual_part, operand_part, left_part, right_part, joined_left_part, joined_right_part, tested_part, itself, inside}
use Rattle.sc_rules.specs.Purity.{IsPurity}
use Rattle.sc_rules.specs.CallRules.{count}
use Rattle.sc_rules.specs.SystemRules.{WellFormed}
use Rattle.sc_rules.specs.SystemLaws.{Stands, stands_in, CallsWith, as_value}
use Rattle.sc_rules.proofs.WellFormed.{further}
use Rattle.sc_rules.proofs.Typings.{all_append}
use Rattle.sc_rules.proofs.CallLaws.{calls_stand_lem}
use Rattle.sc_rules.proofs.TextLaws.{conditions_give}
use Rattle.sc_model.specs.Operators.{is_short}
use Rattle.sc_model.specs.Olds.{olds_in, olds_of, olds_of_each}
use Rattle.sc_code.specs.Operations.{Operation, ApplyBinary, ApplyUnary, CallFeature, CallRoutine, Conclude, Decide, Test}
use Rattle.sc_code.specs.Places.{Setting, here, expr_type, exprs_types, names_given, slot_named}
use Rattle.sc_code.specs.Emitted.{attribute_code, call_code, expr_code, exprs_code, feature_call, kind_code, name_code, result_code, right_code, routine_call, tested}
use Rattle.sc_lower.specs.Fitting.{AllFit, fits}

-- ---- lists

pub joined : (xs ys : List Operation) → AllFit xs → AllFit ys → AllFit (xs ++ ys)
joined xs ys f g = all_append fits xs ys f g

-- one more before others
pub with_first : (o : Operation) (os : List Operation) → fits o ≡ true → AllFit os → AllFit (o ∷ os)
with_first o os f g = simp (f, g) refl

pub each_joined : {A : Type 0} (P : A → Type 0) (xs ys : List A) → AllByRecursion P xs → AllByRecursion P ys → AllByRecursion P (xs ++ ys)
each_joined P [] ys f g = g
each_joined P (x ∷ xs) ys f g = (f.0, each_joined P xs ys f.1 g)

-- ---- limits

pub neither : (a b : Bool) → (a || b) ≡ false → (a ≡ false) × (b ≡ false)
neither false b e = (refl, e)
neither true b e = cc

few : (n : ℕ) → nat_lt 16 n ≡ false → n < 17
few n e = let l = ltb-false 16 n e in omega (arith, l)

pub has_room : (n : ℕ) → nat_lt 16 n ≡ false → nat_lt n 17 ≡ true
has_room n e = lt-ltb n 17 (few n e)

-- In a system without faults no feature is a large routine.
pub none_large : (s : System) (root : Root) → IsFaultless s root → (k : ℕ) (c : Class) (f : Feature) → slice_get s.classes k ≡ Some c → Contains c.features f → is_large f.kind ≡ false
none_large s root w k c f i (j, l, e) = by (is_large f.kind) refl
  where
    by : (b : Bool) → is_large f.kind ≡ b → b ≡ false
    by false z = refl
    by true z =
        let there = contains_at s.classes k c i in
        absurd (w fault.Limit (limit (large_routine (there.0, c, there.1, there.2, (j, f, l, e, z)))))

pub classes_few : (s : System) (root : Root) → IsFaultless s root → length s.classes ≤ 256
classes_few s root w = by (nat_lt 256 (length s.classes)) refl
  where
    by : (b : Bool) → nat_lt 256 (length s.classes) ≡ b → length s.classes ≤ 256
    by false z = ltb-false 256 (length s.classes) z
    by true z = absurd (w fault.Limit (limit (many_classes (ltb-true 256 (length s.classes) z))))

-- A routine that isn't large has at most 16 formals, and no block of it has more names.
pub small_routine : (r : RoutineDeclaration) → is_large (tree.Routine r) ≡ false → (nat_lt max_formals (length r.formals) ≡ false) × (has_wide_block_in r.body ≡ false)
small_routine r e =
    let either = neither (nat_lt max_formals (length r.formals) || nat_lt max_locals (length r.locals + block_names_of r.body)) (has_wide_block_in r.body) e in
    ((neither (nat_lt max_formals (length r.formals)) (nat_lt max_locals (length r.locals + block_names_of r.body)) either.0).0, either.1)

-- what a feature takes that is no large routine
few_taken : (s : System) (t : EntityType) (f : DeclaredFeature) → is_large f.feature.kind ≡ false → length (signature_of s t f).formals < 17
few_taken s t f e = by f.feature.kind e
  where
    by : (m : FeatureKind) → is_large m ≡ false → length (signature_of_kind s t f m).formals < 17
    by (tree.Attribute d) e = omega arith
    by (tree.Routine r) e =
        let l = few (length r.formals) (small_routine r e).0 in
        let m = length-map r.formals (λ (d : Declaration). formal_type (declared_type s r.formals d.declared_type)) in
        omega (arith, l, m)

same_signature : (g k : Signature) → named g ≡ named k → g ≡ k
same_signature g k e = cc

-- What a name of a class stands for takes at most 16 actuals.
pub few_meant : (s : System) (root : Root) → IsFaultless s root → (t : EntityType) (c : ClassId) (x : List ℕ) (g : Signature) →
    meaning_of_feature s t (feature_named s c x) ≡ named g → length g.formals < 17
few_meant s root w t c x g m = by (feature_named s c x) refl m
  where
    small : (c : ClassId) (f : DeclaredFeature) → feature_named s c x ≡ Some f → is_large f.feature.kind ≡ false
    small (class.Declared k) f e = let there = found_stands s k x f e in none_large s root w f.class there.class f.feature there.is_class there.declares
    small class.Any f e = cc
    small class.None f e = cc
    small class.Integer f e = cc
    small class.Boolean f e = cc

    by : (o : Option DeclaredFeature) → feature_named s c x ≡ o → meaning_of_feature s t o ≡ named g → length g.formals < 17
    by None e m = cc
    by (Some f) e m = subst (λ (g : Signature). length g.formals < 17) (same_signature (signature_of s t f) g m) (few_taken s t f (small c f e))

-- ---- parts of the code of an expression

attribute_fits : (x : List ℕ) (o : Option EntityType) → AllFit (attribute_code x o)
attribute_fits x None = refl
attribute_fits x (Some t) = refl

result_fits : (o : Option EntityType) → AllFit (result_code o)
result_fits None = refl
result_fits (Some t) = refl

pub routine_call_fits : (g : Setting) (x : List ℕ) (c : ℕ) (ts : List EntityType) → nat_lt c 17 ≡ true → AllFit (routine_call g x c ts)
routine_call_fits g x c ts e = by (feature_named g.system (class.Declared g.text.class) x)
  where
    by : (f : Option DeclaredFeature) → AllFit (call_code CallRoutine g.system x c (current (here g)) ts f)
    by None = refl
    by (Some f) = ap (λ b. b && true) e

pub feature_call_fits : (g : Setting) (x : List ℕ) (c : ℕ) (o : Option EntityType) (ts : List EntityType) → nat_lt c 17 ≡ true → AllFit (feature_call g x c o ts)
feature_call_fits g x c None ts e = refl
feature_call_fits g x c (Some t) ts e = by (feature_named g.system t.class x)
  where
    by : (f : Option DeclaredFeature) → AllFit (call_code CallFeature g.system x c t ts f)
    by None = refl
    by (Some f) = ap (λ b. b && true) e

name_fits : (g : Setting) (x : List ℕ) (actuals call : List Operation) → AllFit actuals → AllFit call → (o : Option (ℕ × Option EntityType)) (f : Option DeclaredFeature) →
    AllFit (name_code g x actuals call o f)
name_fits g x actuals call a c (Some (k, Some t)) f = refl
name_fits g x actuals call a c (Some (k, None)) f = refl
name_fits g x actuals call a c None None = refl
name_fits g x actuals call a c None (Some f) = by f.feature.kind
  where
    by : (m : FeatureKind) → AllFit (kind_code g x actuals call m)
    by (tree.Attribute d) = attribute_fits x _
    by (tree.Routine r) = joined actuals call a c

right_fits : (op : BinaryOperator) (b : List Operation) → AllFit b → AllFit (right_code op b)
right_fits op b f = by (is_short op)
  where
    by : (short : Bool) → AllFit (if short then Decide op (length b + 1) ∷ (b ++ Conclude ∷ []) else b ++ ApplyBinary op ∷ [])
    by true = joined b (Conclude ∷ []) f refl
    by false = joined b (ApplyBinary op ∷ []) f refl

-- the code of the expression fits, wherever it is emitted
abbrev pub CodeFits : Expr → Type 0
CodeFits e = (g : Setting) (m : Entities) (i : ℕ) → AllFit (expr_code g m i e)

-- and so does that of each operand of `old` in it
pub record ExprFits (e : Expr) : Type 0 where
  pub code : CodeFits e
  pub olds : AllByRecursion CodeFits (olds_of e)

pub record ExprsFit (es : Exprs) : Type 0 where
  pub code : (g : Setting) (m : Entities) (i : ℕ) → AllFit (exprs_code g m i es)
  pub olds : AllByRecursion CodeFits (olds_of_each es)

module _ (s : System) (root : Root) (pure : RoutineName → Bool) (faultless : IsFaultless s root) (well : WellFormed s) (tells : IsPurity s pure)
    (k : ℕ) (formals : List Declaration) (result : Option (Option EntityType)) where
  -- the text as the rules judge it
  abbrev judge : RoutineContext
  judge = record { system = s; class = k; formals = formals; result = result; pure = pure }

  abbrev There : Site → Type 0
  There b = Stands s pure judge b

  pub part_there : {a b : Site} → There a → Part judge a b → There b
  part_there (stands_in t w) p = stands_in t (further w (inside p itself))

  -- the actuals of a call that stands in the text
  pub few_actuals : (b : Site) (u : Use) (c : Context) (n : Entities) (a : Target) (x : Name) (es : Exprs) → There b → CallsWith b u c n a x es → nat_lt (count es) 17 ≡ true
  few_actuals b u c n a x es v j =
      let stands = calls_stand_lem s pure well tells judge b u c n a x es v j in
      let many = stands.4.as_many_actuals in
      let less = meant a stands.0.type stands.1 stands.3 in
      lt-ltb (count es) 17 (omega (arith, many, less))
    where
      by_print : (g : Signature) (b : Bool) → (if b then named (print_signature judge) else meaning_of_feature s (current judge) (feature_named s (class.Declared k) x.text)) ≡ named g →
          length g.formals < 17
      by_print g true m = subst (λ (g : Signature). length g.formals < 17) (same_signature (print_signature judge) g m) (omega arith)
      by_print g false m = few_meant s root faultless (current judge) (class.Declared k) x.text g m

      by_name : (g : Signature) (o : Option Entity) → entity_or judge x.text o ≡ named g → length g.formals < 17
      by_name g (Some d) m = subst (λ (g : Signature). length g.formals < 17) (same_signature (entity_signature judge d) g m) (omega arith)
      by_name g None m = by_print g (is_print x.text) m

      meant : (a : Target) (o : Option EntityType) (g : Signature) → meaning_of judge n a o x ≡ named g → length g.formals < 17
      meant tree.no_target o g m = by_name g (entity_named x.text n) m
      meant (tree.target a) (Some t) g m = few_meant s root faultless t t.class x.text g m
      meant (tree.target a) None g m = cc

  -- the operands of a binary operator
  record OperandsStand (c : Context) (n : Entities) (a b : Expr) : Type 0 where
    position : Position
    names : Entities
    left : There (expression c position n a)
    right : There (expression c position names b)

  operands_stand : (c : Context) (q : Position) (n : Entities) (p : Span) (op : BinaryOperator) (a b : Expr) → There (expression c q n (tree.Binary p op a b)) → OperandsStand c n a b
  operands_stand c q n p op a b v = by (shares_names q op) refl
    where
      by : (shares : Bool) → shares_names q op ≡ shares → OperandsStand c n a b
      by false e = record { position = operand_position op; names = n; left = part_there v (left_part e); right = part_there v (right_part e) }
      by true e =
          let left = part_there v (joined_left_part e) in
          let names = conditions_give s pure well tells judge c n a left in
          record { position = spot.Condition; names = names.0; left = left; right = part_there v (joined_right_part e names.1) }

  mutual
    pub expr_fits : (c : Context) (q : Position) (n : Entities) (e : Expr) → There (expression c q n e) → ExprFits e
    expr_fits c q n (tree.Integer p z) v = record { code = λ g m i. refl; olds = tt }
    expr_fits c q n (tree.Boolean p b) v = record { code = λ g m i. refl; olds = tt }
    expr_fits c q n (tree.Void p) v = record { code = λ g m i. refl; olds = tt }
    expr_fits c q n (tree.Current p) v = record { code = λ g m i. refl; olds = tt }
    expr_fits c q n (tree.Result p) v = record { code = λ g m i. result_fits g.result; olds = tt }
    expr_fits c q n (tree.Call p tree.no_target x es) v =
        let actuals = exprs_fit c n es (λ e a. part_there v (actual_part a)) in
        let room = few_actuals _ Value c n tree.no_target x es v as_value in
        record {
          code = λ g m i. name_fits g x.text (exprs_code g m i es) (routine_call g x.text (count es) (exprs_types g m i es)) (actuals.code g m i)
              (routine_call_fits g x.text (count es) (exprs_types g m i es) room) (slot_named x.text m) (feature_named g.system (class.Declared g.text.class) x.text);
          olds = actuals.olds;
        }
    expr_fits c q n (tree.Call p (tree.target a) x es) v =
        let receiver = expr_fits c spot.Plain n a (part_there v target_part) in
        let actuals = exprs_fit c n es (λ e a. part_there v (actual_part a)) in
        let room = few_actuals _ Value c n (tree.target a) x es v as_value in
        record {
          code = λ g m i. let call = feature_call g x.text (count es) (expr_type g m i a) (exprs_types g m (i + olds_in a) es) in
              joined (expr_code g m i a) (exprs_code g m (i + olds_in a) es ++ call) (receiver.code g m i)
              (joined (exprs_code g m (i + olds_in a) es) call (actuals.code g m (i + olds_in a))
              (feature_call_fits g x.text (count es) (expr_type g m i a) (exprs_types g m (i + olds_in a) es) room));
          olds = each_joined CodeFits (olds_of a) (olds_of_each es) receiver.olds actuals.olds;
        }
    expr_fits c q n (tree.Unary p unary.Old a) v =
        let operand = expr_fits (operand_context unary.Old c) spot.Plain n a (part_there v operand_part) in
        record { code = λ g m i. refl; olds = (operand.code, tt) }
    expr_fits c q n (tree.Unary p unary.Not a) v =
        let operand = expr_fits (operand_context unary.Not c) spot.Plain n a (part_there v operand_part) in
        record { code = λ g m i. joined (expr_code g m i a) (ApplyUnary unary.Not ∷ []) (operand.code g m i) refl; olds = operand.olds }
    expr_fits c q n (tree.Unary p unary.Plus a) v =
        let operand = expr_fits (operand_context unary.Plus c) spot.Plain n a (part_there v operand_part) in
        record { code = λ g m i. joined (expr_code g m i a) (ApplyUnary unary.Plus ∷ []) (operand.code g m i) refl; olds = operand.olds }
    expr_fits c q n (tree.Unary p unary.Minus a) v =
        let operand = expr_fits (operand_context unary.Minus c) spot.Plain n a (part_there v operand_part) in
        record { code = λ g m i. joined (expr_code g m i a) (ApplyUnary unary.Minus ∷ []) (operand.code g m i) refl; olds = operand.olds }
    expr_fits c q n (tree.Binary p op a b) v =
        let parts = operands_stand c q n p op a b v in
        let left = expr_fits c parts.position n a parts.left in
        let right = expr_fits c parts.position parts.names b parts.right in
        record {
          code = λ g m i. let second = expr_code g (names_given g m i a) (i + olds_in a) b in
              joined (expr_code g m i a) (right_code op second) (left.code g m i) (right_fits op second (right.code g (names_given g m i a) (i + olds_in a)));
          olds = each_joined CodeFits (olds_of a) (olds_of b) left.olds right.olds;
        }
    expr_fits c q n (tree.ObjectTest p d a x) v =
        let operand = expr_fits c spot.Plain n a (part_there v tested_part) in
        record { code = λ g m i. joined (expr_code g m i a) (Test (tested g m d) (length m) ∷ []) (operand.code g m i) refl; olds = operand.olds }

    pub exprs_fit : (c : Context) (n : Entities) (es : Exprs) → ((e : Expr) → IsActual e es → There (expression c spot.Source n e)) → ExprsFit es
    exprs_fit c n no_exprs v = record { code = λ g m i. refl; olds = tt }
    exprs_fit c n (expr_then e es) v =
        let first = expr_fits c spot.Source n e (v e first_actual) in
        let others = exprs_fit c n es (λ d a. v d (later_actual a)) in
        record {
          code = λ g m i. joined (expr_code g m i e) (exprs_code g m (i + olds_in e) es) (first.code g m i) (others.code g m (i + olds_in e));
          olds = each_joined CodeFits (olds_of e) (olds_of_each es) first.olds others.olds;
        }
