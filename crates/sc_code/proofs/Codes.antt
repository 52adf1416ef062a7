-- Code of typed expressions: what it pushes, and how values are popped.
use Rattle.std.proofs.Common.{◌≡◌, ℕ, zero, suc, ◌+◌, List, [], ◌∷◌, ◌++◌, Option, Some, length, refl, ap, ◌∙◌, subst, arith, length-append}
use Rattle.std.specs.Option.{option_map, option_and_then}
use Rattle.sc_tree.specs.declared.expression.UnaryOperator.TheVariants as unary
use Rattle.sc_tree.specs.declared.expression.BinaryOperator.TheVariants as binary
use Rattle.sc_tree.specs.Plain as tree
use Rattle.sc_tree.specs.Plain.{System, Expr, Exprs, no_exprs, expr_then, Head}
use Rattle.sc_class.specs.declared.identity.ClassId.TheVariants as class
use Rattle.sc_class.specs.Tables.Features.{DeclaredFeature, feature_named}
use Rattle.sc_rules.specs.declared.entity_types.entity_type.EntityType.{EntityType}
use Rattle.sc_rules.specs.CallRules.{count}
use Rattle.sc_rules.specs.Names.{Entities, signature_of, signature_of_kind, current}
use Rattle.sc_model.specs.Values.{Value, Operand, values_of}
use Rattle.sc_model.specs.Olds.{olds_in}
use Rattle.sc_model.specs.Steps as model
use Rattle.sc_model.specs.Routines.{Text}
use Rattle.sc_model.specs.Tasks.{Task, evals}
use Rattle.sc_code.specs.Operations.{CallRoutine, CallFeature}
use Rattle.sc_code.specs.Places.{Setting, here, expr_type, exprs_types, name_type, feature_type, known_type, with_type, names_given}
use Rattle.sc_code.specs.Emitted.{expr_code, exprs_code, exprs_depth, call_code, routine_call, feature_call, site_of}
use Rattle.sc_code.specs.Machine as machine
use Rattle.sc_code.specs.Typed.{IsTyped, integer_value, boolean_value, void_value, current_object, result, entity_value, attribute, routine, feature, old, unary_operation, binary_operation, AreTyped, none, more}
use Rattle.sc_code.specs.Stands.{Run, Known, Has, Is, Room, StandsFor, evaluates, setting_in, types_popped, types_of}
use Rattle.sc_code.proofs.Hops.{has_front, has_back}

-- ---- types

pub type_is : (h : Setting) (n : Entities) (i : ℕ) (e : Expr) (t : EntityType) → IsTyped h n i e t → expr_type h n i e ≡ Some t
type_is h n i e t integer_value = refl
type_is h n i e t boolean_value = refl
type_is h n i e t void_value = refl
type_is h n i e t current_object = refl
type_is h n i e t (result a b) = ap known_type b
type_is h n i (tree.Call q tree.no_target x es) t (entity_value a) = ap (name_type h x.text) a
type_is h n i (tree.Call q tree.no_target x es) t (attribute {f = f} a b c d) =
    ap (name_type h x.text) a ∙ ap (feature_type h.system (current (here h))) b ∙ ap (λ k. known_type (signature_of_kind h.system (current (here h)) f k).gives) c ∙ d
type_is h n i (tree.Call q tree.no_target x es) t (routine a b c d e) =
    ap (name_type h x.text) a ∙ ap (feature_type h.system (current (here h))) b ∙ ap known_type d
type_is h n i (tree.Call q (tree.target a) x es) t (feature {u = u} ta b c d) =
    ap (option_and_then (λ (t : EntityType). feature_type h.system t (feature_named h.system t.class x.text))) (type_is h n i a u ta)
    ∙ ap (feature_type h.system u) b ∙ ap known_type c
type_is h n i (tree.Unary q unary.Old a) t (old e) = e
type_is h n i (tree.Unary q unary.Not a) t (unary_operation e s) = refl
type_is h n i (tree.Unary q unary.Plus a) t (unary_operation e s) = refl
type_is h n i (tree.Unary q unary.Minus a) t (unary_operation e s) = refl
type_is h n i (tree.Unary q unary.Old a) t (unary_operation e s) = absurd (cc)
type_is h n i e t (binary_operation a b) = refl

pub types_are : (h : Setting) (n : Entities) (i : ℕ) (es : Exprs) (ts : List EntityType) → AreTyped h n i es ts → exprs_types h n i es ≡ ts
types_are h n i no_exprs ts none = refl
types_are h n i (expr_then e es) ts (more {t = t} {ts = us} a as') =
    ap (λ o. with_type o (exprs_types h n (i + olds_in e) es)) (type_is h n i e t a) ∙ ap (λ l. t ∷ l) (types_are h n (i + olds_in e) es us as')

-- an expression without object tests makes no names known
pub no_names : (h : Setting) (n : Entities) (i : ℕ) (e : Expr) (t : EntityType) → IsTyped h n i e t → names_given h n i e ≡ n
no_names h n i e t integer_value = refl
no_names h n i e t boolean_value = refl
no_names h n i e t void_value = refl
no_names h n i e t current_object = refl
no_names h n i e t (result a b) = refl
no_names h n i e t (entity_value a) = refl
no_names h n i e t (attribute a b c d) = refl
no_names h n i e t (routine a b c d f) = refl
no_names h n i e t (feature a b c d) = refl
no_names h n i e t (old a) = refl
no_names h n i e t (unary_operation a b) = refl
no_names h n i (tree.Binary q binary.AndThen a b) t (binary_operation {t = u} {u = v} x y) =
    ap (λ m. names_given h m (i + olds_in a) b) (no_names h n i a u x) ∙ no_names h n (i + olds_in a) b v y
no_names h n i (tree.Binary q binary.Times a b) t (binary_operation x y) = refl
no_names h n i (tree.Binary q binary.Quotient a b) t (binary_operation x y) = refl
no_names h n i (tree.Binary q binary.Remainder a b) t (binary_operation x y) = refl
no_names h n i (tree.Binary q binary.Plus a b) t (binary_operation x y) = refl
no_names h n i (tree.Binary q binary.Minus a b) t (binary_operation x y) = refl
no_names h n i (tree.Binary q binary.Equal a b) t (binary_operation x y) = refl
no_names h n i (tree.Binary q binary.NotEqual a b) t (binary_operation x y) = refl
no_names h n i (tree.Binary q binary.Less a b) t (binary_operation x y) = refl
no_names h n i (tree.Binary q binary.Greater a b) t (binary_operation x y) = refl
no_names h n i (tree.Binary q binary.LessEqual a b) t (binary_operation x y) = refl
no_names h n i (tree.Binary q binary.GreaterEqual a b) t (binary_operation x y) = refl
no_names h n i (tree.Binary q binary.And a b) t (binary_operation x y) = refl
no_names h n i (tree.Binary q binary.Or a b) t (binary_operation x y) = refl
no_names h n i (tree.Binary q binary.OrElse a b) t (binary_operation x y) = refl
no_names h n i (tree.Binary q binary.Xor a b) t (binary_operation x y) = refl
no_names h n i (tree.Binary q binary.Implies a b) t (binary_operation x y) = refl

-- ---- operands

-- these types on top of those, the last one first
abbrev pub stacked : List EntityType → List EntityType → List EntityType
stacked [] ts = ts
stacked (u ∷ us) ts = stacked us (u ∷ ts)

pub count_is : (h : Setting) (n : Entities) (i : ℕ) (es : Exprs) (ts : List EntityType) → AreTyped h n i es ts → count es ≡ length ts
count_is h n i no_exprs ts none = refl
count_is h n i (expr_then e es) ts (more {ts = us} a as') = ap (λ k. suc k) (count_is h n (i + olds_in e) es us as')

pub pops : (us ts acc : List EntityType) (m k : ℕ) → k ≡ length us + m → types_popped k acc (stacked us ts) ≡ types_popped m (us ++ acc) ts
pops [] ts acc m k e = ap (λ k. types_popped k acc ts) (let z : k ≡ m = omega arith in z)
pops (u ∷ us) ts acc m k e = pops us (u ∷ ts) acc (suc m) k (omega arith)

append_none : (us : List EntityType) → us ++ [] ≡ us
append_none [] = refl
append_none (u ∷ us) = ap (λ l. u ∷ l) (append_none us)

pub popped_actuals : (us ts : List EntityType) (k : ℕ) → k ≡ length us → types_popped k [] (stacked us ts) ≡ Some (us, ts)
popped_actuals us ts k e = pops us ts [] 0 k (omega arith) ∙ ap (λ l. Some (l, ts)) (append_none us)

-- what was popped of the operands is what was popped of their types, and of their values
abbrev pub types_both : Option (List Operand × List Operand) → Option (List EntityType × List EntityType)
types_both r = option_map (λ (r : List Operand × List Operand). (types_of r.0, types_of r.1)) r

abbrev pub values_both : Option (List Operand × List Operand) → Option (List Value × List Value)
values_both r = option_map (λ (r : List Operand × List Operand). (values_of r.0, values_of r.1)) r

pub types_of_popped : (n : ℕ) (us vs : List Operand) → types_popped n (types_of us) (types_of vs) ≡ types_both (model.popped n us vs)
types_of_popped zero us vs = refl
types_of_popped (suc n) us [] = refl
types_of_popped (suc n) us (v ∷ vs) = types_of_popped n (v ∷ us) vs

pub values_of_popped : (n : ℕ) (us vs : List Operand) → machine.popped n (values_of us) (values_of vs) ≡ values_both (model.popped n us vs)
values_of_popped zero us vs = refl
values_of_popped (suc n) us [] = refl
values_of_popped (suc n) us (v ∷ vs) = values_of_popped n (v ∷ us) vs

-- ---- calls

pub routine_site : (g : Run) (h : Setting) (q : ℕ) (x : List ℕ) (c : ℕ) (ts us : List EntityType) (f : DeclaredFeature) → Has g q (routine_call h x c ts) → ts ≡ us
    → feature_named h.system (class.Declared h.text.class) x ≡ Some f → Is g q (CallRoutine (site_of x c (current (here h)) us (signature_of h.system (current (here h)) f)))
routine_site g h q x c ts us f has e is =
    let a = subst (λ o. Has g q (call_code CallRoutine h.system x c (current (here h)) ts o)) is has in
    subst (λ l. Is g q (CallRoutine (site_of x c (current (here h)) l (signature_of h.system (current (here h)) f)))) e a.0

pub routine_length : (h : Setting) (x : List ℕ) (c : ℕ) (ts : List EntityType) (f : DeclaredFeature)
    → feature_named h.system (class.Declared h.text.class) x ≡ Some f → length (routine_call h x c ts) ≡ 1
routine_length h x c ts f is = ap (λ o. length (call_code CallRoutine h.system x c (current (here h)) ts o)) is

pub feature_site : (g : Run) (h : Setting) (q : ℕ) (x : List ℕ) (c : ℕ) (o : Option EntityType) (t : EntityType) (ts us : List EntityType) (f : DeclaredFeature)
    → Has g q (feature_call h x c o ts) → o ≡ Some t → ts ≡ us → feature_named h.system t.class x ≡ Some f
    → Is g q (CallFeature (site_of x c t us (signature_of h.system t f)))
feature_site g h q x c o t ts us f has e e' is =
    let a = subst (λ o. Has g q (feature_call h x c o ts)) e has in
    let b = subst (λ o. Has g q (call_code CallFeature h.system x c t ts o)) is a in
    subst (λ l. Is g q (CallFeature (site_of x c t l (signature_of h.system t f)))) e' b.0

pub feature_length : (h : Setting) (x : List ℕ) (c : ℕ) (o : Option EntityType) (t : EntityType) (ts : List EntityType) (f : DeclaredFeature)
    → o ≡ Some t → feature_named h.system t.class x ≡ Some f → length (feature_call h x c o ts) ≡ 1
feature_length h x c o t ts f e is =
    ap (λ o. length (feature_call h x c o ts)) e ∙ ap (λ o. length (call_code CallFeature h.system x c t ts o)) is

-- ---- actuals

pub evals_stand : (g : Run) (t : Text) (n : Entities) (o ts us : List EntityType) (i p : ℕ) (es : Exprs) (k : List Task)
    → Has g p (exprs_code (setting_in g t o) n i es) → AreTyped (setting_in g t o) n i es us → Room g ts (exprs_depth (setting_in g t o) n i es)
    → StandsFor g (p + length (exprs_code (setting_in g t o) n i es)) (Known t n o (stacked us ts)) k → StandsFor g p (Known t n o ts) (evals i es ++ k)
evals_stand g t n o ts us i p no_exprs k has none room st = subst (λ q. StandsFor g q (Known t n o ts) k) (let e : p + 0 ≡ p = omega arith in e) st
evals_stand g t n o ts us i p (expr_then e es) k has (more {t = u} {ts = vs} a as') room st =
    let h = setting_in g t o in
    let first = expr_code h n i e in
    let rest = exprs_code h n (i + olds_in e) es in
    let j = i + olds_in e in
    let q : p + length (first ++ rest) ≡ p + length first + length rest = omega (arith, length-append first rest) in
    evaluates (has_front g.code.operations p first rest has) a (omega (arith, room))
    (evals_stand g t n o (u ∷ ts) vs j (p + length first) es k (has_back g.code.operations p first rest has) as' (omega (arith, room))
    (subst (λ q. StandsFor g q (Known t n o (stacked vs (u ∷ ts))) k) q st))
