-- Where nothing is wrong with the declarations, what is found of an expression is a type.
use Rattle.std.proofs.Common.{◌≡◌, ℕ, Bool, true, false, List, [], ◌∷◌, Option, Some, None, refl, ap, ◌∙◌, subst}
use Rattle.std.specs.Prelude.{cond, not, ◌&&◌, ◌++◌, filter, find, is_some, if◌then◌else◌, bytes_eq}
use Rattle.std.specs.Option.{option_map}
use Rattle.std.specs.List.{list_all}
use Rattle.sc_text.specs.declared.token.Span.{Span}
use Rattle.sc_tree.specs.declared.expression.UnaryOperator.{UnaryOperator}
use Rattle.sc_tree.specs.declared.expression.BinaryOperator.{BinaryOperator}
use Rattle.sc_tree.specs.Plain.{System, DeclaredType, FeatureKind, Attribute, Routine, Name, Expr, Binary, ObjectTest, Target, no_target, target}
use Rattle.sc_class.specs.declared.identity.ClassId.{ClassId}
use Rattle.sc_class.specs.declared.identity.ClassId.TheVariants as class
use Rattle.sc_tree.specs.Properties.{is_print}
use Rattle.sc_class.specs.Names.{is_listed}
use Rattle.sc_class.specs.Tables.Features.{DeclaredFeature, declared_features, not_redefined, redefined_names, features_along, features, feature_named}
use Rattle.sc_class.specs.Tables.Ancestors.{ancestors}
use Rattle.sc_rules.specs.declared.entity_types.entity_type.EntityType.{EntityType}
use Rattle.sc_rules.specs.entity_types.Combiners.{combined_result}
use Rattle.sc_rules.specs.declared.position.Context.{Context}
use Rattle.sc_rules.specs.declared.position.Position.{Position}
use Rattle.sc_rules.specs.declared.position.Role.TheVariants as role
use Rattle.sc_rules.specs.Types.{declared_type, unary_type, binary_type, unary_result, binary_result, test_result}
use Rattle.sc_rules.specs.Names.{RoutineContext, Entity, Entities, entity, test_type, entity_named, Signature, Meaning, named, current, print_signature, entity_signature, given_type, signature_of_kind, signature_of, meaning_of_feature, entity_or, meaning_of}
use Rattle.sc_rules.specs.Typing.{Typing, HasType, number, truth, void, current_object, result, call, untyped_target_call, unary, binary, and_then, test, HasReceiver, implicit, explicit, Gives, by_test, by_both, nothing, is_testable}
use Rattle.sc_rules.specs.declared.position.Position.TheVariants.{Condition}
use Rattle.sc_rules.specs.Positions.{is_and_then}
use Rattle.sc_rules.specs.Judging.{judge_given}
use Rattle.sc_rules.proofs.Complete as complete
use Rattle.sc_rules.proofs.Refused.{same_ok}
use Rattle.sc_rules.specs.Laws.{are_declared, is_result_declared, is_declared, AllDeclared, are_typed, HasResult}

both : (a b : Bool) → (a && b) ≡ true → (a ≡ true) × (b ≡ true)
both true true e = (refl, refl)
both true false e = cc
both false b e = cc

pub all_append : {A : Type 0} (q : A → Bool) (xs ys : List A) → list_all q xs ≡ true → list_all q ys ≡ true →
    list_all q (xs ++ ys) ≡ true
all_append q [] ys d e = e
all_append q (x ∷ xs) ys d e =
    simp ((both (q x) (list_all q xs) d).0, all_append q xs ys (both (q x) (list_all q xs) d).1 e) refl

all_filter : {A : Type 0} (q keeps : A → Bool) (xs : List A) → list_all q xs ≡ true →
    list_all q (filter keeps xs) ≡ true
all_filter q keeps [] d = refl
all_filter q keeps (x ∷ xs) d = kept (keeps x) (both (q x) (list_all q xs) d)
    (all_filter q keeps xs (both (q x) (list_all q xs) d).1)
  where
    kept : (b : Bool) → (q x ≡ true) × (list_all q xs ≡ true) → list_all q (filter keeps xs) ≡ true →
        list_all q (cond b (x ∷ filter keeps xs) (filter keeps xs)) ≡ true
    kept true (e, f) g = simp (e, g) refl
    kept false (e, f) g = g

pub found_holds : {A : Type 0} (q fits : A → Bool) (xs : List A) (x : A) → list_all q xs ≡ true →
    find fits xs ≡ Some x → q x ≡ true
found_holds q fits [] x d e = cc
found_holds q fits (y ∷ ys) x d e =
    of_first (fits y) (both (q y) (list_all q ys) d) e (λ f. found_holds q fits ys x (both (q y) (list_all q ys) d).1 f)
  where
    of_first : (b : Bool) → (q y ≡ true) × (list_all q ys ≡ true) → cond b (Some y) (find fits ys) ≡ Some x →
        (find fits ys ≡ Some x → q x ≡ true) → q x ≡ true
    of_first true (f, g) e k = cc
    of_first false (f, g) e k = k e

-- ---- declarations

all_along : (s : System) → AllDeclared s → (ks : List ℕ) →
    list_all (λ (f : DeclaredFeature). is_declared s f.feature.kind) (features_along s ks) ≡ true
all_along s d [] = refl
all_along s d (k ∷ ks) =
    all_append (λ (f : DeclaredFeature). is_declared s f.feature.kind) (declared_features s k)
    (not_redefined (redefined_names s k) (features_along s ks)) (d k)
    (all_filter (λ (f : DeclaredFeature). is_declared s f.feature.kind) (λ f. not (is_listed f.feature.name.text (redefined_names s k))) (features_along s ks) (all_along s d ks))

pub named_declared : (s : System) → AllDeclared s → (c : ClassId) (x : List ℕ) (f : DeclaredFeature) →
    feature_named s c x ≡ Some f →
    is_declared s f.feature.kind ≡ true
named_declared s d class.Any x f e = cc
named_declared s d class.None x f e = cc
named_declared s d class.Integer x f e = cc
named_declared s d class.Boolean x f e = cc
named_declared s d (class.Declared k) x f e =
    found_holds (λ (f : DeclaredFeature). is_declared s f.feature.kind) (λ f. bytes_eq f.feature.name.text x)
    (features s k) f (all_along s d (ancestors s k)) e

pub some_map : {A B : Type 0} (v : A → B) (o : Option A) → is_some o ≡ true → is_some (option_map v o) ≡ true
some_map v None e = e
some_map v (Some x) e = refl

same_some : {A : Type 0} (x y : A) → Some x ≡ Some y → x ≡ y
same_some x y e = cc

given_typed : (s : System) (t : EntityType) (d : DeclaredType) (o : Option EntityType) →
    is_some (declared_type s [] d) ≡ true →
    Some (given_type s t d) ≡ Some o → is_some o ≡ true
given_typed s t d o e f = subst (λ o. is_some o ≡ true) (same_some (given_type s t d) o f)
    (some_map (combined_result t) (declared_type s [] d) e)

kind_typed : (s : System) (t : EntityType) (f : DeclaredFeature) (k : FeatureKind) (o : Option EntityType) →
    is_declared s k ≡ true →
    (signature_of_kind s t f k).gives ≡ Some o → is_some o ≡ true
kind_typed s t f (Attribute d) o e g = given_typed s t d o e g
kind_typed s t f (Routine routine) o e g =
    by_result routine.result_type (both (is_result_declared s routine.result_type) _ (both (are_declared s routine.formals routine.formals) _ e).1).0 g
  where
    by_result : (r : Option DeclaredType) → is_result_declared s r ≡ true → option_map (given_type s t) r ≡ Some o →
        is_some o ≡ true
    by_result None e g = cc
    by_result (Some d) e g = given_typed s t d o e g

-- ---- what names stand for

-- what stands for something, and gives something, gives a type
abbrev GivesType : Meaning → Type 0
GivesType m = (g : Signature) (o : Option EntityType) → m ≡ named g → g.gives ≡ Some o → is_some o ≡ true

signature_typed : (g : Signature) → ((o : Option EntityType) → g.gives ≡ Some o → is_some o ≡ true) →
    GivesType (named g)
signature_typed g f k o e i = f o (ap (λ (g : Signature). g.gives) (same_signature g k e) ∙ i)
  where
    same_signature : (g k : Signature) → named g ≡ named k → g ≡ k
    same_signature g k e = cc

feature_typed : (s : System) → AllDeclared s → (t : EntityType) (c : ClassId) (x : List ℕ)
    (o : Option DeclaredFeature) → feature_named s c x ≡ o →
    GivesType (meaning_of_feature s t o)
feature_typed s d t c x None e = λ g o i j. cc
feature_typed s d t c x (Some f) e = signature_typed (signature_of s t f)
    (λ o j. kind_typed s t f f.feature.kind o (named_declared s d c x f e) j)

entity_typed : (n : Entities) → are_typed n ≡ true → (x : List ℕ) (e : Entity) → entity_named x n ≡ Some e →
    is_some e.type ≡ true
entity_typed n d x e f = found_holds (λ (e : Entity). is_some e.type) (λ e. bytes_eq e.name x) n e d f

unqualified_typed : (h : RoutineContext) → AllDeclared h.system → (n : Entities) → are_typed n ≡ true →
    (x : List ℕ) (o : Option Entity) → entity_named x n ≡ o →
    GivesType (entity_or h x o)
unqualified_typed h d n e x (Some i) f = signature_typed (entity_signature h i)
    (λ o j. subst (λ o. is_some o ≡ true) (same_some i.type o j) (entity_typed n e x i f))
unqualified_typed h d n e x None f = by_print (is_print x)
  where
    by_print : (b : Bool) →
        GivesType (if b then named (print_signature h) else meaning_of_feature h.system (current h) (feature_named h.system (class.Declared h.class) x))
    by_print true = signature_typed (print_signature h) (λ o j. cc)
    by_print false = feature_typed h.system d (current h)
        (class.Declared h.class) x (feature_named h.system (class.Declared h.class) x) refl

meaning_typed : (h : RoutineContext) → AllDeclared h.system → (n : Entities) → are_typed n ≡ true →
    (a : Target) (t : Option EntityType) (x : Name) →
    GivesType (meaning_of h n a t x)
meaning_typed h d n e no_target t x = unqualified_typed h d n e x.text (entity_named x.text n) refl
meaning_typed h d n e (target a) None x = λ g o i j. cc
meaning_typed h d n e (target a) (Some t) x =
    feature_typed h.system d t t.class x.text (feature_named h.system t.class x.text) refl

-- ---- operators

mapped_some : (o r : Option EntityType) → option_map (λ (t : EntityType). Some t) o ≡ Some r → is_some r ≡ true
mapped_some None r e = cc
mapped_some (Some t) r e = subst (λ o. is_some o ≡ true) (same_some (Some t) r e) refl

unary_typed : (op : UnaryOperator) (o r : Option EntityType) → is_some o ≡ true → unary_result op o ≡ Some r →
    is_some r ≡ true
unary_typed op None r d e = cc
unary_typed op (Some t) r d e = mapped_some (unary_type op t) r e

binary_typed : (op : BinaryOperator) (o p r : Option EntityType) → is_some o ≡ true → is_some p ≡ true →
    binary_result op o p ≡ Some r → is_some r ≡ true
binary_typed op None p r d e f = cc
binary_typed op (Some t) None r d e f = cc
binary_typed op (Some t) (Some u) r d e f = mapped_some (binary_type op t u) r f

result_typed : (o : Option EntityType) → is_some o ≡ true → is_some (test_result o) ≡ true
result_typed None e = cc
result_typed (Some t) e = refl

-- ---- expressions

none_some : (o : Option EntityType) → o ≡ None → is_some o ≡ true → ⊥
none_some None d e = cc
none_some (Some t) d e = cc

test_typed : (h : RoutineContext) (d : Option DeclaredType) (t : Option EntityType) → is_testable h d ≡ true →
    is_some t ≡ true → is_some (test_type h d t) ≡ true
test_typed h None t i e = some_map _ t e
test_typed h (Some d) t i e = some_map _ (declared_type h.system h.formals d) i

-- the two parts of a condition that is an `and then`
record Joined (h : RoutineContext) (c : Context) (n : Entities) (a b : Expr) : Type 0 where
  names : Entities
  left : Typing
  right : Typing
  left_typed : HasType h c Condition n a left
  gives_names : Gives h c n a names
  right_typed : HasType h c Condition names b right

apart : (b : Bool) → b ≡ true → b ≡ false → ⊥
apart b d e = cc

one_typed : (o : Option EntityType) → is_some o ≡ true → (is_some o && true) ≡ true
one_typed o e = simp e refl

joined : {h : RoutineContext} {c : Context} {n : Entities} {s : Span} {op : BinaryOperator} {a b : Expr} {t : Typing} →
    HasType h c Condition n (Binary s op a b) t →
    is_and_then op ≡ true →
    Joined h c n a b
joined (binary j d e r) i = absurd (apart _ i j)
joined (and_then {m} {t} {u} j d g e r) i =
    record { names = m; left = t; right = u; left_typed = d; gives_names = g; right_typed = e }

testable : {h : RoutineContext} {c : Context} {n : Entities} {s : Span} {d : Option DeclaredType} {a : Expr} {x : Name}
    {t : Typing} →
    HasType h c Condition n (ObjectTest s d a x) t → is_testable h d ≡ true
testable (test i e) = i

same_names : {h : RoutineContext} {c : Context} {n m o : Entities} {a : Expr} → Gives h c n a m → Gives h c n a o →
    m ≡ o
same_names {h} {c} {n} {m} {o} {a} d e = same_ok m o (judge_given h c n a) (complete.given d) (complete.given e)

mutual
  pub every_typed : {h : RoutineContext} {c : Context} {k : Position} {n : Entities} {e : Expr} {t : Typing} →
      AllDeclared h.system → HasResult h → are_typed n ≡ true →
      HasType h c k n e t →
      is_some t.type ≡ true
  every_typed a b w number = refl
  every_typed a b w truth = refl
  every_typed a b w (void e) = refl
  every_typed a b w current_object = refl
  every_typed a b w (result {t} e) = b t e
  every_typed {h} a b w (call {c} {k} {n} {s} {a = y} {x} {es} {r} {ts} {g} {t} v m e d f p l i pu xp) = meaning_typed h a n w y r.type x g t e i
  every_typed a b w (untyped_target_call {r} v e d) = absurd (none_some r.type e (receiver_typed a b w v))
  every_typed a b w (unary {op} {t} {r} d o e) = unary_typed op t.type r (every_typed a b w d) e
  every_typed a b w (binary {op} {t} {u} {r} j d e f) = binary_typed op t.type u.type r (every_typed a b w d)
      (every_typed a b w e) f
  every_typed a b w (and_then {op} {t} {u} {r} j d g e f) = binary_typed op t.type u.type r (every_typed a b w d)
      (every_typed a b (gives_typed a b w d g) e) f
  every_typed a b w (test {t} i d) = result_typed t.type (every_typed a b w d)

  pub receiver_typed : {h : RoutineContext} {c : Context} {n : Entities} {a : Target} {r : Typing} →
      AllDeclared h.system → HasResult h → are_typed n ≡ true →
      HasReceiver h c n a r →
      is_some r.type ≡ true
  receiver_typed a b w implicit = refl
  receiver_typed a b w (explicit d) = every_typed a b w d

  -- the names that a condition gives have types
  pub gives_typed : {h : RoutineContext} {c : Context} {n m : Entities} {e : Expr} {t : Typing} →
      AllDeclared h.system → HasResult h → are_typed n ≡ true →
      HasType h c Condition n e t →
      Gives h c n e m → are_typed m ≡ true
  gives_typed {h} a b w d (by_test {c} {n} {s} {d = y} {a = z} {x} {t} e) =
      all_append (λ (e : Entity). is_some e.type) n (entity x.text (test_type h y t.type) role.Test ∷ []) w
      (one_typed (test_type h y t.type) (test_typed h y t.type (testable d) (every_typed a b w e)))
  gives_typed {h} a b w d (by_both {c} {n} {m} {o} {s} {op} {a = y} {b = z} i g k) =
      gives_typed a b (gives_typed a b w (joined d i).left_typed g)
      (subst (λ m. HasType h c Condition m z (joined d i).right) (same_names (joined d i).gives_names g) (joined d i).right_typed) k
  gives_typed a b w d (nothing i) = w
