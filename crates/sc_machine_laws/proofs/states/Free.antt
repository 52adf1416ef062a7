-- What is typed where contracts call pure functions alone is typed so where they call any.
use Rattle.std.specs.Prelude.{if◌then◌else◌}
use Rattle.std.proofs.Common.{◌++◌, Bool, List, None, Option, Some, [], ap, false, not, refl, subst, sym, true, ◌||◌, ℕ, ◌∙◌, ◌∷◌, ◌≡◌}
use Rattle.sc_tree.specs.Plain as tree
use Rattle.sc_tree.specs.Plain.{DeclaredType, Expr, Exprs, FeatureKind, Name, ObjectTest, Target, Variable, no_target, target}
use Rattle.sc_tree.specs.Properties.{is_print}
use Rattle.sc_class.specs.Tables.Features.{DeclaredFeature, feature_named}
use Rattle.sc_class.specs.declared.identity.ClassId.TheVariants as class
use Rattle.sc_rules.specs.declared.entity_types.entity_type.EntityType.{EntityType}
use Rattle.sc_rules.specs.Names.{Entities, Entity, RoutineContext, RoutineName, assignee, assignee_of_feature, assignee_of_kind, assignee_or, entity, entity_named, entity_or, meaning_of, test_type, unassignable}
use Rattle.sc_rules.specs.Positions.{is_and_then, wants_pure}
use Rattle.sc_rules.specs.Typing as typing
use Rattle.sc_rules.specs.Typing.{Gives, HasReceiver, HasType, HasTypes, Typing, is_testable, may_call}
use Rattle.sc_rules.specs.declared.position.Context.{Context}
use Rattle.sc_rules.specs.declared.position.Position.{Position}
use Rattle.sc_rules.specs.declared.position.Position.TheVariants.{Plain}
use Rattle.sc_rules.specs.declared.position.Role.TheVariants as role
use Rattle.sc_rules.proofs.TypeLaws.{one_type}
use Rattle.sc_machine_laws.specs.states.Typed.{Extends}
use Rattle.sc_machine_laws.proofs.states.Environments.{extends_by, extends_further, extends_itself}

abbrev pub free : RoutineContext → RoutineContext
free h = record { system = h.system; class = h.class; formals = h.formals; result = h.result; pure = λ g. true }

near_same : (h : RoutineContext) (x : List ℕ) (o : Option Entity) → entity_or h x o ≡ entity_or (free h) x o
near_same h x (Some e) = refl
near_same h x None = refl

pub meaning_same : (h : RoutineContext) (n : Entities) (a : Target) (t : Option EntityType) (x : Name) → meaning_of h n a t x ≡ meaning_of (free h) n a t x
meaning_same h n no_target t x = near_same h x.text (entity_named x.text n)
meaning_same h n (target a) (Some t) x = refl
meaning_same h n (target a) None x = refl

may_call_any : (h : RoutineContext) (c : Context) (o : Option RoutineName) → may_call (free h) c o ≡ true
may_call_any h c None = refl
may_call_any h c (Some f) = by (wants_pure c)
  where
    by : (b : Bool) → (not b || true) ≡ true
    by true = refl
    by false = refl

testable_same : (h : RoutineContext) (d : Option DeclaredType) → is_testable h d ≡ is_testable (free h) d
testable_same h None = refl
testable_same h (Some d) = refl

test_same : (h : RoutineContext) (d : Option DeclaredType) (t : Option EntityType) → test_type (free h) d t ≡ test_type h d t
test_same h None t = refl
test_same h (Some d) t = refl

mutual
  pub freely : {h : RoutineContext} {c : Context} {k : Position} {n : Entities} {e : Expr} {t : Typing} → HasType h c k n e t → HasType (free h) c k n e t
  freely typing.number = typing.number
  freely typing.truth = typing.truth
  freely (typing.void e) = typing.void e
  freely typing.current_object = typing.current_object
  freely (typing.result e) = typing.result e
  freely {h} {c} {n} (typing.call {a} {x} {r} {g} d m s ts f p l v y w) =
      typing.call (freely_received d) m (sym (meaning_same h n a r.type x) ∙ s) (freely_all ts) f p l v (may_call_any h c g.routine) w
  freely (typing.untyped_target_call d e ts) = typing.untyped_target_call (freely_received d) e (freely_all ts)
  freely (typing.unary d o e) = typing.unary (freely d) o e
  freely (typing.binary j d e f) = typing.binary j (freely d) (freely e) f
  freely (typing.and_then j d g e f) = typing.and_then j (freely d) (freely_given g) (freely e) f
  freely {h} (typing.test {d = tested} e d) = typing.test (sym (testable_same h tested) ∙ e) (freely d)

  freely_received : {h : RoutineContext} {c : Context} {n : Entities} {a : Target} {t : Typing} → HasReceiver h c n a t → HasReceiver (free h) c n a t
  freely_received typing.implicit = typing.implicit
  freely_received (typing.explicit d) = typing.explicit (freely d)

  pub freely_all : {h : RoutineContext} {c : Context} {n : Entities} {es : Exprs} {ts : List Typing} → HasTypes h c n es ts → HasTypes (free h) c n es ts
  freely_all typing.none = typing.none
  freely_all (typing.more d ds) = typing.more (freely d) (freely_all ds)

  pub freely_given : {h : RoutineContext} {c : Context} {n m : Entities} {e : Expr} → Gives h c n e m → Gives (free h) c n e m
  freely_given {h} {c} {n} (typing.by_test {s} {d = tested} {a} {x} {t} d) =
      subst (λ u. Gives (free h) c n (ObjectTest s tested a x) (n ++ entity x.text u role.Test ∷ [])) (test_same h tested t.type) (typing.by_test (freely d))
  freely_given (typing.by_both j g k) = typing.by_both j (freely_given g) (freely_given k)
  freely_given (typing.nothing e) = typing.nothing e

-- what a condition gives are names of tests
pub gives_extend : {h : RoutineContext} {c : Context} {n m : Entities} {e : Expr} → Gives h c n e m → Extends n m
gives_extend {h} {n} (typing.by_test {d} {x} {t} i) = extends_by n (entity x.text (test_type h d t.type) role.Test) refl
gives_extend {n} {m = o} (typing.by_both {m} j g g') = extends_further n m o (gives_extend g) (gives_extend g')
gives_extend {n} (typing.nothing f) = extends_itself n

pub assignee_same : (h : RoutineContext) (n : Entities) (v : Variable) → assignee h n v ≡ assignee (free h) n v
assignee_same h n (tree.ResultVariable q) = refl
assignee_same h n (tree.Named x) = by (entity_named x.text n)
  where
    of_feature : (o : Option DeclaredFeature) → assignee_of_feature h o ≡ assignee_of_feature (free h) o
    of_feature None = refl
    of_feature (Some f) = of_kind f.feature.kind
      where
        of_kind : (k : FeatureKind) → assignee_of_kind h k ≡ assignee_of_kind (free h) k
        of_kind (tree.Attribute d) = refl
        of_kind (tree.Routine c) = refl

    by : (o : Option Entity) → assignee_or h x.text o ≡ assignee_or (free h) x.text o
    by (Some e) = refl
    by None = ap (λ a. if is_print x.text then unassignable else a) (of_feature (feature_named h.system (class.Declared h.class) x.text))

no_conflict : (b : Bool) → b ≡ true → b ≡ false → ⊥
no_conflict true e f = cc
no_conflict false e f = cc

-- a condition gives one list of names alone
pub gives_one : {h : RoutineContext} {c : Context} {n m o : Entities} {e : Expr} → Gives h c n e m → Gives h c n e o → m ≡ o
gives_one {h} {c} {n} (typing.by_test {d} {a} {x} {t} i) (typing.by_test {t = u} j) =
    ap (λ (t : Typing). n ++ entity x.text (test_type h d t.type) role.Test ∷ []) (one_type h c Plain n a t u i j)
gives_one (typing.by_test i) (typing.nothing f) = cc
gives_one {h} {c} {o} (typing.by_both {b} i g g') (typing.by_both j f f') = gives_one g' (subst (λ m. Gives h c m b o) (sym (gives_one g f)) f')
gives_one (typing.by_both {op} i g g') (typing.nothing f) = absurd (no_conflict (is_and_then op) i f)
gives_one (typing.nothing f) (typing.by_test j) = cc
gives_one (typing.nothing f) (typing.by_both {op} j g g') = absurd (no_conflict (is_and_then op) j f)
gives_one (typing.nothing f) (typing.nothing g) = refl
