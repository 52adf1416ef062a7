-- What names stand for, and the types of what is evaluated.
use Rattle.std.specs.Option.{option_map}
use Rattle.std.specs.Prelude.{bytes_eq, is_some, length}
use Rattle.std.proofs.Common.{◌+◌, ◌++◌, Bool, List, None, Option, Some, [], ap, cond, false, refl, subst, suc, sym, true, ℕ, ◌∙◌, ◌∷◌, ◌≡◌, ◌⊎◌}
use Rattle.sc_tree.specs.Plain.{Expr, Exprs, System, expr_then}
use Rattle.sc_tree.specs.declared.expression.BinaryOperator.{BinaryOperator}
use Rattle.sc_tree.specs.declared.expression.UnaryOperator.{UnaryOperator}
use Rattle.sc_class.specs.Tables.Features.{DeclaredFeature}
use Rattle.sc_rules.specs.declared.entity_types.entity_type.EntityType.{EntityType}
use Rattle.sc_rules.specs.CallRules.{count}
use Rattle.sc_rules.specs.Laws.{are_typed}
use Rattle.sc_rules.specs.Names.{Entities, RoutineName, Signature, entity_named, meaning_of_feature, named, signature_of}
use Rattle.sc_rules.specs.Types.{binary_result, binary_type, unary_result, unary_type}
use Rattle.sc_rules.specs.Typing as typing
use Rattle.sc_rules.specs.Typing.{HasType, HasTypes, Typing, formals_take, types, typing}
use Rattle.sc_rules.specs.declared.position.Context.{Context}
use Rattle.sc_rules.specs.declared.position.Position.{Position}
use Rattle.sc_rules.specs.declared.position.Position.TheVariants.{Source}
use Rattle.sc_rules.proofs.Typings.{every_typed}
use Rattle.sc_model.specs.Environments.{Binding, binding_named, known_of, scope_of}
use Rattle.sc_model.specs.Olds.{olds_in, olds_of, olds_of_each}
use Rattle.sc_model.specs.Routines.{Routine, Text, place_in}
use Rattle.sc_model.specs.Tasks.{Task, evals}
use Rattle.sc_model.specs.Values.{Reference}
use Rattle.sc_machine_laws.specs.states.Typed as typed
use Rattle.sc_machine_laws.specs.states.Typed.{AreKept, IsOf, IsTyped, Takes, at, stacked}
use Rattle.sc_machine_laws.proofs.states.Actuals.{somes}
use Rattle.sc_machine_laws.proofs.states.Olds.{kept_back, kept_front}
use Rattle.sc_machine_laws.proofs.states.RoutinePoints.{IsRun, in_text}

-- the machine knows a name exactly where the rules do
pub named_alike : (x : List ℕ) (bs : List Binding) → entity_named x (scope_of bs) ≡ option_map known_of (binding_named x bs)
named_alike x [] = refl
named_alike x (b ∷ bs) = by (bytes_eq b.name x) (named_alike x bs)
  where
    by : (c : Bool) → entity_named x (scope_of bs) ≡ option_map known_of (binding_named x bs) →
        cond c (Some (known_of b)) (entity_named x (scope_of bs)) ≡ option_map known_of (cond c (Some b) (binding_named x bs))
    by true e = refl
    by false e = e

pub all_typed : (bs : List Binding) → are_typed (scope_of bs) ≡ true
all_typed [] = refl
all_typed (b ∷ bs) = all_typed bs

pub some_there : {A : Type 0} (o : Option A) → is_some o ≡ true → (x : A) × (o ≡ Some x)
some_there None e = cc
some_there (Some x) e = (x, refl)

-- the types of a unary and of a binary operator's result
pub unary_there : (op : UnaryOperator) (a : EntityType) (u : EntityType) → unary_result op (Some a) ≡ Some (Some u) → unary_type op a ≡ Some u
unary_there op a u e = by (unary_type op a) e
  where
    by : (o : Option EntityType) → option_map (λ t. Some t) o ≡ Some (Some u) → o ≡ Some u
    by None e = cc
    by (Some v) e = cc

pub binary_there : (op : BinaryOperator) (a b : EntityType) (u : EntityType) → binary_result op (Some a) (Some b) ≡ Some (Some u) → binary_type op a b ≡ Some u
binary_there op a b u e = by (binary_type op a b) e
  where
    by : (o : Option EntityType) → option_map (λ t. Some t) o ≡ Some (Some u) → o ≡ Some u
    by None e = cc
    by (Some v) e = cc

-- what a name stands for after a target is a feature
pub record FeatureMeant (s : System) (a : EntityType) (o : Option DeclaredFeature) (g : Signature) : Type 0 where
  pub feature : DeclaredFeature
  pub is_there : o ≡ Some feature
  pub signature_is : signature_of s a feature ≡ g

pub feature_meant : (s : System) (a : EntityType) (o : Option DeclaredFeature) (g : Signature) → meaning_of_feature s a o ≡ named g → FeatureMeant s a o g
feature_meant s a None g e = cc
feature_meant s a (Some f) g e = let q : signature_of s a f ≡ g = cc in record { feature = f; is_there = refl; signature_is = q }

pub same_meaning : {g h : Signature} → named g ≡ named h → g ≡ h
same_meaning e = cc

-- ---- types of actuals

pub take_of : (s : System) (rs : List Typing) (all : List EntityType) (g : Signature) → types rs ≡ somes all → formals_take s g.target (types rs) g.formals (types rs) ≡ true →
    length rs ≡ length g.formals → Takes s all g
take_of s rs all g are e m = (subst (λ os. formals_take s g.target os g.formals os ≡ true) are e, sym (types_length rs all are) ∙ m)
  where
    types_length : (rs : List Typing) (all : List EntityType) → types rs ≡ somes all → length rs ≡ length all
    types_length [] [] e = refl
    types_length [] (a ∷ as') e = cc
    types_length (r ∷ rs) [] e = cc
    types_length (r ∷ rs) (a ∷ as') e = let q : types rs ≡ somes as' = cc in ap suc (types_length rs as' q)

-- an expression whose typing has a type is of that type
pub typed_so : {s : System} {t : Text} {c : Context} {q : Position} {n : Entities} {e : Expr} {r : Typing} {a : EntityType} → HasType (place_in s t) c q n e r → r.type ≡ Some a → IsOf s t c q n e a
typed_so {s} {t} {c} {q} {n} {e} {r} d i = (r.is_separate, subst (λ o. HasType (place_in s t) c q n e (typing o r.is_separate)) i d)

module _ (s : System) (pure : RoutineName → Bool) (r : Routine) (me : Reference) (run : IsRun s pure r me) (t : Text) (text_is : (t ≡ r.text) ⊎ (t ≡ r.contract)) (n : Entities) (n_typed : are_typed n ≡ true) where
  -- each expression of the text has a type
  pub type_there : {c : Context} {q : Position} {e : Expr} {y : Typing} → HasType (place_in s t) c q n e y → (a : EntityType) × (y.type ≡ Some a)
  type_there {y} d = some_there y.type (every_typed run.declared (in_text s pure r me run t text_is).has_result n_typed d)

  -- the types of actuals, and as many tasks that evaluate them
  pub record ActualsTyped (es : Exprs) (rs : List Typing) (os : List EntityType) : Type 0 where
    pub all : List EntityType
    pub are : types rs ≡ somes all
    pub as_many : count es ≡ length all
    pub typed : (i : ℕ) (k : List Task) (ts : List EntityType) → AreKept s t n i (olds_of_each es) os → IsTyped s pure r k (at t n os (stacked all ts)) →
        IsTyped s pure r (evals i es ++ k) (at t n os ts)

  pub actuals_typed : (os : List EntityType) {c : Context} {es : Exprs} {rs : List Typing} → HasTypes (place_in s t) c n es rs → ActualsTyped es rs os
  actuals_typed os typing.none = record { all = []; are = refl; as_many = refl; typed = λ i k ts l d. d }
  actuals_typed os {c} (typing.more {e} {es} {t = y} {ts = ys} d ds) = of_first (type_there d) (actuals_typed os ds)
    where
      of_first : (a : EntityType) × (y.type ≡ Some a) → ActualsTyped es ys os → ActualsTyped (expr_then e es) (y ∷ ys) os
      of_first (a, i) z = record {
        all = a ∷ z.all;
        are = ap (λ o. o ∷ types ys) i ∙ ap (λ os. Some a ∷ os) z.are;
        as_many = ap suc z.as_many;
        typed = λ j k ts l f. typed.eval c Source refl (typed_so d i) (kept_front s t n os j (olds_of e) (olds_of_each es) l)
            (z.typed (j + olds_in e) k (a ∷ ts) (kept_back s t n os j (olds_of e) (olds_of_each es) l) f);
      }
