-- Actuals that conform one by one may be passed together.
use Rattle.std.specs.Option.{option_map}
use Rattle.std.specs.Prelude.{length, slice_get}
use Rattle.std.proofs.Common.{◌&&◌, ◌+◌, Bool, List, None, Option, Some, [], ap, arith, false, refl, subst, suc, sym, true, zero, ◌||◌, ℕ, ◌∙◌, ◌∷◌, ◌≡◌}
use Rattle.std.proofs.lemmas.Option.{slice_get-map}
use Rattle.sc_tree.specs.Plain.{Expr, Exprs, expr_then, no_exprs}
use Rattle.sc_class.specs.Tables.Conformance.{is_expanded}
use Rattle.sc_rules.specs.entity_types.Conformance.{conforms}
use Rattle.sc_rules.specs.declared.entity_types.entity_type.EntityType.{EntityType}
use Rattle.sc_rules.specs.entity_types.Combiners.{combined_argument}
use Rattle.sc_rules.specs.CallRules.{ActualAt, IsKnown, actual_here, actual_later, count, names_missing, names_none, names_one}
use Rattle.sc_rules.specs.Names.{Entities, FormalType, RoutineContext, Signature, of_expanded, of_none, of_type}
use Rattle.sc_rules.specs.Sites.{IsActual, first_actual, later_actual}
use Rattle.sc_rules.specs.SystemLaws.{Conform}
use Rattle.sc_rules.specs.Typing as typing
use Rattle.sc_rules.specs.Typing.{HasType, HasTypes, Typing, formals_take, is_untyped, known_handler, known_handlers, named_formal, names_untyped, takes, takes_if_any, types, typing}
use Rattle.sc_rules.specs.declared.position.Context.{Context}
use Rattle.sc_rules.specs.declared.position.Position.TheVariants.{Source}
use Rattle.sc_machine_laws.proofs.states.Actuals.{somes}
use Rattle.sc_machine_laws.proofs.states.Lists.{same_some}

-- each actual has a type
abbrev pub EachActual : (Expr → Type 0) → Exprs → Type 0
EachActual P es = (e : Expr) → IsActual e es → P e

module _ (h : RoutineContext) (c : Context) (n : Entities) where
  abbrev IsSource : Expr → Type 0
  IsSource e = (a : EntityType) × (b : Bool) × HasType h c Source n e (typing (Some a) b)

  -- the actuals have these types
  pub record SourcesTyped (es : Exprs) : Type 0 where
    pub typings : List Typing
    pub all : List EntityType
    pub typed : HasTypes h c n es typings
    pub are : types typings ≡ somes all
    pub as_many : count es ≡ length typings

  pub sources_typed : (es : Exprs) → EachActual IsSource es → SourcesTyped es
  sources_typed no_exprs f = record { typings = []; all = []; typed = typing.none; are = refl; as_many = refl }
  sources_typed (expr_then e es) f = of_both (f e first_actual) (sources_typed es (λ d i. f d (later_actual i)))
    where
      of_both : IsSource e → SourcesTyped es → SourcesTyped (expr_then e es)
      of_both (a, b, d) z = record {
        typings = typing (Some a) b ∷ z.typings;
        all = a ∷ z.all;
        typed = typing.more d z.typed;
        are = ap (λ os. Some a ∷ os) z.are;
        as_many = ap suc z.as_many;
      }

  -- the typing place a number is that of the actual there
  record SourceAt (es : Exprs) (y : ℕ) (t : EntityType) : Type 0 where
    pub actual : Expr
    pub is_there : ActualAt actual es y
    pub is_separate : Bool
    pub typed : HasType h c Source n actual (typing (Some t) is_separate)

  source_later : {e : Expr} {es : Exprs} {y : ℕ} {t : EntityType} → SourceAt es y t → SourceAt (expr_then e es) (suc y) t
  source_later z = record { actual = z.actual; is_there = actual_later z.is_there; is_separate = z.is_separate; typed = z.typed }

  source_at : {es : Exprs} {ts : List Typing} → HasTypes h c n es ts → (y : ℕ) (t : EntityType) → slice_get (types ts) y ≡ Some (Some t) → SourceAt es y t
  source_at typing.none y t e = cc
  source_at (typing.more {e = d} {es} {t = v} {ts} f fs) zero t e =
      record { actual = d; is_there = actual_here; is_separate = v.is_separate; typed = subst (λ o. HasType h c Source n d (typing o v.is_separate)) (same_some e) f }
  source_at (typing.more f fs) (suc y) t e = source_later (source_at fs y t e)

  none_at : {es : Exprs} {ts : List Typing} → HasTypes h c n es ts → (y : ℕ) → slice_get (types ts) y ≡ None → (e : Expr) → ActualAt e es y → ⊥
  none_at typing.none y i e a = elim a [ ]
  none_at (typing.more f fs) zero i e a = cc
  none_at (typing.more f fs) (suc y) i e (actual_later a) = none_at fs y i e a

  module _ (es : Exprs) (ts : List Typing) (all : HasTypes h c n es ts) (g : Signature) (conform : Conform h c n es g)
      (expanded : (i : ℕ) (e : Expr) (a : EntityType) (b : Bool) → ActualAt e es i → slice_get g.formals i ≡ Some of_expanded → HasType h c Source n e (typing (Some a) b) → is_expanded a.class ≡ true) where
    -- an actual may be passed to its formal
    one_taken : (i : ℕ) (e : Expr) (f : FormalType) (a : EntityType) (b : Bool) → ActualAt e es i → slice_get g.formals i ≡ Some f → HasType h c Source n e (typing (Some a) b) →
        takes h.system g.target (types ts) f a ≡ true
    one_taken i e of_none a b place l d = refl
    one_taken i e of_expanded a b place l d = expanded i e a b place l d
    one_taken i e (of_type f) a b place l d = by (named_formal f.tag) refl
      where
        taken : IsKnown h c n es f (known_handlers (types ts)) → (m : Bool) → (m || conforms h.system a (combined_argument g.target f (known_handlers (types ts)))) ≡ true
        taken z true = refl
        taken z false = conform i e f a b (known_handlers (types ts)) place l d z

        of_named : (y : ℕ) (o : Option (Option EntityType)) → named_formal f.tag ≡ Some y → slice_get (types ts) y ≡ o →
            (is_untyped o || conforms h.system a (combined_argument g.target f (known_handlers (types ts)))) ≡ true
        of_named y None e i = taken (names_missing e (none_at all y i) (slice_get-map known_handler (types ts) y ∙ ap (option_map known_handler) i)) false
        of_named y (Some None) e i = refl
        of_named y (Some (Some t)) e i = let z = source_at all y t i in
            taken (names_one e z.is_there z.typed (slice_get-map known_handler (types ts) y ∙ ap (option_map known_handler) i)) false

        by : (o : Option ℕ) → named_formal f.tag ≡ o → (names_untyped (types ts) (named_formal f.tag) || conforms h.system a (combined_argument g.target f (known_handlers (types ts)))) ≡ true
        by None e = subst (λ o. (names_untyped (types ts) o || conforms h.system a (combined_argument g.target f (known_handlers (types ts)))) ≡ true) (sym e) (taken (names_none e) false)
        by (Some y) e = subst (λ o. (names_untyped (types ts) o || conforms h.system a (combined_argument g.target f (known_handlers (types ts)))) ≡ true) (sym e)
            (of_named y (slice_get (types ts) y) e refl)

    -- these formals take these actuals, of which the first have these numbers
    all_taken : (i : ℕ) (fs : List FormalType) {ds : Exprs} {us : List Typing} → HasTypes h c n ds us → ((j : ℕ) (f : FormalType) → slice_get fs j ≡ Some f → slice_get g.formals (i + j) ≡ Some f) →
        ((j : ℕ) (e : Expr) → ActualAt e ds j → ActualAt e es (i + j)) → formals_take h.system g.target (types ts) fs (types us) ≡ true
    all_taken i [] d p q = refl
    all_taken i (f ∷ fs) typing.none p q = refl
    all_taken i (f ∷ fs) (typing.more {e} {es = ds} {t = v} {ts = us} d others) p q = both_true (of_first v.type d) (all_taken (i + 1) fs others (λ j f e. at_next j f e) (λ j e a. actual_next j e a))
      where
        both_true : {a b : Bool} → a ≡ true → b ≡ true → (a && b) ≡ true
        both_true {a} {b} e f = ap (λ a. a && b) e ∙ f

        of_first : (o : Option EntityType) → HasType h c Source n e (typing o v.is_separate) → takes_if_any h.system g.target (types ts) f o ≡ true
        of_first None d = refl
        of_first (Some a) d = one_taken (i + 0) e f a v.is_separate (q 0 e actual_here) (p 0 f refl) d

        at_next : (j : ℕ) (x : FormalType) → slice_get fs j ≡ Some x → slice_get g.formals (i + 1 + j) ≡ Some x
        at_next j x e = ap (slice_get g.formals) (omega arith) ∙ p (suc j) x e

        actual_next : (j : ℕ) (x : Expr) → ActualAt x ds j → ActualAt x es (i + 1 + j)
        actual_next j x a = subst (ActualAt x es) (omega arith) (q (suc j) x (actual_later a))

    -- Together they may be passed.
    pub taken_together : formals_take h.system g.target (types ts) g.formals (types ts) ≡ true
    taken_together = all_taken 0 g.formals all (λ j f e. ap (slice_get g.formals) (omega arith) ∙ e) (λ j e a. subst (ActualAt e es) (omega arith) a)
