-- The operands of `old` in an expression: there are none but in postconditions, and each part has its own.
use Rattle.std.specs.Prelude.{length, slice_get}
use Rattle.std.proofs.Common.{◌+◌, ◌++◌, List, Some, [], add_assoc, ap, ap₂, false, not, refl, subst, sym, ℕ, ◌∙◌, ◌≡◌}
use Rattle.sc_tree.specs.Plain.{Expr, Exprs, System}
use Rattle.sc_tree.specs.declared.expression.UnaryOperator.TheVariants as unary
use Rattle.sc_rules.specs.declared.entity_types.entity_type.EntityType.{EntityType}
use Rattle.sc_rules.specs.Names.{Entities, RoutineContext}
use Rattle.sc_rules.specs.Positions.{is_ensure}
use Rattle.sc_rules.specs.Typing as typing
use Rattle.sc_rules.specs.Typing.{HasType, HasTypes, Typing}
use Rattle.sc_rules.specs.declared.position.Context.{Context}
use Rattle.sc_rules.specs.declared.position.Position.{Position}
use Rattle.sc_model.specs.Olds.{olds_of, olds_of_each}
use Rattle.sc_model.specs.Routines.{Text, place_in}
use Rattle.sc_machine_laws.specs.states.Typed.{AreKept, OldsKept}
use Rattle.sc_machine_laws.proofs.states.Lists.{behind_append, both, no_both, some_append}

mutual
  pub none_old : {h : RoutineContext} {c : Context} {q : Position} {n : Entities} {e : Expr} {t : Typing} → is_ensure c ≡ false → HasType h c q n e t → olds_of e ≡ []
  none_old i typing.number = refl
  none_old i typing.truth = refl
  none_old i (typing.void e) = refl
  none_old i typing.current_object = refl
  none_old i (typing.result e) = refl
  none_old i (typing.call typing.implicit m z ds f p l v y w) = none_old_each i ds
  none_old i (typing.call (typing.explicit d) m z ds f p l v y w) = ap₂ (λ xs ys. xs ++ ys) (none_old i d) (none_old_each i ds)
  none_old i (typing.untyped_target_call (typing.explicit d) e ds) = ap₂ (λ xs ys. xs ++ ys) (none_old i d) (none_old_each i ds)
  none_old {c} i (typing.unary {op = unary.Old} {t} d o e) = absurd (no_both (is_ensure c) (both (is_ensure c) (not t.is_separate) o).0 i)
  none_old i (typing.unary {op = unary.Not} d o e) = none_old i d
  none_old i (typing.unary {op = unary.Plus} d o e) = none_old i d
  none_old i (typing.unary {op = unary.Minus} d o e) = none_old i d
  none_old i (typing.binary j d d' e) = ap₂ (λ xs ys. xs ++ ys) (none_old i d) (none_old i d')
  none_old i (typing.and_then j d g d' e) = ap₂ (λ xs ys. xs ++ ys) (none_old i d) (none_old i d')
  none_old i (typing.test e d) = none_old i d

  pub none_old_each : {h : RoutineContext} {c : Context} {n : Entities} {es : Exprs} {ts : List Typing} → is_ensure c ≡ false → HasTypes h c n es ts → olds_of_each es ≡ []
  none_old_each i typing.none = refl
  none_old_each i (typing.more d ds) = ap₂ (λ xs ys. xs ++ ys) (none_old i d) (none_old_each i ds)

module _ (s : System) (t : Text) (n : Entities) (os : List EntityType) where
  pub none_kept : (i : ℕ) (es : List Expr) → es ≡ [] → AreKept s t n i es os
  none_kept i es q = subst (λ es. AreKept s t n i es os) (sym q) (λ j a e. absurd (nothing_there j a e))
    where
      nothing_there : (j : ℕ) (a : Expr) → slice_get [] j ≡ Some a → ⊥
      nothing_there j a e = cc

  -- outside of postconditions nothing needs to be kept
  pub kept_outside : (i : ℕ) {c : Context} {q : Position} {e : Expr} {r : Typing} → is_ensure c ≡ false → HasType (place_in s t) c q n e r → OldsKept s t n i e os
  kept_outside i {e = e} w d = none_kept i (olds_of e) (none_old w d)

  pub kept_front : (i : ℕ) (es fs : List Expr) → AreKept s t n i (es ++ fs) os → AreKept s t n i es os
  kept_front i es fs k j a e = k j a (some_append es fs j a e)

  pub kept_back : (i : ℕ) (es fs : List Expr) → AreKept s t n i (es ++ fs) os → AreKept s t n (i + length es) fs os
  kept_back i es fs k j a e = let f = k (length es + j) a (behind_append es fs j a e) in (f.0, f.1, f.2, ap (slice_get os) (add_assoc i (length es) j) ∙ f.3)
