-- In the text of a well-formed system no rule fails, so what the rules ask for holds.
use Rattle.std.proofs.Common.{◌≡◌, ℕ, Bool, true, false, List, [], ◌∷◌, Some, refl, sym, subst}
use Rattle.std.specs.Prelude.{Any, Contains, ◌&&◌, slice_get}
use Rattle.sc_text.specs.declared.token.Span.{Span}
use Rattle.sc_tree.specs.Plain.{System, Class, Feature, FeatureKind, Routine, Name, Expr, Target, Exprs}
use Rattle.sc_rules.specs.declared.entity_types.entity_type.EntityType.{EntityType}
use Rattle.sc_rules.specs.entity_types.Conformance.{conforms}
use Rattle.sc_rules.specs.entity_types.Combiners.{combined_argument}
use Rattle.sc_rules.specs.declared.rule.Rule.{Rule}
use Rattle.sc_rules.specs.declared.rule.Rule.TheVariants.{ArgumentType}
use Rattle.sc_rules.specs.declared.position.Context.{Context}
use Rattle.sc_rules.specs.declared.position.Context.TheVariants as context
use Rattle.sc_rules.specs.declared.position.Position.TheVariants.{Source}
use Rattle.sc_rules.specs.declared.position.Use.{Use}
use Rattle.sc_rules.specs.declared.position.Use.TheVariants.{Value, Instruction}
use Rattle.sc_rules.specs.Types.{is_controlled_tag}
use Rattle.sc_rules.specs.Positions.{span_of}
use Rattle.sc_rules.specs.Names.{RoutineName, RoutineContext, Entities, FormalType, of_type, Signature}
use Rattle.sc_rules.specs.Typing.{typing, HasType}
use Rattle.sc_rules.specs.Sites.{Site, Within, itself, inside}
use Rattle.sc_rules.specs.Purity as purity
use Rattle.sc_rules.specs.Purity.{IsPurity, IsCall}
use Rattle.sc_rules.specs.CallRules.{ActualAt, actual_here, actual_later, Untaken, differs, Mismatches, first_pair, later_pair, CallFails, detachable, uncontrolled, argument}
use Rattle.sc_rules.specs.TextRules.{in_call, CreationFails, creation_argument, right_side, call_instruction, creation, FailsAt, at_expression, at_instruction, Fails, fails, in_clause}
use Rattle.sc_rules.specs.SystemRules.{FeatureFails, in_features, in_invariant, precondition, in_body, postcondition, in_invariant_clause, SystemFails, in_class, WellFormed}
use Rattle.sc_rules.specs.SystemLaws as laws
use Rattle.sc_rules.specs.SystemLaws.{IsText, body, invariant, Stands, stands_in, CallsWith, as_value, as_instruction, Conform, TargetsAreControlled, ActualsConform, CreationActualsConform, RightSidesConform}

pub further : {h : RoutineContext} {a b c : Site} → Within h a b → Within h b c → Within h a c
further itself v = v
further (inside d w) v = inside d (further w v)

one_of : {A : Type 0} (P : A → Type 0) (xs : List A) (x : A) → Contains xs x → P x → Any P xs
one_of P xs x (k, l, e) p = (k, x, l, e, p)

-- what fails in a feature of a class fails in the system
pub feature_fails : (s : System) (pure : RoutineName → Bool) (k : ℕ) (c : Class) (f : Feature) (kind : FeatureKind)
    (r : Rule) (p : Span) → IsPurity s pure →
    slice_get s.classes k ≡ Some c → Contains c.features f → f.kind ≡ kind → FeatureFails s pure k kind r p →
    SystemFails s r p
feature_fails s pure k c f kind r p i j m e g =
    in_class i j (in_features (one_of (λ (f : Feature). FeatureFails s pure k f.kind r p) c.features f m (subst (λ kind. FeatureFails s pure k kind r p) (sym e) g)))

-- what fails in a text of the system fails in the system
pub text_fails : {s : System} {pure : RoutineName → Bool} {h : RoutineContext} {a : Site} → IsText s pure h a →
    IsPurity s pure → (r : Rule) (p : Span) →
    Fails h a r p → SystemFails s r p
text_fails {s} {pure} (body {k} {c} {f} {routine} j m e) i r p g =
    feature_fails s pure k c f (Routine routine) r p i j m e (in_body g)
text_fails {s} {pure} (laws.precondition {k} {c} {f} {routine} {q} j m e w) i r p g =
    feature_fails s pure k c f (Routine routine) r p i j m e (precondition (one_of _ routine.precondition q w (in_clause g)))
text_fails {s} {pure} (laws.postcondition {k} {c} {f} {routine} {q} j m e w) i r p g =
    feature_fails s pure k c f (Routine routine) r p i j m e (postcondition (one_of _ routine.postcondition q w (in_clause g)))
text_fails {s} {pure} (invariant {k} {c} {q} j w) i r p g =
    in_class i j (in_invariant (one_of _ c.invariant q w (in_invariant_clause (in_clause g))))

pub none_fails : {s : System} {pure : RoutineName → Bool} {h : RoutineContext} {b : Site} → WellFormed s →
    IsPurity s pure → Stands s pure h b →
    (r : Rule) (p : Span) → Fails h b r p → ⊥
none_fails w i (stands_in t v) r p (fails u f) = w r p (text_fails t i r p (fails (further v u) f))

pub none_at : {s : System} {pure : RoutineName → Bool} {h : RoutineContext} {b : Site} → WellFormed s →
    IsPurity s pure → Stands s pure h b → (r : Rule) (p : Span) →
    FailsAt h b r p → ⊥
none_at w i v r p f = none_fails w i v r p (fails itself f)

-- ---- calls

-- what fails in the call fails where it stands
pub call_fails : {h : RoutineContext} {b : Site} {u : Use} {c : Context} {n : Entities} {a : Target} {x : Name}
    {es : Exprs} → CallsWith b u c n a x es →
    (r : Rule) (p : Span) →
    CallFails h c n u a x es r p → FailsAt h b r p
call_fails as_value r p f = at_expression (in_call f)
call_fails as_instruction r p f = at_instruction (call_instruction f)

target_fails : {h : RoutineContext} {b : Site} {c : Context} {n : Entities} {a : Target} {x : Name} →
    IsCall b c n a x → (r : Rule) (p : Span) →
    ((u : Use) (es : Exprs) → CallFails h c n u a x es r p) → FailsAt h b r p
target_fails (purity.as_value {es}) r p f = at_expression (in_call (f Value es))
target_fails (purity.as_instruction {es}) r p f = at_instruction (call_instruction (f Instruction es))

pub targets_are_controlled_lem : TargetsAreControlled
targets_are_controlled_lem s pure w i h b c n a x v j t sep d =
    controlled t.attached (is_controlled_tag t.tag) refl refl
  where
    controlled : (m k : Bool) → t.attached ≡ m → is_controlled_tag t.tag ≡ k → (m && k) ≡ true
    controlled true true e f = refl
    controlled true false e f = absurd (none_at w i v _ _ (target_fails j _ _ (λ u es. uncontrolled d f)))
    controlled false k e f = absurd (none_at w i v _ _ (target_fails j _ _ (λ u es. detachable d e)))

mismatch_at : {h : RoutineContext} {c : Context} {n : Entities} {all : Exprs} {t : EntityType} {e : Expr} {es : Exprs}
    {i : ℕ} → ActualAt e es i →
    (fs : List FormalType) (f : FormalType) →
    slice_get fs i ≡ Some f → (a : EntityType) (b : Bool) → HasType h c Source n e (typing (Some a) b) →
    Untaken h c n all t f a → Mismatches h c n all t fs es (span_of e)
mismatch_at actual_here [] f j a b d u = cc
mismatch_at {h} {c} {n} {all} {t} actual_here (g ∷ fs) f j a b d u =
    first_pair d (subst (λ f. Untaken h c n all t f a) (same_formal g f j) u)
  where
    same_formal : (g f : FormalType) → Some g ≡ Some f → f ≡ g
    same_formal g f j = cc
mismatch_at (actual_later k) [] f j a b d u = cc
mismatch_at (actual_later k) (g ∷ fs) f j a b d u = later_pair (mismatch_at k fs f j a b d u)

-- where no mismatch is, each actual conforms
conform : (h : RoutineContext) (c : Context) (n : Entities) (es : Exprs) (g : Signature) →
    ((p : Span) → Mismatches h c n es g.target g.formals es p → ⊥) →
    Conform h c n es g
conform h c n es g none i e f a b ks k j d q = decided (conforms h.system a (combined_argument g.target f ks)) refl
  where
    decided : (m : Bool) → conforms h.system a (combined_argument g.target f ks) ≡ m → m ≡ true
    decided true e = refl
    decided false l = absurd (none (span_of e) (mismatch_at k g.formals (of_type f) j a b d (differs q l)))

pub actuals_conform_lem : ActualsConform
actuals_conform_lem s pure w i h b u c n a x es v j r g d m =
    conform h c n es g (λ p k. none_at w i v _ _ (call_fails j _ p (argument d m k)))

pub creation_actuals_conform_lem : CreationActualsConform
creation_actuals_conform_lem s pure w i h n p v k j c t g e m =
    conform h context.Body n k.actuals g (λ q l. none_at w i j _ q (at_instruction (creation e (subst (λ o. CreationFails h n v.variable t o ArgumentType q) (sym c) (creation_argument m l)))))

pub right_sides_conform_lem : RightSidesConform
right_sides_conform_lem s pure w i h n p v e j t a b k d = decided (conforms h.system a t) refl
  where
    decided : (m : Bool) → conforms h.system a t ≡ m → m ≡ true
    decided true f = refl
    decided false f = absurd (none_at w i j _ _ (at_instruction (right_side k d f)))
