-- Where a routine stands in its own precondition it calls what contracts may call, and lends nothing.
use Rattle.std.proofs.Common.{ℕ, ◌≡◌, ◌==◌, Bool, true, false, List, [], ◌∷◌, ◌++◌, Option, Some, None, refl, sym, ap, subst, ◌∙◌, inl, inr, append-nil}
use Rattle.std.specs.Prelude.{Contains}
use Rattle.std.specs.List.{list_all}
use Rattle.sc_tree.specs.Plain as tree
use Rattle.sc_tree.specs.Plain.{System, FeatureKind, Clause, Expr}
use Rattle.sc_class.specs.declared.identity.ClassId.{ClassId}
use Rattle.sc_class.specs.declared.identity.ClassId.TheVariants as class
use Rattle.sc_class.specs.Tables.Conformance.{is_expanded, class_conforms}
use Rattle.sc_class.specs.Tables.Features.{DeclaredFeature, feature_named}
use Rattle.sc_rules.specs.declared.entity_types.tag.Tag.{Tag}
use Rattle.sc_rules.specs.declared.entity_types.tag.Tag.TheVariants as tag
use Rattle.sc_rules.specs.declared.entity_types.entity_type.EntityType.{EntityType}
use Rattle.sc_rules.specs.declared.position.Context.{Context}
use Rattle.sc_rules.specs.declared.position.Context.TheVariants as context
use Rattle.sc_rules.specs.declared.position.Position.{Position}
use Rattle.sc_rules.specs.declared.position.Position.TheVariants.{Plain}
use Rattle.sc_rules.specs.Names.{RoutineName, Entities, FormalType, current, signature_of, signature_of_kind, routine_of}
use Rattle.sc_rules.specs.Types.{is_foreign}
use Rattle.sc_rules.specs.Typing as typing
use Rattle.sc_rules.specs.Typing.{HasType, Typing, typing, types}
use Rattle.sc_model.specs.Values.{Reference, Value, Integer, Boolean, Void, Attached, Operand}
use Rattle.sc_model.specs.Environments.{binding_named, scope_of}
use Rattle.sc_model.specs.Objects.{Object, object_numbered}
use Rattle.sc_model.specs.Operators.{is_short}
use Rattle.sc_model.specs.Routines.{Text, place_in, version_of}
use Rattle.sc_model.specs.Tasks.{Task, Eval, Require, Required}
use Rattle.sc_model.specs.Steps.{Point, Step, gives, popped}
use Rattle.sc_model.specs.Calls.{passes_rights, given_by, enters_unqualified, calls_own, calls_unqualified, calls_kind, calls_version, requests, calls_object, calls_on, calls_qualified}
use Rattle.sc_model.specs.Expressions.{decided_by}
use Rattle.sc_model.specs.Instructions.{required}
use Rattle.sc_model.specs.Moves.{performs, step_at, step}
use Rattle.sc_machine_laws.specs.states.Places.{is_routine}
use Rattle.sc_machine_laws.specs.states.Points.{Each}
use Rattle.sc_machine_laws.specs.states.Typed.{context_in}
use Rattle.sc_machine_laws.proofs.states.MachineFrames.{contains_first, contains_later}
use Rattle.sc_machine_laws.specs.settlements.Entries.{HasStarted}
use Rattle.sc_machine_laws.specs.settlements.Clauses.{IsOfType, AreOfTypes, IsPureIfRoutine, InClauses, StandsInClauses, RunsPureIfRoutine, ClauseStep}
use Rattle.sc_machine_laws.specs.settlements.Clauses as clauses
use Rattle.sc_machine_laws.proofs.settlements.ExpandedValues.{HasClass, Pops, none_of_expanded, none_passed, pops}
use Rattle.sc_machine_laws.proofs.settlements.ClauseExpressions.{IsAt, attribute_fine, binary_fine, comes_fine, concludes_fine, eval_fine, goes, if_fine, right_fine, unary_fine}

no : {A : Type 0} → false ≡ true → A
no e = cc

module _ (s : System) (pure : RoutineName → Bool) (t : Text) (n : Entities) (me : Reference)
    (has_type : (c : Context) (q : Position) (e : Expr) (y : Typing) → HasType (context_in s pure t) c q n e y → (a : EntityType) × (y.type ≡ Some a))
    (pure_versions : (k : ℕ) (c : ClassId) (x : List ℕ) (f g : DeclaredFeature) → class_conforms s (class.Declared k) c ≡ true → feature_named s c x ≡ Some f →
    version_of s k x ≡ Some g → pure (routine_of f) ≡ true → pure (routine_of g) ≡ true)
    (same_kind : (k : ℕ) (c : ClassId) (x : List ℕ) (f g : DeclaredFeature) → class_conforms s (class.Declared k) c ≡ true → feature_named s c x ≡ Some f →
    version_of s k x ≡ Some g → is_routine g.feature.kind ≡ true → is_routine f.feature.kind ≡ true)
    (heir : class_conforms s (class.Declared me.class) (class.Declared t.class) ≡ true) where
  abbrev Left : List Task → List EntityType → Type 0
  Left k vs = InClauses s pure t n k vs

  abbrev Fine : Step → Type 0
  Fine st = ClauseStep s pure t n st

  -- ---- calls

  pure_routine : (a : EntityType) (f : DeclaredFeature) → is_routine f.feature.kind ≡ true → IsPureIfRoutine pure f (signature_of s a f).routine → pure (routine_of f) ≡ true
  pure_routine a f r is = is (by f.feature.kind refl)
    where
      by : (k : FeatureKind) → f.feature.kind ≡ k → (signature_of s a f).routine ≡ Some (routine_of f)
      by (tree.Attribute d) e = no (sym (ap is_routine e) ∙ r)
      by (tree.Routine c) e = ap (λ k. (signature_of_kind s a f k).routine) e

  module _ (x : List ℕ) (ts us : List EntityType) (f : DeclaredFeature) (a c : EntityType) (acs : List Operand) (p : Point) (b : IsAt s pure t n me has_type pure_versions same_kind heir us p)
      (there : feature_named s a.class x ≡ Some f) (is : IsPureIfRoutine pure f (signature_of s a f).routine) (gives : (signature_of s a f).gives ≡ Some (Some c))
      (alone : is_foreign a.tag ≡ true → list_all (λ (u : EntityType). is_expanded u.class) ts ≡ true) (are : AreOfTypes ts acs) (k : Left p.tasks (c ∷ us)) where
    after : (g : EntityType) × (◌≡◌ {A = Option EntityType} (Some c) (Some g)) × StandsInClauses s pure t n (g ∷ []) p
    after = (c, refl, record { types = us; text_is = b.text_is; names_are = b.names_are; left = k; values = b.values })

    versions_fine : (r : Reference) → class_conforms s (class.Declared r.class) a.class ≡ true → (o : Option Object) (g : Option DeclaredFeature) → version_of s r.class x ≡ g →
        Fine (calls_version r x acs (Some c) o g p)
    versions_fine r conf None g e = tt
    versions_fine r conf (Some o) None e = tt
    versions_fine r conf (Some o) (Some g) e = by g.feature.kind refl
      where
        by : (m : FeatureKind) → g.feature.kind ≡ m → Fine (calls_kind r x acs (Some c) o m p)
        by (tree.Attribute d) i = attribute_fine s pure t n me has_type pure_versions same_kind heir us (binding_named x o.attributes) c p b k
        by (tree.Routine v) i = (
          (λ h j. pure_versions r.class a.class x f h conf there j
              (pure_routine a f (same_kind r.class a.class x f g conf there e (ap is_routine i)) is)),
          after,
        )

    versions_pure : (r : Reference) → class_conforms s (class.Declared r.class) a.class ≡ true → RunsPureIfRoutine s pure r x
    versions_pure r conf g e i = pure_versions r.class a.class x f g conf there e (pure_routine a f (same_kind r.class a.class x f g conf there e i) is)

    asks_fine : (r : Reference) → class_conforms s (class.Declared r.class) a.class ≡ true → (fs : List FormalType) (g : Tag) → a.tag ≡ g →
        Fine (requests r g x acs (Some c) (passes_rights fs acs) p)
    asks_fine r conf fs tag.Own e = tt
    asks_fine r conf fs (tag.With y) e = (none_passed fs ts acs are (alone (ap is_foreign e)), after, versions_pure r conf)
    asks_fine r conf fs tag.Any e = (none_passed fs ts acs are (alone (ap is_foreign e)), after, versions_pure r conf)
    asks_fine r conf fs tag.None e = (none_passed fs ts acs are (alone (ap is_foreign e)), after, versions_pure r conf)

    on_fine : (v : Value) → ((r : Reference) → v ≡ Attached r → class_conforms s (class.Declared r.class) a.class ≡ true) → Fine (calls_on s me x v a (Some f) acs p)
    on_fine Void conf = tt
    on_fine (Integer z) conf = tt
    on_fine (Boolean z) conf = tt
    on_fine (Attached r) conf =
        subst (λ o. Fine (calls_object s me r a x acs (signature_of s a f) (given_by o) p)) (sym gives)
        (if_fine s pure t n me has_type pure_versions same_kind heir (r.handler == me.handler) (calls_version r x acs (Some c) (object_numbered r.number p.objects) (version_of s r.class x) p)
        (requests r a.tag x acs (Some c) (passes_rights (signature_of s a f).formals acs) p)
        (versions_fine r (conf r refl) (object_numbered r.number p.objects) (version_of s r.class x) refl)
        (asks_fine r (conf r refl) (signature_of s a f).formals a.tag refl))

    -- the target's value lies under the actuals
    target_fine : (v : Operand) → IsOfType a v → HasClass s v → Fine (calls_on s me x v.value v.type (feature_named s v.type.class x) acs p)
    target_fine v (inl e) conf =
        subst (λ (w : EntityType). Fine (calls_on s me x v.value w (feature_named s w.class x) acs p)) (sym e)
        (subst (λ o. Fine (calls_on s me x v.value a o acs p)) (sym there)
        (on_fine v.value (λ r i. subst (λ (w : EntityType). class_conforms s (class.Declared r.class) w.class ≡ true) e (conf r i))))
    target_fine v (inr e) conf = absurd (none_of_expanded s a.class x f e.0 there)

  own_fine : (x : List ℕ) (us : List EntityType) (f : DeclaredFeature) (a : EntityType) (acs : List Operand) (p : Point) →
      IsAt s pure t n me has_type pure_versions same_kind heir us p →
      feature_named s (class.Declared t.class) x ≡ Some f → pure (routine_of f) ≡ true → (signature_of s (current (context_in s pure t)) f).gives ≡ Some (Some a) →
      Left p.tasks (a ∷ us) → Fine (calls_own s me x (feature_named s (class.Declared p.text.class) x) acs p)
  own_fine x us f a acs p b there is gives k =
      subst (λ o. Fine (calls_own s me x o acs p)) (sym (ap (λ (u : Text). feature_named s (class.Declared u.class) x) b.text_is ∙ there))
      (subst (λ o. Fine (enters_unqualified me x acs (given_by o) p))
      (sym (ap (λ (u : Text). (signature_of s (current (place_in s u)) f).gives) b.text_is ∙ gives)) (
        (λ g e. pure_versions me.class (class.Declared t.class) x f g heir there e is),
        (a, refl, record { types = us; text_is = b.text_is; names_are = b.names_are; left = k; values = b.values }),
      ))

  -- ---- a step

  required_fine : (q : Clause) (v : Value) (p : Point) → IsAt s pure t n me has_type pure_versions same_kind heir [] p → Left p.tasks [] → Fine (required q v p)
  required_fine q (Boolean true) p b d = goes s pure t n me has_type pure_versions same_kind heir [] p b d
  required_fine q (Boolean false) p b d = tt
  required_fine q (Integer z) p b d = tt
  required_fine q Void p b d = tt
  required_fine q (Attached r) p b d = tt

  require_fine : (ks : List Clause) (p : Point) → IsAt s pure t n me has_type pure_versions same_kind heir [] p → HasStarted p.tasks →
      ((q : Clause) → Contains ks q → (a : EntityType) × (w : Bool) × HasType (context_in s pure t) context.Require Plain n q.condition (typing (Some a) w)) →
      Fine (performs s me (Require ks) [] p)
  require_fine [] p b started all = started
  require_fine (q ∷ ks) p b started all =
      let z = all q (contains_first q ks) in
      comes_fine s pure t n me has_type pure_versions same_kind heir (Eval 0 q.condition ∷ Required q ∷ Require ks ∷ []) [] p b
      (clauses.eval Plain refl z.2 (clauses.required (clauses.require started (λ r i. all r (contains_later q ks r i)))))

  steps_fine : (p : Point) (ts : List Task) (as' : List EntityType) (vs : List Operand) → p.text ≡ t → scope_of p.environment ≡ n → Left ts as' → AreOfTypes as' vs →
      Each (HasClass s) vs → Fine (step_at s me ts (record p { tasks = ts; values = vs }))
  steps_fine p _ _ [] x m (clauses.require {k} {ks} started all) are fit =
      require_fine ks (record p { tasks = k; values = [] }) (record { text_is = x; names_are = m; values = tt }) started all
  steps_fine p _ _ (u ∷ vs) x m (clauses.require started all) are fit = absurd are
  steps_fine p _ _ [] x m (clauses.required d) are fit = absurd are
  steps_fine p _ _ (u ∷ vs) x m (clauses.required {k} {q} d) are fit =
      required_fine q u.value (record p { tasks = k; values = vs }) (record { text_is = x; names_are = m; values = are.1 }) d
  steps_fine p _ as' vs x m (clauses.eval {k} {i} {e} {a} {b = w} q j d f) are fit =
      eval_fine s pure t n me has_type pure_versions same_kind heir i q e (typing (Some a) w) a as' (record p { tasks = k; values = vs }) (record { text_is = x; names_are = m; values = are }) j d refl f
  steps_fine p _ _ [] x m (clauses.apply_unary e f) are fit = absurd are
  steps_fine p _ _ (u ∷ vs) x m (clauses.apply_unary {k} {vs = as'} {op} {b} e f) are fit =
      unary_fine s pure t n me has_type pure_versions same_kind heir as' b (record p { tasks = k; values = vs }) (record { text_is = x; names_are = m; values = are.1 }) f e op u.value
  steps_fine p _ _ [] x m (clauses.eval_right q j d e f) are fit = absurd are
  steps_fine p _ _ (u ∷ vs) x m (clauses.eval_right {k} {vs = as'} {op} {i} {e = g} {a} {b} {u = r} {c} q j d e f) are fit =
      right_fine s pure t n me has_type pure_versions same_kind heir (decided_by op u.value) (is_short op) op i g u as' a b r c q (record p { tasks = k; values = vs })
      (record { text_is = x; names_are = m; values = are.1 }) are.0 j d e f
  steps_fine p _ _ [] x m (clauses.apply_binary e f) are fit = absurd are
  steps_fine p _ _ (u ∷ []) x m (clauses.apply_binary e f) are fit = absurd are.1
  steps_fine p _ _ (u ∷ v ∷ vs) x m (clauses.apply_binary {k} {vs = as'} {op} {u = r} e f) are fit =
      binary_fine s pure t n me has_type pure_versions same_kind heir as' r (record p { tasks = k; values = vs }) (record { text_is = x; names_are = m; values = are.1.1 }) f e op v.value u.value
  steps_fine p _ _ [] x m (clauses.conclude e f) are fit = absurd are
  steps_fine p _ _ (u ∷ vs) x m (clauses.conclude {k} {vs = as'} {u = r} e f) are fit =
      concludes_fine s pure t n me has_type pure_versions same_kind heir as' r (record p { tasks = k; values = vs }) (record { text_is = x; names_are = m; values = are.1 }) f e u.value
  steps_fine p _ _ vs x m (clauses.call_unqualified {k} {us} ts {x = y} {i} {f} {a} there is gives as_many so d) are fit =
      by (pops (HasClass s) ts us vs (subst (λ as'. AreOfTypes as' vs) so are) fit)
    where
      by : Pops (HasClass s) ts us vs → Fine (calls_unqualified s me y (popped i [] vs) (record p { tasks = k; values = vs }))
      by z =
          subst (λ o. Fine (calls_unqualified s me y o (record p { tasks = k; values = vs })))
          (sym (ap (λ j. popped j [] vs) as_many ∙ z.popped_is []))
          (own_fine y us f a (z.actuals ++ []) (record p { tasks = k; values = z.below }) (record { text_is = x; names_are = m; values = z.below_are }) there is gives d)
  steps_fine p _ _ vs x m (clauses.call_qualified {k} {us} ts a {x = y} {i} {f} {b = c} there is gives alone as_many so d) are fit =
      by (pops (HasClass s) ts (a ∷ us) vs (subst (λ as'. AreOfTypes as' vs) so are) fit)
    where
      of_below : (acs below : List Operand) → popped i [] vs ≡ Some (acs, below) → AreOfTypes ts acs → AreOfTypes (a ∷ us) below → Each (HasClass s) below →
          Fine (calls_qualified s me y (popped i [] vs) (record p { tasks = k; values = vs }))
      of_below acs [] e aa ba fits = absurd ba
      of_below acs (v ∷ rest) e aa ba fits =
          subst (λ o. Fine (calls_qualified s me y o (record p { tasks = k; values = vs }))) (sym e)
          (target_fine y ts us f a c acs (record p { tasks = k; values = rest }) (record { text_is = x; names_are = m; values = ba.1 }) there is gives alone aa d v ba.0 fits.0)

      by : Pops (HasClass s) ts (a ∷ us) vs → Fine (calls_qualified s me y (popped i [] vs) (record p { tasks = k; values = vs }))
      by z = of_below z.actuals z.below
          (ap (λ j. popped j [] vs) as_many ∙ z.popped_is [] ∙ ap (λ (acs : List Operand). Some (acs, z.below)) (append-nil z.actuals)) z.actuals_are z.below_are z.each

  -- The next step.
  pub clause_step : (p : Point) → StandsInClauses s pure t n [] p → Each (HasClass s) p.values → Fine (step s me p)
  clause_step p z fit = steps_fine p p.tasks z.types p.values z.text_is z.names_are z.left z.values fit
