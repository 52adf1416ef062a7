-- A routine with a precondition begins in its clauses, and there calls what contracts may call.
use Rattle.std.proofs.Common.{ℕ, zero, suc, ◌+◌, ◌≡◌, Bool, true, false, List, [], ◌∷◌, ◌++◌, Option, Some, None, refl, sym, ap, subst, ◌∙◌}
use Rattle.std.specs.Prelude.{Contains, length}
use Rattle.std.specs.Option.{option_and_then}
use Rattle.sc_tree.specs.Plain as tree
use Rattle.sc_tree.specs.Plain.{System, Clause, DeclaredType, Expr, FeatureKind, RoutineDeclaration}
use Rattle.sc_class.specs.ClassNames.{Root}
use Rattle.sc_class.specs.Faults.ClassRules.{IsFaultless}
use Rattle.sc_class.specs.declared.identity.ClassId.{ClassId}
use Rattle.sc_class.specs.declared.identity.ClassId.TheVariants as class
use Rattle.sc_class.specs.Tables.Conformance.{class_conforms}
use Rattle.sc_class.specs.Tables.Features.{DeclaredFeature, feature_named}
use Rattle.sc_class.specs.Tables.Heirs.{HasOrigin, StandsInText}
use Rattle.sc_class.proofs.Declarers.{found_stands}
use Rattle.sc_rules.specs.declared.entity_types.entity_type.EntityType.{EntityType}
use Rattle.sc_rules.specs.declared.position.Context.{Context}
use Rattle.sc_rules.specs.declared.position.Context.TheVariants as context
use Rattle.sc_rules.specs.declared.position.Position.{Position}
use Rattle.sc_rules.specs.declared.position.Position.TheVariants.{Plain}
use Rattle.sc_rules.specs.Laws.{are_typed}
use Rattle.sc_rules.specs.Names.{Entities, RoutineName, context_of, formals_known}
use Rattle.sc_rules.specs.Names as rules
use Rattle.sc_rules.specs.Purity.{IsPurity}
use Rattle.sc_rules.specs.Sites as site
use Rattle.sc_rules.specs.Sites.{expression}
use Rattle.sc_rules.specs.SystemLaws as laws
use Rattle.sc_rules.specs.SystemLaws.{stands_in}
use Rattle.sc_rules.specs.SystemRules.{WellFormed}
use Rattle.sc_rules.specs.Typing.{HasType, Typing, typing}
use Rattle.sc_rules.specs.Versions.{Keeps, Version, IsVersion, keeps}
use Rattle.sc_rules.proofs.EachTyped.{each_is_typed_lem}
use Rattle.sc_rules.proofs.PureHeirs.{versions_stay_pure}
use Rattle.sc_rules.proofs.PurityLaws.{pure_is_closed}
use Rattle.sc_rules.proofs.TypeLaws.{declared}
use Rattle.sc_rules.proofs.Typings.{every_typed}
use Rattle.sc_rules.proofs.Versions.{contracts_are_kept}
use Rattle.sc_model.specs.Entries.{entry}
use Rattle.sc_model.specs.Environments.{handler_named, scope_of}
use Rattle.sc_model.specs.Fits.{Fits, OperandFits}
use Rattle.sc_model.specs.Handlers.{point_of}
use Rattle.sc_model.specs.Moves.{first_visible, step, then_go}
use Rattle.sc_model.specs.Objects.{Object}
use Rattle.sc_model.specs.Olds.{olds_in, olds_of_clauses}
use Rattle.sc_model.specs.Routines.{Routine, origin_of, routine_from, routine_named, routine_of, routine_with, text_of, version_of}
use Rattle.sc_model.specs.Sizes.{size}
use Rattle.sc_model.specs.Steps.{Does, Goes, Point, Step}
use Rattle.sc_model.specs.Tasks.{Task, In, Declare, Do, Forget, requires, keeps_olds, ensures}
use Rattle.sc_model.specs.Values.{Attached, Operand, Reference, Value}
use Rattle.sc_machine_laws.specs.states.Places.{is_routine}
use Rattle.sc_machine_laws.specs.states.Points.{Each, IsAmong}
use Rattle.sc_machine_laws.specs.states.ValueSteps.{IsThereIfOwn, OperandsDo, StandsSo, StepFits}
use Rattle.sc_machine_laws.specs.states.Typed.{context_in}
use Rattle.sc_machine_laws.proofs.states.Calls.{has_version}
use Rattle.sc_machine_laws.proofs.states.Environments.{Entered, entry_fits}
use Rattle.sc_machine_laws.proofs.states.Lists.{each_more, same_some}
use Rattle.sc_machine_laws.proofs.states.Names.{all_typed, some_there}
use Rattle.sc_machine_laws.proofs.states.Origins.{origin_is}
use Rattle.sc_machine_laws.proofs.states.OperatorReferences.{HoldsOfOwn, Stays, StepStays}
use Rattle.sc_machine_laws.proofs.states.References.{step_stays}
use Rattle.sc_machine_laws.proofs.states.Routines.{is_run}
use Rattle.sc_machine_laws.proofs.states.RoutinePoints.{IsRun}
use Rattle.sc_machine_laws.proofs.states.ValueSteps.{step_fits}
use Rattle.sc_machine_laws.specs.settlements.Entries.{HasStarted}
use Rattle.sc_machine_laws.specs.settlements.Clauses.{InClauses, StandsInClauses, ClauseStep, ClausesCallPure, ClausesComeFirst}
use Rattle.sc_machine_laws.specs.settlements.Clauses as clauses
use Rattle.sc_machine_laws.proofs.settlements.ExpandedValues.{HasClass}
use Rattle.sc_machine_laws.proofs.settlements.Clauses.{clause_step}

no : {A : Type 0} → false ≡ true → A
no e = cc

-- ---- turns

-- what is there if it is of the handler
pub own_values : (h : ℕ) (objects : List Object) (me : Reference) → IsAmong objects me → HoldsOfOwn (IsThereIfOwn h objects) me
own_values h objects me z = record {
  of_integer = λ z o e. cc;
  of_boolean = λ b o e. cc;
  of_void = λ o e. cc;
  of_current = λ o e i. subst (IsAmong objects) (same_object me o e) z;
}
  where
    same_object : (r o : Reference) → Attached r ≡ Attached o → r ≡ o
    same_object r o e = cc

-- a version of an attribute is one
same_kinds : (s : System) (m k : FeatureKind) → IsVersion s m k → is_routine m ≡ true → is_routine k ≡ true
same_kinds s (tree.Attribute d) k is e = no e
same_kinds s (tree.Routine c) (tree.Routine d) is e = refl
same_kinds s (tree.Routine c) (tree.Attribute d) is e = elim is [ ]

module _ (s : System) (pure : RoutineName → Bool) (tells : IsPurity s pure) (r : Routine) (me : Reference) (run : IsRun s pure r me) (n : Entities) where
  typed_there : are_typed n ≡ true → (c : Context) (q : Position) (e : Expr) (y : Typing) → HasType (context_in s pure r.contract) c q n e y →
      (a : EntityType) × (y.type ≡ Some a)
  typed_there w c q e y d = some_there y.type (every_typed run.declared run.kept.has_result w d)

  pub pure_versions : (k : ℕ) (c : ClassId) (x : List ℕ) (f g : DeclaredFeature) → class_conforms s (class.Declared k) c ≡ true → feature_named s c x ≡ Some f →
      version_of s k x ≡ Some g → pure (rules.routine_of f) ≡ true → pure (rules.routine_of g) ≡ true
  pure_versions k (class.Declared j) x f g conf there e is = versions_stay_pure s pure (pure_is_closed s pure tells) k j x f g conf there e is
  pure_versions k class.Any x f g conf there e is = cc
  pure_versions k class.None x f g conf there e is = cc
  pure_versions k class.Integer x f g conf there e is = cc
  pure_versions k class.Boolean x f g conf there e is = cc

  pub same_kind : (k : ℕ) (c : ClassId) (x : List ℕ) (f g : DeclaredFeature) → class_conforms s (class.Declared k) c ≡ true → feature_named s c x ≡ Some f →
      version_of s k x ≡ Some g → is_routine g.feature.kind ≡ true → is_routine f.feature.kind ≡ true
  same_kind k c x f g conf there e is = by (has_version s pure r me run k c x f conf there)
    where
      by : Version s k x f.feature.kind → is_routine f.feature.kind ≡ true
      by v = same_kinds s v.feature.feature.kind f.feature.kind v.fits
          (ap (λ (d : DeclaredFeature). is_routine d.feature.kind) (same_some (sym v.is_there ∙ e)) ∙ is)

  pub have_classes : (p : Point) → Each (OperandFits s me.handler p.environment) p.values → Each (HasClass s) p.values
  have_classes p fit = each_more (OperandFits s me.handler p.environment) (HasClass s)
      (λ u f q e. (subst (λ (v : Value). Fits s me.handler (handler_named p.environment) v u.type) e f).0) p.values fit

  pub clause_next : (p : Point) → StandsSo s pure r me [] p → StandsInClauses s pure r.contract n [] p → ClauseStep s pure r.contract n (step s me p)
  clause_next p f z = clause_step s pure r.contract n me (typed_there (subst (λ (ns : Entities). are_typed ns ≡ true) z.names_are (all_typed p.environment)))
      pure_versions same_kind run.kept.heir p z (have_classes p f.0.values_fit)

  module _ (objects : List Object) (there : IsAmong objects me) where
    pub still_there : (p : Point) → Stays (IsThereIfOwn me.handler objects) objects p → OperandsDo (IsThereIfOwn me.handler p.objects) p.values
    still_there p h = each_more (λ (u : Operand). IsThereIfOwn me.handler objects u.value) (λ (u : Operand). IsThereIfOwn me.handler p.objects u.value)
        (λ u f o e i. h.there o (f o e i)) p.values h.values.values_do

    clauses_within : (m : ℕ) (p : Point) → StandsSo s pure r me [] p → Stays (IsThereIfOwn me.handler objects) objects p → StandsInClauses s pure r.contract n [] p →
        ClauseStep s pure r.contract n (first_visible m s me p)
    clauses_within zero p f h z = z
    clauses_within (suc m) p f h z = by (step s me p) (λ q. clauses_within m q) (step_fits s pure r me run p f (still_there p h))
        (step_stays (IsThereIfOwn me.handler objects) me (own_values me.handler objects me there) objects s p h) (clause_next p f z)
      where
        by : (x : Step) → ((q : Point) → StandsSo s pure r me [] q → Stays (IsThereIfOwn me.handler objects) objects q → StandsInClauses s pure r.contract n [] q →
            ClauseStep s pure r.contract n (first_visible m s me q)) → StepFits s pure r me x →
            StepStays (IsThereIfOwn me.handler objects) me (own_values me.handler objects me there) objects x → ClauseStep s pure r.contract n x →
            ClauseStep s pure r.contract n (then_go x (first_visible m s me))
        by (Goes q) go f h z = go q f h z
        by (Does a q) go f h z = z

pub clauses_call_pure : ClausesCallPure
clauses_call_pure s root pure faultless well tells r me is n p f h z =
    clauses_within s pure tells r me (is_run s root pure faultless well tells r me is) n p.objects f.1.current (suc (size p.tasks)) p f
    (record { values = h; there = λ o z. z }) z

-- ---- entries

-- the rules accept each clause
abbrev pub ClausesTyped : System → (RoutineName → Bool) → Routine → Type 0
ClausesTyped s pure r = (q : Clause) → Contains r.require q →
    (a : EntityType) × (b : Bool) × HasType (context_in s pure r.contract) context.Require Plain (formals_known s r.text.formals) q.condition (typing (Some a) b)

abbrev ClauseTexts : System → (RoutineName → Bool) → ℕ → FeatureKind → Type 0
ClauseTexts s pure k kind = (routine : RoutineDeclaration) → kind ≡ tree.Routine routine → (q : Clause) → Contains routine.precondition q →
    laws.IsText s pure (context_of s pure k routine) (expression context.Require Plain (formals_known s routine.formals) q.condition)

module _ (s : System) (root : Root) (pure : RoutineName → Bool) (faultless : IsFaultless s root) (well : WellFormed s) (tells : IsPurity s pure) where
  of_kinds : (x : List ℕ) (j k : ℕ) (m o : FeatureKind) (r : Routine) → Keeps s m o → ClauseTexts s pure k o → routine_with s x j m k o ≡ Some r → ClausesTyped s pure r
  of_kinds x j k _ _ r (keeps {version = own} {routine = original} a same results) texts e = subst (ClausesTyped s pure) (same_some e) typed
    where
      typed : (q : Clause) → Contains original.precondition q →
          (a : EntityType) × (b : Bool) × HasType (context_in s pure (text_of s k original.formals original.result_type)) context.Require Plain (formals_known s own.formals) q.condition (typing (Some a) b)
      typed q i = subst (λ (ns : Entities). (a : EntityType) × (b : Bool) × HasType (context_of s pure k original) context.Require Plain ns q.condition (typing (Some a) b)) (sym same)
          (each_is_typed_lem s pure well tells (context_of s pure k original) context.Require Plain (formals_known s original.formals) q.condition
          (stands_in (texts original refl q i) site.itself))

  of_feature : (me : Reference) (x : List ℕ) (f : DeclaredFeature) (r : Routine) → version_of s me.class x ≡ Some f → routine_of s f ≡ Some r → ClausesTyped s pure r
  of_feature me x f r e i = by_kind f.feature.kind refl
    where
      clause_texts : (g : DeclaredFeature) (k : ℕ) → StandsInText s k x g → ClauseTexts s pure g.class g.feature.kind
      clause_texts g k a routine i q l = laws.precondition a.is_class a.declares i l

      by_origin : (h : HasOrigin s me.class x f) → Keeps s f.feature.kind h.origin.feature.kind → ClausesTyped s pure r
      by_origin h keep = of_kinds f.feature.name.text f.class h.origin.class f.feature.kind h.origin.feature.kind r keep
          (clause_texts h.origin h.origin.class (found_stands s h.origin.class x h.origin h.is_feature_there))
          (sym (ap (routine_from s f) (origin_is s root faultless f ∙ h.is_origin)) ∙ i)

      none_made : (d : DeclaredType) (o : Option DeclaredFeature) → f.feature.kind ≡ tree.Attribute d → routine_from s f o ≡ Some r → ⊥
      none_made d None is i = cc
      none_made d (Some o) is i =
          let no : None ≡ Some r = sym (ap (λ m. routine_with s f.feature.name.text f.class m o.class o.feature.kind) is) ∙ i in cc

      by_kind : (m : FeatureKind) → f.feature.kind ≡ m → ClausesTyped s pure r
      by_kind (tree.Attribute d) is = absurd (none_made d (origin_of s f) is i)
      by_kind (tree.Routine own) is = let kept = contracts_are_kept s root faultless (declared s pure tells well) me.class x f e own is in by_origin kept.0 kept.1

  pub clauses_typed : (me : Reference) (r : Routine) → routine_named s me.class r.name ≡ Some r → ClausesTyped s pure r
  clauses_typed me r i = by (version_of s me.class r.name) refl i
    where
      by : (o : Option DeclaredFeature) → version_of s me.class r.name ≡ o → option_and_then (routine_of s) o ≡ Some r → ClausesTyped s pure r
      by None e i = cc
      by (Some f) e i = of_feature me r.name f r e i

started_append : (xs ys : List Task) → HasStarted xs → HasStarted ys → HasStarted (xs ++ ys)
started_append [] ys a b = b
started_append (x ∷ xs) ys a b = (a.0, started_append xs ys a.1 b)

olds_started : (es : List Expr) → HasStarted (keeps_olds es)
olds_started [] = tt
olds_started (e ∷ es) = (refl, (refl, olds_started es))

ensures_started : (i : ℕ) (ks : List Clause) → HasStarted (ensures i ks)
ensures_started i [] = tt
ensures_started i (k ∷ ks) = (refl, (refl, ensures_started (i + olds_in k.condition) ks))

-- what is left after the precondition and the `old`s
abbrev pub rest_of : Routine → List Task
rest_of r = In r.text ∷ Declare r.locals ∷ Do r.body ∷ Forget (length r.text.formals) ∷ In r.contract ∷ ensures 0 r.ensure

-- no clause of the precondition is left there
pub rest_started : (r : Routine) → HasStarted (keeps_olds (olds_of_clauses r.ensure) ++ rest_of r)
rest_started r = started_append (keeps_olds (olds_of_clauses r.ensure)) (rest_of r) (olds_started (olds_of_clauses r.ensure))
    (refl, (refl, (refl, (refl, (refl, ensures_started 0 r.ensure)))))

pub clauses_come_first : ClausesComeFirst
clauses_come_first s root pure faultless well tells r me is some vs fit bs bound o objects = by (entry_fits s me.handler r.text.formals vs fit)
  where
    left : (ks : List Clause) (olds rest : List Task) → HasStarted (olds ++ rest) → (ks ≡ [] → ⊥) →
        ((q : Clause) → Contains ks q → (a : EntityType) × (b : Bool) × HasType (context_in s pure r.contract) context.Require Plain (formals_known s r.text.formals) q.condition (typing (Some a) b)) →
        InClauses s pure r.contract (formals_known s r.text.formals) ((requires ks ++ olds) ++ rest) []
    left [] olds rest f none all = absurd (none refl)
    left (k ∷ ks) olds rest f none all = clauses.require f all

    by : Entered s me.handler r.text.formals vs → StandsInClauses s pure r.contract (formals_known s r.text.formals) [] (point_of (entry me r o bs) objects)
    by z = record {
      types = [];
      text_is = refl;
      names_are = ap scope_of (same_some (sym bound ∙ z.bound)) ∙ z.known;
      left = left r.require (keeps_olds (olds_of_clauses r.ensure)) (rest_of r) (rest_started r) some (clauses_typed s root pure faultless well tells me r is);
      values = tt;
    }
