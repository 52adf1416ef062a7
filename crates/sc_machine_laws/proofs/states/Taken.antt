-- A request is taken: each value still fits.
use Rattle.std.specs.List.{flat_map}
use Rattle.std.specs.Option.{option_and_then, option_map}
use Rattle.std.specs.Prelude.{◌==◌, if◌then◌else◌}
use Rattle.std.proofs.Common.{◌++◌, ◌<◌, Bool, List, None, Option, Some, [], ap, false, refl, subst, sym, true, ℕ, ◌∙◌, ◌∷◌, ◌≡◌}
use Rattle.std.proofs.lemmas.Bool.{eqb-true}
use Rattle.sc_tree.specs.Plain as tree
use Rattle.sc_tree.specs.Plain.{DeclaredType, FeatureKind, RoutineDeclaration, System}
use Rattle.sc_class.specs.ClassNames.{Root}
use Rattle.sc_class.specs.Faults.ClassRules.{IsFaultless}
use Rattle.sc_class.specs.Tables.Features.{DeclaredFeature}
use Rattle.sc_rules.specs.declared.entity_types.entity_type.EntityType.{EntityType}
use Rattle.sc_rules.specs.Names.{RoutineName}
use Rattle.sc_rules.specs.Purity.{IsPurity}
use Rattle.sc_rules.specs.SystemRules.{WellFormed}
use Rattle.sc_rules.specs.Types.{declared_type}
use Rattle.sc_model.specs.Answers.{finish}
use Rattle.sc_model.specs.Entries.{enters}
use Rattle.sc_model.specs.Environments.{Binding, binding_named}
use Rattle.sc_model.specs.Exits.{is_unset, is_unset_value}
use Rattle.sc_model.specs.Failures.{fails_with, request_of, to_list}
use Rattle.sc_model.specs.Handlers.{Frame, Reply, Request, Requested, World}
use Rattle.sc_model.specs.Invariants.{meets_invariant}
use Rattle.sc_model.specs.Objects.{fresh_object, object_numbered}
use Rattle.sc_model.specs.Routines.{Routine, origin_of, routine_from, routine_of, routine_with, version_of}
use Rattle.sc_model.specs.Takes.{replies, takes_creation, takes_kind, takes_version}
use Rattle.sc_model.specs.Values.{Operand, operand}
use Rattle.sc_model.specs.declared.cause.Cause.{Cause}
use Rattle.sc_model.specs.declared.cause.Cause.TheVariants as cause
use Rattle.sc_machine_laws.specs.states.Fitting.{ActualsFit, FrameFits, HandlerFits, IsAwaited, Linked, ObjectFits, ReplyFits, RequestFits, TakesResult, ValueIsThere, WorldFits, alone}
use Rattle.sc_machine_laws.specs.states.Places.{called_name, formals_if_any, formals_of_kind, of_actuals, result_if_any, result_of_kind, result_of_request}
use Rattle.sc_machine_laws.specs.states.Points as point
use Rattle.sc_machine_laws.specs.states.Points.{Each, IsAmong, ResultFits, listed}
use Rattle.sc_machine_laws.proofs.states.RequestEnds.{reply_ends}
use Rattle.sc_machine_laws.proofs.states.Attributes.{Attribute, attribute_found, found_each}
use Rattle.sc_machine_laws.proofs.states.Calls.{numbered_fits}
use Rattle.sc_machine_laws.proofs.states.Remains.{failed_fits}
use Rattle.sc_machine_laws.proofs.states.Changes.{HasNoReply}
use Rattle.sc_machine_laws.proofs.states.EnteredStacks.{feature_entered}
use Rattle.sc_machine_laws.proofs.states.ValueArrivals.{given_value}
use Rattle.sc_machine_laws.proofs.states.Lists.{each_append}

-- The request is taken on top of this stack, and its target is there.
pub record Taken (s : System) (pure : RoutineName → Bool) (w : World) (h : ℕ) (r : Request) (below : List Frame) : Type 0 where
  pub is_one : h < w.count
  pub others_fit : (k : ℕ) → k < w.count → (k == h) ≡ false → HandlerFits s pure w k
  pub objects_fit : Each (ObjectFits s w h) (w.handlers h).objects
  pub stack_is : (w.handlers h).stack ≡ below
  pub frames_fit : Each (FrameFits s pure w h) below
  pub are_linked : Linked s h below
  pub waiting_fit : Each (RequestFits s w h) ((w.handlers h).queue ++ to_list (w.handlers h).callback)
  pub stacked_fit : Each (RequestFits s w h) (flat_map (λ (f : Frame). request_of f.origin) below)
  pub has_no_reply : HasNoReply (w.handlers h)
  pub request_fits : RequestFits s w h r
  pub among : IsAmong (w.handlers h).objects r.target
  pub awaited : IsAwaited s w h r (result_of_request s r)

-- an attribute is no routine
no_routine : (s : System) (f : DeclaredFeature) (d : DeclaredType) (r : Routine) → f.feature.kind ≡ tree.Attribute d → routine_of s f ≡ Some r → ⊥
no_routine s f d r is = of_origin (origin_of s f)
  where
    of_origin : (o : Option DeclaredFeature) → routine_from s f o ≡ Some r → ⊥
    of_origin None e = cc
    of_origin (Some o) e = let no : None ≡ Some r = sym (ap (λ m. routine_with s f.feature.name.text f.class m o.class o.feature.kind) is) ∙ e in cc

module _ (s : System) (root : Root) (pure : RoutineName → Bool) (faultless : IsFaultless s root) (well : WellFormed s) (tells : IsPurity s pure)
    (w : World) (h : ℕ) (r : Request) (below : List Frame) (z : Taken s pure w h r below) where
  -- all fits without the request
  taken_fits : WorldFits s pure w
  taken_fits k l = by (k == h) refl
    where
      own : HandlerFits s pure w h
      own = record {
        objects_fit = z.objects_fit;
        frames_fit = subst (Each (FrameFits s pure w h)) (sym z.stack_is) z.frames_fit;
        frames_are_linked = subst (Linked s h) (sym z.stack_is) z.are_linked;
        requests_fit = each_append (RequestFits s w h) ((w.handlers h).queue ++ to_list (w.handlers h).callback) (flat_map (λ (f : Frame). request_of f.origin) (w.handlers h).stack) z.waiting_fit
            (subst (λ fs. Each (RequestFits s w h) (flat_map (λ (f : Frame). request_of f.origin) fs)) (sym z.stack_is) z.stacked_fit);
        answer_fits = λ v e. absurd (z.has_no_reply v e);
      }

      by : (b : Bool) → (k == h) ≡ b → HandlerFits s pure w k
      by true e = subst (HandlerFits s pure w) (sym (eqb-true k h e)) own
      by false e = z.others_fit k l e

  -- the handler fails
  pub taken_fails : (why : Cause) → WorldFits s pure (fails_with h why (r ∷ []) w)
  taken_fails why = failed_fits s pure w h why (r ∷ []) r.target z.among (λ l. z.objects_fit) z.others_fit

  -- ---- a routine is entered

  module _ (x : List ℕ) (f : DeclaredFeature) (named : called_name r.errand ≡ Some x) (is : version_of s r.target.class x ≡ Some f) where
    version_is : option_and_then (version_of s r.target.class) (called_name r.errand) ≡ Some f
    version_is = ap (option_and_then (version_of s r.target.class)) named ∙ is

    routine_entered : (version : RoutineDeclaration) → f.feature.kind ≡ tree.Routine version → WorldFits s pure (enters s h r.target (routine_of s f) (Requested r) below (r ∷ []) r.actuals w)
    routine_entered version kind =
        feature_entered s root pure faultless well tells w h r.target z.request_fits.is_here z.among z.others_fit z.objects_fit z.has_no_reply (Requested r) below z.frames_fit
        (each_append (RequestFits s w h) ((w.handlers h).queue ++ to_list (w.handlers h).callback) (r ∷ flat_map (λ (f : Frame). request_of f.origin) below) z.waiting_fit (z.request_fits, z.stacked_fit))
        (r ∷ []) r.actuals z.request_fits.actuals_are_there x f version is kind
        (subst (λ ds. ActualsFit s r.target.handler ds (of_actuals r.actuals) ds r.actuals) (ap formals_if_any version_is ∙ ap formals_of_kind kind) z.request_fits.actuals_fit)
        (λ q bs i. alone {r = r} refl (i ∙ sym (ap (result_if_any s) version_is ∙ ap (result_of_kind s) kind)) z.are_linked)
        (routine_of s f) refl

    -- the routine of the name, if it is one
    pub named_entered : WorldFits s pure (enters s h r.target (routine_of s f) (Requested r) below (r ∷ []) r.actuals w)
    named_entered = by f.feature.kind refl
      where
        none : (d : DeclaredType) → f.feature.kind ≡ tree.Attribute d → (o : Option Routine) → routine_of s f ≡ o → WorldFits s pure (enters s h r.target o (Requested r) below (r ∷ []) r.actuals w)
        none d i None e = taken_fails cause.BadCode
        none d i (Some q) e = absurd (no_routine s f d q i e)

        by : (kind : FeatureKind) → f.feature.kind ≡ kind → WorldFits s pure (enters s h r.target (routine_of s f) (Requested r) below (r ∷ []) r.actuals w)
        by (tree.Routine version) i = routine_entered version i
        by (tree.Attribute d) i = none d i (routine_of s f) refl

  -- ---- a reply at once

  -- the request ends with what fits its result
  reply_fits : (result : Option (Option EntityType)) (o : Option Operand) → result_of_request s r ≡ result → ResultFits s h result o → is_unset o ≡ false →
      Each (λ (u : Operand). ValueIsThere w u.value) (listed o) → WorldFits s pure (finish r (Reply (option_map (λ (u : Operand). u.value) o)) w)
  reply_fits result o e fits set there = reply_ends s pure w r (option_map (λ (u : Operand). u.value) o) taken_fits
      (λ p waited poster l fa an. of_taker p (subst (TakesResult s w p h) e (z.awaited p l waited poster fa an)))
    where
      of_taker : (p : ℕ) → TakesResult s w p h result → ReplyFits s w p (option_map (λ (u : Operand). u.value) o)
      of_taker p t = record {
        frame = t.frame;
        below = t.below;
        supplier = t.supplier;
        takes = t.takes;
        is_creation = t.is_creation;
        stack_is = t.stack_is;
        stage_is = t.stage_is;
        fits = given_value s h p t.frame.environment (ValueIsThere w) result o t.takes fits set t.gives there;
      }

  -- the query of an attribute
  attribute_given : (x : List ℕ) (f : DeclaredFeature) (d : DeclaredType) → called_name r.errand ≡ Some x → version_of s r.target.class x ≡ Some f → f.feature.kind ≡ tree.Attribute d →
      WorldFits s pure (replies h r (declared_type s [] d) (binding_named x z.among.object.attributes) w)
  attribute_given x f d named is kind = by (declared_type s [] d) refl
    where
      fits : ObjectFits s w h z.among.object
      fits = numbered_fits (ObjectFits s w h) (w.handlers h).objects r.target.number z.among.object z.objects_fit z.among.is_there

      result_is : (t : EntityType) → declared_type s [] d ≡ Some t → result_of_request s r ≡ Some (Some t)
      result_is t e = ap (λ y. result_if_any s (option_and_then (version_of s r.target.class) y)) named ∙ ap (result_if_any s) is ∙ ap (result_of_kind s) kind ∙ ap (λ t. Some t) e

      of_attribute : (t : EntityType) → declared_type s [] d ≡ Some t → Attribute s h x t z.among.object → WorldFits s pure (replies h r (Some t) (binding_named x z.among.object.attributes) w)
      of_attribute t e a = subst (λ b. WorldFits s pure (replies h r (Some t) b w)) (sym a.is_there) (of_test (is_unset_value a.binding.value t) refl)
        where
          of_test : (b : Bool) → is_unset_value a.binding.value t ≡ b → WorldFits s pure (if b then fails_with h cause.UnsetEntity (r ∷ []) w else finish r (Reply (Some a.binding.value)) w)
          of_test true i = taken_fails cause.UnsetEntity
          of_test false i = reply_fits (Some (Some t)) (Some (operand a.binding.value t)) (result_is t e) (point.a_result {u = operand a.binding.value t} a.fits) i
              (found_each (λ (b : Binding). ValueIsThere w b.value) x z.among.object.attributes a.binding fits.are_there a.is_there, tt)

      by : (t : Option EntityType) → declared_type s [] d ≡ t → WorldFits s pure (replies h r t (binding_named x z.among.object.attributes) w)
      by None e = taken_fails cause.BadCode
      by (Some t) e = of_attribute t e (attribute_found s h x d t z.among.object f fits.attributes_fit (ap (λ k. version_of s k x) z.among.of_class ∙ is) kind e)

  -- ---- a feature is called

  pub version_taken : (x : List ℕ) → called_name r.errand ≡ Some x →
      WorldFits s pure (takes_version s h r x below (object_numbered r.target.number (w.handlers h).objects) (version_of s r.target.class x) w)
  version_taken x named = subst (λ o. WorldFits s pure (takes_version s h r x below o (version_of s r.target.class x) w)) (sym z.among.is_there) (by (version_of s r.target.class x) refl)
    where
      of_kind : (f : DeclaredFeature) → version_of s r.target.class x ≡ Some f → (kind : FeatureKind) → f.feature.kind ≡ kind → WorldFits s pure (takes_kind s h r x below z.among.object f kind w)
      of_kind f i (tree.Attribute d) e = attribute_given x f d named i e
      of_kind f i (tree.Routine c) e = routine_entered x f named i c e

      by : (f : Option DeclaredFeature) → version_of s r.target.class x ≡ f → WorldFits s pure (takes_version s h r x below (Some z.among.object) f w)
      by None i = taken_fails cause.BadCode
      by (Some f) i = of_kind f i f.feature.kind refl

  -- ---- an object is made

  pub creation_taken : (k : Option (List ℕ)) → called_name r.errand ≡ k → WorldFits s pure (takes_creation s h r k below w)
  creation_taken (Some x) e = by (version_of s r.target.class x) refl
    where
      by : (f : Option DeclaredFeature) → version_of s r.target.class x ≡ f → WorldFits s pure (enters s h r.target (option_and_then (routine_of s) f) (Requested r) below (r ∷ []) r.actuals w)
      by None i = taken_fails cause.BadCode
      by (Some f) i = named_entered x f e i
  creation_taken None e = by (meets_invariant s (fresh_object s r.target.class))
    where
      by : (b : Bool) → WorldFits s pure (if b then finish r (Reply None) w else fails_with h cause.Invariant (r ∷ []) w)
      by true = reply_fits None None (ap (λ y. result_if_any s (option_and_then (version_of s r.target.class) y)) e) point.no_result refl tt
      by false = taken_fails cause.Invariant
