-- A routine is entered on top of a stack: each value still fits.
use Rattle.std.specs.List.{flat_map}
use Rattle.std.specs.Option.{option_and_then, option_map}
use Rattle.std.specs.Prelude.{◌==◌, if◌then◌else◌, length, nat_lt}
use Rattle.std.proofs.Common.{◌+◌, ◌++◌, ◌<◌, Bool, List, None, Option, Some, [], ap, false, refl, subst, sym, true, ℕ, ◌∙◌, ◌∷◌, ◌≡◌}
use Rattle.sc_tree.specs.Plain as tree
use Rattle.sc_tree.specs.Plain.{Declaration, FeatureKind, RoutineDeclaration, System}
use Rattle.sc_class.specs.ClassNames.{Root}
use Rattle.sc_class.specs.Faults.ClassRules.{IsFaultless}
use Rattle.sc_class.specs.Tables.Features.{DeclaredFeature}
use Rattle.sc_class.specs.declared.identity.ClassId.{ClassId}
use Rattle.sc_class.specs.declared.identity.ClassId.TheVariants as class
use Rattle.sc_class.proofs.Declarers.{found_stands}
use Rattle.sc_rules.specs.declared.entity_types.entity_type.EntityType.{EntityType}
use Rattle.sc_rules.specs.Names.{RoutineName}
use Rattle.sc_rules.specs.Purity.{IsPurity}
use Rattle.sc_rules.specs.SystemRules.{WellFormed}
use Rattle.sc_rules.specs.Types.{declared_type}
use Rattle.sc_model.specs.Entries.{enters, enters_bound, entry, result_of, stage_with}
use Rattle.sc_model.specs.Environments.{Binding, formals_bound, separate_formals, with_binding}
use Rattle.sc_model.specs.Failures.{fails_with, request_of, to_list}
use Rattle.sc_model.specs.Handlers.{Frame, Origin, Request, World, point_of, with_stack}
use Rattle.sc_model.specs.Limits.{max_frames}
use Rattle.sc_model.specs.Routines.{Routine, Text, origin_of, routine_from, routine_named, routine_of, routine_with, text_of, version_of}
use Rattle.sc_model.specs.Values.{Operand, Reference, Value, default_of}
use Rattle.sc_model.specs.declared.cause.Cause.TheVariants as cause
use Rattle.sc_machine_laws.specs.states.Fitting.{ActualsFit, FrameFits, HandlerFits, Linked, ObjectFits, RequestFits, ValueIsThere, WorldFits, coming_to}
use Rattle.sc_machine_laws.specs.states.Places.{of_actuals}
use Rattle.sc_machine_laws.specs.states.Points.{Each, IsAmong, PointFits, listed}
use Rattle.sc_machine_laws.specs.states.Values.{EntryBegins}
use Rattle.sc_machine_laws.proofs.states.Remains.{failed_fits}
use Rattle.sc_machine_laws.proofs.states.Changes.{HasNoReply}
use Rattle.sc_machine_laws.proofs.states.Entry.{entries_fit}
use Rattle.sc_machine_laws.proofs.states.Lists.{same_some}
use Rattle.sc_machine_laws.proofs.states.Settled.{replaced}

-- ---- the routine that is entered

-- The routine of a feature has its name and its text.
pub record IsRoutineOf (s : System) (f : DeclaredFeature) (own : RoutineDeclaration) (r : Routine) : Type 0 where
  pub name_is : r.name ≡ f.feature.name.text
  pub text_is : r.text ≡ text_of s f.class own.formals own.result_type

pub routine_is : (s : System) (f : DeclaredFeature) (own : RoutineDeclaration) (r : Routine) → f.feature.kind ≡ tree.Routine own → routine_of s f ≡ Some r → IsRoutineOf s f own r
routine_is s f own r is = of_origin (origin_of s f)
  where
    of_kinds : (k : ℕ) (o : FeatureKind) → routine_with s f.feature.name.text f.class (tree.Routine own) k o ≡ Some r → IsRoutineOf s f own r
    of_kinds k (tree.Attribute d) e = cc
    of_kinds k (tree.Routine original) e = subst (IsRoutineOf s f own) (same_some e) (record { name_is = refl; text_is = refl })

    of_origin : (o : Option DeclaredFeature) → routine_from s f o ≡ Some r → IsRoutineOf s f own r
    of_origin None e = cc
    of_origin (Some o) e = of_kinds o.class o.feature.kind (ap (λ m. routine_with s f.feature.name.text f.class m o.class o.feature.kind) (sym is) ∙ e)

-- It is the one that an object of the class runs under its name.
pub named_so : (s : System) (k : ℕ) (x : List ℕ) (f : DeclaredFeature) (own : RoutineDeclaration) (r : Routine) → version_of s k x ≡ Some f → f.feature.kind ≡ tree.Routine own →
    routine_of s f ≡ Some r → routine_named s k r.name ≡ Some r
named_so s k x f own r e is i =
    ap (λ y. option_and_then (routine_of s) (version_of s k y)) ((routine_is s f own r is i).name_is ∙ (found_stands s k x f e).is_named) ∙ ap (option_and_then (routine_of s)) e ∙ i

-- ---- what its entry has

-- each value of the bindings is one of the actuals
bound_led : (s : System) (P : Value → Type 0) (all : List Declaration) (i : ℕ) (ds : List Declaration) (vs : List Value) (bs : List Binding) → formals_bound s all i ds vs ≡ Some bs → Each P vs →
    Each (λ (b : Binding). P b.value) bs
bound_led s P all i [] [] bs e f = subst (Each (λ (b : Binding). P b.value)) (same_some e) tt
bound_led s P all i [] (v ∷ vs) bs e f = cc
bound_led s P all i (d ∷ ds) [] bs e f = cc
bound_led s P all i (d ∷ ds) (v ∷ vs) bs e f = by (declared_type s all d.declared_type) (formals_bound s all (i + 1) ds vs) (λ cs q. bound_led s P all (i + 1) ds vs cs q f.1) e
  where
    by : (t : Option EntityType) (o : Option (List Binding)) → ((cs : List Binding) → o ≡ Some cs → Each (λ (b : Binding). P b.value) cs) → with_binding t d.name.text i v o ≡ Some bs →
        Each (λ (b : Binding). P b.value) bs
    by (Some t) (Some cs) g e = subst (Each (λ (b : Binding). P b.value)) (same_some e) (f.0, g cs refl)
    by (Some t) None g e = cc
    by None (Some cs) g e = cc
    by None None g e = cc

-- a default leads nowhere
pub default_led : (w : World) (c : ClassId) → ValueIsThere w (default_of c)
default_led w class.Integer r e = cc
default_led w class.Boolean r e = cc
default_led w class.Any r e = cc
default_led w class.None r e = cc
default_led w (class.Declared k) r e = cc

result_led : (w : World) (o : Option (Option EntityType)) → Each (λ (u : Operand). ValueIsThere w u.value) (listed (result_of o))
result_led w None = tt
result_led w (Some None) = tt
result_led w (Some (Some t)) = (default_led w t.class, tt)

no_coming : (vs : List Value) → coming_to (stage_with vs) ≡ []
no_coming [] = refl
no_coming (v ∷ vs) = refl

-- ---- the entry

module _ (s : System) (root : Root) (pure : RoutineName → Bool) (faultless : IsFaultless s root) (well : WellFormed s) (tells : IsPurity s pure)
    (w : World) (h : ℕ) (me : Reference) (own : me.handler ≡ h) (among : IsAmong (w.handlers h).objects me) (others : (k : ℕ) → k < w.count → (k == h) ≡ false → HandlerFits s pure w k)
    (objects : Each (ObjectFits s w h) (w.handlers h).objects) (none : HasNoReply (w.handlers h)) (origin : Origin) (under : List Frame) (under_fit : Each (FrameFits s pure w h) under)
    (requests : Each (RequestFits s w h) ((w.handlers h).queue ++ to_list (w.handlers h).callback ++ (request_of origin ++ flat_map (λ (f : Frame). request_of f.origin) under)))
    (taken : List Request) (vs : List Value) (there : Each (ValueIsThere w) vs) where
  -- the handler fails
  not_entered : WorldFits s pure (fails_with h cause.BadCode taken w)
  not_entered = failed_fits s pure w h cause.BadCode taken me among (λ l. objects) others

  entry_stands : (r : Routine) (bs : List Binding) → routine_named s me.class r.name ≡ Some r → formals_bound s r.text.formals 0 r.text.formals vs ≡ Some bs →
      PointFits s pure r me.handler [] (point_of (entry me r origin bs) (w.handlers h).objects) → FrameFits s pure w h (entry me r origin bs)
  entry_stands r bs is bound fits = record {
    is_own = own;
    is_there = among;
    is_version = is;
    point_fits = subst (λ k. PointFits s pure r k (coming_to (stage_with (separate_formals bs))) (point_of (entry me r origin bs) (w.handlers h).objects)) own
        (subst (λ ts. PointFits s pure r me.handler ts (point_of (entry me r origin bs) (w.handlers h).objects)) (sym (no_coming (separate_formals bs))) fits);
    names_are_there = bound_led s (ValueIsThere w) r.text.formals 0 r.text.formals vs bs bound there;
    values_are_there = result_led w r.text.result;
  }

  -- The routine is entered where the actuals fit its formals.
  pub entered : (r : Routine) → routine_named s me.class r.name ≡ Some r → ActualsFit s me.handler r.text.formals (of_actuals vs) r.text.formals vs →
      ((bs : List Binding) → Linked s h (entry me r origin bs ∷ under)) → WorldFits s pure (enters_bound h me r origin under taken (formals_bound s r.text.formals 0 r.text.formals vs) w)
  entered r is actuals linked = of_entry (entries_fit s root pure faultless well tells r me is vs actuals origin (w.handlers h).objects)
    where
      of_entry : EntryBegins s pure r me vs origin (w.handlers h).objects → WorldFits s pure (enters_bound h me r origin under taken (formals_bound s r.text.formals 0 r.text.formals vs) w)
      of_entry z = subst (λ o. WorldFits s pure (enters_bound h me r origin under taken o w)) (sym z.are_bound) (by (nat_lt (length under) max_frames))
        where
          by : (b : Bool) → WorldFits s pure (if b then with_stack h (entry me r origin z.bindings ∷ under) w else fails_with h cause.StackFull taken w)
          by true = replaced s pure w h (record (w.handlers h) { stack = entry me r origin z.bindings ∷ under }) (record { objects = refl; queue = λ i. refl }) others objects
              (entry_stands r z.bindings is z.are_bound z.fits, under_fit) (linked z.bindings) requests (λ v e. absurd (none v e))
          by false = failed_fits s pure w h cause.StackFull taken me among (λ l. objects) others

  -- So is the routine of a feature of its class.
  pub feature_entered : (x : List ℕ) (f : DeclaredFeature) (version : RoutineDeclaration) → version_of s me.class x ≡ Some f → f.feature.kind ≡ tree.Routine version →
      ActualsFit s me.handler version.formals (of_actuals vs) version.formals vs →
      ((r : Routine) (bs : List Binding) → r.text.result ≡ option_map (declared_type s []) version.result_type → Linked s h (entry me r origin bs ∷ under)) →
      (o : Option Routine) → routine_of s f ≡ o → WorldFits s pure (enters s h me o origin under taken vs w)
  feature_entered x f version e is actuals linked None i = not_entered
  feature_entered x f version e is actuals linked (Some r) i =
      let q = (routine_is s f version r is i).text_is in
      entered r (named_so s me.class x f version r e is i)
      (subst (λ ds. ActualsFit s me.handler ds (of_actuals vs) ds vs) (sym (ap (λ (t : Text). t.formals) q)) actuals) (λ bs. linked r bs (ap (λ (t : Text). t.result) q))
