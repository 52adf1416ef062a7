-- A request is taken: the region's half stays that of the machine.
use Rattle.std.proofs.Common.{◌≡◌, ◌==◌, ◌+◌, ℕ, Bool, true, false, List, [], ◌∷◌, ◌++◌, Option, Some, None, length, map, refl, sym, ap, subst, ◌∙◌}
use Rattle.std.specs.Prelude.{if◌then◌else◌}
use Rattle.std.specs.Option.{option_map}
use Rattle.sc_tree.specs.Plain as tree
use Rattle.sc_tree.specs.Plain.{System, FeatureKind}
use Rattle.sc_class.specs.Tables.Features.{DeclaredFeature}
use Rattle.sc_rules.specs.declared.entity_types.entity_type.EntityType.{EntityType}
use Rattle.sc_rules.specs.Types.{declared_type}
use Rattle.sc_model.specs.declared.cause.Cause.{Cause}
use Rattle.sc_model.specs.declared.cause.Cause.TheVariants as cause
use Rattle.sc_model.specs.Values as model
use Rattle.sc_model.specs.Environments.{Binding, binding_named}
use Rattle.sc_model.specs.Objects.{Object, object_numbered, fresh_object}
use Rattle.sc_model.specs.Invariants.{meets_invariant}
use Rattle.sc_model.specs.Routines.{version_of, routine_named, routine_of}
use Rattle.sc_model.specs.Exits.{is_unset_value}
use Rattle.sc_model.specs.Handlers as machine
use Rattle.sc_model.specs.Handlers.{Errand, Calls, Makes, Request, Answer, Reply, Requested, Frame, Handler, World}
use Rattle.sc_model.specs.Answers.{finish}
use Rattle.sc_model.specs.Failures.{fails_with}
use Rattle.sc_model.specs.Takes as takes_at
use Rattle.sc_handler.specs.Handlers as core
use Rattle.sc_request.specs.Asked as asked_at
use Rattle.sc_request.specs.Asked.{Numbering, errand_of, request_of}
use Rattle.sc_interp.specs.Values as interp
use Rattle.sc_refines_world.specs.regions.RegionTurns as region
use Rattle.sc_refines_world.specs.regions.RegionTurns.{Half, failed, settles, Takes}
use Rattle.sc_refines_world.specs.regions.RegionHalves.{AreHalvesOf, IsRegionHalf}
use Rattle.sc_refines_world.specs.regions.RegionSteps.{numbering_by, errand_in, request_with, taking, IsNamed}
use Rattle.sc_refines_world.proofs.regions.Alike.{own, finish_alike}
use Rattle.sc_refines_world.proofs.regions.Halves.{stands_on, finished_half, fail_both, fails_alone, half_at}
use Rattle.sc_refines_world.proofs.regions.SettledObjects.{Meets, settles_half}
use Rattle.sc_refines_world.proofs.regions.RegionEntries.{enters_full}

-- ---- the request that the job names

value_there : (v : model.Value) → interp.value_of (asked_at.value_of v) ≡ v
value_there (model.Integer z) = refl
value_there (model.Boolean b) = refl
value_there model.Void = refl
value_there (model.Attached r) = refl

values_there : (vs : List model.Value) → interp.values_of (map asked_at.value_of vs) ≡ vs
values_there [] = refl
values_there (v ∷ vs) = λ i. value_there v i ∷ values_there vs i

pub value_back : (v : Option model.Value) → option_map interp.value_of (option_map asked_at.value_of v) ≡ v
value_back None = refl
value_back (Some v) = ap (λ (u : model.Value). Some u) (value_there v)

errand_there : (names : List (List ℕ)) (class : ℕ) (e : Errand) → IsNamed names e → errand_in names (errand_of (numbering_by names) class e) ≡ Some e
errand_there names class (Calls x) named = ap (λ (o : Option (List ℕ)). option_map machine.Calls o) named
errand_there names class (Makes None) named = refl
errand_there names class (Makes (Some x)) named = ap (λ (o : Option (List ℕ)). option_map (λ (y : List ℕ). machine.Makes (Some y)) o) named

-- what the region knows of a request
abbrev pub unpassed_request : Request → Request
unpassed_request r = record r { passed = None }

request_there : (names : List (List ℕ)) (r : Request) → request_with (request_of (numbering_by names) r) r.errand ≡ unpassed_request r
request_there names r = λ i. record (unpassed_request r) { actuals = values_there r.actuals i }

pub task_there : (names : List (List ℕ)) (r : Request) → IsNamed names r.errand →
    taking (request_of (numbering_by names) r) (errand_in names (request_of (numbering_by names) r).errand) ≡ Takes (unpassed_request r)
task_there names r named =
    ap (λ (o : Option Errand). taking (request_of (numbering_by names) r) o) (errand_there names r.target.class r.errand named)
    ∙ ap (λ (q : Request). Takes q) (request_there names r)

-- ---- what comes of it

module _ (s : System) (h : ℕ) (r : Request) (fs gs : List Frame) (halves : AreHalvesOf h core.Runs fs gs) where
  -- the machine has taken the request, and stands so
  pub record IsTaking (w : World) : Type 0 where
    pub stack : (w.handlers h).stack ≡ fs
    pub stands : (w.handlers h).failure ≡ None

  abbrev IsHalf : World → Half → Type 0
  IsHalf v z = IsRegionHalf h (v.handlers h) core.Runs z

  -- the half before it
  abbrev pub half : World → Half
  half w = half_at (w.handlers h) gs

  rests : (w : World) → IsTaking w → IsHalf w (half w)
  rests w t = stands_on h core.Runs (w.handlers h) (half w) refl refl refl (subst (λ (is : List Frame). AreHalvesOf h core.Runs is gs) (sym t.stack) halves)

  fails : (w : World) (why : Cause) → IsHalf (fails_with h why (r ∷ []) w) (failed why (half w))
  fails w why = fail_both h core.Runs why (r ∷ []) w (half w) refl refl

  replies : (w : World) (t : Option EntityType) (b : Option Binding) → IsTaking w → IsHalf (takes_at.replies h r t b w) (region.replies t b (half w))
  replies w (Some t) (Some b) is = by (is_unset_value b.value t)
    where
      by : (c : Bool) → IsHalf (if c then fails_with h cause.UnsetEntity (r ∷ []) w else finish r (Reply (Some b.value)) w) (if c then failed cause.UnsetEntity (half w) else half w)
      by true = fails w cause.UnsetEntity
      by false = finished_half h core.Runs r (Reply (Some b.value)) w (half w) (rests w is)
  replies w (Some t) None is = fails w cause.BadCode
  replies w None b is = fails w cause.BadCode

  kind : (w : World) (name : List ℕ) (o : Object) (f : DeclaredFeature) (k : FeatureKind) → IsTaking w →
      IsHalf (takes_at.takes_kind s h r name fs o f k w) (region.takes_kind s (unpassed_request r) name o f k (half w))
  kind w name o f (tree.Attribute d) is = replies w (declared_type s [] d) (binding_named name o.attributes) is
  kind w name o f (tree.Routine c) is =
      (enters_full s h r.target (routine_of s f) (Requested r) fs gs (r ∷ []) r.actuals w (half w) halves refl refl refl is.stands).0

  version : (w : World) (name : List ℕ) (o : Option Object) (f : Option DeclaredFeature) → IsTaking w →
      IsHalf (takes_at.takes_version s h r name fs o f w) (region.takes_version s (unpassed_request r) name o f (half w))
  version w name (Some o) (Some f) is = kind w name o f f.feature.kind is
  version w name (Some o) None is = fails w cause.BadCode
  version w name None f is = fails w cause.BadCode

  calls : (w : World) (name : List ℕ) → IsTaking w → IsHalf (takes_at.takes_errand s h r (Calls name) fs w) (region.takes_errand s h (unpassed_request r) (Calls name) (half w))
  calls w name is = by (r.target.handler == h)
    where
      by : (c : Bool) →
          IsHalf (if c then takes_at.takes_version s h r name fs (object_numbered r.target.number (w.handlers h).objects) (version_of s r.target.class name) w
          else fails_with h cause.ForeignObject (r ∷ []) w)
          (if c then region.takes_version s (unpassed_request r) name (object_numbered r.target.number (w.handlers h).objects) (version_of s r.target.class name) (half w)
          else failed cause.ForeignObject (half w))
      by true = version w name (object_numbered r.target.number (w.handlers h).objects) (version_of s r.target.class name) is
      by false = fails w cause.ForeignObject

  -- no object breaks its invariant as the procedure begins,
  pub procedure_settles : (w : World) (n : ℕ) (name : List ℕ) → IsTaking w → Meets s ((takes_at.takes_creation s h r (Some name) fs w).handlers h) →
      settles s n (region.takes_creation s (unpassed_request r) (Some name) (half w)) ≡ region.takes_creation s (unpassed_request r) (Some name) (half w)
  procedure_settles w n name is meets =
      let full = enters_full s h r.target (routine_named s r.target.class name) (Requested r) fs gs (r ∷ []) r.actuals w (half w) halves refl refl refl is.stands in
      settles_half s h n ((takes_at.takes_creation s h r (Some name) fs w).handlers h) _ meets full.0 full.1

  -- or as a creation without one is done
  pub default_settles : (w : World) (n : ℕ) → IsTaking w → Meets s ((finish r (Reply None) w).handlers h) → settles s n (half w) ≡ half w
  default_settles w n is meets =
      let v = finish r (Reply None) w in
      let is_half = finished_half h core.Runs r (Reply None) w (half w) (rests w is) in
      let lives : (v.handlers h).failure ≡ None = (finish_alike r (Reply None) w h).failure ∙ is.stands in
      settles_half s h n (v.handlers h) (half w) meets is_half (sym lives)

  -- the new object is there; by the procedure, or without, when it is tested at once
  creation : (w : World) (n : ℕ) (k : Option (List ℕ)) → IsTaking w → Meets s ((takes_at.takes_creation s h r k fs w).handlers h) →
      IsHalf (takes_at.takes_creation s h r k fs w) (settles s n (region.takes_creation s (unpassed_request r) k (half w)))
  creation w n (Some name) is meets =
      let full = enters_full s h r.target (routine_named s r.target.class name) (Requested r) fs gs (r ∷ []) r.actuals w (half w) halves refl refl refl is.stands in
      subst (λ (z : Half). IsHalf (takes_at.takes_creation s h r (Some name) fs w) z) (sym (procedure_settles w n name is meets)) full.0
  creation w n None is meets = by (meets_invariant s (fresh_object s r.target.class)) meets
    where
      either : (c : Bool) → IsHalf (fails_with h cause.Invariant (r ∷ []) w) (if c then failed cause.Invariant (half w) else half w)
      either true = fails w cause.Invariant
      either false = fails_alone h core.Runs cause.Invariant (r ∷ []) w (half w) refl refl refl

      by : (c : Bool) → Meets s ((if c then finish r (Reply None) w else fails_with h cause.Invariant (r ∷ []) w).handlers h) →
          IsHalf (if c then finish r (Reply None) w else fails_with h cause.Invariant (r ∷ []) w) (settles s n (half w))
      by true m =
          subst (λ (z : Half). IsHalf (finish r (Reply None) w) z) (sym (default_settles w n is m))
          (finished_half h core.Runs r (Reply None) w (half w) (rests w is))
      by false m = either _

  errand : (w : World) (e : Errand) → IsTaking w → Meets s ((takes_at.takes_errand s h r e fs w).handlers h) →
      IsHalf (takes_at.takes_errand s h r e fs w) (region.takes_errand s h (unpassed_request r) e (half w))
  errand w (Calls name) is meets = calls w name is
  errand w (Makes k) is meets =
      let y = w.handlers h in
      let z = record y { objects = y.objects ++ fresh_object s r.target.class ∷ [] } in
      let w1 = takes_at.with_new_object s h r.target.class w in
      let same : w1.handlers h ≡ z = own h z w in
      let taking1 : IsTaking w1 = record {
        stack = ap (λ (u : Handler). u.stack) same ∙ is.stack;
        stands = ap (λ (u : Handler). u.failure) same ∙ is.stands;
      } in
      subst (λ (u : Handler). IsHalf (takes_at.takes_creation s h r k fs w1) (settles s (length y.objects + 1) (region.takes_creation s (unpassed_request r) k (half_at u gs))))
      same (creation w1 (length y.objects + 1) k taking1 meets)

  -- The request is taken where the handler stands so.
  pub takes_half : (w : World) (y : Handler) → w.handlers h ≡ y → y.stack ≡ fs → y.failure ≡ None → Meets s ((takes_at.takes s h r fs w).handlers h) →
      IsHalf (takes_at.takes s h r fs w) (region.takes s h (unpassed_request r) (half_at y gs))
  takes_half w y same stack stands meets =
      let is : IsTaking w = record { stack = ap (λ (u : Handler). u.stack) same ∙ stack; stands = ap (λ (u : Handler). u.failure) same ∙ stands } in
      subst (λ (u : Handler). IsHalf (takes_at.takes s h r fs w) (region.takes s h (unpassed_request r) (half_at u gs))) same (errand w r.errand is meets)
