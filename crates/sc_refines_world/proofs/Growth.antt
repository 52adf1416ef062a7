-- Jobs that leave the objects as they are, or one new one more.
use Rattle.std.proofs.Common.{inl, inr, ℕ, ◌+◌, Bool, true, false, List, ◌∷◌, Option, Some, None, length, refl}
use Rattle.std.specs.Prelude.{◌==◌, ◌&&◌, nat_lt, if◌then◌else◌}
use Rattle.sc_model.specs.declared.cause.Cause.{Cause}
use Rattle.sc_code.specs.declared.program.AttributeCode.{AttributeCode}
use Rattle.sc_code.specs.declared.program.Image.{Image}
use Rattle.sc_code.specs.declared.program.RoutineCode.{RoutineCode}
use Rattle.sc_code.specs.declared.program.FeatureCode.{FeatureCode}
use Rattle.sc_code.specs.declared.program.FeatureCode.TheVariants as version
use Rattle.sc_region.specs.declared.frame.Origin.{Origin}
use Rattle.sc_region.specs.declared.frame.Origin.TheVariants as origin
use Rattle.sc_region.specs.declared.frame.Stage.{Stage}
use Rattle.sc_region.specs.declared.frame.Stage.TheVariants as stage
use Rattle.sc_region.specs.declared.job.Errand.{Errand}
use Rattle.sc_region.specs.declared.job.Errand.TheVariants as errand
use Rattle.sc_region.specs.declared.job.Request.{Request}
use Rattle.sc_region.specs.declared.value.Reference.{Reference}
use Rattle.sc_region.specs.declared.value.Value.{Value}
use Rattle.sc_region.specs.Classes.{object_breaks, routine_at}
use Rattle.sc_region.specs.Objects.{PlainObject, attribute_of, object_numbered}
use Rattle.sc_region.specs.Stores.{PlainStore, born, entered, entered_at, failed, is_settled, max_frames, settled, with_new}
use Rattle.sc_region.specs.Stores as store
use Rattle.sc_acts.specs.Entering.{routine_in}
use Rattle.sc_acts.specs.Exiting.{is_void}
use Rattle.sc_acts.specs.Tables.{version_in}
use Rattle.sc_play.specs.Answering.{granted, granted_in, replied, replied_in, top_stage}
use Rattle.sc_play.specs.Taking.{answered, attribute_at, born_by, taken, taken_creation, taken_errand, taken_on, taken_version}
use Rattle.sc_refines_world.proofs.Exact.{Grown}

module _ (p : Image) (os : List PlainObject) where
  either : (b : Bool) (x y : PlainStore) → Grown p os x → Grown p os y → Grown p os (if b then x else y)
  either true x y l m = l
  either false x y l m = m

  fails : (why : Cause) (x : PlainStore) → Grown p os x → Grown p os (failed why x)
  fails why x g = record { program = g.program; objects = g.objects }

  settles : (number : ℕ) (x : PlainStore) → Grown p os x → Grown p os (settled number x)
  settles number x g = either (is_settled number x && object_breaks x.program (object_numbered number x.objects)) _ x (fails _ x g) g

  enters : (me : Reference) (routine : ℕ) (o : Origin) (us : List Value) (x : PlainStore) → Grown p os x → Grown p os (entered me routine o us x)
  enters me routine o us x g = by (routine_at x.program routine)
    where
      by : (c : Option RoutineCode) → Grown p os (entered_at (length x.frames) me routine c o us x)
      by None = fails _ x g
      by (Some r) =
          either (length us == r.formals) _ _
          (either (nat_lt (length x.frames) max_frames) (record x { frames = store.entry me routine r o us ∷ x.frames }) _ (record { program = g.program; objects = g.objects }) (fails _ x g))
          (fails _ x g)

-- ---- requests

module _ (y : PlainStore) where
  abbrev Grows : PlainStore → Type 0
  Grows z = Grown y.program y.objects z

  same : Grows y
  same = record { program = refl; objects = inl refl }

  new : (class : ℕ) → Grows (with_new class y)
  new class = record { program = refl; objects = inr (class, refl) }

  birth : (class : ℕ) → Grows (born class y)
  birth class = settles y.program y.objects (length y.objects + 1) (with_new class y) (new class)

  answers : (a : Option AttributeCode) (v : Option Value) → Grows (answered a v y)
  answers (Some a) (Some v) = either y.program y.objects (a.is_attached && is_void (Some v)) _ y (fails y.program y.objects _ y same) same
  answers (Some a) None = fails y.program y.objects _ y same
  answers None v = fails y.program y.objects _ y same

  takes_version : (r : Request) (v : Option FeatureCode) → Grows (taken_version r v y)
  takes_version r (Some (version.Routine n)) = enters y.program y.objects r.target n origin.Requested r.actuals.items y same
  takes_version r (Some (version.Attribute n)) = answers (attribute_at y.program r.target.class n) (attribute_of r.target.number n y.objects)
  takes_version r None = fails y.program y.objects _ y same

  takes_on : (r : Request) (o : Option PlainObject) (v : Option FeatureCode) → Grows (taken_on r o v y)
  takes_on r (Some o) v = takes_version r v
  takes_on r None v = fails y.program y.objects _ y same

  born_so : (n : Option ℕ) (r : Request) → Grows (born_by n r y)
  born_so (Some n) r =
      settles y.program y.objects (length y.objects + 1) _ (enters y.program y.objects r.target n origin.RequestedCreation r.actuals.items (with_new r.target.class y) (new r.target.class))
  born_so None r = fails y.program y.objects _ (born r.target.class y) (birth r.target.class)

  takes_creation : (k : Option ℕ) (r : Request) → Grows (taken_creation k r y)
  takes_creation None r = birth r.target.class
  takes_creation (Some k) r = born_so (routine_in (version_in y.program r.target.class k)) r

  takes_errand : (h : ℕ) (e : Errand) (r : Request) → Grows (taken_errand h e r y)
  takes_errand h (errand.Calls k) r =
      either y.program y.objects (r.target.handler == h) _ _ (takes_on r (object_numbered r.target.number y.objects) (version_in y.program r.target.class k)) (fails y.program y.objects _ y same)
  takes_errand h (errand.Makes k) r = takes_creation k r

  pub grows_taking : (h : ℕ) (r : Request) → Grown y.program y.objects (taken h r y)
  grows_taking h r = takes_errand h r.errand r

  -- ---- answers, and reserve steps

  replies : (st : Option Stage) (v : Option Value) → Grows (replied_in st v y)
  replies (Some (stage.Awaits k gives is_creation)) v = record { program = refl; objects = inl refl }
  replies (Some stage.Runs) v = same
  replies (Some stage.Reserves) v = fails y.program y.objects _ y same
  replies (Some stage.ReservesBlock) v = fails y.program y.objects _ y same
  replies (Some (stage.InCall gives)) v = fails y.program y.objects _ y same
  replies None v = fails y.program y.objects _ y same

  pub grows_replying : (v : Option Value) → Grown y.program y.objects (replied v y)
  grows_replying v = replies (top_stage y) v

  grants : (st : Option Stage) (ks : List ℕ) → Grows (granted_in st ks y)
  grants (Some stage.Reserves) ks = record { program = refl; objects = inl refl }
  grants (Some stage.ReservesBlock) ks = record { program = refl; objects = inl refl }
  grants (Some stage.Runs) ks = fails y.program y.objects _ y same
  grants (Some (stage.InCall gives)) ks = fails y.program y.objects _ y same
  grants (Some (stage.Awaits k gives is_creation)) ks = fails y.program y.objects _ y same
  grants None ks = fails y.program y.objects _ y same

  pub grows_granting : (ks : List ℕ) → Grown y.program y.objects (granted ks y)
  grows_granting ks = grants (top_stage y) ks

  pub grows_failing : (why : Cause) → Grown y.program y.objects (failed why y)
  grows_failing why = fails y.program y.objects why y same
