-- What a request that is taken makes of a store, and what it asks.
use Rattle.std.specs.Prelude.{ℕ, ◌==◌, ◌&&◌, false, [], Option, Some, None, slice_get, if◌then◌else◌}
use Rattle.std.specs.Option.{option_and_then}
use Rattle.sc_model.specs.declared.cause.Cause.TheVariants as cause
use Rattle.sc_code.specs.declared.program.AttributeCode.{AttributeCode}
use Rattle.sc_code.specs.declared.program.ClassCode.{ClassCode}
use Rattle.sc_code.specs.declared.program.Image.{Image}
use Rattle.sc_code.specs.declared.program.FeatureCode.{FeatureCode}
use Rattle.sc_code.specs.declared.program.FeatureCode.TheVariants as version
use Rattle.sc_region.specs.declared.frame.Origin.TheVariants as origin
use Rattle.sc_region.specs.declared.job.Errand.{Errand}
use Rattle.sc_region.specs.declared.job.Errand.TheVariants as errand
use Rattle.sc_region.specs.declared.job.Request.{Request}
use Rattle.sc_region.specs.declared.job.Want.{Want}
use Rattle.sc_region.specs.declared.job.Want.TheVariants as want
use Rattle.sc_region.specs.declared.value.Value.{Value}
use Rattle.sc_region.specs.Classes.{class_at}
use Rattle.sc_region.specs.Frames.{top_activation}
use Rattle.sc_region.specs.Objects.{PlainObject, object_numbered, attribute_of}
use Rattle.sc_region.specs.Stores.{PlainStore, failed, entered, born, born_for}
use Rattle.sc_acts.specs.Entering.{asks_beginning, routine_in}
use Rattle.sc_acts.specs.Exiting.{is_void}
use Rattle.sc_acts.specs.Tables.{version_in}

-- ---- a query of an attribute

-- the attribute at the number of the class
abbrev pub attribute_at : Image → ℕ → ℕ → Option AttributeCode
attribute_at p k n = option_and_then (λ (c : ClassCode). slice_get c.attributes.items n) (class_at p k)

-- The attribute, which has this value, is answered at once. It is unset where its type is attached and it is still
-- Void.
abbrev pub answered : Option AttributeCode → Option Value → PlainStore → PlainStore
answered (Some a) (Some v) x = if a.is_attached && is_void (Some v) then failed cause.UnsetEntity x else x
answered (Some a) None x = failed cause.BadCode x
answered None v x = failed cause.BadCode x

abbrev pub asks_answering : Option Value → Want
asks_answering v = want.Done v (record { items = [] }) false

-- ---- a call

abbrev pub taken_version : Request → Option FeatureCode → PlainStore → PlainStore
taken_version r (Some (version.Routine n)) x = entered r.target n origin.Requested r.actuals.items x
taken_version r (Some (version.Attribute n)) x =
    answered (attribute_at x.program r.target.class n) (attribute_of r.target.number n x.objects) x
taken_version r None x = failed cause.BadCode x

abbrev pub taken_on : Request → Option PlainObject → Option FeatureCode → PlainStore → PlainStore
taken_on r (Some o) v x = taken_version r v x
taken_on r None v x = failed cause.BadCode x

-- The feature of the number is called on the target, which is an object of this handler.
abbrev pub taken_call : ℕ → Request → ℕ → PlainStore → PlainStore
taken_call h r k x =
    if r.target.handler == h
    then taken_on r (object_numbered r.target.number x.objects) (version_in x.program r.target.class k) x
    else failed cause.ForeignObject x

abbrev pub asks_version : Request → Option FeatureCode → PlainStore → PlainStore → Want
asks_version r (Some (version.Attribute n)) x y = asks_answering (attribute_of r.target.number n x.objects)
asks_version r (Some (version.Routine n)) x y = asks_beginning y.program (top_activation y.frames)
asks_version r None x y = want.Continue

abbrev pub asks_on : Request → Option PlainObject → Option FeatureCode → PlainStore → PlainStore → Want
asks_on r (Some o) v x y = asks_version r v x y
asks_on r None v x y = want.Continue

abbrev pub asks_call : ℕ → Request → ℕ → PlainStore → PlainStore → Want
asks_call h r k x y =
    if r.target.handler == h
    then asks_on r (object_numbered r.target.number x.objects) (version_in x.program r.target.class k) x y
    else want.Continue

-- ---- a creation

-- An object is made, and the routine of the number entered on it, if one is given.
abbrev pub born_by : Option ℕ → Request → PlainStore → PlainStore
born_by (Some n) r x = born_for r.target n origin.RequestedCreation r.actuals.items x
born_by None r x = failed cause.BadCode (born r.target.class x)

abbrev pub taken_creation : Option ℕ → Request → PlainStore → PlainStore
taken_creation None r x = born r.target.class x
taken_creation (Some k) r x = born_by (routine_in (version_in x.program r.target.class k)) r x

-- Without a procedure the request ends at once.
abbrev pub asks_creation : Option ℕ → PlainStore → Want
asks_creation None y = asks_answering None
asks_creation (Some k) y = asks_beginning y.program (top_activation y.frames)

-- ---- requests

abbrev pub taken_errand : ℕ → Errand → Request → PlainStore → PlainStore
taken_errand h (errand.Calls k) r x = taken_call h r k x
taken_errand h (errand.Makes k) r x = taken_creation k r x

-- The handler of the number takes the request.
abbrev pub taken : ℕ → Request → PlainStore → PlainStore
taken h r x = taken_errand h r.errand r x

abbrev pub asks_errand : ℕ → Errand → Request → PlainStore → PlainStore → Want
asks_errand h (errand.Calls k) r x y = asks_call h r k x y
asks_errand h (errand.Makes k) r x y = asks_creation k y

-- What a request asks, unless it fails, where the second store is what it makes of the first one.
abbrev pub asks_taking : ℕ → Request → PlainStore → PlainStore → Want
asks_taking h r x y = asks_errand h r.errand r x y
