-- What holds of each store that turns leave.
use Rattle.std.proofs.Common.{◌≡◌, ◌<◌, ℕ, ◌+◌, Bool, true, false, List, [], ◌∷◌, Option, Some, None, length, refl, sym, subst}
use Rattle.std.specs.Prelude.{◌&&◌, ◌==◌, if◌then◌else◌}
use Rattle.sc_code.specs.declared.program.AttributeCode.{AttributeCode}
use Rattle.sc_code.specs.declared.program.FeatureCode.{FeatureCode}
use Rattle.sc_code.specs.declared.program.FeatureCode.TheVariants as version
use Rattle.sc_model.specs.declared.cause.Cause.TheVariants as cause
use Rattle.sc_region.specs.declared.frame.Origin.{Origin}
use Rattle.sc_region.specs.declared.frame.Origin.TheVariants as origin
use Rattle.sc_region.specs.declared.frame.Stage.{Stage}
use Rattle.sc_region.specs.declared.frame.Stage.TheVariants as stage
use Rattle.sc_region.specs.declared.job.Errand.{Errand}
use Rattle.sc_region.specs.declared.job.Errand.TheVariants as errand
use Rattle.sc_region.specs.declared.job.Job.{Job}
use Rattle.sc_region.specs.declared.job.Job.TheVariants as job
use Rattle.sc_region.specs.declared.job.Request.{Request}
use Rattle.sc_region.specs.declared.job.Want.{Want}
use Rattle.sc_region.specs.declared.job.Want.TheVariants as want
use Rattle.sc_region.specs.declared.value.Reference.{Reference}
use Rattle.sc_region.specs.declared.value.Value.{Value}
use Rattle.sc_region.specs.Frames.{PlainActivation, PlainFrame}
use Rattle.sc_region.specs.Objects.{PlainObject, attribute_of, object_numbered}
use Rattle.sc_region.specs.Stores.{PlainStore, born, entered, failed, with_new}
use Rattle.sc_interp.specs.declared.hops.Hop.{Hop}
use Rattle.sc_interp.specs.declared.hops.Hop.TheVariants as hop
use Rattle.sc_region.specs.Calls.{on_top, top_frame}
use Rattle.sc_acts.specs.Entering.{routine_in}
use Rattle.sc_acts.specs.Exiting.{handed_as, is_void}
use Rattle.sc_acts.specs.Tables.{version_in}
use Rattle.sc_interp.specs.Told.{IsTold}
use Rattle.sc_play.specs.Answering.{block_granted, entry_granted, granted_in, replied_in, told_on, told_values, top_stage}
use Rattle.sc_play.specs.Answering as answering
use Rattle.sc_play.specs.Taking as taking
use Rattle.sc_play.specs.Taking.{answered, attribute_at, born_by, taken_on, taken_version}
use Rattle.sc_play.specs.Turns.{Becomes, GoesOn, TurnIn, TurnMade, TurnUnder, begun, done, first, more}
use Rattle.sc_refines_world.specs.regions.Acting.{TopRuns}
use Rattle.sc_refines_world.specs.regions.Rooms.{HaveRoom}
use Rattle.sc_refines_world.specs.regions.Sound.{CreateForNothing, CreatesForNothing, IsSound, JobsKeepSound, NewStoresAreSound, PlaysKeepSound, TurnsKeepSound}
use Rattle.sc_refines_world.proofs.regions.ValueRoom.{entered_room, handed_runs, room_is_kept, room_remains, settled_keeps, top_kept}
use Rattle.sc_refines_world.proofs.regions.FreeStores.{top_free, entered_free, acted_free, remains_free}

-- ---- turns

-- The frames are those of a sound store.
abbrev AreSound : List PlainFrame → Type 0
AreSound fs = HaveRoom fs × CreateForNothing fs

sound_with : (z : PlainStore) → AreSound z.frames → IsSound z
sound_with z kept = record { room = kept.0; creations = kept.1 }

sound_frames : (z : PlainStore) → IsSound z → AreSound z.frames
sound_frames z sound = (sound.room, sound.creations)

-- what a turn leaves that becomes this
becomes_sound : (v : PlainStore) (u : Want) (z : PlainStore) (w : Want) → Becomes v u z w → AreSound v.frames → IsSound z
becomes_sound v u z w b kept = subst IsSound (sym b.store) (sound_with v kept)

going_sound : (h : ℕ) (y z : PlainStore) (w : Want) → TopRuns y → GoesOn h y z w → IsSound y → IsSound z
going_sound h y z w runs g sound = subst IsSound (sym g.does) (by g.operation g.told)
  where
    free : CreateForNothing g.before.frames
    free = remains_free y.frames g.before.frames g.remains.below (λ a b ta tb. (g.remains.stays a b ta tb).stage) g.remains.current sound.creations

    by : (o : Hop) → IsTold o g.before → IsSound (done h o g.before)
    by hop.Passed told_so = record { room = room_remains y g.before runs g.remains sound.room; creations = free }
    by (hop.Failed why) told_so = record { room = tt; creations = tt }
    by (hop.Comes a) told_so = record { room = room_is_kept h a y g.before runs g.remains told_so sound.room; creations = acted_free h a g.before free }

turn_in_sound : (o : Option Stage) (h : ℕ) (y z : PlainStore) (w : Want) → top_stage y ≡ o → TurnIn o h y z w → IsSound y → IsSound z
turn_in_sound None h y z w e t sound = becomes_sound y want.Continue z w t (sound_frames y sound)
turn_in_sound (Some stage.Runs) h y z w e t sound = going_sound h y z w e t sound
turn_in_sound (Some stage.Reserves) h y z w e t sound = becomes_sound y want.Continue z w t (sound_frames y sound)
turn_in_sound (Some stage.ReservesBlock) h y z w e t sound = becomes_sound y want.Continue z w t (sound_frames y sound)
turn_in_sound (Some (stage.InCall gives)) h y z w e t sound = becomes_sound (failed cause.BadCode y) want.Continue z w t (tt, tt)
turn_in_sound (Some (stage.Awaits k gives is_creation)) h y z w e t sound = becomes_sound y want.Continue z w t (sound_frames y sound)

pub turns_keep_sound : TurnsKeepSound
turns_keep_sound h y z w t sound = turn_in_sound (top_stage y) h y z w refl t sound

-- ---- requests that are taken

either_sound : (b : Bool) (x y : PlainStore) → AreSound x.frames → AreSound y.frames → AreSound (if b then x else y).frames
either_sound true x y p q = p
either_sound false x y p q = q

entered_sound : (me : Reference) (routine : ℕ) (o : Origin) (us : List Value) (x : PlainStore) → AreSound x.frames → AreSound (entered me routine o us x).frames
entered_sound me routine o us x kept = (entered_room me routine o us x kept.0, entered_free me routine o us x kept.1)

answered_sound : (a : Option AttributeCode) (v : Option Value) (x : PlainStore) → AreSound x.frames → AreSound (answered a v x).frames
answered_sound (Some a) (Some v) x kept = either_sound (a.is_attached && is_void (Some v)) (failed cause.UnsetEntity x) x (tt, tt) kept
answered_sound (Some a) None x kept = (tt, tt)
answered_sound None v x kept = (tt, tt)

version_sound : (r : Request) (v : Option FeatureCode) (x : PlainStore) → AreSound x.frames → AreSound (taken_version r v x).frames
version_sound r (Some (version.Routine n)) x kept = entered_sound r.target n origin.Requested r.actuals.items x kept
version_sound r (Some (version.Attribute n)) x kept = answered_sound (attribute_at x.program r.target.class n) (attribute_of r.target.number n x.objects) x kept
version_sound r None x kept = (tt, tt)

object_sound : (r : Request) (o : Option PlainObject) (v : Option FeatureCode) (x : PlainStore) → AreSound x.frames → AreSound (taken_on r o v x).frames
object_sound r (Some o) v x kept = version_sound r v x kept
object_sound r None v x kept = (tt, tt)

born_sound : (class : ℕ) (x : PlainStore) → AreSound x.frames → AreSound (born class x).frames
born_sound class x kept = settled_keeps AreSound (length x.objects + 1) (with_new class x) (tt, tt) kept

by_sound : (n : Option ℕ) (r : Request) (x : PlainStore) → AreSound x.frames → AreSound (born_by n r x).frames
by_sound None r x kept = (tt, tt)
by_sound (Some n) r x kept =
    let y = entered r.target n origin.RequestedCreation r.actuals.items (with_new r.target.class x) in
    settled_keeps AreSound (length x.objects + 1) y (tt, tt) (entered_sound r.target n origin.RequestedCreation r.actuals.items (with_new r.target.class x) kept)

errand_sound : (h : ℕ) (e : Errand) (r : Request) (x : PlainStore) → AreSound x.frames → AreSound (taking.taken_errand h e r x).frames
errand_sound h (errand.Calls k) r x kept =
    either_sound (r.target.handler == h) (taken_on r (object_numbered r.target.number x.objects) (version_in x.program r.target.class k) x) (failed cause.ForeignObject x)
    (object_sound r (object_numbered r.target.number x.objects) (version_in x.program r.target.class k) x kept) (tt, tt)
errand_sound h (errand.Makes None) r x kept = born_sound r.target.class x kept
errand_sound h (errand.Makes (Some k)) r x kept = by_sound (routine_in (version_in x.program r.target.class k)) r x kept

-- ---- answers and reserve steps

-- the topmost routine goes on
on_top_sound : (f : PlainActivation → PlainActivation) → ((a : PlainActivation) → (f a).stage ≡ stage.Runs) → (x : PlainStore) → AreSound x.frames → AreSound (on_top f x).frames
on_top_sound f e x kept = (
  top_kept f stage.Runs e refl x.frames kept.0,
  top_free f (λ a h. subst CreatesForNothing (sym (e a)) tt) x.frames kept.1,
)

replied_sound : (s : Option Stage) (v : Option Value) (x : PlainStore) → AreSound x.frames → AreSound (replied_in s v x).frames
replied_sound (Some (stage.Awaits k gives is_creation)) v x kept =
    on_top_sound (λ a. handed_as gives v (answering.runs a)) (λ a. handed_runs gives v (answering.runs a) refl) x kept
replied_sound (Some stage.Runs) v x kept = kept
replied_sound (Some stage.Reserves) v x kept = (tt, tt)
replied_sound (Some stage.ReservesBlock) v x kept = (tt, tt)
replied_sound (Some (stage.InCall gives)) v x kept = (tt, tt)
replied_sound None v x kept = (tt, tt)

granted_sound : (s : Option Stage) (ks : List ℕ) (x : PlainStore) → AreSound x.frames → AreSound (granted_in s ks x).frames
granted_sound (Some stage.Reserves) ks x kept = on_top_sound (entry_granted ks) (λ a. refl) x kept
granted_sound (Some stage.ReservesBlock) ks x kept = on_top_sound (block_granted ks) (λ a. refl) x kept
granted_sound (Some stage.Runs) ks x kept = (tt, tt)
granted_sound (Some (stage.InCall gives)) ks x kept = (tt, tt)
granted_sound (Some (stage.Awaits k gives is_creation)) ks x kept = (tt, tt)
granted_sound None ks x kept = (tt, tt)

-- ---- handlers that were made

told_many : (k : ℕ) (vs : List Value) → length (told_values k vs) ≡ length vs
told_many k [] = refl
told_many k (v ∷ vs) = refl

told_room : (k : ℕ) (fs : List PlainFrame) → HaveRoom fs → HaveRoom (top_frame (told_on k) fs)
told_room k [] room = tt
told_room k (t ∷ below) room = (λ e. subst (λ n. n < t.activation.operands.depth) (sym (told_many k t.activation.operands.values)) (room.0 e), room.1)

pub begun_sound : (is_told : Bool) (j : Job) (x : PlainStore) → IsSound x → IsSound (begun is_told j x)
begun_sound true (job.Made k) x sound = sound
begun_sound false (job.Made k) x sound = record { room = told_room k x.frames sound.room; creations = top_free (told_on k) (λ a h. h) x.frames sound.creations }
begun_sound is_told (job.Take r) x sound = sound
begun_sound is_told (job.Reply v) x sound = sound
begun_sound is_told job.Failed x sound = sound
begun_sound is_told job.Refused x sound = sound
begun_sound is_told (job.Granted ks) x sound = sound
begun_sound is_told job.Go x sound = sound

made_sound : (o : Option Stage) (h : ℕ) (y z : PlainStore) (w : Want) → top_stage y ≡ o → TurnMade o h y z w → IsSound y → IsSound z
made_sound None h y z w e t sound = becomes_sound (failed cause.BadCode y) want.Continue z w t (tt, tt)
made_sound (Some (stage.Awaits k gives true)) h y z w e t sound =
    becomes_sound (on_top answering.runs y) want.Continue z w t (on_top_sound answering.runs (λ a. refl) y (sound_frames y sound))
made_sound (Some (stage.Awaits k gives false)) h y z w e t sound = becomes_sound y want.Continue z w t (sound_frames y sound)
made_sound (Some stage.Runs) h y z w e t sound = going_sound h y z w e t sound
made_sound (Some stage.Reserves) h y z w e t sound = becomes_sound y want.Continue z w t (sound_frames y sound)
made_sound (Some stage.ReservesBlock) h y z w e t sound = becomes_sound y want.Continue z w t (sound_frames y sound)
made_sound (Some (stage.InCall gives)) h y z w e t sound = becomes_sound (failed cause.BadCode y) want.Continue z w t (tt, tt)

-- ---- jobs

pub under_sound : (h : ℕ) (j : Job) (y z : PlainStore) (w : Want) → TurnUnder h j y z w → IsSound y → IsSound z
under_sound h (job.Take r) y z w t sound = becomes_sound (taking.taken h r y) _ z w t (errand_sound h r.errand r y (sound_frames y sound))
under_sound h (job.Reply v) y z w t sound = becomes_sound (answering.replied v y) _ z w t (replied_sound (top_stage y) v y (sound_frames y sound))
under_sound h job.Failed y z w t sound = becomes_sound (failed cause.SupplierFailed y) _ z w t (tt, tt)
under_sound h job.Refused y z w t sound = becomes_sound (failed cause.Precondition y) _ z w t (tt, tt)
under_sound h (job.Granted ks) y z w t sound = becomes_sound (answering.granted ks.items y) _ z w t (granted_sound (top_stage y) ks.items y (sound_frames y sound))
under_sound h (job.Made k) y z w t sound = made_sound (top_stage y) h y z w refl t sound
under_sound h job.Go y z w t sound = turns_keep_sound h y z w t sound

pub jobs_keep_sound : JobsKeepSound
jobs_keep_sound h is_told j y sound = (begun_sound is_told j y sound, λ z w t. under_sound h j (begun is_told j y) z w t (begun_sound is_told j y sound))

pub plays_keep_sound : PlaysKeepSound
plays_keep_sound h is_told j x _ _ _ (first {y} {w} t) sound = under_sound h j (begun is_told j x) y w t (begun_sound is_told j x sound)
plays_keep_sound h is_told j x _ _ _ (more {n} {y} {z} {w} before t) sound = turns_keep_sound h y z w t (plays_keep_sound h is_told j x n y want.Continue before sound)

pub new_stores_are_sound : NewStoresAreSound
new_stores_are_sound p = record { room = tt; creations = tt }
