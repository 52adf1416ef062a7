-- Turns leave the program of a store.
use Rattle.std.proofs.Common.{◌≡◌, ℕ, ◌+◌, List, [], ◌∷◌, Option, Some, None, Bool, true, false, length, refl, ap, ◌∙◌}
use Rattle.std.specs.Prelude.{◌&&◌, ◌||◌, ◌==◌, nat_lt, if◌then◌else◌}
use Rattle.sc_model.specs.declared.cause.Cause.TheVariants as cause
use Rattle.sc_code.specs.declared.program.AttributeCode.{AttributeCode}
use Rattle.sc_code.specs.declared.program.Image.{Image}
use Rattle.sc_code.specs.declared.program.RoutineCode.{RoutineCode}
use Rattle.sc_code.specs.declared.program.FeatureCode.{FeatureCode}
use Rattle.sc_code.specs.declared.program.FeatureCode.TheVariants as version
use Rattle.sc_region.specs.declared.frame.Origin.{Origin}
use Rattle.sc_region.specs.declared.frame.Origin.TheVariants as origin
use Rattle.sc_region.specs.declared.frame.Stage.{Stage}
use Rattle.sc_region.specs.declared.frame.Stage.TheVariants as stage
use Rattle.sc_region.specs.declared.job.Errand.{Errand}
use Rattle.sc_region.specs.declared.job.Errand.TheVariants as errand
use Rattle.sc_region.specs.declared.job.Job.{Job}
use Rattle.sc_region.specs.declared.job.Job.TheVariants as job
use Rattle.sc_region.specs.declared.job.Request.{Request}
use Rattle.sc_region.specs.declared.job.Want.{Want}
use Rattle.sc_region.specs.declared.job.Want.TheVariants as want
use Rattle.sc_region.specs.declared.value.Reference.{Reference}
use Rattle.sc_region.specs.declared.value.Value.{Value}
use Rattle.sc_region.specs.Classes.{object_breaks, object_meets, routine_at}
use Rattle.sc_region.specs.Frames.{PlainActivation, PlainFrame, top_activation, top_current}
use Rattle.sc_region.specs.Objects.{PlainObject, object_numbered, attribute_of}
use Rattle.sc_region.specs.Stores.{PlainStore, born, born_for, entered, entered_at, entry, failed, is_settled, left, left_to, made, made_for, max_frames, max_objects, next_reference, settled, with_new}
use Rattle.sc_acts.specs.declared.act.Act.{Act}
use Rattle.sc_acts.specs.declared.act.Act.TheVariants as act
use Rattle.sc_acts.specs.declared.act.Calling.{Calling}
use Rattle.sc_interp.specs.declared.hops.Hop.{Hop}
use Rattle.sc_interp.specs.declared.hops.Hop.TheVariants as hop
use Rattle.sc_acts.specs.Creating.{created, created_at, given, has_room, has_room_in, made_if, with_reference}
use Rattle.sc_region.specs.Calls.{in_call, last_values, on_top, past}
use Rattle.sc_acts.specs.Entering.{called_at, entered_if, has_operands, operands_of, origin_of, routine_in}
use Rattle.sc_acts.specs.Exiting.{exited_at, is_unset, is_untested, is_void, returned}
use Rattle.sc_acts.specs.Refusing.{is_waited_for, refused_as, refused_at, waiting}
use Rattle.sc_acts.specs.Tables.{version_in, formals_at}
use Rattle.sc_acts.specs.declared.act.RemoteCreation.{RemoteCreation}
use Rattle.sc_acts.specs.declared.act.RemoteCall.{RemoteCall}
use Rattle.sc_acts.specs.Acting.{acted}
use Rattle.sc_play.specs.Answering.{granted_in, replied_in, runs, top_stage}
use Rattle.sc_acts.specs.Leaving.{innermost_in, left_with}
use Rattle.sc_acts.specs.Blocks.{heads_in, opened_with}
use Rattle.sc_acts.specs.CreatingHandlers as handlers
use Rattle.sc_acts.specs.CreatingObjects as objects
use Rattle.sc_acts.specs.Requesting.{request_in, sent}
use Rattle.sc_play.specs.Taking.{answered, attribute_at, born_by, taken_call, taken_creation, taken_errand, taken_on, taken_version}
use Rattle.sc_play.specs.Turns.{Becomes, GoesOn, TurnIn, TurnMade, TurnOf, TurnUnder, Turns, begun, done, first, more, told_unless}

kept_if : (p : Image) (b : Bool) (x y : PlainStore) → x.program ≡ p → y.program ≡ p → (if b then x else y).program ≡ p
kept_if p true x y k l = k
kept_if p false x y k l = l

-- ---- stores

settled_keeps : (n : ℕ) (x : PlainStore) → (settled n x).program ≡ x.program
settled_keeps n x = kept_if x.program (is_settled n x && object_breaks x.program (object_numbered n x.objects)) (failed cause.Invariant x) x refl refl

left_to_keeps : (fs : List PlainFrame) (x : PlainStore) → (left_to fs x).program ≡ x.program
left_to_keeps [] x = refl
left_to_keeps (f ∷ below) x = settled_keeps f.current.number (record x { frames = below })

left_keeps : (x : PlainStore) → (left x).program ≡ x.program
left_keeps x = left_to_keeps x.frames x

entered_at_keeps : (count : ℕ) (me : Reference) (n : ℕ) (q : Option RoutineCode) (o : Origin) (us : List Value) (x : PlainStore) → (entered_at count me n q o us x).program ≡ x.program
entered_at_keeps count me n None o us x = refl
entered_at_keeps count me n (Some r) o us x =
    kept_if x.program (length us == r.formals) (if nat_lt count max_frames then record x { frames = entry me n r o us ∷ x.frames } else failed cause.StackFull x) (failed cause.BadCode x)
    (kept_if x.program (nat_lt count max_frames) (record x { frames = entry me n r o us ∷ x.frames }) (failed cause.StackFull x) refl refl) refl

entered_keeps : (me : Reference) (n : ℕ) (o : Origin) (us : List Value) (x : PlainStore) → (entered me n o us x).program ≡ x.program
entered_keeps me n o us x = entered_at_keeps (length x.frames) me n (routine_at x.program n) o us x

born_keeps : (class : ℕ) (x : PlainStore) → (born class x).program ≡ x.program
born_keeps class x = settled_keeps (length x.objects + 1) (with_new class x)

born_for_keeps : (me : Reference) (n : ℕ) (o : Origin) (us : List Value) (x : PlainStore) → (born_for me n o us x).program ≡ x.program
born_for_keeps me n o us x = settled_keeps (length x.objects + 1) (entered me n o us (with_new me.class x)) ∙ entered_keeps me n o us (with_new me.class x)

made_keeps : (class : ℕ) (x : PlainStore) → (made class x).program ≡ x.program
made_keeps class x = kept_if x.program (nat_lt (length x.objects) max_objects) (born class x) (failed cause.TooManyObjects x) (born_keeps class x) refl

made_for_keeps : (h class n : ℕ) (us : List Value) (x : PlainStore) → (made_for h class n us x).program ≡ x.program
made_for_keeps h class n us x =
    kept_if x.program (nat_lt (length x.objects) max_objects) (born_for (next_reference h class x) n origin.Creation us x) (failed cause.TooManyObjects x)
    (born_for_keeps (next_reference h class x) n origin.Creation us x) refl

-- ---- visible operations

entered_if_keeps : (o : Option ℕ) (me : Reference) (k : Origin) (us : List Value) (x : PlainStore) → (entered_if o me k us x).program ≡ x.program
entered_if_keeps None me k us x = refl
entered_if_keeps (Some n) me k us x = entered_keeps me n k us x

called_at_keeps : (c : Calling) (me : Reference) (name n : ℕ) (gives : Bool) (o : Option PlainActivation) (x : PlainStore) → (called_at c me name n gives o x).program ≡ x.program
called_at_keeps c me name n gives None x = refl
called_at_keeps c me name n gives (Some a) x =
    let y = on_top (in_call (operands_of c n) gives) x in
    kept_if x.program (nat_lt n 17 && has_operands (operands_of c n) a) (entered_if (routine_in (version_in x.program me.class name)) me (origin_of c) (last_values n a.operands.values) y) (failed cause.BadCode x)
    (entered_if_keeps (routine_in (version_in x.program me.class name)) me (origin_of c) (last_values n a.operands.values) y) refl

given_keeps : (n : ℕ) (r : Reference) (x : PlainStore) → (given n r x).program ≡ x.program
given_keeps n r x = kept_if x.program (has_room_in n (top_activation x.frames)) (on_top (with_reference r) (on_top (past n) x)) (failed cause.BadCode x) refl refl

created_keeps : (r : Reference) (n : ℕ) (x : PlainStore) → (created r n x).program ≡ x.program
created_keeps r n x = given_keeps n r (made r.class x) ∙ made_keeps r.class x

made_if_keeps : (o : Option ℕ) (r : Reference) (us : List Value) (x : PlainStore) → (made_if o r us x).program ≡ x.program
made_if_keeps None r us x = refl
made_if_keeps (Some n) r us x = made_for_keeps r.handler r.class n us x

created_at_keeps : (r : Reference) (name n : ℕ) (o : Option PlainActivation) (x : PlainStore) → (created_at r name n o x).program ≡ x.program
created_at_keeps r name n None x = refl
created_at_keeps r name n (Some a) x =
    let y = on_top (with_reference r) (on_top (in_call n false) x) in
    kept_if x.program (has_room n a && has_operands n a) (made_if (routine_in (version_in x.program r.class name)) r (last_values n a.operands.values) y) (failed cause.BadCode x)
    (made_if_keeps (routine_in (version_in x.program r.class name)) r (last_values n a.operands.values) y) refl

created_with_keeps : (procedure : Option ℕ) (r : Reference) (n : ℕ) (x : PlainStore) → (objects.created_with procedure r n x).program ≡ x.program
created_with_keeps None r n x = created_keeps r n x
created_with_keeps (Some name) r n x =
    kept_if x.program (nat_lt (length x.objects) max_objects) (created_at r name n (top_activation x.frames) x) (failed cause.TooManyObjects x)
    (created_at_keeps r name n (top_activation x.frames) x) refl

refused_as_keeps : (o : Origin) (me : Reference) (x : PlainStore) → (refused_as o me x).program ≡ x.program
refused_as_keeps origin.Unqualified me x = refl
refused_as_keeps origin.Qualified me x = refl
refused_as_keeps origin.Creation me x = refl
refused_as_keeps origin.Requested me x = left_keeps x
refused_as_keeps origin.RequestedCreation me x =
    kept_if x.program (object_meets x.program (object_numbered me.number x.objects)) (left x) (failed cause.Invariant x) (left_keeps x) refl

refused_at_keeps : (slots : List ℕ) (me : Option Reference) (o : Option PlainActivation) (x : PlainStore) → (refused_at slots me o x).program ≡ x.program
refused_at_keeps slots None o x = refl
refused_at_keeps slots (Some me) None x = refl
refused_at_keeps slots (Some me) (Some a) x = kept_if x.program (is_waited_for a slots) (on_top waiting x) (refused_as a.origin me x) refl (refused_as_keeps a.origin me x)

returned_keeps : (o : Origin) (v : Option Value) (x : PlainStore) → (returned o v x).program ≡ x.program
returned_keeps origin.Unqualified v x = left_keeps x
returned_keeps origin.Qualified v x = left_keeps x
returned_keeps origin.Creation v x = left_keeps x
returned_keeps origin.Requested v x = left_keeps x
returned_keeps origin.RequestedCreation v x = left_keeps x

exited_at_keeps : (me : Option Reference) (o : Option PlainActivation) (x : PlainStore) → (exited_at me o x).program ≡ x.program
exited_at_keeps None o x = refl
exited_at_keeps (Some me) None x = refl
exited_at_keeps (Some me) (Some a) x =
    let tested = is_untested a.origin || object_meets x.program (object_numbered me.number x.objects) in
    kept_if x.program (is_unset x.program a) (failed cause.UnsetEntity x) (if tested then returned a.origin a.result x else failed cause.Invariant x) refl
    (kept_if x.program tested (returned a.origin a.result x) (failed cause.Invariant x) (returned_keeps a.origin a.result x) refl)

sent_keeps : (o : Option Request) (c : RemoteCall) (x : PlainStore) → (sent o c x).program ≡ x.program
sent_keeps None c x = refl
sent_keeps (Some r) c x = refl

created_as_keeps : (o : Option Want) (r : Reference) (c : RemoteCreation) (x : PlainStore) → (handlers.created_as o r c x).program ≡ x.program
created_as_keeps None r c x = refl
created_as_keeps (Some w) r c x = refl

opened_keeps : (k : ℕ) (o : Option (List Value)) (x : PlainStore) → (opened_with k o x).program ≡ x.program
opened_keeps k None x = refl
opened_keeps k (Some us) x = refl

left_with_keeps : (o : Option (List ℕ)) (x : PlainStore) → (left_with o x).program ≡ x.program
left_with_keeps None x = refl
left_with_keeps (Some ks) x = refl

acted_keeps : (h : ℕ) (a : Act) (x : PlainStore) → (acted h a x).program ≡ x.program
acted_keeps h (act.PrintInteger z) x = refl
acted_keeps h (act.PrintBoolean b) x = refl
acted_keeps h (act.PrintText k) x = refl
acted_keeps h (act.Until back) x = refl
acted_keeps h (act.Enter calling me name n gives) x = called_at_keeps calling me name n gives (top_activation x.frames) x
acted_keeps h (act.Request c) x = sent_keeps (request_in h c (top_activation x.frames)) c x
acted_keeps h (act.Create class procedure n) x = created_with_keeps procedure (next_reference h class x) n x
acted_keeps h (act.CreateHandler c) x = created_as_keeps (handlers.creation_in c (top_activation x.frames)) (handlers.first_object h c.class) c x
acted_keeps h act.Start x = refl
acted_keeps h (act.Refuse k) x = refused_at_keeps (formals_at x.program k) (top_current x.frames) (top_activation x.frames) x
acted_keeps h (act.Open k n) x = opened_keeps k (heads_in k n (top_activation x.frames)) x
acted_keeps h act.Leave x = left_with_keeps (innermost_in (top_activation x.frames)) x
acted_keeps h act.Exit x = exited_at_keeps (top_current x.frames) (top_activation x.frames) x

done_keeps : (h : ℕ) (o : Hop) (x : PlainStore) → (done h o x).program ≡ x.program
done_keeps h hop.Passed x = refl
done_keeps h (hop.Failed why) x = refl
done_keeps h (hop.Comes a) x = acted_keeps h a x

-- ---- jobs

answered_keeps : (a : Option AttributeCode) (v : Option Value) (x : PlainStore) → (answered a v x).program ≡ x.program
answered_keeps None v x = refl
answered_keeps (Some a) None x = refl
answered_keeps (Some a) (Some v) x = kept_if x.program (a.is_attached && is_void (Some v)) (failed cause.UnsetEntity x) x refl refl

taken_version_keeps : (r : Request) (v : Option FeatureCode) (x : PlainStore) → (taken_version r v x).program ≡ x.program
taken_version_keeps r None x = refl
taken_version_keeps r (Some (version.Routine n)) x = entered_keeps r.target n origin.Requested r.actuals.items x
taken_version_keeps r (Some (version.Attribute n)) x = answered_keeps (attribute_at x.program r.target.class n) (attribute_of r.target.number n x.objects) x

taken_on_keeps : (r : Request) (o : Option PlainObject) (v : Option FeatureCode) (x : PlainStore) → (taken_on r o v x).program ≡ x.program
taken_on_keeps r None v x = refl
taken_on_keeps r (Some o) v x = taken_version_keeps r v x

taken_call_keeps : (h : ℕ) (r : Request) (k : ℕ) (x : PlainStore) → (taken_call h r k x).program ≡ x.program
taken_call_keeps h r k x =
    let o = object_numbered r.target.number x.objects in
    let v = version_in x.program r.target.class k in
    kept_if x.program (r.target.handler == h) (taken_on r o v x) (failed cause.ForeignObject x) (taken_on_keeps r o v x) refl

born_by_keeps : (o : Option ℕ) (r : Request) (x : PlainStore) → (born_by o r x).program ≡ x.program
born_by_keeps None r x = born_keeps r.target.class x
born_by_keeps (Some n) r x = born_for_keeps r.target n origin.RequestedCreation r.actuals.items x

taken_creation_keeps : (o : Option ℕ) (r : Request) (x : PlainStore) → (taken_creation o r x).program ≡ x.program
taken_creation_keeps None r x = born_keeps r.target.class x
taken_creation_keeps (Some k) r x = born_by_keeps (routine_in (version_in x.program r.target.class k)) r x

taken_keeps : (h : ℕ) (e : Errand) (r : Request) (x : PlainStore) → (taken_errand h e r x).program ≡ x.program
taken_keeps h (errand.Calls k) r x = taken_call_keeps h r k x
taken_keeps h (errand.Makes k) r x = taken_creation_keeps k r x

replied_keeps : (o : Option Stage) (v : Option Value) (x : PlainStore) → (replied_in o v x).program ≡ x.program
replied_keeps None v x = refl
replied_keeps (Some stage.Runs) v x = refl
replied_keeps (Some stage.Reserves) v x = refl
replied_keeps (Some stage.ReservesBlock) v x = refl
replied_keeps (Some (stage.InCall gives)) v x = refl
replied_keeps (Some (stage.Awaits k gives is_creation)) v x = refl

granted_keeps : (o : Option Stage) (ks : List ℕ) (x : PlainStore) → (granted_in o ks x).program ≡ x.program
granted_keeps None ks x = refl
granted_keeps (Some stage.Runs) ks x = refl
granted_keeps (Some stage.Reserves) ks x = refl
granted_keeps (Some stage.ReservesBlock) ks x = refl
granted_keeps (Some (stage.InCall gives)) ks x = refl
granted_keeps (Some (stage.Awaits k gives is_creation)) ks x = refl

told_keeps : (is_told : Bool) (k : ℕ) (x : PlainStore) → (told_unless is_told k x).program ≡ x.program
told_keeps true k x = refl
told_keeps false k x = refl

pub begun_keeps : (is_told : Bool) (j : Job) (x : PlainStore) → (begun is_told j x).program ≡ x.program
begun_keeps is_told (job.Made k) x = told_keeps is_told k x
begun_keeps is_told (job.Take r) x = refl
begun_keeps is_told (job.Reply v) x = refl
begun_keeps is_told job.Failed x = refl
begun_keeps is_told job.Refused x = refl
begun_keeps is_told (job.Granted ks) x = refl
begun_keeps is_told job.Go x = refl

-- ---- turns

becomes_keeps : (p : Image) (z : PlainStore) (v : Want) (y : PlainStore) (w : Want) → Becomes z v y w → z.program ≡ p → y.program ≡ p
becomes_keeps p z v y w b e = ap (λ (x : PlainStore). x.program) b.store ∙ e

goes_keeps : (h : ℕ) (x y : PlainStore) (w : Want) → GoesOn h x y w → y.program ≡ x.program
goes_keeps h x y w g = ap (λ (x : PlainStore). x.program) g.does ∙ done_keeps h g.operation g.before ∙ g.remains.program

turn_in_keeps : (o : Option Stage) (h : ℕ) (x y : PlainStore) (w : Want) → TurnIn o h x y w → y.program ≡ x.program
turn_in_keeps None h x y w t = becomes_keeps x.program x want.Continue y w t refl
turn_in_keeps (Some stage.Runs) h x y w t = goes_keeps h x y w t
turn_in_keeps (Some stage.Reserves) h x y w t = becomes_keeps x.program x want.Continue y w t refl
turn_in_keeps (Some stage.ReservesBlock) h x y w t = becomes_keeps x.program x want.Continue y w t refl
turn_in_keeps (Some (stage.InCall gives)) h x y w t = becomes_keeps x.program (failed cause.BadCode x) want.Continue y w t refl
turn_in_keeps (Some (stage.Awaits k gives is_creation)) h x y w t = becomes_keeps x.program x want.Continue y w t refl

pub turn_keeps : (h : ℕ) (x y : PlainStore) (w : Want) → TurnOf h x y w → y.program ≡ x.program
turn_keeps h x y w t = turn_in_keeps (top_stage x) h x y w t

made_turn_keeps : (o : Option Stage) (h : ℕ) (x y : PlainStore) (w : Want) → TurnMade o h x y w → y.program ≡ x.program
made_turn_keeps None h x y w t = becomes_keeps x.program (failed cause.BadCode x) want.Continue y w t refl
made_turn_keeps (Some stage.Runs) h x y w t = goes_keeps h x y w t
made_turn_keeps (Some stage.Reserves) h x y w t = becomes_keeps x.program x want.Continue y w t refl
made_turn_keeps (Some stage.ReservesBlock) h x y w t = becomes_keeps x.program x want.Continue y w t refl
made_turn_keeps (Some (stage.InCall gives)) h x y w t = becomes_keeps x.program (failed cause.BadCode x) want.Continue y w t refl
made_turn_keeps (Some (stage.Awaits k gives true)) h x y w t = becomes_keeps x.program (on_top runs x) want.Continue y w t refl
made_turn_keeps (Some (stage.Awaits k gives false)) h x y w t = becomes_keeps x.program x want.Continue y w t refl

under_keeps : (h : ℕ) (j : Job) (x y : PlainStore) (w : Want) → TurnUnder h j x y w → y.program ≡ x.program
under_keeps h (job.Take r) x y w t = ap (λ (x : PlainStore). x.program) t.store ∙ taken_keeps h r.errand r x
under_keeps h (job.Reply v) x y w t = ap (λ (x : PlainStore). x.program) t.store ∙ replied_keeps (top_stage x) v x
under_keeps h job.Failed x y w t = ap (λ (x : PlainStore). x.program) t.store
under_keeps h job.Refused x y w t = ap (λ (x : PlainStore). x.program) t.store
under_keeps h (job.Granted ks) x y w t = ap (λ (x : PlainStore). x.program) t.store ∙ granted_keeps (top_stage x) ks.items x
under_keeps h (job.Made k) x y w t = made_turn_keeps (top_stage x) h x y w t
under_keeps h job.Go x y w t = turn_keeps h x y w t

pub turns_keep : (h : ℕ) (is_told : Bool) (j : Job) (x : PlainStore) (n : ℕ) (y : PlainStore) (w : Want) → Turns h is_told j x n y w → y.program ≡ x.program
turns_keep h is_told j x _ _ _ (first {y} {w} t) = under_keeps h j (begun is_told j x) y w t ∙ begun_keeps is_told j x
turns_keep h is_told j x _ _ _ (more {n} {y} {z} {w} before t) = turn_keeps h y z w t ∙ turns_keep h is_told j x n y want.Continue before
