-- What turns leave of the requests that a store serves.
use Rattle.std.proofs.Common.{◌≡◌, inl, inr, ◌+◌, ◌-◌, ℕ, Bool, true, false, List, Option, Some, None, refl, sym, subst, ◌∙◌, arith}
use Rattle.std.specs.Prelude.{◌&&◌, ◌==◌, if◌then◌else◌}
use Rattle.sc_model.specs.declared.cause.Cause.{Cause}
use Rattle.sc_model.specs.declared.cause.Cause.TheVariants as cause
use Rattle.sc_code.specs.declared.program.AttributeCode.{AttributeCode}
use Rattle.sc_code.specs.declared.program.FeatureCode.{FeatureCode}
use Rattle.sc_code.specs.declared.program.FeatureCode.TheVariants as version
use Rattle.sc_region.specs.declared.frame.Origin.TheVariants as origin
use Rattle.sc_region.specs.declared.frame.Stage.{Stage}
use Rattle.sc_region.specs.declared.frame.Stage.TheVariants as stage
use Rattle.sc_region.specs.declared.job.Errand.{Errand}
use Rattle.sc_region.specs.declared.job.Errand.TheVariants as errand
use Rattle.sc_region.specs.declared.job.Job.{Job}
use Rattle.sc_region.specs.declared.job.Job.TheVariants as job
use Rattle.sc_region.specs.declared.job.Request.{Request}
use Rattle.sc_region.specs.declared.job.Want.{Want}
use Rattle.sc_region.specs.declared.job.Want.TheVariants as want
use Rattle.sc_region.specs.declared.value.Value.{Value}
use Rattle.sc_region.specs.Frames.{top_activation}
use Rattle.sc_region.specs.Objects.{PlainObject, attribute_of, object_numbered}
use Rattle.sc_region.specs.Stores.{PlainStore, born, entered, failed}
use Rattle.sc_interp.specs.declared.hops.Hop.{Hop}
use Rattle.sc_interp.specs.declared.hops.Hop.TheVariants as hop
use Rattle.sc_acts.specs.Entering.{asks_beginning, routine_in}
use Rattle.sc_acts.specs.Exiting.{handed_as, is_void}
use Rattle.sc_acts.specs.Tables.{version_in}
use Rattle.sc_region.specs.Calls.{on_top}
use Rattle.sc_acts.specs.Turning.{unless_failed}
use Rattle.sc_acts.specs.Acting.{acted, asks_acted}
use Rattle.sc_play.specs.Answering.{block_granted, entry_granted, granted_in, replied_in, runs, told_on, top_stage}
use Rattle.sc_play.specs.Regions.{EndsIn}
use Rattle.sc_play.specs.Taking.{answered, asks_creation, asks_errand, asks_on, asks_version, attribute_at, born_by, taken_creation, taken_errand, taken_on, taken_version}
use Rattle.sc_play.specs.Turns.{Becomes, GoesOn, IsAhead, StopsFirst, TurnIn, TurnMade, TurnUnder, Turns, asks_done, begun, done, first, is_going, more, told_unless}
use Rattle.sc_world.specs.Requests.Serving.{Serves}
use Rattle.sc_world.specs.Requests.Turns.{FirstTurnsServe, FurtherTurnsServe, RefusedRegionsServe, RegionsServe, ServesAfter, left_after, served_under}
use Rattle.sc_world.proofs.VisibleOperations.{acted_serves, beginning_left, handed_as_same}
use Rattle.sc_world.proofs.StoreChanges.{Serving, born_for_serves, born_serves, entered_serves, failed_serves, if_serves, on_top_serves, remains_serves, so_many}

-- ---- what is asked where the store has not failed

serving : (n : ℕ) (x : PlainStore) → Serves n x → Serving n x
serving n x s e = s.serve

true_false : {A : Type 0} → true ≡ false → A
true_false e = cc

after_failure : (o : Option Cause) (v : Want) (n : ℕ) (y : PlainStore) → y.failure ≡ o → Serving (left_after v n) y → ServesAfter (unless_failed o v) n y
after_failure None v n y e s asks = record { stands = e; serve = s e }
after_failure (Some why) v n y e s asks = true_false asks

after : (v w : Want) (n : ℕ) (y : PlainStore) → w ≡ unless_failed y.failure v → Serving (left_after v n) y → ServesAfter w n y
after v w n y e s = subst (λ (u : Want). ServesAfter u n y) (sym e) (after_failure y.failure v n y refl s)

becomes_after : (z : PlainStore) (v w : Want) (n : ℕ) (y : PlainStore) → Becomes z v y w → Serving (left_after v n) z → ServesAfter w n y
becomes_after z v w n y b s = after v w n y b.want (subst (λ (x : PlainStore). Serving (left_after v n) x) (sym b.store) s)

-- ---- a further turn

done_after : (o : Hop) (h n : ℕ) (x y : PlainStore) (w : Want) → y ≡ done h o x → w ≡ asks_done h o x y → x.failure ≡ None → Serving n x → ServesAfter w n y
done_after hop.Passed h n x y w is asks stands s =
    subst (λ (u : Want). ServesAfter u n y) (sym asks)
    (subst (λ (z : PlainStore). ServesAfter want.Continue n z) (sym is) (λ e. record { stands = stands; serve = s stands }))
done_after (hop.Failed why) h n x y w is asks stands s = subst (λ (u : Want). ServesAfter u n y) (sym asks) (λ e. true_false e)
done_after (hop.Comes a) h n x y w is asks stands s =
    let z : PlainStore = acted h a x in
    subst (λ (u : Want). ServesAfter u n y) (sym asks)
    (subst (λ (z : PlainStore). ServesAfter (unless_failed z.failure (asks_acted h a x z)) n z) (sym is)
    (after_failure z.failure (asks_acted h a x z) n z refl (acted_serves n h a x s)))

goes_on_after : (h n : ℕ) (x y : PlainStore) (w : Want) → Serves n x → GoesOn h x y w → ServesAfter w n y
goes_on_after h n x y w s g =
    let stands : g.before.failure ≡ None = g.remains.failure ∙ s.stands in
    done_after g.operation h n g.before y w g.does g.want stands (remains_serves n x g.before g.remains (serving n x s))

turn_in_after : (st : Option Stage) (h n : ℕ) (x y : PlainStore) (w : Want) → Serves n x → TurnIn st h x y w → ServesAfter w n y
turn_in_after None h n x y w s t = becomes_after x want.Continue w n y t (serving n x s)
turn_in_after (Some stage.Runs) h n x y w s t = goes_on_after h n x y w s t
turn_in_after (Some stage.Reserves) h n x y w s t = becomes_after x want.Continue w n y t (serving n x s)
turn_in_after (Some stage.ReservesBlock) h n x y w s t = becomes_after x want.Continue w n y t (serving n x s)
turn_in_after (Some (stage.InCall gives)) h n x y w s t =
    becomes_after (failed cause.BadCode x) want.Continue w n y t (failed_serves n cause.BadCode x)
turn_in_after (Some (stage.Awaits k gives is_creation)) h n x y w s t = becomes_after x want.Continue w n y t (serving n x s)

pub further_turns_serve : FurtherTurnsServe
further_turns_serve h x y w n s t = turn_in_after (top_stage x) h n x y w s t

-- ---- a request is taken

answered_serves : (n : ℕ) (a : Option AttributeCode) (v : Option Value) (x : PlainStore) → Serving n x → Serving n (answered a v x)
answered_serves n (Some a) (Some v) x s =
    if_serves (a.is_attached && is_void (Some v)) n (failed cause.UnsetEntity x) x (failed_serves n cause.UnsetEntity x) s
answered_serves n (Some a) None x s = failed_serves n cause.BadCode x
answered_serves n None v x s = failed_serves n cause.BadCode x

one_less : (n : ℕ) → (n + 1) - 1 ≡ n
one_less n = omega arith

version_serves : (n : ℕ) (r : Request) (v : Option FeatureCode) (x : PlainStore) → Serving n x →
    Serving (left_after (asks_version r v x (taken_version r v x)) (n + 1)) (taken_version r v x)
version_serves n r (Some (version.Routine k)) x s =
    let y : PlainStore = entered r.target k origin.Requested r.actuals.items x in
    so_many (n + 1) (left_after (asks_beginning y.program (top_activation y.frames)) (n + 1)) y
    (sym (beginning_left y.program (top_activation y.frames) (n + 1)))
    (entered_serves n (n + 1) r.target k origin.Requested r.actuals.items x (λ e. omega arith) (one_less n) s)
version_serves n r (Some (version.Attribute k)) x s =
    let v : Option Value = attribute_of r.target.number k x.objects in
    let a : Option AttributeCode = attribute_at x.program r.target.class k in
    so_many n ((n + 1) - 1) (answered a v x) (sym (one_less n)) (answered_serves n a v x s)
version_serves n r None x s = failed_serves (n + 1) cause.BadCode x

taken_on_serves : (n : ℕ) (r : Request) (o : Option PlainObject) (v : Option FeatureCode) (x : PlainStore) → Serving n x →
    Serving (left_after (asks_on r o v x (taken_on r o v x)) (n + 1)) (taken_on r o v x)
taken_on_serves n r (Some o) v x s = version_serves n r v x s
taken_on_serves n r None v x s = failed_serves (n + 1) cause.BadCode x

call_serves : (b : Bool) (n : ℕ) (r : Request) (o : Option PlainObject) (v : Option FeatureCode) (x : PlainStore) → Serving n x →
    Serving (left_after (if b then asks_on r o v x (if b then taken_on r o v x else failed cause.ForeignObject x) else want.Continue) (n + 1))
    (if b then taken_on r o v x else failed cause.ForeignObject x)
call_serves true n r o v x s = taken_on_serves n r o v x s
call_serves false n r o v x s = failed_serves (n + 1) cause.ForeignObject x

born_by_serves : (n : ℕ) (o : Option ℕ) (r : Request) (x : PlainStore) → Serving n x → Serving (n + 1) (born_by o r x)
born_by_serves n (Some k) r x s =
    born_for_serves n (n + 1) r.target k origin.RequestedCreation r.actuals.items x (λ e. omega arith) (one_less n) s
born_by_serves n None r x s = failed_serves (n + 1) cause.BadCode (born r.target.class x)

creation_serves : (n : ℕ) (procedure : Option ℕ) (r : Request) (x : PlainStore) → Serving n x →
    Serving (left_after (asks_creation procedure (taken_creation procedure r x)) (n + 1)) (taken_creation procedure r x)
creation_serves n None r x s = so_many n ((n + 1) - 1) (born r.target.class x) (sym (one_less n)) (born_serves n r.target.class x s)
creation_serves n (Some k) r x s =
    let y : PlainStore = born_by (routine_in (version_in x.program r.target.class k)) r x in
    so_many (n + 1) (left_after (asks_beginning y.program (top_activation y.frames)) (n + 1)) y
    (sym (beginning_left y.program (top_activation y.frames) (n + 1)))
    (born_by_serves n (routine_in (version_in x.program r.target.class k)) r x s)

errand_serves : (n h : ℕ) (e : Errand) (r : Request) (x : PlainStore) → Serving n x →
    Serving (left_after (asks_errand h e r x (taken_errand h e r x)) (n + 1)) (taken_errand h e r x)
errand_serves n h (errand.Calls k) r x s =
    call_serves (r.target.handler == h) n r (object_numbered r.target.number x.objects) (version_in x.program r.target.class k) x s
errand_serves n h (errand.Makes k) r x s = creation_serves n k r x s

-- ---- other jobs

replied_serves : (n : ℕ) (st : Option Stage) (v : Option Value) (x : PlainStore) → Serving n x → Serving n (replied_in st v x)
replied_serves n (Some (stage.Awaits k gives is_creation)) v x s =
    on_top_serves (λ a. handed_as gives v (runs a)) n x (λ a. handed_as_same gives v (runs a)) s
replied_serves n (Some stage.Runs) v x s = s
replied_serves n (Some stage.Reserves) v x s = failed_serves n cause.BadCode x
replied_serves n (Some stage.ReservesBlock) v x s = failed_serves n cause.BadCode x
replied_serves n (Some (stage.InCall gives)) v x s = failed_serves n cause.BadCode x
replied_serves n None v x s = failed_serves n cause.BadCode x

granted_serves : (n : ℕ) (st : Option Stage) (ks : List ℕ) (x : PlainStore) → Serving n x → Serving n (granted_in st ks x)
granted_serves n (Some stage.Reserves) ks x s = on_top_serves (entry_granted ks) n x (λ a. refl) s
granted_serves n (Some stage.ReservesBlock) ks x s = on_top_serves (block_granted ks) n x (λ a. refl) s
granted_serves n (Some stage.Runs) ks x s = failed_serves n cause.BadCode x
granted_serves n (Some (stage.InCall gives)) ks x s = failed_serves n cause.BadCode x
granted_serves n (Some (stage.Awaits k gives is_creation)) ks x s = failed_serves n cause.BadCode x
granted_serves n None ks x s = failed_serves n cause.BadCode x

made_after : (st : Option Stage) (h n : ℕ) (x y : PlainStore) (w : Want) → Serves n x → TurnMade st h x y w → ServesAfter w n y
made_after None h n x y w s t = becomes_after (failed cause.BadCode x) want.Continue w n y t (failed_serves n cause.BadCode x)
made_after (Some (stage.Awaits k gives true)) h n x y w s t =
    becomes_after (on_top runs x) want.Continue w n y t (on_top_serves runs n x (λ a. refl) (serving n x s))
made_after (Some (stage.Awaits k gives false)) h n x y w s t = becomes_after x want.Continue w n y t (serving n x s)
made_after (Some stage.Runs) h n x y w s t = goes_on_after h n x y w s t
made_after (Some stage.Reserves) h n x y w s t = becomes_after x want.Continue w n y t (serving n x s)
made_after (Some stage.ReservesBlock) h n x y w s t = becomes_after x want.Continue w n y t (serving n x s)
made_after (Some (stage.InCall gives)) h n x y w s t =
    becomes_after (failed cause.BadCode x) want.Continue w n y t (failed_serves n cause.BadCode x)

-- ---- the first turn

told_serves : (b : Bool) (k n : ℕ) (x : PlainStore) → Serves n x → Serves n (told_unless b k x)
told_serves true k n x s = s
told_serves false k n x s = record { stands = s.stands; serve = on_top_serves (told_on k) n x (λ a. refl) (serving n x s) s.stands }

begun_serves : (b : Bool) (j : Job) (n : ℕ) (x : PlainStore) → Serves n x → Serves n (begun b j x)
begun_serves b (job.Made k) n x s = told_serves b k n x s
begun_serves b (job.Take r) n x s = s
begun_serves b (job.Reply v) n x s = s
begun_serves b job.Failed n x s = s
begun_serves b job.Refused n x s = s
begun_serves b (job.Granted ks) n x s = s
begun_serves b job.Go n x s = s

under_after : (h : ℕ) (j : Job) (x y : PlainStore) (w : Want) (n : ℕ) → Serves n x → TurnUnder h j x y w → ServesAfter w (served_under j n) y
under_after h (job.Take r) x y w n s t =
    becomes_after (taken_errand h r.errand r x) (asks_errand h r.errand r x (taken_errand h r.errand r x)) w (n + 1) y t
    (errand_serves n h r.errand r x (serving n x s))
under_after h (job.Reply v) x y w n s t =
    becomes_after (replied_in (top_stage x) v x) want.Continue w n y t (replied_serves n (top_stage x) v x (serving n x s))
under_after h job.Failed x y w n s t = becomes_after (failed cause.SupplierFailed x) want.Continue w n y t (failed_serves n cause.SupplierFailed x)
under_after h job.Refused x y w n s t = becomes_after (failed cause.Precondition x) want.Continue w n y t (failed_serves n cause.Precondition x)
under_after h (job.Granted ks) x y w n s t =
    becomes_after (granted_in (top_stage x) ks.items x) want.Continue w n y t (granted_serves n (top_stage x) ks.items x (serving n x s))
under_after h (job.Made k) x y w n s t = made_after (top_stage x) h n x y w s t
under_after h job.Go x y w n s t = further_turns_serve h x y w n s t

pub first_turns_serve : FirstTurnsServe
first_turns_serve h is_told j x y w n s t = under_after h j (begun is_told j x) y w n (begun_serves is_told j n x s) t

-- ---- regions

turns_after : (h : ℕ) (is_told : Bool) (j : Job) (x : PlainStore) (n m : ℕ) (y : PlainStore) (w : Want) → Serves n x → Turns h is_told j x m y w →
    ServesAfter w (served_under j n) y
turns_after h is_told j x n m y w s (first t) = first_turns_serve h is_told j x y w n s t
turns_after h is_told j x n m y w s (more {n = k} {y = z} ts t) =
    further_turns_serve h z y w (served_under j n) (turns_after h is_told j x n k z want.Continue s ts refl) t

ahead_serves : (n : ℕ) (x y : PlainStore) → Serves n x → IsAhead x y → Serves n y
ahead_serves n x y s a =
    let stands : y.failure ≡ None = a.remains.failure ∙ s.stands in
    record { stands = stands; serve = remains_serves n x y a.remains (serving n x s) stands }

ends_after : (w : Want) (n m limit : ℕ) (x y : PlainStore) → ServesAfter w n x → EndsIn m limit x w y → ServesAfter w n y
ends_after w n m limit x y s (inl same) = subst (λ (z : PlainStore). ServesAfter w n z) (sym same) s
ends_after w n m limit x y s (inr ahead) = λ asks. ahead_serves (left_after w n) x y (s asks) ahead.2

pub regions_serve : RegionsServe
regions_serve limit j x y o n s p =
    ends_after o.want (served_under j n) o.turns limit p.last y.store
    (turns_after x.handler x.is_told j x.store n o.turns p.last o.want s p.turns) p.ends

stops_serve : (b : Bool) (n : ℕ) (x y : PlainStore) → Serves n x → StopsFirst b x y → Serves n y
stops_serve false n x y s same = subst (Serves n) (sym same) s
stops_serve true n x y s ahead = ahead_serves n x y s ahead

pub refused_regions_serve : RefusedRegionsServe
refused_regions_serve j x y n s r = stops_serve (is_going j) n (begun x.is_told j x.store) y.store (begun_serves x.is_told j n x.store s) r.store
