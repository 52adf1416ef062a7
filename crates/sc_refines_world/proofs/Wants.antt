-- What turns of a handler ask for names what the program has names for.
use Rattle.std.proofs.Common.{◌≡◌, ℕ, Bool, true, false, ◌||◌, List, [], ◌∷◌, Option, Some, None, refl, sym, subst}
use Rattle.std.specs.Prelude.{◌==◌, if◌then◌else◌}
use Rattle.sc_model.specs.declared.cause.Cause.{Cause}
use Rattle.sc_code.specs.declared.program.Image.{Image}
use Rattle.sc_code.specs.declared.program.RoutineCode.{RoutineCode}
use Rattle.sc_code.specs.declared.program.FeatureCode.{FeatureCode}
use Rattle.sc_code.specs.declared.program.FeatureCode.TheVariants as version
use Rattle.sc_code.specs.Programs.{pool_of}
use Rattle.sc_region.specs.declared.frame.Origin.{Origin}
use Rattle.sc_region.specs.declared.frame.Origin.TheVariants as origin
use Rattle.sc_region.specs.declared.frame.Stage.{Stage}
use Rattle.sc_region.specs.declared.frame.Stage.TheVariants as stage
use Rattle.sc_region.specs.declared.job.Errand.{Errand}
use Rattle.sc_region.specs.declared.job.Errand.TheVariants as errand
use Rattle.sc_region.specs.declared.job.Job.{Job}
use Rattle.sc_region.specs.declared.job.Job.TheVariants as job
use Rattle.sc_region.specs.declared.job.Request.{Request}
use Rattle.sc_region.specs.declared.job.Want.{Want}
use Rattle.sc_region.specs.declared.job.Want.TheVariants as want
use Rattle.sc_region.specs.declared.value.Reference.{Reference}
use Rattle.sc_region.specs.declared.value.Value.{Value}
use Rattle.sc_region.specs.Classes.{routine_at}
use Rattle.sc_region.specs.Frames.{PlainActivation, top_activation}
use Rattle.sc_region.specs.Objects.{PlainObject, object_numbered}
use Rattle.sc_region.specs.Stores.{PlainStore}
use Rattle.sc_acts.specs.declared.act.Act.{Act}
use Rattle.sc_acts.specs.declared.act.Act.TheVariants as act
use Rattle.sc_interp.specs.declared.hops.Hop.{Hop}
use Rattle.sc_interp.specs.declared.hops.Hop.TheVariants as hop
use Rattle.sc_acts.specs.Entering.{asks_beginning, asks_reserving, asks_with}
use Rattle.sc_acts.specs.Exiting.{asks_exiting, asks_releasing, asks_returning}
use Rattle.sc_acts.specs.Refusing.{asks_refusing, is_waited_for}
use Rattle.sc_refines_world.specs.regions.RegionSteps.{names_of}
use Rattle.sc_acts.specs.Tables.{version_in, formals_at, name_at}
use Rattle.sc_interp.specs.Told.{HasName, HasProcedure, IsReadyAt, IsTold, NamesCall, NamesCreation}
use Rattle.sc_acts.specs.Turning.{unless_failed}
use Rattle.sc_acts.specs.Acting.{asks_acted}
use Rattle.sc_play.specs.Answering.{top_stage}
use Rattle.sc_acts.specs.Leaving.{asks_left, innermost_in}
use Rattle.sc_acts.specs.Blocks.{asks_opened, heads_in}
use Rattle.sc_acts.specs.CreatingHandlers.{asks_creating, creation_by, creation_of, creation_with, may_create}
use Rattle.sc_acts.specs.CreatingHandlers as handlers
use Rattle.sc_acts.specs.CreatingObjects as objects
use Rattle.sc_acts.specs.Operands.{has_call}
use Rattle.sc_acts.specs.Requesting.{asks_requesting, asks_sending, call_of, request_by}
use Rattle.sc_play.specs.Taking as taking
use Rattle.sc_play.specs.Taking.{taken}
use Rattle.sc_play.specs.Turns.{Becomes, FirstTurn, GoesOn, TurnIn, TurnMade, TurnUnder, asks_done, begun}
use Rattle.sc_refines_world.specs.regions.Taking.{IsNamed, IsNameOf}
use Rattle.sc_refines_world.proofs.Asked.{WantAsks}

abbrev AsksNamed : List (List ℕ) → Want → Type 0
AsksNamed names w = WantAsks (IsNamed names) w

module _ (names : List (List ℕ)) where
  unless_named : (f : Option Cause) (v : Want) → AsksNamed names v → AsksNamed names (unless_failed f v)
  unless_named None v is = is
  unless_named (Some why) v is = tt

  -- ---- what asks for no request

  reserving_named : (ks : List ℕ) (slots : List Value) → AsksNamed names (asks_reserving ks slots)
  reserving_named [] slots = tt
  reserving_named (k ∷ ks) slots = tt

  with_named : (slots : List Value) (o : Option RoutineCode) → AsksNamed names (asks_with slots o)
  with_named slots None = tt
  with_named slots (Some r) = reserving_named r.separate_formals.items slots

  beginning_named : (p : Image) (o : Option PlainActivation) → AsksNamed names (asks_beginning p o)
  beginning_named p None = tt
  beginning_named p (Some a) = with_named a.slots (routine_at p a.routine)

  object_named : (procedure : Option ℕ) (y : PlainStore) → AsksNamed names (objects.asks_created procedure y)
  object_named None y = tt
  object_named (Some name) y = beginning_named y.program (top_activation y.frames)

  refusing_named : (slots : List ℕ) (o : Option PlainActivation) → AsksNamed names (asks_refusing slots o)
  refusing_named slots None = tt
  refusing_named slots (Some a) = by (is_waited_for a slots)
    where
      by : (b : Bool) → AsksNamed names (if b then want.Wait (record { items = a.reserved }) else want.Done None (record { items = a.reserved }) true)
      by true = tt
      by false = tt

  opened_named : (o : Option (List Value)) → AsksNamed names (asks_opened o)
  opened_named None = tt
  opened_named (Some us) = tt

  left_named : (o : Option (List ℕ)) → AsksNamed names (asks_left o)
  left_named None = tt
  left_named (Some ks) = tt

  releasing_named : (ks : List ℕ) → AsksNamed names (asks_releasing ks)
  releasing_named [] = tt
  releasing_named (k ∷ ks) = tt

  returning_named : (o : Origin) (v : Option Value) (ks : List ℕ) → AsksNamed names (asks_returning o v ks)
  returning_named origin.Unqualified v ks = releasing_named ks
  returning_named origin.Qualified v ks = releasing_named ks
  returning_named origin.Creation v ks = releasing_named ks
  returning_named origin.Requested v ks = tt
  returning_named origin.RequestedCreation v ks = tt

  exiting_named : (o : Option PlainActivation) → AsksNamed names (asks_exiting o)
  exiting_named None = tt
  exiting_named (Some a) = returning_named a.origin a.result a.reserved

  -- ---- requests

  module _ (h : ℕ) (r : Reference) (k n : ℕ) (gives passes : Bool) (a : PlainActivation) (is : IsNameOf names k) where
    sent_named : (b : Bool) → AsksNamed names (if b then want.Ask (request_by h (call_of r k n gives passes) a) passes else want.Post (request_by h (call_of r k n gives passes) a))
    sent_named true = is
    sent_named false = is

    sending_named : AsksNamed names (asks_requesting h (call_of r k n gives passes) (Some a))
    sending_named = by (has_call n a)
      where
        by : (b : Bool) → AsksNamed names (asks_sending (if b then Some (request_by h (call_of r k n gives passes) a) else None) passes)
        by false = tt
        by true = sent_named (passes || gives)

  -- the number of the creation procedure is that of a name, if there is one
  module _ (class n : ℕ) (passes : Bool) (a : PlainActivation) where
    creation_named : (procedure : Option ℕ) → IsNamed names (errand.Makes procedure) → (b : Bool) →
        AsksNamed names (handlers.asks_created (if b then Some (creation_by (creation_with class procedure n passes) a) else None))
    creation_named None is true = tt
    creation_named None is false = tt
    creation_named (Some k) is true = is
    creation_named (Some k) is false = tt

    creating_named : (procedure : Option ℕ) → IsNamed names (errand.Makes procedure) → AsksNamed names (asks_creating (creation_with class procedure n passes) (Some a))
    creating_named procedure is = creation_named procedure is (may_create n a)

-- ---- a routine goes on

call_named : (p : Image) (x n : ℕ) (gives : Bool) → NamesCall p x n gives → IsNameOf (pool_of p.pool).names x
call_named p x n gives c = (name_at p x, subst (HasName p) c.name c.is_call.named)

procedure_named : (p : Image) (o : Option ℕ) → HasProcedure p o → IsNamed (pool_of p.pool).names (errand.Makes o)
procedure_named p None is = tt
procedure_named p (Some x) is = (name_at p x, is)

acted_named : (h : ℕ) (a : Act) (x y : PlainStore) → IsTold (hop.Comes a) x → AsksNamed (names_of x) (asks_acted h a x y)
acted_named h (act.PrintInteger z) x y told = tt
acted_named h (act.PrintBoolean b) x y told = tt
acted_named h (act.PrintText k) x y told = tt
acted_named h (act.Until back) x y told = tt
acted_named h (act.Enter calling me name n gives) x y told = beginning_named (names_of x) y.program (top_activation y.frames)
acted_named h (act.Request q) x y told = by (top_activation x.frames) told
  where
    by : (o : Option PlainActivation) → IsReadyAt x.program (act.Request q) o → AsksNamed (names_of x) (asks_requesting h q o)
    by None ready = absurd ready
    by (Some a) ready =
        sending_named (names_of x) h q.object q.name q.count q.gives q.passes a (call_named x.program q.name q.count q.gives ready.named)
acted_named h (act.Create class procedure n) x y told = object_named (names_of x) procedure y
acted_named h (act.CreateHandler q) x y told = by (top_activation x.frames) told
  where
    by : (o : Option PlainActivation) → IsReadyAt x.program (act.CreateHandler q) o → AsksNamed (names_of x) (asks_creating q o)
    by None ready = absurd ready
    by (Some a) ready =
        let c : NamesCreation x.program q.class q.procedure q.count = ready.named in
        creating_named (names_of x) q.class q.count q.passes a q.procedure
        (procedure_named x.program q.procedure (subst (HasProcedure x.program) c.procedure c.is_creation.named))
acted_named h act.Start x y told = tt
acted_named h (act.Refuse k) x y told = refusing_named (names_of x) (formals_at x.program k) (top_activation x.frames)
acted_named h (act.Open first n) x y told = opened_named (names_of x) (heads_in first n (top_activation x.frames))
acted_named h act.Leave x y told = left_named (names_of x) (innermost_in (top_activation x.frames))
acted_named h act.Exit x y told = exiting_named (names_of x) (top_activation x.frames)

done_named : (h : ℕ) (o : Hop) (x y : PlainStore) → IsTold o x → AsksNamed (names_of x) (asks_done h o x y)
done_named h hop.Passed x y told = tt
done_named h (hop.Failed why) x y told = tt
done_named h (hop.Comes a) x y told = unless_named (names_of x) y.failure (asks_acted h a x y) (acted_named h a x y told)

goes_named : (h : ℕ) (x y : PlainStore) (w : Want) → GoesOn h x y w → AsksNamed (names_of x) w
goes_named h x y w g =
    subst (AsksNamed (names_of x)) (sym g.want)
    (subst (λ (p : Image). AsksNamed (pool_of p.pool).names (asks_done h g.operation g.before y)) g.remains.program (done_named h g.operation g.before y g.told))

-- ---- turns

becomes_named : (names : List (List ℕ)) (z : PlainStore) (v : Want) (y : PlainStore) (w : Want) → AsksNamed names v → Becomes z v y w → AsksNamed names w
becomes_named names z v y w is b = subst (AsksNamed names) (sym b.want) (unless_named names y.failure v is)

turn_in_named : (o : Option Stage) (h : ℕ) (x y : PlainStore) (w : Want) → TurnIn o h x y w → AsksNamed (names_of x) w
turn_in_named None h x y w t = becomes_named (names_of x) _ want.Continue y w tt t
turn_in_named (Some stage.Runs) h x y w t = goes_named h x y w t
turn_in_named (Some stage.Reserves) h x y w t = becomes_named (names_of x) _ want.Continue y w tt t
turn_in_named (Some stage.ReservesBlock) h x y w t = becomes_named (names_of x) _ want.Continue y w tt t
turn_in_named (Some (stage.InCall gives)) h x y w t = becomes_named (names_of x) _ want.Continue y w tt t
turn_in_named (Some (stage.Awaits k gives is_creation)) h x y w t = becomes_named (names_of x) _ want.Continue y w tt t

turn_made_named : (o : Option Stage) (h : ℕ) (x y : PlainStore) (w : Want) → TurnMade o h x y w → AsksNamed (names_of x) w
turn_made_named None h x y w t = becomes_named (names_of x) _ want.Continue y w tt t
turn_made_named (Some stage.Runs) h x y w t = goes_named h x y w t
turn_made_named (Some stage.Reserves) h x y w t = becomes_named (names_of x) _ want.Continue y w tt t
turn_made_named (Some stage.ReservesBlock) h x y w t = becomes_named (names_of x) _ want.Continue y w tt t
turn_made_named (Some (stage.InCall gives)) h x y w t = becomes_named (names_of x) _ want.Continue y w tt t
turn_made_named (Some (stage.Awaits k gives true)) h x y w t = becomes_named (names_of x) _ want.Continue y w tt t
turn_made_named (Some (stage.Awaits k gives false)) h x y w t = becomes_named (names_of x) _ want.Continue y w tt t

version_named : (names : List (List ℕ)) (r : Request) (v : Option FeatureCode) (x y : PlainStore) → AsksNamed names (taking.asks_version r v x y)
version_named names r (Some (version.Attribute n)) x y = tt
version_named names r (Some (version.Routine n)) x y = beginning_named names y.program (top_activation y.frames)
version_named names r None x y = tt

on_named : (names : List (List ℕ)) (r : Request) (o : Option PlainObject) (v : Option FeatureCode) (x y : PlainStore) → AsksNamed names (taking.asks_on r o v x y)
on_named names r (Some o) v x y = version_named names r v x y
on_named names r None v x y = tt

errand_asks_named : (names : List (List ℕ)) (h : ℕ) (e : Errand) (r : Request) (x y : PlainStore) → AsksNamed names (taking.asks_errand h e r x y)
errand_asks_named names h (errand.Makes None) r x y = tt
errand_asks_named names h (errand.Makes (Some k)) r x y = beginning_named names y.program (top_activation y.frames)
errand_asks_named names h (errand.Calls k) r x y = by (r.target.handler == h)
  where
    by : (b : Bool) → AsksNamed names (if b then taking.asks_on r (object_numbered r.target.number x.objects) (version_in x.program r.target.class k) x y else want.Continue)
    by true = on_named names r (object_numbered r.target.number x.objects) (version_in x.program r.target.class k) x y
    by false = tt

under_named : (h : ℕ) (j : Job) (x y : PlainStore) (w : Want) → TurnUnder h j x y w → AsksNamed (names_of x) w
under_named h (job.Take r) x y w t = becomes_named (names_of x) _ (taking.asks_taking h r x (taken h r x)) y w (errand_asks_named (names_of x) h r.errand r x (taken h r x)) t
under_named h (job.Reply v) x y w t = becomes_named (names_of x) _ want.Continue y w tt t
under_named h job.Failed x y w t = becomes_named (names_of x) _ want.Continue y w tt t
under_named h job.Refused x y w t = becomes_named (names_of x) _ want.Continue y w tt t
under_named h (job.Granted ks) x y w t = becomes_named (names_of x) _ want.Continue y w tt t
under_named h (job.Made k) x y w t = turn_made_named (top_stage x) h x y w t
under_named h job.Go x y w t = turn_in_named (top_stage x) h x y w t

begun_program : (b : Bool) (j : Job) (x : PlainStore) → (begun b j x).program ≡ x.program
begun_program true (job.Made k) x = refl
begun_program false (job.Made k) x = refl
begun_program b (job.Take r) x = refl
begun_program b (job.Reply v) x = refl
begun_program b job.Failed x = refl
begun_program b job.Refused x = refl
begun_program b (job.Granted ks) x = refl
begun_program b job.Go x = refl

-- what the first turn under a job asks for names what the program has names for
pub asks_named : (h : ℕ) (b : Bool) (j : Job) (x y : PlainStore) (w : Want) → FirstTurn h b j x y w → WantAsks (IsNamed (names_of x)) w
asks_named h b j x y w t = subst (λ (p : Image). AsksNamed (pool_of p.pool).names w) (begun_program b j x) (under_named h j (begun b j x) y w t)
