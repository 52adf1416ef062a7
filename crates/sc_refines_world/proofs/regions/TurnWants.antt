-- What turns of a handler ask of the core.
use Rattle.std.proofs.Common.{◌≡◌, ℕ, zero, suc, ◌-◌, Bool, true, false, List, [], ◌∷◌, ◌++◌, Option, Some, None, is_some, length, map, reverse, refl, sym, ap, ◌∙◌, subst, arith}
use Rattle.std.proofs.lemmas.List.{reverse-append}
use Rattle.std.proofs.lemmas.Slice.Eq.{bytes_eq-Decides}
use Rattle.std.specs.Prelude.{◌||◌, bytes_eq, slice_get, if◌then◌else◌}
use Rattle.std.specs.Option.{option_map}
use Rattle.sc_tree.specs.Plain.{System}
use Rattle.sc_model.specs.declared.cause.Cause.{Cause}
use Rattle.sc_model.specs.declared.cause.Cause.TheVariants as cause
use Rattle.sc_model.specs.Handlers.{Origin, Called, Requested, Frame, frame_at}
use Rattle.sc_model.specs.Objects as model_objects
use Rattle.sc_model.specs.Objects.{Object}
use Rattle.sc_model.specs.Preconditions as preconditions
use Rattle.sc_model.specs.Preconditions.{is_creation}
use Rattle.sc_model.specs.Steps as model
use Rattle.sc_model.specs.Steps.{Unqualified, Qualified, Creation}
use Rattle.sc_model.specs.Values as values
use Rattle.sc_model.specs.Values.{Operand}
use Rattle.sc_code.specs.declared.program.Image.{Image}
use Rattle.sc_code.specs.Machine as flat
use Rattle.sc_code.specs.Machine.{State}
use Rattle.sc_code.specs.Programs.{pool_of}
use Rattle.sc_code.specs.Stands.{Seen}
use Rattle.sc_region.specs.declared.job.Errand.TheVariants as errand
use Rattle.sc_region.specs.declared.job.Request.{Request}
use Rattle.sc_region.specs.declared.job.Want.{Want}
use Rattle.sc_region.specs.declared.job.Want.TheVariants as want
use Rattle.sc_region.specs.declared.value.Reference.{Reference}
use Rattle.sc_region.specs.declared.value.Value.{Value}
use Rattle.sc_region.specs.declared.value.Value.TheVariants.{Integer, Boolean, Void, Attached}
use Rattle.sc_region.specs.Classes as at
use Rattle.sc_region.specs.Frames.{frame_with, top_activation}
use Rattle.sc_region.specs.Objects as objects
use Rattle.sc_region.specs.Stores as store
use Rattle.sc_region.specs.Stores.{PlainStore, left}
use Rattle.sc_request.specs.Asked as asked
use Rattle.sc_request.specs.Asked.{Numbering}
use Rattle.sc_acts.specs.declared.act.Act.TheVariants as act
use Rattle.sc_interp.specs.declared.hops.Hop.TheVariants as hop
use Rattle.sc_region.specs.Calls.{last_values, on_top}
use Rattle.sc_acts.specs.Exiting as exiting
use Rattle.sc_acts.specs.Exiting.{asks_exiting, exited, returned}
use Rattle.sc_refines_world.specs.regions.Laws.{ProgramsServe}
use Rattle.sc_interp.specs.Objects.{objects_in}
use Rattle.sc_acts.specs.Refusing.{asks_refusing, is_waited_for, refused, refused_as, waiting}
use Rattle.sc_refines_world.specs.regions.RegionHalves.{origin_of, requested}
use Rattle.sc_refines_world.specs.regions.RegionSteps.{names_of, number_among, numbering_by}
use Rattle.sc_interp.specs.Standing.{actuals}
use Rattle.sc_acts.specs.Tables.{formals_at, name_at}
use Rattle.sc_acts.specs.Turning.{unless_failed}
use Rattle.sc_interp.specs.Values.{reference_of, value_of, values_of}
use Rattle.sc_acts.proofs.Options.{some_same}
use Rattle.sc_acts.specs.Leaving.{asks_leaving, asks_left, innermost}
use Rattle.sc_acts.specs.CreatingHandlers.{asks_creating, creation_by, creation_in, creation_with, may_create}
use Rattle.sc_acts.specs.CreatingHandlers as creating
use Rattle.sc_acts.specs.Requesting.{asks_requesting, asks_sending, call_of, request_by}
use Rattle.sc_refines_world.specs.regions.Wanting.{BlockEndsAsk, CreationsAsk, DistinctNamesHaveNumbers, IsNumbered, IsProcedure, MayCreate, MayRequest, RefusalsAsk, RequestsAsk, RoutineEndsAsk}
use Rattle.sc_refines_world.proofs.regions.TurnAsks.{asked_is, told_by}
use Rattle.sc_refines_world.proofs.regions.SilentOperations.{meets}
use Rattle.sc_refines_world.proofs.regions.Exits.{ending, meets_same, origin_same}
use Rattle.sc_refines_world.proofs.regions.PassedOperations.{act_same, stays}
use Rattle.sc_refines_world.proofs.regions.Refusals.{refusal, verdict_is}
use Rattle.sc_refines_world.proofs.regions.ShownSteps.{leaves_is}
use Rattle.sc_refines_world.proofs.regions.StageChanges.{same_blocks, values_taken}
use Rattle.sc_refines_world.proofs.regions.SeenRequests.{creates_handler_is, requests_is}

-- ---- values

pub value_back : (v : Value) → asked.value_of (value_of v) ≡ v
value_back (Integer z) = refl
value_back (Boolean b) = refl
value_back Void = refl
value_back (Attached r) = refl

option_back : (o : Option Value) → option_map asked.value_of (option_map value_of o) ≡ o
option_back None = refl
option_back (Some v) = ap (λ v. Some v) (value_back v)

values_back : (vs : List Value) → map asked.value_of (values_of vs) ≡ vs
values_back [] = refl
values_back (v ∷ vs) = ap (λ w. w ∷ map asked.value_of (values_of vs)) (value_back v) ∙ ap (λ ws. v ∷ ws) (values_back vs)

-- ---- failures

-- Where the store fails first, both ask so.
first_fails : (b c : Bool) → b ≡ c → (why : Cause) (y r : PlainStore) (v u : Want) → unless_failed r.failure v ≡ unless_failed r.failure u →
    unless_failed (if b then store.failed why y else r).failure (if c then want.Fail why else v) ≡ unless_failed (if b then store.failed why y else r).failure u
first_fails true true e why y r v u h = refl
first_fails false false e why y r v u h = h
first_fails true false e why y r v u h = cc
first_fails false true e why y r v u h = cc

last_fails : (b c : Bool) → b ≡ c → (why : Cause) (y r : PlainStore) (v u : Want) → unless_failed r.failure v ≡ unless_failed r.failure u →
    unless_failed (if b then r else store.failed why y).failure (if c then v else want.Fail why) ≡ unless_failed (if b then r else store.failed why y).failure u
last_fails true true e why y r v u h = h
last_fails false false e why y r v u h = refl
last_fails true false e why y r v u h = cc
last_fails false true e why y r v u h = cc

-- ---- names

-- ---- ends

releasing_same : (ks : List ℕ) → asked.asks_releasing ks ≡ exiting.asks_releasing ks
releasing_same [] = refl
releasing_same (k ∷ ks) = refl

returning_same : (o : Origin) (f : Frame) (v : Option Value) (ks : List ℕ) → option_map value_of v ≡ option_map (λ (u : Operand). u.value) f.result → ks ≡ f.reserved →
    asked.asks_returning o f ≡ exiting.asks_returning (origin_of o) v ks
returning_same (Called Unqualified) f v ks e d = ap asked.asks_releasing (sym d) ∙ releasing_same ks
returning_same (Called Qualified) f v ks e d = ap asked.asks_releasing (sym d) ∙ releasing_same ks
returning_same (Called Creation) f v ks e d = ap asked.asks_releasing (sym d) ∙ releasing_same ks
returning_same (Requested r) f v ks e d =
    ap (λ l. asked.asks_done (option_map (λ (u : Operand). u.value) f.result) l false) (sym d)
    ∙ ap (λ o. asked.asks_done o ks false) (sym e)
    ∙ ap (λ o. want.Done o (record { items = ks }) false) (option_back v)
    ∙ by (is_creation r.errand)
  where
    by : (b : Bool) → want.Done v (record { items = ks }) false ≡ exiting.asks_returning (requested b) v ks
    by true = refl
    by false = refl

-- ---- blocks

pub last_is : (x : List ℕ) (xs : List (List ℕ)) → (k : List ℕ) × (rest : List (List ℕ)) × (reverse (x ∷ xs) ≡ k ∷ rest) × (slice_get (x ∷ xs) (length xs) ≡ Some k)
last_is x [] = (x, [], refl, refl)
last_is x (y ∷ ys) =
    let r = last_is y ys in
    (r.0, r.1 ++ x ∷ [], reverse-append (x ∷ []) (y ∷ ys) ∙ ap (λ l. l ++ x ∷ []) r.2, r.3)

leaving_same : (bs : List (List ℕ)) → asked.asks_leaving (reverse bs) ≡ asks_left (innermost bs)
leaving_same [] = refl
leaving_same (x ∷ xs) =
    let r = last_is x xs in
    let less : length (x ∷ xs) - 1 ≡ length xs = omega arith in
    ap asked.asks_leaving r.2 ∙ sym (ap (λ k. asks_left (slice_get (x ∷ xs) k)) less ∙ ap asks_left r.3)

-- ---- names

pub distinct_names_have_numbers : DistinctNamesHaveNumbers
distinct_names_have_numbers [] k name distinct e = cc
distinct_names_have_numbers (y ∷ ys) zero name distinct e =
    ap (λ b. if b then 0 else suc (number_among name ys)) ((bytes_eq-Decides y name).1 (some_same y name e))
distinct_names_have_numbers (y ∷ ys) (suc k) name distinct e =
    let later = distinct_names_have_numbers ys k name
    (λ i j n a b. (let one = distinct (suc i) (suc j) n a b in omega (arith, one))) e in
    elim (bytes_eq y name) as (λ b. bytes_eq y name ≡ b → (if b then 0 else suc (number_among name ys)) ≡ suc k) [
      | true ↦ λ same. (let one = distinct 0 (suc k) name (ap (λ n. Some n) ((bytes_eq-Decides y name).0 same)) e in absurd (omega (arith, one)))
      | false ↦ λ same. ap (λ n. suc n) later
    ] refl

-- ---- refusals

refusing_same : (s : System) (from : Origin) (f : Frame) (os : List Object) (me : Reference) (w : PlainStore) (ks : List ℕ) → ks ≡ f.reserved →
    at.object_meets w.program (objects.object_numbered me.number w.objects) ≡ preconditions.object_meets s (model_objects.object_numbered f.current.number os) →
    unless_failed (refused_as (origin_of from) me w).failure (asked.asks_refusing s from f os)
    ≡ unless_failed (refused_as (origin_of from) me w).failure (want.Done None (record { items = ks }) true)
refusing_same s (Called Unqualified) f os me w ks d e = refl
refusing_same s (Called Qualified) f os me w ks d e = refl
refusing_same s (Called Creation) f os me w ks d e = refl
refusing_same s (Requested r) f os me w ks d e = by (is_creation r.errand)
  where
    done : asked.asks_done None f.reserved true ≡ want.Done None (record { items = ks }) true
    done = ap (λ l. asked.asks_done None l true) (sym d)

    by : (b : Bool) →
        unless_failed (refused_as (requested b) me w).failure
        (if b then (if preconditions.object_meets s (model_objects.object_numbered f.current.number os) then asked.asks_done None f.reserved true else want.Fail cause.Invariant)
        else asked.asks_done None f.reserved true)
        ≡ unless_failed (refused_as (requested b) me w).failure (want.Done None (record { items = ks }) true)
    by true = last_fails _ _ e cause.Invariant w (left w) (asked.asks_done None f.reserved true) (want.Done None (record { items = ks }) true) (ap (unless_failed (left w).failure) done)
    by false = ap (unless_failed (left w).failure) done

-- ---- requests

abbrev posted : ℕ → Reference → ℕ → List Value → Bool → Request
posted h r k vs b = record { poster = Some h; target = r; errand = errand.Calls k; actuals = record { items = vs }; is_waited = b }

sends : (b : Bool) (p q : Bool → Request) → ((c : Bool) → p c ≡ q c) → (passes : Bool) →
    (if b then want.Ask (p true) passes else want.Post (p false)) ≡ (if b then want.Ask (q b) passes else want.Post (q b))
sends true p q e passes = ap (λ r. want.Ask r passes) (e true)
sends false p q e passes = ap want.Post (e false)

numbered_in : (k : ℕ) (y z : PlainStore) → z.program ≡ y.program → IsNumbered z k → number_among (name_at y.program k) (names_of y) ≡ k
numbered_in k y z e numbered = subst (λ (p : Image). number_among (name_at p k) (pool_of p.pool).names ≡ k) e numbered

procedure_in : (k : Option ℕ) (y z : PlainStore) → z.program ≡ y.program → IsProcedure z k →
    option_map (λ x. number_among x (names_of y)) (option_map (name_at y.program) k) ≡ k
procedure_in None y z e numbered = refl
procedure_in (Some k) y z e numbered = ap (λ n. Some n) (numbered_in k y z e numbered)

-- ---- the laws

module _ (serve : ProgramsServe) where
  pub routine_ends_ask : RoutineEndsAsk
  routine_ends_ask h y z comes whole s x is region left_so =
      let o = hop.Comes act.Exit in
      let m = meets serve s x o y z is region comes in
      let e = ending s x y z is region comes whole m in
      let n = numbering_by (names_of y) in
      let f = frame_at m.frame m.point in
      let v = asked.asks_exiting s f m.point.objects in
      let here : PlainStore = record z { frames = frame_with m.current m.activation ∷ m.rest } in
      let reserved : m.activation.reserved ≡ m.frame.reserved = (stays s x o y z is region comes m).reserved ∙ m.stood.reserved in
      let back = returned m.activation.origin m.activation.result here in
      let asks = returning_same m.frame.origin f m.activation.result m.activation.reserved e.result reserved
      ∙ ap (λ q. exiting.asks_returning q m.activation.result m.activation.reserved) (sym e.origin) in
      let at_once : unless_failed (exited here).failure v ≡ unless_failed (exited here).failure (asks_exiting (Some m.activation)) =
      first_fails _ _ e.unset cause.UnsetEntity here _ _ _
      (last_fails _ _ e.tested cause.Invariant here back (asked.asks_returning m.frame.origin f) (asks_exiting (Some m.activation)) (ap (unless_failed back.failure) asks)) in
      told_by n s h x (exited z) v left_so (asked_is s x o y z m n h model.Exits e.step_is)
      ∙ subst (λ fs. unless_failed (exited (record z { frames = fs })).failure v ≡ unless_failed (exited (record z { frames = fs })).failure (asks_exiting (top_activation fs))) (sym m.frames) at_once

  pub block_ends_ask : BlockEndsAsk
  block_ends_ask h y z w comes s x is region left_so =
      let o = hop.Comes act.Leave in
      let m = meets serve s x o y z is region comes in
      let n = numbering_by (names_of y) in
      let shown = act_same flat.Leaves m.shown _ m.state m.does in
      let step = leaves_is m.last.environment m.point.environment m.step (subst (λ a. Seen m.last.environment m.point.environment m.step a) (sym shown) m.seen) in
      let blocks = same_blocks s x o y z is region comes m in
      told_by n s h x w (asked.asks_leaving m.frame.blocks) left_so (asked_is s x o y z m n h model.Leaves step)
      ∙ ap (unless_failed w.failure)
      (ap asked.asks_leaving (sym blocks) ∙ leaving_same m.activation.blocks ∙ sym (ap (λ fs. asks_leaving (top_activation fs)) m.frames))

  pub refusals_ask : RefusalsAsk
  refusals_ask h k y z comes whole s x is region left_so =
      let o = hop.Comes (act.Refuse k) in
      let m = meets serve s x o y z is region comes in
      let r = refusal s x k y z is region comes m in
      let n = numbering_by (names_of y) in
      let f = frame_at m.frame m.point in
      let a = m.activation in
      let slots = formals_at z.program k in
      let same : objects_in s z.objects ≡ m.point.objects = ap (λ (st : State). st.objects) r.state in
      let v = asked.asks_after (preconditions.verdict_on f r.clause) s f m.point.objects in
      let here : PlainStore = record z { frames = frame_with m.current a ∷ m.rest } in
      let reserved : a.reserved ≡ m.frame.reserved = (stays s x o y z is region comes m).reserved ∙ m.stood.reserved in
      let refusing = subst (λ q. unless_failed (refused_as q m.current here).failure (asked.asks_refusing s m.frame.origin f m.point.objects)
      ≡ unless_failed (refused_as q m.current here).failure (want.Done None (record { items = a.reserved }) true)) (sym (origin_same s x o y z is region comes whole m same))
      (refusing_same s m.frame.origin f m.point.objects m.current here a.reserved reserved (meets_same s x o y z is region comes whole m same)) in
      let at_once : unless_failed (refused k here).failure v ≡ unless_failed (refused k here).failure (asks_refusing slots (Some a)) =
      elim (is_waited_for a slots) as (λ b. is_waited_for a slots ≡ b →
      unless_failed (if b then on_top waiting here else refused_as a.origin m.current here).failure v
      ≡ unless_failed (if b then on_top waiting here else refused_as a.origin m.current here).failure
      (if b then want.Wait (record { items = a.reserved }) else want.Done None (record { items = a.reserved }) true)) [
        | true ↦ λ e.
            ap (unless_failed z.failure)
            (ap (λ d. asked.asks_after d s f m.point.objects) (verdict_is s x k y z m r true e) ∙ ap (λ ks. want.Wait (record { items = ks })) (sym reserved))
        | false ↦ λ e.
            ap (unless_failed (refused_as a.origin m.current here).failure) (ap (λ d. asked.asks_after d s f m.point.objects) (verdict_is s x k y z m r false e))
            ∙ refusing
      ] refl in
      told_by n s h x (refused k z) v left_so (asked_is s x o y z m n h (model.Refuses r.clause) r.act)
      ∙ subst (λ fs. unless_failed (refused k (record z { frames = fs })).failure v ≡ unless_failed (refused k (record z { frames = fs })).failure (asks_refusing slots (top_activation fs)))
      (sym m.frames) at_once

  pub requests_ask : RequestsAsk
  requests_ask h r k n gives passes y z w comes numbered may s x is region left_so =
      let o = hop.Comes (act.Request (call_of r k n gives passes)) in
      let m = meets serve s x o y z is region comes in
      let a = m.activation in
      let operands = values_of a.operands.values in
      let wanted = flat.Requests (reference_of r) (name_at y.program k) (actuals n operands) gives passes in
      let shown = act_same wanted m.shown _ m.state m.does in
      let seen = requests_is m.last.environment m.point.environment m.step (reference_of r) (name_at y.program k) (actuals n operands) gives passes
      (subst (λ b. Seen m.last.environment m.point.environment m.step b) (sym shown) m.seen) in
      let names = numbering_by (names_of y) in
      let number : number_among seen.name (names_of y) ≡ k = ap (λ t. number_among t (names_of y)) seen.name_is ∙ numbered_in k y z comes.remains.program numbered in
      let vs : map asked.value_of (values.values_of seen.actuals) ≡ last_values n a.operands.values =
      ap (map asked.value_of) (seen.actuals_are ∙ sym (values_taken n [] a.operands.values)) ∙ values_back (last_values n a.operands.values) in
      let may_here = subst (λ fs. MayRequest n (top_activation fs)) m.frames may in
      let c = call_of r k n gives passes in
      let asks : asked.asks_requesting names h (reference_of r) seen.name seen.actuals (passes || gives) passes ≡ asks_requesting h c (Some a) =
      sends (passes || gives) (asked.request_by names h (reference_of r) seen.name seen.actuals) (posted h r k (last_values n a.operands.values))
      (λ b. ap (λ j. posted h r j (map asked.value_of (values.values_of seen.actuals)) b) number ∙ ap (λ us. posted h r k us b) vs) passes
      ∙ sym (ap (λ b. asks_sending (if b then Some (request_by h c a) else None) passes) may_here) in
      told_by names s h x w (asked.asks_requesting names h (reference_of r) seen.name seen.actuals (passes || is_some seen.type) passes) left_so
      (asked_is s x o y z m names h (model.Requests (reference_of r) seen.name seen.actuals seen.type passes) seen.act)
      ∙ ap (unless_failed w.failure)
      (ap (λ g. asked.asks_requesting names h (reference_of r) seen.name seen.actuals (passes || g) passes) seen.gives_is
      ∙ asks ∙ sym (ap (λ fs. asks_requesting h c (top_activation fs)) m.frames))

  pub creations_ask : CreationsAsk
  creations_ask h class k n passes y z w comes numbered may s x is region left_so =
      let o = hop.Comes (act.CreateHandler (creation_with class k n passes)) in
      let m = meets serve s x o y z is region comes in
      let a = m.activation in
      let operands = values_of a.operands.values in
      let wanted = flat.CreatesHandler class (option_map (name_at y.program) k) (actuals n operands) passes in
      let shown = act_same wanted m.shown _ m.state m.does in
      let seen = creates_handler_is m.last.environment m.point.environment m.step class (option_map (name_at y.program) k) (actuals n operands) passes
      (subst (λ b. Seen m.last.environment m.point.environment m.step b) (sym shown) m.seen) in
      let names = numbering_by (names_of y) in
      let number : option_map (λ t. number_among t (names_of y)) seen.procedure ≡ k =
      ap (option_map (λ t. number_among t (names_of y))) seen.procedure_is ∙ procedure_in k y z comes.remains.program numbered in
      let vs : map asked.value_of (values.values_of seen.actuals) ≡ last_values n a.operands.values =
      ap (map asked.value_of) (seen.actuals_are ∙ sym (values_taken n [] a.operands.values)) ∙ values_back (last_values n a.operands.values) in
      let may_here = subst (λ fs. MayCreate n (top_activation fs)) m.frames may in
      let c = creation_with class k n passes in
      let v = want.Create class (option_map (λ t. number_among t (names_of y)) seen.procedure) (record { items = map asked.value_of (values.values_of seen.actuals) }) passes in
      let asks : v ≡ asks_creating c (Some a) =
      ap (λ j. want.Create class j (record { items = map asked.value_of (values.values_of seen.actuals) }) passes) number
      ∙ ap (λ us. want.Create class k (record { items = us }) passes) vs
      ∙ sym (ap (λ b. creating.asks_created (if b then Some (creation_by c a) else None)) may_here) in
      told_by names s h x w v left_so (asked_is s x o y z m names h (model.CreatesHandler class seen.procedure seen.actuals seen.type passes) seen.act)
      ∙ ap (unless_failed w.failure) (asks ∙ sym (ap (λ fs. asks_creating c (top_activation fs)) m.frames))
