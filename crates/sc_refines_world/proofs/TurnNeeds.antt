-- The half of a handler's region has what a turn under the handler's job needs, in each state of which the invariant on values holds.
use Rattle.std.proofs.Common.{◌≡◌, ◌<◌, ◌-◌, ◌==◌, inl, inr, ℕ, Bool, true, false, List, [], ◌∷◌, ◌++◌, Option, Some, None, is_some, slice_get, refl, sym, ap, subst, ◌∙◌}
use Rattle.std.specs.List.{flat_map}
use Rattle.std.specs.Option.{option_map}
use Rattle.std.specs.Prelude.{map, if◌then◌else◌}
use Rattle.sc_tree.specs.Plain.{System}
use Rattle.sc_class.specs.ClassNames.{Root}
use Rattle.sc_class.specs.Faults.ClassRules.{IsFaultless}
use Rattle.sc_rules.specs.declared.entity_types.entity_type.EntityType.{EntityType}
use Rattle.sc_rules.specs.Names.{RoutineName}
use Rattle.sc_rules.specs.Purity.{IsPurity}
use Rattle.sc_rules.specs.SystemRules.{WellFormed}
use Rattle.sc_model.specs.Failures.{request_of, requests_at, to_list}
use Rattle.sc_model.specs.Handlers as machine
use Rattle.sc_model.specs.Handlers.{Awaits, Frame, InCall, Reserves, ReservesBlock, Runs, Stage, World}
use Rattle.sc_model.specs.Objects.{Object, object_numbered}
use Rattle.sc_model.specs.Values.{Reference, Value}
use Rattle.sc_region.specs.declared.job.Job.{Job}
use Rattle.sc_region.specs.declared.job.Job.TheVariants as job
use Rattle.sc_region.specs.declared.job.Request.{Request}
use Rattle.sc_region.specs.declared.value.Value as coded
use Rattle.sc_handler.specs.Handlers as core
use Rattle.sc_handler.specs.Handlers.{Posted, State}
use Rattle.sc_handler.specs.Picking.{job_answered, job_at, job_awaiting, job_idle, job_of, job_reserving}
use Rattle.sc_handler.specs.Changes as changes
use Rattle.sc_request.specs.Asked as asked
use Rattle.sc_request.specs.Asked.{value_of}
use Rattle.sc_request.specs.Halves.{IsHalfOf, answer_of, posted_of}
use Rattle.sc_refines_world.specs.regions.RegionHalves.{AreHalvesOf, IsRegionHalf, IsStageFor}
use Rattle.sc_refines_world.specs.regions.RegionSteps.{numbering_by}
use Rattle.sc_refines_world.specs.regions.RegionTurns.{Half}
use Rattle.sc_refines_world.specs.regions.Taking.{IsNamed}
use Rattle.sc_refines_world.specs.regions.Halves.{GetsReply, JobFits, RequestFits}
use Rattle.sc_machine_laws.specs.states.Fitting as values
use Rattle.sc_machine_laws.specs.states.Fitting.{IsThere, WorldFits, is_due, is_made}
use Rattle.sc_machine_laws.specs.states.Points.{Each}
use Rattle.sc_machine_laws.proofs.states.Lists.{each_before, each_behind}
use Rattle.sc_refines_world.proofs.Asked.{AllAsk}
use Rattle.sc_refines_world.proofs.Contracts.{job_here}
use Rattle.sc_refines_world.proofs.TurnHalves.{complete, within, half_fits}

-- ---- requests

-- a reference to an object that is there tells its class
there_of_class : (w : World) (h : ℕ) (r : Reference) (o : Object) → IsThere w r → r.handler ≡ h → object_numbered r.number (w.handlers h).objects ≡ Some o → o.class ≡ r.class
there_of_class w h r o (is_made {o = made} l i c) e is =
    let at : object_numbered r.number (w.handlers h).objects ≡ Some made = subst (λ (k : ℕ). object_numbered r.number (w.handlers k).objects ≡ Some made) e i in
    let same : o ≡ made = same_object o made (sym is ∙ at) in
    ap (λ (o : Object). o.class) same ∙ c
  where
    same_object : (a b : Object) → Some a ≡ Some b → a ≡ b
    same_object a b e = cc
there_of_class w h r o (is_due l none q target errand one) e is =
    absurd (nothing (subst (λ (os : List Object). object_numbered r.number os ≡ Some o) (subst (λ (k : ℕ). (w.handlers k).objects ≡ []) e none) is))
  where
    nothing : object_numbered r.number [] ≡ Some o → ⊥
    nothing = by (r.number == 0)
      where
        by : (b : Bool) → (if b then None else slice_get [] (r.number - 1)) ≡ Some o → ⊥
        by true e = cc
        by false e = cc

-- The request that a job is to take is one that stands at the handler of the machine.
pub record IsAsked (s : System) (w : World) (h : ℕ) (names : List (List ℕ)) (r : Request) : Type 0 where
  pub request : machine.Request
  pub same : r ≡ asked.request_of (numbering_by names) request
  pub fits : values.RequestFits s w h request
  pub named : IsNamed names r.errand

module _ (s : System) (w : World) (h : ℕ) (names : List (List ℕ)) (r : Request) where
  abbrev NamedPost : Posted → Type 0
  NamedPost p = IsNamed names p.request.errand

  taken_same : (q : Request) → Some (job.Take q) ≡ Some (job.Take r) → q ≡ r
  taken_same q e = cc

  next_asked : (qs : List machine.Request) → Each (values.RequestFits s w h) qs → Each NamedPost (map (posted_of (numbering_by names)) qs) →
      job_idle (map (posted_of (numbering_by names)) qs) ≡ Some (job.Take r) → IsAsked s w h names r
  next_asked [] fits named is = cc
  next_asked (q ∷ qs) fits named is =
      let same = taken_same (asked.request_of (numbering_by names) q) is in
      record { request = q; same = sym same; fits = fits.0; named = subst (λ (r : Request). IsNamed names r.errand) same named.0 }

  answered_takes : {A : Type 0} (k : ℕ) (b : Bool) (a : core.Answer) → Some (job_answered k b a) ≡ Some (job.Take r) → A
  answered_takes k true (core.Replied v) e = cc
  answered_takes k false (core.Replied v) e = cc
  answered_takes k true core.SupplierFailed e = cc
  answered_takes k false core.SupplierFailed e = cc
  answered_takes k true core.Refused e = cc
  answered_takes k false core.Refused e = cc

  callback_asked : (k : ℕ) (b : Bool) (o : Option machine.Request) (a : Option core.Answer) → Each (values.RequestFits s w h) (to_list o) →
      Each NamedPost (changes.to_list (option_map (posted_of (numbering_by names)) o)) →
      job_awaiting k b (option_map (posted_of (numbering_by names)) o) a ≡ Some (job.Take r) → IsAsked s w h names r
  callback_asked k b (Some q) a fits named is =
      let same = taken_same (asked.request_of (numbering_by names) q) is in
      record { request = q; same = sym same; fits = fits.0; named = subst (λ (r : Request). IsNamed names r.errand) same named.0 }
  callback_asked k b None (Some a) fits named is = answered_takes k b a is
  callback_asked k b None None fits named is = cc

  reserving_takes : {A : Type 0} (lost may : Bool) (ks : List ℕ) → job_reserving lost may ks ≡ Some (job.Take r) → A
  reserving_takes true may ks e = cc
  reserving_takes false true ks e = cc
  reserving_takes false false ks e = cc

  at_asked : (y : core.Handler) (c : State) (stage : core.HandlerStage) → y.queue ≡ map (posted_of (numbering_by names)) (w.handlers h).queue →
      y.callback ≡ option_map (posted_of (numbering_by names)) (w.handlers h).callback → Each (values.RequestFits s w h) (requests_at (w.handlers h)) →
      Each NamedPost y.queue → Each NamedPost (changes.to_list y.callback) → job_at h stage y c ≡ Some (job.Take r) → IsAsked s w h names r
  at_asked y c core.Idle queue callback fits posts posted is =
      next_asked (w.handlers h).queue (each_before (values.RequestFits s w h) (w.handlers h).queue (to_list (w.handlers h).callback)
      (each_before (values.RequestFits s w h) ((w.handlers h).queue ++ to_list (w.handlers h).callback) (flat_map (λ (f : Frame). request_of f.origin) (w.handlers h).stack) fits))
      (subst (Each NamedPost) queue posts) (subst (λ (ps : List Posted). job_idle ps ≡ Some (job.Take r)) queue is)
  at_asked y c (core.Awaits k b) queue callback fits posts posted is =
      callback_asked k b (w.handlers h).callback y.answer (each_behind (values.RequestFits s w h) (w.handlers h).queue (to_list (w.handlers h).callback)
      (each_before (values.RequestFits s w h) ((w.handlers h).queue ++ to_list (w.handlers h).callback) (flat_map (λ (f : Frame). request_of f.origin) (w.handlers h).stack) fits))
      (subst (λ (o : Option Posted). Each NamedPost (changes.to_list o)) callback posted)
      (subst (λ (o : Option Posted). job_awaiting k b o y.answer ≡ Some (job.Take r)) callback is)
  at_asked y c core.Runs queue callback fits posts posted is = cc
  at_asked y c (core.HasMade k) queue callback fits posts posted is = cc
  at_asked y c (core.Reserves ks mark) queue callback fits posts posted is = reserving_takes _ _ _ is

-- ---- replies

was_awaiting : (h : ℕ) (f g : Stage) (k : ℕ) (t : EntityType) (b : Bool) → IsStageFor h f g → g ≡ Awaits k (Some t) b → (j : ℕ) × (f ≡ Awaits j (Some t) b)
was_awaiting h Runs g k t b at e = let no : Runs ≡ Awaits k (Some t) b = sym at ∙ e in cc
was_awaiting h Reserves g k t b at e = let no : Reserves ≡ Awaits k (Some t) b = sym at ∙ e in cc
was_awaiting h ReservesBlock g k t b at e = let no : ReservesBlock ≡ Awaits k (Some t) b = sym at ∙ e in cc
was_awaiting h (InCall gives) g k t b at e = let no : InCall gives ≡ Awaits k (Some t) b = sym at ∙ e in cc
was_awaiting h (Awaits j gives true) g k t b at e = (j, same gives (sym at ∙ e))
  where
    same : (gives : Option EntityType) → Awaits h gives true ≡ Awaits k (Some t) b → Awaits j gives true ≡ Awaits j (Some t) b
    same gives e = let gives_same : gives ≡ Some t = cc in let b_same : true ≡ b = cc in ap (λ (o : Option EntityType). Awaits j o true) gives_same ∙ ap (Awaits j (Some t)) b_same
was_awaiting h (Awaits j gives false) g k t b (inl at) e = (j, same gives (sym at ∙ e))
  where
    same : (gives : Option EntityType) → Awaits j gives false ≡ Awaits k (Some t) b → Awaits j gives false ≡ Awaits j (Some t) b
    same gives e = let gives_same : gives ≡ Some t = cc in let b_same : false ≡ b = cc in ap (λ (o : Option EntityType). Awaits j o false) gives_same ∙ ap (Awaits j (Some t)) b_same
was_awaiting h (Awaits j gives false) g k t b (inr (none, at)) e = let no : Runs ≡ Awaits k (Some t) b = sym at ∙ e in cc

module _ (v : Option coded.Value) where
  replied_same : (u : Option coded.Value) → Some (job.Reply u) ≡ Some (job.Reply v) → u ≡ v
  replied_same u e = cc

  -- the answer that the job is to take is the machine's
  abbrev IsReply : Option machine.Answer → Type 0
  IsReply o = (u : Option Value) × (o ≡ Some (machine.Reply u)) × (option_map value_of u ≡ v)

  answered_is : (k : ℕ) (b : Bool) (a : machine.Answer) → Some (job_answered k b (answer_of a)) ≡ Some (job.Reply v) → IsReply (Some a)
  answered_is k true (machine.Reply u) e = cc
  answered_is k false (machine.Reply u) e = (u, refl, replied_same (option_map value_of u) e)
  answered_is k true machine.Failed e = cc
  answered_is k false machine.Failed e = cc
  answered_is k true machine.Refused e = cc
  answered_is k false machine.Refused e = cc

  awaiting_is : (k : ℕ) (b : Bool) (p : Option Posted) (a : Option machine.Answer) → job_awaiting k b p (option_map answer_of a) ≡ Some (job.Reply v) → IsReply a
  awaiting_is k b (Some p) a e = cc
  awaiting_is k b None (Some a) e = answered_is k b a e
  awaiting_is k b None None e = cc

  idle_is : {A : Type 0} (ps : List Posted) → job_idle ps ≡ Some (job.Reply v) → A
  idle_is [] e = cc
  idle_is (p ∷ ps) e = cc

  reserving_is : {A : Type 0} (lost may : Bool) (ks : List ℕ) → job_reserving lost may ks ≡ Some (job.Reply v) → A
  reserving_is true may ks e = cc
  reserving_is false true ks e = cc
  reserving_is false false ks e = cc

  at_reply : (h : ℕ) (y : core.Handler) (c : State) (stage : core.HandlerStage) (a : Option machine.Answer) → y.answer ≡ option_map answer_of a → job_at h stage y c ≡ Some (job.Reply v) → IsReply a
  at_reply h y c core.Idle a e is = idle_is y.queue is
  at_reply h y c core.Runs a e is = cc
  at_reply h y c (core.HasMade k) a e is = cc
  at_reply h y c (core.Reserves ks mark) a e is = reserving_is _ _ _ is
  at_reply h y c (core.Awaits k b) a e is = awaiting_is k b y.callback a (subst (λ (o : Option core.Answer). job_awaiting k b y.callback o ≡ Some (job.Reply v)) e is)

  -- who waits for a value is given one
  reply_given : (s : System) (w : World) (h : ℕ) (f : Frame) (fs : List Frame) (k : ℕ) (t : EntityType) (b : Bool) → (w.handlers h).stack ≡ f ∷ fs → f.stage ≡ Awaits k (Some t) b →
      (u : Option Value) → option_map value_of u ≡ v → values.ReplyFits s w h u → is_some v ≡ true
  reply_given s w h f fs k t b stack stage u same fits =
      let top : fits.frame ≡ f = same_top fits.frame f fits.below fs (sym fits.stack_is ∙ stack) in
      let takes : fits.takes ≡ Some t = same_takes fits.supplier k fits.takes (Some t) fits.is_creation b (sym fits.stage_is ∙ ap (λ (f : Frame). f.stage) top ∙ stage) in
      let given = fits.fits t takes in
      ap is_some (sym same) ∙ ap (λ (o : Option Value). is_some (option_map value_of o)) given.1
    where
      same_top : (a b : Frame) (xs ys : List Frame) → a ∷ xs ≡ b ∷ ys → a ≡ b
      same_top a b xs ys e = cc

      same_takes : (i j : ℕ) (a b : Option EntityType) (c d : Bool) → Awaits i a c ≡ Awaits j b d → a ≡ b
      same_takes i j a b c d e = cc

-- ---- jobs

module _ (s : System) (root : Root) (pure : RoutineName → Bool) (faultless : IsFaultless s root) (well : WellFormed s) (tells : IsPurity s pure) (w : World) (fits : WorldFits s pure w)
    (names : List (List ℕ)) (c : State) (half : IsHalfOf (numbering_by names) w c) (named : AllAsk (IsNamed names) c) (h : ℕ) (here : h < w.count) where
  request_fits : (r : Request) (x : Half) → job_of h c ≡ Some (job.Take r) → IsRegionHalf h (w.handlers h) (c.handlers h).stage x → RequestFits s names r x
  request_fits r x is_job region =
      let asked_is =
      at_asked s w h names r (c.handlers h) c (c.handlers h).stage (half.handlers h).queue (half.handlers h).callback (fits h here).requests_fit (named h).0 (named h).1
      (job_here h c (job.Take r) is_job).1 in
      record {
        named = asked_is.named;
        of_class = λ o is. (
            let at : object_numbered asked_is.request.target.number (w.handlers h).objects ≡ Some o =
            subst (λ (q : Request). object_numbered q.target.number (w.handlers h).objects ≡ Some o) asked_is.same
            (subst (λ (os : List Object). object_numbered r.target.number os ≡ Some o) region.objects is) in
            there_of_class w h asked_is.request.target o asked_is.fits.target_is_there asked_is.fits.is_here at
            ∙ ap (λ (q : Request). q.target.class) (sym asked_is.same)
            );
        complete = complete s root pure faultless well tells w fits names c half h here (job.Take r) is_job x region;
        within = within s root pure faultless well tells w fits names c half h here (job.Take r) is_job x region;
      }

  gets_reply : (v : Option coded.Value) (x : Half) → job_of h c ≡ Some (job.Reply v) → IsRegionHalf h (w.handlers h) (c.handlers h).stage x → GetsReply v x.stack
  gets_reply v x is_job region =
      by (w.handlers h).stack x.stack refl (region.stands (sym (half.handlers h).failure ∙ (job_here h c (job.Reply v) is_job).0)).1
    where
      reply : IsReply v (w.handlers h).answer
      reply = at_reply v h (c.handlers h) c (c.handlers h).stage (w.handlers h).answer (half.handlers h).answer (job_here h c (job.Reply v) is_job).1

      by : (fs gs : List Frame) → (w.handlers h).stack ≡ fs → AreHalvesOf h (c.handlers h).stage fs gs → GetsReply v gs
      by [] [] e are = tt
      by [] (g ∷ gs) e are = absurd are
      by (f ∷ fs) [] e are = absurd are
      by (f ∷ fs) (g ∷ gs) e are = λ k t b is. (
          let was = was_awaiting h f.stage g.stage k t b are.0.stands is in
          reply_given v s w h f fs was.0 t b e was.1 reply.0 reply.2 ((fits h here).answer_fits reply.0 reply.1)
          )

  pub job_fits : (j : Job) (x : Half) → job_of h c ≡ Some j → IsRegionHalf h (w.handlers h) (c.handlers h).stage x → JobFits s h names j x
  job_fits (job.Take r) x is_job region = request_fits r x is_job region
  job_fits (job.Reply v) x is_job region = gets_reply v x is_job region
  job_fits job.Failed x is_job region = tt
  job_fits job.Refused x is_job region = tt
  job_fits (job.Granted ks) x is_job region = tt
  job_fits (job.Made k) x is_job region = half_fits s root pure faultless well tells w fits names c half h here (job.Made k) is_job x region
  job_fits job.Go x is_job region = half_fits s root pure faultless well tells w fits names c half h here job.Go is_job x region
