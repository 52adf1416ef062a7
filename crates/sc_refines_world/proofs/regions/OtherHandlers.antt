-- What a settlement leaves of how all other handlers stand.
use Rattle.std.proofs.Common.{◌≡◌, ◌&&◌, ◌||◌, ◌<◌, not, ℕ, Bool, true, false, List, [], ◌∷◌, Option, Some, None, refl, sym, ap, subst, ◌∙◌, arith}
use Rattle.std.proofs.lemmas.Bool.{ne_eqb}
use Rattle.std.specs.Prelude.{is_some, length, nat_lt, if◌then◌else◌}
use Rattle.arrayvec.specs.ArrayVec.{ArrayVec}
use Rattle.sc_tree.specs.Plain.{System}
use Rattle.sc_lockpass.specs.declared.wait_conditions.session.Release.TheVariants as release_at
use Rattle.sc_lockpass.specs.wait_conditions.Reservations.{mark_of}
use Rattle.sc_model.specs.declared.cause.Cause.{Cause}
use Rattle.sc_model.specs.declared.cause.Cause.TheVariants as cause
use Rattle.sc_model.specs.Limits.{max_queue}
use Rattle.sc_model.specs.Handlers as machine
use Rattle.sc_model.specs.Turns.{turn}
use Rattle.sc_region.specs.declared.value.Value.{Value}
use Rattle.sc_region.specs.declared.job.Job.{Job}
use Rattle.sc_region.specs.declared.job.Job.TheVariants as job
use Rattle.sc_region.specs.declared.job.Request.{Request}
use Rattle.sc_region.specs.declared.job.Want.{Want}
use Rattle.sc_region.specs.declared.job.Want.TheVariants as want
use Rattle.sc_handler.specs.Handlers.{posted, Replied, Refused, HandlerStage, Idle, Runs, HasMade, Reserves, Awaits, Service, Handler, State, put, new_handler}
use Rattle.sc_handler.specs.Changes.{told, counted_refusal, takes, takes_answer}
use Rattle.sc_handler.specs.Fits.{fits_turns}
use Rattle.sc_handler.specs.Picking.{job_of}
use Rattle.sc_request.specs.Sessions.{fail, is_callback, passed_if, release, send, with_handler}
use Rattle.sc_request.specs.Settling.{asked_in, asks, awaits_if, begun, creates, creation, done, done_if, ends, made_at, may_ask, posts_unheld, sends}
use Rattle.sc_request.specs.Asked.{Numbering, asked}
use Rattle.sc_request.specs.Steps.{stepped}
use Rattle.sc_refines_world.specs.regions.RegionHalves.{IsRegionHalf}
use Rattle.sc_refines_world.specs.regions.Joined.{OthersKeepHalves}
use Rattle.sc_refines_world.proofs.regions.Halves.{by_test, half_alike}
use Rattle.sc_refines_world.proofs.regions.CalmStages.{ended_stage, passed_stage, sent_stage, released_stage, finished_stage}
use Rattle.sc_refines_world.proofs.regions.Others.{turn_leads}

told_stage : (b : Bool) (x : Handler) → (told b x).stage ≡ x.stage
told_stage false x = refl
told_stage true x = refl

module _ (most h k : ℕ) (apart : k ≡ h → ⊥) where
  -- the handler stands as it stood
  abbrev Stands : State → State → Type 0
  Stands s t = (t.handlers k).stage ≡ (s.handlers k).stage

  put_other : (x : Handler) (s : State) → Stands s (put h x s)
  put_other x s = rw (ne_eqb k h apart) refl

  fail_other : (why : Cause) (s : State) → Stands s (fail h why s)
  fail_other why s = rw (ne_eqb k h apart) (ended_stage _ (told _ (s.handlers k)) ∙ told_stage _ (s.handlers k))

  awaits_other : (b : Bool) (j : ℕ) (s : State) → Stands s (awaits_if b h j s)
  awaits_other false j s = refl
  awaits_other true j s = put_other (record (s.handlers h) { stage = Awaits j false }) s

  sends_other : (j : ℕ) (r : Request) (passing waits : Bool) (s : State) → Stands s (sends h j r passing waits s)
  sends_other j r passing waits s =
      let p = posted (record r { is_waited = waits }) (passed_if passing h s.rights) in
      let s1 = awaits_if waits h j s in
      let s2 = send (is_callback h j s) j p s1 in
      passed_stage passing h j s2 k ∙ sent_stage (is_callback h j s) j p s1 k ∙ awaits_other waits j s

  asks_other : (r : Request) (passing : Bool) (s : State) → Stands s (asks h r passing s)
  asks_other r passing s =
      let j = r.target.handler in
      by_test (Stands s) (is_some (s.handlers j).failure) (fail h cause.SupplierFailed s) _ (λ e. fail_other cause.SupplierFailed s)
      (λ e. by_test (Stands s) (not (is_callback h j s) && not (nat_lt (length (s.handlers j).queue) max_queue)) (fail h cause.QueueFull s) _
      (λ e. fail_other cause.QueueFull s) (λ e. sends_other j r passing (passing || r.is_waited || is_callback h j s) s))

  -- a handler that is created is another one
  handler_other : (s : State) → k < s.count → Stands s (with_handler s.count h s)
  handler_other s less =
      ap (λ (b : Bool). (if b then new_handler else s.handlers k).stage) (ne_eqb k s.count (λ e. absurd (omega (arith, e, less))))

  creates_other : (class : ℕ) (procedure : Option ℕ) (actuals : ArrayVec Value) (passing : Bool) (s : State) → k < s.count →
      Stands s (creates most h class procedure actuals passing s)
  creates_other class procedure actuals true s less =
      let j = s.count in
      let s1 = with_handler j h s in
      let x = record (s1.handlers h) { stage = Awaits j true } in
      let p = posted (creation h j class procedure actuals true) (passed_if true h s1.rights) in
      by_test (Stands s) (nat_lt s.count most) _ (fail h cause.TooManyHandlers s)
      (λ e. passed_stage true h j (send false j p (put h x s1)) k ∙ sent_stage false j p (put h x s1) k ∙ put_other x s1 ∙ handler_other s less)
      (λ e. fail_other cause.TooManyHandlers s)
  creates_other class procedure actuals false s less =
      let j = s.count in
      let s1 = with_handler j h s in
      let x = record (s1.handlers h) { stage = HasMade j } in
      let p = posted (creation h j class procedure actuals false) None in
      by_test (Stands s) (nat_lt s.count most) _ (fail h cause.TooManyHandlers s)
      (λ e. released_stage release_at.Creation (j ∷ []) (send false j p (put h x s1)) k ∙ sent_stage false j p (put h x s1) k ∙ put_other x s1 ∙ handler_other s less)
      (λ e. fail_other cause.TooManyHandlers s)

  ends_other : (refused : Bool) (v : Option Value) (ks : List ℕ) (es : List Service) (s : State) → Stands s (ends h v ks refused es s)
  ends_other refused v ks [] s = fail_other cause.BadCode s
  ends_other false v ks (e ∷ es) s =
      let s1 = put h (record (s.handlers h) { stage = e.over; services = es }) s in
      finished_stage e.posted (Replied v) (release release_at.Exit ks s1) k ∙ released_stage release_at.Exit ks s1 k
      ∙ put_other (record (s.handlers h) { stage = e.over; services = es }) s
  ends_other true v ks (e ∷ es) s =
      let x = counted_refusal e.posted.request.is_waited (record (s.handlers h) { stage = e.over; services = es }) in
      let s1 = put h x s in
      finished_stage e.posted Refused (release release_at.Refusal ks s1) k ∙ released_stage release_at.Refusal ks s1 k ∙ put_other x s

  done_other : (a : Want) (s : State) → k < s.count → Stands s (done most h a s)
  done_other want.Continue s less = refl
  done_other (want.Reserve ks) s less = put_other (record (s.handlers h) { stage = Reserves ks.items []; entry = ks.items }) s
  done_other (want.Post q) s less = asks_other q false s
  done_other (want.Ask q passing) s less = asks_other q passing s
  done_other (want.Create class procedure actuals passing) s less = creates_other class procedure actuals passing s less
  done_other (want.Release ks) s less = released_stage release_at.Leave ks.items s k
  done_other (want.Wait ks) s less =
      let x = record (s.handlers h) { stage = Reserves (s.handlers h).entry (mark_of (λ j. (s.handlers j).sessions) ks.items) } in
      released_stage release_at.FalseWaitCondition ks.items (put h x s) k ∙ put_other x s
  done_other (want.Done v ks refused) s less = ends_other refused v ks.items (s.handlers h).services s
  done_other (want.Fail why) s less = fail_other why s

  asked_other : (fits : Bool) (a : Want) (s : State) → k < s.count → Stands s (asked_in fits most h a s)
  asked_other fits a s less = by (posts_unheld h a s) (fits && may_ask h a s)
    where
      by : (b c : Bool) → Stands s (done_if b c most h a s)
      by true c = fail_other cause.NotHeld s
      by false true = done_other a s less
      by false false = fail_other cause.BadCode s

  -- ---- the job begins

  made_other : (t : HandlerStage) (s : State) → Stands s (made_at h t s)
  made_other Idle s = put_other (record (s.handlers h) { stage = Runs }) s
  made_other Runs s = put_other (record (s.handlers h) { stage = Runs }) s
  made_other (HasMade j) s = put_other (record (s.handlers h) { stage = Runs }) s
  made_other (Reserves ks mark) s = put_other (record (s.handlers h) { stage = Runs }) s
  made_other (Awaits j b) s = released_stage release_at.Creation (j ∷ []) (put h (takes_answer (s.handlers h)) s) k ∙ put_other (takes_answer (s.handlers h)) s

  made_count : (t : HandlerStage) (s : State) → (made_at h t s).count ≡ s.count
  made_count Idle s = refl
  made_count Runs s = refl
  made_count (HasMade j) s = refl
  made_count (Reserves ks mark) s = refl
  made_count (Awaits j b) s = refl

  begun_other : (j : Job) (s : State) → Stands s (begun h j s)
  begun_other (job.Take r) s = put_other (takes (s.handlers h).stage (s.handlers h)) s
  begun_other (job.Reply v) s = put_other (takes_answer (s.handlers h)) s
  begun_other job.Failed s = refl
  begun_other job.Refused s = refl
  begun_other (job.Granted ks) s = put_other (record (s.handlers h) { stage = Runs }) s
  begun_other (job.Made j) s = made_other (s.handlers h).stage s
  begun_other job.Go s = refl

  begun_count : (j : Job) (s : State) → (begun h j s).count ≡ s.count
  begun_count (job.Take r) s = refl
  begun_count (job.Reply v) s = refl
  begun_count job.Failed s = refl
  begun_count job.Refused s = refl
  begun_count (job.Granted ks) s = refl
  begun_count (job.Made j) s = made_count (s.handlers h).stage s
  begun_count job.Go s = refl

  -- A settlement leaves it so.
  pub stepped_other : (n : Numbering) (sys : System) (w : machine.World) (j : Option Job) (c : State) → k < c.count → Stands c (stepped most n sys h w j c)
  stepped_other n sys w None c less = refl
  stepped_other n sys w (Some j) c less =
      let a = asked n sys h j (w.handlers h) in
      asked_other (fits_turns 1 (c.handlers h).stage j a) a (begun h j c) (subst (λ (m : ℕ). k < m) (sym (begun_count j c)) less) ∙ begun_other j c

-- The half of any other handler stays that.
pub others_keep_halves : OthersKeepHalves
others_keep_halves most n s h k w c x half apart less given =
    subst (λ (t : HandlerStage). IsRegionHalf k ((turn most s h w).handlers k) t x)
    (sym (stepped_other most h k apart n s w (job_of h c) c (subst (λ (m : ℕ). k < m) (sym half.count) less)))
    (half_alike k (c.handlers k).stage (w.handlers k) _ x ((turn_leads most s h w).others k less apart) given)
