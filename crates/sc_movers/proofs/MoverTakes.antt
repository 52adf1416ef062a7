-- The turn of an uncontested handler that takes a request makes a move, and in the turn of another handler it stays a mover.
use Rattle.std.proofs.Common.{◌≡◌, ◌∙◌, ◌<◌, ◌≤◌, ◌==◌, ◌&&◌, ◌||◌, not, ℕ, Bool, true, false, List, [], ◌∷◌, ◌++◌, Option, Some, None, map, refl, sym, ap, arith}
use Rattle.std.proofs.lemmas.Bool.{eq-eqb, eqb-true, lt-ltb, ltb-true, ne_eqb}
use Rattle.std.proofs.lemmas.List.Folds.{list_any-append}
use Rattle.std.specs.Prelude.{if◌then◌else◌, nat_lt}
use Rattle.std.specs.List.{list_any}
use Rattle.std.specs.Option.{is_none}
use Rattle.sc_lockpass.specs.Rights.{is_handler, lost_by}
use Rattle.sc_lockpass.specs.Passing.{Passed}
use Rattle.sc_lockpass.specs.wait_conditions.Reservations.{ends_session, is_idle, may_be_reserved}
use Rattle.sc_lockpass.specs.declared.wait_conditions.session.Release.TheVariants as release_at
use Rattle.sc_model.specs.declared.cause.Cause.{Cause}
use Rattle.sc_region.specs.declared.job.Job.{Job}
use Rattle.sc_region.specs.declared.job.Job.TheVariants as job
use Rattle.sc_region.specs.declared.job.Request.{Request}
use Rattle.sc_region.specs.declared.job.Want.{Want}
use Rattle.sc_region.specs.declared.job.Want.TheVariants.{Continue, Reserve, Post, Ask, Create, Release, Wait, Done, Fail}
use Rattle.sc_handler.specs.Changes.{fallen, is_waited_by, requests_at, takes, takes_next, to_list, told}
use Rattle.sc_handler.specs.Fits.{is_none_of, may_take}
use Rattle.sc_handler.specs.Handlers.{Answer, Replied, Posted, Idle, Runs, Reserves, Handler, HandlerStage, Service, State, has_frames, has_requests, put, service, standing_in}
use Rattle.sc_handler.specs.Picking.{job_at, job_idle, job_of}
use Rattle.sc_request.specs.Sessions.{answer_to, fail, finish, release, return_rights}
use Rattle.sc_request.specs.Settling.{are_handlers, begun, done_if, ends, may_ask, may_post_to_all, posts_unheld, settled}
use Rattle.sc_refines_world.proofs.OtherStages.{HasJob, has_job}
use Rattle.sc_movers.specs.Movers.{is_mover_under, is_next_plain, is_uncontested, is_uncontested_by, takes_first}
use Rattle.sc_movers.specs.Returned.{UnlentWait, is_unlent_of, waits_unlent}
use Rattle.sc_movers.proofs.ChangedStates.{changed, same_states, true_false}
use Rattle.sc_movers.proofs.ChangedTurns.{and_left, and_right}
use Rattle.sc_movers.proofs.ChangedJobs.{all_then}
use Rattle.sc_movers.proofs.ChangedKept.{OwnStays, ended_queue, told_queue}
use Rattle.sc_movers.proofs.MoveChanges.{Heard, Move, Stand, change, is_hearer, or_left, stands_as, takes_as, without_next}
use Rattle.sc_movers.proofs.MoverEnds.{IsOpen, open_is, told_only}
use Rattle.sc_movers.proofs.MoverStates.{answers_it, deaf, handler_is, heard_by, hearer_by, if_done, no_frames, no_passed, same_heard}

-- ---- the move

-- where the handler stands once it has taken the first of these, if it wants this
abbrev pub stand_then : Want → List ℕ → List Service → List Posted → Option Stand
stand_then w entry services [] = None
stand_then (Reserve ks) entry services (q ∷ qs) =
    Some (record { stage = Reserves ks.items []; entry = ks.items; services = service q Idle ∷ services })
stand_then (Done v ks refused) entry services (q ∷ qs) = Some (record { stage = Idle; entry = entry; services = services })
stand_then w entry services (q ∷ qs) = Some (record { stage = Runs; entry = entry; services = service q Idle ∷ services })

-- what is answered if the first of these ends with this
abbrev pub heard_next : Answer → List Posted → (ℕ → Bool) → Option Heard
heard_next a [] deafs = None
heard_next a (q ∷ qs) deafs = heard_by q.request.is_waited q.request.poster a deafs

abbrev pub heard_then : Want → List Posted → (ℕ → Bool) → Option Heard
heard_then (Done v ks refused) ps deafs = heard_next (Replied v) ps deafs
heard_then w ps deafs = None

abbrev pub taking : Option Stand → Option Heard → Move
taking o a = record { takes = true; stand = o; ends = false; frees = []; sent = None; answers = a }

-- the move of a handler that takes the first of these, if it has this entry, serves these, and some are deaf
abbrev pub take_of : Want → List ℕ → List Service → List Posted → (ℕ → Bool) → Move
take_of w entry services queue deafs = taking (stand_then w entry services queue) (heard_then w queue deafs)

-- the move of the handler in the state
abbrev pub take_in : ℕ → Want → State → Move
take_in g w s = take_of w (s.handlers g).entry (s.handlers g).services (s.handlers g).queue (deaf s)

-- ---- what is known of a mover that takes a request

pub record TakesSo (g : ℕ) (r : Request) (w : Want) (s : State) : Type 0 where
  pub idle : (s.handlers g).stage ≡ Idle
  pub next : Posted
  pub rest : List Posted
  pub queue : (s.handlers g).queue ≡ next ∷ rest
  pub is_next : next.request ≡ r
  pub uncontested : is_uncontested g s ≡ true
  pub first : takes_first g w s ≡ true
  pub there : g < s.count
  pub alive : (s.handlers g).failure ≡ None

pub takes_so : (g : ℕ) (r : Request) (w : Want) (s : State) → job_of g s ≡ Some (job.Take r) → is_mover_under g (job.Take r) w s ≡ true → TakesSo g r w s
takes_so g r w s due moves = by (s.handlers g).queue refl (sym (ap (λ (t : HandlerStage). job_at g t (s.handlers g) s) idle) ∙ has.due)
  where
    has : HasJob g s (job.Take r)
    has = has_job g s (job.Take r) due

    frames : Bool
    frames = has_frames (s.handlers g).stage

    idle : (s.handlers g).stage ≡ Idle
    idle = no_frames (s.handlers g).stage (and_left (not frames) (is_uncontested g s) (and_left (not frames && is_uncontested g s) (takes_first g w s) moves))

    taken_same : (a b : Request) → Some (job.Take a) ≡ Some (job.Take b) → a ≡ b
    taken_same a b e = cc

    by : (ps : List Posted) → (s.handlers g).queue ≡ ps → job_idle (s.handlers g).queue ≡ Some (job.Take r) → TakesSo g r w s
    by [] queue e = let no : None ≡ Some (job.Take r) = sym (ap job_idle queue) ∙ e in cc
    by (q ∷ qs) queue e = record {
      idle = idle;
      next = q;
      rest = qs;
      queue = queue;
      is_next = taken_same q.request r (sym (ap job_idle queue) ∙ e);
      uncontested = and_right (not frames) (is_uncontested g s) (and_left (not frames && is_uncontested g s) (takes_first g w s) moves);
      first = and_right (not frames && is_uncontested g s) (takes_first g w s) moves;
      there = has.there;
      alive = has.stands;
    }

-- with requests it can't be reserved
pub takes_busy : (g : ℕ) (r : Request) (w : Want) (s : State) → TakesSo g r w s → may_be_reserved (standing_in s g) (s.rights.queue g) ≡ false
takes_busy g r w s so =
    ap (λ (ps : List Posted). (is_idle (standing_in s g) && not (has_requests ps)) && is_none (s.rights.queue g)) so.queue
    ∙ never (is_idle (standing_in s g)) (is_none (s.rights.queue g))
  where
    never : (a b : Bool) → ((a && false) && b) ≡ false
    never true b = refl
    never false b = refl

-- who waits unlent for one of its queue
queue_unlent : (p g : ℕ) (s : State) → list_any (is_unlent_of p) (s.handlers g).queue ≡ true → waits_unlent p g s ≡ true
queue_unlent p g s e =
    let x : Handler = s.handlers g in
    let P : Posted → Bool = is_unlent_of p in
    list_any-append P (x.queue ++ to_list x.callback) (map (λ (v : Service). v.posted) x.services)
    ∙ or_left (list_any P (x.queue ++ to_list x.callback)) (list_any P (map (λ (v : Service). v.posted) x.services))
    (list_any-append P x.queue (to_list x.callback) ∙ or_left (list_any P x.queue) (list_any P (to_list x.callback)) e)

-- Another handler that may post to it, and has something to do, is told that a supplier has failed.
pub holder_fails : (g : ℕ) (r : Request) (w : Want) (s : State) → TakesSo g r w s → UnlentWait s → (h : ℕ) (j : Job) → (h ≡ g → ⊥) → job_of h s ≡ Some j →
    is_handler h (s.rights.queue g) ≡ true → j ≡ job.Failed
holder_fails g r w s so unlent h j apart due its =
    (told_only h g s j ((unlent h g lent).1 (has_job h s j due).stands) due).0
  where
    among : (list_any (is_unlent_of h) (s.handlers g).queue) ≡ true
    among =
        ap (λ (b : Bool). b || list_any (is_unlent_of h) (s.handlers g).queue) (sym (ne_eqb h g apart))
        ∙ ap (λ (o : Option ℕ). is_uncontested_by g o (s.handlers g).queue) (sym (handler_is h (s.rights.queue g) its)) ∙ so.uncontested

    lent : waits_unlent h g s ≡ true
    lent = queue_unlent h g s among

-- ---- the move is what its turn makes

module _ (g : ℕ) (r : Request) (w : Want) (s : State) (so : TakesSo g r w s) where
  abbrev x : Handler
  x = s.handlers g

  abbrev q : Posted
  q = so.next

  -- the handler once the request is taken
  abbrev y : Handler
  y = record x { queue = so.rest; services = service q Idle ∷ x.services; stage = Runs }

  abbrev taken : State
  taken = put g y s

  begins : begun g (job.Take r) s ≡ taken
  begins =
      ap (λ (t : HandlerStage). put g (takes t x) s) so.idle
      ∙ ap (λ (ps : List Posted). put g (takes_next ps x) s) so.queue
      ∙ ap (λ (t : HandlerStage). put g (record x { queue = so.rest; services = service q t ∷ x.services; stage = Runs }) s) so.idle

  own_is : taken.handlers g ≡ y
  own_is = ap (λ (b : Bool). if b then y else x) (eq-eqb g g refl)

  put_twice : (u : Handler → Handler) → put g (u (taken.handlers g)) taken ≡ put g (u y) s
  put_twice u =
      ap (λ (z : Handler). put g (u z) taken) own_is
      ∙ same_states (put g (u y) taken) (put g (u y) s) refl (λ k. by (k == g) (u y) (s.handlers k)) (λ k. refl) (λ k. refl)
    where
      by : (b : Bool) (z a : Handler) → (if b then z else (if b then y else a)) ≡ (if b then z else a)
      by true z a = refl
      by false z a = refl

  -- it stands so
  stands_so : (o : Stand) (k : ℕ) → (b : Bool) → (k == g) ≡ b →
      (if b then (record x { queue = so.rest; stage = o.stage; entry = o.entry; services = o.services }) else s.handlers k)
      ≡ takes_as b (stands_as (if b then Some o else None) (s.handlers k))
  stands_so o k true e =
      ap (λ (ps : List Posted). record x { queue = ps; stage = o.stage; entry = o.entry; services = o.services }) (sym (ap without_next so.queue))
      ∙ ap (λ (m : ℕ). takes_as true (stands_as (Some o) (s.handlers m))) (sym (eqb-true k g e))
  stands_so o k false e = refl

  moves_as : (o : Stand) → put g (record x { queue = so.rest; stage = o.stage; entry = o.entry; services = o.services }) s ≡ changed (change g (taking (Some o) None)) s
  moves_as o = same_states _ (changed (change g (taking (Some o) None)) s) refl (λ k. stands_so o k (k == g) refl) (λ k. refl) (λ k. refl)

  abbrev Moves : List Posted → State → Type 0
  Moves ps t = t ≡ changed (change g (take_of w x.entry x.services ps (deaf s))) s

  -- what is asked then
  none_of : (ks : List ℕ) → is_none_of ks ≡ true → ks ≡ []
  none_of [] e = refl
  none_of (k ∷ ks) e = true_false (sym e)

  comes : (most : ℕ) (v : Want) → takes_first g v s ≡ true →
      done_if (posts_unheld g v taken) (may_take v && may_ask g v taken) most g v taken ≡ changed (change g (take_of v x.entry x.services (q ∷ so.rest) (deaf s))) s
  comes most Continue e = moves_as (record { stage = Runs; entry = x.entry; services = service q Idle ∷ x.services })
  comes most (Reserve ks) e =
      if_done g taken false (are_handlers ks.items s) most (Reserve ks) refl e
      ∙ put_twice (λ (z : Handler). record z { stage = Reserves ks.items []; entry = ks.items })
      ∙ moves_as (record { stage = Reserves ks.items []; entry = ks.items; services = service q Idle ∷ x.services })
  comes most (Done v ks true) e = true_false (sym e)
  comes most (Done v ks false) e =
      let none = none_of ks.items (and_left (is_none_of ks.items) (is_next_plain x.queue) e) in
      let o : Stand = record { stage = Idle; entry = x.entry; services = x.services } in
      let z : Handler = record x { queue = so.rest; stage = Idle; services = x.services } in
      let over : State = release release_at.Exit [] (put g z s) in
      if_done g taken false (is_none_of ks.items && may_post_to_all g ks.items taken) most (Done v ks false) refl
      (ap (λ (ls : List ℕ). is_none_of ls && may_post_to_all g ls taken) none)
      ∙ ap (λ (ls : List ℕ). ends g v ls false (taken.handlers g).services taken) none
      ∙ ap (λ (a : Handler). ends g v [] false a.services taken) own_is
      ∙ ap (λ (t : State). finish q (Replied v) (release release_at.Exit [] t)) (put_twice (λ (a : Handler). record a { stage = Idle; services = x.services }))
      ∙ ap (λ (p : Option Passed). answer_to q.request.is_waited q.request.poster (Replied v) (return_rights p over))
      (no_passed q.passed (sym (ap is_next_plain so.queue) ∙ and_right (is_none_of ks.items) (is_next_plain x.queue) e))
      ∙ answers_it g (taking (Some o) None) false v s over refl (λ k. refl) (λ k. refl) (λ k. stands_so o k (k == g) refl) q.request.is_waited q.request.poster
  comes most (Post a) e = true_false (sym e)
  comes most (Ask a passes) e = true_false (sym e)
  comes most (Create class procedure actuals passes) e = true_false (sym e)
  comes most (Release ks) e = true_false (sym e)
  comes most (Wait ks) e = true_false (sym e)
  comes most (Fail why) e = true_false (sym e)

  pub take_moves : (most : ℕ) → settled most g (job.Take r) 1 w s ≡ changed (change g (take_in g w s)) s
  take_moves most =
      ap (λ (t : State). done_if (posts_unheld g w t) (may_take w && may_ask g w t) most g w t) begins
      ∙ comes most w so.first
      ∙ ap (λ (ps : List Posted). changed (change g (take_of w x.entry x.services ps (deaf s))) s) (sym so.queue)

-- ---- who hears of it

-- it waits for the request that is taken, with which nothing was passed
next_waits : (g : ℕ) (s : State) (q : Posted) (qs : List Posted) → (s.handlers g).queue ≡ q ∷ qs → is_next_plain (s.handlers g).queue ≡ true →
    (p : ℕ) → q.request.is_waited ≡ true → q.request.poster ≡ Some p → waits_unlent p g s ≡ true
next_waits g s q qs queue plain p waited poster =
    queue_unlent p g s (
    ap (list_any (is_unlent_of p)) queue
    ∙ or_left (is_unlent_of p q) (list_any (is_unlent_of p) qs) (
    ap (λ (b : Bool). (b && is_handler p q.request.poster) && is_none q.passed) waited
    ∙ ap (λ (o : Option ℕ). is_handler p o && is_none q.passed) poster
    ∙ ap (λ (b : Bool). b && is_none q.passed) (eq-eqb p p refl)
    ∙ sym (ap is_next_plain queue) ∙ plain))

pub take_hears : (g : ℕ) (r : Request) (w : Want) (s : State) → TakesSo g r w s → (k : ℕ) → is_hearer k (take_in g w s).answers ≡ true →
    IsOpen k s × (waits_unlent k g s ≡ true)
take_hears g r w s so k i = by w so.first i
  where
    by : (v : Want) → takes_first g v s ≡ true → is_hearer k (heard_then v (s.handlers g).queue (deaf s)) ≡ true → IsOpen k s × (waits_unlent k g s ≡ true)
    by (Done v ks true) e i = true_false (sym e)
    by (Done v ks false) e i =
        let its = hearer_by so.next.request.is_waited so.next.request.poster (Replied v) (deaf s) k
        (sym (ap (λ (ps : List Posted). is_hearer k (heard_next (Replied v) ps (deaf s))) so.queue) ∙ i) in (
          open_is k s its.2,
          next_waits g s so.next so.rest so.queue (and_right (is_none_of ks.items) (is_next_plain (s.handlers g).queue) e) k its.0 its.1,
        )
    by Continue e i = true_false (sym i)
    by (Reserve ks) e i = true_false (sym i)
    by (Post a) e i = true_false (sym e)
    by (Ask a passes) e i = true_false (sym e)
    by (Create class procedure actuals passes) e i = true_false (sym e)
    by (Release ks) e i = true_false (sym e)
    by (Wait ks) e i = true_false (sym e)
    by (Fail why) e i = true_false (sym e)

-- ---- it stays so

-- what stays of the handler in the turn of another one
pub record TakeStays (g : ℕ) (s t : State) : Type 0 where
  pub more : s.count ≤ t.count
  pub own : OwnStays (s.handlers g) (t.handlers g)
  pub stage : (t.handlers g).stage ≡ (s.handlers g).stage
  pub queue : (t.handlers g).queue ≡ (s.handlers g).queue
  pub uncontested : is_uncontested g t ≡ true

module _ (g : ℕ) (r : Request) (w : Want) (s t : State) (so : TakesSo g r w s) (stays : TakeStays g s t) where
  pub still_takes : is_mover_under g (job.Take r) w t ≡ true
  still_takes =
      ap (λ (a : HandlerStage). (not (has_frames a) && is_uncontested g t) && takes_first g w t) (stays.stage ∙ so.idle)
      ∙ ap (λ (b : Bool). b && takes_first g w t) stays.uncontested
      ∙ by w so.first
    where
      by : (v : Want) → takes_first g v s ≡ true → takes_first g v t ≡ true
      by Continue e = refl
      by (Reserve ks) e =
          all_then (λ (k : ℕ). nat_lt k s.count) (λ (k : ℕ). nat_lt k t.count) ks.items
          (λ k i. let less = ltb-true k s.count i in let more = stays.more in lt-ltb k t.count (omega (arith, less, more))) e
      by (Done v ks true) e = true_false (sym e)
      by (Done v ks false) e = ap (λ (ps : List Posted). is_none_of ks.items && is_next_plain ps) stays.queue ∙ e
      by (Post a) e = true_false (sym e)
      by (Ask a passes) e = true_false (sym e)
      by (Create class procedure actuals passes) e = true_false (sym e)
      by (Release ks) e = true_false (sym e)
      by (Wait ks) e = true_false (sym e)
      by (Fail why) e = true_false (sym e)

  -- its move changes the same, though some got deaf meanwhile
  pub same_take : ((p : ℕ) → waits_unlent p g s ≡ true → deaf s p ≡ true → deaf t p ≡ true) → changed (change g (take_in g w t)) t ≡ changed (change g (take_in g w s)) t
  same_take deafs =
      ap (λ (es : List ℕ). changed (change g (take_of w es (t.handlers g).services (t.handlers g).queue (deaf t))) t) stays.own.1
      ∙ ap (λ (vs : List Service). changed (change g (take_of w (s.handlers g).entry vs (t.handlers g).queue (deaf t))) t) stays.own.0
      ∙ ap (λ (ps : List Posted). changed (change g (take_of w (s.handlers g).entry (s.handlers g).services ps (deaf t))) t) (stays.queue ∙ so.queue)
      ∙ by w so.first
      ∙ ap (λ (ps : List Posted). changed (change g (take_of w (s.handlers g).entry (s.handlers g).services ps (deaf s))) t) (sym so.queue)
    where
      its : Want → (ℕ → Bool) → State
      its v ds = changed (change g (take_of v (s.handlers g).entry (s.handlers g).services (so.next ∷ so.rest) ds)) t

      by : (v : Want) → takes_first g v s ≡ true → its v (deaf t) ≡ its v (deaf s)
      by (Done v ks true) e = true_false (sym e)
      by (Done v ks false) e =
          same_heard g (taking (Some (record { stage = Idle; entry = (s.handlers g).entry; services = (s.handlers g).services })) None) false v s t so.next.request.is_waited so.next.request.poster
          (λ p waited poster. deafs p (next_waits g s so.next so.rest so.queue (and_right (is_none_of ks.items) (is_next_plain (s.handlers g).queue) e) p waited poster))
      by Continue e = refl
      by (Reserve ks) e = refl
      by (Post a) e = refl
      by (Ask a passes) e = refl
      by (Create class procedure actuals passes) e = refl
      by (Release ks) e = refl
      by (Wait ks) e = refl
      by (Fail why) e = refl

-- ---- the other one fails

-- Nobody may post to it then, or who might before.
module _ (g h : ℕ) (why : Cause) (s : State) (apart : g ≡ h → ⊥) where
  pub fallen_queue : ((fail h why s).handlers g).queue ≡ (s.handlers g).queue
  fallen_queue =
      ended_queue (ends_session release_at.Failure && is_handler h (s.rights.queue g)) (after (g == h))
      ∙ ap (λ (b : Bool). (after b).queue) (ne_eqb g h apart) ∙ told_queue waits (s.handlers g)
    where
      waits : Bool
      waits = list_any (is_waited_by g) (requests_at (s.handlers h))

      after : Bool → Handler
      after b = if b then fallen why (s.handlers g) else told waits (s.handlers g)

  pub fallen_uncontested : is_uncontested g s ≡ true → is_uncontested g (fail h why s) ≡ true
  fallen_uncontested e = ap (is_uncontested_by g (lost_by h (s.rights.queue g))) fallen_queue ∙ by (s.rights.queue g) e
    where
      by : (o : Option ℕ) → is_uncontested_by g o (s.handlers g).queue ≡ true → is_uncontested_by g (lost_by h o) (s.handlers g).queue ≡ true
      by None e = refl
      by (Some p) e = either (p == h)
        where
          either : (b : Bool) → is_uncontested_by g (if b then None else Some p) (s.handlers g).queue ≡ true
          either true = refl
          either false = e
