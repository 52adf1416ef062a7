-- The turn of a mover by its job: it goes on, or takes a request. In the turn of another handler it keeps that.
use Rattle.std.proofs.Common.{◌≡◌, ◌∙◌, inl, inr, ◌<◌, ◌≤◌, ◌==◌, ◌&&◌, ◌||◌, not, ℕ, Bool, true, false, Option, Some, None, refl, sym, ap, subst, arith}
use Rattle.std.specs.Prelude.{is_some}
use Rattle.std.proofs.lemmas.Bool.{cases_lt, eq-eqb, eqb-true, ne_eqb}
use Rattle.std.specs.Option.{is_none}
use Rattle.arrayvec.specs.ArrayVec.{ArrayVec}
use Rattle.sc_lockpass.specs.Rights.{is_among, is_handler}
use Rattle.sc_lockpass.specs.wait_conditions.Reservations.{is_idle, may_be_reserved}
use Rattle.sc_model.specs.declared.cause.Cause.{Cause}
use Rattle.sc_region.specs.declared.job.Job.{Job}
use Rattle.sc_region.specs.declared.job.Job.TheVariants as job
use Rattle.sc_region.specs.declared.job.Request.{Request}
use Rattle.sc_region.specs.declared.job.Want.{Want}
use Rattle.sc_handler.specs.Handlers.{Idle, Runs, HandlerStage, State, has_frames, has_requests, standing_in}
use Rattle.sc_handler.specs.Picking.{job_idle, job_of}
use Rattle.sc_request.specs.Logs.{granted}
use Rattle.sc_request.specs.Sessions.{fail}
use Rattle.sc_request.specs.Settling.{settled}
use Rattle.sc_refines_world.proofs.OtherStages.{OthersStay, go_runs, has_job, job_there}
use Rattle.sc_movers.specs.Movers.{is_mover_under, is_uncontested_by}
use Rattle.sc_movers.specs.Returned.{IdleHasNoTop, UnlentWait, waits_unlent}
use Rattle.sc_movers.proofs.ChangedStates.{Apart, FreesNone, changed, true_false}
use Rattle.sc_movers.proofs.ChangedJobs.{Loosens}
use Rattle.sc_movers.proofs.ChangedKept.{Stay, fails_stay}
use Rattle.sc_movers.proofs.MoveChanges.{AreThere, Move, change, is_closed, is_hearer, is_safe, is_target, loosens, or_left, or_right}
use Rattle.sc_movers.proofs.MoverEnds.{IsOpen, open_is, unlent_there}
use Rattle.sc_movers.proofs.MoverStates.{are_own, deaf, granted_free, hearer_waits, move_in, mover_moves, no_move, only_first, other_is, same_changed, same_move, still_mover}
use Rattle.sc_movers.proofs.MoverTakes.{TakeStays, TakesSo, fallen_queue, fallen_uncontested, holder_fails, same_take, still_takes, take_hears, take_in, take_moves, takes_busy, takes_so}

-- ---- the move

abbrev pub move_by : ℕ → Job → Want → State → Move
move_by g job.Go w s = move_in g w s
move_by g (job.Take r) w s = take_in g w s
move_by g j w s = no_move

running_at : (g : ℕ) (s : State) → job_of g s ≡ Some job.Go → (s.handlers g).stage ≡ Runs
running_at g s goes = let goes_on = has_job g s job.Go goes in go_runs g (s.handlers g).stage (s.handlers g) s goes_on.due

pub moves_by : (g most : ℕ) (j : Job) (w : Want) (s : State) → IdleHasNoTop s → job_of g s ≡ Some j → is_mover_under g j w s ≡ true →
    settled most g j 1 w (record s { rights = granted g j s.rights }) ≡ changed (change g (move_by g j w s)) s
moves_by g most job.Go w s tops due moves = mover_moves g s (running_at g s due) tops most w moves
moves_by g most (job.Take r) w s tops due moves = take_moves g r w s (takes_so g r w s due moves) most
moves_by g most (job.Reply v) w s tops due moves = true_false (sym moves)
moves_by g most job.Failed w s tops due moves = true_false (sym moves)
moves_by g most job.Refused w s tops due moves = true_false (sym moves)
moves_by g most (job.Granted ls) w s tops due moves = true_false (sym moves)
moves_by g most (job.Made k) w s tops due moves = true_false (sym moves)

-- whom it answers waits for that, and hears it
pub hearing_by : (g : ℕ) (j : Job) (w : Want) (s : State) → job_of g s ≡ Some j → is_mover_under g j w s ≡ true → (k : ℕ) → is_hearer k (move_by g j w s).answers ≡ true →
    IsOpen k s × (waits_unlent k g s ≡ true)
hearing_by g job.Go w s due moves k e = let so = hearer_waits g w s k e in (open_is k s so.1, unlent_there g w s moves k so.0)
hearing_by g (job.Take r) w s due moves k e = take_hears g r w s (takes_so g r w s due moves) k e
hearing_by g (job.Reply v) w s due moves k e = true_false (sym moves)
hearing_by g job.Failed w s due moves k e = true_false (sym moves)
hearing_by g job.Refused w s due moves k e = true_false (sym moves)
hearing_by g (job.Granted ls) w s due moves k e = true_false (sym moves)
hearing_by g (job.Made i) w s due moves k e = true_false (sym moves)

-- if it takes a request, it is the only one that is safe
its_only : (g k : ℕ) → ((k == g) || false) ≡ true → k ≡ g
its_only g k e = eqb-true k g (only_first (k == g) e)

pub there_by : (g : ℕ) (j : Job) (w : Want) (s : State) → job_of g s ≡ Some j → is_mover_under g j w s ≡ true → ((k : ℕ) → s.count ≤ k → s.rights.queue k ≡ None) → UnlentWait s →
    AreThere g (move_by g j w s) s
there_by g job.Go w s due moves counted unlent = record {
  there = (has_job g s job.Go due).there;
  few = λ k e. elim (cases_lt k s.count) [
    | inl few ↦ few
    | inr past ↦ let no : Some g ≡ None = sym (are_own g w s moves k e) ∙ counted k past in cc
  ];
  hears = λ k e. (unlent k g (hearing_by g job.Go w s due moves k e).1).0;
}
there_by g (job.Take r) w s due moves counted unlent = record {
  there = (has_job g s (job.Take r) due).there;
  few = λ k e. subst (λ (i : ℕ). i < s.count) (sym (its_only g k e)) (has_job g s (job.Take r) due).there;
  hears = λ k e. (unlent k g (hearing_by g (job.Take r) w s due moves k e).1).0;
}
there_by g (job.Reply v) w s due moves counted unlent = true_false (sym moves)
there_by g job.Failed w s due moves counted unlent = true_false (sym moves)
there_by g job.Refused w s due moves counted unlent = true_false (sym moves)
there_by g (job.Granted ls) w s due moves counted unlent = true_false (sym moves)
there_by g (job.Made i) w s due moves counted unlent = true_false (sym moves)

-- ---- it meets another handler that has something to do

pub other_by : (g : ℕ) (j : Job) (w : Want) (s : State) → is_mover_under g j w s ≡ true → (h : ℕ) (i : Job) → job_of h s ≡ Some i → is_target h (move_by g j w s).sent ≡ false
other_by g job.Go w s moves h i due = other_is g w s moves h i due
other_by g (job.Take r) w s moves h i due = refl
other_by g (job.Reply v) w s moves h i due = refl
other_by g job.Failed w s moves h i due = refl
other_by g job.Refused w s moves h i due = refl
other_by g (job.Granted ls) w s moves h i due = refl
other_by g (job.Made k) w s moves h i due = refl

-- what it releases is its own
pub frees_by : (g : ℕ) (j : Job) (w : Want) (s : State) → is_mover_under g j w s ≡ true → (h : ℕ) → (h ≡ g → ⊥) → FreesNone h (change g (move_by g j w s)) s
frees_by g job.Go w s moves h apart k e =
    let m : Move = move_in g w s in
    ap (is_handler h) (are_own g w s moves k (or_left (is_among k m.frees) (is_closed g m k) e)) ∙ ne_eqb g h (λ i. apart (sym i))
frees_by g (job.Take r) w s moves h apart k e = true_false (sym e)
frees_by g (job.Reply v) w s moves h apart k e = true_false (sym e)
frees_by g job.Failed w s moves h apart k e = true_false (sym e)
frees_by g job.Refused w s moves h apart k e = true_false (sym e)
frees_by g (job.Granted ls) w s moves h apart k e = true_false (sym e)
frees_by g (job.Made i) w s moves h apart k e = true_false (sym e)

-- it may not be reserved itself
running_busy : (g : ℕ) (s : State) → (s.handlers g).stage ≡ Runs → may_be_reserved (standing_in s g) (s.rights.queue g) ≡ false
running_busy g s running =
    ap (λ (t : HandlerStage). ((not (has_frames t) && not (is_some (s.handlers g).failure)) && not (has_requests (s.handlers g).queue)) && is_none (s.rights.queue g)) running

pub loosens_by : (g : ℕ) (j : Job) (w : Want) (s : State) → job_of g s ≡ Some j → is_mover_under g j w s ≡ true → Loosens (change g (move_by g j w s)) s
loosens_by g job.Go w s due moves =
    let m : Move = move_in g w s in
    loosens g m s (λ k e. are_own g w s moves k (or_right (is_among k m.frees) (is_closed g m k) (or_right (m.takes && k == g) (is_target k m.sent) e))) (running_busy g s (running_at g s due))
loosens_by g (job.Take r) w s due moves =
    loosens g (take_in g w s) s (λ k e. true_false (sym e)) (takes_busy g r w s (takes_so g r w s due moves))
loosens_by g (job.Reply v) w s due moves = true_false (sym moves)
loosens_by g job.Failed w s due moves = true_false (sym moves)
loosens_by g job.Refused w s due moves = true_false (sym moves)
loosens_by g (job.Granted ls) w s due moves = true_false (sym moves)
loosens_by g (job.Made i) w s due moves = true_false (sym moves)

-- Either the other one has no right to post to those that are safe, and reserves none of them; or the mover takes a request, and the
-- other one is told that a supplier has failed.
pub data Meeting (g h : ℕ) (j i : Job) (w : Want) (s : State) : Type 0 where
  StaysOff : Apart h (is_safe g (move_by g j w s)) s →
      ((ls : ArrayVec ℕ) → job_of h s ≡ Some (job.Granted ls) → (k : ℕ) → is_safe g (move_by g j w s) k ≡ true → is_among k ls.items ≡ false) → Meeting g h j i w s
  Falls : (r : Request) → j ≡ job.Take r → i ≡ job.Failed → Meeting g h j i w s

-- who can't be reserved isn't among those that the other one reserves
none_granted : (h : ℕ) (s : State) (ls : ArrayVec ℕ) (k : ℕ) → job_of h s ≡ Some (job.Granted ls) → may_be_reserved (standing_in s k) (s.rights.queue k) ≡ false → is_among k ls.items ≡ false
none_granted h s ls k due busy = by (is_among k ls.items) refl
  where
    by : (b : Bool) → is_among k ls.items ≡ b → is_among k ls.items ≡ false
    by true e = true_false (sym (granted_free h s (job.Granted ls) due k e) ∙ busy)
    by false e = e

held_busy : (g k : ℕ) (s : State) → s.rights.queue k ≡ Some g → may_be_reserved (standing_in s k) (s.rights.queue k) ≡ false
held_busy g k s its = ap (may_be_reserved (standing_in s k)) its ∙ never (is_idle (standing_in s k) && not (standing_in s k).has_requests)
  where
    never : (b : Bool) → (b && false) ≡ false
    never true = refl
    never false = refl

pub meeting : (g h : ℕ) (j i : Job) (w : Want) (s : State) → (h ≡ g → ⊥) → job_of g s ≡ Some j → is_mover_under g j w s ≡ true → AreThere g (move_by g j w s) s → UnlentWait s →
    job_of h s ≡ Some i → Meeting g h j i w s
meeting g h job.Go i w s apart due moves there unlent has =
    StaysOff (record { not_its = λ k e. ap (is_handler h) (are_own g w s moves k e) ∙ ne_eqb g h (λ is. apart (sym is)); few = there.few })
    (λ ls is k e. none_granted h s ls k is (held_busy g k s (are_own g w s moves k e)))
meeting g h (job.Take r) i w s apart due moves there unlent has = by (is_handler h (s.rights.queue g)) refl
  where
    so : TakesSo g r w s
    so = takes_so g r w s due moves

    by : (b : Bool) → is_handler h (s.rights.queue g) ≡ b → Meeting g h (job.Take r) i w s
    by true its = Falls r refl (holder_fails g r w s so unlent h i apart has its)
    by false its =
        StaysOff (record { not_its = λ k e. ap (λ (m : ℕ). is_handler h (s.rights.queue m)) (its_only g k e) ∙ its; few = there.few })
        (λ ls is k e. none_granted h s ls k is (
        ap (λ (m : ℕ). may_be_reserved (standing_in s m) (s.rights.queue m)) (its_only g k e) ∙ takes_busy g r w s so))
meeting g h (job.Reply v) i w s apart due moves there unlent has = true_false (sym moves)
meeting g h job.Failed i w s apart due moves there unlent has = true_false (sym moves)
meeting g h job.Refused i w s apart due moves there unlent has = true_false (sym moves)
meeting g h (job.Granted ls) i w s apart due moves there unlent has = true_false (sym moves)
meeting g h (job.Made k) i w s apart due moves there unlent has = true_false (sym moves)

-- ---- it keeps its job, and stays a mover

pub record Keeps (g : ℕ) (j : Job) (w : Want) (s t : State) : Type 0 where
  pub due : job_of g t ≡ Some j
  pub moves : is_mover_under g j w t ≡ true
  pub same : changed (change g (move_by g j w t)) t ≡ changed (change g (move_by g j w s)) t

module _ (g h : ℕ) (w : Want) (s t : State) (apart : g ≡ h → ⊥) (others : OthersStay h s t) (deafs : (p : ℕ) → waits_unlent p g s ≡ true → deaf s p ≡ true → deaf t p ≡ true) where
  keeps_take : (r : Request) → TakesSo g r w s → TakeStays g s t → Keeps g (job.Take r) w s t
  keeps_take r so stays =
      let there = so.there in
      let more = stays.more in
      record {
        due = job_there g t Idle (job.Take r) (omega (arith, there, more)) ((others.others g apart there).1 ∙ so.alive) (stays.stage ∙ so.idle)
            (ap job_idle (stays.queue ∙ so.queue) ∙ ap (λ (a : Request). Some (job.Take a)) so.is_next);
        moves = still_takes g r w s t so stays;
        same = same_take g r w s t so stays deafs;
      }

  pub keeps_beside : (j : Job) → job_of g s ≡ Some j → is_mover_under g j w s ≡ true → Stay g h (is_safe g (move_by g j w s)) (is_closed g (move_by g j w s)) s t →
      is_target h (move_by g j w s).sent ≡ false → AreThere g (move_by g j w s) s → Keeps g j w s t
  keeps_beside job.Go due moves stays not_target are =
      let on = has_job g s job.Go due in
      let there = on.there in
      let more = stays.more in
      let same = others.others g apart there in
      record {
        due = job_there g t Runs job.Go (omega (arith, there, more)) (same.1 ∙ on.stands) (same.0 ∙ running_at g s due) refl;
        moves = still_mover g h w s t stays others not_target are.few moves;
        same = ap (λ (m : Move). changed (change g m) t) (same_move g h w s t stays others not_target are.few)
            ∙ same_changed g s t w (λ p waits. deafs p (unlent_there g w s moves p waits));
      }
  keeps_beside (job.Take r) due moves stays not_target are =
      let so = takes_so g r w s due moves in
      let its : ((g == g) || false) ≡ true = ap (λ (b : Bool). b || false) (eq-eqb g g refl) in
      let queue = stays.asked g its in
      keeps_take r so (record {
        more = stays.more;
        own = stays.own;
        stage = (others.others g apart so.there).0;
        queue = queue;
        uncontested = ap (λ (o : Option ℕ). is_uncontested_by g o (t.handlers g).queue) (stays.queue g its) ∙ ap (is_uncontested_by g (s.rights.queue g)) queue ∙ so.uncontested;
      })
  keeps_beside (job.Reply v) due moves stays not_target are = true_false (sym moves)
  keeps_beside job.Failed due moves stays not_target are = true_false (sym moves)
  keeps_beside job.Refused due moves stays not_target are = true_false (sym moves)
  keeps_beside (job.Granted ls) due moves stays not_target are = true_false (sym moves)
  keeps_beside (job.Made i) due moves stays not_target are = true_false (sym moves)

-- what stays while the other one fails
pub fallen_stays : (g h : ℕ) (why : Cause) (s : State) → (h ≡ g → ⊥) → g < s.count → Stay g h (λ k. false) (λ k. false) s (fail h why s)
fallen_stays g h why s apart there =
    fails_stay g h s.count (λ k. false) (λ k. false) (λ k. false) apart there refl (λ k e. e) why s (record { not_its = λ k e. true_false (sym e); few = λ k e. true_false (sym e) })

pub keeps_falls : (g h : ℕ) (r : Request) (w : Want) (why : Cause) (s : State) → (h ≡ g → ⊥) → TakesSo g r w s → OthersStay h s (fail h why s) →
    ((p : ℕ) → waits_unlent p g s ≡ true → deaf s p ≡ true → deaf (fail h why s) p ≡ true) → Keeps g (job.Take r) w s (fail h why s)
keeps_falls g h r w why s apart so others deafs =
    let stays = fallen_stays g h why s apart so.there in
    let differ : g ≡ h → ⊥ = λ e. apart (sym e) in
    keeps_take g h w s (fail h why s) differ others deafs r so (record {
      more = stays.more;
      own = stays.own;
      stage = (others.others g differ so.there).0;
      queue = fallen_queue g h why s differ;
      uncontested = fallen_uncontested g h why s differ so.uncontested;
    })
