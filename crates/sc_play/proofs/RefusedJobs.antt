-- A job that memory was refused to, played again.
use Rattle.std.proofs.Common.{◌≡◌, ℕ, Bool, false, refl, sym, ap, ◌∙◌, subst}
use Rattle.sc_region.specs.declared.job.Job.{Job}
use Rattle.sc_region.specs.declared.job.Job.TheVariants as job
use Rattle.sc_region.specs.declared.job.Want.{Want}
use Rattle.sc_region.specs.declared.job.Want.TheVariants as want
use Rattle.sc_region.specs.Stores.{PlainStore}
use Rattle.sc_play.specs.Regions.{IsRefused, PlainRegion, RefusedJobsGoOn, RefusedTwiceIsRefused, tells}
use Rattle.sc_play.specs.Turns.{FirstTurn, IsAhead, StopsFirst, TurnIn, TurnMade, TurnUnder, Turns, begun, first, is_going, more}
use Rattle.sc_play.proofs.Ahead.{goes_on_there, stops_then}
use Rattle.sc_play.proofs.OneObject.{goes_behind}

-- ---- the job has begun

begun_again : (b : Bool) (j : Job) (x : PlainStore) → begun (tells b j) j x ≡ x
begun_again b (job.Made k) x = refl
begun_again b (job.Take r) x = refl
begun_again b (job.Reply v) x = refl
begun_again b job.Failed x = refl
begun_again b job.Refused x = refl
begun_again b (job.Granted ks) x = refl
begun_again b job.Go x = refl

tells_again : (b : Bool) (j : Job) → tells (tells b j) j ≡ tells b j
tells_again b (job.Made k) = refl
tells_again b (job.Take r) = refl
tells_again b (job.Reply v) = refl
tells_again b job.Failed = refl
tells_again b job.Refused = refl
tells_again b (job.Granted ks) = refl
tells_again b job.Go = refl

-- ---- turns

made_behind : (h : ℕ) (x y z : PlainStore) (w : Want) (k : ℕ) → IsAhead x y → TurnUnder h (job.Made k) y z w → TurnUnder h (job.Made k) x z w
made_behind h x y z w k ahead turn =
    subst (λ s. TurnMade s h x z w) (sym ahead.runs)
    (goes_behind h x y z w ahead.leads ahead.remains (subst (λ s. TurnMade s h y z w) (goes_on_there x y ahead) turn))

turn_behind : (h : ℕ) (x y z : PlainStore) (w : Want) → IsAhead x y → TurnUnder h job.Go y z w → TurnUnder h job.Go x z w
turn_behind h x y z w ahead turn =
    subst (λ s. TurnIn s h x z w) (sym ahead.runs)
    (goes_behind h x y z w ahead.leads ahead.remains (subst (λ s. TurnIn s h y z w) (goes_on_there x y ahead) turn))

under_behind : (h : ℕ) (j : Job) (x y z : PlainStore) (w : Want) → StopsFirst (is_going j) x y → TurnUnder h j y z w → TurnUnder h j x z w
under_behind h (job.Made k) x y z w ahead turn = made_behind h x y z w k ahead turn
under_behind h job.Go x y z w ahead turn = turn_behind h x y z w ahead turn
under_behind h (job.Take r) x y z w same turn = subst (λ (s : PlainStore). TurnUnder h (job.Take r) s z w) same turn
under_behind h (job.Reply v) x y z w same turn = subst (λ (s : PlainStore). TurnUnder h (job.Reply v) s z w) same turn
under_behind h job.Failed x y z w same turn = subst (λ (s : PlainStore). TurnUnder h job.Failed s z w) same turn
under_behind h job.Refused x y z w same turn = subst (λ (s : PlainStore). TurnUnder h job.Refused s z w) same turn
under_behind h (job.Granted ks) x y z w same turn = subst (λ (s : PlainStore). TurnUnder h (job.Granted ks) s z w) same turn

first_again : (h : ℕ) (b : Bool) (j : Job) (x y z : PlainStore) (w : Want) → StopsFirst (is_going j) (begun b j x) y → FirstTurn h (tells b j) j y z w →
    FirstTurn h b j x z w
first_again h b j x y z w stops turn =
    under_behind h j (begun b j x) y z w stops (subst (λ (s : PlainStore). TurnUnder h j s z w) (begun_again b j y) turn)

turns_again : (h : ℕ) (b : Bool) (j : Job) (x y : PlainStore) (n : ℕ) (z : PlainStore) (w : Want) → StopsFirst (is_going j) (begun b j x) y →
    Turns h (tells b j) j y n z w → Turns h b j x n z w
turns_again h b j x y _ _ _ stops (first {y = z} {w = w} turn) = first (first_again h b j x y z w stops turn)
turns_again h b j x y _ _ _ stops (more {n = n} {y = u} {z = z} {w = w} turns turn) = more (turns_again h b j x y n u want.Continue stops turns) turn

-- ---- regions

handler_stays : (j : Job) (x y : PlainRegion) → IsRefused j x y → y.handler ≡ x.handler
handler_stays j x y r = ap (λ (q : PlainRegion). q.handler) r.same

told_so : (j : Job) (x y : PlainRegion) → IsRefused j x y → y.is_told ≡ tells x.is_told j
told_so j x y r = ap (λ (q : PlainRegion). q.is_told) r.same

pub refused_jobs_go_on : RefusedJobsGoOn
refused_jobs_go_on limit j x y z o r p = record {
  handler = p.handler ∙ handler_stays j x y r;
  few = p.few;
  some = p.some;
  last = p.last;
  turns = turns_again x.handler x.is_told j x.store y.store o.turns p.last o.want r.store
      (subst (λ (b : Bool). Turns x.handler b j y.store o.turns p.last o.want) (told_so j x y r)
      (subst (λ (h : ℕ). Turns h y.is_told j y.store o.turns p.last o.want) (handler_stays j x y r) p.turns));
  ends = p.ends;
  same = p.same ∙ ap (λ (q : PlainRegion). let t : PlainRegion = record q { store = z.store; is_told = false } in t) r.same;
  program = p.program ∙ r.program;
}

pub refused_twice_is_refused : RefusedTwiceIsRefused
refused_twice_is_refused j x y z r q =
    let begins : begun y.is_told j y.store ≡ y.store = ap (λ (b : Bool). begun b j y.store) (told_so j x y r) ∙ begun_again x.is_told j y.store in
    record {
      store = stops_then (is_going j) (begun x.is_told j x.store) y.store z.store r.store (subst (λ (s : PlainStore). StopsFirst (is_going j) s z.store) begins q.store);
      same = q.same ∙ ap (λ (t : PlainRegion). let u : PlainRegion = record t { store = z.store; is_told = tells t.is_told j } in u) r.same
          ∙ ap (λ (b : Bool). let u : PlainRegion = record x { store = z.store; is_told = b } in u) (tells_again x.is_told j);
      program = q.program ∙ r.program;
    }
