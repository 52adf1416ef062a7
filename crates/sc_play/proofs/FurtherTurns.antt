-- Turns in which the topmost routine goes on, and turns that memory was refused to.
use Rattle.std.proofs.Common.{◌≡◌, ℕ, Bool, true, false, Some, Result, Ok, Err, OnOk, OnErr, refl, sym, subst}
use Rattle.sc_region.specs.declared.frame.Stage.TheVariants as stage
use Rattle.sc_region.specs.declared.job.Job.{Job}
use Rattle.sc_region.specs.declared.job.Want.{Want}
use Rattle.sc_region.specs.Stores.{PlainStore}
use Rattle.sc_acts.specs.declared.act.Act.{Act}
use Rattle.sc_acts.specs.Acting.{acted, asks_acting}
use Rattle.sc_interp.specs.declared.hops.Hop.{Hop}
use Rattle.sc_interp.specs.declared.hops.Hop.TheVariants as hop
use Rattle.sc_interp.specs.Coming.{ComesAtOnce}
use Rattle.sc_interp.specs.Hopping.{ComesTo, LeadsTo}
use Rattle.sc_interp.specs.Playing.{Remains}
use Rattle.sc_interp.specs.Told.{IsTold, OnComes}
use Rattle.sc_interp.proofs.TopRoutines.{remains_same}
use Rattle.sc_play.specs.Answering.{top_stage}
use Rattle.sc_play.specs.Turns.{GoesOn, IsAhead, StopsFirst, asks_done, done, is_going}

pub goes_on : {A E : Type 0} (h : ℕ) (r : Result A E) (o : Hop) (x b y : PlainStore) (w : Want) → ComesTo o x b → Remains x b → IsTold o b → OnOk r (y ≡ done h o b) →
    OnOk r (w ≡ asks_done h o b y) → OnOk r (GoesOn h x y w)
goes_on h (Ok v) o x b y w comes remains told does want = record { operation = o; before = b; comes = comes; remains = remains; told = told; does = does; want = want }
goes_on h (Err e) o x b y w comes remains told does want = tt

-- the operation comes at once
pub goes_at_once : (h : ℕ) (o : Act) (x y : PlainStore) (w : Want) → ComesAtOnce o x → y ≡ acted h o x → w ≡ asks_acting h o x y → GoesOn h x y w
goes_at_once h o x y w next does want = record {
  operation = hop.Comes o;
  before = x;
  comes = next.comes;
  remains = remains_same x x refl;
  told = next.told;
  does = does;
  want = want;
}

-- where memory was refused, the operation was a visible one, and silent ones lead to it
pub stops_leads : {A E : Type 0} (r : Result A E) (o : Hop) (x b y : PlainStore) → OnComes o (LeadsTo x b) → OnErr r ((a : Act) × (o ≡ hop.Comes a)) → OnErr r (y ≡ b) → OnErr r (LeadsTo x y)
stops_leads (Ok v) o x b y leads comes same = tt
stops_leads (Err e) o x b y leads comes same =
    subst (LeadsTo x) (sym same) (subst (λ (h : Hop). OnComes h (LeadsTo x b)) comes.1 leads)

pub stops_ahead : {A E : Type 0} (r : Result A E) (x y : PlainStore) → top_stage x ≡ Some stage.Runs → OnErr r (LeadsTo x y) → OnErr r (Remains x y) → OnErr r (IsAhead x y)
stops_ahead (Ok v) x y runs leads remains = tt
stops_ahead (Err e) x y runs leads remains = record { runs = runs; leads = leads; remains = remains }

pub comes_so : {A E : Type 0} (r : Result A E) (o : Hop) (a : Act) → o ≡ hop.Comes a → OnErr r ((b : Act) × (o ≡ hop.Comes b))
comes_so (Ok v) o a e = tt
comes_so (Err d) o a e = (a, e)

-- ---- the first turn under a job

pub stops_first : {A E : Type 0} (r : Result A E) (j : Job) (x y : PlainStore) → OnErr r (y ≡ x) → OnErr r (is_going j ≡ false) → OnErr r (StopsFirst (is_going j) x y)
stops_first (Ok v) j x y same other = tt
stops_first (Err e) j x y same other = subst (λ (b : Bool). StopsFirst b x y) (sym other) same

pub stops_going : {A E : Type 0} (r : Result A E) (j : Job) (x s y : PlainStore) → is_going j ≡ true → s ≡ x → OnErr r (IsAhead s y) → OnErr r (StopsFirst (is_going j) x y)
stops_going (Ok v) j x s y going same ahead = tt
stops_going (Err e) j x s y going same ahead = subst (λ (b : Bool). StopsFirst b x y) (sym going) (subst (λ (z : PlainStore). IsAhead z y) same ahead)
