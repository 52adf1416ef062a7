-- Turns of a handler on its store.
use Rattle.std.specs.Prelude.{◌≡◌, ℕ, zero, suc, ◌+◌, Bool, true, false, Option, Some, None}
use Rattle.sc_model.specs.declared.cause.Cause.TheVariants as cause
use Rattle.sc_region.specs.declared.frame.Stage.{Stage}
use Rattle.sc_region.specs.declared.frame.Stage.TheVariants as stage
use Rattle.sc_region.specs.declared.job.Job.{Job}
use Rattle.sc_region.specs.declared.job.Job.TheVariants as job
use Rattle.sc_region.specs.declared.job.Want.{Want}
use Rattle.sc_region.specs.declared.job.Want.TheVariants as want
use Rattle.sc_region.specs.Stores.{PlainStore, failed}
use Rattle.sc_interp.specs.declared.hops.Hop.{Hop}
use Rattle.sc_interp.specs.declared.hops.Hop.TheVariants as hop
use Rattle.sc_interp.specs.Hopping.{ComesTo, LeadsTo}
use Rattle.sc_interp.specs.Playing.{Remains}
use Rattle.sc_interp.specs.Told.{IsTold}
use Rattle.sc_region.specs.Calls.{on_top}
use Rattle.sc_acts.specs.Turning.{unless_failed}
use Rattle.sc_acts.specs.Acting.{acted, asks_acting}
use Rattle.sc_play.specs.Answering.{granted, replied, runs, told, top_stage}
use Rattle.sc_play.specs.Taking.{asks_taking, taken}

-- The store is this one now, and this is asked, where it hasn't ended in a failure.
pub record Becomes (z : PlainStore) (v : Want) (y : PlainStore) (w : Want) : Type 0 where
  pub store : y ≡ z
  pub want : w ≡ unless_failed y.failure v

-- ---- one turn

-- What an operation that isn't silent makes of the store.
abbrev pub done : ℕ → Hop → PlainStore → PlainStore
done h hop.Passed x = x
done h (hop.Failed why) x = failed why x
done h (hop.Comes act) x = acted h act x

-- what it asks, where the store was the first one before and is the second one after
abbrev pub asks_done : ℕ → Hop → PlainStore → PlainStore → Want
asks_done h hop.Passed x y = want.Continue
asks_done h (hop.Failed why) x y = want.Fail why
asks_done h (hop.Comes act) x y = asks_acting h act x y

-- The topmost routine goes on: its silent operations come to one that isn't silent, and that is done.
pub record GoesOn (h : ℕ) (x y : PlainStore) (w : Want) : Type 0 where
  pub operation : Hop
  pub before : PlainStore
  pub comes : ComesTo operation x before
  pub remains : Remains x before
  pub told : IsTold operation before
  pub does : y ≡ done h operation before
  pub want : w ≡ asks_done h operation before y

-- what a turn makes of the store where the topmost routine, in this stage, doesn't go on
abbrev pub rested : Option Stage → PlainStore → PlainStore
rested None x = x
rested (Some stage.Runs) x = x
rested (Some stage.Reserves) x = x
rested (Some stage.ReservesBlock) x = x
rested (Some (stage.InCall gives)) x = failed cause.BadCode x
rested (Some (stage.Awaits k gives is_creation)) x = x

-- the turn of a handler whose topmost routine is in this stage
abbrev pub TurnIn : Option Stage → ℕ → PlainStore → PlainStore → Want → Type 0
TurnIn None h x y w = Becomes x want.Continue y w
TurnIn (Some stage.Runs) h x y w = GoesOn h x y w
TurnIn (Some stage.Reserves) h x y w = Becomes x want.Continue y w
TurnIn (Some stage.ReservesBlock) h x y w = Becomes x want.Continue y w
TurnIn (Some (stage.InCall gives)) h x y w = Becomes (failed cause.BadCode x) want.Continue y w
TurnIn (Some (stage.Awaits k gives is_creation)) h x y w = Becomes x want.Continue y w

-- A turn of the handler leads from the first store to the second, and asks this.
abbrev pub TurnOf : ℕ → PlainStore → PlainStore → Want → Type 0
TurnOf h x y w = TurnIn (top_stage x) h x y w

-- ---- the first turn under a job

-- The handler that the creator was made is told to it. With lock passing this is the answer, and a turn of its own;
-- else the creator goes on.
abbrev pub TurnMade : Option Stage → ℕ → PlainStore → PlainStore → Want → Type 0
TurnMade None h x y w = Becomes (failed cause.BadCode x) want.Continue y w
TurnMade (Some (stage.Awaits k gives true)) h x y w = Becomes (on_top runs x) want.Continue y w
TurnMade (Some (stage.Awaits k gives false)) h x y w = Becomes x want.Continue y w
TurnMade (Some stage.Runs) h x y w = GoesOn h x y w
TurnMade (Some stage.Reserves) h x y w = Becomes x want.Continue y w
TurnMade (Some stage.ReservesBlock) h x y w = Becomes x want.Continue y w
TurnMade (Some (stage.InCall gives)) h x y w = Becomes (failed cause.BadCode x) want.Continue y w

abbrev pub told_unless : Bool → ℕ → PlainStore → PlainStore
told_unless true k x = x
told_unless false k x = told k x

-- where the job's turn begins: the creator of a handler is told its number, unless it was
abbrev pub begun : Bool → Job → PlainStore → PlainStore
begun is_told (job.Made k) x = told_unless is_told k x
begun is_told (job.Take r) x = x
begun is_told (job.Reply v) x = x
begun is_told job.Failed x = x
begun is_told job.Refused x = x
begun is_told (job.Granted ks) x = x
begun is_told job.Go x = x

-- what the job is, in a store in which it has begun
abbrev pub TurnUnder : ℕ → Job → PlainStore → PlainStore → Want → Type 0
TurnUnder h (job.Take r) x y w = Becomes (taken h r x) (asks_taking h r x (taken h r x)) y w
TurnUnder h (job.Reply v) x y w = Becomes (replied v x) want.Continue y w
TurnUnder h job.Failed x y w = Becomes (failed cause.SupplierFailed x) want.Continue y w
TurnUnder h job.Refused x y w = Becomes (failed cause.Precondition x) want.Continue y w
TurnUnder h (job.Granted ks) x y w = Becomes (granted ks.items x) want.Continue y w
TurnUnder h (job.Made k) x y w = TurnMade (top_stage x) h x y w
TurnUnder h job.Go x y w = TurnOf h x y w

-- The first turn under the job.
abbrev pub FirstTurn : ℕ → Bool → Job → PlainStore → PlainStore → Want → Type 0
FirstTurn h is_told j x y w = TurnUnder h j (begun is_told j x) y w

-- The first turn was made, as this says of the store that it leads to and of what it asks; or nothing was done, and any
-- turn of the handler is that turn.
abbrev pub Begins : Bool → ℕ → (PlainStore → Want → Type 0) → PlainStore → PlainStore → Want → Type 0
Begins true h First x y w = First y w
Begins false h First x y w = (y ≡ x) × (w ≡ want.Continue) × ((z : PlainStore) (v : Want) → TurnOf h x z v → First z v)

-- The same of the first turn under the job, which begins in the first store.
abbrev pub BeginsUnder : Bool → ℕ → Bool → Job → PlainStore → PlainStore → Want → Type 0
BeginsUnder made h is_told j x y w = Begins made h (λ z v. FirstTurn h is_told j x z v) (begun is_told j x) y w

-- ---- turns

-- So many turns under the job lead from the first store to this one, and the last of them asks this. None before it
-- asks anything.
pub data Turns (h : ℕ) (is_told : Bool) (j : Job) (x : PlainStore) : ℕ → PlainStore → Want → Type 0 where
  first : {y : PlainStore} {w : Want} → FirstTurn h is_told j x y w → Turns h is_told j x 1 y w
  more : {n : ℕ} {y z : PlainStore} {w : Want} → Turns h is_told j x n y want.Continue → TurnOf h y z w →
      Turns h is_told j x (n + 1) z w

-- So many turns under the job lead to this store, and the last of them asks this. Where none was made, any turn of the
-- handler is the first.
abbrev pub AreMade : ℕ → ℕ → Bool → Job → PlainStore → PlainStore → Want → Type 0
AreMade zero h is_told j x y w =
    (w ≡ want.Continue) × ((z : PlainStore) (v : Want) → TurnOf h y z v → FirstTurn h is_told j x z v)
AreMade (suc n) h is_told j x y w = Turns h is_told j x (suc n) y w

-- ---- refused memory

-- The topmost routine goes on: silent operations of it were done, or none, and what comes next wasn't.
pub record IsAhead (x y : PlainStore) : Type 0 where
  pub runs : top_stage x ≡ Some stage.Runs
  pub leads : LeadsTo x y
  pub remains : Remains x y

-- Under this job a turn of the handler may be the first one.
abbrev pub is_going : Job → Bool
is_going (job.Take r) = false
is_going (job.Reply v) = false
is_going job.Failed = false
is_going job.Refused = false
is_going (job.Granted ks) = false
is_going (job.Made k) = true
is_going job.Go = true

-- Memory was refused to a first turn in the first store, and left the second one: that itself, or one ahead where it
-- was a turn of the handler.
abbrev pub StopsFirst : Bool → PlainStore → PlainStore → Type 0
StopsFirst false x y = y ≡ x
StopsFirst true x y = IsAhead x y
