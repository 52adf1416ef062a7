-- Regions, and what `play` does.
use Rattle.std.specs.Prelude.{◌≡◌, ◌⊎◌, ◌<◌, ◌≤◌, ℕ, Bool, true, false}
use Rattle.sc_code.specs.declared.program.Image.{Image}
use Rattle.sc_region.specs.declared.job.Job.{Job}
use Rattle.sc_region.specs.declared.job.Job.TheVariants as job
use Rattle.sc_region.specs.declared.job.Outcome.{Outcome}
use Rattle.sc_region.specs.declared.job.Want.{Want}
use Rattle.sc_region.specs.declared.job.Want.TheVariants as want
use Rattle.sc_region.specs.Stores.{PlainStore, new_store}
use Rattle.sc_play.specs.Turns.{AreMade, IsAhead, StopsFirst, Turns, begun, is_going}

pub record PlainRegion : Type 0 where
  pub handler : ℕ
  pub store : PlainStore
  pub is_told : Bool  -- A job whose turn was refused memory has told the creator of a handler its number.

abbrev pub new_region : Image → ℕ → PlainRegion
new_region p h = record { handler = h; store = new_store p; is_told = false }

abbrev pub outcome : ℕ → ℕ → Want → Outcome
outcome h turns w = record { handler = h; turns = turns; want = w }

-- Where no memory was refused, the store is the one that the last turn left. It may be refused to a turn after so
-- many, where there may be more.
abbrev pub EndsIn : ℕ → ℕ → PlainStore → Want → PlainStore → Type 0
EndsIn n limit x w y = (y ≡ x) ⊎ ((n < limit) × (w ≡ want.Continue) × IsAhead x y)

-- Further turns of the handler lead from the first store to the second, where so many were made, and the last of those
-- asked this. With them they are so many, at most the limit, and the last asks this.
pub record PlaysOn (made limit : ℕ) (h : ℕ) (x : PlainStore) (v : Want) (y : PlainStore) (n : ℕ)
    (w : Want) : Type 0 where
  pub few : n ≤ limit
  pub some : 0 < n
  pub last : PlainStore
  pub turns : (is_told : Bool) (j : Job) (z : PlainStore) → AreMade made h is_told j z x v →
      Turns h is_told j z n last w
  pub ends : EndsIn n limit last w y

-- So many turns under the job, at most the limit, lead from the first store to the second, and the last of them asks
-- this.
pub record PlaysUnder (limit : ℕ) (h : ℕ) (is_told : Bool) (j : Job) (x y : PlainStore) (n : ℕ)
    (w : Want) : Type 0 where
  pub few : n ≤ limit
  pub some : 0 < n
  pub last : PlainStore
  pub turns : Turns h is_told j x n last w
  pub ends : EndsIn n limit last w y

-- So many turns as the outcome says, at most the limit, lead from one region to the other, and the last asks what it
-- says. None of those before it asks anything. Where memory was refused to a turn after them, it asks nothing, and
-- silent operations of that turn may be done.
pub record Plays (limit : ℕ) (j : Job) (x y : PlainRegion) (o : Outcome) : Type 0 where
  pub handler : o.handler ≡ x.handler
  pub few : o.turns ≤ limit
  pub some : 0 < o.turns
  pub last : PlainStore
  pub turns : Turns x.handler x.is_told j x.store o.turns last o.want
  pub ends : EndsIn o.turns limit last o.want y.store
  pub same : y ≡ record x { store = y.store; is_told = false }
  pub program : y.store.program ≡ x.store.program

abbrev pub tells : Bool → Job → Bool
tells is_told (job.Made k) = true
tells is_told (job.Take r) = is_told
tells is_told (job.Reply v) = is_told
tells is_told job.Failed = is_told
tells is_told job.Refused = is_told
tells is_told (job.Granted ks) = is_told
tells is_told job.Go = is_told

-- Memory was refused to the first turn under the job. The creator of a handler has been told its number then; and where
-- the routine goes on, silent operations of it may be done. Nothing else has changed.
pub record IsRefused (j : Job) (x y : PlainRegion) : Type 0 where
  pub store : StopsFirst (is_going j) (begun x.is_told j x.store) y.store
  pub same : y ≡ record x { store = y.store; is_told = tells x.is_told j }
  pub program : y.store.program ≡ x.store.program

-- ---- laws

-- What the job comes to as it is played again it comes to from where it was played first:
abbrev pub RefusedJobsGoOn : Type 0
RefusedJobsGoOn = (limit : ℕ) (j : Job) (x y z : PlainRegion) (o : Outcome) → IsRefused j x y → Plays limit j y z o →
    Plays limit j x z o

-- refused once more, it is as if it was refused once.
abbrev pub RefusedTwiceIsRefused : Type 0
RefusedTwiceIsRefused = (j : Job) (x y z : PlainRegion) → IsRefused j x y → IsRefused j y z → IsRefused j x z
