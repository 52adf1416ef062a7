-- States that are read alike.
use Rattle.std.specs.Prelude.{◌≡◌, ◌≤◌, ℕ, Some}
use Rattle.sc_region.specs.declared.job.Job.{Job}
use Rattle.sc_region.specs.declared.job.Request.{Request}
use Rattle.sc_region.specs.declared.job.Want.{Want}
use Rattle.sc_handler.specs.Handlers.{State}
use Rattle.sc_handler.specs.Canonical.{canon}
use Rattle.sc_request.specs.Logs.{Center, opening, pick_for, picked, put_back, settles, status_in}
use Rattle.sc_counts.specs.Counted.{IsCounted}

-- ---- what a state names

-- A state that a core opens with names only handlers that there are, and counts that were reached.
abbrev pub OpeningsAreCounted : Type 0
OpeningsAreCounted = (root : Request) → IsCounted (opening root)

-- So does the state once a handler is picked with its job,
abbrev pub PicksStayCounted : Type 0
PicksStayCounted = (h : ℕ) (j : Job) (c : Center) → pick_for h c ≡ Some j → IsCounted c.state → IsCounted (picked h j c).state

-- once the pick is undone,
abbrev pub PutBacksStayCounted : Type 0
PutBacksStayCounted = (h : ℕ) (c : Center) → IsCounted c.state → IsCounted (put_back h c).state

-- and once it is settled, whatever its turns want.
abbrev pub SettlementsStayCounted : Type 0
SettlementsStayCounted =
    (most h turns : ℕ) (j : Job) (w : Want) (c : Center) → pick_for h c ≡ Some j → IsCounted c.state →
    IsCounted (settles most h j turns w (picked h j c)).state

-- So does what is read of it.
abbrev pub ReadStatesAreCounted : Type 0
ReadStatesAreCounted = (s : State) → IsCounted s → IsCounted (canon s)

-- It is read as it is.
abbrev pub ReadStatesStay : Type 0
ReadStatesStay = (s : State) → canon (canon s) ≡ canon s

-- There are no more handlers after a settlement than there may be.
abbrev pub SettlementsStayFew : Type 0
SettlementsStayFew =
    (most h turns : ℕ) (j : Job) (w : Want) (c : Center) → c.state.count ≤ most →
    (settles most h j turns w (picked h j c)).state.count ≤ most

-- ---- states that are read alike

-- A handler that is out with the same job, or isn't out, has the same to do in both, and the same status.
pub record IsReadAlike (h : ℕ) (c d : Center) : Type 0 where
  pub pick : pick_for h c ≡ pick_for h d
  pub status : status_in h c ≡ status_in h d

abbrev pub AlikeAreReadAlike : Type 0
AlikeAreReadAlike = (h : ℕ) (c d : Center) → canon c.state ≡ canon d.state → c.out h ≡ d.out h → IsReadAlike h c d

-- Where states are read alike, so are those after a settlement by which the same is wanted in both.
abbrev pub AlikeSettleAlike : Type 0
AlikeSettleAlike =
    (most h turns : ℕ) (j : Job) (w : Want) (c d : Center) → pick_for h c ≡ Some j →
    IsCounted c.state → IsCounted d.state → canon c.state ≡ canon d.state →
    canon (settles most h j turns w (picked h j c)).state ≡ canon (settles most h j turns w (picked h j d)).state
